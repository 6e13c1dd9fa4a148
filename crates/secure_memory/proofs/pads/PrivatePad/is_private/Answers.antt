use Rattle.std.proofs.Common.{arith}
use Rattle.regions.specs.Tree.{height_of}
use Rattle.regions.proofs.TreeLaws.{level_start-three}
use Rattle.secure_memory.proofs.pads.PrivatePad.is_private.Goals as goal

pub leaf-nodes-requires : goal.leaf-nodes-requires
leaf-nodes-requires c = omega (arith, level_start-three (height_of c.self.inside.layout))
