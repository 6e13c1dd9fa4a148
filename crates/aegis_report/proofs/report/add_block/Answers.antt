use Rattle.std.proofs.Common.{arith}
use Rattle.regions.specs.Tree.{height_of}
use Rattle.regions.proofs.TreeLaws.{level_start-three}
use Rattle.aegis_report.proofs.report.add_block.Goals as goal

pub leaf-first-requires : goal.leaf-first-requires
leaf-first-requires c = omega (arith, level_start-three (height_of c.args.layout.now))
