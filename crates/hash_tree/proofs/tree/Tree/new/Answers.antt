use Rattle.hash_tree.proofs.EnterParts.{positions-some}
use Rattle.hash_tree.proofs.tree.Tree.new.Goals as goal

pub leaf-leaves_from-requires : goal.leaf-leaves_from-requires
leaf-leaves_from-requires g c = positions-some c.args.layout
