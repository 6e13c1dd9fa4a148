use Rattle.hash_tree.proofs.EnterParts.{positions-some}
use Rattle.hash_tree.proofs.tree.is_static.Goals as goal

pub leaf-requires : goal.leaf-requires
leaf-requires c = positions-some c.args.layout.now
