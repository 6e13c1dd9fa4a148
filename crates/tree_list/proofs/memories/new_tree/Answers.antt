use Rattle.hash_tree.proofs.EnterParts.{positions-some}
use Rattle.tree_list.proofs.memories.new_tree.Goals as goal

pub leaf-requires : goal.leaf-requires
leaf-requires c = positions-some c.args.layout
