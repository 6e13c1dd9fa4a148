use Rattle.std.proofs.Common.{arith}
use Rattle.hash_tree.proofs.SchemeLemmas.{blocks-few, leaf-inside}
use Rattle.hash_tree.proofs.tree.Tree.leaf_at.Goals as goal

pub overflow_add-result : goal.overflow_add-result
overflow_add-result g c =
    let position = rw (← c.self.view_is) at c.requires in
    let below = leaf-inside c.self.inside.layout c.args.position position in
    omega (arith, c.self.invariant.1, below, blocks-few c.self.inside.layout)
