use Rattle.std.proofs.Common.{refl}
use Rattle.hash_tree.proofs.EnterParts.{leaf-other, leaf-static}
use Rattle.hash_tree.proofs.SchemeLemmas.{keeps-veil}
use Rattle.hash_tree.proofs.WriteBackLemmas.{fits-other}
use Rattle.hash_tree.proofs.tree.Tree.enter_leaf.Goals as goal

pub returns-then-not-is_static-clause-does : goal.returns-then-not-is_static-clause-does
returns-then-not-is_static-clause-does g c =
    let v = c.self.inside.veil in
    let lawful = keeps-veil c.self.inside.layout (g.V.Veil.veiled v) (g.V.Veil.nodes v) c.self.invariant.0 (g.met.V.Veil.own_inverse v) (g.met.V.Veil.keeps_length v) (g.met.V.Veil.leaves_nodes v) in
    let leaf = rw (← c.self.view_is) at c.requires.leaf in
    let back = rw (← c.self.view_is) at c.write.ensures.does in
    rw (← c.self.view_is) (leaf-other _ _ lawful _ _ _ _ _ leaf c.if-not-is_static.ensures.value back)

pub write-requires-2-clause-fit : goal.write-requires-2-clause-fit
write-requires-2-clause-fit g c = fits-other _ _ _ _ c.requires.fit refl c.read_block.ensures.event.trace

pub returns-clause-does : goal.returns-clause-does
returns-clause-does g c =
    let v = c.self.inside.veil in
    let lawful = keeps-veil c.self.inside.layout (g.V.Veil.veiled v) (g.V.Veil.nodes v) c.self.invariant.0 (g.met.V.Veil.own_inverse v) (g.met.V.Veil.keeps_length v) (g.met.V.Veil.leaves_nodes v) in
    let leaf = rw (← c.self.view_is) at c.requires.leaf in
    let before = rw (← c.self.view_is) at c.requires.added in
    let back = rw (← c.self.view_is) at c.write-2.ensures.does in
    rw (← c.self.view_is) (leaf-static _ _ lawful _ _ _ _ _ _ _ _ leaf c.if-not-is_static.ensures.value c.read_block.ensures.event.trace back before c.add.ensures.added c.add.ensures.taken)
