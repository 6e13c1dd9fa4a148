use Rattle.std.proofs.Common.{◌<◌, ◌^◌, arith}
use Rattle.hash_tree.proofs.CallLemmas.{stamps-below}
use Rattle.hash_tree.proofs.EnterParts.{writes-first}
use Rattle.hash_tree.proofs.SchemeLemmas.{keeps-veil}
use Rattle.hash_tree.proofs.WriteBackLemmas.{fits-written}
use Rattle.hash_tree.proofs.tree.Tree.write.Goals as goal

pub fresh-requires : goal.fresh-requires
fresh-requires g c = stamps-below _ _ _ c.requires.fit c.requires.limit c.requires.has_room

pub returns-clause-does : goal.returns-clause-does
returns-clause-does g c =
    let v = c.self.inside.veil in
    let lawful = keeps-veil c.self.inside.layout (g.V.Veil.veiled v) (g.V.Veil.nodes v) c.self.invariant.0 (g.met.V.Veil.own_inverse v) (g.met.V.Veil.keeps_length v) (g.met.V.Veil.leaves_nodes v) in
    let below = stamps-below _ _ _ c.requires.fit c.requires.limit c.requires.has_room in
    let fits : c.fresh.result < 2 ^ 64 = omega (arith, below, c.fresh.ensures.next) in
    rw (← c.self.view_is) (writes-first _ _ lawful _ _ _ _ _ _ _ c.veil.ensures.value c.told-payload fits c.write_block.ensures.event.trace c.block_digest.ensures.value)

pub returns-clause-fit : goal.returns-clause-fit
returns-clause-fit g c = rw c.fresh.ensures.kept (fits-written _ _ _ _ _ c.requires.fit c.fresh.ensures.next c.write_block.ensures.event.trace)
