use Rattle.std.proofs.Common.{◌<◌, ◌^◌, refl, ap, arith}
use Rattle.hash_tree.specs.TreeParts.{TreeParts}
use Rattle.hash_tree.proofs.CallLemmas.{held-inside, total-kept, stamps-below}
use Rattle.hash_tree.proofs.SchemeLemmas.{keeps-veil}
use Rattle.hash_tree.proofs.WriteBackLemmas.{fits-other}
use Rattle.hash_tree.proofs.EvictLemmas.{evicted-written, evicted-dropped, back-fits, count-removed}
use Rattle.hash_tree.proofs.LeavingLemmas.{leaves-written, leaves-dropped}
use Rattle.hash_tree.proofs.tree.Tree.evict.Goals as goal

pub note-requires-clause-inside : goal.note-requires-clause-inside
note-requires-clause-inside g c = held-inside _ _ _ _ _ _ _ c.requires.told c.requires.stands c.requires.held

pub returns-then-dirty-clause-does : goal.returns-then-dirty-clause-does
returns-then-dirty-clause-does g c =
    let v = c.self.inside.veil in
    let lawful = keeps-veil c.self.inside.layout (g.V.Veil.veiled v) (g.V.Veil.nodes v) c.self.invariant.0 (g.met.V.Veil.own_inverse v) (g.met.V.Veil.keeps_length v) (g.met.V.Veil.leaves_nodes v) in
    let stands = rw (← c.self.view_is) at c.requires.stands in
    let back = rw (← c.self.view_is) at c.write_back.ensures.step in
    let below = stamps-below _ _ _ c.requires.fit c.requires.limit c.requires.has_room in
    let fits : c.write_back.new.stamps < 2 ^ 64 = omega (arith, below, c.write_back.ensures.stamp) in
    let was = c.if-dirty.ensures.value in
    let same = c.remove.ensures.lines in
    let lines = ap (λ (p : TreeParts g.row.L.Denot g.row.V.Denot). g.L.Lines.lines p.lines) c.self-then-dirty.view_is in
    let root = ap (λ (p : TreeParts g.row.L.Denot g.row.V.Denot). p.root) c.self-then-dirty.view_is in
    let back_here = rw (← c.self-then-dirty.view_is) at back in
    rw (← c.self.view_is) (evicted-written _ lawful _ _ _ _ _ _ _ _ _ _ fits was stands back_here same refl)

pub returns-then-dirty-clause-fit : goal.returns-then-dirty-clause-fit
returns-then-dirty-clause-fit g c = back-fits _ _ _ _ _ _ c.write_back.ensures.step c.requires.fit c.write_back.ensures.stamp

pub returns-then-dirty-clause-count : goal.returns-then-dirty-clause-count
returns-then-dirty-clause-count g c =
    let held = rw (← c.self-then-dirty.view_is) at c.write_back.ensures.held in
    let count = rw (← c.self-then-dirty.view_is) at c.write_back.ensures.count in
    count-removed _ _ _ c.args.block c.remove.ensures.lines held count

pub returns-else-dirty-clause-does : goal.returns-else-dirty-clause-does
returns-else-dirty-clause-does g c =
    let v = c.self.inside.veil in
    let lawful = keeps-veil c.self.inside.layout (g.V.Veil.veiled v) (g.V.Veil.nodes v) c.self.invariant.0 (g.met.V.Veil.own_inverse v) (g.met.V.Veil.keeps_length v) (g.met.V.Veil.leaves_nodes v) in
    let stands = rw (← c.self.view_is) at c.requires.stands in
    rw (← c.self.view_is) (evicted-dropped _ lawful _ _ _ _ _ _ _ stands c.if-dirty.ensures.value c.note.ensures.event.trace c.remove-else-dirty.ensures.lines refl)

pub returns-else-dirty-clause-fit : goal.returns-else-dirty-clause-fit
returns-else-dirty-clause-fit g c = fits-other _ _ _ _ c.requires.fit refl c.note.ensures.event.trace

pub returns-else-dirty-clause-count : goal.returns-else-dirty-clause-count
returns-else-dirty-clause-count g c =
    let held = rw (← c.self.view_is) at c.requires.held in
    rw (← c.self.view_is) (count-removed _ _ _ c.args.block c.remove-else-dirty.ensures.lines held refl)

pub returns-then-dirty-clause-total : goal.returns-then-dirty-clause-total
returns-then-dirty-clause-total g c = total-kept _ _ _ _ _ c.write_back.ensures.step.step.event c.write_back.ensures.room

pub returns-else-dirty-clause-total : goal.returns-else-dirty-clause-total
returns-else-dirty-clause-total g c = total-kept _ _ _ _ _ c.note.ensures.event.trace c.note.ensures.event.room

pub returns-then-dirty-clause-leaves : goal.returns-then-dirty-clause-leaves
returns-then-dirty-clause-leaves g c = rw (← c.self.view_is) (leaves-written _ _ c.args.block _ _ c.if-dirty.ensures.value c.write_back.ensures.step.step.event)

pub returns-else-dirty-clause-leaves : goal.returns-else-dirty-clause-leaves
returns-else-dirty-clause-leaves g c = rw (← c.self.view_is) (leaves-dropped _ c.args.block _ _ c.if-dirty.ensures.value c.note.ensures.event.trace)
