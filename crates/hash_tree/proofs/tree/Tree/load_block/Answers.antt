use Rattle.std.proofs.Common.{refl}
use Rattle.hash_tree.proofs.LoadLemmas.{moved-touched, moved-read, reads-none, reads-one, stops-read}
use Rattle.hash_tree.proofs.SchemeLemmas.{keeps-veil}
use Rattle.hash_tree.proofs.WriteBackLemmas.{fits-other}
use Rattle.hash_tree.proofs.tree.Tree.load_block.Goals as goal

pub returns-then-holds-clause-ok : goal.returns-then-holds-clause-ok
returns-then-holds-clause-ok g c =
    let stands = rw (← c.self.view_is) at c.requires.stands in
    rw (← c.self.view_is) (moved-touched _ _ _ _ _ _ c.args.block stands c.touch.ensures.lines c.if-holds.ensures.value)

pub returns-then-not-read-clause-changed : goal.returns-then-not-read-clause-changed
returns-then-not-read-clause-changed g c =
    let reads = rw (c.make_room.ensures.tree.layout, c.make_room.ensures.tree.veil) at c.if-not-read.ensures.does in
    stops-read _ _ _ _ _ _ _ _ _ _ c.args.block _ c.make_room.ensures.does reads c.requires.inside c.events-event.ensures.value

pub returns-then-not-read-clause-fit : goal.returns-then-not-read-clause-fit
returns-then-not-read-clause-fit g c = fits-other _ _ _ _ c.make_room.ensures.fit refl c.read.ensures.does.event

pub returns-clause-ok : goal.returns-clause-ok
returns-clause-ok g c =
    let v = c.self.inside.veil in
    let lawful = keeps-veil c.self.inside.layout (g.V.Veil.veiled v) (g.V.Veil.nodes v) c.self.invariant.0 (g.met.V.Veil.own_inverse v) (g.met.V.Veil.keeps_length v) (g.met.V.Veil.leaves_nodes v) in
    let reads = rw (c.make_room.ensures.tree.layout, c.make_room.ensures.tree.veil) at c.if-not-read.ensures.does in
    let here = rw (← c.self.view_is) at reads in
    let moved = rw (← c.self.view_is) at c.make_room.ensures.does in
    let inside = rw (← c.self.view_is) at c.requires.inside in
    rw (← c.self.view_is) (moved-read _ _ lawful _ _ _ _ _ _ _ _ _ _ c.args.block moved here c.requires.pinned inside c.if-holds.ensures.value)

pub returns-clause-fit : goal.returns-clause-fit
returns-clause-fit g c = fits-other _ _ _ _ c.make_room.ensures.fit refl c.read.ensures.does.event

pub returns-then-holds-clause-reads : goal.returns-then-holds-clause-reads
returns-then-holds-clause-reads g c = reads-none _ _

pub returns-then-not-read-clause-reads : goal.returns-then-not-read-clause-reads
returns-then-not-read-clause-reads g c =
    let moved = rw (← c.self.view_is) at c.make_room.ensures.does in
    rw (← c.self.view_is) (reads-one _ _ _ _ _ _ _ _ _ c.args.block _ moved c.if-not-read.ensures.does.event c.if-holds.ensures.value)

pub returns-clause-reads : goal.returns-clause-reads
returns-clause-reads g c =
    let moved = rw (← c.self.view_is) at c.make_room.ensures.does in
    rw (← c.self.view_is) (reads-one _ _ _ _ _ _ _ _ _ c.args.block _ moved c.if-not-read.ensures.does.event c.if-holds.ensures.value)
