use Rattle.std.proofs.Common.{◌∙◌, sym, arith}
use Rattle.hash_tree.proofs.EntryLemmas.{at-height, entered-count, entered-does, stands-entered}
use Rattle.hash_tree.proofs.EntryNumbers.{whole}
use Rattle.hash_tree.proofs.SchemeLemmas.{keeps-veil}
use Rattle.hash_tree.proofs.tree.Tree.enter.Goals as goal

pub enter_below-self-inside-requires-clause-leaves : goal.enter_below-self-inside-requires-clause-leaves
enter_below-self-inside-requires-clause-leaves g c =
    let all = whole c.self.inside.layout c.height-levels.result c.height-levels.ensures.value in
    rw (← c.self.view_is) all.leaves

pub enter_below-self-inside-requires-clause-inside : goal.enter_below-self-inside-requires-clause-inside
enter_below-self-inside-requires-clause-inside g c =
    let all = whole c.self.inside.layout c.height-levels.result c.height-levels.ensures.value in
    rw (← c.self.view_is) all.inside

pub enter_below-self-inside-requires-clause-added : goal.enter_below-self-inside-requires-clause-added
enter_below-self-inside-requires-clause-added g c =
    let all = whole c.self.inside.layout c.height-levels.result c.height-levels.ensures.value in
    c.new-program.ensures.added ∙ rw (← c.self.view_is) all.none_before

pub enter_below-self-inside-requires-clause-has_room : goal.enter_below-self-inside-requires-clause-has_room
enter_below-self-inside-requires-clause-has_room g c =
    let all = whole c.self.inside.layout c.height-levels.result c.height-levels.ensures.value in
    let room = rw (← c.self.view_is) at c.requires.has_room in
    rw (← c.self.view_is) (omega (arith, all.moves, room))

pub finish-requires : goal.finish-requires
finish-requires g c =
    let all = whole c.self.inside.layout c.height-levels.result c.height-levels.ensures.value in
    let added = rw (← c.self.view_is) at c.enter_below-self-inside.ensures.added in
    let blocks = rw (← c.self.view_is) at c.enter_below-self-inside.ensures.blocks in
    added ∙ all.all_before ∙ sym blocks

pub returns-clause-stands : goal.returns-clause-stands
returns-clause-stands g c =
    let v = c.self.inside.veil in
    let lawful = keeps-veil c.self.inside.layout (g.V.Veil.veiled v) (g.V.Veil.nodes v) c.self.invariant.0 (g.met.V.Veil.own_inverse v) (g.met.V.Veil.keeps_length v) (g.met.V.Veil.leaves_nodes v) in
    let none = rw (← c.self.view_is) at c.requires.fresh in
    let does = rw (← c.self.view_is) at c.enter_below-self-inside.ensures.does in
    let entered = at-height _ _ _ _ _ _ _ _ c.height-levels.ensures.value does in
    stands-entered _ _ lawful _ none _ _ _ _ c.requires.untouched _ entered

pub returns-clause-does : goal.returns-clause-does
returns-clause-does g c =
    let all = whole c.self.inside.layout c.height-levels.result c.height-levels.ensures.value in
    let v = c.self.inside.veil in
    let lawful = keeps-veil c.self.inside.layout (g.V.Veil.veiled v) (g.V.Veil.nodes v) c.self.invariant.0 (g.met.V.Veil.own_inverse v) (g.met.V.Veil.keeps_length v) (g.met.V.Veil.leaves_nodes v) in
    let none = rw (← c.self.view_is) at c.requires.fresh in
    let does = rw (← c.self.view_is) at c.enter_below-self-inside.ensures.does in
    let entered = at-height _ _ _ _ _ _ _ _ c.height-levels.ensures.value does in
    let added = rw (← c.self.view_is) at c.enter_below-self-inside.ensures.added in
    rw (← c.self.view_is) (entered-does _ _ lawful _ none _ _ _ _ c.requires.untouched _ entered _ _ _ c.new-program.ensures.added (added ∙ all.all_before) c.new-program.ensures.taken c.finish.ensures.digest)

pub returns-clause-count : goal.returns-clause-count
returns-clause-count g c =
    let v = c.self.inside.veil in
    let lawful = keeps-veil c.self.inside.layout (g.V.Veil.veiled v) (g.V.Veil.nodes v) c.self.invariant.0 (g.met.V.Veil.own_inverse v) (g.met.V.Veil.keeps_length v) (g.met.V.Veil.leaves_nodes v) in
    let none = rw (← c.self.view_is) at c.requires.fresh in
    let does = rw (← c.self.view_is) at c.enter_below-self-inside.ensures.does in
    let entered = at-height _ _ _ _ _ _ _ _ c.height-levels.ensures.value does in
    rw (← c.self.view_is) (entered-count _ _ lawful _ none _ _ _ _ c.requires.untouched _ entered)
