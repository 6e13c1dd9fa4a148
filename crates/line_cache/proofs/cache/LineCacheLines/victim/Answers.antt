use Rattle.std.proofs.Common.{◌≡◌, ◌≤◌, true, false, length, refl, sym, ap, ◌∙◌, rules}
use Rattle.line_cache.specs.LineOrder.{is_below_limit, next_victim, last_removable}
use Rattle.line_cache.specs.SlotLists.{lines_at}
use Rattle.line_cache.proofs.CacheLemmas.{last_removable-lines_at, is_below_limit-lines_at, with_room, without_room}
use Rattle.line_cache.proofs.VictimLemmas.{victim_none, victim_some}
use Rattle.line_cache.proofs.cache.LineCacheLines.victim.Goals as goal

pub returns-then-has_room-clause-none : goal.returns-then-has_room-clause-none
returns-then-has_room-clause-none c =
    let lines = lines_at c.self.inside.payloads.items c.self.inside.marks.items c.self.inside.slots.held in
    let room : is_below_limit lines ≡ true = is_below_limit-lines_at c.self.inside.payloads.items c.self.inside.marks.items c.self.inside.slots.held ∙ sym c.has_room.ensures.value ∙ c.if-has_room.true in
    rw (← c.self.view_is) (λ _. grind rules, λ _. refl)

pub returns-then-has_room-clause-last : goal.returns-then-has_room-clause-last
returns-then-has_room-clause-last c =
    let lines = lines_at c.self.inside.payloads.items c.self.inside.marks.items c.self.inside.slots.held in
    let room : is_below_limit lines ≡ true = is_below_limit-lines_at c.self.inside.payloads.items c.self.inside.marks.items c.self.inside.slots.held ∙ sym c.has_room.ensures.value ∙ c.if-has_room.true in
    rw (← c.self.view_is) (sym (with_room c.args.pins.now.blocks.items lines room))

pub returns-clause-last : goal.returns-clause-last
returns-clause-last c =
    let held = c.self.inside.slots.held in
    let lines = lines_at c.self.inside.payloads.items c.self.inside.marks.items held in
    let room : is_below_limit lines ≡ false = is_below_limit-lines_at c.self.inside.payloads.items c.self.inside.marks.items held ∙ sym c.has_room.ensures.value ∙ c.if-has_room.false in
    rw (← c.self.view_is) (c.last_removable.ensures.value ∙ ap (λ pins. last_removable pins held) c.as_slice.ensures.value ∙ last_removable-lines_at c.self.inside.payloads.items c.self.inside.marks.items c.args.pins.now.blocks.items held ∙ sym (without_room c.args.pins.now.blocks.items lines room))

pub returns-clause-none : goal.returns-clause-none
returns-clause-none c =
    let last : c.last_removable.result ≡ next_victim c.args.pins.now.blocks.items (lines_at c.self.inside.payloads.items c.self.inside.marks.items c.self.inside.slots.held) = rw (← c.self.view_is) at (returns-clause-last c) in
    let few : length c.args.pins.now.blocks.items ≤ 18 = rw c.as_slice.ensures.value at c.as_slice.ensures.fits in
    rw (← c.self.view_is) (victim_none c.args.pins.now.blocks.items (lines_at c.self.inside.payloads.items c.self.inside.marks.items c.self.inside.slots.held) c.last_removable.result last c.self.invariant.sound c.requires.parents few)

pub returns-clause-some : goal.returns-clause-some
returns-clause-some c =
    let last : c.last_removable.result ≡ next_victim c.args.pins.now.blocks.items (lines_at c.self.inside.payloads.items c.self.inside.marks.items c.self.inside.slots.held) = rw (← c.self.view_is) at (returns-clause-last c) in
    rw (← c.self.view_is) (victim_some c.args.pins.now.blocks.items (lines_at c.self.inside.payloads.items c.self.inside.marks.items c.self.inside.slots.held) c.last_removable.result last c.self.invariant.sound)
