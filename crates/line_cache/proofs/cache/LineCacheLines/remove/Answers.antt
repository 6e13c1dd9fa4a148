use Rattle.std.proofs.Common.{◌≡◌, false, is_some, [], ◌∷◌, ◌++◌, slice_index_or, ap, subst, ◌∙◌, arith, rules}
use Rattle.std.specs.FinMap.{remove}
use Rattle.line_cache.specs.LineMaps.{Holds, IsChildless}
use Rattle.line_cache.specs.LineOrder.{OrderedLines, without, lines_of}
use Rattle.line_cache.specs.SlotLists.{lines_at}
use Rattle.line_cache.specs.OrderLaws.{lines_of-without}
use Rattle.line_cache.proofs.SlotLemmas.{AreApart-take}
use Rattle.line_cache.proofs.CacheLemmas.{lines_at-without, slot_below, get-lines_at, held_slot, line_there, get_or-any, taken_cache}
use Rattle.line_cache.proofs.cache.LineCacheLines.remove.Goals as goal

pub take-slot-requires : goal.take-slot-requires
take-slot-requires c =
    let held : Holds (lines_of (lines_at c.self.inside.payloads.items c.self.inside.marks.items c.self.inside.slots.held)) c.args.block = rw (← c.self.view_is) at c.requires.held in
    let there = held_slot c.self.inside.payloads.items c.self.inside.marks.items c.self.inside.slots.held c.args.block c.self.invariant.sound held in
    record { held = grind rules }

pub index-requires : goal.index-requires
index-requires c =
    let below = slot_below c.self.inside.slots c.self.invariant.apart c.args.block c.take-slot.result c.take-slot.ensures.slot in
    let size = c.self.inside.payloads.ok.0 in
    let count = c.self.invariant.payload_count in
    let at = c.from.ensures in
    omega arith

pub index-requires-2 : goal.index-requires-2
index-requires-2 c =
    let below = slot_below c.self.inside.slots c.self.invariant.apart c.args.block c.take-slot.result c.take-slot.ensures.slot in
    let size = c.self.inside.marks.ok.0 in
    let count = c.self.invariant.mark_count in
    let at = c.from-2.ensures in
    omega arith

pub invariant_of-self : goal.invariant_of-self
invariant_of-self c =
    let held = c.self.inside.slots.held in
    let payloads = c.self.inside.payloads.items in
    let marks = c.self.inside.marks.items in
    let lines = lines_at payloads marks held in
    let childless : IsChildless (lines_of lines) c.args.block = rw (← c.self.view_is) at c.requires.childless in
    let there = line_there payloads marks held c.args.block (ap is_some c.take-slot.ensures.slot) in
    let same : c.take-slot.new.self ≡ record { held = without c.args.block held; free = c.self.inside.slots.free ++ c.take-slot.result ∷ [] } = λ i. record { held = c.take-slot.ensures.held i; free = c.take-slot.ensures.free i } in
    record {
      sound = rw (c.take-slot.ensures.held, lines_at-without payloads marks c.args.block held) (taken_cache lines c.args.block c.self.invariant.sound there childless);
      apart = rw same (AreApart-take c.args.block c.take-slot.result held c.self.inside.slots.free c.take-slot.ensures.slot c.self.invariant.apart);
      payload_count = c.self.invariant.payload_count;
      mark_count = c.self.invariant.mark_count;
    }

pub returns-clause-order : goal.returns-clause-order
returns-clause-order c =
    rw (← c.self.view_is, c.take-slot.ensures.held) (lines_at-without c.self.inside.payloads.items c.self.inside.marks.items c.args.block c.self.inside.slots.held)

pub returns-clause-lines : goal.returns-clause-lines
returns-clause-lines c =
    let held = c.self.inside.slots.held in
    let payloads = c.self.inside.payloads.items in
    let marks = c.self.inside.marks.items in
    let lines = lines_at payloads marks held in
    let childless : IsChildless (lines_of lines) c.args.block = rw (← c.self.view_is) at c.requires.childless in
    let there = line_there payloads marks held c.args.block (ap is_some c.take-slot.ensures.slot) in
    let fewer = taken_cache lines c.args.block c.self.invariant.sound there childless in
    let P : OrderedLines → Type 0 = λ now. lines_of (without c.args.block now) ≡ remove (lines_of now) c.args.block in
    ap lines_of (returns-clause-order c) ∙ subst P c.self.view_is (lines_of-without c.args.block lines c.self.invariant.sound fewer)

pub returns-clause-line : goal.returns-clause-line
returns-clause-line c =
    let held = c.self.inside.slots.held in
    let payloads = c.self.inside.payloads.items in
    let marks = c.self.inside.marks.items in
    let there = get-lines_at payloads marks held c.args.block c.take-slot.result c.self.invariant.sound c.take-slot.ensures.slot in
    let below = slot_below c.self.inside.slots c.self.invariant.apart c.args.block c.take-slot.result c.take-slot.ensures.slot in
    let count = c.self.invariant.payload_count in
    let mark_count = c.self.invariant.mark_count in
    let payload : c.index.result.now ≡ slice_index_or payloads c.take-slot.result [] = c.index.ensures ∙ ap (λ at. slice_index_or payloads at c.index.result.now) c.from.ensures ∙ get_or-any payloads c.take-slot.result c.index.result.now [] (omega arith) in
    let mark : c.index-2.result.now ≡ slice_index_or marks c.take-slot.result false = c.index-2.ensures ∙ ap (λ at. slice_index_or marks at c.index-2.result.now) c.from-2.ensures ∙ get_or-any marks c.take-slot.result c.index-2.result.now false (omega arith) in
    rw (← c.self.view_is, payload, mark) there
