use Rattle.std.proofs.Common.{◌≡◌, false, is_some, Some, sym, ap, subst, ◌∙◌, length-set, arith}
use Rattle.line_cache.specs.LineMaps.{Holds, with_clean}
use Rattle.line_cache.specs.LineOrder.{OrderedLines, line_of, cleaned, is_below_limit, lines_of}
use Rattle.line_cache.specs.SlotLists.{lines_at}
use Rattle.line_cache.specs.OrderLaws.{is_cache-cleaned, lines_of-cleaned}
use Rattle.line_cache.proofs.CacheLemmas.{slot_below, has_slot, line_there, clean_view, same_room}
use Rattle.line_cache.proofs.cache.LineCacheLines.clean.Goals as goal

pub unwrap-slot-requires : goal.unwrap-slot-requires
unwrap-slot-requires c =
    let held : Holds (lines_of (lines_at c.self.inside.payloads.items c.self.inside.marks.items c.self.inside.slots.held)) c.args.block = rw (← c.self.view_is) at c.requires.held in
    rw c.find.ensures.value (has_slot c.self.inside.payloads.items c.self.inside.marks.items c.self.inside.slots.held c.args.block c.self.invariant.sound held)

pub index_mut-requires : goal.index_mut-requires
index_mut-requires c =
    let found : line_of c.args.block c.self.inside.slots.held ≡ Some c.unwrap-slot.result = sym c.find.ensures.value ∙ c.unwrap-slot.ensures in
    let below = slot_below c.self.inside.slots c.self.invariant.apart c.args.block c.unwrap-slot.result found in
    let size = c.self.inside.marks.ok.0 in
    let count = c.self.invariant.mark_count in
    let at = c.from.ensures in
    omega arith

pub invariant_of-self : goal.invariant_of-self
invariant_of-self c =
    let held = c.self.inside.slots.held in
    let payloads = c.self.inside.payloads.items in
    let marks = c.self.inside.marks.items in
    let found : line_of c.args.block held ≡ Some c.unwrap-slot.result = sym c.find.ensures.value ∙ c.unwrap-slot.ensures in
    let below = slot_below c.self.inside.slots c.self.invariant.apart c.args.block c.unwrap-slot.result found in
    let count = c.self.invariant.mark_count in
    let there = line_there payloads marks held c.args.block (ap is_some found) in
    record {
      sound = rw (clean_view payloads marks c.args.block c.unwrap-slot.result c.from.result c.self.inside.slots c.self.invariant.apart found c.from.ensures (omega arith)) (is_cache-cleaned c.args.block (lines_at payloads marks held) c.self.invariant.sound there);
      apart = c.self.invariant.apart;
      payload_count = c.self.invariant.payload_count;
      mark_count = length-set marks c.from.result false ∙ count;
    }

pub returns-clause-order : goal.returns-clause-order
returns-clause-order c =
    let held = c.self.inside.slots.held in
    let payloads = c.self.inside.payloads.items in
    let marks = c.self.inside.marks.items in
    let found : line_of c.args.block held ≡ Some c.unwrap-slot.result = sym c.find.ensures.value ∙ c.unwrap-slot.ensures in
    let below = slot_below c.self.inside.slots c.self.invariant.apart c.args.block c.unwrap-slot.result found in
    let count = c.self.invariant.mark_count in
    rw (← c.self.view_is) (clean_view payloads marks c.args.block c.unwrap-slot.result c.from.result c.self.inside.slots c.self.invariant.apart found c.from.ensures (omega arith))

pub returns-clause-lines : goal.returns-clause-lines
returns-clause-lines c =
    let lines = lines_at c.self.inside.payloads.items c.self.inside.marks.items c.self.inside.slots.held in
    let found : line_of c.args.block c.self.inside.slots.held ≡ Some c.unwrap-slot.result = sym c.find.ensures.value ∙ c.unwrap-slot.ensures in
    let there = line_there c.self.inside.payloads.items c.self.inside.marks.items c.self.inside.slots.held c.args.block (ap is_some found) in
    let P : OrderedLines → Type 0 = λ now. lines_of (cleaned c.args.block now) ≡ with_clean (lines_of now) c.args.block in
    ap lines_of (returns-clause-order c) ∙ subst P c.self.view_is (lines_of-cleaned c.args.block lines c.self.invariant.sound there)

pub returns-clause-room : goal.returns-clause-room
returns-clause-room c other =
    let lines = lines_at c.self.inside.payloads.items c.self.inside.marks.items c.self.inside.slots.held in
    let found : line_of c.args.block c.self.inside.slots.held ≡ Some c.unwrap-slot.result = sym c.find.ensures.value ∙ c.unwrap-slot.ensures in
    let there = line_there c.self.inside.payloads.items c.self.inside.marks.items c.self.inside.slots.held c.args.block (ap is_some found) in
    let P : OrderedLines → Type 0 = λ now. is_below_limit (cleaned c.args.block now) ≡ is_below_limit now in
    let kept : P lines = same_room c.args.block lines there in
    ap is_below_limit (returns-clause-order c) ∙ subst P c.self.view_is kept
