use Rattle.std.proofs.Common.{◌≡◌, true, is_some, [], slice_index_or, Some, refl, sym, ap, ◌∙◌, length-set, arith}
use Rattle.line_cache.specs.LineMaps.{Holds}
use Rattle.line_cache.specs.LineOrder.{line_of, promoted, lines_of}
use Rattle.line_cache.specs.SlotLists.{lines_at}
use Rattle.line_cache.specs.EntryLaws.{line_of-promoted}
use Rattle.line_cache.specs.OrderLaws.{is_cache-put_first}
use Rattle.line_cache.proofs.SlotLemmas.{AreApart-promoted}
use Rattle.line_cache.proofs.CacheLemmas.{slot_below, get-lines_at, has_slot, line_there, get_or-any, lent_view}
use Rattle.line_cache.proofs.cache.LineCacheLines.line_mut.Goals as goal

pub unwrap-slot-requires : goal.unwrap-slot-requires
unwrap-slot-requires c =
    let held : Holds (lines_of (lines_at c.self.inside.payloads.items c.self.inside.marks.items c.self.inside.slots.held)) c.args.block = rw (← c.self.view_is) at c.requires.held in
    rw (c.find.ensures.value, c.promote.ensures.held, line_of-promoted c.args.block c.args.block c.self.inside.slots.held) (has_slot c.self.inside.payloads.items c.self.inside.marks.items c.self.inside.slots.held c.args.block c.self.invariant.sound held)

pub index_mut-requires : goal.index_mut-requires
index_mut-requires c =
    let found : line_of c.args.block c.self.inside.slots.held ≡ Some c.unwrap-slot.result = sym (line_of-promoted c.args.block c.args.block c.self.inside.slots.held) ∙ ap (line_of c.args.block) (sym c.promote.ensures.held) ∙ sym c.find.ensures.value ∙ c.unwrap-slot.ensures in
    let below = slot_below c.self.inside.slots c.self.invariant.apart c.args.block c.unwrap-slot.result found in
    let size = c.self.inside.marks.ok.0 in
    let count = c.self.invariant.mark_count in
    let at = c.from.ensures in
    omega arith

pub index_mut-requires-2 : goal.index_mut-requires-2
index_mut-requires-2 c =
    let found : line_of c.args.block c.self.inside.slots.held ≡ Some c.unwrap-slot.result = sym (line_of-promoted c.args.block c.args.block c.self.inside.slots.held) ∙ ap (line_of c.args.block) (sym c.promote.ensures.held) ∙ sym c.find.ensures.value ∙ c.unwrap-slot.ensures in
    let below = slot_below c.self.inside.slots c.self.invariant.apart c.args.block c.unwrap-slot.result found in
    let size = c.self.inside.payloads.ok.0 in
    let count = c.self.invariant.payload_count in
    let at = c.from-2.ensures in
    omega arith

pub invariant_of-self-lent : goal.invariant_of-self-lent
invariant_of-self-lent c w =
    let held = c.self.inside.slots.held in
    let payloads = c.self.inside.payloads.items in
    let marks = c.self.inside.marks.items in
    let lines = lines_at payloads marks held in
    let found : line_of c.args.block held ≡ Some c.unwrap-slot.result = sym (line_of-promoted c.args.block c.args.block held) ∙ ap (line_of c.args.block) (sym c.promote.ensures.held) ∙ sym c.find.ensures.value ∙ c.unwrap-slot.ensures in
    let below = slot_below c.self.inside.slots c.self.invariant.apart c.args.block c.unwrap-slot.result found in
    let count = c.self.invariant.payload_count in
    let mark_count = c.self.invariant.mark_count in
    let there : is_some (line_of c.args.block lines) ≡ true = line_there payloads marks held c.args.block (ap is_some found) in
    let same : c.promote.new.self ≡ record { held = promoted c.args.block held; free = c.self.inside.slots.free } = λ i. record { held = c.promote.ensures.held i; free = c.promote.ensures.free i } in
    record {
      sound = rw (lent_view payloads marks c.args.block c.unwrap-slot.result c.from-2.result c.from.result w held c.promote.new.self.held c.self.inside.slots.free c.self.invariant.apart found c.promote.ensures.held c.from-2.ensures c.from.ensures (omega arith) (omega arith)) (is_cache-put_first c.args.block (record { payload = w; dirty = true }) lines c.self.invariant.sound there);
      apart = rw same (AreApart-promoted c.args.block held c.self.inside.slots.free c.self.invariant.apart);
      payload_count = length-set payloads c.from-2.result w ∙ count;
      mark_count = length-set marks c.from.result true ∙ mark_count;
    }

pub returns : goal.returns
returns c =
    let held = c.self.inside.slots.held in
    let payloads = c.self.inside.payloads.items in
    let marks = c.self.inside.marks.items in
    let found : line_of c.args.block held ≡ Some c.unwrap-slot.result = sym (line_of-promoted c.args.block c.args.block held) ∙ ap (line_of c.args.block) (sym c.promote.ensures.held) ∙ sym c.find.ensures.value ∙ c.unwrap-slot.ensures in
    let below = slot_below c.self.inside.slots c.self.invariant.apart c.args.block c.unwrap-slot.result found in
    let count = c.self.invariant.payload_count in
    let mark_count = c.self.invariant.mark_count in
    let there = get-lines_at payloads marks held c.args.block c.unwrap-slot.result c.self.invariant.sound found in
    let value : c.index_mut-2.result.now ≡ slice_index_or payloads c.unwrap-slot.result [] = c.index_mut-2.ensures.value ∙ ap (λ at. slice_index_or payloads at c.index_mut-2.result.now) c.from-2.ensures ∙ get_or-any payloads c.unwrap-slot.result c.index_mut-2.result.now [] (omega arith) in (
      (refl, λ w. rw (← c.self.view_is) (lent_view payloads marks c.args.block c.unwrap-slot.result c.from-2.result c.from.result w held c.promote.new.self.held c.self.inside.slots.free c.self.invariant.apart found c.promote.ensures.held c.from-2.ensures c.from.ensures (omega arith) (omega arith))),
      record { writes_back = tt; value = rw (← c.self.view_is, there, value) refl },
    )
