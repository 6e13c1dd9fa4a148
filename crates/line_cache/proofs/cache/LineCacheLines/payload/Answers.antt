use Rattle.std.proofs.Common.{◌≡◌, [], slice_index_or, Some, refl, sym, ap, ◌∙◌, arith}
use Rattle.line_cache.specs.LineMaps.{Holds}
use Rattle.line_cache.specs.LineOrder.{line_of, lines_of}
use Rattle.line_cache.specs.SlotLists.{lines_at}
use Rattle.line_cache.proofs.CacheLemmas.{slot_below, get-lines_at, has_slot, get_or-any}
use Rattle.line_cache.proofs.cache.LineCacheLines.payload.Goals as goal

pub unwrap-slot-requires : goal.unwrap-slot-requires
unwrap-slot-requires c =
    let held : Holds (lines_of (lines_at c.self.inside.payloads.items c.self.inside.marks.items c.self.inside.slots.held)) c.args.block = rw (← c.self.view_is) at c.requires.held in
    rw c.find.ensures.value (has_slot c.self.inside.payloads.items c.self.inside.marks.items c.self.inside.slots.held c.args.block c.self.invariant.sound held)

pub index-requires : goal.index-requires
index-requires c =
    let found : line_of c.args.block c.self.inside.slots.held ≡ Some c.unwrap-slot.result = sym c.find.ensures.value ∙ c.unwrap-slot.ensures in
    let below = slot_below c.self.inside.slots c.self.invariant.apart c.args.block c.unwrap-slot.result found in
    let size = c.self.inside.payloads.ok.0 in
    let count = c.self.invariant.payload_count in
    let at = c.from.ensures in
    omega arith

pub returns : goal.returns
returns c =
    let found : line_of c.args.block c.self.inside.slots.held ≡ Some c.unwrap-slot.result = sym c.find.ensures.value ∙ c.unwrap-slot.ensures in
    let there = get-lines_at c.self.inside.payloads.items c.self.inside.marks.items c.self.inside.slots.held c.args.block c.unwrap-slot.result c.self.invariant.sound found in
    let below = slot_below c.self.inside.slots c.self.invariant.apart c.args.block c.unwrap-slot.result found in
    let count = c.self.invariant.payload_count in
    let value : c.index.result.now ≡ slice_index_or c.self.inside.payloads.items c.unwrap-slot.result [] = c.index.ensures ∙ ap (λ at. slice_index_or c.self.inside.payloads.items at c.index.result.now) c.from.ensures ∙ get_or-any c.self.inside.payloads.items c.unwrap-slot.result c.index.result.now [] (omega arith) in
    record { value = rw (← c.self.view_is, there, value) refl }
