use Rattle.std.proofs.Common.{◌≡◌, [], refl, sym, ◌∙◌}
use Rattle.aegis_num.specs.declared.limits.TheConstants.{TREE_LINES}
use Rattle.line_cache.specs.SlotLists.{AreApart}
use Rattle.std.proofs.lemmas.List.Sorted.{IsPermutation-refl}
use Rattle.line_cache.specs.SlotLists.{slots_below}
use Rattle.line_cache.proofs.cache.LineCache.new.Goals as goal

all_free : AreApart (record { held = []; free = slots_below TREE_LINES })
all_free = record { blocks = refl; slots = IsPermutation-refl _ }

pub invariant_of-result : goal.invariant_of-result
invariant_of-result c =
    let payload_size = c.in_ok-payloads.payloads.ok.0 in
    let mark_size = c.in_ok-marks.marks.ok.0 in
    let payload_len = c.in_ok-payloads.ensures.len in
    let mark_len = c.in_ok-marks.ensures.len in
    let same : c.in_ok-slots.slots ≡ record { held = []; free = slots_below TREE_LINES } = λ i. record { held = c.in_ok-slots.ensures.held i; free = c.in_ok-slots.ensures.free i } in
    record {
      sound = rw c.in_ok-slots.ensures.held refl;
      apart = rw same all_free;
      payload_count = sym payload_size ∙ payload_len;
      mark_count = sym mark_size ∙ mark_len;
    }

pub returns : goal.returns
returns c = record { empty = rw c.in_ok-slots.ensures.held refl }
