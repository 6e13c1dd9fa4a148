use Rattle.std.proofs.Common.{◌≡◌, ℕ, ◌<◌, slice_get, Option, None, Some, refl, ap, ◌∙◌, arith, lit<}
use Rattle.line_cache.specs.SlotLists.{slots_below}
use Rattle.line_cache.proofs.SlotLemmas.{length-slots_below}
use Rattle.std.proofs.Common.{replicate}
use Rattle.std.proofs.lemmas.Option.{slice_get-get_or}
use Rattle.std.proofs.lemmas.List.{get_or-replicate, length-replicate}
use Rattle.aegis_num.specs.declared.limits.TheConstants.{TREE_LINES}
use Rattle.std.proofs.lemmas.List.Sorted.{IsPermutation-refl}
use Rattle.line_cache.proofs.slots.Slots.new.Goals as goal

pub push-requires : goal.push-requires
push-requires c = let count = length-slots_below c.loop-slot.slot in rw c.loop-slot.invariant (lit< tt, omega arith)

abbrev no_slot : Option ℕ
no_slot = None

get_replicate : (n block : ℕ) → block < n → slice_get (replicate n no_slot) block ≡ Some None
get_replicate n block below = slice_get-get_or (replicate n no_slot) block None (let same = length-replicate n no_slot in omega arith) ∙ ap Some (get_or-replicate n block no_slot None below)

pub invariant_of-result : goal.invariant_of-result
invariant_of-result c =
    let none : c.in_ok-table.table.items ≡ replicate 9841 no_slot = c.in_ok-table.ensures in
    let end : c.loop-slot.slot ≡ TREE_LINES = omega arith in
    let free : c.loop-slot.free.items ≡ slots_below TREE_LINES = rw end at c.loop-slot.invariant in
    record {
      apart = record { blocks = rw c.new.ensures refl; slots = rw (c.new.ensures, free) (IsPermutation-refl _) };
      table = λ block below. rw (c.new.ensures, none) (get_replicate 9841 block below);
      table_length = rw none (length-replicate 9841 no_slot);
      bounded = λ block there. let there' = rw c.new.ensures at there in absurd (cc);
    }

pub returns-clause-free : goal.returns-clause-free
returns-clause-free c = let end : c.loop-slot.slot ≡ TREE_LINES = omega arith in rw end at c.loop-slot.invariant
