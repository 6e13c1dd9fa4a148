-- What stays true of the slots: each is one block's or free, and the table has them.
use Rattle.std.proofs.Common.{◌≡◌, ◌≢◌, ℕ, zero, suc, ◌+◌, ◌*◌, ◌<◌, ◌≤◌, Bool, true, false, ◌||◌, is_some, nat_eq, nat_lt, List, [], ◌∷◌, ◌++◌, length, slice_get, slice_set, take, drop, Option, None, Some, refl, sym, ap, subst, ◌∙◌, append_assoc, length-append, length-set, arith}
use Rattle.std.proofs.lemmas.Bool.Decides.{nat_tests}
use Rattle.std.proofs.lemmas.Option.{slice_get-get_or}
use Rattle.std.proofs.lemmas.List.{get_or-set_same, get_or-set_other, take_all, drop_all, append-nil}
use Rattle.std.specs.Option.{option_map_or}
use Rattle.std.specs.List.{list_any}
use Rattle.std.specs.List.Sorted.{IsPermutation}
use Rattle.std.specs.Map.{values_of}
use Rattle.std.proofs.lemmas.List.Sorted.{IsPermutation-refl, IsPermutation-sym, IsPermutation-trans, IsPermutation-append_left, IsPermutation-to_front, length_permutation}
use Rattle.std.proofs.lemmas.Map.Entries.{length-values_of}
use Rattle.aegis_num.specs.declared.limits.TheConstants.{TREE_LINES}
use Rattle.line_cache.specs.LineOrder.{blocks_of, line_of, without, put_first, promoted, is_in, is_child_of}
use Rattle.line_cache.specs.SlotLists.{SlotLists, slots_below, AreApart}
use Rattle.line_cache.specs.EntryLaws.{split_at, is_distinct-promoted, is_distinct-without, is_in-line_of, is_in-promoted, is_in-without, line_of-missing, line_of-promoted}

pub length-slots_below : (n : ℕ) → length (slots_below n) ≡ n
length-slots_below zero = refl
length-slots_below (suc n) = length-append (slots_below n) (n ∷ []) ∙ (let rest = length-slots_below n in omega arith)

-- as many blocks and free slots as there are slots
pub slot_count : (lists : SlotLists) → AreApart lists → length lists.held + length lists.free ≡ TREE_LINES
slot_count lists apart =
    let same = length_permutation _ _ apart.slots in
    let all = length-slots_below TREE_LINES in
    let split = length-append (values_of lists.held) lists.free in
    let kept = length-values_of lists.held in
    omega arith

values_case : (block : ℕ) (held : List (ℕ × ℕ)) (found : Option ℕ) → line_of block held ≡ found → IsPermutation (values_of held) (values_of (option_map_or (λ slot. put_first block slot held) found held))
values_case block held None e = IsPermutation-refl _
values_case block held (Some slot) e = split_at block held slot e

pub AreApart-promoted : (block : ℕ) (held : List (ℕ × ℕ)) (free : List ℕ) → AreApart (record { held = held; free = free }) → AreApart (record { held = promoted block held; free = free })
AreApart-promoted block held free apart = record {
  blocks = is_distinct-promoted block held apart.blocks;
  slots = IsPermutation-trans _ _ _ apart.slots (IsPermutation-append_left free _ _ (values_case block held (line_of block held) refl));
}

pub AreApart-add : (block slot : ℕ) (held : List (ℕ × ℕ)) (free : List ℕ) → line_of block held ≡ None → AreApart (record { held = held; free = free ++ slot ∷ [] }) → AreApart (record { held = (block, slot) ∷ held; free = free })
AreApart-add block slot held free absent apart = record {
  blocks = let missing : is_in (blocks_of held) block ≡ false = is_in-line_of block held ∙ ap is_some absent in let before = apart.blocks in rw (missing, before) refl;
  slots = IsPermutation-trans _ _ _ apart.slots (let P : List ℕ → Type 0 = λ xs. IsPermutation xs (slot ∷ (values_of held ++ free)) in subst P (append_assoc (values_of held) free (slot ∷ [])) (IsPermutation-to_front (values_of held ++ free) slot));
}

pub AreApart-take : (block slot : ℕ) (held : List (ℕ × ℕ)) (free : List ℕ) → line_of block held ≡ Some slot → AreApart (record { held = held; free = free }) → AreApart (record { held = without block held; free = free ++ slot ∷ [] })
AreApart-take block slot held free found apart = record {
  blocks = is_distinct-without block held apart.blocks;
  slots = IsPermutation-trans _ _ _ apart.slots
      (IsPermutation-trans _ _ _ (IsPermutation-append_left free _ _ (split_at block held slot found))
      (let P : List ℕ → Type 0 = λ xs. IsPermutation (slot ∷ (values_of (without block held) ++ free)) xs in subst P (append_assoc (values_of (without block held)) free (slot ∷ [])) (IsPermutation-sym _ _ (IsPermutation-to_front (values_of (without block held) ++ free) slot))));
}

-- the table has the slots of the first so many blocks
abbrev pub HasSlots : ℕ → List (Option ℕ) → List (ℕ × ℕ) → Type 0
HasSlots most table held = (block : ℕ) → block < most → slice_get table block ≡ Some (line_of block held)

get_same : (table : List (Option ℕ)) (block : ℕ) (slot : Option ℕ) → block < length table → slice_get (slice_set table block slot) block ≡ Some slot
get_same table block slot below =
    slice_get-get_or (slice_set table block slot) block None (let same = length-set table block slot in omega arith)
    ∙ ap Some (get_or-set_same table block slot None below)

get_other : (table : List (Option ℕ)) (block other : ℕ) (slot : Option ℕ) → other ≢ block → other < length table → slice_get (slice_set table block slot) other ≡ slice_get table other
get_other table block other slot apart below =
    slice_get-get_or (slice_set table block slot) other None (let same = length-set table block slot in omega arith)
    ∙ ap Some (get_or-set_other table block other slot None apart)
    ∙ sym (slice_get-get_or table other None below)

other_entry : (block : ℕ) (slot : Option ℕ) (table after : List (Option ℕ)) → (block < length table → after ≡ slice_set table block slot) → (length table ≤ block → after ≡ table)
    → (other : ℕ) → other ≢ block → other < length table → (b : Bool) → nat_lt block (length table) ≡ b → slice_get after other ≡ slice_get table other
other_entry block slot table after within past other apart below true e =
    let set : after ≡ slice_set table block slot = within (grind (arith, nat_tests)) in rw set (get_other table block other slot apart below)
other_entry block slot table after within past other apart below false e =
    let same : after ≡ table = past (grind (arith, nat_tests)) in rw same refl

pub HasSlots-set : (most block : ℕ) (slot : Option ℕ) (table after : List (Option ℕ)) (old new : List (ℕ × ℕ)) → length table ≡ most → HasSlots most table old
    → (block < length table → after ≡ slice_set table block slot) → (length table ≤ block → after ≡ table)
    → line_of block new ≡ slot → ((other : ℕ) → nat_eq other block ≡ false → line_of other new ≡ line_of other old) → HasSlots most after new
HasSlots-set most block slot table after old new n has within past own others other below =
    elim (nat_eq other block) as (λ t. nat_eq other block ≡ t → slice_get after other ≡ Some (line_of other new)) [
      | true ↦ λ t.
          let same : other ≡ block = grind (arith, nat_tests) in
          let e : after ≡ slice_set table block slot = within (omega arith) in
          rw (same, e, own) (get_same table block slot (omega arith))
      | false ↦ λ t.
          let apart : other ≢ block = λ same. absurd (grind (arith, nat_tests)) in
          other_entry block slot table after within past other apart (omega arith) (nat_lt block (length table)) refl ∙ has other below ∙ ap Some (sym (others other t))
    ] refl

-- no block is above a number
abbrev pub IsBounded : ℕ → List (ℕ × ℕ) → Type 0
IsBounded most held = (block : ℕ) → is_in (blocks_of held) block ≡ true → block ≤ most

pub none_above : (most block : ℕ) (held : List (ℕ × ℕ)) → IsBounded most held → most < block → line_of block held ≡ None
none_above most block held bounded above =
    line_of-missing block held (elim (is_in (blocks_of held) block) as (λ t. is_in (blocks_of held) block ≡ t → t ≡ false) [
      | true ↦ λ t. let below = bounded block t in absurd (omega arith)
      | false ↦ λ t. refl
    ] refl)

pub IsBounded-add : (most more block slot : ℕ) (held : List (ℕ × ℕ)) → IsBounded most held → most ≤ more → block ≤ more → IsBounded more ((block, slot) ∷ held)
IsBounded-add most more block slot held bounded above own other there =
    elim (nat_eq other block) as (λ t. nat_eq other block ≡ t → other ≤ more) [
      | true ↦ λ t. let same : other ≡ block = grind (arith, nat_tests) in omega arith
      | false ↦ λ t. let below = bounded other (rw t at there) in omega arith
    ] refl

pub IsBounded-without : (most block : ℕ) (held : List (ℕ × ℕ)) → IsBounded most held → IsBounded most (without block held)
IsBounded-without most block held bounded other there =
    elim (is_in (blocks_of held) other) as (λ t. is_in (blocks_of held) other ≡ t → other ≤ most) [
      | true ↦ λ t. bounded other t
      | false ↦ λ t. let none : is_in (blocks_of (without block held)) other ≡ false = is_in-without block other held t in absurd (cc)
    ] refl

pub IsBounded-promoted : (most block : ℕ) (held : List (ℕ × ℕ)) → IsBounded most held → IsBounded most (promoted block held)
IsBounded-promoted most block held bounded other there = bounded other (rw (is_in-promoted block other held) at there)

pub HasSlots-promoted : (most block : ℕ) (table : List (Option ℕ)) (held : List (ℕ × ℕ)) → HasSlots most table held → HasSlots most table (promoted block held)
HasSlots-promoted most block table held has other below = has other below ∙ ap Some (sym (line_of-promoted block other held))

-- a block that is not held is found nowhere else
pub line_of-add_other : (block slot other : ℕ) (held : List (ℕ × ℕ)) → nat_eq other block ≡ false → line_of other ((block, slot) ∷ held) ≡ line_of other held
line_of-add_other block slot other held apart = rw apart refl

pub line_of-add : (block slot : ℕ) (held : List (ℕ × ℕ)) → line_of block ((block, slot) ∷ held) ≡ Some slot
line_of-add block slot held = grind (arith, nat_tests)

shuffled : (a b c x y z : Bool) → ((a || (b || c)) || (x || (y || z))) ≡ ((a || x) || ((b || y) || (c || z)))
shuffled true b c x y z = refl
shuffled false true c true y z = refl
shuffled false true c false y z = refl
shuffled false false true true y z = refl
shuffled false false true false true z = refl
shuffled false false true false false z = refl
shuffled false false false x y z = refl

missing : (most block : ℕ) (held : List (ℕ × ℕ)) → IsBounded most held → most < block → is_in (blocks_of held) block ≡ false
missing most block held bounded above = is_in-line_of block held ∙ ap is_some (none_above most block held bounded above)

-- the children of a block have three numbers
child_numbers : (block child : ℕ) → is_child_of block child ≡ (nat_eq (3 * block + 1) child || (nat_eq (3 * block + 2) child || nat_eq (3 * block + 3) child))
child_numbers block child = grind (arith, nat_tests)

pub children_of : (block : ℕ) (blocks : List ℕ) → list_any (is_child_of block) blocks ≡ (is_in blocks (3 * block + 1) || (is_in blocks (3 * block + 2) || is_in blocks (3 * block + 3)))
children_of block [] = refl
children_of block (first ∷ blocks) = rw (child_numbers block first, children_of block blocks) (shuffled (nat_eq (3 * block + 1) first) (nat_eq (3 * block + 2) first) (nat_eq (3 * block + 3) first) _ _ _)

-- a block whose children have no numbers has none
pub no_children : (block most : ℕ) (held : List (ℕ × ℕ)) → IsBounded most held → most < 3 * block + 1 → list_any (is_child_of block) (blocks_of held) ≡ false
no_children block most held bounded above =
    rw (children_of block (blocks_of held), missing most (3 * block + 1) held bounded (omega arith), missing most (3 * block + 2) held bounded (omega arith), missing most (3 * block + 3) held bounded (omega arith)) refl

-- a whole write of a vector through a slice
pub refilled : (n : ℕ) (after before : List (Option ℕ)) → length after ≡ n → length before ≡ n → take n (after ++ drop (length after) before) ≡ after
refilled n after before same_after same_before =
    let none : drop (length after) before ≡ [] = drop_all (length after) before (omega arith) in
    rw (none, append-nil after) (take_all n after (omega arith))
