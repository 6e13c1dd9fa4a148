-- Lines that lie in slots, as the list that they stand for.
use Rattle.std.proofs.Common.{◌≡◌, ◌≢◌, ℕ, zero, suc, ◌<◌, Bool, true, false, cond, ◌||◌, IsTrue, IsSome, is_some, nat_eq, List, [], ◌∷◌, ◌++◌, length, slice_set, slice_index_or, map, reverse, Option, None, Some, refl, sym, ap, subst, ◌∙◌, arith, rules}
use Rattle.std.proofs.lemmas.Bool.Decides.{nat_tests}
use Rattle.std.proofs.lemmas.List.{get_or-set_same, get_or-set_other, map-append, reverse-append}
use Rattle.std.proofs.lemmas.List.Sorted.{list_any-IsPermutation}
use Rattle.std.proofs.lemmas.List.Folds.{list_any-append}
use Rattle.std.proofs.lemmas.Option.{slice_get-get_or}
use Rattle.std.proofs.lemmas.Map.Keys.{IsDistinct-push, IsDistinct-cons, IsDistinct-head, IsDistinct-tail, IsDistinct-IsPermutation}
use Rattle.std.specs.Cmp.{nat_eq_equiv}
use Rattle.std.specs.Option.{option_map, option_map_or}
use Rattle.std.specs.List.{find, IsDistinct, AllByRecursion}
use Rattle.std.specs.Map.{values_of, set_value}
use Rattle.aegis_num.specs.declared.limits.TheConstants.{TREE_LINES}
use Rattle.line_cache.specs.declared.lines.Line.{Line}
use Rattle.std.specs.FinMap.{contains_key, get}
use Rattle.line_cache.specs.LineMaps.{Holds, HasParent, IsChildless, parent_block}
use Rattle.line_cache.specs.EntryLaws.{is_in-line_of, promoted-found}
use Rattle.line_cache.specs.OrderLaws.{contains_key-lines_of, get-lines_of, cleaned_as, is_cache-new, is_cache-without, length-cleaned}
use Rattle.line_cache.proofs.SlotLemmas.{AreApart-promoted}
use Rattle.line_cache.specs.LineOrder.{OrderedLines, blocks_of, line_of, without, put_first, promoted, written, cleaned, is_in, has_parent_in, is_cache, lines_of, is_removable, is_below_limit, last_removable, next_victim}
use Rattle.line_cache.specs.SlotLists.{SlotLists, slots_below, AreApart, line_at, lines_at}

module _ (payloads : List (List ℕ)) (marks : List Bool) where
  pub blocks_of-lines_at : (held : List (ℕ × ℕ)) → blocks_of (lines_at payloads marks held) ≡ blocks_of held
  blocks_of-lines_at [] = refl
  blocks_of-lines_at (one ∷ held) = ap (λ rest. one.0 ∷ rest) (blocks_of-lines_at held)

  pub length-lines_at : (held : List (ℕ × ℕ)) → length (lines_at payloads marks held) ≡ length held
  length-lines_at [] = refl
  length-lines_at (one ∷ held) = ap suc (length-lines_at held)

  pub line_of-lines_at : (block : ℕ) (held : List (ℕ × ℕ)) → line_of block (lines_at payloads marks held) ≡ option_map (line_at payloads marks) (line_of block held)
  line_of-lines_at block [] = refl
  line_of-lines_at block (one ∷ held) =
      elim (nat_eq block one.0) as (λ t. cond t (Some (line_at payloads marks one.1)) (line_of block (lines_at payloads marks held)) ≡ option_map (line_at payloads marks) (cond t (Some one.1) (line_of block held))) [
        | true ↦ refl
        | false ↦ line_of-lines_at block held
      ]

  pub lines_at-without : (block : ℕ) (held : List (ℕ × ℕ)) → lines_at payloads marks (without block held) ≡ without block (lines_at payloads marks held)
  lines_at-without block [] = refl
  lines_at-without block (one ∷ held) =
      elim (nat_eq block one.0) as (λ t. lines_at payloads marks (cond t held (one ∷ without block held)) ≡ cond t (lines_at payloads marks held) ((one.0, line_at payloads marks one.1) ∷ without block (lines_at payloads marks held))) [
        | true ↦ refl
        | false ↦ ap (λ rest. (one.0, line_at payloads marks one.1) ∷ rest) (lines_at-without block held)
      ]

  promoted_at : (block : ℕ) (held : List (ℕ × ℕ)) (found : Option ℕ) → lines_at payloads marks (option_map_or (λ slot. put_first block slot held) found held) ≡ option_map_or (λ line. put_first block line (lines_at payloads marks held)) (option_map (line_at payloads marks) found) (lines_at payloads marks held)
  promoted_at block held None = refl
  promoted_at block held (Some slot) = ap (λ rest. (block, line_at payloads marks slot) ∷ rest) (lines_at-without block held)

  pub lines_at-promoted : (block : ℕ) (held : List (ℕ × ℕ)) → lines_at payloads marks (promoted block held) ≡ promoted block (lines_at payloads marks held)
  lines_at-promoted block held =
      promoted_at block held (line_of block held)
      ∙ ap (λ found. option_map_or (λ line. put_first block line (lines_at payloads marks held)) found (lines_at payloads marks held)) (sym (line_of-lines_at block held))

-- each slot lies below the number of slots
below_in : (n slot : ℕ) → is_in (slots_below n) slot ≡ true → slot < n
below_in zero slot there = absurd (cc)
below_in (suc n) slot there =
    elim (is_in (slots_below n) slot) as (λ t. is_in (slots_below n) slot ≡ t → slot < suc n) [
      | true ↦ λ t. let below = below_in n slot t in omega arith
      | false ↦ λ t. let there' = list_any-append (nat_eq slot) (slots_below n) (n ∷ []) in grind (arith, nat_tests)
    ] refl

not_in_below : (n : ℕ) → is_in (slots_below n) n ≡ false
not_in_below n =
    elim (is_in (slots_below n) n) as (λ t. is_in (slots_below n) n ≡ t → t ≡ false) [
      | true ↦ λ t. let below = below_in n n t in absurd (omega arith)
      | false ↦ λ t. refl
    ] refl

no_slots : IsDistinct nat_eq []
unfolding IsDistinct
no_slots = tt

distinct_slots : (n : ℕ) → IsDistinct nat_eq (slots_below n)
distinct_slots zero = no_slots
distinct_slots (suc n) = IsDistinct-push nat_eq_equiv (slots_below n) n (distinct_slots n) (not_in_below n)

same_either_way : (x y : ℕ) → nat_eq x y ≡ nat_eq y x
same_either_way x y = grind (arith, nat_tests)

apart_slots : (lists : SlotLists) → AreApart lists → IsDistinct nat_eq (values_of lists.held ++ lists.free)
apart_slots lists apart = IsDistinct-IsPermutation nat_eq same_either_way _ _ apart.slots (distinct_slots TREE_LINES)

found_value : (block : ℕ) (held : List (ℕ × ℕ)) (slot : ℕ) → line_of block held ≡ Some slot → is_in (values_of held) slot ≡ true
found_value block [] slot e = absurd (cc)
found_value block (one ∷ held) slot e =
    elim (nat_eq block one.0) as (λ t. nat_eq block one.0 ≡ t → is_in (values_of (one ∷ held)) slot ≡ true) [
      | true ↦ λ t. let e' = rw t at e in let same : one.1 ≡ slot = cc in grind (arith, nat_tests)
      | false ↦ λ t. let rest = found_value block held slot (rw t at e) in grind (arith, nat_tests)
    ] refl

pub slot_below : (lists : SlotLists) → AreApart lists → (block slot : ℕ) → line_of block lists.held ≡ Some slot → slot < TREE_LINES
slot_below lists apart block slot e =
    let there = found_value block lists.held slot e in
    let more = list_any-append (nat_eq slot) (values_of lists.held) lists.free in
    let all = list_any-IsPermutation (nat_eq slot) _ _ apart.slots in
    below_in TREE_LINES slot (grind rules)

none_in : (slot : ℕ) (slots : List ℕ) → AllByRecursion (λ other. nat_eq slot other ≡ false) slots → is_in slots slot ≡ false
none_in slot [] all = refl
none_in slot (first ∷ slots) all = rw (all.0, none_in slot slots all.1) refl

-- the slot of the first block is no other's
pub first_slot : (block slot : ℕ) (held : List (ℕ × ℕ)) (free : List ℕ) → AreApart (record { held = (block, slot) ∷ held; free = free }) → is_in (values_of held) slot ≡ false
first_slot block slot held free apart =
    let none = none_in slot (values_of held ++ free) (IsDistinct-head nat_eq slot (values_of held ++ free) (apart_slots (record { held = (block, slot) ∷ held; free = free }) apart)) in
    let more = list_any-append (nat_eq slot) (values_of held) free in
    grind rules

-- a write to a slot that none of these blocks has changes none of their lines
pub lines_at-set_other : (payloads : List (List ℕ)) (marks : List Bool) (slot : ℕ) (payload : List ℕ) (mark : Bool) (held : List (ℕ × ℕ)) → is_in (values_of held) slot ≡ false
    → lines_at (slice_set payloads slot payload) (slice_set marks slot mark) held ≡ lines_at payloads marks held
lines_at-set_other payloads marks slot payload mark [] none = refl
lines_at-set_other payloads marks slot payload mark (one ∷ held) none =
    let apart : one.1 ≢ slot = λ same. absurd (grind (arith, nat_tests)) in
    rw (get_or-set_other payloads slot one.1 payload [] apart, get_or-set_other marks slot one.1 mark false apart, lines_at-set_other payloads marks slot payload mark held (grind rules)) refl

-- a write to the first block's slot is a change of its line
pub lines_at-set_first : (payloads : List (List ℕ)) (marks : List Bool) (block slot : ℕ) (payload : List ℕ) (mark : Bool) (held : List (ℕ × ℕ)) (free : List ℕ) → AreApart (record { held = (block, slot) ∷ held; free = free })
    → slot < length payloads → slot < length marks
    → lines_at (slice_set payloads slot payload) (slice_set marks slot mark) ((block, slot) ∷ held) ≡ (block, record { payload = payload; dirty = mark }) ∷ lines_at payloads marks held
lines_at-set_first payloads marks block slot payload mark held free apart below below' =
    rw (get_or-set_same payloads slot payload [] below, get_or-set_same marks slot mark false below', lines_at-set_other payloads marks slot payload mark held (first_slot block slot held free apart)) refl

all_of : (slot : ℕ) (slots : List ℕ) → is_in slots slot ≡ false → AllByRecursion (λ other. nat_eq slot other ≡ false) slots
all_of slot [] none = tt
all_of slot (first ∷ slots) none = (grind rules, all_of slot slots (grind rules))

-- a mark that is written changes the line of its block where it stands
marks-set_other : (payloads : List (List ℕ)) (marks : List Bool) (slot : ℕ) (mark : Bool) (held : List (ℕ × ℕ)) → is_in (values_of held) slot ≡ false → lines_at payloads (slice_set marks slot mark) held ≡ lines_at payloads marks held
marks-set_other payloads marks slot mark [] none = refl
marks-set_other payloads marks slot mark (one ∷ held) none =
    let apart : one.1 ≢ slot = λ same. absurd (grind (arith, nat_tests)) in
    rw (get_or-set_other marks slot one.1 mark false apart, marks-set_other payloads marks slot mark held (grind rules)) refl

distinct_part : (slots free : List ℕ) → IsDistinct nat_eq (slots ++ free) → IsDistinct nat_eq slots
distinct_part [] free apart = no_slots
distinct_part (slot ∷ slots) free apart =
    let none = none_in slot (slots ++ free) (IsDistinct-head nat_eq slot (slots ++ free) apart) in
    let more = list_any-append (nat_eq slot) slots free in
    IsDistinct-cons nat_eq slot slots (all_of slot slots (grind rules)) (distinct_part slots free (IsDistinct-tail nat_eq slot (slots ++ free) apart))

mark_at : (payloads : List (List ℕ)) (marks : List Bool) (block slot : ℕ) (mark : Bool) (held : List (ℕ × ℕ)) → IsDistinct nat_eq (values_of held) → line_of block held ≡ Some slot → slot < length marks
    → lines_at payloads (slice_set marks slot mark) held ≡ set_value (nat_eq block) (lines_at payloads marks held) (record { payload = slice_index_or payloads slot []; dirty = mark })
mark_at payloads marks block slot mark [] apart e below = refl
mark_at payloads marks block slot mark (one ∷ held) apart e below =
    let head = none_in one.1 (values_of held) (IsDistinct-head nat_eq one.1 (values_of held) apart) in
    elim (nat_eq block one.0) as (λ t. nat_eq block one.0 ≡ t → lines_at payloads (slice_set marks slot mark) (one ∷ held)
    ≡ cond t ((one.0, record { payload = slice_index_or payloads slot []; dirty = mark }) ∷ lines_at payloads marks held) ((one.0, line_at payloads marks one.1) ∷ set_value (nat_eq block) (lines_at payloads marks held) (record { payload = slice_index_or payloads slot []; dirty = mark }))) [
      | true ↦ λ t.
          let e' = rw t at e in
          let same : one.1 ≡ slot = cc in
          let none : is_in (values_of held) slot ≡ false = let P : ℕ → Type 0 = λ k. is_in (values_of held) k ≡ false in subst P same head in
          rw (same, get_or-set_same marks slot mark false below, marks-set_other payloads marks slot mark held none) refl
      | false ↦ λ t.
          let e' = rw t at e in
          let there = found_value block held slot e' in
          let other : one.1 ≢ slot = λ same. let P : ℕ → Type 0 = λ k. is_in (values_of held) k ≡ false in let none : is_in (values_of held) slot ≡ false = subst P same head in absurd (cc) in
          rw (get_or-set_other marks slot one.1 mark false other, mark_at payloads marks block slot mark held (IsDistinct-tail nat_eq one.1 (values_of held) apart) e' below) refl
    ] refl

pub lines_at-set_mark : (payloads : List (List ℕ)) (marks : List Bool) (block slot : ℕ) (mark : Bool) (lists : SlotLists) → AreApart lists → line_of block lists.held ≡ Some slot → slot < length marks
    → lines_at payloads (slice_set marks slot mark) lists.held ≡ set_value (nat_eq block) (lines_at payloads marks lists.held) (record { payload = slice_index_or payloads slot []; dirty = mark })
lines_at-set_mark payloads marks block slot mark lists apart e below = mark_at payloads marks block slot mark lists.held (distinct_part (values_of lists.held) lists.free (apart_slots lists apart)) e below

none_of : (found : Option ℕ) → is_some found ≡ false → found ≡ None
none_of None e = refl
none_of (Some slot) e = absurd (cc)

kept_some : {X : Type 0} (f : ℕ → X) (found : Option ℕ) → is_some (option_map f found) ≡ is_some found
kept_some f None = refl
kept_some f (Some slot) = refl

-- a block's line in the map, by the slots
pub contains_key-lines_at : (payloads : List (List ℕ)) (marks : List Bool) (held : List (ℕ × ℕ)) (block : ℕ) → is_cache (lines_at payloads marks held) ≡ true → contains_key (lines_of (lines_at payloads marks held)) block ≡ is_some (line_of block held)
contains_key-lines_at payloads marks held block sound =
    contains_key-lines_of (lines_at payloads marks held) block sound ∙ ap (λ blocks. is_in blocks block) (blocks_of-lines_at payloads marks held) ∙ is_in-line_of block held

pub get-lines_at : (payloads : List (List ℕ)) (marks : List Bool) (held : List (ℕ × ℕ)) (block slot : ℕ) → is_cache (lines_at payloads marks held) ≡ true → line_of block held ≡ Some slot → get (lines_of (lines_at payloads marks held)) block ≡ Some (line_at payloads marks slot)
get-lines_at payloads marks held block slot sound found =
    get-lines_of (lines_at payloads marks held) block sound ∙ line_of-lines_at payloads marks block held ∙ ap (option_map (line_at payloads marks)) found

is_some_IsSome : (found : Option ℕ) → is_some found ≡ true → IsSome found
is_some_IsSome None e = absurd (cc)
is_some_IsSome (Some slot) e = grind arith

-- a block that is held has a slot
pub held_slot : (payloads : List (List ℕ)) (marks : List Bool) (held : List (ℕ × ℕ)) (block : ℕ) → is_cache (lines_at payloads marks held) ≡ true → Holds (lines_of (lines_at payloads marks held)) block → is_some (line_of block held) ≡ true
held_slot payloads marks held block sound there = let e = contains_key-lines_at payloads marks held block sound in grind rules

pub has_slot : (payloads : List (List ℕ)) (marks : List Bool) (held : List (ℕ × ℕ)) (block : ℕ) → is_cache (lines_at payloads marks held) ≡ true → Holds (lines_of (lines_at payloads marks held)) block → IsSome (line_of block held)
has_slot payloads marks held block sound there = is_some_IsSome (line_of block held) (held_slot payloads marks held block sound there)

pub absent_slot : (payloads : List (List ℕ)) (marks : List Bool) (held : List (ℕ × ℕ)) (block : ℕ) → is_cache (lines_at payloads marks held) ≡ true → contains_key (lines_of (lines_at payloads marks held)) block ≡ false → line_of block held ≡ None
absent_slot payloads marks held block sound there = none_of (line_of block held) (sym (contains_key-lines_at payloads marks held block sound) ∙ there)

pub line_there : (payloads : List (List ℕ)) (marks : List Bool) (held : List (ℕ × ℕ)) (block : ℕ) → is_some (line_of block held) ≡ true → is_some (line_of block (lines_at payloads marks held)) ≡ true
line_there payloads marks held block e = ap is_some (line_of-lines_at payloads marks block held) ∙ kept_some (line_at payloads marks) (line_of block held) ∙ e

-- a line that is written and comes first
pub lines_at-written : (payloads : List (List ℕ)) (marks : List Bool) (block slot : ℕ) (payload : List ℕ) (mark : Bool) (held : List (ℕ × ℕ)) (free : List ℕ) → AreApart (record { held = held; free = free }) → line_of block held ≡ Some slot
    → slot < length payloads → slot < length marks
    → lines_at (slice_set payloads slot payload) (slice_set marks slot mark) (promoted block held) ≡ put_first block (record { payload = payload; dirty = mark }) (lines_at payloads marks held)
lines_at-written payloads marks block slot payload mark held free apart found below below' =
    let first = promoted-found block slot held found in
    let apart' : AreApart (record { held = put_first block slot held; free = free }) = rw first at (AreApart-promoted block held free apart) in
    ap (lines_at (slice_set payloads slot payload) (slice_set marks slot mark)) first
    ∙ lines_at-set_first payloads marks block slot payload mark (without block held) free apart' below below'
    ∙ ap (λ rest. (block, record { payload = payload; dirty = mark }) ∷ rest) (lines_at-without payloads marks block held)

-- a line that is marked where it stands
pub lines_at-cleaned : (payloads : List (List ℕ)) (marks : List Bool) (block slot : ℕ) (lists : SlotLists) → AreApart lists → line_of block lists.held ≡ Some slot → slot < length marks
    → lines_at payloads (slice_set marks slot false) lists.held ≡ cleaned block (lines_at payloads marks lists.held)
lines_at-cleaned payloads marks block slot lists apart found below =
    lines_at-set_mark payloads marks block slot false lists apart found below
    ∙ sym (cleaned_as block (lines_at payloads marks lists.held) (line_at payloads marks slot) (line_of-lines_at payloads marks block lists.held ∙ ap (option_map (line_at payloads marks)) found))

map-reverse : {A : Type 0} (f : A → ℕ) (xs : List A) → map f (reverse xs) ≡ reverse (map f xs)
map-reverse f [] = refl
map-reverse f (x ∷ xs) = ap (map f) (reverse-append (x ∷ []) xs) ∙ map-append f (reverse xs) (x ∷ []) ∙ ap (λ rest. rest ++ f x ∷ []) (map-reverse f xs) ∙ sym (reverse-append (f x ∷ []) (map f xs))

-- which block may be removed does not hang on the lines
pub last_removable-lines_at : (payloads : List (List ℕ)) (marks : List Bool) (pinned : List ℕ) (held : List (ℕ × ℕ)) → last_removable pinned held ≡ last_removable pinned (lines_at payloads marks held)
last_removable-lines_at payloads marks pinned held =
    let same = blocks_of-lines_at payloads marks held in
    let lines = lines_at payloads marks held in
    let back : blocks_of (reverse held) ≡ blocks_of (reverse lines) = map-reverse (λ (one : ℕ × ℕ). one.0) held ∙ ap reverse (sym same) ∙ sym (map-reverse (λ (line : ℕ × Line). line.0) lines) in
    ap (λ blocks. find (is_removable pinned (blocks_of held)) blocks) back ∙ ap (λ blocks. find (is_removable pinned blocks) (blocks_of (reverse lines))) (sym same)

pub is_below_limit-lines_at : (payloads : List (List ℕ)) (marks : List Bool) (held : List (ℕ × ℕ)) → is_below_limit (lines_at payloads marks held) ≡ is_below_limit held
is_below_limit-lines_at payloads marks held = rw (length-lines_at payloads marks held) refl

pub with_room : (pinned : List ℕ) (lines : OrderedLines) → is_below_limit lines ≡ true → next_victim pinned lines ≡ None
with_room pinned lines e = rw e refl

pub without_room : (pinned : List ℕ) (lines : OrderedLines) → is_below_limit lines ≡ false → next_victim pinned lines ≡ last_removable pinned lines
without_room pinned lines e = rw e refl

pub get_or-any : {X : Type 0} (xs : List X) (at : ℕ) (one other : X) → at < length xs → slice_index_or xs at one ≡ slice_index_or xs at other
get_or-any xs at one other below =
    let p = slice_get-get_or xs at one below in
    let q = slice_get-get_or xs at other below in
    cc

-- the list after a loan, by what is kept
pub lent_view : (payloads : List (List ℕ)) (marks : List Bool) (block slot at mark_at : ℕ) (payload : List ℕ) (held after : List (ℕ × ℕ)) (free : List ℕ) → AreApart (record { held = held; free = free }) → line_of block held ≡ Some slot → after ≡ promoted block held → at ≡ slot → mark_at ≡ slot
    → slot < length payloads → slot < length marks → lines_at (slice_set payloads at payload) (slice_set marks mark_at true) after ≡ written (lines_at payloads marks held) block payload
lent_view payloads marks block slot at mark_at payload held after free apart found same here here' below below' =
    rw (here, here', same) (lines_at-written payloads marks block slot payload true held free apart found below below')

-- and after an insertion
pub new_view : (payloads : List (List ℕ)) (marks : List Bool) (block slot at mark_at : ℕ) (payload : List ℕ) (held after : List (ℕ × ℕ)) (free : List ℕ) → AreApart (record { held = (block, slot) ∷ held; free = free }) → after ≡ (block, slot) ∷ held → at ≡ slot → mark_at ≡ slot
    → slot < length payloads → slot < length marks → lines_at (slice_set payloads at payload) (slice_set marks mark_at false) after ≡ (block, record { payload = payload; dirty = false }) ∷ lines_at payloads marks held
new_view payloads marks block slot at mark_at payload held after free apart same here here' below below' =
    rw (here, here', same) (lines_at-set_first payloads marks block slot payload false held free apart below below')

-- and after a mark
pub clean_view : (payloads : List (List ℕ)) (marks : List Bool) (block slot at : ℕ) (lists : SlotLists) → AreApart lists → line_of block lists.held ≡ Some slot → at ≡ slot → slot < length marks
    → lines_at payloads (slice_set marks at false) lists.held ≡ cleaned block (lines_at payloads marks lists.held)
clean_view payloads marks block slot at lists apart found here below = rw here (lines_at-cleaned payloads marks block slot lists apart found below)

positive_unless : (block : ℕ) → nat_eq block 0 ≡ false → 0 < block
positive_unless block t = grind (arith, nat_tests)

held_true : (b : Bool) → IsTrue b → b ≡ true
held_true b h = grind rules

parent_in_blocks : (lines : OrderedLines) (block : ℕ) → is_cache lines ≡ true → HasParent (lines_of lines) block → has_parent_in (blocks_of lines) block ≡ true
parent_in_blocks lines block sound parent =
    elim (nat_eq block 0) as (λ t. nat_eq block 0 ≡ t → (t || is_in (blocks_of lines) (parent_block block)) ≡ true) [
      | true ↦ λ t. refl
      | false ↦ λ t.
          let up = parent (positive_unless block t) in
          let e = contains_key-lines_of lines (parent_block block) sound in
          sym e ∙ held_true (contains_key (lines_of lines) (parent_block block)) up
    ] refl

-- a block that may be inserted keeps the list one of a cache
pub inserted_cache : (payloads : List (List ℕ)) (marks : List Bool) (block : ℕ) (line : Line) (held : List (ℕ × ℕ)) → is_cache (lines_at payloads marks held) ≡ true → contains_key (lines_of (lines_at payloads marks held)) block ≡ false → HasParent (lines_of (lines_at payloads marks held)) block → IsTrue (is_below_limit (lines_at payloads marks held))
    → is_cache ((block, line) ∷ lines_at payloads marks held) ≡ true
inserted_cache payloads marks block line held sound absent parent room =
    let lines = lines_at payloads marks held in
    let missing : is_in (blocks_of lines) block ≡ false = sym (contains_key-lines_of lines block sound) ∙ absent in
    let own = parent_in_blocks lines block sound parent in
    is_cache-new block line lines sound missing own (grind (arith, nat_tests))

-- a block that may be taken out leaves the list one of a cache
pub taken_cache : (lines : OrderedLines) (block : ℕ) → is_cache lines ≡ true → is_some (line_of block lines) ≡ true → IsChildless (lines_of lines) block → is_cache (without block lines) ≡ true
taken_cache lines block sound there childless =
    is_cache-without block lines sound there (λ child above own. sym (contains_key-lines_of lines child sound) ∙ childless child above own)

pub same_room : (block : ℕ) (lines : OrderedLines) → is_some (line_of block lines) ≡ true → is_below_limit (cleaned block lines) ≡ is_below_limit lines
same_room block lines there = rw (length-cleaned block lines there) refl
