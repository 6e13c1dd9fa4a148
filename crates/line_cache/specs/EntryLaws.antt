-- Device: lists of blocks with what belongs to them: one block found, taken out, or put first. The laws of the cache cite these proofs.
use Rattle.std.proofs.Common.{◌≡◌, ℕ, suc, ◌+◌, ◌<◌, ◌≤◌, Bool, true, false, not, cond, is_some, nat_eq, nat_lt, slice_index_or, position, List, [], ◌∷◌, length, Option, None, Some, All, refl, sym, ap, ◌∙◌, arith}
use Rattle.std.proofs.lemmas.List.Sorted.{IsPermutation-refl, IsPermutation-cons, IsPermutation-trans, IsPermutation-middle, length_permutation}
use Rattle.std.proofs.lemmas.Map.Entries.{length-values_of}
use Rattle.std.proofs.lemmas.Map.Views.{All-map-remove_entry}
use Rattle.std.proofs.lemmas.Bool.Decides.{nat_tests}
use Rattle.std.specs.Option.{option_map_or}
use Rattle.std.specs.List.{position_or_len, remove}
use Rattle.std.specs.List.Sorted.{IsPermutation}
use Rattle.std.specs.Map.{values_of, lookup, remove_entry}
use Rattle.line_cache.specs.LineOrder.{blocks_of, line_of, without, put_first, promoted, is_in, is_distinct}

pub line_of-without_other : {X : Type 0} (block other : ℕ) (lines : List (ℕ × X)) → nat_eq other block ≡ false → line_of other (without block lines) ≡ line_of other lines
line_of-without_other block other [] apart = refl
line_of-without_other block other (line ∷ lines) apart =
    let rest = line_of-without_other block other lines apart in
    grind (arith, nat_tests)

pub is_in-without : {X : Type 0} (block other : ℕ) (lines : List (ℕ × X)) → is_in (blocks_of lines) other ≡ false → is_in (blocks_of (without block lines)) other ≡ false
is_in-without block other [] missing = refl
is_in-without block other (line ∷ lines) missing =
    let rest = is_in-without block other lines in
    grind (arith, nat_tests)

pub line_of-missing : {X : Type 0} (block : ℕ) (lines : List (ℕ × X)) → is_in (blocks_of lines) block ≡ false → line_of block lines ≡ None
line_of-missing block [] missing = refl
line_of-missing block (line ∷ lines) missing =
    let rest = line_of-missing block lines in
    grind (arith, nat_tests)

pub is_distinct-without : {X : Type 0} (block : ℕ) (lines : List (ℕ × X)) → is_distinct (blocks_of lines) ≡ true → is_distinct (blocks_of (without block lines)) ≡ true
is_distinct-without block [] apart = refl
is_distinct-without block (line ∷ lines) apart =
    let rest = is_distinct-without block lines in
    let missing = is_in-without block line.0 lines in
    grind (arith, nat_tests)

-- a block that is taken out is gone
pub is_in-without_itself : {X : Type 0} (block : ℕ) (lines : List (ℕ × X)) → is_distinct (blocks_of lines) ≡ true → is_in (blocks_of (without block lines)) block ≡ false
is_in-without_itself block [] apart = refl
is_in-without_itself block (line ∷ lines) apart =
    let rest = is_in-without_itself block lines in
    grind (arith, nat_tests)

-- a block has something exactly where it is among the blocks
pub is_in-line_of : {X : Type 0} (block : ℕ) (lines : List (ℕ × X)) → is_in (blocks_of lines) block ≡ is_some (line_of block lines)
is_in-line_of block [] = refl
is_in-line_of block (line ∷ lines) =
    let rest = is_in-line_of block lines in
    grind (arith, nat_tests)

-- what is put first is found, and nothing else changes
pub line_of-put_first : {X : Type 0} (block other : ℕ) (line : X) (lines : List (ℕ × X)) → line_of other (put_first block line lines) ≡ cond (nat_eq other block) (Some line) (line_of other lines)
line_of-put_first block other line lines =
    elim (nat_eq other block) as (λ t. nat_eq other block ≡ t → line_of other (put_first block line lines) ≡ cond t (Some line) (line_of other lines)) [
      | true ↦ λ t. rw t refl
      | false ↦ λ t. rw t (line_of-without_other block other lines t)
    ] refl

promoted_case : {X : Type 0} (block other : ℕ) (lines : List (ℕ × X)) (found : Option X) → line_of block lines ≡ found → line_of other (option_map_or (λ line. put_first block line lines) found lines) ≡ line_of other lines
promoted_case block other lines None e = refl
promoted_case block other lines (Some line) e = line_of-put_first block other line lines ∙ (elim (nat_eq other block) as (λ t. nat_eq other block ≡ t → cond t (Some line) (line_of other lines) ≡ line_of other lines) [
  | true ↦ λ t. let same : other ≡ block = grind (arith, nat_tests) in rw same (sym e)
  | false ↦ λ t. refl
] refl)

pub line_of-promoted : {X : Type 0} (block other : ℕ) (lines : List (ℕ × X)) → line_of other (promoted block lines) ≡ line_of other lines
line_of-promoted block other lines = promoted_case block other lines (line_of block lines) refl

pub is_in-promoted : {X : Type 0} (block other : ℕ) (lines : List (ℕ × X)) → is_in (blocks_of (promoted block lines)) other ≡ is_in (blocks_of lines) other
is_in-promoted block other lines = is_in-line_of other (promoted block lines) ∙ ap is_some (line_of-promoted block other lines) ∙ sym (is_in-line_of other lines)

pub is_distinct-put_first : {X : Type 0} (block : ℕ) (line : X) (lines : List (ℕ × X)) → is_distinct (blocks_of lines) ≡ true → is_distinct (blocks_of (put_first block line lines)) ≡ true
is_distinct-put_first block line lines apart = rw (is_in-without_itself block lines apart, is_distinct-without block lines apart) refl

distinct_case : {X : Type 0} (block : ℕ) (lines : List (ℕ × X)) (found : Option X) → is_distinct (blocks_of lines) ≡ true → is_distinct (blocks_of (option_map_or (λ line. put_first block line lines) found lines)) ≡ true
distinct_case block lines None apart = apart
distinct_case block lines (Some line) apart = is_distinct-put_first block line lines apart

pub is_distinct-promoted : {X : Type 0} (block : ℕ) (lines : List (ℕ × X)) → is_distinct (blocks_of lines) ≡ true → is_distinct (blocks_of (promoted block lines)) ≡ true
is_distinct-promoted block lines apart = distinct_case block lines (line_of block lines) apart

-- a list is what is taken out of it, and the rest
pub split_at : {X : Type 0} (block : ℕ) (lines : List (ℕ × X)) (line : X) → line_of block lines ≡ Some line → IsPermutation (values_of lines) (line ∷ values_of (without block lines))
split_at block [] line e = absurd (cc)
split_at block (first ∷ lines) line e =
    elim (nat_eq block first.0) as (λ t. nat_eq block first.0 ≡ t → IsPermutation (values_of (first ∷ lines)) (line ∷ values_of (cond t lines (first ∷ without block lines)))) [
      | true ↦ λ t. let same : first.1 ≡ line = let e' = rw t at e in cc in rw same (IsPermutation-refl _)
      | false ↦ λ t. let e' = rw t at e in IsPermutation-trans (first.1 ∷ values_of lines) (first.1 ∷ line ∷ values_of (without block lines)) (line ∷ first.1 ∷ values_of (without block lines)) (IsPermutation-cons first.1 _ _ (split_at block lines line e')) (IsPermutation-middle (first.1 ∷ []) line (values_of (without block lines)))
    ] refl

pub length-without : {X : Type 0} (block : ℕ) (lines : List (ℕ × X)) (line : X) → line_of block lines ≡ Some line → suc (length (without block lines)) ≡ length lines
length-without block lines line e =
    let same : length (line ∷ values_of (without block lines)) ≡ length (values_of lines) = length_permutation _ _ (split_at block lines line e) in
    omega (arith, same, length-values_of (without block lines), length-values_of lines)

length_case : {X : Type 0} (block : ℕ) (lines : List (ℕ × X)) (found : Option X) → line_of block lines ≡ found → length (option_map_or (λ line. put_first block line lines) found lines) ≡ length lines
length_case block lines None e = refl
length_case block lines (Some line) e = length-without block lines line e

pub length-promoted : {X : Type 0} (block : ℕ) (lines : List (ℕ × X)) → length (promoted block lines) ≡ length lines
length-promoted block lines = length_case block lines (line_of block lines) refl

one_more : (n : ℕ) → 1 + n ≡ suc n
one_more n = omega arith

-- the place of a block: the list without what stands there
remove-place : {X : Type 0} (test : ℕ → Bool) (lines : List (ℕ × X)) → position_or_len (λ line. test line.0) lines < length lines → remove lines (position_or_len (λ line. test line.0) lines) ≡ remove_entry test lines
remove-place test [] below = absurd (omega arith)
remove-place test (line ∷ lines) below =
    elim (test line.0) as (λ t. test line.0 ≡ t → remove (line ∷ lines) (cond (not t) (1 + position_or_len (λ line. test line.0) lines) 0) ≡ cond t lines (line ∷ remove_entry test lines)) [
      | true ↦ λ t. refl
      | false ↦ λ t. let below' = rw t at below in rw (one_more (position_or_len (λ line. test line.0) lines)) (ap (λ rest. line ∷ rest) (remove-place test lines (omega arith)))
    ] refl

line_of-place : {X : Type 0} (test : ℕ → Bool) (lines : List (ℕ × X)) (other : ℕ × X) → position_or_len (λ line. test line.0) lines < length lines → lookup test lines ≡ Some (slice_index_or lines (position_or_len (λ line. test line.0) lines) other).1
line_of-place test [] other below = absurd (omega arith)
line_of-place test (line ∷ lines) other below =
    elim (test line.0) as (λ t. test line.0 ≡ t → cond t (Some line.1) (lookup test lines) ≡ Some (slice_index_or (line ∷ lines) (cond (not t) (1 + position_or_len (λ line. test line.0) lines) 0) other).1) [
      | true ↦ λ t. refl
      | false ↦ λ t. let below' = rw t at below in rw (one_more (position_or_len (λ line. test line.0) lines)) (line_of-place test lines other (omega arith))
    ] refl

-- a block without a place has nothing
line_of-no_place : {X : Type 0} (test : ℕ → Bool) (lines : List (ℕ × X)) → length lines ≤ position_or_len (λ line. test line.0) lines → lookup test lines ≡ None
line_of-no_place test [] above = refl
line_of-no_place test (line ∷ lines) above =
    elim (test line.0) as (λ t. test line.0 ≡ t → cond t (Some line.1) (lookup test lines) ≡ None) [
      | true ↦ λ t. let above' = rw t at above in absurd (omega arith)
      | false ↦ λ t. let above' = rw t at above in line_of-no_place test lines (omega arith)
    ] refl

without-no_place : {X : Type 0} (test : ℕ → Bool) (lines : List (ℕ × X)) → length lines ≤ position_or_len (λ line. test line.0) lines → remove_entry test lines ≡ lines
without-no_place test [] above = refl
without-no_place test (line ∷ lines) above =
    elim (test line.0) as (λ t. test line.0 ≡ t → cond t lines (line ∷ remove_entry test lines) ≡ line ∷ lines) [
      | true ↦ λ t. let above' = rw t at above in absurd (omega arith)
      | false ↦ λ t. let above' = rw t at above in ap (λ rest. line ∷ rest) (without-no_place test lines (omega arith))
    ] refl

-- what holds of each block holds of those that are left
pub All-without : {X : Type 0} (P : ℕ → Type 0) (block : ℕ) (lines : List (ℕ × X)) → All P (blocks_of lines) → All P (blocks_of (without block lines))
All-without P block lines all = All-map-remove_entry (nat_eq block) (λ line. line.0) P lines all

place_none : {X : Type 0} (test : ℕ → Bool) (lines : List (ℕ × X)) (b : Bool) → nat_lt (position_or_len (λ line. test line.0) lines) (length lines) ≡ b → position (λ line. test line.0) lines ≡ None → length lines ≤ position_or_len (λ line. test line.0) lines
place_none test lines true t e = let e' = rw t at e in absurd (cc)
place_none test lines false t e = grind (arith, nat_tests)

pub lookup-no_position : {X : Type 0} (test : ℕ → Bool) (lines : List (ℕ × X)) → position (λ line. test line.0) lines ≡ None → lookup test lines ≡ None
lookup-no_position test lines e = line_of-no_place test lines (place_none test lines (nat_lt (position_or_len (λ line. test line.0) lines) (length lines)) refl e)

pub remove_entry-no_position : {X : Type 0} (test : ℕ → Bool) (lines : List (ℕ × X)) → position (λ line. test line.0) lines ≡ None → remove_entry test lines ≡ lines
remove_entry-no_position test lines e = without-no_place test lines (place_none test lines (nat_lt (position_or_len (λ line. test line.0) lines) (length lines)) refl e)

place_some : {X : Type 0} (test : ℕ → Bool) (lines : List (ℕ × X)) (at : ℕ) (b : Bool) → nat_lt (position_or_len (λ line. test line.0) lines) (length lines) ≡ b → position (λ line. test line.0) lines ≡ Some at → (position_or_len (λ line. test line.0) lines < length lines) × (position_or_len (λ line. test line.0) lines ≡ at)
place_some test lines at true t e = let e' = rw t at e in (grind (arith, nat_tests), cc)
place_some test lines at false t e = let e' = rw t at e in absurd (cc)

pub remove-position : {X : Type 0} (test : ℕ → Bool) (lines : List (ℕ × X)) (at : ℕ) → position (λ line. test line.0) lines ≡ Some at → remove lines at ≡ remove_entry test lines
remove-position test lines at e =
    let place = place_some test lines at (nat_lt (position_or_len (λ line. test line.0) lines) (length lines)) refl e in
    ap (remove lines) (sym place.1) ∙ remove-place test lines place.0

pub lookup-position : {X : Type 0} (test : ℕ → Bool) (lines : List (ℕ × X)) (at : ℕ) (line : ℕ × X) → position (λ line. test line.0) lines ≡ Some at → line ≡ slice_index_or lines at line → lookup test lines ≡ Some line.1
lookup-position test lines at line e own =
    let place = place_some test lines at (nat_lt (position_or_len (λ line. test line.0) lines) (length lines)) refl e in
    line_of-place test lines line place.0 ∙ ap (λ n. Some (slice_index_or lines n line).1) place.1 ∙ ap (λ line. Some line.1) (sym own)

-- nothing is taken out where the block has nothing
pub without-missing : {X : Type 0} (block : ℕ) (lines : List (ℕ × X)) → line_of block lines ≡ None → without block lines ≡ lines
without-missing block [] e = refl
without-missing block (line ∷ lines) e =
    elim (nat_eq block line.0) as (λ t. nat_eq block line.0 ≡ t → cond t lines (line ∷ without block lines) ≡ line ∷ lines) [
      | true ↦ λ t. let e' = rw t at e in absurd (cc)
      | false ↦ λ t. ap (λ rest. line ∷ rest) (without-missing block lines (rw t at e))
    ] refl

pub promoted-missing : {X : Type 0} (block : ℕ) (lines : List (ℕ × X)) → line_of block lines ≡ None → promoted block lines ≡ lines
promoted-missing block lines e = ap (λ found. option_map_or (λ line. put_first block line lines) found lines) e

pub promoted-found : {X : Type 0} (block : ℕ) (line : X) (lines : List (ℕ × X)) → line_of block lines ≡ Some line → promoted block lines ≡ put_first block line lines
promoted-found block line lines e = ap (λ found. option_map_or (λ line. put_first block line lines) found lines) e
