-- Reading lists past their ends.
use Rattle.std.proofs.Common.{◌≡◌, ℕ, zero, suc, ◌<◌, List, [], ◌∷◌, ◌++◌, length, slice_index, slice_index_or, slice_set, cond, ◌==◌, ◌&&◌, Bool, true, false, inl, inr, sym, ◌∙◌, ap, Some, None, arith, refl}
use Rattle.std.proofs.lemmas.Bool.{cases_eq}
use Rattle.std.proofs.lemmas.Bool.Decides.{nat_tests}
use Rattle.std.proofs.lemmas.List.{get_or-set_other}
use Rattle.std.proofs.lemmas.Grind.{get_or-set_at}
use Rattle.std.specs.Prelude.{slice_get}
use Rattle.c_semantics.specs.States.{State, changed}
use Rattle.c_evaluator.specs.MachineStates.{memory_of}

pub slice_index-none : (xs : List ℕ) (i : ℕ) → slice_get xs i ≡ None → slice_index xs i ≡ 0
slice_index-none [] i e = refl
slice_index-none (x ∷ xs) zero e = absurd (grind (arith, e))
slice_index-none (x ∷ xs) (suc i) e = slice_index-none xs i e

pub slice_index-some : (xs : List ℕ) (i x : ℕ) → slice_get xs i ≡ Some x → slice_index xs i ≡ x
slice_index-some [] i y e = absurd (grind (arith, e))
slice_index-some (x ∷ xs) zero y e = grind (arith, e)
slice_index-some (x ∷ xs) (suc i) y e = slice_index-some xs i y e

pub get_or-none : (xs : List (List ℕ)) (i : ℕ) → slice_get xs i ≡ None → slice_index_or xs i [] ≡ []
get_or-none [] i e = refl
get_or-none (x ∷ xs) zero e = absurd (grind (arith, e))
get_or-none (x ∷ xs) (suc i) e = get_or-none xs i e

pub get_or-some : (xs : List (List ℕ)) (i : ℕ) (x : List ℕ) → slice_get xs i ≡ Some x → slice_index_or xs i [] ≡ x
get_or-some [] i y e = absurd (grind (arith, e))
get_or-some (x ∷ xs) zero y e = grind (arith, e)
get_or-some (x ∷ xs) (suc i) y e = get_or-some xs i y e

-- a zero more at the end changes no word
pub slice_index-zero : (xs : List ℕ) (i : ℕ) → slice_index (xs ++ 0 ∷ []) i ≡ slice_index xs i
slice_index-zero [] zero = refl
slice_index-zero [] (suc i) = refl
slice_index-zero (x ∷ xs) zero = refl
slice_index-zero (x ∷ xs) (suc i) = slice_index-zero xs i

-- nor an empty list
pub get_or-empty : (xs : List (List ℕ)) (i : ℕ) → slice_index_or (xs ++ [] ∷ []) i [] ≡ slice_index_or xs i []
get_or-empty [] zero = refl
get_or-empty [] (suc i) = refl
get_or-empty (x ∷ xs) zero = refl
get_or-empty (x ∷ xs) (suc i) = get_or-empty xs i

pub memory_of-empty : (xs : List (List ℕ)) (x i : ℕ) → memory_of (xs ++ [] ∷ []) x i ≡ memory_of xs x i
memory_of-empty xs x i = ap (λ words. slice_index words i) (get_or-empty xs x)

pub slice_index-set : (xs : List ℕ) (i word j : ℕ) → i < length xs → slice_index (slice_set xs i word) j ≡ cond (i == j) word (slice_index xs j)
slice_index-set xs i word j below =
    elim (cases_eq i j) [
      | inl e ↦ grind (arith, nat_tests, e, get_or-set_at xs i j word 0 (sym e) below)
      | inr other ↦ grind (arith, nat_tests, other, get_or-set_other xs i j word 0 (λ h. other (sym h)))
    ]

pub get_or-set : (xs : List (List ℕ)) (i : ℕ) (words : List ℕ) (j : ℕ) → i < length xs → slice_index_or (slice_set xs i words) j [] ≡ cond (i == j) words (slice_index_or xs j [])
get_or-set xs i words j below =
    elim (cases_eq i j) [
      | inl e ↦ grind (arith, nat_tests, e, get_or-set_at xs i j words [] (sym e) below)
      | inr other ↦ grind (arith, nat_tests, other, get_or-set_other xs i j words [] (λ h. other (sym h)))
    ]

-- a choice whose test is a number's
chosen : (i j : ℕ) (words other : List ℕ) (k : ℕ) → (i == j) ≡ true → slice_index (cond (i == j) words other) k ≡ slice_index words k
chosen i j words other k e = rw e refl

-- the words of all variables, where those of one are changed at one index
pub memory_of-set : (old mid : List (List ℕ)) (x : ℕ) (words : List ℕ) (i word : ℕ) →
    ((y j : ℕ) → memory_of mid y j ≡ memory_of old y j) → x < length mid → ((j : ℕ) → slice_index words j ≡ slice_index (slice_index_or mid x []) j) → i < length words →
    (y j : ℕ) → memory_of (slice_set mid x (slice_set words i word)) y j ≡ changed (memory_of old) x i word y j
memory_of-set old mid x words i word same there same_words there_word y j =
    ap (λ all. slice_index all j) (get_or-set mid x (slice_set words i word) y there) ∙ go (x == y) refl
  where
    go : (b : Bool) → (x == y) ≡ b → slice_index (cond b (slice_set words i word) (slice_index_or mid y [])) j ≡ cond (b && i == j) word (memory_of old y j)
    go true e =
        let q : x ≡ y = grind (arith, nat_tests, e) in
        slice_index-set words i word j there_word ∙ ap (λ w. cond (i == j) word w) (same_words j ∙ ap (λ z. memory_of mid z j) q ∙ same y j)
    go false e = same y j

pub ruleset lookups = (slice_index-none, slice_index-some, get_or-none, get_or-some)

pub ruleset growths = (slice_index-zero, memory_of-empty)

-- a state with another memory of equal words
pub with-memory : (m : ℕ → ℕ → ℕ) (s : State) → ((y j : ℕ) → m y j ≡ s.memory y j) → record s { memory = m } ≡ s
with-memory m s h = ap (λ memory. record s { memory = memory }) (λ k y j. h y j k)
