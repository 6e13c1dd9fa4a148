-- What follows of the order in which lines were used.
use Rattle.std.proofs.Common.{◌≡◌, ℕ, zero, suc, ◌<◌, Bool, true, false, ◌&&◌, ◌||◌, List, [], ◌∷◌, ◌++◌, length, sym, ap, ◌∙◌, arith, inl, inr}
use Rattle.std.specs.Prelude.{slice_index_or}
use Rattle.std.specs.List.{list_any, list_all, remove}
use Rattle.std.proofs.lemmas.Bool.{and_parts, and_from, or_right, cases_Bool}
use Rattle.std.proofs.lemmas.List.Folds.{list_any-append}

any-last : (p : ℕ → Bool) (xs : List ℕ) (x : ℕ) → p x ≡ true → list_any p (xs ++ x ∷ []) ≡ true
any-last p xs x passes = list_any-append p xs (x ∷ []) ∙ or_right (list_any p xs) (list_any p (x ∷ [])) (ap (λ (b : Bool). b || false) passes)

-- an element that is moved to the end is still there
pub any-moved : (p : ℕ → Bool) (xs : List ℕ) (i x : ℕ) → i < length xs → x ≡ slice_index_or xs i x → list_any p xs ≡ true → list_any p (remove xs i ++ x ∷ []) ≡ true
any-moved p [] i x less is any = let no_such : ⊥ = omega (arith, less) in absurd no_such
any-moved p (y ∷ xs) zero x less is any = elim (cases_Bool (p y)) as (λ o. list_any p (remove (y ∷ xs) zero ++ x ∷ []) ≡ true) [
  | inl first ↦ any-last p xs x (ap p is ∙ first)
  | inr not_first ↦
      let rest : list_any p xs ≡ true = ap (λ (b : Bool). b || list_any p xs) (sym not_first) ∙ any in
      list_any-append p xs (x ∷ []) ∙ ap (λ (b : Bool). b || list_any p (x ∷ [])) rest
]
any-moved p (y ∷ xs) (suc i) x less is any = elim (cases_Bool (p y)) as (λ o. list_any p (remove (y ∷ xs) (suc i) ++ x ∷ []) ≡ true) [
  | inl first ↦ ap (λ (b : Bool). b || list_any p (remove xs i ++ x ∷ [])) first
  | inr not_first ↦
      let rest : list_any p xs ≡ true = ap (λ (b : Bool). b || list_any p xs) (sym not_first) ∙ any in
      or_right (p y) (list_any p (remove xs i ++ x ∷ [])) (any-moved p xs i x (omega (arith, less)) is rest)
]

all-push : (p : ℕ → Bool) (xs : List ℕ) (x : ℕ) → list_all p xs ≡ true → p x ≡ true → list_all p (xs ++ x ∷ []) ≡ true
all-push p [] x all passes = ap (λ (b : Bool). b && true) passes
all-push p (y ∷ xs) x all passes =
    let parts = and_parts (p y) (list_all p xs) all in and_from (p y) (list_all p (xs ++ x ∷ [])) parts.0 (all-push p xs x parts.1 passes)

pub all-moved : (p : ℕ → Bool) (xs : List ℕ) (i x : ℕ) → i < length xs → x ≡ slice_index_or xs i x → list_all p xs ≡ true → list_all p (remove xs i ++ x ∷ []) ≡ true
all-moved p [] i x less is all = let no_such : ⊥ = omega (arith, less) in absurd no_such
all-moved p (y ∷ xs) zero x less is all =
    let parts = and_parts (p y) (list_all p xs) all in all-push p xs x parts.1 (ap p is ∙ parts.0)
all-moved p (y ∷ xs) (suc i) x less is all =
    let parts = and_parts (p y) (list_all p xs) all in and_from (p y) (list_all p (remove xs i ++ x ∷ [])) parts.0 (all-moved p xs i x (omega (arith, less)) is parts.1)
