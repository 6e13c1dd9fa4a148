-- The longest front that passes, and fronts of a run of bytes.
use Rattle.std.proofs.Common.{◌≡◌, ℕ, zero, suc, ◌+◌, ◌<◌, ◌≤◌, Bool, true, false, cond, List, [], ◌∷◌, length, take, refl, ap, ◌∙◌, ⊎_elim, arith}
use Rattle.std.specs.List.{list_all, prefix_len}
use Rattle.std.proofs.lemmas.Bool.{cases_Bool, cond-true, cond-false, cases_eq}
use Rattle.c_token.specs.TextTokens.{longest_upto, longest}

-- no more than `top` first bytes are considered
longest_upto-is : (passes : List ℕ → Bool) (text : List ℕ) (n top : ℕ) → n ≤ top → (0 < n → passes (take n text) ≡ true)
    → ((m : ℕ) → n < m → m ≤ top → passes (take m text) ≡ false) → longest_upto passes text top ≡ n
longest_upto-is passes text n zero le here beyond = omega arith
longest_upto-is passes text n (suc top) le here beyond =
    ⊎_elim
    (λ (same : n ≡ suc top). rw (← same) (cond-true (passes (take n text)) n (longest_upto passes text top) (here (omega arith))))
    (λ (other : n ≡ suc top → ⊥).
    let lt : n < suc top = omega arith in
    cond-false (passes (take (suc top) text)) (suc top) (longest_upto passes text top) (beyond (suc top) lt (omega arith))
    ∙ longest_upto-is passes text n top (omega arith) here (λ m above below. beyond m above (omega arith)))
    (cases_eq n (suc top))

-- the greatest number of first bytes that pass
pub longest_is : (passes : List ℕ → Bool) (text : List ℕ) (n : ℕ) → n ≤ length text → (0 < n → passes (take n text) ≡ true)
    → ((m : ℕ) → n < m → m ≤ length text → passes (take m text) ≡ false) → longest passes text ≡ n
longest_is passes text n le here beyond = longest_upto-is passes text n (length text) le here beyond

module _ (p : ℕ → Bool) where
  -- within the run each byte passes
  pub all_within : (xs : List ℕ) (m : ℕ) → m ≤ prefix_len p xs → list_all p (take m xs) ≡ true
  all_within xs zero le = refl
  all_within [] (suc m) le = absurd (omega arith)
  all_within (x ∷ xs) (suc m) le =
      ⊎_elim
      (λ (yes : p x ≡ true). rw yes (all_within xs m (let more : suc m ≤ cond true (1 + prefix_len p xs) 0 = rw yes at le in omega arith)))
      (λ (no : p x ≡ false). absurd (let none : suc m ≤ cond false (1 + prefix_len p xs) 0 = rw no at le in omega arith))
      (cases_Bool (p x))

  -- beyond it one does not
  pub all_beyond : (xs : List ℕ) (m : ℕ) → prefix_len p xs < m → m ≤ length xs → list_all p (take m xs) ≡ false
  all_beyond xs zero lt le = absurd (omega arith)
  all_beyond [] (suc m) lt le = absurd (omega arith)
  all_beyond (x ∷ xs) (suc m) lt le =
      ⊎_elim
      (λ (yes : p x ≡ true). rw yes (all_beyond xs m (let more : cond true (1 + prefix_len p xs) 0 < suc m = rw yes at lt in omega arith) (omega arith)))
      (λ (no : p x ≡ false). rw no refl)
      (cases_Bool (p x))

  -- the run of a front
  pub prefix_len-take_beyond : (xs : List ℕ) (m : ℕ) → prefix_len p xs ≤ m → prefix_len p (take m xs) ≡ prefix_len p xs
  prefix_len-take_beyond [] zero le = refl
  prefix_len-take_beyond [] (suc m) le = refl
  prefix_len-take_beyond (x ∷ xs) zero le = omega arith
  prefix_len-take_beyond (x ∷ xs) (suc m) le =
      ⊎_elim
      (λ (yes : p x ≡ true). rw yes (ap (λ n. 1 + n) (prefix_len-take_beyond xs m (let more : cond true (1 + prefix_len p xs) 0 ≤ suc m = rw yes at le in omega arith))))
      (λ (no : p x ≡ false). rw no refl)
      (cases_Bool (p x))
