-- Which function a call of the meaning leads to.
use Rattle.std.proofs.Common.{◌≡◌, ◌≢◌, ℕ, zero, suc, ◌+◌, ◌<◌, ◌≤◌, ◌==◌, ◌⊎◌, inl, inr, true, false, List, [], ◌∷◌, length, take, Option, Some, None, arith, refl, ◌∙◌, ap, subst}
use Rattle.std.specs.Prelude.{slice_get}
use Rattle.std.proofs.lemmas.Bool.Decides.{nat_tests}
use Rattle.c_semantics.specs.declared.tree.Function.{Function}
use Rattle.c_semantics.specs.States.{State, Outcome, GoesOn, choose}
use Rattle.c_semantics.specs.Meaning.{Calls, function_meaning, with_function, no_calls, calls_from}
use Rattle.c_semantics.specs.ResolvedViews.{function_of, functions_of}
use Rattle.c_evaluator.specs.Calls.{callable}
use Rattle.c_evaluator.specs.MachineStates.{bare}

-- a choice whose test does not hold
choose-other : (n m : ℕ) (one other : State → Outcome ℕ) (s : State) → n ≢ m → choose (n == m) one other s ≡ other s
choose-other n m one other s apart = let e : (n == m) ≡ false = grind (arith, nat_tests, apart) in ap (λ b. choose b one other s) e

choose-same : (n : ℕ) (one other : State → Outcome ℕ) (s : State) → choose (n == n) one other s ≡ one s
choose-same n one other s = let e : (n == n) ≡ true = grind (arith, nat_tests) in ap (λ b. choose b one other s) e

-- a number that none of these functions has
other-number : (fs : List Function) (calls : Calls) (n m : ℕ) (ws : List ℕ) (s : State) → (m < n) ⊎ (n + length fs ≤ m) → calls_from bare calls n (functions_of fs) m ws s ≡ calls m ws s
other-number [] calls n m ws s out = refl
other-number (f ∷ fs) calls n m ws s out =
    other-number fs (with_function bare calls n (function_of f)) (n + 1) m ws s (later out)
    ∙ choose-other n m (function_meaning bare calls (function_of f) ws) (calls m ws) s (apart out)
  where
    later : (m < n) ⊎ (n + length (f ∷ fs) ≤ m) → (m < n + 1) ⊎ (n + 1 + length fs ≤ m)
    later (inl below) = inl (omega (arith, below))
    later (inr above) = inr (omega (arith, above))

    apart : (m < n) ⊎ (n + length (f ∷ fs) ≤ m) → n ≢ m
    apart (inl below) e = omega (arith, below, e)
    apart (inr above) e = omega (arith, above, e)

-- the function with a number, called with those before it
own-number : (fs : List Function) (calls : Calls) (n k : ℕ) (f : Function) (ws : List ℕ) (s : State) → slice_get fs k ≡ Some f →
    calls_from bare calls n (functions_of fs) (n + k) ws s ≡ function_meaning bare (calls_from bare calls n (functions_of (take k fs))) (function_of f) ws s
own-number [] calls n k f ws s e = absurd (grind (arith, e))
own-number (g ∷ fs) calls n zero f ws s e =
    let number : n + 0 ≡ n = omega arith in
    ap (λ m. calls_from bare (with_function bare calls n (function_of g)) (n + 1) (functions_of fs) m ws s) number
    ∙ other-number fs (with_function bare calls n (function_of g)) (n + 1) n ws s (inl (omega arith))
    ∙ choose-same n (function_meaning bare calls (function_of g) ws) (calls n ws) s
    ∙ ap (λ h. function_meaning bare calls (function_of h) ws s) (some-inj e)
  where
    some-or : Option Function → Function
    some-or None = f
    some-or (Some h) = h

    some-inj : Some g ≡ Some f → g ≡ f
    some-inj h = ap some-or h
own-number (g ∷ fs) calls n (suc k) f ws s e =
    let number : n + suc k ≡ n + 1 + k = omega arith in
    ap (λ m. calls_from bare (with_function bare calls n (function_of g)) (n + 1) (functions_of fs) m ws s) number
    ∙ own-number fs (with_function bare calls n (function_of g)) (n + 1) k f ws s e

slice_get-none : (fs : List Function) (k : ℕ) → slice_get fs k ≡ None → length fs ≤ k
slice_get-none [] k e = omega arith
slice_get-none (f ∷ fs) zero e = absurd (grind (arith, e))
slice_get-none (f ∷ fs) (suc k) e = let h : length fs ≤ k = slice_get-none fs k e in omega (arith, h)

pub callable-none : (fs : List Function) (k : ℕ) (ws : List ℕ) (s : State) → slice_get fs k ≡ None → callable fs k ws s ≡ GoesOn 0 s
callable-none fs k ws s e = other-number fs no_calls 0 k ws s (inr (let h : length fs ≤ k = slice_get-none fs k e in omega (arith, h)))

pub callable-some : (fs : List Function) (k : ℕ) (f : Function) (ws : List ℕ) (s : State) → slice_get fs k ≡ Some f → callable fs k ws s ≡ function_meaning bare (callable (take k fs)) (function_of f) ws s
callable-some fs k f ws s e = let number : 0 + k ≡ k = omega arith in subst (λ m. callable fs m ws s ≡ function_meaning bare (callable (take k fs)) (function_of f) ws s) number (own-number fs no_calls 0 k f ws s e)
