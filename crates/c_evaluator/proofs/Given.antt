-- Parameters get their arguments one by one.
use Rattle.std.proofs.Common.{◌≡◌, ℕ, zero, suc, ◌<◌, ◌≤◌, min, List, [], ◌∷◌, length, drop, slice_index_or, arith, refl}
use Rattle.c_semantics.specs.declared.tree.Variable.{Variable}
use Rattle.c_semantics.specs.States.{State, writing}
use Rattle.c_semantics.specs.Meaning.{given}
use Rattle.c_evaluator.specs.MachineStates.{bare}

pub given-step : (ps : List Variable) (ws : List ℕ) (i : ℕ) (p : Variable) (w : ℕ) (s : State) → i < length ps → i < length ws → p ≡ slice_index_or ps i p → w ≡ slice_index_or ws i w →
    given bare (drop i ps) (drop i ws) s ≡ given bare (drop (suc i) ps) (drop (suc i) ws) (writing bare p 0 w s)
given-step [] ws i p w s below below' e e' = absurd (omega (arith, below))
given-step (q ∷ ps) [] i p w s below below' e e' = absurd (omega (arith, below'))
given-step (q ∷ ps) (v ∷ ws) zero p w s below below' e e' = rw (e, e') refl
given-step (q ∷ ps) (v ∷ ws) (suc i) p w s below below' e e' = given-step ps ws i p w s (omega (arith, below)) (omega (arith, below')) e e'

pub given-end : (ps : List Variable) (ws : List ℕ) (n : ℕ) (s : State) → min (length ps) (length ws) ≤ n → given bare (drop n ps) (drop n ws) s ≡ s
given-end [] ws zero s below = refl
given-end [] ws (suc n) s below = refl
given-end (p ∷ ps) [] zero s below = refl
given-end (p ∷ ps) [] (suc n) s below = go (drop n ps)
  where
    go : (qs : List Variable) → given bare qs [] s ≡ s
    go [] = refl
    go (q ∷ qs) = refl
given-end (p ∷ ps) (w ∷ ws) zero s below = absurd (omega (arith, below))
given-end (p ∷ ps) (w ∷ ws) (suc n) s below = given-end ps ws n s (omega (arith, below))
