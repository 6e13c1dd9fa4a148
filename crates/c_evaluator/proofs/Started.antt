-- Objects get their words one by one, from the last one on.
use Rattle.std.proofs.Common.{◌≡◌, ℕ, zero, suc, ◌<◌, ◌≤◌, List, [], ◌∷◌, length, drop, slice_index_or, arith, refl}
use Rattle.c_semantics.specs.declared.tree.Object.{Object}
use Rattle.c_semantics.specs.ResolvedViews.{objects_of}
use Rattle.c_evaluator.specs.MachineStates.{placed, started}

pub started-step : (os : List Object) (i : ℕ) (o : Object) (input : List ℕ) (turns : ℕ) → i < length os → o ≡ slice_index_or os i o →
    placed o.variable.token o.first (started (objects_of (drop (suc i) os)) input turns) ≡ started (objects_of (drop i os)) input turns
started-step [] i o input turns below e = absurd (omega (arith, below))
started-step (p ∷ os) zero o input turns below e = rw e refl
started-step (p ∷ os) (suc i) o input turns below e = started-step os i o input turns (omega (arith, below)) e

pub started-end : (os : List Object) (n : ℕ) (input : List ℕ) (turns : ℕ) → length os ≤ n → started (objects_of (drop n os)) input turns ≡ started [] input turns
started-end [] zero input turns below = refl
started-end [] (suc n) input turns below = refl
started-end (o ∷ os) zero input turns below = absurd (omega (arith, below))
started-end (o ∷ os) (suc n) input turns below = started-end os n input turns (omega (arith, below))
