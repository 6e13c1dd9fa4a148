-- Promise: a step over one memory is a step over another, where each call of the one carries over to the other.
use Rattle.std.specs.Prelude.{ℕ, Result}
use Rattle.orbis_core.specs.declared.memory.Stop.{Stop}
use Rattle.orbis_core.specs.declared.stepping.StepEnd.{StepEnd}
use Rattle.orbis_core.specs.Accesses.{Accesses}
use Rattle.orbis_core.specs.Rows.{Machine, Steps, over}

-- the other memory does this, and is then related to the one
pub record CarriedTo {M N : Type 0} (related_to : M → N → Type 0) (new : M) (does : N → Type 0) : Type 0 where
  pub after : N
  pub done : does after
  pub related : related_to new after

-- what each call does to the one memory, with its answer, it does to each memory that is related to it
pub record CarriesOver {M N : Type 0} (from : Accesses M) (to : Accesses N) (related_to : M → N → Type 0) : Type 0 where
  pub fetch : (old new : M) (at : ℕ) (answer : Result ℕ Stop) (other : N) → related_to old other → from.fetch old at answer new
      → CarriedTo related_to new (to.fetch other at answer)
  pub load_word : (old new : M) (at : ℕ) (answer : Result ℕ Stop) (other : N) → related_to old other → from.load_word old at answer new
      → CarriedTo related_to new (to.load_word other at answer)
  pub load_byte : (old new : M) (at : ℕ) (answer : Result ℕ Stop) (other : N) → related_to old other → from.load_byte old at answer new
      → CarriedTo related_to new (to.load_byte other at answer)
  pub store_word : (old new : M) (at word : ℕ) (answer : Result (Unit {0}) Stop) (other : N) → related_to old other → from.store_word old at word answer new
      → CarriedTo related_to new (to.store_word other at word answer)
  pub store_byte : (old new : M) (at byte : ℕ) (answer : Result (Unit {0}) Stop) (other : N) → related_to old other → from.store_byte old at byte answer new
      → CarriedTo related_to new (to.store_byte other at byte answer)

-- so does a step, with the same end, core and port
abbrev pub StepsCarry : {M N : Type 0} → Accesses M → Accesses N → (M → N → Type 0) → Type 0
StepsCarry {M} {N} from to related_to =
    (old new : Machine M) (end : StepEnd) (other : N) → related_to old.memory other → Steps from old end new →
    CarriedTo related_to new.memory (λ (after : N). Steps to (over other old) end (over after new))
