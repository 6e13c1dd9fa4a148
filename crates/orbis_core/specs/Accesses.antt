-- Promise: what the calls of a memory do, and how many accesses are left after them.
use Rattle.std.specs.Prelude.{ℕ, ◌+◌, Result, Ok, Err}
use Rattle.orbis_core.specs.declared.memory.Stop.{Stop}
use Rattle.orbis_core.specs.declared.memory.Stop.TheVariants.{Refused, Tree, Log}

-- Each call relates the memory before it, the arguments, the answer and the memory after it.
pub record Accesses (M : Type 0) : Type 1 where
  pub fetch : M → ℕ → Result ℕ Stop → M → Type 0
  pub load_word : M → ℕ → Result ℕ Stop → M → Type 0
  pub load_byte : M → ℕ → Result ℕ Stop → M → Type 0
  pub store_word : M → ℕ → ℕ → Result (Unit {0}) Stop → M → Type 0
  pub store_byte : M → ℕ → ℕ → Result (Unit {0}) Stop → M → Type 0

-- the access was done or refused, and no check of the memory failed
abbrev pub IsSettled : {T : Type 0} → Result T Stop → Type 0
IsSettled (Ok value) = Unit {0}
IsSettled (Err (Refused why)) = Unit {0}
IsSettled (Err (Tree event)) = ⊥
IsSettled (Err (Log event)) = ⊥

-- after an access that was done or refused at most one access fewer is left
abbrev pub LeavesOneFewer : {M T : Type 0} → (M → ℕ → Type 0) → M → Result T Stop → M → Type 0
LeavesOneFewer has_left old result new = IsSettled result → (n : ℕ) → has_left old (n + 1) → has_left new n

-- so does each of the five calls
pub record LeaveOneFewer {M : Type 0} (accesses : Accesses M) (has_left : M → ℕ → Type 0) : Type 0 where
  pub fetch : (old new : M) (at : ℕ) (answer : Result ℕ Stop) → accesses.fetch old at answer new → LeavesOneFewer has_left old answer new
  pub load_word : (old new : M) (at : ℕ) (answer : Result ℕ Stop) → accesses.load_word old at answer new → LeavesOneFewer has_left old answer new
  pub load_byte : (old new : M) (at : ℕ) (answer : Result ℕ Stop) → accesses.load_byte old at answer new → LeavesOneFewer has_left old answer new
  pub store_word : (old new : M) (at word : ℕ) (answer : Result (Unit {0}) Stop) → accesses.store_word old at word answer new → LeavesOneFewer has_left old answer new
  pub store_byte : (old new : M) (at byte : ℕ) (answer : Result (Unit {0}) Stop) → accesses.store_byte old at byte answer new → LeavesOneFewer has_left old answer new
