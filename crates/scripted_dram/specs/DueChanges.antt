-- Device: which changes of a script are due, by cursors that pass over it once.
use Rattle.std.specs.Prelude.{ℕ, ◌≡◌, ◌≤◌, nat_eq, nat_lt, Bool, true, false, not, List, [], ◌∷◌, length, take, Option, None, Some}
use Rattle.std.specs.List.{list_all}
use Rattle.adversary_script.specs.declared.change.When.{When}
use Rattle.adversary_script.specs.declared.change.When.TheVariants.{Start, At, Suspend}
use Rattle.adversary_script.specs.declared.change.Change.{Change}
use Rattle.scripted_dram.specs.declared.due.Count.{Count}
use Rattle.scripted_dram.specs.declared.due.Count.TheVariants.{Events, Suspensions}
use Rattle.scripted_dram.specs.ScriptMemory.{is_before_event, is_at_suspension}

-- the number of a change that waits for a count
abbrev pub awaited : Count → When → Option ℕ
awaited Events Start = None
awaited Events (At n) = Some n
awaited Events (Suspend n) = None
awaited Suspensions Start = None
awaited Suspensions (At n) = None
awaited Suspensions (Suspend n) = Some n

-- the changes that are done at a count
abbrev pub is_due : Count → ℕ → When → Bool
is_due Events k when = is_before_event k when
is_due Suspensions k when = is_at_suspension k when

-- a number is below the count
abbrev pub is_below : ℕ → Option ℕ → Bool
is_below k None = true
is_below k (Some n) = nat_lt n k

-- a number is above the count
abbrev pub is_above : ℕ → Option ℕ → Bool
is_above k None = false
is_above k (Some n) = nat_lt k n

-- a number is the count
abbrev pub is_now : ℕ → Option ℕ → Bool
is_now k None = false
is_now k (Some n) = nat_eq n k

-- the first of further changes may be due at this count or was at an earlier one
abbrev pub goes_on : Count → ℕ → List Change → Bool
goes_on count k [] = false
goes_on count k (change ∷ further) = not (is_above k (awaited count change.when))

-- a cursor stands in the script, and no change before it waits for this count or a later one
pub record IsPassed (count : Count) (k : ℕ) (changes : List Change) (cursor : ℕ) : Type 0 where
  pub within : cursor ≤ length changes
  pub before : list_all (λ change. is_below k (awaited count change.when)) (take cursor changes) ≡ true
