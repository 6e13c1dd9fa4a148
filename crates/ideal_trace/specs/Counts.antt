-- Promise: how many instructions of the ideal machine ask for a check or for a suspension, and that its counts tell it.
use Rattle.std.specs.Prelude.{◌≡◌, ℕ, zero, suc, ◌+◌, ◌≤◌, Bool, true, false, if◌then◌else◌, List, ◌++◌, Option, Some}
use Rattle.execution.specs.Run.{Next, Goes, Stops, run, state_of}
use Rattle.execution.specs.Traffic.{Entry}
use Rattle.regions.specs.declared.Layout.{Layout}
use Rattle.regions.specs.declared.Class.{Class}
use Rattle.regions.specs.LooseClasses.{shared_loose}
use Rattle.regions.specs.Modes.{SecureInstruction, Exit, IndexTrap, DivideTrap, Suspend, Release, Check}
use Rattle.off_chip.specs.Histories.{History, in_order}
use Rattle.off_chip.specs.Boundaries.{retired}
use Rattle.off_chip.specs.ExchangedWords.{words_read}
use Rattle.orbis_core.specs.declared.Why.{Why}
use Rattle.orbis_core.specs.Ideal.{Ideal, IdealEnd, Ended, Index, Divide, Refused, ideal_start, ideal_step, secure_at}
use Rattle.bus_machine.specs.BusMachine.{LoadedProgram}
use Rattle.ideal_trace.specs.IdealRuns.{IsIdealAt}

-- ---- steps

-- a release, a check, the exit or a trap
abbrev pub is_checked : Option SecureInstruction → Bool
is_checked (Some Release) = true
is_checked (Some Check) = true
is_checked (Some Exit) = true
is_checked (Some IndexTrap) = true
is_checked (Some DivideTrap) = true
is_checked asked = false

-- a suspension
abbrev pub is_suspension : Option SecureInstruction → Bool
is_suspension (Some Suspend) = true
is_suspension asked = false

-- what is counted from where a machine has come to, if it goes on
abbrev pub from_there : (Ideal → ℕ) → Next Ideal IdealEnd → ℕ
from_there count (Goes state) = count state
from_there count (Stops end state) = 0

-- how many of its next so many steps do a secure instruction that passes a test
abbrev pub steps_that : (Option SecureInstruction → Bool) → (Ideal → Next Ideal IdealEnd) → ℕ → Ideal → ℕ
steps_that test step zero state = 0
steps_that test step (suc steps) state = (if test (secure_at state) then 1 else 0) + from_there (steps_that test step steps) (step state)

-- the instructions that ask for a check, and for a suspension, in so many steps with these words
abbrev pub checks_in : LoadedProgram → List (Entry ℕ) → ℕ → ℕ
checks_in program words steps =
    steps_that is_checked (ideal_step program.layout shared_loose) steps (ideal_start program.layout program.statics program.entry program.input words)

abbrev pub suspensions_in : LoadedProgram → List (Entry ℕ) → ℕ → ℕ
suspensions_in program words steps =
    steps_that is_suspension (ideal_step program.layout shared_loose) steps (ideal_start program.layout program.statics program.entry program.input words)

-- ---- the machine's own counts

-- the end of a program is one instruction more
abbrev pub of_end : IdealEnd → ℕ
of_end Ended = 1
of_end (Index place) = 1
of_end (Divide place) = 1
of_end end = 0

-- the instructions that asked for a check, where it has come to, by its counts
abbrev pub checks_of : Next Ideal IdealEnd → ℕ
checks_of (Goes state) = state.traffic.releases + state.traffic.checks
checks_of (Stops end state) = state.traffic.releases + state.traffic.checks + of_end end

pub record CountsAreOfSteps : Type 0 where
  -- on a run that is not refused
  pub checks : (layout : Layout) (loose : Class → Bool) (steps : ℕ) (state : Ideal)
      → ((why : Why) (at : Ideal) → run (ideal_step layout loose) steps state ≡ Stops (Refused why) at → ⊥)
      → checks_of (run (ideal_step layout loose) steps state) ≡ checks_of (Goes state) + steps_that is_checked (ideal_step layout loose) steps state
  pub suspensions : (layout : Layout) (loose : Class → Bool) (steps : ℕ) (state : Ideal)
      → ((why : Why) (at : Ideal) → run (ideal_step layout loose) steps state ≡ Stops (Refused why) at → ⊥)
      → (state_of (run (ideal_step layout loose) steps state)).traffic.suspensions ≡ state.traffic.suspensions + steps_that is_suspension (ideal_step layout loose) steps state
  -- and more steps count no fewer
  pub grow : (test : Option SecureInstruction → Bool) (step : Ideal → Next Ideal IdealEnd) (steps more : ℕ) (state : Ideal)
      → steps_that test step steps state ≤ steps_that test step (steps + more) state
  -- so the counts of the bus machine tell them at a boundary of a faithful run
  pub at_boundary : (program : LoadedProgram) (older : History) (state : Ideal) (more : List (Entry ℕ)) → IsIdealAt program older state
      → (checks_in program (words_read (in_order older) ++ more) (retired (in_order older)) ≡ state.traffic.releases + state.traffic.checks)
      × (suspensions_in program (words_read (in_order older) ++ more) (retired (in_order older)) ≡ state.traffic.suspensions)
