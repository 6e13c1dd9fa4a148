-- Promise: what an end of a run shows by its trace, whatever the bus answered.
use Rattle.std.specs.Prelude.{◌≡◌, ℕ, ◌+◌, ◌≤◌, true, List, [], ◌∷◌, ◌++◌, length, Some}
use Rattle.aegis_num.specs.declared.Block.{Block}
use Rattle.aegis_num.specs.declared.Place.TheVariants.{Log, Tree}
use Rattle.regions.specs.declared.Layout.{Layout}
use Rattle.off_chip.specs.declared.Event.{Event}
use Rattle.off_chip.specs.declared.Event.TheVariants.{BlockRead}
use Rattle.off_chip.specs.Boundaries.{enter_events, is_boundary}
use Rattle.off_chip.specs.ExpectedDigests.{expected_digest}
use Rattle.off_chip.specs.Histories.{History, history, in_order, Each}
use Rattle.off_chip.specs.Residency.{in_check}
use Rattle.hash_tree.specs.HashTrees.{digests_of}
use Rattle.stamp_log.specs.declared.LogCause.{LogCause}
use Rattle.stamp_log.specs.declared.LogCause.TheVariants.{Future, Sums}
use Rattle.stamp_log.specs.OfflineCheck.{FutureRead}
use Rattle.bus_machine.specs.BusData.{GoesOn, check_due}
use Rattle.bus_machine.specs.BusMachine.{LoadedProgram, Veil}
use Rattle.aegis_machine.specs.declared.ends.End.{End}
use Rattle.aegis_machine.specs.declared.ends.End.TheVariants.{AbortLog, AbortProgram, AbortTree, FuelOut}
use Rattle.aegis_machine.specs.Boundaries.{IsOnPathInStep, IsReadInStep, IsUnexpectedRead}
use Rattle.aegis_machine.specs.FuelTests.{HasFuel}

-- ---- fuel

-- where a history ends at a boundary from which the program would go on, there is fuel for what may come next
abbrev pub HasFuelToGoOn : Veil → LoadedProgram → ℕ → History → Type 0
HasFuelToGoOn veil program fuel older =
    is_boundary (enter_events program.layout) older ≡ true → GoesOn veil program older → HasFuel program.layout fuel (length (in_order older))

-- A run that is not out of fuel does not end at a boundary from which the program would go on without fuel. Where another program was read, it would not.
abbrev pub EndsFuelled : Veil → LoadedProgram → ℕ → End → History → Type 0
EndsFuelled veil program fuel (FuelOut count) older = Unit {0}
EndsFuelled veil program fuel (AbortProgram read expected) older = Unit {0}
EndsFuelled veil program fuel end older = HasFuelToGoOn veil program fuel older

-- ---- reads of the tree

-- a read of a tree block after entering has the expected digest
abbrev pub ReadExpected : Layout → Event → History → Type 0
ReadExpected layout (BlockRead (Tree n) block) older =
    enter_events layout ≤ length (in_order older) → expected_digest (digests_of layout) n older ≡ Some ((digests_of layout).digest n block)
ReadExpected layout event older = Unit {0}

-- and each one does
pub record ReadsExpected (layout : Layout) (older : History) : Type 0 where
  pub each : Each (ReadExpected layout) older

-- The last event, of this number, is a read of a tree block after entering whose digest is not the expected one, and it is the only one. The block is on the
-- path of the one that the step of the bus machine which is under way fetches from or accesses.
pub record IsTreeAbort (veil : Veil) (program : LoadedProgram) (event : ℕ) (trace : List Event) : Type 0 where
  pub n : ℕ
  pub read : IsUnexpectedRead (digests_of program.layout) (enter_events program.layout) event n trace
  pub on_path : IsOnPathInStep veil program n (history read.before)
  pub expected : ReadsExpected program.layout (history read.before)

-- a run that ends otherwise has no such read
abbrev pub ExpectsReads : Layout → End → History → Type 0
ExpectsReads layout (AbortTree event count) older = Unit {0}
ExpectsReads layout end older = ReadsExpected layout older

-- ---- reads of the log

-- The last event, of this number, is a read of a log block whose stamp is above the number of block writes before it. The step of the bus machine that is
-- under way accesses that block, or the read stands in a check that is due in it.
pub record IsFutureAbort (veil : Veil) (program : LoadedProgram) (event : ℕ) (trace : List Event) : Type 0 where
  pub future : FutureRead trace event
  pub in_step : IsReadInStep veil program future.n (history future.before)

-- the last event is a read of the last block of the log
pub record IsLastRead (blocks : ℕ) (trace : List Event) : Type 0 where
  pub before : List Event
  pub n : ℕ
  pub block : Block
  pub last : trace ≡ before ++ BlockRead (Log n) block ∷ []
  pub all : n + 1 ≡ blocks

-- where the sums of a check differ, its last read is the last event
abbrev pub EndsByCause : ℕ → List Event → LogCause → Type 0
EndsByCause blocks trace (Future event) = Unit {0}
EndsByCause blocks trace (Sums read written) = IsLastRead blocks trace

-- and it stands in a check that is due in the step that is under way: that check has read all blocks of the log, of which there is at least one
pub record EndsCheckDue (veil : Veil) (program : LoadedProgram) (trace : List Event) : Type 0 where
  pub read : IsLastRead program.layout.log trace
  pub under_way : in_check (history read.before) ≡ true
  pub due : check_due veil program (history read.before) ≡ true

-- ---- by the end

-- why the run ended so: at an abort a read, and where there is no fuel, that the program would go on
abbrev pub ShowsCause : Veil → LoadedProgram → End → List Event → Type 0
ShowsCause veil program (AbortTree event count) trace = IsTreeAbort veil program event trace
ShowsCause veil program (AbortLog (Future event) count) trace = IsFutureAbort veil program event trace
ShowsCause veil program (AbortLog (Sums read written) count) trace = EndsCheckDue veil program trace
ShowsCause veil program (FuelOut count) trace = GoesOn veil program (history trace)
ShowsCause veil program end trace = Unit {0}
