-- Promise: what is said of a run at the boundaries of its trace, beside what its bus machine says: the fuel that is left, where bytes are sent, what
-- untrusted code does, and what an abort names. It is said of each trace, whatever the bus answered.
use Rattle.std.specs.Prelude.{◌≡◌, ◌≢◌, ℕ, zero, suc, ◌+◌, ◌<◌, ◌≤◌, ◌⊎◌, Bool, true, false, List, [], ◌∷◌, ◌++◌, length, take, drop, Contains, Option, Some, None, unwrap_or}
use Rattle.std.specs.Bool.{OnTrue}
use Rattle.aegis_num.specs.declared.Block.{Block}
use Rattle.aegis_num.specs.declared.Place.TheVariants.{Tree, Log}
use Rattle.regions.specs.declared.addresses.TheConstants.{BLOCK_BYTES, LOG_START}
use Rattle.regions.specs.declared.Layout.{Layout}
use Rattle.regions.specs.Addresses.{data_block_at, log_block_at}
use Rattle.off_chip.specs.declared.Event.{Event}
use Rattle.off_chip.specs.declared.Event.TheVariants.{BlockRead, WordRead, WordWrite, Note}
use Rattle.off_chip.specs.declared.Mark.TheVariants.{Retire, Suspend, Resume}
use Rattle.off_chip.specs.declared.Who.TheVariants.{Untrusted}
use Rattle.off_chip.specs.Boundaries.{enter_events, is_boundary, is_suspend, payloads_entered, retired}
use Rattle.off_chip.specs.Epochs.{AllSentInQuiet}
use Rattle.off_chip.specs.ExchangedWords.{bytes_sent}
use Rattle.off_chip.specs.ExpectedDigests.{Digests, expected_digest}
use Rattle.off_chip.specs.Histories.{History, in_order, history, newest, since, Each}
use Rattle.off_chip.specs.OffChipBytes.{static_blocks}
use Rattle.off_chip.specs.Residency.{in_check}
use Rattle.block_hash.specs.BlockStrings.{program_digest}
use Rattle.hash_tree.specs.Paths.{path_of}
use Rattle.orbis_core.specs.declared.StepEnd.{StepEnd}
use Rattle.orbis_core.specs.declared.Stop.{Stop}
use Rattle.orbis_core.specs.declared.Stop.TheVariants as stop
use Rattle.orbis_core.specs.declared.Why.{Why}
use Rattle.orbis_core.specs.declared.Why.TheVariants as why
use Rattle.orbis_core.specs.Accesses.{Accesses}
use Rattle.orbis_core.specs.Ideal.{Ideal, IdealEnd, Refused, accessed_at, fetched_at}
use Rattle.orbis_core.specs.Rows.{Machine}
use Rattle.execution.specs.Run.{Goes}
use Rattle.stamp_log.specs.declared.LogCause.{LogCause}
use Rattle.untrusted_run.specs.declared.UntrustedEnd.{UntrustedEnd}
use Rattle.untrusted_run.specs.Phases.{IsPhase}
use Rattle.bus_machine.specs.BusAccesses.{Sight}
use Rattle.bus_machine.specs.BusData.{BusData, check_due, most_held}
use Rattle.bus_machine.specs.BusMachine.{LoadedProgram, Veil, bus_machine}
use Rattle.aegis_machine.specs.FuelTests.{HasFuel}
use Rattle.aegis_machine.specs.InstructionsDone.{FailsCheck, FailsSink, IsDone, IsForbidden, IsStoppedSo, makes_check}
use Rattle.aegis_machine.specs.Ties.{IsTied, end_of}

-- ---- fuel

-- a run goes on from a boundary, by an event, only where there is fuel for what may come next
abbrev pub GoesOnFuelled : Layout → ℕ → Event → History → Type 0
GoesOnFuelled layout fuel event older = OnTrue (is_boundary (enter_events layout) older) (HasFuel layout fuel (length (in_order older)))

-- and so it is at each boundary from which it went on
pub record IsFuelled (layout : Layout) (fuel : ℕ) (older : History) : Type 0 where
  pub each : Each (GoesOnFuelled layout fuel) older

-- a history ends at a boundary at which there is no fuel
pub record IsOutOfFuel (layout : Layout) (fuel : ℕ) (older : History) : Type 0 where
  pub boundary : is_boundary (enter_events layout) older ≡ true
  pub short : HasFuel layout fuel (length (in_order older)) → ⊥

-- ---- untrusted code

-- whether an event is one of untrusted code
abbrev pub is_untrusted : Event → Bool
is_untrusted (WordRead Untrusted at word) = true
is_untrusted (WordWrite Untrusted at word) = true
is_untrusted (Note (Retire Untrusted)) = true
is_untrusted event = false

-- whether the secure program is suspended after an event, where the event tells it
abbrev pub suspension_told : Event → Option Bool
suspension_told (Note Suspend) = Some true
suspension_told (Note Resume) = Some false
suspension_told event = None

-- the secure program is suspended: a Suspend mark stands in the history, and no Resume mark is newer
abbrev pub is_suspended : History → Bool
is_suspended older = unwrap_or (newest (λ event _. suspension_told event) older) false

-- these are the events of a phase of untrusted code, however it ended
pub record IsWholePhase (events : List Event) : Type 0 where
  pub end : UntrustedEnd
  pub phase : IsPhase events end

-- A suspension begins where none is under way. The events between its Suspend mark and its Resume mark are those of a phase, and no
-- other event is one of untrusted code.
abbrev pub FitsPhases : Event → History → Type 0
FitsPhases (Note Suspend) older = is_suspended older ≡ false
FitsPhases (Note Resume) older = (is_suspended older ≡ true) × IsWholePhase (since is_suspend older)
FitsPhases event older = is_untrusted event ≡ true → is_suspended older ≡ true

-- and so it is at each event, and no suspension is under way
pub record HasWholePhases (older : History) : Type 0 where
  pub each : Each FitsPhases older
  pub over : is_suspended older ≡ false

-- ---- aborts

-- the last event, of this number, is a read of a tree block after entering, and its digest is not the expected one
pub record IsUnexpectedRead (digests : Digests) (entry event n : ℕ) (trace : List Event) : Type 0 where
  pub before : List Event
  pub block : Block
  pub last : trace ≡ before ++ BlockRead (Tree n) block ∷ []
  pub number : event ≡ length before
  pub entered : entry ≤ length before
  pub unexpected : expected_digest digests n (history before) ≢ Some (digests.digest n block)

-- the step of the bus machine that is under way fetches from this address or accesses it
pub record IsReachedInStep (veil : Veil) (program : LoadedProgram) (at : ℕ) (older : History) : Type 0 where
  pub state : Ideal
  pub goes : bus_machine veil program older ≡ Goes state
  pub reaches : (at ≡ fetched_at state) ⊎ (accessed_at state ≡ Some at)

-- a tree block is on the path of the data block that this step fetches from or accesses
pub record IsOnPathInStep (veil : Veil) (program : LoadedProgram) (n : ℕ) (older : History) : Type 0 where
  pub at : ℕ
  pub reached : IsReachedInStep veil program at older
  pub below : at < LOG_START
  pub on_path : Contains (path_of program.layout (data_block_at at)) n

-- a log block is the one that this step accesses, or it is read in a check that is due in this step
pub data IsReadInStep (veil : Veil) (program : LoadedProgram) (n : ℕ) (older : History) : Type 0 where
  accessed : (at : ℕ) → IsReachedInStep veil program at older → LOG_START ≤ at → log_block_at at ≡ n → IsReadInStep veil program n older
  checked : in_check older ≡ true → check_due veil program older ≡ true → IsReadInStep veil program n older

-- bytes in blocks, so many of them
abbrev pub blocks_in : ℕ → List ℕ → List (List ℕ)
blocks_in zero bytes = []
blocks_in (suc n) bytes = take BLOCK_BYTES bytes ∷ blocks_in n (drop BLOCK_BYTES bytes)

-- the digest of the program that is loaded, by its static blocks, and that of the one that was read at entering
abbrev pub loaded_digest : LoadedProgram → List ℕ
loaded_digest program = program_digest (blocks_in (static_blocks program.layout) program.statics)

abbrev pub entered_digest : Layout → List Event → List ℕ
entered_digest layout trace = program_digest (payloads_entered layout trace)

-- a trace ends where entering is over, and these digests of the program that was read and of the one that is loaded differ
pub record IsOtherProgram (program : LoadedProgram) (read expected : List ℕ) (trace : List Event) : Type 0 where
  pub over : length trace ≡ enter_events program.layout
  pub read_is : read ≡ entered_digest program.layout trace
  pub expected_is : expected ≡ loaded_digest program
  pub differ : read ≢ expected

-- ---- a machine at a boundary

-- what is said of the history of a run that has handed out these bytes and ended so, or that goes on or ended in another way
pub record SaidOfRun (veil : Veil) (program : LoadedProgram) (fuel : ℕ) (handed_out : List ℕ) (end : Option IdealEnd) (older : History) : Type 0 where
  pub bus_data : BusData veil program handed_out end older
  pub waiting : AllSentInQuiet older
  pub phases : HasWholePhases older
  pub fuelled : IsFuelled program.layout fuel older

-- At a boundary, after entering: the machine stands where the bus machine of its trace stands, and goes on with it. All bytes that were handed
-- out are counted by Sent marks, and the bytes that are held are the others that the bus machine released.
pub record StandsAtBoundary {M : Type 0} (sight : Sight M) (program : LoadedProgram) (fuel : ℕ) (handed_out held : List ℕ) (machine : Machine M) : Type 0 where
  pub tied : IsTied sight program machine
  pub said : SaidOfRun (sight.veil machine.memory) program fuel handed_out None (history (sight.trace machine.memory))
  pub counted : bytes_sent (sight.trace machine.memory) ≡ length handed_out
  pub released : tied.state.traffic.bytes ≡ handed_out ++ held
  pub few : length held < most_held
  -- at most one byte was released with each instruction that was done
  pub slow : length handed_out + length held ≤ retired (sight.trace machine.memory)

-- what is said of the trace of a memory, with the veil of an earlier one
abbrev pub SaidAfter : {M : Type 0} → Sight M → LoadedProgram → ℕ → List ℕ → Option IdealEnd → M → M → Type 0
SaidAfter sight program fuel handed_out end old new = SaidOfRun (sight.veil old) program fuel handed_out end (history (sight.trace new))

-- what follows of an instruction of a machine at a boundary, from which it goes on with fuel
pub record BoundariesFollow {M : Type 0} (sight : Sight M) (accesses : Accesses M) : Type 0 where
  -- where it was done, the machine stands at the next boundary with the veil that it had, or the run has ended with it
  pub goes : (program : LoadedProgram) (fuel : ℕ) (handed_out held kept piece : List ℕ) (ended : StepEnd) (old new : Machine M)
      → StandsAtBoundary sight program fuel handed_out held old → HasFuel program.layout fuel (length (sight.trace old.memory))
      → IsDone sight accesses ended held kept piece old new → end_of ended ≡ None
      → StandsAtBoundary sight program fuel (handed_out ++ piece) kept new × (sight.veil new.memory ≡ sight.veil old.memory)
      × (retired (sight.trace new.memory) ≡ retired (sight.trace old.memory) + 1)
  pub ends : (program : LoadedProgram) (fuel : ℕ) (handed_out held kept piece : List ℕ) (ended : StepEnd) (old new : Machine M)
      → StandsAtBoundary sight program fuel handed_out held old → HasFuel program.layout fuel (length (sight.trace old.memory))
      → IsDone sight accesses ended held kept piece old new → SaidAfter sight program fuel (handed_out ++ piece) (end_of ended) old.memory new.memory
  -- where the memory refused its step, or the mode did
  pub refused : (program : LoadedProgram) (fuel : ℕ) (handed_out held kept piece : List ℕ) (reason : Why) (old new : Machine M)
      → StandsAtBoundary sight program fuel handed_out held old → HasFuel program.layout fuel (length (sight.trace old.memory))
      → IsStoppedSo accesses (stop.Refused reason) held kept piece old new → SaidAfter sight program fuel (handed_out ++ piece) (Some (Refused reason)) old.memory new.memory
  pub forbidden : (program : LoadedProgram) (fuel : ℕ) (handed_out held kept piece : List ℕ) (old new : Machine M)
      → StandsAtBoundary sight program fuel handed_out held old → HasFuel program.layout fuel (length (sight.trace old.memory))
      → IsForbidden sight accesses held kept piece old new → SaidAfter sight program fuel (handed_out ++ piece) (Some (Refused why.Mode)) old.memory new.memory
  -- where the memory stopped it at a read
  pub stopped : (program : LoadedProgram) (fuel : ℕ) (handed_out held kept piece : List ℕ) (reason : Stop) (old new : Machine M)
      → StandsAtBoundary sight program fuel handed_out held old → HasFuel program.layout fuel (length (sight.trace old.memory))
      → IsStoppedSo accesses reason held kept piece old new → SaidAfter sight program fuel (handed_out ++ piece) None old.memory new.memory
  -- where a check after its step did not pass, or the sink did not take a piece
  pub check_fails : (program : LoadedProgram) (fuel : ℕ) (handed_out held piece : List ℕ) (cause : LogCause) (old : Machine M) (new : M)
      → StandsAtBoundary sight program fuel handed_out held old → HasFuel program.layout fuel (length (sight.trace old.memory))
      → (fails : FailsCheck sight accesses (λ cause memory. Unit {0}) cause piece old new) → makes_check fails.ended (length held) ≡ true
      → SaidAfter sight program fuel (handed_out ++ piece) None old.memory new
  pub sink_fails : (program : LoadedProgram) (fuel : ℕ) (handed_out held piece : List ℕ) (old : Machine M) (new : M)
      → StandsAtBoundary sight program fuel handed_out held old → HasFuel program.layout fuel (length (sight.trace old.memory))
      → FailsSink sight accesses held piece old new → SaidAfter sight program fuel (handed_out ++ piece) None old.memory new
