-- Promise: what an instruction of the secure program does: its step, and then, event by event, what belongs to it, and which bytes are held and
-- handed out. It is said for each memory on a bus, whatever came over the bus.
use Rattle.std.specs.Prelude.{◌≡◌, ◌≢◌, ℕ, ◌+◌, ◌%◌, ◌^◌, ◌<◌, ◌⊎◌, ◌==◌, Bool, true, false, List, [], ◌∷◌, ◌++◌, length, Option, None}
use Rattle.std.specs.List.{list_all}
use Rattle.aegis_num.specs.declared.Place.TheVariants.{Log}
use Rattle.aegis_edge.specs.Sink.{Appends, AppendsFront, limit_after}
use Rattle.aegis_edge.specs.Faults.{Rose}
use Rattle.off_chip.specs.declared.Event.{Event}
use Rattle.off_chip.specs.declared.Event.TheVariants.{BlockRead, BlockWrite, Note}
use Rattle.off_chip.specs.declared.Mark.TheVariants.{CheckStart, CheckPassed, Resume, Suspend}
use Rattle.off_chip.specs.Histories.{History, history}
use Rattle.off_chip.specs.Epochs.{IsQuiet}
use Rattle.orbis_core.specs.declared.StepEnd.{StepEnd}
use Rattle.orbis_core.specs.declared.StepEnd.TheVariants as end
use Rattle.orbis_core.specs.declared.Stop.{Stop}
use Rattle.orbis_core.specs.declared.Stop.TheVariants as stop
use Rattle.orbis_core.specs.declared.Why.TheVariants as why
use Rattle.orbis_core.specs.Accesses.{Accesses}
use Rattle.orbis_core.specs.OwnMemory.{is_permitted, secure_of_end}
use Rattle.orbis_core.specs.Rows.{IsNoStop, Machine, Steps}
use Rattle.stamp_log.specs.declared.LogCause.{LogCause}
use Rattle.untrusted_run.specs.declared.UntrustedEnd.{UntrustedEnd}
use Rattle.untrusted_run.specs.Phases.{IsPhase}
use Rattle.bus_machine.specs.BusAccesses.{Makes, Sight}
use Rattle.bus_machine.specs.BusData.{most_held}
use Rattle.aegis_machine.specs.declared.instructions.Done.{Done}
use Rattle.aegis_machine.specs.declared.instructions.Done.TheVariants as done
use Rattle.aegis_machine.specs.declared.instructions.Fault.TheVariants as fault
use Rattle.aegis_machine.specs.Releases.{mark_sent}
use Rattle.aegis_machine.specs.Ties.{Retires, end_of}

-- ---- checks and suspensions

-- whether an event reads or writes a block of the log
abbrev pub is_log_event : Event → Bool
is_log_event (BlockRead (Log n) block) = true
is_log_event (BlockWrite (Log n) block) = true
is_log_event event = false

-- a check that passes: its mark, then blocks of the log that are written back and read, and then the mark that it passed
pub record IsCheck (events : List Event) : Type 0 where
  pub middle : List Event
  pub events_are : events ≡ Note CheckStart ∷ (middle ++ Note CheckPassed ∷ [])
  pub blocks : list_all is_log_event middle ≡ true

-- a check that does not: its mark, and blocks of the log that are written back and read
pub record IsFailedCheck (events : List Event) : Type 0 where
  pub middle : List Event
  pub events_are : events ≡ Note CheckStart ∷ middle
  pub blocks : list_all is_log_event middle ≡ true

-- a phase of untrusted code between the mark that the program is suspended and the mark that it goes on
pub record IsSuspension (events : List Event) : Type 0 where
  pub phase : List Event
  pub end : UntrustedEnd
  pub events_are : events ≡ Note Suspend ∷ (phase ++ Note Resume ∷ [])
  pub untrusted : IsPhase phase end

-- ---- what comes after a step, before the mark that the instruction is done: events, the bytes that are held after them, and the piece that was handed out

-- a check passes, and then all that is held is sent
pub record Settles (held : List ℕ) (events : List Event) (kept piece : List ℕ) : Type 0 where
  pub checked : List Event
  pub check : IsCheck checked
  pub events_are : events ≡ checked ++ mark_sent held
  pub none : kept ≡ []
  pub handed : piece ≡ held

-- A byte that is released is sent at once where nothing is held and no read of the log waits for a check. Else it is held; and where as many
-- are held then as can be, a check is made and they are sent. The history is that before these events.
pub data Releases (older : History) (byte : ℕ) (held : List ℕ) (events : List Event) (kept piece : List ℕ) : Type 0 where
  at_once : IsQuiet older → held ≡ [] → events ≡ mark_sent (byte ∷ []) → kept ≡ [] → piece ≡ byte ∷ [] → Releases older byte held events kept piece
  waits : (held ≡ [] → IsQuiet older → ⊥) → length held + 1 < most_held → events ≡ [] → kept ≡ held ++ byte ∷ [] → piece ≡ []
      → Releases older byte held events kept piece
  fills : (held ≡ [] → IsQuiet older → ⊥) → length held + 1 ≡ most_held → Settles (held ++ byte ∷ []) events kept piece → Releases older byte held events kept piece

-- nothing comes, but perhaps these events
abbrev pub Waits : List ℕ → List ℕ → List ℕ → Type 0
Waits held kept piece = (kept ≡ held) × (piece ≡ [])

-- by how the step ended
abbrev pub ComesAfter : StepEnd → History → List ℕ → List Event → List ℕ → List ℕ → Type 0
ComesAfter (end.Released byte) older held events kept piece = Releases older (byte % 2 ^ 8) held events kept piece
ComesAfter end.Check older held events kept piece = Settles held events kept piece
ComesAfter end.Exit older held events kept piece = Settles held events kept piece
ComesAfter (end.Index place) older held events kept piece = Settles held events kept piece
ComesAfter (end.Divide place) older held events kept piece = Settles held events kept piece
ComesAfter end.Suspend older held events kept piece = IsSuspension events × Waits held kept piece
ComesAfter ended older held events kept piece = (events ≡ []) × Waits held kept piece

-- whether a check is made after a step that ended so, where so many bytes are held before it
abbrev pub makes_check : StepEnd → ℕ → Bool
makes_check end.Check held = true
makes_check end.Exit held = true
makes_check (end.Index place) held = true
makes_check (end.Divide place) held = true
makes_check (end.Released byte) held = held + 1 == most_held
makes_check ended held = false

-- ---- the whole instruction

-- a step that the mode permits was made, and was not stopped
pub record IsMade {M : Type 0} (sight : Sight M) (accesses : Accesses M) (ended : StepEnd) (old middle : Machine M) : Type 0 where
  pub steps : Steps accesses old ended middle
  pub not_stopped : IsNoStop ended
  pub permitted : is_permitted (secure_of_end ended) (sight.mode old.memory) ≡ true

-- it was done, with all that belongs to it and its mark
pub record IsDone {M : Type 0} (sight : Sight M) (accesses : Accesses M) (ended : StepEnd) (held kept piece : List ℕ) (old new : Machine M) : Type 0 where
  pub middle : Machine M
  pub made : IsMade sight accesses ended old middle
  pub more : List Event
  pub comes : ComesAfter ended (history (sight.trace middle.memory)) held more kept piece
  pub retires : Retires sight ended more middle.memory new.memory
  pub core : new.core ≡ middle.core
  pub port : new.port ≡ middle.port

-- Its step was made, but the check that comes after it did not pass. What is held is not sent, nor the byte that it released.
pub record FailsCheck {M : Type 0} (sight : Sight M) (accesses : Accesses M) (Caused : LogCause → M → Type 0) (cause : LogCause) (piece : List ℕ) (old : Machine M) (new : M) : Type 0 where
  pub ended : StepEnd
  pub middle : Machine M
  pub made : IsMade sight accesses ended old middle
  pub events : List Event
  pub check : IsFailedCheck events
  pub makes : Makes sight events middle.memory new
  pub caused : Caused cause new
  pub none : piece ≡ []

-- its step was made, and what belongs to it, but the sink did not take the piece
pub record FailsSink {M : Type 0} (sight : Sight M) (accesses : Accesses M) (held piece : List ℕ) (old : Machine M) (new : M) : Type 0 where
  pub ended : StepEnd
  pub middle : Machine M
  pub made : IsMade sight accesses ended old middle
  pub more : List Event
  pub kept : List ℕ
  pub comes : ComesAfter ended (history (sight.trace middle.memory)) held more kept piece
  pub makes : Makes sight more middle.memory new

-- its step was stopped, which leaves what is held as it is
pub record IsStoppedSo {M : Type 0} (accesses : Accesses M) (reason : Stop) (held kept piece : List ℕ) (old new : Machine M) : Type 0 where
  pub steps : Steps accesses old (end.Stopped reason) new
  pub waits : Waits held kept piece

-- its step was made, but the mode forbids it
pub record IsForbidden {M : Type 0} (sight : Sight M) (accesses : Accesses M) (held kept piece : List ℕ) (old new : Machine M) : Type 0 where
  pub ended : StepEnd
  pub steps : Steps accesses old ended new
  pub forbidden : is_permitted (secure_of_end ended) (sight.mode old.memory) ≡ false
  pub waits : Waits held kept piece

-- by its answer
abbrev pub DoesSo : {M : Type 0} → Sight M → Accesses M → (LogCause → M → Type 0) → Done → List ℕ → List ℕ → List ℕ → Machine M → Machine M → Type 0
DoesSo sight accesses Caused done.Goes held kept piece old new = (ended : StepEnd) × (end_of ended ≡ None) × IsDone sight accesses ended held kept piece old new
DoesSo sight accesses Caused done.Ended held kept piece old new = IsDone sight accesses end.Exit held kept piece old new
DoesSo sight accesses Caused (done.Index place) held kept piece old new = IsDone sight accesses (end.Index place) held kept piece old new
DoesSo sight accesses Caused (done.Divide place) held kept piece old new = IsDone sight accesses (end.Divide place) held kept piece old new
DoesSo sight accesses Caused (done.Refused reason) held kept piece old new =
    IsStoppedSo accesses (stop.Refused reason) held kept piece old new ⊎ ((reason ≡ why.Mode) × IsForbidden sight accesses held kept piece old new)
DoesSo sight accesses Caused (done.Tree event) held kept piece old new = IsStoppedSo accesses (stop.Tree event) held kept piece old new
DoesSo sight accesses Caused (done.Log event) held kept piece old new = IsStoppedSo accesses (stop.Log event) held kept piece old new
DoesSo sight accesses Caused (done.Fault (fault.Log cause)) held kept piece old new =
    (fails : FailsCheck sight accesses Caused cause piece old new.memory) × (makes_check fails.ended (length held) ≡ true)
DoesSo sight accesses Caused (done.Fault fault.Sink) held kept piece old new = FailsSink sight accesses held piece old new.memory

-- ---- the sink

-- What the sink took, whose limit, where it has one, is lower by as much: the whole piece; where it failed, there was one, of which it took a front, and its
-- count of faults rose.
abbrev pub HandsOut : Done → Option (List ℕ) → Option (List ℕ) → ℕ → ℕ → Option ℕ → Option ℕ → List ℕ → Type 0
HandsOut (done.Fault fault.Sink) old new faults_old faults_new limit_old limit_new piece = AppendsFront old new piece × Rose faults_old faults_new × (piece ≢ [])
HandsOut answer old new faults_old faults_new limit_old limit_new piece = Appends old new piece × (faults_new ≡ faults_old) × (limit_new ≡ limit_after limit_old (length piece))
