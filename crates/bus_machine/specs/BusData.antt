-- Promise: what the bus machine of a trace says of a run: which bytes were sent, how the run ended, and where checks and suspensions stand.
-- It is said of each trace, whatever the bus answered.
use Rattle.std.specs.Prelude.{◌≡◌, ℕ, ◌+◌, ◌-◌, ◌<◌, ◌≤◌, ◌==◌, ◌&&◌, Bool, true, false, is_none, if◌then◌else◌, List, [], ◌++◌, take, length, count_by, Option, Some, None}
use Rattle.execution.specs.Run.{Next, Goes, Stops, state_of}
use Rattle.regions.specs.declared.Layout.{Layout}
use Rattle.regions.specs.declared.Access.TheVariants.{Fetch}
use Rattle.regions.specs.Modes.{SecureInstruction, Exit, IndexTrap, DivideTrap, Release, Check}
use Rattle.off_chip.specs.declared.Event.{Event}
use Rattle.off_chip.specs.declared.Event.TheVariants.{Note}
use Rattle.off_chip.specs.declared.Mark.TheVariants.{CheckStart}
use Rattle.off_chip.specs.Histories.{History, no_event, ◌◂◌, in_order, AtEach, Each}
use Rattle.off_chip.specs.Boundaries.{enter_events, is_retire, is_step, since_step, suspensions}
use Rattle.off_chip.specs.Epochs.{IsQuiet, is_passed}
use Rattle.off_chip.specs.ExchangedWords.{bytes_sent}
use Rattle.orbis_core.specs.Ideal.{Ideal, IdealEnd, Ended, Index, Divide, Refused, Starved, secure_at}
use Rattle.orbis_core.specs.Refusals.{word_refusal}
use Rattle.bus_machine.specs.BusMachine.{LoadedProgram, Veil, bus_machine, bus_step_after}

-- how many bytes are held at most before they are sent in one piece
abbrev pub most_held : ℕ
most_held = 256

-- a boundary of this program at the end of entering or after it
abbrev pub at_boundary : LoadedProgram → History → Bool
at_boundary program older = is_step (enter_events program.layout) older

-- the history at its latest boundary
abbrev pub before_step : ℕ → History → History
before_step entry no_event = no_event
before_step entry (event ◂ older) = if is_step entry (event ◂ older) then event ◂ older else before_step entry older

-- ---- bytes

-- of the bytes handed out, those that Sent marks count are the first that the bus machine released; the others that it released are held
pub record SendsSo (veil : Veil) (program : LoadedProgram) (handed_out : List ℕ) (older : History) : Type 0 where
  pub held : List ℕ
  pub counted : bytes_sent (in_order older) ≤ length handed_out
  pub released : (state_of (bus_machine veil program older)).traffic.bytes ≡ take (bytes_sent (in_order older)) handed_out ++ held
  pub few : length held < most_held
  pub quiet : IsQuiet older → held ≡ []

-- ---- ends

-- the bus machine goes on: it has not ended, and was neither refused nor starved
pub record GoesOn (veil : Veil) (program : LoadedProgram) (older : History) : Type 0 where
  pub state : Ideal
  pub goes : bus_machine veil program older ≡ Goes state

-- it does at each boundary
pub record GoesOnAtEach (veil : Veil) (program : LoadedProgram) (older : History) : Type 0 where
  pub each : AtEach (at_boundary program) (GoesOn veil program) older

-- the last event ended an instruction, and with it the bus machine ended so
pub record EndsAtLast (veil : Veil) (program : LoadedProgram) (end : IdealEnd) (older : History) : Type 0 where
  pub event : Event
  pub before : History
  pub last : older ≡ event ◂ before
  pub retires : is_retire event ≡ true
  pub going : GoesOnAtEach veil program before
  pub at : Ideal
  pub ended : bus_machine veil program older ≡ Stops end at

-- How a run ends: at the exit or at a trap, where the bus machine ends so, or refused, where its next step is refused for that reason. A run
-- that ends otherwise has none of these.
abbrev pub EndsSo : Veil → LoadedProgram → Option IdealEnd → History → Type 0
EndsSo veil program (Some Ended) older = EndsAtLast veil program Ended older
EndsSo veil program (Some (Index place)) older = EndsAtLast veil program (Index place) older
EndsSo veil program (Some (Divide place)) older = EndsAtLast veil program (Divide place) older
EndsSo veil program (Some (Refused why)) older =
    GoesOnAtEach veil program older × ((at : Ideal) × (bus_step_after (enter_events program.layout) veil program older ≡ Stops (Refused why) at))
EndsSo veil program (Some Starved) older = ⊥
EndsSo veil program None older = GoesOnAtEach veil program older

-- ---- checks

-- whether an instruction asks for a check, where so many bytes were released before it and so many of them were sent
abbrev pub asks_check : Option SecureInstruction → ℕ → ℕ → Bool
asks_check (Some Check) released sent = true
asks_check (Some Exit) released sent = true
asks_check (Some IndexTrap) released sent = true
asks_check (Some DivideTrap) released sent = true
asks_check (Some Release) released sent = released + 1 - sent == most_held
asks_check asked released sent = false

-- whether the step of a machine is one in which a check is made
abbrev pub needs_check : Layout → Next Ideal IdealEnd → ℕ → Bool
needs_check layout (Goes state) sent =
    is_none (word_refusal layout state.mode Fetch state.core.pc) && asks_check (secure_at state) (length state.traffic.bytes) sent
needs_check layout (Stops end state) sent = false

-- how many bytes were sent before the step that is under way
abbrev pub sent_before_step : LoadedProgram → History → ℕ
sent_before_step program older = bytes_sent (in_order (before_step (enter_events program.layout) older))

-- whether the step that is under way is one, where what was sent before it counts
abbrev pub check_due : Veil → LoadedProgram → History → Bool
check_due veil program older = needs_check program.layout (bus_machine veil program older) (sent_before_step program older)

-- a check passes once in each step in which one is made, and in no other: this is said where the step ends
abbrev pub ChecksOnce : Veil → LoadedProgram → Event → History → Type 0
ChecksOnce veil program event older =
    is_retire event ≡ true → enter_events program.layout ≤ length (in_order older)
    → count_by is_passed (since_step (enter_events program.layout) older) ≡ (if check_due veil program older then 1 else 0)

-- a check starts in such a step alone
abbrev pub StartsDue : Veil → LoadedProgram → Event → History → Type 0
StartsDue veil program (Note CheckStart) older = check_due veil program older ≡ true
StartsDue veil program event older = Unit {0}

-- ---- the whole

-- what is said of a run: its bytes that were handed out, how it ended, and its history
pub record BusData (veil : Veil) (program : LoadedProgram) (handed_out : List ℕ) (end : Option IdealEnd) (older : History) : Type 0 where
  pub sends : AtEach (at_boundary program) (SendsSo veil program handed_out) older
  pub ends : EndsSo veil program end older
  pub checks : Each (ChecksOnce veil program) older
  pub starts : Each (StartsDue veil program) older
  -- at each boundary there are as many Suspend marks as suspend instructions that were done
  pub suspends : AtEach (at_boundary program) (λ older. suspensions (in_order older) ≡ (state_of (bus_machine veil program older)).traffic.suspensions) older
