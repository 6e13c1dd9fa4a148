-- Promise: steps that fit by what the bus machine asks for in them, which is said of each trace, whatever the bus answered.
use Rattle.std.specs.Prelude.{◌≡◌, ℕ, ◌≤◌, true, length, Option}
use Rattle.regions.specs.Modes.{SecureInstruction}
use Rattle.off_chip.specs.declared.Event.{Event}
use Rattle.off_chip.specs.Histories.{History, in_order, Each}
use Rattle.off_chip.specs.Boundaries.{enter_events, is_retire, retired}
use Rattle.bus_machine.specs.BusMachine.{LoadedProgram, Veil, bus_machine}
use Rattle.paced_trace.specs.PacedSteps.{AllStepsFit, FitsStep}
use Rattle.paced_trace.specs.SufficientFuel.{asked_next}

-- each step that was done after entering fits, where its secure instruction is the one that the bus machine asks for before it makes the step
abbrev pub BusStepFits : Veil → LoadedProgram → Event → History → Type 0
BusStepFits veil program event older =
    is_retire event ≡ true → enter_events program.layout ≤ length (in_order older) → FitsStep program.layout (asked_next (bus_machine veil program older)) older

pub record AllBusStepsFit (veil : Veil) (program : LoadedProgram) (older : History) : Type 0 where
  pub each : Each (BusStepFits veil program) older

-- before it makes such a step, the bus machine asks for the secure instruction that is given for this number of the step
abbrev pub BusAsksSo : Veil → LoadedProgram → (ℕ → Option SecureInstruction) → Event → History → Type 0
BusAsksSo veil program asked event older =
    is_retire event ≡ true → enter_events program.layout ≤ length (in_order older)
    → asked_next (bus_machine veil program older) ≡ asked (retired (in_order older))

pub record AllAskedSo (veil : Veil) (program : LoadedProgram) (asked : ℕ → Option SecureInstruction) (older : History) : Type 0 where
  pub each : Each (BusAsksSo veil program asked) older

-- steps that fit by the bus machine fit by another one that asks for the same
abbrev pub BusStepsFit : Type 0
BusStepsFit =
    (veil : Veil) (program : LoadedProgram) (asked : ℕ → Option SecureInstruction) (older : History) → AllBusStepsFit veil program older
    → AllAskedSo veil program asked older → AllStepsFit program.layout asked older
