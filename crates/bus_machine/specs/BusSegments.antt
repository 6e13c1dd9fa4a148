-- Promise: the bus machine by the steps between boundaries of the trace, in order, and that it is the one that goes back over the history.
use Rattle.std.specs.Prelude.{◌≡◌, ℕ, ◌≤◌, List, [], ◌∷◌, ◌++◌, length}
use Rattle.execution.specs.Run.{Next, and_then}
use Rattle.regions.specs.declared.Layout.{Layout}
use Rattle.off_chip.specs.declared.event.Event.{Event}
use Rattle.off_chip.specs.Histories.{history}
use Rattle.off_chip.specs.Boundaries.{steps}
use Rattle.orbis_core.specs.Ideal.{Ideal, IdealEnd}
use Rattle.bus_machine.specs.BusMachine.{LoadedProgram, Veil, blocks_taken, bus_after, bus_start, bus_step, bus_step_after, with_reads}

-- one step of the bus machine over the events of the step: before it each data block and each log block that was read among them takes the payload
abbrev pub step_over : Layout → Veil → List Event → Ideal → Next Ideal IdealEnd
step_over layout veil events state = bus_step layout events (record state { memory = blocks_taken layout veil events state.memory })

-- what it comes to by steps over these lists of events, one for each step
abbrev pub steps_over : Layout → Veil → List (List Event) → Next Ideal IdealEnd → Next Ideal IdealEnd
steps_over layout veil [] now = now
steps_over layout veil (events ∷ rest) now = steps_over layout veil rest (and_then now (step_over layout veil events))

-- where a trace is cut at its boundaries after entering, in these steps that were done and the one that is under way
pub record BusInSteps : Type 0 where
  -- the bus machine has done the steps that were done, and has taken the blocks that were read in the one that is under way
  pub now : (entry : ℕ) (veil : Veil) (program : LoadedProgram) (trace : List Event) (done : List (List Event)) (last : List Event) → entry ≤ length trace
      → steps entry trace ≡ done ++ last ∷ []
      → bus_after entry veil program (history trace) ≡ with_reads program.layout veil last (steps_over program.layout veil done (bus_start program))
  -- and with its next step it does the one that is under way
  pub next : (entry : ℕ) (veil : Veil) (program : LoadedProgram) (trace : List Event) → entry ≤ length trace
      → bus_step_after entry veil program (history trace) ≡ steps_over program.layout veil (steps entry trace) (bus_start program)
