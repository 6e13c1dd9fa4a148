-- Promise: how the bus machine goes on over the events of one step, from a boundary on.
use Rattle.std.specs.Prelude.{◌≡◌, ◌≤◌, false, List, [], length}
use Rattle.std.specs.List.{list_any}
use Rattle.execution.specs.Run.{Goes}
use Rattle.off_chip.specs.declared.Event.{Event}
use Rattle.off_chip.specs.declared.Event.TheVariants.{Note}
use Rattle.off_chip.specs.declared.Mark.TheVariants.{Retire}
use Rattle.off_chip.specs.declared.Who.TheVariants.{Secure}
use Rattle.off_chip.specs.Histories.{History, ◌◂◌, followed, in_order}
use Rattle.off_chip.specs.Boundaries.{enter_events, is_retire, since_step}
use Rattle.orbis_core.specs.Ideal.{Ideal, ideal_start}
use Rattle.bus_machine.specs.BusMachine.{LoadedProgram, Veil, blocks_taken, bus_machine, bus_step, bus_step_after}

-- a history ends at a boundary, at the end of entering or after it, and the bus machine has come to this state there
pub record StandsAt (veil : Veil) (program : LoadedProgram) (older : History) (state : Ideal) : Type 0 where
  pub entered : enter_events program.layout ≤ length (in_order older)
  pub boundary : since_step (enter_events program.layout) older ≡ []
  pub goes : bus_machine veil program older ≡ Goes state

-- the state with the blocks that these events read
abbrev pub reading : Veil → LoadedProgram → List Event → Ideal → Ideal
reading veil program events state = record state { memory = blocks_taken program.layout veil events state.memory }

-- with these further events, none of which ends an instruction of the secure program, it has taken the blocks that they read; its next step is
-- the one over them; and it makes this step where the instruction is done, which is a boundary
pub record GoesOver (veil : Veil) (program : LoadedProgram) (older : History) (state : Ideal) (events : List Event) : Type 0 where
  pub under_way : since_step (enter_events program.layout) (followed older events) ≡ events
  pub taken : bus_machine veil program (followed older events) ≡ Goes (reading veil program events state)
  pub next : bus_step_after (enter_events program.layout) veil program (followed older events) ≡ bus_step program.layout events (reading veil program events state)
  pub done : bus_machine veil program (Note (Retire Secure) ◂ followed older events) ≡ bus_step program.layout events (reading veil program events state)
  pub entered : enter_events program.layout ≤ length (in_order (Note (Retire Secure) ◂ followed older events))
  pub boundary : since_step (enter_events program.layout) (Note (Retire Secure) ◂ followed older events) ≡ []

abbrev pub BusGoesOver : Type 0
BusGoesOver =
    (veil : Veil) (program : LoadedProgram) (older : History) (state : Ideal) (events : List Event) → StandsAt veil program older state
    → list_any is_retire events ≡ false → GoesOver veil program older state events

-- where entering is over, and nothing more was done, it stands where the ideal machine starts
abbrev pub BusStartsAt : Type 0
BusStartsAt =
    (veil : Veil) (program : LoadedProgram) (older : History) → length (in_order older) ≡ enter_events program.layout
    → StandsAt veil program older (ideal_start program.layout program.statics program.entry program.input [])
