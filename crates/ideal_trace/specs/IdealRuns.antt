-- Promise: the bus machine of a faithful trace is the ideal machine, on the open words that the secure program read.
use Rattle.std.specs.Prelude.{◌≡◌, ℕ, ◌≤◌, Bool, true, List, ◌++◌, length, Option}
use Rattle.execution.specs.Run.{Next, Goes, Stops, EndsIn}
use Rattle.execution.specs.Traffic.{Entry}
use Rattle.aegis_num.specs.declared.Place.{Place}
use Rattle.regions.specs.declared.Class.{Class}
use Rattle.regions.specs.LooseClasses.{shared_loose}
use Rattle.off_chip.specs.declared.Event.{Event}
use Rattle.off_chip.specs.Histories.{History, ◌◂◌, in_order}
use Rattle.off_chip.specs.Boundaries.{enter_events, retired, since_step}
use Rattle.off_chip.specs.ExchangedWords.{words_read, words_written}
use Rattle.orbis_core.specs.declared.Why.{Why}
use Rattle.orbis_core.specs.Ideal.{Ideal, IdealEnd, Refused, Starved, ideal_run, ideal_start, ideal_step}
use Rattle.bus_machine.specs.BusData.{at_boundary}
use Rattle.bus_machine.specs.BusMachine.{LoadedProgram, Veil, bus_machine, bus_step_after}
use Rattle.ideal_trace.specs.FaithfulRuns.{HasSameWords, IsSoundProgram, RunsFaithfully}

-- so many steps of the ideal machine of a program, with these classes loose and these loose words
abbrev pub ideal_steps : LoadedProgram → (Class → Bool) → List (Entry ℕ) → ℕ → Next Ideal IdealEnd
ideal_steps program loose words steps = ideal_run program.layout loose program.statics program.entry program.input words steps

-- a state with these loose words still to come
abbrev pub with_words : List (Entry ℕ) → Ideal → Ideal
with_words words state = record state { traffic = record state.traffic { loose = words } }

-- the other machine is this one, but for its memory, in which it has the same words
pub record IsSameMachine (state other : Ideal) : Type 0 where
  pub words : HasSameWords state.memory other.memory
  pub is : other ≡ record state { memory = other.memory }

-- At a boundary: with the words that were read, and whatever words come after them, the ideal machine is in as many steps as instructions were
-- done the same as the bus machine at this state, and those words are still to come. What it wrote is what was written.
pub record IsIdealAt (program : LoadedProgram) (older : History) (state : Ideal) : Type 0 where
  pub ideal : Ideal
  pub same : IsSameMachine state ideal
  pub stands : (more : List (Entry ℕ)) → ideal_steps program shared_loose (words_read (in_order older) ++ more) (retired (in_order older)) ≡ Goes (with_words more ideal)
  pub written : ideal.traffic.writes ≡ words_written (in_order older)

-- Within a step the words that were read in it are still to come, and those that were written in it come after what the machine wrote.
pub record IsIdealSoFar (program : LoadedProgram) (older : History) (state : Ideal) : Type 0 where
  pub ideal : Ideal
  pub same : IsSameMachine state ideal
  pub stands : (more : List (Entry ℕ)) → ideal_steps program shared_loose (words_read (in_order older) ++ more) (retired (in_order older))
      ≡ Goes (with_words (words_read (since_step (enter_events program.layout) older) ++ more) ideal)
  pub written : words_written (in_order older) ≡ ideal.traffic.writes ++ words_written (since_step (enter_events program.layout) older)

-- With these words it ends so, the same as the bus machine, in exactly as many steps as instructions were done, and it wrote what was written.
pub record EndsIdeally (program : LoadedProgram) (older : History) (end : IdealEnd) (at : Ideal) : Type 0 where
  pub ideal : Ideal
  pub same : IsSameMachine at ideal
  pub ends : (more : List (Entry ℕ)) → EndsIn (ideal_step program.layout shared_loose) (retired (in_order older))
      (ideal_start program.layout program.statics program.entry program.input (words_read (in_order older) ++ more)) end (with_words more ideal)
  pub written : ideal.traffic.writes ≡ words_written (in_order older)

pub record FaithfulRunsAreIdeal : Type 0 where
  -- at each boundary at the end of entering or after it, where the bus machine goes on
  pub goes : (image : Place → Option (List ℕ)) (veil : Veil) (program : LoadedProgram) (older : History) (state : Ideal)
      → IsSoundProgram program → RunsFaithfully image veil program older → at_boundary program older ≡ true → bus_machine veil program older ≡ Goes state
      → IsIdealAt program older state
  -- and after each event between them
  pub under_way : (image : Place → Option (List ℕ)) (veil : Veil) (program : LoadedProgram) (older : History) (state : Ideal)
      → IsSoundProgram program → RunsFaithfully image veil program older → enter_events program.layout ≤ length (in_order older) → bus_machine veil program older ≡ Goes state
      → IsIdealSoFar program older state
  -- where it ends with an event
  pub ends : (image : Place → Option (List ℕ)) (veil : Veil) (program : LoadedProgram) (event : Event) (older : History) (state at : Ideal) (end : IdealEnd)
      → IsSoundProgram program → RunsFaithfully image veil program (event ◂ older) → bus_machine veil program older ≡ Goes state
      → bus_machine veil program (event ◂ older) ≡ Stops end at → EndsIdeally program (event ◂ older) end at
  -- it never ends for want of a word, or since something is refused; and its step under way is never refused
  pub unstarved : (image : Place → Option (List ℕ)) (veil : Veil) (program : LoadedProgram) (older : History) (at : Ideal)
      → IsSoundProgram program → RunsFaithfully image veil program older → bus_machine veil program older ≡ Stops Starved at → ⊥
  pub unrefused : (image : Place → Option (List ℕ)) (veil : Veil) (program : LoadedProgram) (older : History) (why : Why) (at : Ideal)
      → IsSoundProgram program → RunsFaithfully image veil program older → bus_machine veil program older ≡ Stops (Refused why) at → ⊥
  pub next_unrefused : (image : Place → Option (List ℕ)) (veil : Veil) (program : LoadedProgram) (older : History) (why : Why) (at : Ideal)
      → IsSoundProgram program → RunsFaithfully image veil program older → enter_events program.layout ≤ length (in_order older)
      → bus_step_after (enter_events program.layout) veil program older ≡ Stops (Refused why) at → ⊥
