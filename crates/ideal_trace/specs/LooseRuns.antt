-- Promise: where the reads of the tree are faithful, whatever the log and the open words gave, the bus machine is the ideal machine on which
-- logged words are loose too; so it is never refused.
use Rattle.std.specs.Prelude.{◌≡◌, ℕ, ◌≤◌, ⊤, List, length, Option, Some}
use Rattle.execution.specs.Run.{Goes}
use Rattle.execution.specs.Traffic.{Entry}
use Rattle.aegis_num.specs.declared.Place.{Place}
use Rattle.aegis_num.specs.declared.Place.TheVariants.{Tree}
use Rattle.regions.specs.LooseClasses.{shared_and_logged_loose}
use Rattle.off_chip.specs.declared.Event.{Event}
use Rattle.off_chip.specs.declared.Event.TheVariants.{BlockRead}
use Rattle.off_chip.specs.Histories.{History, ◌◂◌, in_order, Each}
use Rattle.off_chip.specs.Boundaries.{enter_events, retired}
use Rattle.off_chip.specs.FaithfulReads.{TreeFaithful}
use Rattle.orbis_core.specs.declared.Why.{Why}
use Rattle.orbis_core.specs.Ideal.{Ideal, Refused}
use Rattle.orbis_core.specs.Loosening.{IsLoosened}
use Rattle.bus_machine.specs.BusData.{EndsSo}
use Rattle.bus_machine.specs.BusMachine.{LoadedProgram, Veil, bus_machine, memory_after}
use Rattle.ideal_trace.specs.FaithfulRuns.{EntersSilently, GivesBytes, HasSameWords, IsSoundProgram}
use Rattle.ideal_trace.specs.IdealRuns.{IsSameMachine, ideal_steps}

-- Where each tree block read so far is faithful, a tree block read after entering gives the words that the memory of the bus machine has there.
abbrev pub KeepsTreeMemory : (Place → Option (List ℕ)) → Veil → LoadedProgram → Event → History → Type 0
KeepsTreeMemory image veil program (BlockRead (Tree n) block) older =
    (state : Ideal) → enter_events program.layout ≤ length (in_order older) → bus_machine veil program older ≡ Goes state
    → TreeFaithful image (BlockRead (Tree n) block ◂ older) → HasSameWords state.memory (memory_after program.layout veil (BlockRead (Tree n) block) state.memory)
KeepsTreeMemory image veil program event older = ⊤

-- each tree block read is faithful, and this is told of each event
pub record RunsOnTree (image : Place → Option (List ℕ)) (veil : Veil) (program : LoadedProgram) (older : History) : Type 0 where
  pub entering : Each (EntersSilently program) older
  pub bytes : Each (λ event older. GivesBytes event) older
  pub memory : Each (KeepsTreeMemory image veil program) older
  pub faithful : TreeFaithful image older

-- With some list of words the ideal machine, with shared and logged words loose, is in as many steps as instructions were done the same as the bus
-- machine at this state, but for its logged words, its open ones, and how many words it took.
pub record IsLooselyIdeal (program : LoadedProgram) (older : History) (state : Ideal) : Type 0 where
  pub words : List (Entry ℕ)
  pub twin : Ideal
  pub ideal : Ideal
  pub same : IsSameMachine state twin
  pub loosened : IsLoosened program.layout shared_and_logged_loose twin ideal
  pub stands : ideal_steps program shared_and_logged_loose words (retired (in_order older)) ≡ Goes ideal

pub record RunsOnTreeAreLooselyIdeal : Type 0 where
  pub goes : (image : Place → Option (List ℕ)) (veil : Veil) (program : LoadedProgram) (older : History) (state : Ideal)
      → IsSoundProgram program → RunsOnTree image veil program older → enter_events program.layout ≤ length (in_order older) → bus_machine veil program older ≡ Goes state
      → IsLooselyIdeal program older state
  -- no run ends since something is refused
  pub unrefused : (image : Place → Option (List ℕ)) (veil : Veil) (program : LoadedProgram) (older : History) (why : Why)
      → IsSoundProgram program → RunsOnTree image veil program older → enter_events program.layout ≤ length (in_order older)
      → EndsSo veil program (Some (Refused why)) older → ⊥
