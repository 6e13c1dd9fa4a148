-- Promise: a run with fewer loose classes is a run with more of them, for the list of words that it read there.
use Rattle.std.specs.Prelude.{◌≡◌, ℕ, IsTrue, Bool, false, List}
use Rattle.execution.specs.Run.{Next, Goes, Stops, run}
use Rattle.execution.specs.Traffic.{Entry}
use Rattle.regions.specs.declared.Layout.{Layout}
use Rattle.regions.specs.declared.Class.{Class}
use Rattle.regions.specs.declared.Class.TheVariants.{Code}
use Rattle.regions.specs.LooseClasses.{AreAmong}
use Rattle.regions.specs.Modes.{is_secure}
use Rattle.orbis_core.specs.Ideal.{Ideal, IdealEnd, ideal_step, is_among}
use Rattle.orbis_core.specs.IdealLaws.{IsWholeState}

-- the machine with this memory, these loose words to come, and so many that it took
abbrev pub loosened : (ℕ → ℕ) → List (Entry ℕ) → ℕ → Ideal → Ideal
loosened memory words taken state = record state { memory = memory; traffic = record state.traffic { loose = words; taken = taken } }

-- two memories have one word at each address where none of these classes is
abbrev pub AgreesOutside : Layout → (Class → Bool) → (ℕ → ℕ) → (ℕ → ℕ) → Type 0
AgreesOutside layout classes one other = (at : ℕ) → is_among classes layout at ≡ false → other at ≡ one at

-- the second machine is the first one but for words of these classes and its count of words taken
pub record IsLoosened (layout : Layout) (classes : Class → Bool) (state other : Ideal) : Type 0 where
  pub memory : ℕ → ℕ
  pub taken : ℕ
  pub agrees : AgreesOutside layout classes state.memory memory
  pub is : other ≡ loosened memory state.traffic.loose taken state

-- and so is what they come to, with one end
abbrev pub ComesLoosened : Layout → (Class → Bool) → Next Ideal IdealEnd → Next Ideal IdealEnd → Type 0
ComesLoosened layout classes (Goes state) (Goes other) = IsLoosened layout classes state other
ComesLoosened layout classes (Stops end state) (Stops final other) = (final ≡ end) × IsLoosened layout classes state other
ComesLoosened layout classes (Goes state) (Stops final other) = ⊥
ComesLoosened layout classes (Stops end state) (Goes other) = ⊥

-- from a state of the secure program, where code is not among the classes
abbrev pub RunsLoosen : Type 0
RunsLoosen =
    (layout : Layout) (fewer more : Class → Bool) → AreAmong fewer more → more Code ≡ false →
    (steps : ℕ) (state : Ideal) (memory : ℕ → ℕ) (taken : ℕ) → IsWholeState state → IsTrue (is_secure state.mode) → AgreesOutside layout more state.memory memory →
    (words : List (Entry ℕ))
    × ComesLoosened layout more (run (ideal_step layout fewer) steps state) (run (ideal_step layout more) steps (loosened memory words taken state))
