-- Promise: flat memory is the ideal memory, in the rights of TE and of PTR, and both machines begin alike.
use Rattle.std.specs.Prelude.{◌≡◌, ℕ, ◌*◌, ◌+◌, ◌%◌, ◌^◌, ◌<◌, ◌⊎◌, IsTrue, List, Option, Some, IsSome, length, slice_index}
use Rattle.execution.specs.Run.{Next, Stops}
use Rattle.execution.specs.Traffic.{Entry, Traffic, after_input}
use Rattle.regions.specs.declared.addresses.TheConstants.{BLOCK_BYTES}
use Rattle.regions.specs.declared.Layout.{Layout}
use Rattle.regions.specs.declared.Class.TheVariants.{Private}
use Rattle.regions.specs.declared.Mode.TheVariants.{Std, Te}
use Rattle.regions.specs.Addresses.{class_at}
use Rattle.regions.specs.LooseClasses.{nothing_loose}
use Rattle.regions.specs.Modes.{Enter, is_secure, modes_after}
use Rattle.orbis_core.specs.declared.effect.Effect.{Effect}
use Rattle.orbis_core.specs.declared.effect.Effect.TheVariants.{StoreWord, StoreByte}
use Rattle.orbis_core.specs.declared.memory.Why.TheVariants.{Rights}
use Rattle.orbis_core.specs.declared.port.Port.{Port}
use Rattle.orbis_core.specs.declared.stepping.StepEnd.{StepEnd}
use Rattle.orbis_core.specs.declared.stepping.StepEnd.TheVariants.{Input}
use Rattle.orbis_core.specs.FlatMemory.{Flat, flat_accesses, flat_of, flat_word, word_count}
use Rattle.orbis_core.specs.Ideal.{Ideal, IdealEnd, Refused, accessed_at, effect_at, entry_address, ideal_start, ideal_step, traffic_stored}
use Rattle.orbis_core.specs.OwnMemory.{Answers, HasInput}
use Rattle.orbis_core.specs.Processor.{reset_core}
use Rattle.orbis_core.specs.Rows.{IsNoStop, Machine, Steps}

-- the flat memory has all its words, and each of them is that of the ideal machine at its address
pub record HasWords (flat : Flat) (memory : ℕ → ℕ) : Type 0 where
  pub whole : length flat.words ≡ word_count flat.layout
  pub each : (at : ℕ) → at % 4 ≡ 0 → IsSome (class_at flat.layout at) → memory at ≡ flat_word flat at

-- both machines are at the same place
pub record IsTied (machine : Machine Flat) (state : Ideal) : Type 0 where
  pub core : state.core ≡ machine.core
  pub words : HasWords machine.memory state.memory
  pub input : HasInput machine.port state.traffic

-- what has gone out by a step that asks for this: a word that it stores to a shared place
abbrev pub noted : Layout → Option Effect → Traffic ℕ → Traffic ℕ
noted layout (Some (StoreWord at word)) traffic = traffic_stored layout at word traffic
noted layout (Some (StoreByte at byte)) traffic = traffic_stored layout at byte traffic
noted layout asked traffic = traffic

-- what has come in and gone out by a step that ends so
abbrev pub traffic_read : StepEnd → Traffic ℕ → Traffic ℕ
traffic_read Input traffic = after_input traffic
traffic_read ended traffic = traffic

-- the ideal machine comes to where the step over flat memory does
pub record Follows (old new : Machine Flat) (ended : StepEnd) (state : Ideal) (next : Next Ideal IdealEnd) : Type 0 where
  pub after : Ideal
  pub core : after.core ≡ new.core
  pub mode : after.mode ≡ state.mode
  pub words : HasWords new.memory after.memory
  pub traffic : IsNoStop ended → after.traffic ≡ noted old.memory.layout (effect_at state) state.traffic
  pub input : HasInput new.port (traffic_read ended after.traffic)
  pub answers : Answers ended state after next

-- the machine in TE is refused, since the step loads from or stores to a private address
pub record IsKeptOut (layout : Layout) (state : Ideal) (next : Next Ideal IdealEnd) : Type 0 where
  pub mode : state.mode ≡ Te
  pub at : ℕ
  pub accessed : accessed_at state ≡ Some at
  pub hidden : class_at layout at ≡ Some Private
  pub refused : next ≡ Stops (Refused Rights) state

-- in TE and PTR each step over flat memory is such a step, but that flat memory lets the machine in TE use its private words
abbrev pub FlatStepIsIdeal : Type 0
FlatStepIsIdeal =
    (old new : Machine Flat) (ended : StepEnd) (state : Ideal) → IsTrue (is_secure state.mode) → IsTied old state → Steps flat_accesses old ended new →
    Follows old new ended state (ideal_step old.memory.layout nothing_loose state) ⊎ IsKeptOut old.memory.layout state (ideal_step old.memory.layout nothing_loose state)

-- a new core at the entry, a new flat memory and a port at 0 are tied to the start of the ideal machine, whose mode is that of a mode unit that was new and entered
pub record StartsTied (layout : Layout) (statics : List ℕ) (entry : ℕ) (port : Port) (loose : List (Entry ℕ)) : Type 0 where
  pub tied : IsTied (record { core = reset_core (entry_address layout entry); memory = flat_of layout statics; port = port })
      (ideal_start layout statics entry port.input.now loose)
  pub mode : (ideal_start layout statics entry port.input.now loose).mode ≡ (modes_after Enter (record { mode = Std; kept = Te })).mode

abbrev pub FlatStartIsIdeal : Type 0
FlatStartIsIdeal =
    (layout : Layout) (statics : List ℕ) (entry : ℕ) (port : Port) (loose : List (Entry ℕ)) → length statics ≡ BLOCK_BYTES * (layout.constants + layout.code) → port.next ≡ 0 →
    ((k : ℕ) → slice_index port.input.now k < 2 ^ 8) → StartsTied layout statics entry port loose
