-- Promise: one step of the processor over a memory: one row of the instruction table, over the answers of the memory.
use Rattle.std.specs.Prelude.{◌≡◌, ◌≢◌, ℕ, ◌+◌, Option, Some, None, Result, Ok, Err}
use Rattle.orbis_word.specs.declared.Instr.{Instr}
use Rattle.orbis_word.specs.Reading.{instruction_in}
use Rattle.orbis_core.specs.declared.effect.Effect.{Effect}
use Rattle.orbis_core.specs.declared.effect.Effect.TheVariants.{LoadWord, LoadByte, StoreWord, StoreByte, DivideByZero, Secure}
use Rattle.orbis_core.specs.declared.memory.Stop.{Stop}
use Rattle.orbis_core.specs.declared.memory.Stop.TheVariants.{Refused, Tree, Log}
use Rattle.orbis_core.specs.declared.memory.Why.TheVariants.{Illegal, Divide}
use Rattle.orbis_core.specs.declared.port.Port.{Port}
use Rattle.orbis_core.specs.declared.stepping.StepEnd.{StepEnd}
use Rattle.orbis_core.specs.declared.stepping.StepEnd.TheVariants.{Next, Stopped}
use Rattle.orbis_core.specs.Accesses.{Accesses}
use Rattle.orbis_core.specs.Effects.{effect_of}
use Rattle.orbis_core.specs.Processor.{Processor, written, advanced, core_after}
use Rattle.orbis_core.specs.Secure.{secure_of, secure_end, secure_core, secure_port}

-- the processor, its memory and its input
pub record Machine (M : Type 0) : Type 0 where
  pub core : Processor
  pub memory : M
  pub port : Port

-- a machine with another memory
abbrev pub over : {M N : Type 0} → N → Machine M → Machine N
over memory machine = record { core = machine.core; memory = memory; port = machine.port }

-- the step ends so, with this processor and this port, and the memory stays as it is
pub record Leaves {M : Type 0} (end : StepEnd) (processor : Processor) (input : Port) (old : Machine M) (result : StepEnd) (new : Machine M) : Type 0 where
  pub ends : result ≡ end
  pub core : new.core ≡ processor
  pub memory : new.memory ≡ old.memory
  pub port : new.port ≡ input

-- a step that is stopped leaves the processor, the memory and the port as they are
abbrev pub IsStopped : {M : Type 0} → Stop → Machine M → StepEnd → Machine M → Type 0
IsStopped stop old end new = Leaves (Stopped stop) old.core old.port old end new

-- how a step ends after the answer of an access
abbrev pub end_after : {T : Type 0} → Result T Stop → StepEnd
end_after (Ok value) = Next
end_after (Err stop) = Stopped stop

-- the processor after the answer of a load, and after that of a store
abbrev pub core_loaded : ℕ → Result ℕ Stop → Processor → Processor
core_loaded d (Ok word) core = written core d word
core_loaded d (Err stop) core = core

abbrev pub core_stored : {T : Type 0} → Result T Stop → Processor → Processor
core_stored (Ok value) core = advanced core
core_stored (Err stop) core = core

-- the memory answers a load at the address, and the answer goes to the register
pub record Loads {M : Type 0} (load : M → ℕ → Result ℕ Stop → M → Type 0) (d at : ℕ) (old : Machine M) (end : StepEnd) (new : Machine M) : Type 0 where
  pub answer : Result ℕ Stop
  pub loaded : load old.memory at answer new.memory
  pub ends : end ≡ end_after answer
  pub core : new.core ≡ core_loaded d answer old.core
  pub port : new.port ≡ old.port

-- the memory answers a store of the value at the address
pub record Stores {M : Type 0} (store : M → ℕ → ℕ → Result (Unit {0}) Stop → M → Type 0) (at value : ℕ) (old : Machine M) (end : StepEnd) (new : Machine M) : Type 0 where
  pub answer : Result (Unit {0}) Stop
  pub stored : store old.memory at value answer new.memory
  pub ends : end ≡ end_after answer
  pub core : new.core ≡ core_stored answer old.core
  pub port : new.port ≡ old.port

-- what an instruction asks for is done
abbrev pub Carries : {M : Type 0} → Accesses M → Effect → Machine M → StepEnd → Machine M → Type 0
Carries accesses (LoadWord d at) old end new = Loads accesses.load_word d at old end new
Carries accesses (LoadByte d at) old end new = Loads accesses.load_byte d at old end new
Carries accesses (StoreWord at word) old end new = Stores accesses.store_word at word old end new
Carries accesses (StoreByte at byte) old end new = Stores accesses.store_byte at byte old end new
Carries accesses DivideByZero old end new = IsStopped (Refused Divide) old end new
Carries accesses (Secure f) old end new =
    Leaves (secure_end (secure_of f) old.core) (secure_core (secure_of f) old.port old.core) (secure_port (secure_of f) old.port) old end new
Carries accesses effect old end new = Leaves Next (core_after effect old.core) old.port old end new

-- after a word: the row of the instruction that it is, or Illegal where it is none
abbrev pub Executes : {M : Type 0} → Accesses M → Option Instr → Machine M → StepEnd → Machine M → Type 0
Executes accesses (Some instruction) old end new = Carries accesses (effect_of instruction old.core) old end new
Executes accesses None old end new = IsStopped (Refused Illegal) old end new

-- after a fetch: what the word says, or the stop of the memory
abbrev pub GoesOnAfter : {M : Type 0} → Accesses M → Result ℕ Stop → Machine M → StepEnd → Machine M → Type 0
GoesOnAfter accesses (Ok word) old end new = Executes accesses (instruction_in word) old end new
GoesOnAfter accesses (Err stop) old end new = IsStopped stop old end new

-- one step: the fetch at the program counter, and what its answer says, from the memory that the fetch left
pub record Steps {M : Type 0} (accesses : Accesses M) (old : Machine M) (end : StepEnd) (new : Machine M) : Type 0 where
  pub answer : Result ℕ Stop
  pub middle : M
  pub fetched : accesses.fetch old.memory old.core.pc answer middle
  pub goes_on : GoesOnAfter accesses answer (record old { memory = middle }) end new

-- where a step is stopped, the processor and the port are as they were
abbrev pub StopsUnchanged : {M : Type 0} → Machine M → StepEnd → Machine M → Type 0
StopsUnchanged old end new = (stop : Stop) → end ≡ Stopped stop → (new.core ≡ old.core) × (new.port ≡ old.port)

-- the step is not stopped
abbrev pub IsNoStop : StepEnd → Type 0
IsNoStop end = (stop : Stop) → end ≢ Stopped stop

-- no check of the memory failed
abbrev pub IsSettledEnd : StepEnd → Type 0
IsSettledEnd (Stopped (Tree event)) = ⊥
IsSettledEnd (Stopped (Log event)) = ⊥
IsSettledEnd end = Unit {0}

-- after a step in which no check of the memory failed at most so many accesses fewer are left
abbrev pub LeavesFewer : {M : Type 0} → ℕ → (M → ℕ → Type 0) → M → StepEnd → M → Type 0
LeavesFewer fewer has_left old end new = IsSettledEnd end → (n : ℕ) → has_left old (n + fewer) → has_left new n

-- a step uses two accesses
abbrev pub StepsLeaveFewer : {M : Type 0} → Accesses M → (M → ℕ → Type 0) → Type 0
StepsLeaveFewer {M} accesses has_left =
    (old new : Machine M) (end : StepEnd) → Steps accesses old end new → LeavesFewer 2 has_left old.memory end new.memory
