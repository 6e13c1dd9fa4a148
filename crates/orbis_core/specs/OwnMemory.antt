-- Promise: the memory of the ideal machine as a memory that a step is made over, and what the machine comes to by such a step.
use Rattle.std.specs.Prelude.{◌≡◌, ℕ, ◌^◌, ◌<◌, ◌≤◌, Bool, true, false, if◌then◌else◌, length, drop, Option, Some, None, Result, Ok, Err, slice_index}
use Rattle.execution.specs.Run.{Next, Goes, Stops}
use Rattle.execution.specs.Traffic.{Traffic, after_input, after_loose, after_release, after_check, after_suspension}
use Rattle.regions.specs.declared.Layout.{Layout}
use Rattle.regions.specs.declared.Mode.{Mode}
use Rattle.regions.specs.declared.Mode.TheVariants.{Te, Ptr}
use Rattle.regions.specs.declared.Access.TheVariants.{Read, Write, Fetch}
use Rattle.regions.specs.Modes.{SecureInstruction, Enter, Exit, IndexTrap, DivideTrap, Suspend, Resume, PrivateOn, PrivateOff, Release, Input, Check, allowed_in}
use Rattle.orbis_core.specs.declared.memory.Stop.{Stop}
use Rattle.orbis_core.specs.declared.memory.Stop.TheVariants as stop
use Rattle.orbis_core.specs.declared.memory.Why.{Why}
use Rattle.orbis_core.specs.declared.memory.Why.TheVariants as why
use Rattle.orbis_core.specs.declared.port.Port.{Port}
use Rattle.orbis_core.specs.declared.stepping.StepEnd.{StepEnd}
use Rattle.orbis_core.specs.declared.stepping.StepEnd.TheVariants as end
use Rattle.orbis_core.specs.Accesses.{Accesses}
use Rattle.orbis_core.specs.ByteOrder.{byte_in, with_byte, word_start}
use Rattle.orbis_core.specs.Ideal.{Ideal, IdealEnd, Outside, Ended, Index, Divide, Refused, is_among, machine_step, memory_stored, traffic_stored}
use Rattle.orbis_core.specs.Refusals.{answered, word_refusal, byte_refusal}
use Rattle.orbis_core.specs.Rows.{Machine, Steps}

-- the words of the ideal machine, with what decides about an access to them
pub record Own : Type 0 where
  pub layout : Layout
  pub outside : Outside
  pub mode : Mode
  pub memory : ℕ → ℕ
  pub traffic : Traffic ℕ

-- a load, which this may refuse, of a loose class or not, with what came from outside and the word of the memory; it has no answer where the machine is starved
abbrev pub OwnLoad : Option Why → Bool → Option ℕ → ℕ → Own → Result ℕ Stop → Own → Type 0
OwnLoad (Some reason) loose came word old answer new = (answer ≡ Err (stop.Refused reason)) × (new ≡ old)
OwnLoad None false came word old answer new = (answer ≡ Ok word) × (new ≡ old)
OwnLoad None true None word old answer new = ⊥
OwnLoad None true (Some taken) word old answer new = (answer ≡ Ok taken) × (new ≡ record old { traffic = after_loose old.traffic })

-- a store at an address of a value, which makes this the word there
abbrev pub OwnStore : Option Why → ℕ → ℕ → ℕ → Own → Result (Unit {0}) Stop → Own → Type 0
OwnStore (Some reason) at value word old answer new = (answer ≡ Err (stop.Refused reason)) × (new ≡ old)
OwnStore None at value word old answer new =
    (answer ≡ Ok tt)
    × (new ≡ record old { memory = memory_stored old.layout old.outside.is_loose at word old.memory; traffic = traffic_stored old.layout at value old.traffic })

-- what the five calls do
abbrev pub OwnFetches : Own → ℕ → Result ℕ Stop → Own → Type 0
OwnFetches old at answer new = (answer ≡ answered (word_refusal old.layout old.mode Fetch at) (old.memory at)) × (new ≡ old)

abbrev pub OwnLoadsWord : Own → ℕ → Result ℕ Stop → Own → Type 0
OwnLoadsWord old at answer new =
    OwnLoad (word_refusal old.layout old.mode Read at) (is_among old.outside.is_loose old.layout at) (old.outside.word at old.traffic) (old.memory at) old answer new

abbrev pub OwnLoadsByte : Own → ℕ → Result ℕ Stop → Own → Type 0
OwnLoadsByte old at answer new =
    OwnLoad (byte_refusal old.layout old.mode Read at) (is_among old.outside.is_loose old.layout at) (old.outside.byte at old.traffic)
    (byte_in (old.memory (word_start at)) at) old answer new

abbrev pub OwnStoresWord : Own → ℕ → ℕ → Result (Unit {0}) Stop → Own → Type 0
OwnStoresWord old at word answer new = OwnStore (word_refusal old.layout old.mode Write at) at word word old answer new

abbrev pub OwnStoresByte : Own → ℕ → ℕ → Result (Unit {0}) Stop → Own → Type 0
OwnStoresByte old at byte answer new =
    OwnStore (byte_refusal old.layout old.mode Write at) at byte (with_byte (old.memory (word_start at)) at byte) old answer new

abbrev pub own_accesses : Accesses Own
own_accesses = record {
  fetch = OwnFetches;
  load_word = OwnLoadsWord;
  load_byte = OwnLoadsByte;
  store_word = OwnStoresWord;
  store_byte = OwnStoresByte;
}

-- the ideal machine whose memory it is
abbrev pub ideal_of : Machine Own → Ideal
ideal_of machine = record { core = machine.core; mode = machine.memory.mode; memory = machine.memory.memory; traffic = machine.memory.traffic }

-- what is left of the port is the input that is left, and its elements are bytes
pub record HasInput (port : Port) (traffic : Traffic ℕ) : Type 0 where
  pub within : port.next ≤ length port.input.now
  pub bytes : (k : ℕ) → slice_index port.input.now k < 2 ^ 8
  pub rest : traffic.input ≡ drop port.next port.input.now

-- the secure instruction that a step did which ended so
abbrev pub secure_of_end : StepEnd → Option SecureInstruction
secure_of_end end.Next = None
secure_of_end end.Input = Some Input
secure_of_end (end.Released byte) = Some Release
secure_of_end end.Check = Some Check
secure_of_end end.Suspend = Some Suspend
secure_of_end end.Resume = Some Resume
secure_of_end end.Enter = Some Enter
secure_of_end (end.Private true) = Some PrivateOn
secure_of_end (end.Private false) = Some PrivateOff
secure_of_end end.Exit = Some Exit
secure_of_end (end.Index place) = Some IndexTrap
secure_of_end (end.Divide place) = Some DivideTrap
secure_of_end (end.Stopped reason) = None

-- the test of the mode
abbrev pub is_permitted : Option SecureInstruction → Mode → Bool
is_permitted None mode = true
is_permitted (Some instruction) mode = allowed_in instruction mode

-- what the machine comes to by a step that the mode permits, from where the step over its memory has come to: what goes out and comes in is exactly this
abbrev pub comes_to : StepEnd → Ideal → Next Ideal IdealEnd
comes_to end.Next after = Goes after
comes_to end.Input after = Goes (record after { traffic = after_input after.traffic })
comes_to (end.Released byte) after = Goes (record after { traffic = after_release byte after.traffic })
comes_to end.Check after = Goes (record after { traffic = after_check after.traffic })
comes_to end.Suspend after = Goes (record after { traffic = after_suspension after.traffic })
comes_to end.Resume after = Goes after
comes_to end.Enter after = Goes (record after { mode = Te })
comes_to (end.Private true) after = Goes (record after { mode = Ptr })
comes_to (end.Private false) after = Goes (record after { mode = Te })
comes_to end.Exit after = Stops Ended after
comes_to (end.Index place) after = Stops (Index place) after
comes_to (end.Divide place) after = Stops (Divide place) after
comes_to (end.Stopped reason) after = Goes after

-- what the machine does by a step that ends so, from an old state to a new one; it is refused where the step is, or where the mode forbids it
abbrev pub Answers : StepEnd → Ideal → Ideal → Next Ideal IdealEnd → Type 0
Answers (end.Stopped (stop.Refused reason)) old after next = next ≡ Stops (Refused reason) old
Answers (end.Stopped (stop.Tree event)) old after next = ⊥
Answers (end.Stopped (stop.Log event)) old after next = ⊥
Answers ended old after next = next ≡ (if is_permitted (secure_of_end ended) old.mode then comes_to ended after else Stops (Refused why.Mode) old)

-- a step over the machine's own memory, with the test of the mode, is the machine's step
abbrev pub OwnStepIsIdeal : Type 0
OwnStepIsIdeal =
    (old new : Machine Own) (ended : StepEnd) → HasInput old.port old.memory.traffic → Steps own_accesses old ended new →
    Answers ended (ideal_of old) (ideal_of new) (machine_step old.memory.layout old.memory.outside (ideal_of old))
