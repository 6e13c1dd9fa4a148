-- Promise: the ideal machine: the processor on a flat memory, with no cache, tree, log, stamp or untrusted code, and words of some classes that come from outside.
use Rattle.std.specs.Prelude.{ℕ, ◌+◌, ◌-◌, ◌*◌, ◌/◌, ◌%◌, ◌^◌, Bool, false, ◌&&◌, nat_eq, nat_le, nat_lt, if◌then◌else◌, List, Option, Some, None, option_and_then, option_map, unwrap_or, slice_index}
use Rattle.execution.specs.Run.{Next, Goes, Stops, run}
use Rattle.execution.specs.Traffic.{Entry, Traffic, traffic_from, input_word, after_input, loose_word, after_loose, after_release, after_write, after_check, after_suspension}
use Rattle.orbis_word.specs.declared.Instr.{Instr}
use Rattle.orbis_word.specs.Reading.{instruction_in}
use Rattle.regions.specs.declared.Layout.{Layout}
use Rattle.regions.specs.declared.Mode.{Mode}
use Rattle.regions.specs.declared.Mode.TheVariants.{Te}
use Rattle.regions.specs.declared.Class.{Class}
use Rattle.regions.specs.declared.Class.TheVariants.{Constant, Code}
use Rattle.regions.specs.declared.Access.TheVariants.{Read, Write, Fetch}
use Rattle.regions.specs.Addresses.{class_at, start_of, end_of}
use Rattle.regions.specs.LooseClasses.{nothing_loose, shared_loose}
use Rattle.regions.specs.Modes.{SecureInstruction, Exit, IndexTrap, DivideTrap, Suspend, Release, Input, Check, allowed_in, new_modes}
use Rattle.orbis_core.specs.declared.effect.Effect.{Effect}
use Rattle.orbis_core.specs.declared.effect.Effect.TheVariants as effect
use Rattle.orbis_core.specs.declared.memory.Why.{Why}
use Rattle.orbis_core.specs.declared.memory.Why.TheVariants as why
use Rattle.orbis_core.specs.ByteOrder.{words_in, byte_in, with_byte, updated, word_start}
use Rattle.orbis_core.specs.Effects.{effect_of}
use Rattle.orbis_core.specs.Processor.{Processor, register, written, advanced, core_after, reset_core}
use Rattle.orbis_core.specs.Refusals.{word_refusal, byte_refusal}
use Rattle.orbis_core.specs.Secure.{secure_of}

-- the processor, its mode, the word at each address that is divisible by four, and what comes in and goes out, by addresses
pub record Ideal : Type 0 where
  pub core : Processor
  pub mode : Mode
  pub memory : ℕ → ℕ
  pub traffic : Traffic ℕ

-- how a run ends: at the exit, at an index out of range or a zero divisor in the source with its place, for want of a loose word,
-- or since an access or an instruction is refused
pub data IdealEnd : Type 0 where
  Ended : IdealEnd
  Index : (place : ℕ) → IdealEnd
  Divide : (place : ℕ) → IdealEnd
  Starved : IdealEnd
  Refused : (why : Why) → IdealEnd

-- Where loose words come from: which classes are loose, and what a load of a word or of a byte at an address of such a class gives,
-- by what is still to come in. It gives nothing where the machine is starved.
pub record Outside : Type 0 where
  pub is_loose : Class → Bool
  pub word : ℕ → Traffic ℕ → Option ℕ
  pub byte : ℕ → Traffic ℕ → Option ℕ

-- the next loose word, if it has this address; a byte load takes it modulo 256
abbrev pub from_entries : (Class → Bool) → Outside
from_entries loose = record {
  is_loose = loose;
  word = λ at traffic. loose_word nat_eq at traffic;
  byte = λ at traffic. option_map (λ word. word % 2 ^ 8) (loose_word nat_eq at traffic);
}

-- shared words alone, as they were read at the addresses of words; a byte load takes the byte there of the word that it lies in
abbrev pub from_reads : (ℕ → Option ℕ) → Outside
from_reads read = record {
  is_loose = shared_loose;
  word = λ at traffic. read at;
  byte = λ at traffic. option_map (λ word. byte_in word at) (read (word_start at));
}

-- nothing
abbrev pub from_nowhere : Outside
from_nowhere = from_entries nothing_loose

-- the class of an address is one of these
abbrev pub is_among : (Class → Bool) → Layout → ℕ → Bool
is_among classes layout at = unwrap_or (option_map classes (class_at layout at)) false

-- goes on so, unless this refuses it
abbrev pub unless : Option Why → Ideal → Next Ideal IdealEnd → Next Ideal IdealEnd
unless None state next = next
unless (Some why) state next = Stops (Refused why) state

-- a load ends with this word in the register
abbrev pub loaded : ℕ → ℕ → Ideal → Next Ideal IdealEnd
loaded d word state = Goes (record state { core = written state.core d word })

-- a loose load ends with what came from outside
abbrev pub taken : ℕ → Option ℕ → Ideal → Next Ideal IdealEnd
taken d None state = Stops Starved state
taken d (Some word) state = loaded d word (record state { traffic = after_loose state.traffic })

-- a load at an address: what came from outside if the class there is loose, and else what the memory has
abbrev pub loads : Layout → Outside → ℕ → ℕ → Option ℕ → ℕ → Ideal → Next Ideal IdealEnd
loads layout outside d at came word state = if is_among outside.is_loose layout at then taken d came state else loaded d word state

-- the memory after a store of a word, which changes nothing where the class is loose
abbrev pub memory_stored : Layout → (Class → Bool) → ℕ → ℕ → (ℕ → ℕ) → ℕ → ℕ
memory_stored layout loose at word memory = if is_among loose layout at then memory else updated memory (word_start at) word

-- what has gone out after a store, which is noted where the words are shared
abbrev pub traffic_stored : Layout → ℕ → ℕ → Traffic ℕ → Traffic ℕ
traffic_stored layout at value traffic = if is_among shared_loose layout at then after_write at value traffic else traffic

-- a store at an address of a value, which makes this the word there
abbrev pub stores : Layout → (Class → Bool) → ℕ → ℕ → ℕ → Ideal → Next Ideal IdealEnd
stores layout loose at value word state = Goes (record state {
  core = advanced state.core;
  memory = memory_stored layout loose at word state.memory;
  traffic = traffic_stored layout at value state.traffic;
})

-- a secure instruction that the mode allows; a suspension, whose mode comes back, and a check change nothing but the program counter
abbrev pub secured : SecureInstruction → Ideal → Next Ideal IdealEnd
secured Exit state = Stops Ended (record state { core = advanced state.core })
secured IndexTrap state = Stops (Index (register state.core 3)) (record state { core = advanced state.core })
secured DivideTrap state = Stops (Divide (register state.core 3)) (record state { core = advanced state.core })
secured Suspend state = Goes (record state { core = advanced state.core; traffic = after_suspension state.traffic })
secured Check state = Goes (record state { core = advanced state.core; traffic = after_check state.traffic })
secured Release state = Goes (record state { core = advanced state.core; traffic = after_release (register state.core 3) state.traffic })
secured Input state = Goes (record state { core = written state.core 11 (input_word state.traffic); traffic = after_input state.traffic })
secured instruction state =
    Goes (record state { core = advanced state.core; mode = (new_modes instruction (record { mode = state.mode; kept = state.mode })).mode })

-- a secure instruction, by the test of the mode
abbrev pub permitted : SecureInstruction → Ideal → Next Ideal IdealEnd
permitted instruction state = if allowed_in instruction state.mode then secured instruction state else Stops (Refused why.Mode) state

-- what an instruction asks for is done
abbrev pub carried : Layout → Outside → Effect → Ideal → Next Ideal IdealEnd
carried layout outside (effect.LoadWord d at) state =
    unless (word_refusal layout state.mode Read at) state (loads layout outside d at (outside.word at state.traffic) (state.memory at) state)
carried layout outside (effect.LoadByte d at) state =
    unless (byte_refusal layout state.mode Read at) state
    (loads layout outside d at (outside.byte at state.traffic) (byte_in (state.memory (word_start at)) at) state)
carried layout outside (effect.StoreWord at word) state =
    unless (word_refusal layout state.mode Write at) state (stores layout outside.is_loose at word word state)
carried layout outside (effect.StoreByte at byte) state =
    unless (byte_refusal layout state.mode Write at) state
    (stores layout outside.is_loose at byte (with_byte (state.memory (word_start at)) at byte) state)
carried layout outside (effect.Secure f) state = permitted (secure_of f) state
carried layout outside effect.DivideByZero state = Stops (Refused why.Divide) state
carried layout outside asked state = Goes (record state { core = core_after asked state.core })

-- the row of an instruction, or none where the word is no instruction
abbrev pub executed : Layout → Outside → Option Instr → Ideal → Next Ideal IdealEnd
executed layout outside None state = Stops (Refused why.Illegal) state
executed layout outside (Some instruction) state = carried layout outside (effect_of instruction state.core) state

-- what the word at the program counter asks for, if it is an instruction
abbrev pub instruction_at : Ideal → Option Instr
instruction_at state = instruction_in (state.memory state.core.pc)

-- one step: the word at the program counter is fetched, and its row is done
abbrev pub machine_step : Layout → Outside → Ideal → Next Ideal IdealEnd
machine_step layout outside state = unless (word_refusal layout state.mode Fetch state.core.pc) state (executed layout outside (instruction_at state) state)

-- one step with a list of loose words, of these classes
abbrev pub ideal_step : Layout → (Class → Bool) → Ideal → Next Ideal IdealEnd
ideal_step layout loose = machine_step layout (from_entries loose)

-- What a step does, as other layers speak of it:

-- the address that it fetches from, and the one that it loads from or stores to, if there is one
abbrev pub fetched_at : Ideal → ℕ
fetched_at state = state.core.pc

abbrev pub effect_at : Ideal → Option Effect
effect_at state = option_map (λ instruction. effect_of instruction state.core) (instruction_at state)

abbrev pub accessed_by : Effect → Option ℕ
accessed_by (effect.LoadWord d at) = Some at
accessed_by (effect.LoadByte d at) = Some at
accessed_by (effect.StoreWord at word) = Some at
accessed_by (effect.StoreByte at byte) = Some at
accessed_by asked = None

abbrev pub accessed_at : Ideal → Option ℕ
accessed_at state = option_and_then accessed_by (effect_at state)

-- the secure instruction that it asks for, if it does: a check, the exit, a trap, a release, a suspension and so on
abbrev pub secure_by : Effect → Option SecureInstruction
secure_by (effect.Secure f) = Some (secure_of f)
secure_by asked = None

abbrev pub secure_at : Ideal → Option SecureInstruction
secure_at state = option_and_then secure_by (effect_at state)

-- The start:

-- the words before the first step: the constant and code blocks have these bytes, and all else is zero
abbrev pub static_memory : Layout → List ℕ → ℕ → ℕ
static_memory layout statics at =
    if nat_le (start_of layout Constant) at && nat_lt at (end_of layout Code) then slice_index (words_in statics) ((at - start_of layout Constant) / 4) else 0

-- the address of a word of the code, by its number
abbrev pub entry_address : Layout → ℕ → ℕ
entry_address layout entry = start_of layout Code + 4 * entry

-- before the first step the machine stands in TE at the entry, with the static blocks, the input and the loose words to come
abbrev pub ideal_start : Layout → List ℕ → ℕ → List ℕ → List (Entry ℕ) → Ideal
ideal_start layout statics entry input loose =
    record { core = reset_core (entry_address layout entry); mode = Te; memory = static_memory layout statics; traffic = traffic_from input loose }

-- so many steps of the machine on an image, with these classes loose
abbrev pub ideal_run : Layout → (Class → Bool) → List ℕ → ℕ → List ℕ → List (Entry ℕ) → ℕ → Next Ideal IdealEnd
ideal_run layout loose statics entry input words steps = run (ideal_step layout loose) steps (ideal_start layout statics entry input words)
