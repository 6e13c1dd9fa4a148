-- Promise: what untrusted code does while the secure program is suspended: the instruction table in the mode SSP, from zero registers, over
-- open words that are read and written off the chip.
use Rattle.std.specs.Prelude.{◌≡◌, ℕ, ◌%◌, ◌==◌, ◌&&◌, nat_lt, Bool, true, false, List, [], ◌∷◌, ◌++◌, Option, Some, None, filter_map}
use Rattle.execution.specs.Run.{Next, Goes, Stops, run}
use Rattle.regions.specs.declared.addresses.TheConstants.{OPEN_END, UNTRUSTED_START}
use Rattle.regions.specs.declared.rights.Mode.TheVariants.{Ssp}
use Rattle.regions.specs.Modes.{allowed_in}
use Rattle.off_chip.specs.declared.event.Event.{Event}
use Rattle.off_chip.specs.declared.event.Event.TheVariants.{WordRead, WordWrite, Note}
use Rattle.off_chip.specs.declared.event.Mark.TheVariants.{Retire}
use Rattle.off_chip.specs.declared.event.Who.TheVariants.{Untrusted}
use Rattle.orbis_word.specs.declared.Instr.{Instr}
use Rattle.orbis_word.specs.Reading.{instruction_in}
use Rattle.orbis_core.specs.declared.effect.Effect.{Effect}
use Rattle.orbis_core.specs.declared.effect.Effect.TheVariants as effect
use Rattle.orbis_core.specs.ByteOrder.{byte_in, with_byte, word_start}
use Rattle.orbis_core.specs.Effects.{effect_of}
use Rattle.orbis_core.specs.Processor.{Processor, written, advanced, core_after, reset_core}
use Rattle.orbis_core.specs.Secure.{secure_of}
use Rattle.untrusted_run.specs.declared.phase.TheConstants.{MAX_INSTRUCTIONS}
use Rattle.untrusted_run.specs.declared.phase.UntrustedEnd.{UntrustedEnd}
use Rattle.untrusted_run.specs.declared.phase.UntrustedEnd.TheVariants as ends

-- the core, the words that its reads are still to give, and the events that it made, in order
pub record Phase : Type 0 where
  pub core : Processor
  pub words : List ℕ
  pub events : List Event

-- Why it is over: by its resume instruction, or by an instruction that is refused. Where a read has no word to give, it is wanting, which
-- no phase on a bus is.
pub data PhaseEnd : Type 0 where
  Resumed : PhaseEnd
  Refused : PhaseEnd
  Wanting : PhaseEnd

-- what comes after a phase so far, and what is still to be done in an instruction
abbrev pub PhaseNext : Type 0
PhaseNext = Next Phase PhaseEnd

abbrev pub Rest : Type 0
Rest = Phase → PhaseNext

-- an event is made
abbrev pub making : Event → Phase → Phase
making event phase = record phase { events = phase.events ++ event ∷ [] }

-- an instruction is done, and leaves this core
abbrev pub done : Processor → Phase → Phase
done core phase = making (Note (Retire Untrusted)) (record phase { core = core })

abbrev pub retiring : Processor → Rest
retiring core phase = Goes (done core phase)

-- goes on where this is granted, and else it is refused
abbrev pub granted : Bool → Rest → Rest
granted true rest phase = rest phase
granted false rest phase = Stops Refused phase

-- untrusted code may access open addresses alone, and words where they begin
abbrev pub may_access_byte : ℕ → Bool
may_access_byte at = nat_lt at OPEN_END

abbrev pub may_access_word : ℕ → Bool
may_access_word at = nat_lt at OPEN_END && at % 4 == 0

-- the next word is read at an address
abbrev pub taking : List ℕ → ℕ → (ℕ → Rest) → Rest
taking [] at rest phase = Stops Wanting phase
taking (word ∷ words) at rest phase = rest word (making (WordRead Untrusted at word) (record phase { words = words }))

abbrev pub reading : ℕ → (ℕ → Rest) → Rest
reading at rest phase = taking phase.words at rest phase

-- a word is written, which is the last thing that an instruction has to do
abbrev pub writing : ℕ → ℕ → Rest
writing at word phase = retiring (advanced phase.core) (making (WordWrite Untrusted at word) phase)

-- of the secure instructions one alone is allowed here, and the phase ends after it
abbrev pub resuming : Rest
resuming phase = Stops Resumed (done (advanced phase.core) phase)

-- what an instruction asks for is done; a byte is written into its word, which is read before
abbrev pub carrying : Effect → Rest
carrying (effect.LoadWord d at) = granted (may_access_word at) (reading at (λ word phase. retiring (written phase.core d word) phase))
carrying (effect.LoadByte d at) =
    granted (may_access_byte at) (reading (word_start at) (λ word phase. retiring (written phase.core d (byte_in word at)) phase))
carrying (effect.StoreWord at word) = granted (may_access_word at) (writing at word)
carrying (effect.StoreByte at byte) =
    granted (may_access_byte at) (reading (word_start at) (λ word. writing (word_start at) (with_byte word at byte)))
carrying (effect.Secure f) = granted (allowed_in (secure_of f) Ssp) resuming
carrying effect.DivideByZero = Stops Refused
carrying asked = λ phase. retiring (core_after asked phase.core) phase

-- the row of an instruction; a word that is none is refused
abbrev pub executing : Option Instr → Rest
executing None phase = Stops Refused phase
executing (Some instruction) phase = carrying (effect_of instruction phase.core) phase

-- one instruction: the word at the program counter is fetched, and its row is done
abbrev pub phase_step : Phase → PhaseNext
phase_step phase = granted (may_access_word phase.core.pc) (reading phase.core.pc (λ word. executing (instruction_in word))) phase

-- it begins with zero registers, where untrusted code starts
abbrev pub phase_start : List ℕ → Phase
phase_start words = record { core = reset_core UNTRUSTED_START; words = words; events = [] }

-- the word that an event of untrusted code reads
abbrev pub untrusted_read : Event → Option ℕ
untrusted_read (WordRead Untrusted at word) = Some word
untrusted_read event = None

-- the words that events hold which untrusted code read
abbrev pub untrusted_reads : List Event → List ℕ
untrusted_reads events = filter_map untrusted_read events

-- how it has ended; where it has not, it was cut off
abbrev pub EndsSo : PhaseNext → UntrustedEnd → Phase → Type 0
EndsSo next ends.Resumed phase = next ≡ Stops Resumed phase
EndsSo next ends.Refused phase = next ≡ Stops Refused phase
EndsSo next ends.Watchdog phase = next ≡ Goes phase

-- These events are those of a phase that ends so: of at most so many instructions, over the words that the events hold.
pub record IsPhase (events : List Event) (end : UntrustedEnd) : Type 0 where
  pub at : Phase
  pub ends : EndsSo (run phase_step MAX_INSTRUCTIONS (phase_start (untrusted_reads events))) end at
  pub events_are : at.events ≡ events
  pub all_read : at.words ≡ []
