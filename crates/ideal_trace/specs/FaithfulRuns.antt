-- Promise: what is told of each event of a trace, from which it follows that the bus machine of a faithful trace is the ideal machine.
use Rattle.std.specs.Prelude.{◌≡◌, ℕ, ◌*◌, ◌%◌, ◌^◌, ◌<◌, ◌≤◌, Bool, true, ⊤, List, [], ◌∷◌, length, Option, Some}
use Rattle.std.specs.List.{AllByRecursion}
use Rattle.execution.specs.Run.{Goes}
use Rattle.execution.specs.Traffic.{Entry}
use Rattle.aegis_num.specs.declared.Place.{Place}
use Rattle.regions.specs.declared.Layout.{Layout}
use Rattle.regions.specs.LooseClasses.{shared_loose}
use Rattle.off_chip.specs.declared.Event.{Event}
use Rattle.off_chip.specs.declared.Event.TheVariants.{BlockRead, WordRead, Note}
use Rattle.off_chip.specs.declared.Mark.TheVariants.{Enter}
use Rattle.off_chip.specs.Histories.{History, ◌◂◌, in_order, Each}
use Rattle.off_chip.specs.Boundaries.{enter_events, is_retire, since_step}
use Rattle.off_chip.specs.ExchangedWords.{words_read, words_written}
use Rattle.off_chip.specs.FaithfulReads.{AllFaithful}
use Rattle.orbis_core.specs.declared.Effect.{Effect}
use Rattle.orbis_core.specs.declared.Effect.TheVariants as effect
use Rattle.orbis_core.specs.ByteOrder.{with_byte, word_start}
use Rattle.orbis_core.specs.Ideal.{Ideal, effect_at, is_among}
use Rattle.orbis_core.specs.Soundness.{IsSound}
use Rattle.bus_machine.specs.BusAccesses.{ByClass, is_block_event}
use Rattle.bus_machine.specs.BusMachine.{LoadedProgram, Veil, bus_machine, memory_after}

-- ---- the program

-- its blocks consist of bytes, it begins within its code, and it is sound
pub record IsSoundProgram (program : LoadedProgram) : Type 0 where
  pub statics : AllByRecursion (λ byte. byte < 2 ^ 8) program.statics
  pub entry : program.entry < 16 * program.layout.code
  pub sound : IsSound program.layout program.statics program.entry

-- ---- entering

-- the mark of entering, or an event of a block
abbrev pub is_entering : Event → Bool
is_entering (Note Enter) = true
is_entering event = is_block_event event

-- until entering is over no other event comes: no instruction is done, and no open word is exchanged
abbrev pub EntersSilently : LoadedProgram → Event → History → Type 0
EntersSilently program event older = length (in_order older) < enter_events program.layout → is_entering event ≡ true

-- ---- what reads give

-- a read gives a word below 2 ^ 32, or a payload of bytes
abbrev pub GivesBytes : Event → Type 0
GivesBytes (WordRead by at word) = word < 2 ^ 32
GivesBytes (BlockRead at block) = AllByRecursion (λ byte. byte < 2 ^ 8) block.payload
GivesBytes event = ⊤

-- two memories have the same words: no word starts at another address than one that is divisible by four
pub record HasSameWords (one other : ℕ → ℕ) : Type 0 where
  pub word : (at : ℕ) → at % 4 ≡ 0 → other at ≡ one at

-- Where each block read so far is faithful, a block read after entering gives the words that the memory of the bus machine has there.
abbrev pub KeepsMemory : (Place → Option (List ℕ)) → Veil → LoadedProgram → Event → History → Type 0
KeepsMemory image veil program (BlockRead at block) older =
    (state : Ideal) → enter_events program.layout ≤ length (in_order older) → bus_machine veil program older ≡ Goes state
    → AllFaithful image (BlockRead at block ◂ older) → HasSameWords state.memory (memory_after program.layout veil (BlockRead at block) state.memory)
KeepsMemory image veil program event older = ⊤

-- ---- open words

-- the words that were read and written are none,
abbrev pub NoWords : List (Entry ℕ) → List (Entry ℕ) → Type 0
NoWords read wrote = (read ≡ []) × (wrote ≡ [])

-- are one that was read at this address,
abbrev pub OneRead : ℕ → List (Entry ℕ) → List (Entry ℕ) → Type 0
OneRead at read wrote = (word : ℕ) × (read ≡ record { place = at; word = word } ∷ []) × (wrote ≡ [])

-- are this one that was written,
abbrev pub OneWritten : ℕ → ℕ → List (Entry ℕ) → List (Entry ℕ) → Type 0
OneWritten at word read wrote = (read ≡ []) × (wrote ≡ record { place = at; word = word } ∷ [])

-- or are the word in which a byte lies, read and then written with this byte
abbrev pub OneChanged : ℕ → ℕ → List (Entry ℕ) → List (Entry ℕ) → Type 0
OneChanged at byte read wrote =
    (word : ℕ) × (read ≡ record { place = word_start at; word = word } ∷ []) × (wrote ≡ record { place = word_start at; word = with_byte word at byte } ∷ [])

-- the words that a step exchanges which asks for this: those of its access, if this is one to an open address
abbrev pub ExchangesFor : Layout → Option Effect → List (Entry ℕ) → List (Entry ℕ) → Type 0
ExchangesFor layout (Some (effect.LoadWord d at)) read wrote = ByClass (is_among shared_loose layout at) (OneRead at read wrote) (NoWords read wrote)
ExchangesFor layout (Some (effect.LoadByte d at)) read wrote = ByClass (is_among shared_loose layout at) (OneRead (word_start at) read wrote) (NoWords read wrote)
ExchangesFor layout (Some (effect.StoreWord at word)) read wrote = ByClass (is_among shared_loose layout at) (OneWritten at word read wrote) (NoWords read wrote)
ExchangesFor layout (Some (effect.StoreByte at byte)) read wrote = ByClass (is_among shared_loose layout at) (OneChanged at byte read wrote) (NoWords read wrote)
ExchangesFor layout asked read wrote = NoWords read wrote

-- where an instruction is done after entering, the words that its step exchanged are those of the bus machine's step
abbrev pub FitsWords : Veil → LoadedProgram → Event → History → Type 0
FitsWords veil program event older =
    (state : Ideal) → is_retire event ≡ true → enter_events program.layout ≤ length (in_order older) → bus_machine veil program older ≡ Goes state
    → ExchangesFor program.layout (effect_at state) (words_read (since_step (enter_events program.layout) older)) (words_written (since_step (enter_events program.layout) older))

-- ---- the whole

-- each block read is faithful, and all this is told of each event
pub record RunsFaithfully (image : Place → Option (List ℕ)) (veil : Veil) (program : LoadedProgram) (older : History) : Type 0 where
  pub entering : Each (EntersSilently program) older
  pub bytes : Each (λ event older. GivesBytes event) older
  pub memory : Each (KeepsMemory image veil program) older
  pub words : Each (FitsWords veil program) older
  pub faithful : AllFaithful image older
