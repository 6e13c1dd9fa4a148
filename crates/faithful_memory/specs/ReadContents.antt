-- Promise: while each block that was read is as it was written, the reads of a secure memory give what its blocks contain, and each access
-- changes the contents as it changes a memory of plain words.
use Rattle.std.specs.Prelude.{◌≡◌, ℕ, List, ◌++◌, Result, Ok, Err, ◌↔◌}
use Rattle.regions.specs.declared.layout.Layout.{Layout}
use Rattle.regions.specs.LooseClasses.{shared_loose}
use Rattle.off_chip.specs.declared.event.Event.{Event}
use Rattle.off_chip.specs.Histories.{history}
use Rattle.hash_tree.specs.AsWritten.{AllAsWritten}
use Rattle.orbis_core.specs.declared.memory.Stop.{Stop}
use Rattle.orbis_core.specs.Accesses.{IsSettled}
use Rattle.orbis_core.specs.ByteOrder.{with_byte, word_start}
use Rattle.orbis_core.specs.Ideal.{memory_stored}
use Rattle.secure_memory.specs.MemoryAccesses.{Fetches, LoadsByte, LoadsWord, StoresByte, StoresWord}
use Rattle.secure_memory.specs.MemorySights.{HasContents, Sight, veil_of}
use Rattle.bus_machine.specs.BusMachine.{Veil, blocks_taken, memory_after}
use Rattle.faithful_memory.specs.KnownWords.{AllGiveDataWords, AllGiveWords, GivesWords, HasDataContents, HasSameDataWords, HasSameWords}

-- ---- reads that give what a memory has

-- they leave its words as they are, and it is the contents of a secure memory after them as before
pub record GivenWordsStay : Type 0 where
  -- a read gives the words of a memory exactly where it leaves them
  pub one : (layout : Layout) (veil : Veil) (memory : ℕ → ℕ) (event : Event) → GivesWords layout veil memory event ↔ HasSameWords memory (memory_after layout veil event memory)
  pub all : (layout : Layout) (veil : Veil) (memory : ℕ → ℕ) (events : List Event) → AllGiveWords layout veil memory events
      → HasSameWords memory (blocks_taken layout veil events memory)
  pub data_words : (layout : Layout) (veil : Veil) (memory : ℕ → ℕ) (events : List Event) → AllGiveDataWords layout veil memory events
      → HasSameDataWords memory (blocks_taken layout veil events memory)

-- what a memory contains it contains in each memory that has the same words
pub record ContentsAreWords (L : Type 0) : Type 0 where
  pub all : (sight : Sight L) (one other : ℕ → ℕ) → HasSameWords one other → HasContents sight one → HasContents sight other
  pub data_words : (sight : Sight L) (one other : ℕ → ℕ) → HasSameDataWords one other → HasDataContents sight one → HasDataContents sight other

-- ---- what is done

-- these events were made; each read among them gives the words of a memory, and another memory has the contents after them
pub record ReadsContents {L : Type 0} (old new : Sight L) (memory after : ℕ → ℕ) : Type 0 where
  pub events : List Event
  pub appended : new.trace ≡ old.trace ++ events
  pub reads : AllGiveWords old.layout (veil_of old) memory events
  pub contents : HasContents new after

-- the same of data blocks alone
pub record ReadsDataContents {L : Type 0} (old new : Sight L) (memory after : ℕ → ℕ) : Type 0 where
  pub events : List Event
  pub appended : new.trace ≡ old.trace ++ events
  pub reads : AllGiveDataWords old.layout (veil_of old) memory events
  pub contents : HasDataContents new after

-- reads that give contents, one after another
pub record ReadsJoin (L : Type 0) : Type 0 where
  pub both : (old middle new : Sight L) (memory after : ℕ → ℕ) → middle.layout ≡ old.layout → middle.tree.veil ≡ old.tree.veil
      → ReadsContents old middle memory memory → ReadsContents middle new memory after → ReadsContents old new memory after
  -- and what they leave of a memory has the contents after them
  pub taken : (old new : Sight L) (memory : ℕ → ℕ) (events : List Event) → new.trace ≡ old.trace ++ events → ReadsContents old new memory memory
      → HasContents new (blocks_taken old.layout (veil_of old) events memory)
  pub both_data : (old middle new : Sight L) (memory after : ℕ → ℕ) → middle.layout ≡ old.layout → middle.tree.veil ≡ old.tree.veil
      → ReadsDataContents old middle memory memory → ReadsDataContents middle new memory after → ReadsDataContents old new memory after
  pub taken_data : (old new : Sight L) (memory : ℕ → ℕ) (events : List Event) → new.trace ≡ old.trace ++ events → ReadsDataContents old new memory memory
      → HasDataContents new (blocks_taken old.layout (veil_of old) events memory)

-- what a store of a word leaves of a memory: a word that is not open is changed, and nothing is where the store was refused
abbrev pub stored : Layout → Result (Unit {0}) Stop → ℕ → ℕ → (ℕ → ℕ) → ℕ → ℕ
stored layout (Ok done) at word memory = memory_stored layout shared_loose at word memory
stored layout (Err reason) at word memory = memory

-- each access that is done or refused, after which each block that was read is as it was written
pub record AccessesReadContents (L : Type 0) : Type 0 where
  pub fetch : (at : ℕ) (answer : Result ℕ Stop) (old new : Sight L) (memory : ℕ → ℕ) → IsSettled answer → AllAsWritten (history new.trace)
      → HasContents old memory → Fetches at answer old new → ReadsContents old new memory memory
  pub load_word : (at : ℕ) (answer : Result ℕ Stop) (old new : Sight L) (memory : ℕ → ℕ) → IsSettled answer → AllAsWritten (history new.trace)
      → HasContents old memory → LoadsWord at answer old new → ReadsContents old new memory memory
  pub load_byte : (at : ℕ) (answer : Result ℕ Stop) (old new : Sight L) (memory : ℕ → ℕ) → IsSettled answer → AllAsWritten (history new.trace)
      → HasContents old memory → LoadsByte at answer old new → ReadsContents old new memory memory
  pub store_word : (at word : ℕ) (answer : Result (Unit {0}) Stop) (old new : Sight L) (memory : ℕ → ℕ) → IsSettled answer → AllAsWritten (history new.trace)
      → HasContents old memory → StoresWord at word answer old new → ReadsContents old new memory (stored old.layout answer at word memory)
  pub store_byte : (at byte : ℕ) (answer : Result (Unit {0}) Stop) (old new : Sight L) (memory : ℕ → ℕ) → IsSettled answer → AllAsWritten (history new.trace)
      → HasContents old memory → StoresByte at byte answer old new
      → ReadsContents old new memory (stored old.layout answer at (with_byte (memory (word_start at)) at byte) memory)
