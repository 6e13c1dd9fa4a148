-- Promise: while each tree block that was read is as it was written, whatever was read of the log, the reads of a secure memory give what its data
-- blocks contain, and each access changes what they contain as it changes a memory of plain words.
use Rattle.std.specs.Prelude.{ℕ, ◌<◌, List, Option, Result}
use Rattle.aegis_num.specs.declared.storage.Place.{Place}
use Rattle.regions.specs.declared.addresses.TheConstants.{OPEN_END}
use Rattle.off_chip.specs.FaithfulReads.{TreeFaithful}
use Rattle.off_chip.specs.Histories.{History, history}
use Rattle.hash_tree.specs.AsWritten.{AllAsWritten}
use Rattle.hash_tree.specs.Schemes.{Scheme}
use Rattle.hash_tree.specs.Standing.{State}
use Rattle.hash_tree.specs.TreeSteps.{Stops}
use Rattle.orbis_core.specs.declared.memory.Stop.{Stop}
use Rattle.orbis_core.specs.Accesses.{IsSettled}
use Rattle.orbis_core.specs.ByteOrder.{with_byte, word_start}
use Rattle.secure_memory.specs.MemoryAccesses.{Fetches, LoadsByte, LoadsWord, StoresByte, StoresWord}
use Rattle.secure_memory.specs.MemorySights.{HasContents, Sight}
use Rattle.faithful_memory.specs.BetweenAccesses.{KeepsTree}
use Rattle.faithful_memory.specs.KnownWords.{HasDataContents, TreeAsWritten}
use Rattle.faithful_memory.specs.ReadContents.{ReadsDataContents, stored}

-- where each tree block that was read is as it was written
pub record TreeReadsAsWritten : Type 0 where
  -- it is so where all blocks are, and where each read of the tree is faithful, whatever the image
  pub all : (older : History) → AllAsWritten older → TreeAsWritten older
  pub image : (image : Place → Option (List ℕ)) (older : History) → TreeFaithful image older → TreeAsWritten older
  -- then no load of the tree stops
  pub stops : (scheme : Scheme) (pinned : List ℕ) (old new : State) (event : ℕ) → Stops scheme pinned old new event → TreeAsWritten (history new.trace) → ⊥

-- a memory that has all contents has those of the data blocks
abbrev pub AllHoldsData : Type 0 → Type 0
AllHoldsData L = (sight : Sight L) (memory : ℕ → ℕ) → HasContents sight memory → HasDataContents sight memory

-- an access at an open address leaves the tree as it is, with the lines of its cache
abbrev pub LeavesTree : {L : Type 0} → ℕ → Sight L → Sight L → Type 0
LeavesTree at old new = at < OPEN_END → KeepsTree old new

-- each access that is done or refused
pub record AccessesReadData (L : Type 0) : Type 0 where
  pub fetch : (at : ℕ) (answer : Result ℕ Stop) (old new : Sight L) (memory : ℕ → ℕ) → IsSettled answer → LeavesTree at old new
      → TreeAsWritten (history new.trace) → HasDataContents old memory → Fetches at answer old new → ReadsDataContents old new memory memory
  pub load_word : (at : ℕ) (answer : Result ℕ Stop) (old new : Sight L) (memory : ℕ → ℕ) → IsSettled answer → LeavesTree at old new
      → TreeAsWritten (history new.trace) → HasDataContents old memory → LoadsWord at answer old new → ReadsDataContents old new memory memory
  pub load_byte : (at : ℕ) (answer : Result ℕ Stop) (old new : Sight L) (memory : ℕ → ℕ) → IsSettled answer → LeavesTree at old new
      → TreeAsWritten (history new.trace) → HasDataContents old memory → LoadsByte at answer old new → ReadsDataContents old new memory memory
  pub store_word : (at word : ℕ) (answer : Result (Unit {0}) Stop) (old new : Sight L) (memory : ℕ → ℕ) → IsSettled answer → LeavesTree at old new
      → TreeAsWritten (history new.trace) → HasDataContents old memory → StoresWord at word answer old new → ReadsDataContents old new memory (stored old.layout answer at word memory)
  pub store_byte : (at byte : ℕ) (answer : Result (Unit {0}) Stop) (old new : Sight L) (memory : ℕ → ℕ) → IsSettled answer → LeavesTree at old new
      → TreeAsWritten (history new.trace) → HasDataContents old memory → StoresByte at byte answer old new
      → ReadsDataContents old new memory (stored old.layout answer at (with_byte (memory (word_start at)) at byte) memory)
