-- Promise: where the blocks of a secure memory are that the chip does not hold: what was written last of each is what it contains.
use Rattle.std.specs.Prelude.{◌≡◌, ℕ, ◌<◌, true, false, IsTrue, List, ◌∷◌, ◌++◌, Some}
use Rattle.std.specs.FinMap.{get}
use Rattle.aegis_num.specs.declared.storage.Block.{Block}
use Rattle.aegis_num.specs.declared.storage.Place.{Place}
use Rattle.aegis_num.specs.declared.storage.Place.TheVariants.{Tree}
use Rattle.regions.specs.Tree.{parent_of, tree_blocks}
use Rattle.off_chip.specs.declared.event.Event.{Event}
use Rattle.off_chip.specs.declared.event.Event.TheVariants.{BlockWrite}
use Rattle.off_chip.specs.Histories.{history}
use Rattle.off_chip.specs.Residency.{is_resident}
use Rattle.off_chip.specs.WriteBacks.{last_write}
use Rattle.block_hash.specs.BlockStrings.{block_digest}
use Rattle.line_cache.specs.declared.lines.Line.{Line}
use Rattle.hash_tree.specs.AsWritten.{AllAsWritten}
use Rattle.hash_tree.specs.HashTrees.{nodes_of, slot_in_payload}
use Rattle.hash_tree.specs.Standing.{IsLaidOut}
use Rattle.secure_memory.specs.BlockWords.{AreWordsAt, is_memory_block, on_chip, start_at}
use Rattle.secure_memory.specs.MemorySights.{HasContents, Sight, tree_scheme, veil_of}
use Rattle.secure_memory.specs.MemoryStands.{MemoryStands}

-- each tree block that has a line is resident
pub record LinesAreResident {L : Type 0} (sight : Sight L) : Type 0 where
  pub resident : (n : ℕ) (line : Line) → get sight.lines n ≡ Some line → is_resident (Tree n) (history sight.trace) ≡ true

-- a block of memory was written, and its last write-back has the words of a memory, after the pad of its number and stamp was removed where it is private
pub record IsAtHome {L : Type 0} (sight : Sight L) (memory : ℕ → ℕ) (place : Place) : Type 0 where
  pub block : Block
  pub last : last_write place (history sight.trace) ≡ Some block
  pub words : AreWordsAt memory (start_at sight.layout place) (on_chip (veil_of sight) place block)

-- a tree block was written, and its digest is in its slot of a payload
pub record HasSlot {L : Type 0} (sight : Sight L) (payload : List ℕ) (child : ℕ) : Type 0 where
  pub block : Block
  pub last : last_write (Tree child) (history sight.trace) ≡ Some block
  pub slot : slot_in_payload sight.layout child payload ≡ block_digest child block

-- a node was written, and the payload of its last write-back has the digests of the last write-backs of its children
pub record HasSlots {L : Type 0} (sight : Sight L) (n : ℕ) : Type 0 where
  pub block : Block
  pub last : last_write (Tree n) (history sight.trace) ≡ Some block
  pub slots : (child : ℕ) → 0 < child → child < tree_blocks sight.layout → parent_of sight.layout child ≡ n → HasSlot sight block.payload child

-- the blocks that are not resident are at home, and so are the digests in the nodes
pub record HoldsAtHome {L : Type 0} (sight : Sight L) (memory : ℕ → ℕ) : Type 0 where
  pub blocks : (place : Place) → IsTrue (is_memory_block sight.layout place) → is_resident place (history sight.trace) ≡ false → IsAtHome sight memory place
  pub nodes : (n : ℕ) → n < nodes_of sight.layout → is_resident (Tree n) (history sight.trace) ≡ false → HasSlots sight n

-- each write of a node before which each block that was read is as it was written has the digests of the children's last write-backs so far, and then zeros
pub record WritesDigests {L : Type 0} (sight : Sight L) : Type 0 where
  pub each : (before : List Event) (n : ℕ) (block : Block) (rest : List Event) → sight.trace ≡ before ++ BlockWrite (Tree n) block ∷ rest → n < nodes_of sight.layout
      → AllAsWritten (history before) → IsLaidOut (tree_scheme sight) n block.payload (history before)

-- where each block that was read is as it was written; the writes of nodes are so in each case
pub record ContentsStayHome (L : Type 0) : Type 0 where
  pub home : (sight : Sight L) (memory : ℕ → ℕ) → MemoryStands sight.layout sight.tree sight.lines sight.log sight.stamps sight.trace → LinesAreResident sight
      → AllAsWritten (history sight.trace) → HasContents sight memory → HoldsAtHome sight memory
  pub digests : (sight : Sight L) → MemoryStands sight.layout sight.tree sight.lines sight.log sight.stamps sight.trace → WritesDigests sight
