-- Promise: the blocks of memory by their places: which words they are, what a read of one brings onto the chip, and where in a block an address lies.
use Rattle.std.specs.Prelude.{◌≡◌, ℕ, ◌+◌, ◌-◌, ◌*◌, ◌/◌, ◌<◌, Bool, ◌&&◌, nat_le, nat_lt, if◌then◌else◌, IsSome, List, [], ◌∷◌, slice_index}
use Rattle.std.specs.Int.{w32, to_be_bytes}
use Rattle.aegis_num.specs.declared.storage.Block.{Block}
use Rattle.aegis_num.specs.declared.storage.Place.{Place}
use Rattle.aegis_num.specs.declared.storage.Place.TheVariants.{Tree, Log}
use Rattle.regions.specs.declared.addresses.TheConstants.{LOG_START}
use Rattle.regions.specs.declared.layout.Layout.{Layout}
use Rattle.regions.specs.Addresses.{block_start, class_at, data_block_at, log_block_at, offset_at}
use Rattle.regions.specs.Blocks.{data_blocks}
use Rattle.regions.specs.Tree.{leaf_of}
use Rattle.off_chip.specs.declared.event.Event.{Event}
use Rattle.off_chip.specs.declared.event.Event.TheVariants.{BlockRead}
use Rattle.off_chip.specs.OffChipBytes.{bytes_put}
use Rattle.hash_tree.specs.HashTrees.{nodes_of}
use Rattle.orbis_core.specs.ByteOrder.{byte_in, log_block_start, with_block, words_in}

-- whether a place is that of a data block or of a log block
abbrev pub is_memory_block : Layout → Place → Bool
is_memory_block layout (Tree n) = nat_le (nodes_of layout) n && nat_lt n (nodes_of layout + data_blocks layout)
is_memory_block layout (Log n) = nat_lt n layout.log

-- the first address of such a block
abbrev pub start_at : Layout → Place → ℕ
start_at layout (Tree n) = block_start (n - nodes_of layout)
start_at layout (Log n) = log_block_start n

-- the place of the block that an address lies in, where it lies in one
abbrev pub place_at : Layout → ℕ → Place
place_at layout at = if nat_lt at LOG_START then Tree (leaf_of layout (data_block_at at)) else Log (log_block_at at)

-- an address is open, or lies in a data block or a log block of the layout
abbrev pub IsPlaced : Layout → ℕ → Type 0
IsPlaced layout at = IsSome (class_at layout at)

-- the payload on the chip of a block that was read: with the veil of its number and stamp removed, where it is one of the tree
abbrev pub on_chip : (ℕ → ℕ → List ℕ → List ℕ) → Place → Block → List ℕ
on_chip veil (Tree n) block = veil n block.stamp block.payload
on_chip veil (Log n) block = block.payload

-- a memory after an event: a data block or a log block that was read takes the payload of that read
abbrev pub after_read : Layout → (ℕ → ℕ → List ℕ → List ℕ) → Event → (ℕ → ℕ) → ℕ → ℕ
after_read layout veil (BlockRead place block) memory =
    if is_memory_block layout place then with_block memory (start_at layout place) (on_chip veil place block) else memory
after_read layout veil event memory = memory

-- and after several, the oldest first
abbrev pub after_reads : Layout → (ℕ → ℕ → List ℕ → List ℕ) → List Event → (ℕ → ℕ) → ℕ → ℕ
after_reads layout veil [] memory = memory
after_reads layout veil (event ∷ events) memory = after_reads layout veil events (after_read layout veil event memory)

-- a payload is the words of a memory from an address on
abbrev pub AreWordsAt : (ℕ → ℕ) → ℕ → List ℕ → Type 0
AreWordsAt memory start payload = (k : ℕ) → k < 16 → memory (start + 4 * k) ≡ slice_index (words_in payload) k

-- the word and the byte at an address, in the payload of its block
abbrev pub word_at : List ℕ → ℕ → ℕ
word_at payload at = slice_index (words_in payload) (offset_at at / 4)

abbrev pub byte_at : List ℕ → ℕ → ℕ
byte_at payload at = byte_in (word_at payload at) at

-- the payload with another word there, or another byte
abbrev pub with_word_at : List ℕ → ℕ → ℕ → List ℕ
with_word_at payload at word = bytes_put (offset_at at) (to_be_bytes w32 word) payload

abbrev pub with_byte_at : List ℕ → ℕ → ℕ → List ℕ
with_byte_at payload at byte = bytes_put (offset_at at) (byte ∷ []) payload
