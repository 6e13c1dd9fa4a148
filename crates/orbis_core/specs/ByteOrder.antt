-- Promise: words and their bytes, the greatest byte first, and blocks of a memory as bytes.
use Rattle.std.specs.Prelude.{ℕ, ◌+◌, ◌-◌, ◌*◌, ◌/◌, ◌%◌, ◌^◌, ◌==◌, ◌&&◌, nat_le, nat_lt, if◌then◌else◌, List, [], ◌∷◌, slice_index, slice_set, zero, suc}
use Rattle.std.specs.List.{flat_map}
use Rattle.regions.specs.declared.addresses.TheConstants.{BLOCK_BYTES, LOG_START}
use Rattle.std.specs.Int.{w32, to_be_bytes, from_be_bytes}

-- the word of four bytes
abbrev pub word_of_bytes : ℕ → ℕ → ℕ → ℕ → ℕ
word_of_bytes first second third fourth = first * 2 ^ 24 + second * 2 ^ 16 + third * 2 ^ 8 + fourth

-- the words of some bytes, of which there are four for each
abbrev pub words_in : List ℕ → List ℕ
words_in (first ∷ second ∷ third ∷ fourth ∷ bytes) = word_of_bytes first second third fourth ∷ words_in bytes
words_in bytes = []

-- the byte at an address, of the word that it lies in
abbrev pub byte_in : ℕ → ℕ → ℕ
byte_in word at = slice_index (to_be_bytes w32 word) (at % 4)

-- the word with another byte at an address
abbrev pub with_byte : ℕ → ℕ → ℕ → ℕ
with_byte word at byte = from_be_bytes w32 (slice_set (to_be_bytes w32 word) (at % 4) byte)

-- the big-endian bytes of some words
abbrev pub bytes_of : List ℕ → List ℕ
bytes_of words = flat_map (to_be_bytes w32) words

-- the address of the word that an address lies in
abbrev pub word_start : ℕ → ℕ
word_start at = at - at % 4

-- a memory with another word at an address
abbrev pub updated : (ℕ → ℕ) → ℕ → ℕ → ℕ → ℕ
updated memory at word other = if other == at then word else memory other

-- so many words of a memory, from an address on
abbrev pub words_at : (ℕ → ℕ) → ℕ → ℕ → List ℕ
words_at memory start zero = []
words_at memory start (suc count) = memory start ∷ words_at memory (start + 4) count

-- the 64 bytes of the block that starts at an address
abbrev pub block_at : (ℕ → ℕ) → ℕ → List ℕ
block_at memory start = bytes_of (words_at memory start 16)

-- a memory with these bytes as the block that starts at an address
abbrev pub with_block : (ℕ → ℕ) → ℕ → List ℕ → ℕ → ℕ
with_block memory start payload at =
    if nat_le start at && nat_lt at (start + BLOCK_BYTES) then slice_index (words_in payload) ((at - start) / 4) else memory at

-- the first address of a log block
abbrev pub log_block_start : ℕ → ℕ
log_block_start block = LOG_START + BLOCK_BYTES * block
