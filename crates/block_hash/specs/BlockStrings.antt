-- Promise: the byte strings whose digests guard memory off the chip, and what is made of their digests. The digest is SHA-1 (FIPS 180-4).
-- The strings are this project's own. Each begins with a byte that says what it is of, and numbers have their greatest byte first.
use Rattle.std.specs.Prelude.{ℕ, List, ◌∷◌, ◌++◌, length, take}
use Rattle.std.specs.List.{concat}
use Rattle.std.specs.Int.{w32, w64, w128, to_be_bytes, from_be_bytes}
use Rattle.sha1.specs.Sha1.{sha1}
use Rattle.aegis_num.specs.declared.storage.Block.{Block}
use Rattle.aegis_num.specs.declared.storage.Key.{Key}
use Rattle.block_hash.specs.declared.strings.TheConstants.{TREE_TAG, LOG_TAG, PROGRAM_TAG, PAD_KEY_TAG, LOG_KEY_TAG}

-- the string of a block: a tag, its number in 4 bytes, its stamp in 8, and its payload
unfoldable pub block_string : ℕ → ℕ → Block → List ℕ
block_string tag number block = tag ∷ to_be_bytes w32 number ++ to_be_bytes w64 block.stamp ++ block.payload

-- the digest of a block of the tree
abbrev pub block_digest : ℕ → Block → List ℕ
block_digest number block = sha1 (block_string TREE_TAG number block)

-- the value of an entry of the log: the first 16 bytes, as a number, of the digest of the log's key and the block's string
unfoldable pub entry_value : Key → ℕ → Block → ℕ
entry_value key number block = from_be_bytes w128 (take 16 (sha1 (key.0 ++ block_string LOG_TAG number block)))

-- the string of a program: a tag, how many static blocks there are in 4 bytes, and their payloads in order
unfoldable pub program_string : List (List ℕ) → List ℕ
program_string payloads = PROGRAM_TAG ∷ to_be_bytes w32 (length payloads) ++ concat payloads

-- the digest of a program
abbrev pub program_digest : List (List ℕ) → List ℕ
program_digest payloads = sha1 (program_string payloads)

-- a key for one use: the first 16 bytes of the digest of a tag, the run's key and its nonce
abbrev pub key_for : ℕ → List ℕ → List ℕ → Key
key_for tag key nonce = record { 0 = take 16 (sha1 (tag ∷ key ++ nonce)) }

-- the key of the pads, and the key of the log
abbrev pub pad_key : List ℕ → List ℕ → Key
pad_key key nonce = key_for PAD_KEY_TAG key nonce

abbrev pub log_key : List ℕ → List ℕ → Key
log_key key nonce = key_for LOG_KEY_TAG key nonce
