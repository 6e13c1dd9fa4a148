-- Promise: the strings tell the blocks and the programs that they are of.
use Rattle.std.specs.Prelude.{◌≡◌, ◌≢◌, ℕ, ◌<◌, ◌^◌, List, length}
use Rattle.std.specs.List.{All}
use Rattle.sha1.specs.Sha1.{sha1}
use Rattle.aegis_num.specs.declared.storage.Block.{Block}
use Rattle.block_hash.specs.declared.strings.TheConstants.{TREE_TAG, LOG_TAG}
use Rattle.block_hash.specs.BlockStrings.{block_string, program_string}

-- equal strings are of one block, with one tag and one number
abbrev pub StringsTellBlocks : Type 0
StringsTellBlocks = (tag other_tag number other_number : ℕ) (block other : Block) → block_string tag number block ≡ block_string other_tag other_number other
    → number < 2 ^ 32 → other_number < 2 ^ 32 → block.stamp < 2 ^ 64 → other.stamp < 2 ^ 64
    → (tag ≡ other_tag) × (number ≡ other_number) × (block ≡ other)

-- equal strings are of one program, where each payload has 64 bytes
abbrev pub StringsTellPrograms : Type 0
StringsTellPrograms = (payloads others : List (List ℕ)) → program_string payloads ≡ program_string others
    → All (λ payload. length payload ≡ 64) payloads → All (λ payload. length payload ≡ 64) others → payloads ≡ others

-- no string of a block of the tree is one of a block of the log, and none of either is one of a program
pub record TagsPart : Type 0 where
  pub log : (number other_number : ℕ) (block other : Block) → block_string TREE_TAG number block ≢ block_string LOG_TAG other_number other
  pub program : (number : ℕ) (block : Block) (payloads : List (List ℕ)) → block_string TREE_TAG number block ≢ program_string payloads
  pub log_program : (number : ℕ) (block : Block) (payloads : List (List ℕ)) → block_string LOG_TAG number block ≢ program_string payloads

-- how long strings and digests are
pub record Lengths : Type 0 where
  pub string : (tag number : ℕ) (block : Block) → length block.payload ≡ 64 → length (block_string tag number block) ≡ 77
  pub digest : (string : List ℕ) → length (sha1 string) ≡ 20
