-- Promise: what a hash tree is made of: its blocks, its digests and strings, and how its blocks stand off chip.
use Rattle.std.specs.Prelude.{◌≡◌, ℕ, ◌<◌, ◌≤◌, ◌^◌, List, length}
use Rattle.aegis_num.specs.declared.storage.Block.{Block}
use Rattle.off_chip.specs.HonestMemory.{IsWhole}
use Rattle.off_chip.specs.ExpectedDigests.{Digests}
use Rattle.off_chip.specs.Collisions.{Strings}

-- a tree: its blocks are numbered from the root, which is 0, and of these the first ones are nodes
pub record Scheme : Type 0 where
  pub blocks : ℕ
  pub nodes : ℕ
  -- the digests of blocks, the parent of each block but the root, and its slot in the payload of the parent
  pub digests : Digests
  pub strings : Strings
  -- how many bytes of a node's payload have the digests of its children. Zeros stand after them
  pub digest_bytes : ℕ
  -- the payload that goes over the bus for a payload on the chip, for a block with a number and a stamp, and back
  pub veiled : ℕ → ℕ → List ℕ → List ℕ

-- the payload on the chip of a block as it stands off chip
abbrev pub unveiled : Scheme → ℕ → Block → List ℕ
unveiled scheme n block = scheme.veiled n block.stamp block.payload

-- what a scheme keeps
pub record IsLawful (scheme : Scheme) : Type 0 where
  pub few : scheme.blocks < 2 ^ 32
  -- each block but the root has a node above it, with a smaller number
  pub above : (n : ℕ) → 0 < n → n < scheme.blocks → scheme.digests.parent n < n
  pub node : (n : ℕ) → 0 < n → n < scheme.blocks → scheme.digests.parent n < scheme.nodes
  pub root : 0 < scheme.nodes
  pub inside : scheme.nodes ≤ scheme.blocks
  -- a digest is that of the block's string, and one number's strings tell whole blocks apart
  pub digest : (n : ℕ) (block : Block) → scheme.digests.digest n block ≡ scheme.strings.digest (scheme.strings.block n block)
  pub apart : (n : ℕ) (block other : Block) → n < scheme.blocks → IsWhole block → IsWhole other → scheme.strings.block n block ≡ scheme.strings.block n other → block ≡ other
  -- the veil is its own inverse, keeps the length, and leaves nodes as they are
  pub inverse : (n stamp : ℕ) (payload : List ℕ) → length payload ≡ 64 → scheme.veiled n stamp (scheme.veiled n stamp payload) ≡ payload
  pub long : (n stamp : ℕ) (payload : List ℕ) → length payload ≡ 64 → length (scheme.veiled n stamp payload) ≡ 64
  pub bare : (n stamp : ℕ) (payload : List ℕ) → n < scheme.nodes → scheme.veiled n stamp payload ≡ payload
