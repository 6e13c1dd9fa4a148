-- Promise: which digest a block of the tree must have, by what the trace tells.
use Rattle.std.specs.Prelude.{◌≡◌, ◌≢◌, ℕ, ◌==◌, not, ◌&&◌, List, [], ◌∷◌, ◌++◌, filter_map, Option, Some, None, ◌↔◌, if◌then◌else◌}
use Rattle.aegis_num.specs.declared.storage.Block.{Block}
use Rattle.aegis_num.specs.declared.storage.Place.TheVariants.{Tree}
use Rattle.off_chip.specs.declared.event.Event.{Event}
use Rattle.off_chip.specs.declared.event.Event.TheVariants.{BlockRead, BlockWrite}
use Rattle.off_chip.specs.Histories.{History, history, newest}
use Rattle.off_chip.specs.WriteBacks.{same_place, written_at, read_at, IsLastWrite}

-- how a tree keeps the digests of its blocks
pub record Digests : Type 0 where
  -- the digest of the tree block with a number, as it stands off chip
  pub digest : ℕ → Block → List ℕ
  -- the number of the parent of each tree block but block 0
  pub parent : ℕ → ℕ
  -- the slot of a tree block in the payload of its parent
  pub slot : ℕ → List ℕ → List ℕ

-- the digest that an event tells of a tree block: a write of the block has it, and a read of its parent
abbrev pub digest_told : Digests → ℕ → Event → Option (List ℕ)
digest_told tree n (BlockWrite at block) = if same_place (Tree n) at then Some (tree.digest n block) else None
digest_told tree n (BlockRead at block) = if not (n == 0) && same_place (Tree (tree.parent n)) at then Some (tree.slot n block.payload) else None
digest_told tree n event = None

-- the expected digest of a tree block
abbrev pub expected_digest : Digests → ℕ → History → Option (List ℕ)
expected_digest tree n older = newest (λ event _. digest_told tree n event) older

-- in order: the expected digest of a tree block
pub data IsExpectedDigest (tree : Digests) (n : ℕ) (before : List Event) (expected : List ℕ) : Type 0 where
  -- of block 0: the digest of its last write
  of_root : (block : Block) → n ≡ 0 → IsLastWrite (Tree 0) before block → expected ≡ tree.digest 0 block → IsExpectedDigest tree n before expected
  -- of another block: the digest of its last write, after which its parent was not read
  of_write : (earlier : List Event) (block : Block) (later : List Event) → n ≢ 0 → before ≡ earlier ++ BlockWrite (Tree n) block ∷ later
      → filter_map (written_at (Tree n)) later ≡ [] → filter_map (read_at (Tree (tree.parent n))) later ≡ []
      → expected ≡ tree.digest n block → IsExpectedDigest tree n before expected
  -- else the block's slot in the last read of its parent
  of_parent : (earlier : List Event) (block : Block) (later : List Event) → n ≢ 0 → before ≡ earlier ++ BlockRead (Tree (tree.parent n)) block ∷ later
      → filter_map (read_at (Tree (tree.parent n))) later ≡ [] → filter_map (written_at (Tree n)) later ≡ []
      → expected ≡ tree.slot n block.payload → IsExpectedDigest tree n before expected

-- expected digests, of histories and in order
pub record DigestsInOrder : Type 0 where
  pub expected : (tree : Digests) (n : ℕ) (trace : List Event) (expected : List ℕ)
      → (expected_digest tree n (history trace) ≡ Some expected) ↔ IsExpectedDigest tree n trace expected
