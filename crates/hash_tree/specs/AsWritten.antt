-- Promise: which block reads gave what had been written, where no image is known: a read of a place that was not written yet counts
-- as faithful.
use Rattle.std.specs.Prelude.{◌≡◌, ◌≢◌, ℕ, Bool, true, List, ◌∷◌, ◌++◌, Option, Some, None, IsTrue, ◌↔◌}
use Rattle.aegis_num.specs.declared.storage.Block.{Block}
use Rattle.aegis_num.specs.declared.storage.Place.{Place}
use Rattle.aegis_num.specs.declared.storage.Place.TheVariants.{Tree}
use Rattle.off_chip.specs.declared.event.Event.{Event}
use Rattle.off_chip.specs.declared.event.Event.TheVariants.{BlockRead}
use Rattle.off_chip.specs.Histories.{History, history, Each}
use Rattle.off_chip.specs.WriteBacks.{last_write, IsLastWrite}
use Rattle.off_chip.specs.FaithfulReads.{same_block, AllFaithful}

-- whether a block is the last write-back, where there is one
abbrev pub is_written_block : Block → Option Block → Bool
is_written_block block None = true
is_written_block block (Some written) = same_block block written

-- whether an event is no block read that gave another block than the last write-back
abbrev pub is_as_written : Event → History → Bool
is_as_written (BlockRead place block) older = is_written_block block (last_write place older)
is_as_written event older = true

-- each block read gave the last write-back, where there was one
pub record AllAsWritten (older : History) : Type 0 where
  pub each : Each (λ event older. IsTrue (is_as_written event older)) older

-- in order: each block read gave the last write-back, where there was one
pub record ReadsAsWritten (trace : List Event) : Type 0 where
  pub each : (before : List Event) (place : Place) (block : Block) (rest : List Event) (written : Block)
      → trace ≡ before ++ BlockRead place block ∷ rest → IsLastWrite place before written → block ≡ written

-- in order: a read of a tree block gave another block than the last write-back
pub record UnfaithfulTreeRead (trace : List Event) : Type 0 where
  pub before : List Event
  pub n : ℕ
  pub block : Block
  pub rest : List Event
  pub written : Block
  pub parts : trace ≡ before ++ BlockRead (Tree n) block ∷ rest
  pub last : IsLastWrite (Tree n) before written
  pub differ : block ≢ written

-- reads, of histories and in order
pub record AsWrittenInOrder : Type 0 where
  pub all : (trace : List Event) → AllAsWritten (history trace) ↔ ReadsAsWritten trace
  -- an image only tells more of what is faithful
  pub image : (image : Place → Option (List ℕ)) (older : History) → AllFaithful image older → AllAsWritten older
  -- where a read of a tree block is unfaithful, not all are as written
  pub unfaithful : (trace : List Event) → UnfaithfulTreeRead trace → (AllAsWritten (history trace) → ⊥)
