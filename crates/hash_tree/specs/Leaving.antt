-- Promise: by which event the line of a block leaves.
use Rattle.std.specs.Prelude.{◌≡◌, ℕ, true, false, List, Some}
use Rattle.aegis_num.specs.declared.storage.Block.{Block}
use Rattle.aegis_num.specs.declared.storage.Place.TheVariants.{Tree}
use Rattle.off_chip.specs.declared.event.Event.{Event}
use Rattle.off_chip.specs.declared.event.Event.TheVariants.{BlockWrite, Note}
use Rattle.off_chip.specs.declared.event.Mark.TheVariants.{Drop}
use Rattle.line_cache.specs.LineMaps.{LineMap, dirty_at}
use Rattle.hash_tree.specs.TreeSteps.{Appends}

-- a dirty line leaves by a write of its block, and a clean one by the mark that it leaves
pub record LeavesBy (lines : LineMap) (n : ℕ) (old new : List Event) : Type 0 where
  pub written : dirty_at lines n ≡ Some true → (block : Block) × Appends (BlockWrite (Tree n) block) old new
  pub dropped : dirty_at lines n ≡ Some false → Appends (Note (Drop (Tree n))) old new
