-- What follows where the line of a block leaves by an event.
use Rattle.std.proofs.Common.{◌≡◌, ℕ, true, false, List, Some, sym, ◌∙◌}
use Rattle.aegis_num.specs.declared.storage.Block.{Block}
use Rattle.aegis_num.specs.declared.storage.Place.TheVariants.{Tree}
use Rattle.off_chip.specs.declared.event.Event.{Event}
use Rattle.off_chip.specs.declared.event.Event.TheVariants.{BlockWrite, Note}
use Rattle.off_chip.specs.declared.event.Mark.TheVariants.{Drop}
use Rattle.line_cache.specs.LineMaps.{LineMap, dirty_at}
use Rattle.hash_tree.specs.TreeSteps.{Appends}
use Rattle.hash_tree.specs.Leaving.{LeavesBy}

pub leaves-written : (lines : LineMap) (block : Block) (n : ℕ) (old new : List Event) → dirty_at lines n ≡ Some true → Appends (BlockWrite (Tree n) block) old new → LeavesBy lines n old new
leaves-written lines block n old new dirty event = record {
  written = λ is. (block, event);
  dropped = λ is. let e : Some true ≡ Some false = sym dirty ∙ is in cc;
}

pub leaves-dropped : (lines : LineMap) (n : ℕ) (old new : List Event) → dirty_at lines n ≡ Some false → Appends (Note (Drop (Tree n))) old new → LeavesBy lines n old new
leaves-dropped lines n old new clean event = record {
  written = λ is. let e : Some false ≡ Some true = sym clean ∙ is in cc;
  dropped = λ is. event;
}
