-- Promise: what a secure memory does where its program is entered.
use Rattle.std.specs.Prelude.{◌≡◌, ℕ, [], ◌∷◌, ◌++◌, List}
use Rattle.std.specs.FinMap.{empty}
use Rattle.off_chip.specs.declared.event.Event.{Event}
use Rattle.off_chip.specs.declared.event.Event.TheVariants.{Note}
use Rattle.off_chip.specs.declared.event.Mark.TheVariants.{Enter}
use Rattle.line_cache.specs.LineMaps.{LineMap}
use Rattle.hash_tree.specs.Entering.{Entered}
use Rattle.hash_tree.specs.HashTrees.{scheme_of, state_of}
use Rattle.hash_tree.specs.TreeParts.{TreeParts}
use Rattle.stamp_log.specs.LogEvents.{zeros_written}
use Rattle.secure_memory.specs.PrivatePads.{Padding, hidden_payload}

-- the mark of entering comes first; then the tree is entered, with this digest of the program that was read; then the blocks of the log
-- are written with zeros
pub record EntersMemory {L : Type 0} (old new : TreeParts L Padding) (lines : LineMap) (trace : List Event) (digest : List ℕ) : Type 0 where
  pub middle : List Event
  pub last : ℕ
  pub entered : Entered old.layout (scheme_of old.layout (hidden_payload old.veil)) (state_of empty old.root (Note Enter ∷ [])) (state_of lines new.root middle) digest
  pub started : trace ≡ middle ++ zeros_written last old.layout.log
