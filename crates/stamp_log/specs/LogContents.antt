-- Promise: what calls of a log do to the contents of its blocks.
use Rattle.std.specs.Prelude.{◌≡◌, ◌≢◌, ℕ, List, [], ◌∷◌, ◌++◌, Option, IsTrue}
use Rattle.aegis_num.specs.declared.storage.Block.{Block}
use Rattle.aegis_num.specs.declared.storage.Place.{Place}
use Rattle.aegis_num.specs.declared.storage.Place.TheVariants.{Log}
use Rattle.off_chip.specs.declared.event.Event.{Event}
use Rattle.off_chip.specs.declared.event.Event.TheVariants.{BlockRead}
use Rattle.off_chip.specs.Histories.{History, history}
use Rattle.off_chip.specs.FaithfulReads.{is_faithful}
use Rattle.stamp_log.specs.LogState.{LogLines}
use Rattle.stamp_log.specs.StandsOn.{contents_in}

-- the contents of each block are as before
pub record KeepsContents (old new : LogLines) (before after : History) : Type 0 where
  pub each : (n : ℕ) → contents_in new after n ≡ contents_in old before n

-- the last event is a read of a block. The contents of each other block are as before, and those of this one are, where the read is faithful
pub record ReadKeepsContents (block : ℕ) (old new : LogLines) (before after : List Event) : Type 0 where
  pub middle : List Event
  pub read : Block
  pub last : after ≡ middle ++ BlockRead (Log block) read ∷ []
  pub others : (n : ℕ) → n ≢ block → contents_in new (history after) n ≡ contents_in old (history before) n
  pub here : (image : Place → Option (List ℕ)) → IsTrue (is_faithful image (BlockRead (Log block) read) (history middle))
      → contents_in new (history after) block ≡ contents_in old (history before) block
