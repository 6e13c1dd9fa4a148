-- Promise: what a secure memory contains where its program was entered, if each static block that was read is that of the program.
use Rattle.std.specs.Prelude.{◌≡◌, ℕ, ◌*◌, ◌<◌, List, length, Option, Some}
use Rattle.aegis_num.specs.declared.storage.Place.{Place}
use Rattle.regions.specs.declared.addresses.TheConstants.{BLOCK_BYTES}
use Rattle.off_chip.specs.BlockPlaces.{static_at}
use Rattle.off_chip.specs.FaithfulReads.{AllFaithful, TreeFaithful}
use Rattle.off_chip.specs.Histories.{History, history}
use Rattle.off_chip.specs.OffChipBytes.{static_blocks}
use Rattle.hash_tree.specs.TreeParts.{SameTree, TreeParts}
use Rattle.stamp_log.specs.LogEvents.{zero_payload}
use Rattle.stamp_log.specs.StandsOn.{contents_of}
use Rattle.orbis_core.specs.Ideal.{static_memory}
use Rattle.secure_memory.specs.MemoryEntry.{EntersMemory}
use Rattle.secure_memory.specs.MemorySights.{HasContents, Sight}
use Rattle.secure_memory.specs.PrivatePads.{Padding}

-- a memory was entered, from a tree that was new: this is what its call says
pub record IsEntered {L : Type 0} (old : TreeParts L Padding) (new : Sight L) (digest : List ℕ) : Type 0 where
  pub does : EntersMemory old new.tree new.lines new.trace digest
  pub same : SameTree old new.tree
  pub layout : old.layout ≡ new.layout
  pub log : (n : ℕ) → n < new.layout.log → contents_of new.log (history new.trace) n ≡ Some zero_payload

-- where each read of the tree is faithful, for the image of these static blocks, it contains them, and zeros elsewhere: the words that the ideal
-- machine begins with
abbrev pub EnteringGivesStatics : Type 0 → Type 0
EnteringGivesStatics L =
    (statics : List ℕ) (old : TreeParts L Padding) (new : Sight L) (digest : List ℕ) → length statics ≡ BLOCK_BYTES * static_blocks new.layout → IsEntered old new digest
    → TreeFaithful (static_at new.layout statics) (history new.trace) → HasContents new (static_memory new.layout statics)

-- and each read of the tree is faithful where all reads are
abbrev pub AllMakesTreeFaithful : Type 0
AllMakesTreeFaithful = (image : Place → Option (List ℕ)) (older : History) → AllFaithful image older → TreeFaithful image older
