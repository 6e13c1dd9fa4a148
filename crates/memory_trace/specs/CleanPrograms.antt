-- Promise: where the program that was read at entering has the digest of the image's and the two do not collide, each static block that was
-- read is the image's.
use Rattle.std.specs.Prelude.{◌≡◌, ℕ, zero, suc, ◌*◌, List, [], ◌∷◌, length, take, drop}
use Rattle.std.specs.FinMap.{empty}
use Rattle.regions.specs.declared.addresses.TheConstants.{BLOCK_BYTES}
use Rattle.regions.specs.declared.Layout.{Layout}
use Rattle.off_chip.specs.declared.Event.{Event}
use Rattle.off_chip.specs.BlockPlaces.{static_at}
use Rattle.off_chip.specs.Boundaries.{enter_events}
use Rattle.off_chip.specs.Collisions.{ProgramCollision}
use Rattle.off_chip.specs.FaithfulReads.{AllFaithful}
use Rattle.off_chip.specs.Histories.{history}
use Rattle.off_chip.specs.OffChipBytes.{static_blocks}
use Rattle.block_hash.specs.BlockStrings.{program_digest}
use Rattle.line_cache.specs.LineMaps.{LineMap}
use Rattle.hash_tree.specs.HashTrees.{strings_hashed}
use Rattle.hash_tree.specs.TreeParts.{TreeParts}
use Rattle.stamp_log.specs.LogState.{LogState}
use Rattle.secure_memory.specs.MemoryEntry.{EntersMemory}
use Rattle.secure_memory.specs.MemoryStands.{MemoryStands}
use Rattle.secure_memory.specs.PrivatePads.{Padding}

-- bytes in blocks, so many of them
abbrev pub payloads_in : ℕ → List ℕ → List (List ℕ)
payloads_in zero bytes = []
payloads_in (suc n) bytes = take BLOCK_BYTES bytes ∷ payloads_in n (drop BLOCK_BYTES bytes)

-- the payloads of the static blocks of an image, which stand one after another
abbrev pub payloads_loaded : Layout → List ℕ → List (List ℕ)
payloads_loaded layout statics = payloads_in (static_blocks layout) statics

-- then each block that is read at entering is faithful
abbrev pub ProgramsAreFaithful : Type 0 → Type 0
ProgramsAreFaithful L = (layout : Layout) (statics : List ℕ) (old new : TreeParts L Padding) (lines : LineMap) (log : LogState) (stamps : ℕ) (trace : List Event) (digest : List ℕ) → old.layout ≡ layout
    → EntersMemory old new lines trace digest → MemoryStands layout new lines log stamps trace → lines ≡ empty → length trace ≡ enter_events layout → length statics ≡ BLOCK_BYTES * static_blocks layout
    → digest ≡ program_digest (payloads_loaded layout statics) → (ProgramCollision strings_hashed layout (payloads_loaded layout statics) trace → ⊥)
    → AllFaithful (static_at layout statics) (history trace)
