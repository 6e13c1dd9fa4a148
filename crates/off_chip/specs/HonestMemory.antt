-- Promise: a memory that answers each read with its last write, or with what it began with, is honest.
use Rattle.std.specs.Prelude.{◌≡◌, ◌≢◌, ℕ, ◌+◌, ◌*◌, ◌<◌, ◌≤◌, ◌^◌, ◌⊎◌, List, [], ◌∷◌, ◌++◌, length, filter_map, Option, Some, None, IfSome}
use Rattle.aegis_num.specs.declared.storage.Block.{Block}
use Rattle.aegis_num.specs.declared.storage.Place.{Place}
use Rattle.regions.specs.declared.addresses.TheConstants.{BLOCK_BYTES, OPEN_END, STORED_BLOCK_BYTES}
use Rattle.regions.specs.declared.layout.Layout.{Layout}
use Rattle.off_chip.specs.declared.event.Event.{Event}
use Rattle.off_chip.specs.declared.event.Event.TheVariants.{BlockRead, BlockWrite}
use Rattle.off_chip.specs.OffChipBytes.{HasPlace, bytes_at, bytes_loaded, size_of, start_of_place, static_blocks, stored, IsAnswered}
use Rattle.off_chip.specs.BlockPlaces.{AllInside, static_at}
use Rattle.off_chip.specs.WriteBacks.{written_at, IsLastWrite}
use Rattle.off_chip.specs.FaithfulReads.{AllReadsFaithful}

-- the block that goes over the bus, if one does
abbrev pub moved_block : Event → Option Block
moved_block (BlockRead at block) = Some block
moved_block (BlockWrite at block) = Some block
moved_block event = None

-- a block has all bytes of its payload, and its stamp has 64 bits
pub record IsWhole (block : Block) : Type 0 where
  pub payload : length block.payload ≡ BLOCK_BYTES
  pub stamp : block.stamp < 2 ^ 64

-- each block of a trace is whole
pub record AllWhole (trace : List Event) : Type 0 where
  pub each : (before : List Event) (event : Event) (rest : List Event) → trace ≡ before ++ event ∷ rest → IfSome (moved_block event) IsWhole

-- each block that is read and was not written before is a static one
pub record FirstReadsStatic (layout : Layout) (statics : List ℕ) (trace : List Event) : Type 0 where
  pub each : (before : List Event) (place : Place) (block : Block) (rest : List Event) → trace ≡ before ++ BlockRead place block ∷ rest
      → filter_map (written_at place) before ≡ [] → static_at layout statics place ≢ None

-- a trace that a plain memory may give: each read is answered, each event names a place that there is, and each block is whole
pub record IsPlainTrace (layout : Layout) (statics : List ℕ) (trace : List Event) : Type 0 where
  pub long : length statics ≡ BLOCK_BYTES * static_blocks layout
  pub answered : IsAnswered layout trace (bytes_loaded layout statics)
  pub inside : AllInside layout trace
  pub whole : AllWhole trace

pub record PlainIsHonest : Type 0 where
  -- two places lie apart, and each lies after the open bytes and within memory
  pub apart : (layout : Layout) (place other : Place) → HasPlace layout place → HasPlace layout other → place ≢ other
      → (start_of_place layout place + STORED_BLOCK_BYTES ≤ start_of_place layout other) ⊎ (start_of_place layout other + STORED_BLOCK_BYTES ≤ start_of_place layout place)
  pub within : (layout : Layout) (place : Place) → HasPlace layout place
      → (OPEN_END ≤ start_of_place layout place) × (start_of_place layout place + STORED_BLOCK_BYTES ≤ size_of layout)
  -- a block read holds the newest write at its place, or else the load
  pub written : (layout : Layout) (statics : List ℕ) (before : List Event) (place : Place) (block written : Block) (rest : List Event)
      → IsPlainTrace layout statics (before ++ BlockRead place block ∷ rest) → IsLastWrite place before written → block ≡ written
  pub first : (layout : Layout) (statics : List ℕ) (before : List Event) (place : Place) (block : Block) (rest : List Event)
      → IsPlainTrace layout statics (before ++ BlockRead place block ∷ rest) → filter_map (written_at place) before ≡ []
      → stored block ≡ bytes_at (start_of_place layout place) STORED_BLOCK_BYTES (bytes_loaded layout statics)
  -- where each first read is of a static block, all reads are faithful
  pub faithful : (layout : Layout) (statics : List ℕ) (trace : List Event) → IsPlainTrace layout statics trace → FirstReadsStatic layout statics trace
      → AllReadsFaithful (static_at layout statics) trace
