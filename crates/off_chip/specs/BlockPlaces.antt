-- Promise: the places that a trace names, and the static blocks of an image by their places.
use Rattle.std.specs.Prelude.{ℕ, ◌≡◌, ◌∷◌, ◌++◌, List, Option, Some, None, IfSome, ◌+◌, ◌-◌, ◌*◌, ◌<◌, nat_le, nat_lt, ◌&&◌, ◌↔◌, if◌then◌else◌}
use Rattle.aegis_num.specs.declared.storage.Place.{Place}
use Rattle.regions.specs.declared.layout.Layout.{Layout}
use Rattle.off_chip.specs.declared.event.Event.{Event}
use Rattle.off_chip.specs.declared.event.Event.TheVariants.{BlockRead, BlockWrite, WordRead, WordWrite, Note}
use Rattle.off_chip.specs.declared.event.Mark.TheVariants.{Drop}
use Rattle.off_chip.specs.OffChipBytes.{HasPlace, IsWordAddress, bytes_at, static_blocks, static_place, static_block}
use Rattle.aegis_num.specs.declared.storage.Place.TheVariants.{Tree, Log}
use Rattle.regions.specs.declared.addresses.TheConstants.{BLOCK_BYTES}
use Rattle.regions.specs.Tree.{leaf_of}

-- the place that an event names: block events and Drop marks name one
abbrev pub named_place : Event → Option Place
named_place (BlockRead at block) = Some at
named_place (BlockWrite at block) = Some at
named_place (Note (Drop at)) = Some at
named_place event = None

-- the address that an event names: word events name one
abbrev pub named_address : Event → Option ℕ
named_address (WordRead by at word) = Some at
named_address (WordWrite by at word) = Some at
named_address event = None

-- an event names a place that the layout has, or the address of an open word, or neither
pub record LiesInside (layout : Layout) (event : Event) : Type 0 where
  pub place : IfSome (named_place event) (HasPlace layout)
  pub address : IfSome (named_address event) IsWordAddress

-- in order: each event does
pub record AllInside (layout : Layout) (trace : List Event) : Type 0 where
  pub each : (before : List Event) (event : Event) (rest : List Event) → trace ≡ before ++ event ∷ rest → LiesInside layout event

-- the number of the first static block in the tree
abbrev pub first_static : Layout → ℕ
first_static layout = leaf_of layout (layout.verified + layout.private)

-- the payload of the static block at a place, of those whose payloads stand one after another, if the layout has one there
abbrev pub static_at : Layout → List ℕ → Place → Option (List ℕ)
static_at layout statics (Tree m) =
    if nat_le (first_static layout) m && nat_lt m (first_static layout + static_blocks layout) then Some (bytes_at (BLOCK_BYTES * (m - first_static layout)) BLOCK_BYTES statics) else None
static_at layout statics (Log m) = None

-- a place that has a static block
pub record IsStatic (layout : Layout) (statics : List ℕ) (place : Place) (payload : List ℕ) : Type 0 where
  pub n : ℕ
  pub below : n < static_blocks layout
  pub stands : place ≡ static_place layout n
  pub holds : payload ≡ (static_block statics n).payload

-- the static blocks of an image, by place and by number
pub record StaticsInPlace : Type 0 where
  pub at : (layout : Layout) (statics : List ℕ) (place : Place) (payload : List ℕ) → (static_at layout statics place ≡ Some payload) ↔ IsStatic layout statics place payload
