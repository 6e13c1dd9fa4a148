-- Promise: what a bus may tell of itself, and what each of its calls does.
use Rattle.std.specs.Prelude.{ℕ, ◌+◌, ◌≡◌, List, [], ◌∷◌, ◌++◌, Option, None, Some, IfSome, ◌<◌}
use Rattle.aegis_num.specs.declared.storage.Place.{Place}
use Rattle.aegis_num.specs.declared.storage.Place.TheVariants.{Log}
use Rattle.regions.specs.declared.layout.Layout.{Layout}
use Rattle.off_chip.specs.declared.event.Event.{Event}
use Rattle.off_chip.specs.declared.event.Mark.{Mark}
use Rattle.off_chip.specs.declared.event.Mark.TheVariants.{Drop}
use Rattle.off_chip.specs.OffChipBytes.{HasPlace, Holds}

-- exactly one event is appended to the trace, and takes one of the room
pub record AppendsOne (event : Event) (old_trace : List Event) (old_room : ℕ) (new_trace : List Event) (new_room : ℕ) : Type 0 where
  pub trace : new_trace ≡ old_trace ++ event ∷ []
  pub room : new_room + 1 ≡ old_room

-- the told layout is this one, where one is told
pub record TellsOnly (layout : Layout) (told : Option Layout) : Type 0 where
  pub mine : IfSome told (λ mine. mine ≡ layout)

-- the told layout has so many log blocks, where one is told
pub record TellsLog (blocks : ℕ) (told : Option Layout) : Type 0 where
  pub mine : IfSome told (λ mine. mine.log ≡ blocks)

-- the place is one of the layout, where a layout is told
abbrev pub IsInside : Option Layout → Place → Type 0
IsInside None place = Unit {0}
IsInside (Some layout) place = HasPlace layout place

-- the place that a mark names, if it names one, is one of the layout, where a layout is told
abbrev pub IsMarkInside : Option Layout → Mark → Type 0
IsMarkInside told (Drop place) = IsInside told place
IsMarkInside told mark = Unit {0}

-- a read holds what is told to stand at its place, where the layout and the bytes are told
abbrev pub HoldsTold : Option Layout → Option (List ℕ) → Event → Type 0
HoldsTold None contents event = Unit {0}
HoldsTold (Some layout) None event = Unit {0}
HoldsTold (Some layout) (Some memory) event = Holds layout memory event

-- what a told layout gives, where it is the tree's own, or has the blocks of the log
pub record ToldLayouts : Type 0 where
  pub only : (layout mine : Layout) → TellsOnly layout (Some mine) → mine ≡ layout
  pub tree : (layout : Layout) (told : Option Layout) (place : Place) → TellsOnly layout told → HasPlace layout place → IsInside told place
  pub log : (blocks : ℕ) (told : Option Layout) (n : ℕ) → TellsLog blocks told → n < blocks → IsInside told (Log n)
  pub both : (layout : Layout) (told : Option Layout) → TellsOnly layout told → TellsLog layout.log told
