-- Where the places of a layout end.
use Rattle.std.proofs.Common.{◌+◌, ◌≤◌}
use Rattle.aegis_num.specs.declared.storage.Place.{Place}
use Rattle.regions.specs.declared.layout.Layout.{Layout}
use Rattle.off_chip.specs.OffChipBytes.{HasPlace, size_of, start_of_place}
use Rattle.off_chip.proofs.ByteLemmas.{HasPlace-within}

-- all bytes of a place are within memory
pub within : (layout : Layout) (place : Place) → HasPlace layout place → start_of_place layout place + 72 ≤ size_of layout
within = HasPlace-within
