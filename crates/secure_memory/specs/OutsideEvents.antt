-- Promise: which events on the bus of a secure memory keep it standing, whoever makes them.
use Rattle.std.specs.Prelude.{◌≡◌, ℕ, Bool, true, false, List}
use Rattle.regions.specs.declared.layout.Layout.{Layout}
use Rattle.off_chip.specs.declared.event.Event.{Event}
use Rattle.off_chip.specs.declared.event.Event.TheVariants.{BlockRead, BlockWrite, Note}
use Rattle.off_chip.specs.declared.event.Mark.TheVariants.{CheckPassed, CheckStart, Drop}
use Rattle.line_cache.specs.LineMaps.{LineMap}
use Rattle.hash_tree.specs.TreeParts.{TreeParts}
use Rattle.hash_tree.specs.TreeSteps.{Appends}
use Rattle.stamp_log.specs.LogState.{LogState}
use Rattle.secure_memory.specs.PrivatePads.{Padding}
use Rattle.secure_memory.specs.MemoryStands.{MemoryStands}

-- whether an event is at no place of a block, and no mark of a check
abbrev pub is_outside : Event → Bool
is_outside (BlockRead at block) = false
is_outside (BlockWrite at block) = false
is_outside (Note (Drop at)) = false
is_outside (Note CheckStart) = false
is_outside (Note CheckPassed) = false
is_outside event = true

-- such an event keeps a memory standing
abbrev pub OutsideEventsKeep : Type 0 → Type 0
OutsideEventsKeep L = (layout : Layout) (tree : TreeParts L Padding) (lines : LineMap) (log : LogState) (stamps : ℕ) (event : Event) (old new : List Event)
    → is_outside event ≡ true → Appends event old new → MemoryStands layout tree lines log stamps old → MemoryStands layout tree lines log stamps new
