-- Promise: what entering makes of the trace of a secure memory.
use Rattle.std.specs.Prelude.{◌≡◌, ℕ, List, length}
use Rattle.std.specs.FinMap.{empty}
use Rattle.regions.specs.declared.Layout.{Layout}
use Rattle.off_chip.specs.declared.Event.{Event}
use Rattle.off_chip.specs.Boundaries.{enter_events}
use Rattle.line_cache.specs.LineMaps.{LineMap}
use Rattle.hash_tree.specs.TreeParts.{TreeParts}
use Rattle.stamp_log.specs.LogState.{LogState}
use Rattle.secure_memory.specs.MemoryEntry.{EntersMemory}
use Rattle.secure_memory.specs.MemoryStands.{MemoryStands}
use Rattle.secure_memory.specs.PrivatePads.{Padding}
use Rattle.memory_trace.specs.ResidentLines.{LinesResident}
use Rattle.memory_trace.specs.SoundTraces.{IsSound}

-- the trace of an entering is sound, and each block has a line exactly where it is resident: none does
pub record EntersSound (layout : Layout) (lines : LineMap) (log : LogState) (trace : List Event) : Type 0 where
  pub sound : IsSound layout trace
  pub resident : LinesResident layout lines log.lines trace

abbrev pub EnteringIsSound : Type 0 → Type 0
EnteringIsSound L = (layout : Layout) (old new : TreeParts L Padding) (lines : LineMap) (log : LogState) (stamps : ℕ) (trace : List Event) (digest : List ℕ) → old.layout ≡ layout
    → EntersMemory old new lines trace digest → MemoryStands layout new lines log stamps trace → lines ≡ empty → length trace ≡ enter_events layout
    → EntersSound layout lines log trace
