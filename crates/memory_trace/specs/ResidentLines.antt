-- Promise: which blocks a secure memory holds, by its lines and by its trace.
use Rattle.std.specs.Prelude.{◌≡◌, ℕ, ◌<◌, ◌≤◌, Bool, true, false, List, Result, slice_index_or}
use Rattle.std.specs.List.{count_by}
use Rattle.std.specs.FinMap.{contains_key, len}
use Rattle.aegis_num.specs.declared.Place.{Place}
use Rattle.aegis_num.specs.declared.Place.TheVariants.{Tree, Log}
use Rattle.aegis_num.specs.declared.limits.TheConstants.{LOG_LINES, TREE_LINES}
use Rattle.regions.specs.declared.addresses.TheConstants.{OPEN_END}
use Rattle.regions.specs.declared.Layout.{Layout}
use Rattle.off_chip.specs.declared.Event.{Event}
use Rattle.off_chip.specs.Epochs.{LogEntry}
use Rattle.off_chip.specs.Histories.{history}
use Rattle.off_chip.specs.OffChipBytes.{HasPlace}
use Rattle.off_chip.specs.Residency.{ResidentAtMost, is_resident}
use Rattle.line_cache.specs.LineMaps.{LineMap}
use Rattle.hash_tree.specs.TreeSteps.{Appends}
use Rattle.stamp_log.specs.declared.LogCause.{LogCause}
use Rattle.stamp_log.specs.LogEvents.{RunsCheck}
use Rattle.stamp_log.specs.LogState.{LogLines}
use Rattle.orbis_core.specs.declared.Stop.{Stop}
use Rattle.orbis_core.specs.Accesses.{IsSettled}
use Rattle.secure_memory.specs.MemoryAccesses.{Fetches, LoadsByte, LoadsWord, StoresByte, StoresWord}
use Rattle.secure_memory.specs.MemorySights.{IsReady, Sight}
use Rattle.secure_memory.specs.OutsideEvents.{is_outside}
use Rattle.memory_trace.specs.SoundTraces.{IsSound}

-- whether a place has a line
abbrev pub has_line : LineMap → LogLines → Place → Bool
has_line lines log (Tree n) = contains_key lines n
has_line lines log (Log n) = slice_index_or log.held n false

-- each block of the layout has a line exactly where it is resident
pub record LinesResident (layout : Layout) (lines : LineMap) (log : LogLines) (trace : List Event) : Type 0 where
  pub each : (place : Place) → HasPlace layout place → has_line lines log place ≡ is_resident place (history trace)

abbrev pub HasResidentLines : {L : Type 0} → Sight L → Type 0
HasResidentLines sight = LinesResident sight.layout sight.lines sight.log.lines sight.trace

-- where an address is open, no line comes or leaves
abbrev pub OpenKeepsLines : {L : Type 0} → ℕ → Sight L → Sight L → Type 0
OpenKeepsLines at old new = at < OPEN_END → (place : Place) → has_line new.lines new.log.lines place ≡ has_line old.lines old.log.lines place

-- an access that is done or refused leaves the blocks with lines resident
pub record AccessesKeepLines (L : Type 0) : Type 0 where
  pub fetch : (at : ℕ) (answer : Result ℕ Stop) (old new : Sight L) → IsReady old → HasResidentLines old → Fetches at answer old new → IsSettled answer
      → OpenKeepsLines at old new → HasResidentLines new
  pub load_word : (at : ℕ) (answer : Result ℕ Stop) (old new : Sight L) → IsReady old → HasResidentLines old → LoadsWord at answer old new → IsSettled answer
      → OpenKeepsLines at old new → HasResidentLines new
  pub load_byte : (at : ℕ) (answer : Result ℕ Stop) (old new : Sight L) → IsReady old → HasResidentLines old → LoadsByte at answer old new → IsSettled answer
      → OpenKeepsLines at old new → HasResidentLines new
  pub store_word : (at word : ℕ) (answer : Result (Unit {0}) Stop) (old new : Sight L) → IsReady old → HasResidentLines old → StoresWord at word answer old new → IsSettled answer
      → OpenKeepsLines at old new → HasResidentLines new
  pub store_byte : (at byte : ℕ) (answer : Result (Unit {0}) Stop) (old new : Sight L) → IsReady old → HasResidentLines old → StoresByte at byte answer old new → IsSettled answer
      → OpenKeepsLines at old new → HasResidentLines new

-- so do a check of the log, whether it passes or not, and an event at no place of a block
pub record OthersKeepLines : Type 0 where
  pub check : (layout : Layout) (lines : LineMap) (value : LogEntry → ℕ) (result : Result (Unit {0}) LogCause) (before after : List Event) (old new : LogLines)
      → RunsCheck value layout.log result before after old new → LinesResident layout lines old before → LinesResident layout lines new after
  pub outside : (layout : Layout) (lines : LineMap) (log : LogLines) (event : Event) (before after : List Event) → is_outside event ≡ true → Appends event before after
      → LinesResident layout lines log before → LinesResident layout lines log after

-- no more lines than the cache of the tree and the log may have
pub record HoldsFew (lines : LineMap) (log : LogLines) : Type 0 where
  pub in_tree : len lines ≤ TREE_LINES
  pub in_log : count_by (λ held. held) log.held ≤ LOG_LINES

-- then at most 160 places are resident
abbrev pub FewAreResident : Type 0 → Type 0
FewAreResident L = (sight : Sight L) → IsReady sight → IsSound sight.layout sight.trace → HoldsFew sight.lines sight.log.lines → ResidentAtMost 160 (history sight.trace)
