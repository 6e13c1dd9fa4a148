-- Promise: where no two multisets of one sum were compared, each epoch of the log that has ended is faithful.
use Rattle.std.specs.Prelude.{◌≡◌, ℕ, false, List, ◌++◌, Option, Result}
use Rattle.std.specs.List.{list_any}
use Rattle.aegis_num.specs.declared.Place.{Place}
use Rattle.regions.specs.declared.Layout.{Layout}
use Rattle.off_chip.specs.declared.Event.{Event}
use Rattle.off_chip.specs.Collisions.{LogCollision}
use Rattle.off_chip.specs.Epochs.{EndedFaithful, LogEntry, is_passed}
use Rattle.off_chip.specs.Histories.{history}
use Rattle.line_cache.specs.LineMaps.{LineMap}
use Rattle.hash_tree.specs.TreeParts.{TreeParts}
use Rattle.stamp_log.specs.LogState.{LogState, value_under}
use Rattle.orbis_core.specs.declared.Stop.{Stop}
use Rattle.secure_memory.specs.MemoryAccesses.{Fetches, LoadsByte, LoadsWord, StoresByte, StoresWord}
use Rattle.secure_memory.specs.MemorySights.{Sight}
use Rattle.secure_memory.specs.MemoryStands.{MemoryStands}
use Rattle.secure_memory.specs.PrivatePads.{Padding}

-- no check of a trace passed that compared two different multisets of one sum
pub record LogIsClean (value : LogEntry → ℕ) (trace : List Event) : Type 0 where
  pub none : (number : ℕ) → LogCollision value trace number → ⊥

-- on such a trace of a memory each log read is faithful after which a check passed, whatever was loaded
abbrev pub EndedAreFaithful : Type 0 → Type 0
EndedAreFaithful L = (layout : Layout) (tree : TreeParts L Padding) (lines : LineMap) (log : LogState) (stamps : ℕ) (trace : List Event)
    → MemoryStands layout tree lines log stamps trace → LogIsClean (value_under log.key) trace → (image : Place → Option (List ℕ)) → EndedFaithful image (history trace)

-- further events none of which is a passed check
pub record PassesNoCheck (old new : List Event) : Type 0 where
  pub events : List Event
  pub appended : new ≡ old ++ events
  pub none : list_any is_passed events ≡ false

-- they end no epoch; and those of each access are such, whether it is done, refused or stopped
pub record AccessesEndNoEpoch (L : Type 0) : Type 0 where
  pub ended : (image : Place → Option (List ℕ)) (old new : List Event) → PassesNoCheck old new → EndedFaithful image (history old) → EndedFaithful image (history new)
  pub fetch : (at : ℕ) (answer : Result ℕ Stop) (old new : Sight L) → Fetches at answer old new → PassesNoCheck old.trace new.trace
  pub load_word : (at : ℕ) (answer : Result ℕ Stop) (old new : Sight L) → LoadsWord at answer old new → PassesNoCheck old.trace new.trace
  pub load_byte : (at : ℕ) (answer : Result ℕ Stop) (old new : Sight L) → LoadsByte at answer old new → PassesNoCheck old.trace new.trace
  pub store_word : (at word : ℕ) (answer : Result (Unit {0}) Stop) (old new : Sight L) → StoresWord at word answer old new → PassesNoCheck old.trace new.trace
  pub store_byte : (at byte : ℕ) (answer : Result (Unit {0}) Stop) (old new : Sight L) → StoresByte at byte answer old new → PassesNoCheck old.trace new.trace
