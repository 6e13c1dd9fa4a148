-- Promise: what checks, and events at no place of a block, leave of the contents of a secure memory.
use Rattle.std.specs.Prelude.{◌≡◌, ℕ, true, List, ◌++◌, Result}
use Rattle.std.specs.List.{list_all}
use Rattle.off_chip.specs.declared.event.Event.{Event}
use Rattle.off_chip.specs.Epochs.{LogEntry}
use Rattle.off_chip.specs.Histories.{history}
use Rattle.hash_tree.specs.AsWritten.{AllAsWritten}
use Rattle.stamp_log.specs.declared.causes.LogCause.{LogCause}
use Rattle.stamp_log.specs.LogEvents.{RunsCheck}
use Rattle.secure_memory.specs.MemorySights.{HasContents, Sight}
use Rattle.secure_memory.specs.MemoryStands.{MemoryStands}
use Rattle.secure_memory.specs.OutsideEvents.{is_outside}
use Rattle.faithful_memory.specs.KnownWords.{HasDataContents}
use Rattle.faithful_memory.specs.ReadContents.{ReadsContents, ReadsDataContents}

-- the layout and the tree stay, with the lines of its cache
pub record KeepsTree {L : Type 0} (old new : Sight L) : Type 0 where
  pub layout : new.layout ≡ old.layout
  pub tree : new.tree ≡ old.tree
  pub lines : new.lines ≡ old.lines

-- a check of the log was made, which passed or did not
pub record IsChecked {L : Type 0} (value : LogEntry → ℕ) (result : Result (Unit {0}) LogCause) (old new : Sight L) : Type 0 where
  pub same : KeepsTree old new
  pub runs : RunsCheck value old.log.blocks result old.trace new.trace old.log.lines new.log.lines

-- events at no place of a block were made, none of them a mark of a check, and no block of the memory was used
pub record GrowsOutside {L : Type 0} (events : List Event) (old new : Sight L) : Type 0 where
  pub same : KeepsTree old new
  pub log : new.log ≡ old.log
  pub appended : new.trace ≡ old.trace ++ events
  pub outside : list_all is_outside events ≡ true

-- where each block that was read is as it was written, a check reads what the blocks of the log contain, and leaves all contents as they are
pub record ChecksReadContents (L : Type 0) : Type 0 where
  pub all : (value : LogEntry → ℕ) (result : Result (Unit {0}) LogCause) (old new : Sight L) (memory : ℕ → ℕ)
      → MemoryStands old.layout old.tree old.lines old.log old.stamps old.trace → AllAsWritten (history new.trace) → HasContents old memory
      → IsChecked value result old new → ReadsContents old new memory memory
  -- and whatever it read, the data blocks contain what they contained
  pub data_blocks : (value : LogEntry → ℕ) (result : Result (Unit {0}) LogCause) (old new : Sight L) (memory : ℕ → ℕ) → HasDataContents old memory
      → IsChecked value result old new → ReadsDataContents old new memory memory

-- events at no place of a block leave them as they are
pub record OutsideEventsKeepContents (L : Type 0) : Type 0 where
  pub all : (events : List Event) (old new : Sight L) (memory : ℕ → ℕ) → HasContents old memory → GrowsOutside events old new → ReadsContents old new memory memory
  pub data_blocks : (events : List Event) (old new : Sight L) (memory : ℕ → ℕ) → HasDataContents old memory → GrowsOutside events old new
      → ReadsDataContents old new memory memory
