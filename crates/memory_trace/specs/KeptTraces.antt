-- Promise: what each access of a secure memory keeps of its trace, a check of its log, and what other parts of the machine do on its bus.
use Rattle.std.specs.Prelude.{◌≡◌, ◌≢◌, ℕ, ◌<◌, true, false, List, [], ◌∷◌, ◌++◌, length, Option, Some, Result, Ok, Err}
use Rattle.aegis_num.specs.declared.Block.{Block}
use Rattle.aegis_num.specs.declared.Place.{Place}
use Rattle.aegis_num.specs.declared.Place.TheVariants.{Tree}
use Rattle.regions.specs.declared.Layout.{Layout}
use Rattle.regions.specs.Tree.{tree_blocks}
use Rattle.off_chip.specs.declared.Event.{Event}
use Rattle.off_chip.specs.declared.Event.TheVariants.{BlockRead}
use Rattle.off_chip.specs.Epochs.{LogEntry}
use Rattle.off_chip.specs.ExpectedDigests.{expected_digest}
use Rattle.off_chip.specs.FaithfulReads.{is_faithful}
use Rattle.off_chip.specs.Histories.{history}
use Rattle.block_hash.specs.BlockStrings.{block_digest}
use Rattle.hash_tree.specs.AsWritten.{AllAsWritten}
use Rattle.hash_tree.specs.HashTrees.{digests_of, strings_hashed}
use Rattle.hash_tree.specs.TreeSteps.{Appends}
use Rattle.stamp_log.specs.declared.LogCause.{LogCause}
use Rattle.stamp_log.specs.LogEvents.{RunsCheck}
use Rattle.stamp_log.specs.LogState.{LogLines}
use Rattle.stamp_log.specs.OfflineCheck.{FutureRead}
use Rattle.orbis_core.specs.declared.Stop.{Stop}
use Rattle.orbis_core.specs.declared.Stop.TheVariants as stop
use Rattle.secure_memory.specs.MemoryAccesses.{Fetches, LoadsByte, LoadsWord, StoresByte, StoresWord}
use Rattle.secure_memory.specs.MemorySights.{IsReady, Sight}
use Rattle.secure_memory.specs.OutsideEvents.{is_outside}
use Rattle.memory_trace.specs.SoundTraces.{IsClean, IsSound}

-- the trace ends with a read of a tree block, at this event. Before it the trace is sound, and the block that was read has another digest
-- than the one that was expected of it
pub record StopsAtTree (layout : Layout) (trace : List Event) (event : ℕ) : Type 0 where
  pub before : List Event
  pub n : ℕ
  pub block : Block
  pub last : trace ≡ before ++ BlockRead (Tree n) block ∷ []
  pub number : event ≡ length before
  pub sound : IsSound layout before
  pub inside : n < tree_blocks layout
  pub expected : List ℕ
  pub is_expected : expected_digest (digests_of layout) n (history before) ≡ Some expected
  pub differs : block_digest n block ≢ expected
  -- so not every read gave what had been written, and where the trace before it is clean, this one did not
  pub some_unfaithful : AllAsWritten (history trace) → ⊥
  pub unfaithful : IsClean strings_hashed before → (image : Place → Option (List ℕ)) → is_faithful image (BlockRead (Tree n) block) (history before) ≡ false

-- the trace is sound, and ends with a log read whose stamp is above the number of block writes before it, at this event
pub record StopsAtLog (layout : Layout) (trace : List Event) (event : ℕ) : Type 0 where
  pub sound : IsSound layout trace
  pub future : FutureRead trace event

-- what an access leaves of a sound trace, by its answer
abbrev pub LeavesSound : {T : Type 0} → Layout → Result T Stop → List Event → Type 0
LeavesSound layout (Ok answer) trace = IsSound layout trace
LeavesSound layout (Err (stop.Refused why)) trace = IsSound layout trace
LeavesSound layout (Err (stop.Tree event)) trace = StopsAtTree layout trace event
LeavesSound layout (Err (stop.Log event)) trace = StopsAtLog layout trace event

-- each of the five accesses does, whatever was read
pub record AccessesKeepSound (L : Type 0) : Type 0 where
  pub fetch : (at : ℕ) (answer : Result ℕ Stop) (old new : Sight L) → IsReady old → IsSound old.layout old.trace → Fetches at answer old new → LeavesSound old.layout answer new.trace
  pub load_word : (at : ℕ) (answer : Result ℕ Stop) (old new : Sight L) → IsReady old → IsSound old.layout old.trace → LoadsWord at answer old new
      → LeavesSound old.layout answer new.trace
  pub load_byte : (at : ℕ) (answer : Result ℕ Stop) (old new : Sight L) → IsReady old → IsSound old.layout old.trace → LoadsByte at answer old new
      → LeavesSound old.layout answer new.trace
  pub store_word : (at word : ℕ) (answer : Result (Unit {0}) Stop) (old new : Sight L) → IsReady old → IsSound old.layout old.trace → StoresWord at word answer old new
      → LeavesSound old.layout answer new.trace
  pub store_byte : (at byte : ℕ) (answer : Result (Unit {0}) Stop) (old new : Sight L) → IsReady old → IsSound old.layout old.trace → StoresByte at byte answer old new
      → LeavesSound old.layout answer new.trace

-- so do a check of the log, whether it passes or not, and an event at no place of a block
pub record OthersKeepSound : Type 0 where
  pub check : (layout : Layout) (value : LogEntry → ℕ) (result : Result (Unit {0}) LogCause) (before after : List Event) (old new : LogLines)
      → RunsCheck value layout.log result before after old new → IsSound layout before → IsSound layout after
  pub outside : (layout : Layout) (event : Event) (before after : List Event) → is_outside event ≡ true → Appends event before after → IsSound layout before → IsSound layout after
