-- Promise: which blocks are resident while an instruction is done: those of the path that it was fetched from, and the path or the log block
-- that it accesses.
use Rattle.std.specs.Prelude.{◌≡◌, ℕ, ◌<◌, ◌≤◌, true, List, Contains, Ok}
use Rattle.aegis_num.specs.declared.Place.TheVariants.{Tree, Log}
use Rattle.regions.specs.declared.addresses.TheConstants.{LOG_START, OPEN_END}
use Rattle.regions.specs.declared.Layout.{Layout}
use Rattle.regions.specs.Addresses.{data_block_at, log_block_at}
use Rattle.off_chip.specs.declared.Event.{Event}
use Rattle.off_chip.specs.Histories.{history}
use Rattle.off_chip.specs.Residency.{is_resident}
use Rattle.line_cache.specs.LineMaps.{AreLines}
use Rattle.hash_tree.specs.Paths.{path_of}
use Rattle.secure_memory.specs.MemoryAccesses.{Fetches, LoadsByte, LoadsWord, StoresByte, StoresWord, pins_after}
use Rattle.secure_memory.specs.MemorySights.{IsReady, Sight}
use Rattle.memory_trace.specs.ResidentLines.{HasResidentLines}

-- each of these tree blocks is resident
abbrev pub AreResident : List ℕ → List Event → Type 0
AreResident blocks trace = (n : ℕ) → Contains blocks n → is_resident (Tree n) (history trace) ≡ true

-- the blocks of an address are resident: those of the path of its data block, or its log block. An open address has none
pub record BlocksResident (layout : Layout) (at : ℕ) (trace : List Event) : Type 0 where
  pub path : OPEN_END ≤ at → at < LOG_START → AreResident (path_of layout (data_block_at at)) trace
  pub in_log : LOG_START ≤ at → is_resident (Log (log_block_at at)) (history trace) ≡ true

-- after a fetch the blocks that it pins are resident
pub record HoldsFetched {L : Type 0} (at : ℕ) (old new : Sight L) : Type 0 where
  pub pinned : new.pinned ≡ pins_after old.layout at
  pub still : AreResident new.pinned new.trace
  pub blocks : BlocksResident old.layout at new.trace

-- after another access the pinned blocks are resident still, and so are those of its address
pub record HoldsAccessed {L : Type 0} (at : ℕ) (old new : Sight L) : Type 0 where
  pub pinned : new.pinned ≡ old.pinned
  pub still : AreResident new.pinned new.trace
  pub blocks : BlocksResident old.layout at new.trace

-- each access does so that is done, over the lines of a cache
pub record AccessesHoldPaths (L : Type 0) : Type 0 where
  pub fetch : (at word : ℕ) (old new : Sight L) → IsReady old → HasResidentLines old → Fetches at (Ok word) old new → AreLines new.lines → HoldsFetched at old new
  pub load_word : (at word : ℕ) (old new : Sight L) → IsReady old → HasResidentLines old → LoadsWord at (Ok word) old new → AreLines new.lines
      → AreResident old.pinned old.trace → HoldsAccessed at old new
  pub load_byte : (at byte : ℕ) (old new : Sight L) → IsReady old → HasResidentLines old → LoadsByte at (Ok byte) old new → AreLines new.lines
      → AreResident old.pinned old.trace → HoldsAccessed at old new
  pub store_word : (at word : ℕ) (old new : Sight L) → IsReady old → HasResidentLines old → StoresWord at word (Ok tt) old new → AreLines new.lines
      → AreResident old.pinned old.trace → HoldsAccessed at old new
  pub store_byte : (at byte : ℕ) (old new : Sight L) → IsReady old → HasResidentLines old → StoresByte at byte (Ok tt) old new → AreLines new.lines
      → AreResident old.pinned old.trace → HoldsAccessed at old new
