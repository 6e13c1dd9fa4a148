-- Promise: what was written to off-chip memory in blocks, and the stamps that count these writes.
use Rattle.std.specs.Prelude.{◌≡◌, ℕ, ◌+◌, ◌≤◌, ◌==◌, Bool, false, ⊤, List, [], ◌∷◌, ◌++◌, length, slice_get, filter_map, Option, Some, None, ◌↔◌, if◌then◌else◌}
use Rattle.aegis_num.specs.declared.storage.Block.{Block}
use Rattle.aegis_num.specs.declared.storage.Place.{Place}
use Rattle.aegis_num.specs.declared.storage.Place.TheVariants.{Tree, Log}
use Rattle.off_chip.specs.declared.event.Event.{Event}
use Rattle.off_chip.specs.declared.event.Event.TheVariants.{BlockRead, BlockWrite}
use Rattle.off_chip.specs.Histories.{History, in_order, history, Each, newest}

-- whether two places are the same
abbrev pub same_place : Place → Place → Bool
same_place (Tree m) (Tree n) = m == n
same_place (Log m) (Log n) = m == n
same_place place other = false

-- the block that an event writes at a place, if it does
abbrev pub written_at : Place → Event → Option Block
written_at place (BlockWrite at block) = if same_place place at then Some block else None
written_at place event = None

-- the block that an event reads at a place, if it does
abbrev pub read_at : Place → Event → Option Block
read_at place (BlockRead at block) = if same_place place at then Some block else None
read_at place event = None

-- the last write-back of a place: the block that was written there last
abbrev pub last_write : Place → History → Option Block
last_write place older = newest (λ event _. written_at place event) older

-- in order: the block was written there, and none after it
pub record IsLastWrite (place : Place) (trace : List Event) (block : Block) : Type 0 where
  pub before : List Event
  pub rest : List Event
  pub parts : trace ≡ before ++ BlockWrite place block ∷ rest
  pub none_after : filter_map (written_at place) rest ≡ []

-- the stamp of a block write
abbrev pub stamp_written : Event → Option ℕ
stamp_written (BlockWrite at block) = Some block.stamp
stamp_written event = None

-- how many block writes there are
abbrev pub block_writes : List Event → ℕ
block_writes trace = length (filter_map stamp_written trace)

-- a block write carries the number of block writes up to it, counted from 1
abbrev pub StampFits : Event → History → Type 0
StampFits (BlockWrite at block) older = block.stamp ≡ block_writes (in_order older) + 1
StampFits event older = ⊤

-- the stamps fit a history, and the last one is the number of its block writes
pub record StampsFit (last : ℕ) (older : History) : Type 0 where
  pub each : Each StampFits older
  pub count : last ≡ block_writes (in_order older)

-- in order: block write number k, counted from 1, carries the stamp k
pub record Stamped (trace : List Event) : Type 0 where
  pub each : (k stamp : ℕ) → slice_get (filter_map stamp_written trace) k ≡ Some stamp → stamp ≡ k + 1

-- write-backs and stamps, of histories and in order
pub record WritesInOrder : Type 0 where
  pub last : (place : Place) (trace : List Event) (block : Block) → (last_write place (history trace) ≡ Some block) ↔ IsLastWrite place trace block
  pub never : (place : Place) (trace : List Event) → (last_write place (history trace) ≡ None) ↔ (filter_map (written_at place) trace ≡ [])
  pub stamps : (last : ℕ) (trace : List Event) → StampsFit last (history trace) ↔ (Stamped trace × (last ≡ block_writes trace))
  -- a write-back has the stamp of a block write that was made
  pub bounds : (last : ℕ) (place : Place) (older : History) (block : Block) → StampsFit last older → last_write place older ≡ Some block
      → (1 ≤ block.stamp) × (block.stamp ≤ last)
