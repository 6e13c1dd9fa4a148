-- Promise: what has to stand in a trace for a log to stand on it.
use Rattle.std.specs.Prelude.{◌≡◌, ℕ, ◌<◌, Bool, true, false, ◌||◌, List, length, slice_get, Option, Some, ◌⊎◌}
use Rattle.aegis_num.specs.declared.storage.Block.{Block}
use Rattle.aegis_num.specs.declared.storage.Place.{Place}
use Rattle.aegis_num.specs.declared.storage.Place.TheVariants.{Log}
use Rattle.off_chip.specs.declared.event.Event.{Event}
use Rattle.off_chip.specs.Histories.{History, no_event, ◌◂◌, in_order, until}
use Rattle.off_chip.specs.WriteBacks.{last_write}
use Rattle.off_chip.specs.Epochs.{LogEntry, log_entry, is_passed, reads_of, check_of, ended_epoch, EndedFaithful, NoReadAbove}
use Rattle.off_chip.specs.Collisions.{LogCollision}
use Rattle.stamp_log.specs.LogTurns.{TurnsAreTaken}

-- a block of the log was written, and its last write-back is the entry at its place in a list
pub record IsEntryOf (entries : List LogEntry) (older : History) (n : ℕ) : Type 0 where
  pub block : Block
  pub written : last_write (Log n) older ≡ Some block
  pub at : slice_get entries n ≡ Some (log_entry n block)

-- the list has the last write-backs of the log's blocks, one of each, in order
pub record AreLastWrites (blocks : ℕ) (entries : List LogEntry) (older : History) : Type 0 where
  pub count : length entries ≡ blocks
  pub each : (n : ℕ) → n < blocks → IsEntryOf entries older n

-- a check passed
abbrev pub some_passed : History → Bool
some_passed no_event = false
some_passed (event ◂ older) = is_passed event || some_passed older

-- the list with which the writes of the open epoch begin, where a check passed: what that check read
abbrev pub carried_over : History → List LogEntry
carried_over older = reads_of (check_of (ended_epoch older))

-- each log read before the latest passed check is faithful, and what that check read are the last write-backs then
pub record EndedWell (blocks : ℕ) (older : History) : Type 0 where
  pub faithful : (image : Place → Option (List ℕ)) → EndedFaithful image older
  pub entries : some_passed older ≡ true → AreLastWrites blocks (carried_over older) (until is_passed older)

-- at some event a check passed that compared two different multisets of one sum
pub record HoldsLogCollision (value : LogEntry → ℕ) (trace : List Event) : Type 0 where
  pub number : ℕ
  pub collides : LogCollision value trace number

-- a block of the log was written
pub record IsWritten (older : History) (n : ℕ) : Type 0 where
  pub block : Block
  pub last : last_write (Log n) older ≡ Some block

-- a log stands on a trace as far as the trace tells it: each block was written; reads and writes take turns, and no read has a stamp
-- above the count; the epochs that have ended did so well, or the trace holds a collision
pub record TraceStands (value : LogEntry → ℕ) (blocks : ℕ) (older : History) : Type 0 where
  pub written : (n : ℕ) → n < blocks → IsWritten older n
  pub turns : TurnsAreTaken blocks older
  pub not_above : NoReadAbove older
  pub ended : EndedWell blocks older ⊎ HoldsLogCollision value (in_order older)
