-- Promise: what a check of the log has read so far.
use Rattle.std.specs.Prelude.{◌≡◌, ℕ, ◌<◌, ◌≤◌, true, false, List, length, slice_get, Option, Some, None}
use Rattle.std.specs.List.{list_any}
use Rattle.aegis_num.specs.declared.storage.Block.{Block}
use Rattle.aegis_num.specs.declared.storage.Place.{Place}
use Rattle.aegis_num.specs.declared.storage.Place.TheVariants.{Log}
use Rattle.off_chip.specs.Histories.{History}
use Rattle.off_chip.specs.WriteBacks.{last_write}
use Rattle.off_chip.specs.Residency.{in_check, is_resident}
use Rattle.off_chip.specs.Epochs.{LogEntry, log_entry, is_check_start, open_epoch, reads_of, check_of, open_writes, EpochFaithful}
use Rattle.stamp_log.specs.LogTurns.{is_out}
use Rattle.stamp_log.specs.LogStands.{TraceStands}

-- what the check under way has read
abbrev pub check_reads : History → List LogEntry
check_reads older = reads_of (check_of (open_epoch older))

-- no image has a static block in the log
abbrev pub no_image : Place → Option (List ℕ)
no_image place = None

-- a check has read block n: its entry stands at its place, and is the last write-back where all reads of the epoch are faithful
pub record HasRead (older : History) (n : ℕ) : Type 0 where
  pub block : Block
  pub at : slice_get (check_reads older) n ≡ Some (log_entry n block)
  pub last : EpochFaithful no_image older → last_write (Log n) older ≡ Some block

-- a check is under way, and has read the first blocks of the log, so many of them, in order
pub record IsChecking (count : ℕ) (older : History) : Type 0 where
  pub under_way : in_check older ≡ true
  pub started : list_any is_check_start (open_epoch older) ≡ true
  pub counted : length (check_reads older) ≡ count
  pub each : (n : ℕ) → n < count → HasRead older n

-- the reads of a check, so many of them, from the history at their start on: each block that was read is out, and each other one is not
pub record IsReading (value : LogEntry → ℕ) (blocks count : ℕ) (start older : History) : Type 0 where
  pub trace : TraceStands value blocks older
  pub checking : IsChecking count older
  pub out : (n : ℕ) → n < count → is_out n older ≡ true
  pub inside : (n : ℕ) → count ≤ n → n < blocks → is_out n older ≡ false
  pub resident : (n : ℕ) → is_resident (Log n) older ≡ is_resident (Log n) start
  pub writes : open_writes older ≡ open_writes start
