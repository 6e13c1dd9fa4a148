-- Promise: when a log stands on a trace, and what its blocks contain.
use Rattle.std.specs.Prelude.{◌≡◌, ℕ, ◌<◌, false, List, [], length, replicate, option_map, is_some, Option}
use Rattle.aegis_num.specs.declared.storage.Block.{Block}
use Rattle.aegis_num.specs.declared.storage.Place.TheVariants.{Log}
use Rattle.off_chip.specs.Histories.{History, first_told}
use Rattle.off_chip.specs.WriteBacks.{last_write}
use Rattle.off_chip.specs.Residency.{in_check, is_resident}
use Rattle.off_chip.specs.Epochs.{open_reads, open_writes}
use Rattle.off_chip.specs.Collisions.{EntrySum, sum_of}
use Rattle.stamp_log.specs.LogTurns.{is_out}
use Rattle.stamp_log.specs.LogStands.{TraceStands}
use Rattle.stamp_log.specs.LogState.{LogState, LogLines, line_of, value_under, entry_sum}

-- a block of the log has a line exactly where it is resident, and exactly where it is out
pub record LinesStand (blocks : ℕ) (lines : LogLines) (older : History) : Type 0 where
  pub resident : (n : ℕ) → n < blocks → is_some (line_of lines n) ≡ is_resident (Log n) older
  pub out : (n : ℕ) → n < blocks → is_some (line_of lines n) ≡ is_out n older

-- a log stands on a trace: its sums are those of the reads and the writes of the open epoch, its lines are of the blocks that are
-- resident, the trace tells what it has to, and no check is under way
pub record StandsOn (log : LogState) (older : History) : Type 0 where
  pub read : entry_sum log.read ≡ sum_of (value_under log.key) (open_reads older)
  pub written : entry_sum log.written ≡ sum_of (value_under log.key) (open_writes older)
  pub lines : LinesStand log.blocks log.lines older
  pub trace : TraceStands (value_under log.key) log.blocks older
  pub no_check : in_check older ≡ false
  pub size : length log.lines.held ≡ log.blocks

-- what a block of the log contains: the payload of its line, or else that of its last write-back
abbrev pub contents_in : LogLines → History → ℕ → Option (List ℕ)
contents_in lines older n = first_told (line_of lines n) (option_map (λ (block : Block). block.payload) (last_write (Log n) older))

abbrev pub contents_of : LogState → History → ℕ → Option (List ℕ)
contents_of log older n = contents_in log.lines older n

-- the sum of no entries
abbrev pub no_entries : EntrySum
no_entries = record { number = 0; total = 0 }

-- a log that was not used yet
pub record IsNew (log : LogState) : Type 0 where
  pub order : log.lines.order ≡ []
  pub held : log.lines.held ≡ replicate log.blocks false
  pub read : entry_sum log.read ≡ no_entries
  pub written : entry_sum log.written ≡ no_entries
