-- Promise: what a log holds: its lines, and the sums of its open epoch.
use Rattle.std.specs.Prelude.{ℕ, Bool, false, List, [], Option, Some, None, slice_index_or, slice_set, if◌then◌else◌}
use Rattle.aegis_num.specs.declared.storage.Block.{Block}
use Rattle.aegis_num.specs.declared.storage.Key.{Key}
use Rattle.off_chip.specs.Collisions.{EntrySum}
use Rattle.off_chip.specs.Epochs.{LogEntry}
use Rattle.block_hash.specs.BlockStrings.{entry_value}
use Rattle.stamp_log.specs.declared.sums.MultisetSum.{MultisetSum}

-- the blocks that have lines, the one first whose line was used least recently; for each block, whether it has a line, and the payload of
-- its line, if it has one
pub record LogLines : Type 0 where
  pub order : List ℕ
  pub held : List Bool
  pub payloads : List (List ℕ)

-- the payload of a block's line, if it has one
abbrev pub line_of : LogLines → ℕ → Option (List ℕ)
line_of lines n = if slice_index_or lines.held n false then Some (slice_index_or lines.payloads n []) else None

-- the lines with another payload in one of them
abbrev pub with_payload : LogLines → ℕ → List ℕ → LogLines
with_payload lines n payload = record { order = lines.order; held = lines.held; payloads = slice_set lines.payloads n payload }

-- a log: its key, its lines, and what it read and wrote in the open epoch
pub record LogState : Type 0 where
  pub key : Key
  pub blocks : ℕ
  pub lines : LogLines
  pub read : MultisetSum
  pub written : MultisetSum

-- the value of an entry under a key
abbrev pub value_under : Key → LogEntry → ℕ
value_under key entry = entry_value key entry.number (record { payload = entry.payload; stamp = entry.stamp })

-- a sum as it is defined of lists of entries
abbrev pub entry_sum : MultisetSum → EntrySum
entry_sum sum = record { number = sum.count; total = sum.sum }

-- a block with this payload and this stamp
abbrev pub stamped : List ℕ → ℕ → Block
stamped payload stamp = record { payload = payload; stamp = stamp }

-- a log with another payload in the line of a block
abbrev pub with_line : LogState → ℕ → List ℕ → LogState
with_line log n payload = record { key = log.key; blocks = log.blocks; lines = with_payload log.lines n payload; read = log.read; written = log.written }
