-- Promise: a sink in memory that never fails: its bytes, and how many more it takes.
use Rattle.std.specs.Prelude.{ℕ, ◌-◌, List, [], ◌++◌, length}

-- the bytes taken, and the room that is left, in bytes
pub record Room : Type 0 where
  pub bytes : List ℕ
  pub left : ℕ

-- a new sink, which holds nothing
abbrev pub new_room : ℕ → Room
new_room room = record { bytes = []; left = room }

-- the sink after a call of `write`: the piece stands at its end, and its length is taken from what was left
abbrev pub room_after_write : Room → List ℕ → Room
room_after_write sink piece = record { bytes = sink.bytes ++ piece; left = sink.left - length piece }
