-- Promise: a sink in memory: its bytes, its room, and the calls of `write` that fail.
use Rattle.std.specs.Prelude.{ℕ, Bool, ◌==◌, ◌||◌, ◌-◌, nat_lt, min, List, [], ◌++◌, length, take, Option, is_some, unwrap_or, if◌then◌else◌}
use Rattle.std.specs.Map.{lookup}
use Rattle.aegis_edge.specs.Faults.{one_fault_more}

-- the bytes taken, the room in bytes, the calls that fail and after how many bytes, and how many calls and faults there were
pub record SinkInMemory : Type 0 where
  pub bytes : List ℕ
  pub room : ℕ
  pub failing : List (ℕ × ℕ)
  pub calls : ℕ
  pub faults : ℕ

-- a new sink, which holds nothing
abbrev pub new_sink : ℕ → List (ℕ × ℕ) → SinkInMemory
new_sink room failing = record { bytes = []; room = room; failing = failing; calls = 0; faults = 0 }

-- how many bytes still fit
abbrev pub room_left : SinkInMemory → ℕ
room_left sink = sink.room - length sink.bytes

-- after how many bytes the coming call of `write` fails, where it is one that fails; its first entry counts
abbrev pub bytes_before_fault : SinkInMemory → Option ℕ
bytes_before_fault sink = lookup (λ number. number == sink.calls) sink.failing

-- how many bytes of a piece the coming call takes
abbrev pub taken_of : SinkInMemory → List ℕ → ℕ
taken_of sink piece =
    min (unwrap_or (bytes_before_fault sink) (length piece)) (min (room_left sink) (length piece))

-- the coming call is one that fails, or the piece passes the room
abbrev pub fails_on : SinkInMemory → List ℕ → Bool
fails_on sink piece = is_some (bytes_before_fault sink) || nat_lt (room_left sink) (length piece)

-- the sink after a call of `write`: what was taken stands at its end, one call more, and one fault more where it fails
abbrev pub sink_after_write : SinkInMemory → List ℕ → SinkInMemory
sink_after_write sink piece = record sink {
  bytes = sink.bytes ++ take (taken_of sink piece) piece;
  calls = one_fault_more sink.calls;
  faults = (if fails_on sink piece then one_fault_more sink.faults else sink.faults);
}
