use Rattle.std.proofs.Common.{◌≡◌, ◌++◌, take, map}
use Rattle.source_place.specs.Places.{below}
use Rattle.source_place.proofs.line.add_below.Given as goal

abbrev pub invariant-loop-byte : goal.invariant-loop-byte
invariant-loop-byte l = l.lines.items ≡ l.initial.lines.items ++ map below (take l.byte-index l.bytes)
