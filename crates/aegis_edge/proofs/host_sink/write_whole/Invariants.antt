use Rattle.std.proofs.Common.{◌≡◌, ℕ, List, ◌++◌}
use Rattle.std.specs.Io.KnownBytes.{Appends}
use Rattle.aegis_edge.proofs.host_sink.write_whole.Given as goal

-- the writer took what is gone from the piece
abbrev pub invariant-pieces : goal.invariant-pieces
invariant-pieces g l = (done : List ℕ) × (l.fn.bytes ≡ done ++ l.rest)
    × Appends (g.W.Write.contents l.initial.writer) (g.W.Write.contents l.writer) done
