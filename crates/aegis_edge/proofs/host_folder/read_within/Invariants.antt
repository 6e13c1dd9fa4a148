use Rattle.std.proofs.Common.{◌≤◌, vec_len}
use Rattle.std.specs.Io.KnownBytes.{Consumes}
use Rattle.aegis_edge.proofs.host_folder.read_within.Given as goal

-- the reader gave the bytes so far, and they are within the limit
abbrev pub invariant-reads : goal.invariant-reads
invariant-reads g l = record {
  within : vec_len l.into ≤ l.limit;
  given : Consumes (g.F.Read.remaining l.initial.file) (g.F.Read.remaining l.file) l.into.items;
}
