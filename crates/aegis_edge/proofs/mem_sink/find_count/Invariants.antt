use Rattle.std.proofs.Common.{◌≡◌, ◌==◌, drop}
use Rattle.std.specs.Map.{lookup}
use Rattle.aegis_edge.proofs.mem_sink.find_count.Given as goal

-- what the entries that are left hold for the call is what all entries hold
abbrev pub invariant-loop-entry : goal.invariant-loop-entry
invariant-loop-entry l =
    lookup (λ number. number == l.call) l.failing ≡ lookup (λ number. number == l.call) (drop l.entry-index l.failing)
