use Rattle.std.proofs.Common.{◌≡◌, length, take}
use Rattle.c_scopes.proofs.names.Names.forget.Given as goal

abbrev pub invariant-each : goal.invariant-each
invariant-each l = take l.start l.self ≡ take l.start l.initial.self

abbrev pub decreases-each : goal.decreases-each
decreases-each l = length l.self
