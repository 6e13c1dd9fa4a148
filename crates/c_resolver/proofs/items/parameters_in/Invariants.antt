use Rattle.std.proofs.Common.{◌≡◌, ◌++◌, drop}
use Rattle.c_scopes.specs.Declarations.{parameters_of}
use Rattle.c_resolver.specs.ResolvingViews.{parameters_in}
use Rattle.c_resolver.proofs.items.parameters_in.Given as goal

abbrev pub invariant-loop-p : goal.invariant-loop-p
invariant-loop-p l =
    (parameters_in l.parameters ≡ l.own ++ parameters_in (drop l.p-index l.parameters))
    × (l.initial.names ++ parameters_of l.parameters ≡ l.names ++ parameters_of (drop l.p-index l.parameters))
