use Rattle.std.proofs.Common.{◌≡◌, drop}
use Rattle.c_semantics.specs.ResolvedViews.{exprs_of}
use Rattle.c_resolver.specs.ResolvingViews.{arguments_then, list_in}
use Rattle.c_resolver.proofs.expressions.+resolve.Given as goal

abbrev pub invariant-listed-loop-e : goal.invariant-listed-loop-e
invariant-listed-loop-e l = list_in l.functions l.es l.names ≡ arguments_then (exprs_of l.given) (list_in l.functions (drop l.e-index l.es) l.names)
