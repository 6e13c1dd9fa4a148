use Rattle.std.proofs.Common.{◌≡◌, drop}
use Rattle.c_types.specs.Walks.{list_sites}
use Rattle.c_types.specs.Verdicts.{noted}
use Rattle.c_types.proofs.expressions.+expression.Given as goal

abbrev pub invariant-expressions-loop-e : goal.invariant-expressions-loop-e
invariant-expressions-loop-e l =
    noted l.verdict (list_sites (drop l.e-index l.all) l.names l.home) ≡ noted l.initial.verdict (list_sites l.all l.names l.initial.home)
