use Rattle.std.proofs.Common.{◌≡◌, ◌++◌, drop}
use Rattle.c_semantics.specs.ResolvedViews.{functions_of}
use Rattle.lowering.specs.Lowering.{functions_code}
use Rattle.secure_split.specs.SplitViews.{home_by, private_by}
use Rattle.secure_split.proofs.functions.functions.Given as goal

abbrev pub invariant-loop-f : goal.invariant-loop-f
invariant-loop-f l =
    (l.code.ops ++ functions_code (home_by l.fn.scope.homes) (private_by l.fn.scope.privates) l.number_of l.cell l.code.labels (functions_of (drop l.f-index l.fs))
    ≡ l.fn.code.ops ++ functions_code (home_by l.fn.scope.homes) (private_by l.fn.scope.privates) 0 l.first l.fn.code.labels (functions_of l.fs))
    × (l.scope.homes ≡ l.fn.scope.homes)
    × (l.scope.privates ≡ l.fn.scope.privates)
