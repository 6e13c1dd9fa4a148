use Rattle.std.proofs.Common.{◌≡◌, ◌++◌, drop}
use Rattle.lowering.specs.Lowering.{taking}
use Rattle.secure_split.specs.SplitViews.{scope_of}
use Rattle.secure_split.proofs.functions.take.Given as goal

abbrev pub invariant-loop-x : goal.invariant-loop-x
invariant-loop-x l =
    (l.code.ops ++ taking (scope_of l.scope) l.slot (drop l.x-index l.parameters) ≡ l.fn.code.ops ++ taking (scope_of l.scope) 0 l.parameters)
    × (l.code.labels ≡ l.fn.code.labels)
