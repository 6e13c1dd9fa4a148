use Rattle.std.proofs.Common.{◌≡◌, ◌++◌, drop}
use Rattle.c_semantics.specs.ResolvedViews.{exprs_of}
use Rattle.lowering.specs.Lowering.{passing}
use Rattle.secure_split.proofs.calls.pass.Given as goal

abbrev pub invariant-loop-argument : goal.invariant-loop-argument
invariant-loop-argument l =
    (l.code.ops ++ passing l.slot l.from (exprs_of (drop l._argument-index l.arguments)) ≡ l.fn.code.ops ++ passing 0 l.first (exprs_of l.arguments))
    × (l.code.labels ≡ l.fn.code.labels)
