use Rattle.std.proofs.Common.{◌≡◌, ◌+◌, ◌++◌, drop}
use Rattle.c_semantics.specs.ResolvedViews.{expr_of, exprs_of}
use Rattle.c_evaluator.proofs.Sizes.{expr_size, arguments_size}
use Rattle.lowering.specs.Lowering.{labels_in_all, values_code}
use Rattle.secure_split.specs.SplitViews.{scope_of}
use Rattle.secure_split.proofs.expressions.+lower.Given as goal

abbrev pub decreases-value : goal.decreases-value
decreases-value l = expr_size (expr_of l.e.now)

abbrev pub decreases-element : goal.decreases-element
decreases-element l = expr_size (expr_of l.index.now) + 1

abbrev pub decreases-called : goal.decreases-called
decreases-called l = arguments_size (exprs_of l.arguments.now) + 2

abbrev pub decreases-unary : goal.decreases-unary
decreases-unary l = expr_size (expr_of l.inner.now) + 1

abbrev pub decreases-binary : goal.decreases-binary
decreases-binary l = expr_size (expr_of l.left.now) + expr_size (expr_of l.right.now) + 1

abbrev pub decreases-both : goal.decreases-both
decreases-both l = expr_size (expr_of l.left.now) + expr_size (expr_of l.right.now) + 1

abbrev pub decreases-either : goal.decreases-either
decreases-either l = expr_size (expr_of l.left.now) + expr_size (expr_of l.right.now) + 1

abbrev pub decreases-values : goal.decreases-values
decreases-values l = arguments_size (exprs_of l.es.now) + 1

abbrev pub invariant-values-loop-e : goal.invariant-values-loop-e
invariant-values-loop-e l =
    (l.code.ops ++ values_code (scope_of l.scope) l.to l.code.labels (exprs_of (drop l.e-index l.es))
    ≡ l.fn.code.ops ++ values_code (scope_of l.scope) l.r l.fn.code.labels (exprs_of l.es))
    × (l.code.labels + labels_in_all (exprs_of (drop l.e-index l.es)) ≡ l.fn.code.labels + labels_in_all (exprs_of l.es))
