use Rattle.std.proofs.Common.{◌≡◌, ◌∙◌, ap, sym, subst, ◌+◌, ◌++◌, OnOk, arith}
use Rattle.c_semantics.specs.ResolvedTree as tree
use Rattle.c_semantics.specs.ResolvedViews.{expr_of, exprs_of}
use Rattle.c_semantics.proofs.ViewForms.{expr_of-Called}
use Rattle.c_evaluator.proofs.Sizes.{expr_size, arguments_size, argument-at}
use Rattle.lowering.specs.Lowering.{labels_in, value_code}
use Rattle.secure_split.specs.SplitViews.{scope_of}
use Rattle.secure_split.proofs.expressions.+lower.Goals as goal

pub value-called-requires : goal.value-called-requires
value-called-requires t c =
    let size : expr_size (expr_of c.args.e.now) ≡ 3 + arguments_size (exprs_of c.as_slice.result.now) =
    ap (λ e. expr_size (expr_of e)) c.in-Called.is ∙ ap expr_size (expr_of-Called c.in-Called.function c.in-Called.arguments)
    ∙ ap (λ es. 3 + arguments_size (exprs_of es)) (sym c.as_slice.ensures) in
    (omega (arith, size, c.decreases), tt)

pub value-returns-in-Called-clause-ops : goal.value-returns-in-Called-clause-ops
value-returns-in-Called-clause-ops t c =
    let form : expr_of c.args.e.now ≡ tree.Called c.in-Called.function (exprs_of c.as_slice.result.now) =
    ap expr_of c.in-Called.is ∙ expr_of-Called c.in-Called.function c.in-Called.arguments ∙ ap (λ es. tree.Called c.in-Called.function (exprs_of es)) (sym c.as_slice.ensures) in
    subst (λ e. OnOk c.called.result (c.called.new.code.ops ≡ c.args.code.now.ops ++ value_code (scope_of c.args.scope.now) c.args.r c.args.code.now.labels e)) (sym form) c.called.ensures.ops

pub value-returns-in-Called-clause-labels : goal.value-returns-in-Called-clause-labels
value-returns-in-Called-clause-labels t c =
    let form : expr_of c.args.e.now ≡ tree.Called c.in-Called.function (exprs_of c.as_slice.result.now) =
    ap expr_of c.in-Called.is ∙ expr_of-Called c.in-Called.function c.in-Called.arguments ∙ ap (λ es. tree.Called c.in-Called.function (exprs_of es)) (sym c.as_slice.ensures) in
    subst (λ e. OnOk c.called.result (c.called.new.code.labels ≡ c.args.code.now.labels + labels_in e)) (sym form) c.called.ensures.labels

pub values-value-requires : goal.values-value-requires
values-value-requires t c = (omega (arith, argument-at c.args.es.now c.loop-e.e-index c.e-item.result c.e-item.is c.loop-e-test.true, c.decreases), tt)
