use Rattle.std.proofs.Common.{◌≡◌, ◌∙◌, ap, sym, ◌+◌, suc, drop, arith}
use Rattle.c_scopes.specs.Scopes.{latest}
use Rattle.c_semantics.specs.ResolvedViews.{exprs_of}
use Rattle.c_resolver.specs.Resolving.{by_binding, call_value, nothing, typed_expr}
use Rattle.c_resolver.specs.ResolvingViews.{arguments_then, list_in}
use Rattle.c_semantics.specs.ResolvedTree as Tree
use Rattle.c_resolver.proofs.Lists.{after-none, after-snoc, list-at, list-end, typed-Call}
use Rattle.c_resolver.proofs.expressions.+resolve.Goals as goal

pub typed-returns-in_ok-given-in-Call : goal.typed-returns-in_ok-given-in-Call
typed-returns-in_ok-given-in-Call t c =
    c.call_value.ensures
    ∙ ap (λ b. by_binding nothing (call_value c.args.functions.now (exprs_of c.in_ok-given-in-Call.given)) b) c.binding-in-Call.ensures
    ∙ ap (λ given. by_binding nothing (call_value c.args.functions.now given) (latest c.args.names.now c.in-Call.name))
    (c.in_ok-given-in-Call.ensures ∙ ap (λ es. list_in c.args.functions.now es c.args.names.now) c.as_slice.ensures)
    ∙ sym (ap (λ e. typed_expr c.args.functions.now e c.args.names.now) c.in-Call.is ∙ typed-Call c.args.functions.now c.in-Call.name c.in-Call.arguments c.in-Call.token c.args.names.now)

pub listed-loop-e-preserved : goal.listed-loop-e-preserved
listed-loop-e-preserved t c =
    let next : c.loop-e.e-index + 1 ≡ suc c.loop-e.e-index = omega arith in
    let later = list_in c.args.functions.now (drop (suc c.loop-e.e-index) c.args.es.now) c.args.names.now in
    c.loop-e.invariant
    ∙ ap (arguments_then (exprs_of c.loop-e.given)) (list-at c.args.functions.now c.args.es.now c.loop-e.e-index c.e-item.result c.args.names.now c.loop-e-test.true c.e-item.is)
    ∙ ap (λ t. arguments_then (exprs_of c.loop-e.given) (Tree.Argument t.expr later)) (sym c.in_ok-one.ensures)
    ∙ sym (after-snoc c.loop-e.given c.in_ok-one.one.expr later)
    ∙ ap (λ xs. arguments_then (exprs_of xs) later) (sym c.in_ok-push.ensures.ok)
    ∙ ap (λ n. arguments_then (exprs_of c.push.new.self) (list_in c.args.functions.now (drop n c.args.es.now) c.args.names.now)) (sym next)

pub listed-returns : goal.listed-returns
listed-returns t c =
    sym (c.loop-e.invariant
    ∙ ap (arguments_then (exprs_of c.loop-e.given)) (list-end c.args.functions.now c.args.es.now c.loop-e.e-index c.args.names.now (omega (arith, c.loop-e-test.false)))
    ∙ after-none (exprs_of c.loop-e.given))
