-- The loops over operators and over arguments.
use Rattle.std.proofs.Common.{arith, sym, ◌∙◌}
use Rattle.std.proofs.lemmas.Result.{err_from_is_err_and}
use Rattle.c_parser.proofs.Loops.{chains-step, chains-end, chains-fault, separated-grows, grows-step, grows-end, grows-fault}
use Rattle.c_parser.proofs.expression.+expressions.Goals as goal

pub chained-returns-in_err-left-clause-reads : goal.chained-returns-in_err-left-clause-reads
chained-returns-in_err-left-clause-reads t c =
    let p = err_from_is_err_and c.from_residual.result c.from_residual.ensures.1 in
    rw (p.1, p.2) (chains-fault _ _ _ _ _ _ _ c.in-Some.op c.in_err-left.field-0.0 c.each.invariant.chains
    (sym c.operator_at.ensures ∙ c.in-Some.is) c.in_err-left.ensures.reads)

pub chained-each-preserved : goal.chained-each-preserved
chained-each-preserved t c = record {
  chains = chains-step _ _ _ _ _ _ _ _ c.in-Some.op c.each.invariant.chains
      (sym c.operator_at.ensures ∙ c.in-Some.is) c.in_ok-left.ensures.reads c.in_ok-left.ensures.takes;
  fits = omega (arith, c.in_ok-left.ensures.takes);
}

pub chained-returns-clause-reads : goal.chained-returns-clause-reads
chained-returns-clause-reads t c = chains-end _ _ _ _ _ _ c.each.invariant.chains (sym c.operator_at.ensures ∙ c.in_default.is)

pub separated-each-init : goal.separated-each-init
separated-each-init t c = record {
  grows = rw (c.in_ok-push.ensures.ok, c.new-trees.ensures) (separated-grows _ _ _ _ c.in_ok-first.ensures.reads);
  fits = c.in_ok-first.ensures.takes;
}

pub separated-returns-in_err-tree-clause-reads : goal.separated-returns-in_err-tree-clause-reads
separated-returns-in_err-tree-clause-reads t c =
    let p = err_from_is_err_and c.from_residual-in_err-tree.result c.from_residual-in_err-tree.ensures.1 in
    rw (p.1, p.2) (grows-fault _ _ _ _ _ _ c.in_err-tree.field-0.0 c.each.invariant.grows
    (sym c.is_at_sign.ensures ∙ c.each-test.true) c.in_err-tree.ensures.reads)

pub separated-each-preserved : goal.separated-each-preserved
separated-each-preserved t c = record {
  grows = rw c.in_ok-push-2.ensures.ok (grows-step _ _ _ _ _ _ _ c.each.invariant.grows
      (sym c.is_at_sign.ensures ∙ c.each-test.true) c.in_ok-tree.ensures.reads c.in_ok-tree.ensures.takes);
  fits = omega (arith, c.in_ok-tree.ensures.takes);
}

pub separated-returns-clause-reads : goal.separated-returns-clause-reads
separated-returns-clause-reads t c = grows-end _ _ _ _ _ c.each.invariant.grows (sym c.is_at_sign.ensures ∙ c.each-test.false)
