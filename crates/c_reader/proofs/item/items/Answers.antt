-- The loop over the list.
use Rattle.std.proofs.Common.{arith, sym, ◌∙◌}
use Rattle.std.proofs.lemmas.Result.{err_from_is_err_and}
use Rattle.c_descent.proofs.ProgramParser.{items}
use Rattle.c_parser.proofs.Loops.{none_left, all-grows, grows-step, grows-end, grows-fault}
use Rattle.c_reader.proofs.item.items.Goals as goal

pub each-init : goal.each-init
unfolding items
each-init c = record { grows = rw c.new-items.ensures (all-grows _ _ _); fits = omega arith }

pub returns-in_err-item-clause-reads : goal.returns-in_err-item-clause-reads
returns-in_err-item-clause-reads c =
    let p = err_from_is_err_and c.from_residual.result c.from_residual.ensures.1 in
    rw (p.1, p.2) (grows-fault _ _ _ _ _ _ c.in_err-item.field-0.0 c.each.invariant.grows
    (sym c.is_left.ensures ∙ c.each-test.true) c.in_err-item.ensures.reads)

pub each-preserved : goal.each-preserved
each-preserved c = record {
  grows = rw c.in_ok-push.ensures.ok (grows-step _ _ _ _ _ _ _ c.each.invariant.grows
      (sym c.is_left.ensures ∙ c.each-test.true) c.in_ok-item.ensures.reads c.in_ok-item.ensures.takes);
  fits = omega (arith, c.in_ok-item.ensures.takes);
}

pub returns-clause-reads : goal.returns-clause-reads
returns-clause-reads c = grows-end _ _ _ _ _ c.each.invariant.grows (sym c.is_left.ensures ∙ c.each-test.false)

pub returns-clause-all : goal.returns-clause-all
returns-clause-all c = none_left c.each.cursor (sym c.is_left.ensures ∙ c.each-test.false)
