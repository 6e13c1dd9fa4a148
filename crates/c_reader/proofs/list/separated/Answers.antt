-- The loop over the list.
use Rattle.std.proofs.Common.{arith, sym, ◌∙◌}
use Rattle.std.proofs.lemmas.Result.{err_from_is_err_and}
use Rattle.c_parser.proofs.Loops.{separated-grows, grows-step, grows-end, grows-fault}
use Rattle.c_reader.proofs.list.separated.Goals as goal

pub each-init : goal.each-init
each-init g c = record {
  grows = rw (c.in_ok-push.ensures.ok, c.new-parts.ensures) (separated-grows _ _ _ _ c.in_ok-first.ensures.reads);
  fits = c.in_ok-first.ensures.takes;
}

pub returns-in_err-part-clause-reads : goal.returns-in_err-part-clause-reads
returns-in_err-part-clause-reads g c =
    let p = err_from_is_err_and c.from_residual-in_err-part.result c.from_residual-in_err-part.ensures.1 in
    rw (p.1, p.2) (grows-fault _ _ _ _ _ _ c.in_err-part.field-0.0 c.each.invariant.grows
    (sym c.is_at_sign.ensures ∙ c.each-test.true) c.in_err-part.ensures.reads)

pub each-preserved : goal.each-preserved
each-preserved g c = record {
  grows = rw c.in_ok-push-2.ensures.ok (grows-step _ _ _ _ _ _ _ c.each.invariant.grows
      (sym c.is_at_sign.ensures ∙ c.each-test.true) c.in_ok-part.ensures.reads c.in_ok-part.ensures.takes);
  fits = omega (arith, c.in_ok-part.ensures.takes);
}

pub returns-clause-reads : goal.returns-clause-reads
returns-clause-reads g c = grows-end _ _ _ _ _ c.each.invariant.grows (sym c.is_at_sign.ensures ∙ c.each-test.false)
