-- The loop over the locals and statements of a block.
use Rattle.std.proofs.Common.{arith, sym, ◌∙◌}
use Rattle.std.proofs.lemmas.Result.{err_from_is_err_and}
use Rattle.c_descent.proofs.StatementParser.{entries}
use Rattle.c_parser.proofs.Loops.{all-grows, grows-step, grows-end, grows-fault}
use Rattle.c_parser.proofs.block.+statements.Goals as goal

pub entries-each-init : goal.entries-each-init
unfolding entries
entries-each-init t c = record { grows = rw c.new-trees.ensures (all-grows _ _ _); fits = omega arith }

pub entries-returns-in_err-tree-clause-reads : goal.entries-returns-in_err-tree-clause-reads
entries-returns-in_err-tree-clause-reads t c =
    let p = err_from_is_err_and c.from_residual.result c.from_residual.ensures.1 in
    rw (p.1, p.2) (grows-fault _ _ _ _ _ _ c.in_err-tree.field-0.0 c.each.invariant.grows
    (sym c.goes_on.ensures ∙ c.each-test.true) c.in_err-tree.ensures.reads)

pub entries-each-preserved : goal.entries-each-preserved
entries-each-preserved t c = record {
  grows = rw c.in_ok-push.ensures.ok (grows-step _ _ _ _ _ _ _ c.each.invariant.grows
      (sym c.goes_on.ensures ∙ c.each-test.true) c.in_ok-tree.ensures.reads c.in_ok-tree.ensures.takes);
  fits = omega (arith, c.in_ok-tree.ensures.takes);
}

pub entries-returns-clause-reads : goal.entries-returns-clause-reads
entries-returns-clause-reads t c = grows-end _ _ _ _ _ c.each.invariant.grows (sym c.goes_on.ensures ∙ c.each-test.false)
