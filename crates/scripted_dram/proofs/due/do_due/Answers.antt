use Rattle.std.proofs.Common.{ap, refl, sym, ◌∙◌}
use Rattle.scripted_dram.specs.DueChanges.{is_due}
use Rattle.scripted_dram.specs.StoredStates.{all_stored}
use Rattle.scripted_dram.proofs.Cursor.{all_done, IsPassed-more, IsPassed-next, more_stored, none_passed}
use Rattle.scripted_dram.proofs.due.do_due.Goals as goal

pub due-init : goal.due-init
due-init c =
    let count = c.args.count in
    let k = c.args.k in
    let changes = c.args.changes.now in
    let storage = c.args.storage.now in
    record {
      done = ap (λ done. all_stored done storage) (sym (none_passed count k changes c.args.cursor c.requires.passed));
      passed = IsPassed-next count k changes c.args.cursor c.requires.passed;
    }

pub due-preserved : goal.due-preserved
due-preserved c =
    let count = c.args.count in
    let k = c.args.k in
    let changes = c.args.changes.now in
    let below = c.due-test.ensures.inside refl in
    record {
      done = c.do_if_due.ensures ∙ more_stored (is_due count k) changes c.due.next c.index-changes-next.result c.args.storage.now c.due.storage below c.index-changes-next.is c.due.invariant.done;
      passed = IsPassed-more count k changes c.due.next c.index-changes-next.result c.due.invariant.passed below c.index-changes-next.is (sym c.due-test.ensures.value);
    }

pub returns-clause-done : goal.returns-clause-done
returns-clause-done c =
    let changes = c.args.changes.now in
    c.due.invariant.done ∙ ap (λ done. all_stored done c.args.storage.now)
    (all_done c.args.count c.args.k changes c.due.next (sym c.due-test.ensures.value) c.requires.rules.order)
