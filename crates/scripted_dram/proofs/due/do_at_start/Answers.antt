use Rattle.std.proofs.Common.{refl, ◌∙◌}
use Rattle.scripted_dram.specs.ScriptMemory.{is_at_start}
use Rattle.scripted_dram.proofs.Cursor.{more_stored}
use Rattle.scripted_dram.proofs.due.do_at_start.Goals as goal

pub loop-i-preserved : goal.loop-i-preserved
loop-i-preserved c = record {
  all = refl;
  done = c.do_if_at_start.ensures ∙ more_stored is_at_start c.args.changes.now c.loop-i.i c.index-changes-i.result c.args.storage.now c.loop-i.storage c.loop-i-test.true c.index-changes-i.is c.loop-i.invariant.done;
}
