use Rattle.std.proofs.Common.{◌∙◌}
use Rattle.c_types.proofs.Globals.{global_step}
use Rattle.c_types.proofs.items.globals.Goals as goal

pub loop-number-preserved : goal.loop-number-preserved
loop-number-preserved c =
    rw (c.in_ok-global.ensures.declared, c.in_ok-global.ensures.sites)
    (global_step c.loop-number.verdict c.args.all.now c.loop-number.number c.index-all-number.result c.loop-number.names c.loop-number-test.true c.index-all-number.is
    ∙ c.loop-number.invariant)
