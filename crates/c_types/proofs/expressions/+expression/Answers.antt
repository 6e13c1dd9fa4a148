use Rattle.std.proofs.Common.{◌∙◌, ap, ◌+◌, drop}
use Rattle.c_types.specs.Walks.{list_sites}
use Rattle.c_types.specs.Verdicts.{noted}
use Rattle.c_types.proofs.Noted.{list_step}
use Rattle.c_types.proofs.expressions.+expression.Goals as goal

pub expressions-loop-e-preserved : goal.expressions-loop-e-preserved
expressions-loop-e-preserved t c =
    ap (λ v. noted v (list_sites (drop (c.loop-e.e-index + 1) c.args.all.now) c.args.names.now c.args.home)) c.expression.ensures
    ∙ list_step c.loop-e.verdict c.args.all.now c.loop-e.e-index c.e-item.result c.args.names.now c.args.home c.loop-e-test.true c.e-item.is
    ∙ c.loop-e.invariant
