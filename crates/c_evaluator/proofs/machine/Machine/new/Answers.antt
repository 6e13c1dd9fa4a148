use Rattle.std.proofs.Common.{◌≡◌, ◌∙◌, ap, suc, ◌-◌, ◌<◌, length, drop, arith}
use Rattle.c_semantics.specs.ResolvedViews.{objects_of}
use Rattle.c_evaluator.specs.MachineStates.{placed, started}
use Rattle.c_evaluator.proofs.Started.{started-step}
use Rattle.c_evaluator.proofs.machine.Machine.new.Goals as goal

pub loop-left-preserved : goal.loop-left-preserved
loop-left-preserved c =
    let below : c.loop-left.left - 1 < length c.args.objects.now = omega (arith, c.loop-left.invariant.0, c.loop-left-test.true) in
    let next : c.loop-left.left ≡ suc (c.loop-left.left - 1) = omega (arith, c.loop-left-test.true) in (
      omega (arith, below),
      c.in_ok-place.ensures
          ∙ ap (placed c.index-objects-left.result.variable.token c.index-objects-left.result.first)
          (c.loop-left.invariant.1 ∙ ap (λ n. started (objects_of (drop n c.args.objects.now)) c.args.input.now c.args.turns) next)
          ∙ started-step c.args.objects.now (c.loop-left.left - 1) c.index-objects-left.result c.args.input.now c.args.turns below c.index-objects-left.is,
    )
