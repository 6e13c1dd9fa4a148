use Rattle.std.proofs.Common.{◌∙◌, sym, ◌≤◌, min, length, arith}
use Rattle.c_evaluator.specs.MachineStates.{seen}
use Rattle.c_evaluator.proofs.Given.{given-end}
use Rattle.c_evaluator.proofs.evaluate.give.Goals as goal

pub returns-clause-given : goal.returns-clause-given
returns-clause-given c =
    let end : min (length c.args.parameters.now) (length c.args.words.now) ≤ c.loop-i.i = omega (arith, c.min-i-end.ensures, c.loop-i-test.false) in
    sym (given-end c.args.parameters.now c.args.words.now c.loop-i.i (seen c.loop-i.machine) end) ∙ c.loop-i.invariant
