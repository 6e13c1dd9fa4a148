use Rattle.std.proofs.Common.{◌≡◌, drop}
use Rattle.c_semantics.specs.Meaning.{given}
use Rattle.c_evaluator.specs.MachineStates.{bare, seen}
use Rattle.c_evaluator.proofs.evaluate.give.Given as goal

abbrev pub invariant-loop-i : goal.invariant-loop-i
invariant-loop-i l = given bare (drop l.i l.parameters) (drop l.i l.words) (seen l.machine) ≡ given bare l.parameters l.words (seen l.fn.machine)
