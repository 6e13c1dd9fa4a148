use Rattle.std.proofs.Common.{◌≡◌, ◌≤◌, drop, length}
use Rattle.c_semantics.specs.ResolvedViews.{objects_of}
use Rattle.c_evaluator.specs.MachineStates.{seen, started}
use Rattle.c_evaluator.proofs.machine.Machine.new.Given as goal

abbrev pub invariant-loop-left : goal.invariant-loop-left
invariant-loop-left l = (l.left ≤ length l.objects) × (seen l.machine ≡ started (objects_of (drop l.left l.objects)) l.fn.input l.turns)

abbrev pub decreases-loop-left : goal.decreases-loop-left
decreases-loop-left l = l.left
