use Rattle.std.proofs.Common.{◌≡◌, ℕ, ◌+◌, ◌-◌, length}
use Rattle.c_evaluator.specs.MachineStates.{memory_of}
use Rattle.c_evaluator.proofs.machine.make_variable.Given as goal

abbrev pub invariant-loop-alloc : goal.invariant-loop-alloc
invariant-loop-alloc l = (x i : ℕ) → memory_of l.variables.items x i ≡ memory_of l.fn.variables.items x i

abbrev pub decreases-loop-alloc : goal.decreases-loop-alloc
decreases-loop-alloc l = l.token + 1 - length l.variables.items
