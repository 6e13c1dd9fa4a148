use Rattle.std.proofs.Common.{◌≡◌, ◌++◌, ◌-◌, drop}
use Rattle.lowering.specs.Cells.{filled_up}
use Rattle.secure_split.proofs.layout.filled_up.Given as goal

abbrev pub invariant-loop-i : goal.invariant-loop-i
invariant-loop-i l = l.all ++ filled_up (l.count - l.i) (drop l.i l.first) ≡ filled_up l.count l.first
