use Rattle.std.proofs.Common.{◌≡◌, ℕ, ◌≤◌, drop, length}
use Rattle.std.specs.Prelude.{nat_eq}
use Rattle.std.specs.HashMap.{get}
use Rattle.lowering.specs.Cells.{home_from}
use Rattle.secure_split.specs.SplitViews.{or_beyond}
use Rattle.secure_split.proofs.homes.Homes.new.Given as goal

abbrev pub invariant-loop-left : goal.invariant-loop-left
invariant-loop-left l = record {
  within : l.left ≤ length l.owners;
  noted : (token : ℕ) → home_from l.left (drop l.left l.owners) token ≡ or_beyond (length l.owners) token (get nat_eq l.cells token);
}

abbrev pub decreases-loop-left : goal.decreases-loop-left
decreases-loop-left l = l.left
