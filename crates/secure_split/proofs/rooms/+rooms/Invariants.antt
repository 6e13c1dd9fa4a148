use Rattle.std.proofs.Common.{◌≡◌, ◌+◌, ◌≤◌, drop, length}
use Rattle.c_semantics.specs.ResolvedViews.{expr_of, exprs_of}
use Rattle.c_evaluator.proofs.Sizes.{expr_size, arguments_size}
use Rattle.lowering.specs.Cells.{room_of_all}
use Rattle.secure_split.proofs.rooms.+rooms.Given as goal

abbrev pub decreases-room_of : goal.decreases-room_of
decreases-room_of l = expr_size (expr_of l.e.now)

abbrev pub decreases-room_of_either : goal.decreases-room_of_either
decreases-room_of_either l = expr_size (expr_of l.left.now) + expr_size (expr_of l.right.now) + 1

abbrev pub decreases-room_of_all : goal.decreases-room_of_all
decreases-room_of_all l = arguments_size (exprs_of l.es.now) + 1

abbrev pub decreases-room_of_all-loop-left : goal.decreases-room_of_all-loop-left
decreases-room_of_all-loop-left l = l.left

abbrev pub invariant-room_of_all-loop-left : goal.invariant-room_of_all-loop-left
invariant-room_of_all-loop-left l = (l.left ≤ length l.es) × (l.room ≡ room_of_all (exprs_of (drop l.left l.es)))
