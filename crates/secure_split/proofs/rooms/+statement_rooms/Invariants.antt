use Rattle.std.proofs.Common.{◌≡◌, ◌+◌, ◌≤◌, drop, length}
use Rattle.c_semantics.specs.ResolvedViews.{stmt_of, stmts_of, branch_of}
use Rattle.c_evaluator.proofs.Sizes.{stmt_size}
use Rattle.lowering.specs.Cells.{room_in}
use Rattle.secure_split.proofs.rooms.+statement_rooms.Given as goal

abbrev pub decreases-room_in : goal.decreases-room_in
decreases-room_in l = stmt_size (stmt_of l.s.now)

abbrev pub decreases-room_in_branch : goal.decreases-room_in_branch
decreases-room_in_branch l = stmt_size (branch_of l.s.now) + 1

abbrev pub decreases-room_in_all : goal.decreases-room_in_all
decreases-room_in_all l = stmt_size (stmts_of l.ss.now)

abbrev pub decreases-room_in_all-loop-left : goal.decreases-room_in_all-loop-left
decreases-room_in_all-loop-left l = l.left

abbrev pub invariant-room_in_all-loop-left : goal.invariant-room_in_all-loop-left
invariant-room_in_all-loop-left l = (l.left ≤ length l.ss) × (l.room ≡ room_in (stmts_of (drop l.left l.ss)))
