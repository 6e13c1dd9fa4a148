use Rattle.std.proofs.Common.{◌≡◌, ◌+◌, ◌++◌, drop}
use Rattle.c_semantics.specs.ProgramShape.{locals_of}
use Rattle.c_semantics.specs.ResolvedViews.{stmt_of, stmts_of, branch_of}
use Rattle.c_evaluator.proofs.Sizes.{stmt_size}
use Rattle.secure_split.proofs.rooms.+locals.Given as goal

abbrev pub decreases-note_locals : goal.decreases-note_locals
decreases-note_locals l = stmt_size (stmt_of l.s.now)

abbrev pub decreases-note_locals_of_branch : goal.decreases-note_locals_of_branch
decreases-note_locals_of_branch l = stmt_size (branch_of l.s.now) + 1

abbrev pub decreases-note_all_locals : goal.decreases-note_all_locals
decreases-note_all_locals l = stmt_size (stmts_of l.ss.now)

abbrev pub invariant-note_all_locals-loop-s : goal.invariant-note_all_locals-loop-s
invariant-note_all_locals-loop-s l = l.tokens.items ++ locals_of (stmts_of (drop l.s-index l.ss)) ≡ l.fn.tokens.items ++ locals_of (stmts_of l.ss)
