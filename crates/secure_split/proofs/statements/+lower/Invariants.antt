use Rattle.std.proofs.Common.{◌≡◌, ◌+◌, ◌++◌, drop}
use Rattle.c_semantics.specs.ResolvedViews.{branch_of, stmt_of, stmts_of}
use Rattle.c_evaluator.proofs.Sizes.{stmt_size}
use Rattle.lowering.specs.Lowering.{labels_within, statement_code}
use Rattle.secure_split.specs.SplitViews.{exits_of, scope_of}
use Rattle.secure_split.proofs.statements.+lower.Given as goal

abbrev pub decreases-statement : goal.decreases-statement
decreases-statement l = stmt_size (stmt_of l.s.now)

abbrev pub decreases-statements : goal.decreases-statements
decreases-statements l = stmt_size (stmts_of l.ss.now)

abbrev pub decreases-branch : goal.decreases-branch
decreases-branch l = stmt_size (branch_of l.s.now) + 1

abbrev pub decreases-choice : goal.decreases-choice
decreases-choice l = stmt_size (stmt_of l.body.now) + stmt_size (branch_of l.other.now) + 2

abbrev pub decreases-while_loop : goal.decreases-while_loop
decreases-while_loop l = stmt_size (stmt_of l.body.now) + 1

abbrev pub decreases-for_loop : goal.decreases-for_loop
decreases-for_loop l = stmt_size (branch_of l.first.now) + stmt_size (branch_of l.step.now) + stmt_size (stmt_of l.body.now) + 3

abbrev pub decreases-turn : goal.decreases-turn
decreases-turn l = stmt_size (stmt_of l.body.now) + stmt_size (branch_of l.step.now) + 2

abbrev pub invariant-statements-loop-s : goal.invariant-statements-loop-s
invariant-statements-loop-s l =
    (l.code.ops ++ statement_code (scope_of l.scope) (exits_of l.exits) l.r l.code.labels (stmts_of (drop l.s-index l.ss))
    ≡ l.fn.code.ops ++ statement_code (scope_of l.scope) (exits_of l.exits) l.r l.fn.code.labels (stmts_of l.ss))
    × (l.code.labels + labels_within (stmts_of (drop l.s-index l.ss)) ≡ l.fn.code.labels + labels_within (stmts_of l.ss))
