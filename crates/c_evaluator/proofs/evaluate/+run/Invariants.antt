use Rattle.std.proofs.Common.{◌≡◌, suc, ◌+◌, ◌*◌, ◌++◌, drop}
use Rattle.std.specs.Option.{option_copied}
use Rattle.c_semantics.specs.States.{GoesOn, then}
use Rattle.c_semantics.specs.Meaning.{values, meaning, loop, iterate}
use Rattle.c_semantics.specs.ResolvedViews.{expr_of, exprs_of, stmt_of, stmts_of, branch_of, part_of}
use Rattle.c_evaluator.specs.Calls.{callable, one_turn}
use Rattle.c_evaluator.proofs.Sizes.{expr_size, arguments_size, part_size, stmt_size, functions_size}
use Rattle.c_evaluator.specs.MachineStates.{bare, seen}
use Rattle.c_evaluator.proofs.evaluate.+run.Given as goal

abbrev pub decreases-branch : goal.decreases-branch
decreases-branch l = 2 * (functions_size l.functions.now + stmt_size (branch_of l.s.now) + 1)

abbrev pub decreases-call : goal.decreases-call
decreases-call l = 2 * (functions_size l.functions.now + 1)

abbrev pub decreases-repeat : goal.decreases-repeat
decreases-repeat l = 2 * (functions_size l.functions.now + part_size (part_of (option_copied l.test)) + stmt_size (branch_of l.step.now) + stmt_size (stmt_of l.body.now) + 3)

abbrev pub decreases-statement : goal.decreases-statement
decreases-statement l = 2 * (functions_size l.functions.now + stmt_size (stmt_of l.s.now))

abbrev pub decreases-statements : goal.decreases-statements
decreases-statements l = 2 * (functions_size l.functions.now + stmt_size (stmts_of l.ss.now))

abbrev pub decreases-turn : goal.decreases-turn
decreases-turn l = 2 * (functions_size l.functions.now + part_size (part_of (option_copied l.test)) + stmt_size (branch_of l.step.now) + stmt_size (stmt_of l.body.now) + 2)

abbrev pub decreases-value_of : goal.decreases-value_of
decreases-value_of l = 2 * (functions_size l.functions.now + expr_size (expr_of l.e.now)) + 1

abbrev pub decreases-value_of_form : goal.decreases-value_of_form
decreases-value_of_form l = 2 * (functions_size l.functions.now + expr_size (expr_of l.e.now))

abbrev pub decreases-value_or_zero : goal.decreases-value_or_zero
decreases-value_or_zero l = 2 * (functions_size l.functions.now + part_size (part_of l.e.now))

abbrev pub decreases-values_of : goal.decreases-values_of
decreases-values_of l = 2 * (functions_size l.functions.now + arguments_size (exprs_of l.es.now) + 1)

abbrev pub decreases-element : goal.decreases-element
decreases-element l = 2 * (functions_size l.functions.now + expr_size (expr_of l.index.now) + 1)

abbrev pub decreases-call_for_value : goal.decreases-call_for_value
decreases-call_for_value l = 2 * (functions_size l.functions.now + arguments_size (exprs_of l.arguments.now) + 2)

abbrev pub decreases-unary : goal.decreases-unary
decreases-unary l = 2 * (functions_size l.functions.now + expr_size (expr_of l.inner.now) + 1)

abbrev pub decreases-binary : goal.decreases-binary
decreases-binary l = 2 * (functions_size l.functions.now + expr_size (expr_of l.left.now) + expr_size (expr_of l.right.now) + 1)

abbrev pub decreases-both : goal.decreases-both
decreases-both l = 2 * (functions_size l.functions.now + expr_size (expr_of l.left.now) + expr_size (expr_of l.right.now) + 1)

abbrev pub decreases-either : goal.decreases-either
decreases-either l = 2 * (functions_size l.functions.now + expr_size (expr_of l.left.now) + expr_size (expr_of l.right.now) + 1)

abbrev pub decreases-block : goal.decreases-block
decreases-block l = 2 * (functions_size l.functions.now + stmt_size (stmts_of l.body.now) + 1)

abbrev pub decreases-local : goal.decreases-local
decreases-local l = 2 * (functions_size l.functions.now + part_size (part_of l.value.now) + 1)

abbrev pub decreases-assign : goal.decreases-assign
decreases-assign l = 2 * (functions_size l.functions.now + expr_size (expr_of l.value.now) + 1)

abbrev pub decreases-store : goal.decreases-store
decreases-store l = 2 * (functions_size l.functions.now + expr_size (expr_of l.index.now) + expr_size (expr_of l.value.now) + 1)

abbrev pub decreases-call_alone : goal.decreases-call_alone
decreases-call_alone l = 2 * (functions_size l.functions.now + arguments_size (exprs_of l.arguments.now) + 2) + 1

abbrev pub decreases-release : goal.decreases-release
decreases-release l = 2 * (functions_size l.functions.now + expr_size (expr_of l.value.now) + 1)

abbrev pub decreases-leave : goal.decreases-leave
decreases-leave l = 2 * (functions_size l.functions.now + part_size (part_of l.value.now) + 1)

abbrev pub decreases-choice : goal.decreases-choice
decreases-choice l = 2 * (functions_size l.functions.now + expr_size (expr_of l.test.now) + stmt_size (stmt_of l.body.now) + stmt_size (branch_of l.other.now) + 3)

abbrev pub decreases-for_loop : goal.decreases-for_loop
decreases-for_loop l = 2 * (functions_size l.functions.now + stmt_size (branch_of l.first.now) + part_size (part_of (option_copied l.test)) + stmt_size (branch_of l.step.now) + stmt_size (stmt_of l.body.now) + 4)

abbrev pub invariant-repeat-loop-flow : goal.invariant-repeat-loop-flow
invariant-repeat-loop-flow l =
    iterate (suc l.rounds) (one_turn l.functions (option_copied l.test) l.step l.body) (seen l.machine) ≡ loop (one_turn l.functions (option_copied l.test) l.step l.body) (seen l.fn.machine)

abbrev pub decreases-repeat-loop-flow : goal.decreases-repeat-loop-flow
decreases-repeat-loop-flow l = l.rounds

abbrev pub invariant-statements-loop-s : goal.invariant-statements-loop-s
invariant-statements-loop-s l =
    meaning bare (callable l.functions) (stmts_of (drop l.s-index l.ss)) (seen l.machine) ≡ meaning bare (callable l.functions) (stmts_of l.ss) (seen l.fn.machine)

abbrev pub invariant-values_of-loop-e : goal.invariant-values_of-loop-e
invariant-values_of-loop-e l =
    values bare (callable l.functions) (exprs_of l.es) (seen l.fn.machine)
    ≡ then (values bare (callable l.functions) (exprs_of (drop l.e-index l.es)) (seen l.machine)) (λ vs s. GoesOn (l.words.items ++ vs) s)
