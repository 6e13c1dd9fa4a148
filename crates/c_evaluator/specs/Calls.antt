-- Device: what the functions of a program do when they are called, and one turn of a loop.
use Rattle.std.specs.Prelude.{List, Option}
use Rattle.c_semantics.specs.declared.tree.Function.{Function}
use Rattle.c_semantics.specs.declared.tree.Expr.{Expr}
use Rattle.c_semantics.specs.declared.tree.Stmt.{Stmt}
use Rattle.c_semantics.specs.States.{State, Outcome}
use Rattle.c_semantics.specs.Meaning.{Calls, calls_of, turn, Turn, condition, meaning}
use Rattle.c_semantics.specs.ResolvedViews.{functions_of, stmt_of, part_of, branch_of}
use Rattle.c_evaluator.specs.MachineStates.{bare}

-- the calls of these functions
abbrev pub callable : List Function → Calls
callable functions = calls_of bare (functions_of functions)

-- one turn of a loop with these parts
abbrev pub one_turn : List Function → Option Expr → Option Stmt → Stmt → State → Outcome Turn
one_turn functions test step body =
    turn bare (condition bare (callable functions) (part_of test)) (meaning bare (callable functions) (stmt_of body)) (meaning bare (callable functions) (branch_of step))
