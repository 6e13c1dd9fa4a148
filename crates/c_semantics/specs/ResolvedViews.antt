-- Promise: the programs that the code keeps, as those of the definitions.
use Rattle.std.specs.Prelude.{List, [], ◌∷◌, Option, Some, None}
use Rattle.c_semantics.specs.declared.tree.Expr.{Expr}
use Rattle.c_semantics.specs.declared.tree.Expr.TheOpen.{Expr-F}
use Rattle.c_semantics.specs.declared.tree.Expr.TheFolds.{fold-Expr}
use Rattle.c_semantics.specs.declared.tree.Stmt.{Stmt}
use Rattle.c_semantics.specs.declared.tree.Stmt.TheOpen.{Stmt-F}
use Rattle.c_semantics.specs.declared.tree.Stmt.TheFolds.{fold-Stmt}
use Rattle.c_semantics.specs.declared.tree.Function.{Function}
use Rattle.c_semantics.specs.declared.tree.Object.{Object}
use Rattle.c_semantics.specs.declared.tree.Program.{Program}
use Rattle.c_semantics.specs.ResolvedTree as Tree

-- expressions as arguments
abbrev pub arguments_of : List Tree.Expr → Tree.Arguments
arguments_of [] = Tree.NoArguments
arguments_of (e ∷ es) = Tree.Argument e (arguments_of es)

abbrev pub expr_step : Expr-F Tree.Expr → Tree.Expr
expr_step (Expr-F.Number value) = Tree.Number value
expr_step (Expr-F.Scalar variable) = Tree.Scalar variable
expr_step (Expr-F.Indexed at array length index) = Tree.Indexed at array length index
expr_step (Expr-F.Called function arguments) = Tree.Called function (arguments_of arguments)
expr_step Expr-F.Input = Tree.Input
expr_step (Expr-F.Unary op inner) = Tree.Unary op inner
expr_step (Expr-F.Binary at op left right) = Tree.Binary at op left right
expr_step (Expr-F.Both left right) = Tree.Both left right
expr_step (Expr-F.Either left right) = Tree.Either left right

-- an expression
abbrev pub expr_of : Expr → Tree.Expr
expr_of = fold-Expr Tree.Expr expr_step

-- expressions, one after the other
abbrev pub exprs_of : List Expr → Tree.Arguments
exprs_of [] = Tree.NoArguments
exprs_of (e ∷ es) = Tree.Argument (expr_of e) (exprs_of es)

-- an expression that need not be there
abbrev pub part_of : Option Expr → Option Tree.Expr
part_of None = None
part_of (Some e) = Some (expr_of e)

-- statements, one after the other
abbrev pub in_turn : List Tree.Stmt → Tree.Stmt
in_turn [] = Tree.Nothing
in_turn (s ∷ ss) = Tree.Then s (in_turn ss)

-- a statement that need not be there
abbrev pub stmt_or_nothing : Option Tree.Stmt → Tree.Stmt
stmt_or_nothing None = Tree.Nothing
stmt_or_nothing (Some s) = s

abbrev pub stmt_step : Stmt-F Tree.Stmt → Tree.Stmt
stmt_step Stmt-F.Empty = Tree.Empty
stmt_step (Stmt-F.Block body) = Tree.Block (in_turn body)
stmt_step (Stmt-F.Local variable value) = Tree.Local variable (part_of value)
stmt_step (Stmt-F.Assign variable value) = Tree.Assign variable (expr_of value)
stmt_step (Stmt-F.Store at array length index value) = Tree.Store at array length (expr_of index) (expr_of value)
stmt_step (Stmt-F.Call function arguments) = Tree.Call function (exprs_of arguments)
stmt_step Stmt-F.Suspend = Tree.Suspend
stmt_step (Stmt-F.Release value) = Tree.Release (expr_of value)
stmt_step Stmt-F.Check = Tree.Check
stmt_step (Stmt-F.Return value) = Tree.Return (part_of value)
stmt_step Stmt-F.Break = Tree.Break
stmt_step Stmt-F.Continue = Tree.Continue
stmt_step (Stmt-F.If test body other) = Tree.If (expr_of test) body (stmt_or_nothing other)
stmt_step (Stmt-F.While test body) = Tree.While (expr_of test) body
stmt_step (Stmt-F.For first test step body) = Tree.For (stmt_or_nothing first) (part_of test) (stmt_or_nothing step) body

-- a statement
abbrev pub stmt_of : Stmt → Tree.Stmt
stmt_of = fold-Stmt Tree.Stmt stmt_step

-- statements, one after the other
abbrev pub stmts_of : List Stmt → Tree.Stmt
stmts_of [] = Tree.Nothing
stmts_of (s ∷ ss) = Tree.Then (stmt_of s) (stmts_of ss)

-- a statement that need not be there
abbrev pub branch_of : Option Stmt → Tree.Stmt
branch_of None = Tree.Nothing
branch_of (Some s) = stmt_of s

abbrev pub function_of : Function → Tree.Function
function_of f = record { private = f.private; parameters = f.parameters; body = stmts_of f.body }

abbrev pub functions_of : List Function → List Tree.Function
functions_of [] = []
functions_of (f ∷ fs) = function_of f ∷ functions_of fs

abbrev pub object_of : Object → Tree.Object
object_of o = record { variable = o.variable; length = o.length; first = o.first }

abbrev pub objects_of : List Object → List Tree.Object
objects_of [] = []
objects_of (o ∷ os) = object_of o ∷ objects_of os

abbrev pub program_of : Program → Tree.Program
program_of p = record { objects = objects_of p.objects; functions = functions_of p.functions; main = p.main }
