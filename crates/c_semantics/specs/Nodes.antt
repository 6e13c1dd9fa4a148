-- Promise: how many nodes a resolved program has: its statements, its expressions, its functions and their parameters.
use Rattle.std.specs.Prelude.{ℕ, ◌+◌, List, [], ◌∷◌, length, Option, Some, None}
use Rattle.c_semantics.specs.ResolvedTree.{Expr, Number, Scalar, Indexed, Called, Input, Unary, Binary, Both, Either, Arguments, NoArguments, Argument, Stmt, Nothing, Then, Empty, Block, Local, Assign, Store, Call, Suspend, Release, Check, Return, Break, Continue, If, While, For, Function, Program}

abbrev mutual
  pub expr_nodes : Expr → ℕ
  expr_nodes (Number value) = 1
  expr_nodes (Scalar x) = 1
  expr_nodes (Indexed at array length index) = 1 + expr_nodes index
  expr_nodes (Called function arguments) = 1 + argument_nodes arguments
  expr_nodes Input = 1
  expr_nodes (Unary op inner) = 1 + expr_nodes inner
  expr_nodes (Binary at op left right) = 1 + (expr_nodes left + expr_nodes right)
  expr_nodes (Both left right) = 1 + (expr_nodes left + expr_nodes right)
  expr_nodes (Either left right) = 1 + (expr_nodes left + expr_nodes right)

  pub argument_nodes : Arguments → ℕ
  argument_nodes NoArguments = 0
  argument_nodes (Argument value later) = expr_nodes value + argument_nodes later

abbrev pub part_nodes : Option Expr → ℕ
part_nodes None = 0
part_nodes (Some e) = expr_nodes e

abbrev pub stmt_nodes : Stmt → ℕ
stmt_nodes Nothing = 0
stmt_nodes (Then first second) = stmt_nodes first + stmt_nodes second
stmt_nodes Empty = 1
stmt_nodes (Block body) = 1 + stmt_nodes body
stmt_nodes (Local x value) = 1 + part_nodes value
stmt_nodes (Assign x value) = 1 + expr_nodes value
stmt_nodes (Store at array length index value) = 1 + (expr_nodes index + expr_nodes value)
stmt_nodes (Call function arguments) = 1 + argument_nodes arguments
stmt_nodes Suspend = 1
stmt_nodes (Release value) = 1 + expr_nodes value
stmt_nodes Check = 1
stmt_nodes (Return value) = 1 + part_nodes value
stmt_nodes Break = 1
stmt_nodes Continue = 1
stmt_nodes (If test body other) = 1 + (expr_nodes test + (stmt_nodes body + stmt_nodes other))
stmt_nodes (While test body) = 1 + (expr_nodes test + stmt_nodes body)
stmt_nodes (For first test step body) = 1 + (stmt_nodes first + (part_nodes test + (stmt_nodes step + stmt_nodes body)))

abbrev pub function_nodes : Function → ℕ
function_nodes f = 1 + (length f.parameters + stmt_nodes f.body)

abbrev pub functions_nodes : List Function → ℕ
functions_nodes [] = 0
functions_nodes (f ∷ fs) = function_nodes f + functions_nodes fs

-- the nodes of a program
abbrev pub nodes : Program → ℕ
nodes p = functions_nodes p.functions
