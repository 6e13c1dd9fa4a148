-- Promise: how many operators of two operands stand inside one another in a resolved program.
use Rattle.std.specs.Prelude.{ℕ, suc, ◌*◌, ◌≤◌, max, List, [], ◌∷◌, Option, Some, None}
use Rattle.aegis_num.specs.declared.limits.TheConstants.{MAX_BINARY_OPERATORS, MAX_NESTING}
use Rattle.c_grammar.specs.declared.item.Program.{Program}
use Rattle.c_semantics.specs.ResolvedTree as Tree
use Rattle.c_resolver.specs.Resolving.{plain_program}

-- the most operators on a way down through an expression
abbrev mutual
  pub operator_depth : Tree.Expr → ℕ
  operator_depth (Tree.Indexed at array length index) = operator_depth index
  operator_depth (Tree.Called function arguments) = arguments_depth arguments
  operator_depth (Tree.Unary op inner) = operator_depth inner
  operator_depth (Tree.Binary at op left right) = suc (max (operator_depth left) (operator_depth right))
  operator_depth (Tree.Both left right) = suc (max (operator_depth left) (operator_depth right))
  operator_depth (Tree.Either left right) = suc (max (operator_depth left) (operator_depth right))
  operator_depth other = 0

  pub arguments_depth : Tree.Arguments → ℕ
  arguments_depth Tree.NoArguments = 0
  arguments_depth (Tree.Argument value later) = max (operator_depth value) (arguments_depth later)

abbrev pub part_depth : Option Tree.Expr → ℕ
part_depth None = 0
part_depth (Some e) = operator_depth e

-- in each expression of a statement
abbrev pub statement_depth : Tree.Stmt → ℕ
statement_depth (Tree.Then first second) = max (statement_depth first) (statement_depth second)
statement_depth (Tree.Block body) = statement_depth body
statement_depth (Tree.Local variable value) = part_depth value
statement_depth (Tree.Assign variable value) = operator_depth value
statement_depth (Tree.Store at array length index value) = max (operator_depth index) (operator_depth value)
statement_depth (Tree.Call function arguments) = arguments_depth arguments
statement_depth (Tree.Release value) = operator_depth value
statement_depth (Tree.Return value) = part_depth value
statement_depth (Tree.If test body other) = max (operator_depth test) (max (statement_depth body) (statement_depth other))
statement_depth (Tree.While test body) = max (operator_depth test) (statement_depth body)
statement_depth (Tree.For first test step body) =
    max (statement_depth first) (max (part_depth test) (max (statement_depth step) (statement_depth body)))
statement_depth other = 0

abbrev pub functions_depth : List Tree.Function → ℕ
functions_depth [] = 0
functions_depth (f ∷ fs) = max (statement_depth f.body) (functions_depth fs)

-- In the source at most 64 operators stand between two parentheses, and parentheses at most 64 deep. The resolved tree has no
-- parentheses, so an expression of it may have more operators, but no more than this inside one another.
abbrev pub OperatorsNest : Program → Type 0
OperatorsNest p = functions_depth (plain_program p).functions ≤ MAX_BINARY_OPERATORS * MAX_NESTING
