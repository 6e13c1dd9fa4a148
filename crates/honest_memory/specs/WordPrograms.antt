-- Promise: programs whose numbers are words, as those that the code keeps are.
use Rattle.std.specs.Prelude.{ℕ, ◌<◌, ◌^◌, Option, Some, None, ⊤}
use Rattle.std.specs.List.{AllByRecursion}
use Rattle.c_semantics.specs.ResolvedTree.{Expr, Number, Scalar, Indexed, Called, Input, Unary, Binary, Both, Either, Arguments, NoArguments, Argument, Stmt, Then, Block, Local, Assign, Store, Call, Release, Return, If, While, For, Function, Object, Program}

abbrev pub IsWord : ℕ → Type 0
IsWord number = number < 2 ^ 32

-- each number that is written in an expression
abbrev mutual
  pub ExprHasWords : Expr → Type 0
  ExprHasWords (Number value) = IsWord value
  ExprHasWords (Scalar x) = ⊤
  ExprHasWords (Indexed at x length index) = ExprHasWords index
  ExprHasWords (Called function arguments) = ArgumentsHaveWords arguments
  ExprHasWords Input = ⊤
  ExprHasWords (Unary op inner) = ExprHasWords inner
  ExprHasWords (Binary at op left right) = ExprHasWords left × ExprHasWords right
  ExprHasWords (Both left right) = ExprHasWords left × ExprHasWords right
  ExprHasWords (Either left right) = ExprHasWords left × ExprHasWords right

  pub ArgumentsHaveWords : Arguments → Type 0
  ArgumentsHaveWords NoArguments = ⊤
  ArgumentsHaveWords (Argument value later) = ExprHasWords value × ArgumentsHaveWords later

-- in one that need not be there
abbrev pub PartHasWords : Option Expr → Type 0
PartHasWords None = ⊤
PartHasWords (Some e) = ExprHasWords e

abbrev pub StmtHasWords : Stmt → Type 0
StmtHasWords (Then first second) = StmtHasWords first × StmtHasWords second
StmtHasWords (Block body) = StmtHasWords body
StmtHasWords (Local x value) = PartHasWords value
StmtHasWords (Assign x value) = ExprHasWords value
StmtHasWords (Store at x length index value) = ExprHasWords index × ExprHasWords value
StmtHasWords (Call function arguments) = ArgumentsHaveWords arguments
StmtHasWords (Release value) = ExprHasWords value
StmtHasWords (Return value) = PartHasWords value
StmtHasWords (If test body other) = ExprHasWords test × StmtHasWords body × StmtHasWords other
StmtHasWords (While test body) = ExprHasWords test × StmtHasWords body
StmtHasWords (For first test step body) = StmtHasWords first × PartHasWords test × StmtHasWords step × StmtHasWords body
StmtHasWords statement = ⊤

-- in its functions and in the words that its objects start with
pub record ProgramHasWords (program : Program) : Type 0 where
  pub objects : AllByRecursion (λ (object : Object). AllByRecursion IsWord object.first) program.objects
  pub functions : AllByRecursion (λ (f : Function). StmtHasWords f.body) program.functions
