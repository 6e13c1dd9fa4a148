-- Promise: at which tokens a resolved program tests an index and a divisor: at a sign `[`, and at the sign of the operator.
use Rattle.std.specs.Prelude.{◌≡◌, ℕ, ◌≤◌, List, [], ◌∷◌, length, slice_get, Option, Some, None}
use Rattle.aegis_num.specs.declared.limits.TheConstants.{MAX_SOURCE_BYTES}
use Rattle.aegis_num.specs.declared.operators.BinaryOp.{BinaryOp}
use Rattle.aegis_num.specs.declared.operators.BinaryOp.TheVariants as op
use Rattle.c_token.specs.declared.kinds.Kind.{Kind}
use Rattle.c_token.specs.declared.kinds.Kind.TheVariants as kind
use Rattle.c_token.specs.declared.signs.Sign.{Sign}
use Rattle.c_token.specs.declared.signs.Sign.TheVariants as sign
use Rattle.c_grammar.specs.declared.item.Program.{Program}
use Rattle.c_grammar.specs.TokenPrograms.{AreProgram}
use Rattle.c_semantics.specs.ResolvedTree as Tree
use Rattle.c_resolver.specs.Resolving.{plain_program}

-- the sign of an operator
abbrev pub sign_of : BinaryOp → Sign
sign_of op.Add = sign.Plus
sign_of op.Sub = sign.Minus
sign_of op.Mul = sign.Star
sign_of op.DivS = sign.Slash
sign_of op.DivU = sign.Slash
sign_of op.RemS = sign.Percent
sign_of op.RemU = sign.Percent
sign_of op.And = sign.Ampersand
sign_of op.Or = sign.VerticalBar
sign_of op.Xor = sign.Caret
sign_of op.Shl = sign.ShiftLeft
sign_of op.ShrS = sign.ShiftRight
sign_of op.ShrU = sign.ShiftRight
sign_of op.Eq = sign.EqualTo
sign_of op.Ne = sign.NotEqualTo
sign_of op.LtS = sign.LessThan
sign_of op.LtU = sign.LessThan
sign_of op.LeS = sign.LessOrEqual
sign_of op.LeU = sign.LessOrEqual
sign_of op.GtS = sign.GreaterThan
sign_of op.GtU = sign.GreaterThan
sign_of op.GeS = sign.GreaterOrEqual
sign_of op.GeU = sign.GreaterOrEqual

-- the token of this number is this sign
abbrev pub IsSign : List Kind → ℕ → Sign → Type 0
IsSign kinds at s = slice_get kinds at ≡ Some (kind.Sign s)

-- Each index and each operator of two operands has the number of its sign among these tokens.
abbrev mutual
  pub ExprStands : List Kind → Tree.Expr → Type 0
  ExprStands kinds (Tree.Indexed at array length index) = IsSign kinds at sign.LeftBracket × ExprStands kinds index
  ExprStands kinds (Tree.Called function arguments) = ArgumentsStand kinds arguments
  ExprStands kinds (Tree.Unary op inner) = ExprStands kinds inner
  ExprStands kinds (Tree.Binary at op left right) = IsSign kinds at (sign_of op) × ExprStands kinds left × ExprStands kinds right
  ExprStands kinds (Tree.Both left right) = ExprStands kinds left × ExprStands kinds right
  ExprStands kinds (Tree.Either left right) = ExprStands kinds left × ExprStands kinds right
  ExprStands kinds other = Unit {0}

  pub ArgumentsStand : List Kind → Tree.Arguments → Type 0
  ArgumentsStand kinds Tree.NoArguments = Unit {0}
  ArgumentsStand kinds (Tree.Argument value later) = ExprStands kinds value × ArgumentsStand kinds later

abbrev pub PartStands : List Kind → Option Tree.Expr → Type 0
PartStands kinds None = Unit {0}
PartStands kinds (Some e) = ExprStands kinds e

abbrev pub StmtStands : List Kind → Tree.Stmt → Type 0
StmtStands kinds (Tree.Then first second) = StmtStands kinds first × StmtStands kinds second
StmtStands kinds (Tree.Block body) = StmtStands kinds body
StmtStands kinds (Tree.Local x value) = PartStands kinds value
StmtStands kinds (Tree.Assign x value) = ExprStands kinds value
StmtStands kinds (Tree.Store at array length index value) = IsSign kinds at sign.LeftBracket × ExprStands kinds index × ExprStands kinds value
StmtStands kinds (Tree.Call function arguments) = ArgumentsStand kinds arguments
StmtStands kinds (Tree.Release value) = ExprStands kinds value
StmtStands kinds (Tree.Return value) = PartStands kinds value
StmtStands kinds (Tree.If test body other) = ExprStands kinds test × StmtStands kinds body × StmtStands kinds other
StmtStands kinds (Tree.While test body) = ExprStands kinds test × StmtStands kinds body
StmtStands kinds (Tree.For first test step body) = StmtStands kinds first × PartStands kinds test × StmtStands kinds step × StmtStands kinds body
StmtStands kinds other = Unit {0}

abbrev pub FunctionsStand : List Kind → List Tree.Function → Type 0
FunctionsStand kinds [] = Unit {0}
FunctionsStand kinds (f ∷ fs) = StmtStands kinds f.body × FunctionsStand kinds fs

-- Whichever tokens a program was read from, its tests of indices and of divisors stand at their signs.
abbrev pub TestsStand : Program → Type 0
TestsStand p = (kinds : List Kind) → length kinds ≤ MAX_SOURCE_BYTES → AreProgram kinds p → FunctionsStand kinds (plain_program p).functions
