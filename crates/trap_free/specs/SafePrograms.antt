-- Promise: programs that cannot trap, by the form of their parts: no operator divides, and each index is a number below the length
-- of its array, or is masked with such a number.
use Rattle.std.specs.Prelude.{◌≡◌, ◌<◌, ℕ, false, List, [], ◌∷◌, Option, Some, None}
use Rattle.execution.specs.Traffic.{Element, Entry}
use Rattle.aegis_num.specs.declared.operators.BinaryOp.{BinaryOp}
use Rattle.aegis_num.specs.declared.operators.BinaryOp.TheVariants.{And}
use Rattle.aegis_num.specs.Operators.{is_division}
use Rattle.c_semantics.specs.ResolvedTree.{Expr, Number, Scalar, Indexed, Called, Input, Unary, Binary, Both, Either, Arguments, NoArguments, Argument, Stmt, Nothing, Then, Empty, Block, Local, Assign, Store, Call, Suspend, Release, Check, Return, Break, Continue, If, While, For, Function, Program}
use Rattle.c_semantics.specs.States.{Setting, End, Ended, Index, Divide, Starved, Turns}
use Rattle.c_semantics.specs.Meaning.{mean}

-- a number below this bound
abbrev pub IsNumberBelow : ℕ → Expr → Type 0
IsNumberBelow bound (Number value) = value < bound
IsNumberBelow bound other = ⊥

-- the operator is `&`, whose value is at most its right operand
abbrev pub IsMaskBelow : ℕ → BinaryOp → Expr → Type 0
IsMaskBelow bound And right = IsNumberBelow bound right
IsMaskBelow bound other right = ⊥

-- an index that is below this bound by its form
abbrev pub IsBelow : ℕ → Expr → Type 0
IsBelow bound (Number value) = value < bound
IsBelow bound (Binary at op left right) = IsMaskBelow bound op right
IsBelow bound other = ⊥

-- An expression without a division, and with safe indices alone.
abbrev mutual
  pub IsSafeExpr : Expr → Type 0
  IsSafeExpr (Number value) = Unit {0}
  IsSafeExpr (Scalar x) = Unit {0}
  IsSafeExpr (Indexed at array length index) = IsBelow length index × IsSafeExpr index
  IsSafeExpr (Called function arguments) = AreSafeArguments arguments
  IsSafeExpr Input = Unit {0}
  IsSafeExpr (Unary op inner) = IsSafeExpr inner
  IsSafeExpr (Binary at op left right) = (is_division op ≡ false) × IsSafeExpr left × IsSafeExpr right
  IsSafeExpr (Both left right) = IsSafeExpr left × IsSafeExpr right
  IsSafeExpr (Either left right) = IsSafeExpr left × IsSafeExpr right

  pub AreSafeArguments : Arguments → Type 0
  AreSafeArguments NoArguments = Unit {0}
  AreSafeArguments (Argument value later) = IsSafeExpr value × AreSafeArguments later

abbrev pub IsSafePart : Option Expr → Type 0
IsSafePart None = Unit {0}
IsSafePart (Some e) = IsSafeExpr e

-- A statement with such expressions alone.
abbrev pub IsSafe : Stmt → Type 0
IsSafe Nothing = Unit {0}
IsSafe (Then first second) = IsSafe first × IsSafe second
IsSafe Empty = Unit {0}
IsSafe (Block body) = IsSafe body
IsSafe (Local x value) = IsSafePart value
IsSafe (Assign x value) = IsSafeExpr value
IsSafe (Store at array length index value) = IsBelow length index × IsSafeExpr index × IsSafeExpr value
IsSafe (Call function arguments) = AreSafeArguments arguments
IsSafe Suspend = Unit {0}
IsSafe (Release value) = IsSafeExpr value
IsSafe Check = Unit {0}
IsSafe (Return value) = IsSafePart value
IsSafe Break = Unit {0}
IsSafe Continue = Unit {0}
IsSafe (If test body other) = IsSafeExpr test × IsSafe body × IsSafe other
IsSafe (While test body) = IsSafeExpr test × IsSafe body
IsSafe (For first test step body) = IsSafe first × IsSafePart test × IsSafe step × IsSafe body

-- functions whose bodies are safe
abbrev pub AreSafe : List Function → Type 0
AreSafe [] = Unit {0}
AreSafe (f ∷ fs) = IsSafe f.body × AreSafe fs

-- an end by neither an index nor a divisor
abbrev pub IsNoTrap : End → Type 0
IsNoTrap Ended = Unit {0}
IsNoTrap (Index at) = ⊥
IsNoTrap (Divide at) = ⊥
IsNoTrap Starved = Unit {0}
IsNoTrap Turns = Unit {0}

-- A safe program ends by neither, whichever classes are loose and whatever comes from outside.
abbrev pub SafeProgramsDoNotTrap : Type 0
SafeProgramsDoNotTrap = (setting : Setting) (program : Program) (input : List ℕ) (loose : List (Entry Element)) (turns : ℕ) →
    AreSafe program.functions → IsNoTrap (mean setting program input loose turns).end
