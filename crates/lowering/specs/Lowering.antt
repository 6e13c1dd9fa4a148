-- Promise: the flat code that a program is lowered to.
use Rattle.std.specs.Prelude.{ℕ, zero, suc, ◌+◌, ◌-◌, Bool, true, false, cond, List, [], ◌∷◌, ◌++◌, length, Option, Some, None}
use Rattle.aegis_num.specs.declared.operators.BinaryOp.{BinaryOp}
use Rattle.aegis_num.specs.declared.operators.UnaryOp.TheVariants.{Not}
use Rattle.aegis_num.specs.Operators.{is_division}
use Rattle.c_semantics.specs.declared.tree.Variable.{Variable}
use Rattle.c_semantics.specs.ResolvedTree.{Expr, Number, Scalar, Indexed, Called, Input, Unary, Binary, Both, Either, Arguments, NoArguments, Argument, Stmt, Nothing, Then, Empty, Block, Local, Assign, Store, Call, Suspend, Release, Check, Return, Break, Continue, If, While, For, Function, Program}
use Rattle.c_semantics.specs.ProgramShape.{own_tokens}
use Rattle.ir_code.specs.declared.code.Ir.{Ir}
use Rattle.ir_code.specs.declared.ops.Op.{Op}
use Rattle.ir_code.specs.declared.ops.Op.TheVariants as op
use Rattle.lowering.specs.Cells.{cells_of, cell_count, room_in, home_of}

-- what the code of a function has around it: the cells of variables by their tokens, which functions are private, and whether its own is
pub record Scope : Type 0 where
  pub home : ℕ → ℕ
  pub is_private : ℕ → Bool
  pub private : Bool

-- ---- labels. Each function has the label of its number; those within functions have the numbers after these, in order.

abbrev mutual
  pub labels_in : Expr → ℕ
  labels_in (Indexed at array length index) = labels_in index
  labels_in (Called function arguments) = labels_in_all arguments
  labels_in (Unary op inner) = labels_in inner
  labels_in (Binary at op left right) = labels_in left + labels_in right
  labels_in (Both left right) = 1 + (labels_in left + labels_in right)
  labels_in (Either left right) = 1 + (labels_in left + labels_in right)
  labels_in other = 0

  pub labels_in_all : Arguments → ℕ
  labels_in_all NoArguments = 0
  labels_in_all (Argument value later) = labels_in value + labels_in_all later

abbrev pub labels_in_part : Option Expr → ℕ
labels_in_part None = 0
labels_in_part (Some e) = labels_in e

abbrev pub labels_within : Stmt → ℕ
labels_within (Then first second) = labels_within first + labels_within second
labels_within (Block body) = labels_within body
labels_within (Local x value) = labels_in_part value
labels_within (Assign x value) = labels_in value
labels_within (Store at array length index value) = labels_in index + labels_in value
labels_within (Call function arguments) = labels_in_all arguments
labels_within (Release value) = labels_in value
labels_within (Return value) = labels_in_part value
labels_within (If test body other) = 2 + (labels_in test + (labels_within body + labels_within other))
labels_within (While test body) = 2 + (labels_in test + labels_within body)
labels_within (For first test step body) =
    3 + (labels_within first + (labels_in_part test + (labels_within body + labels_within step)))
labels_within other = 0

-- ---- calls

-- the arguments go from their temporaries into the slots, the first of them being this one
abbrev pub passing : (slot r : ℕ) → Arguments → List Op
passing slot r NoArguments = []
passing slot r (Argument value later) = op.Arg slot r ∷ passing (slot + 1) (r - 1) later

-- The mode is changed by the side of the caller, where caller and callee differ in privacy.
abbrev pub calling_by : (caller callee : Bool) → ℕ → List Op
calling_by true true function = op.Call function ∷ []
calling_by false false function = op.Call function ∷ []
calling_by true false function = op.SetMode false ∷ op.Call function ∷ op.SetMode true ∷ []
calling_by false true function = op.SetMode true ∷ op.Call function ∷ op.SetMode false ∷ []

abbrev pub calling : Scope → ℕ → List Op
calling scope function = calling_by scope.private (scope.is_private function) function

-- a divisor is tested
abbrev pub testing_divisor : BinaryOp → (b at : ℕ) → List Op
testing_divisor operator b at = cond (is_division operator) (op.NonZero b at ∷ []) []

-- ---- expressions. The value comes into a temporary; those below it may be changed. The first label that is free is given.

abbrev mutual
  pub value_code : Scope → (r label : ℕ) → Expr → List Op
  value_code scope r label (Number word) = op.Const r word ∷ []
  value_code scope r label (Scalar x) = op.Copy r (scope.home x.token) ∷ []
  value_code scope r label (Indexed at x length index) =
      value_code scope r label index ++ (op.Test r length at ∷ op.Load r (scope.home x.token) r ∷ [])
  value_code scope r label (Called function arguments) =
      values_code scope r label arguments ++ (passing 0 r arguments ++ (calling scope function ++ (op.Result r ∷ [])))
  value_code scope r label Input = op.Input r ∷ []
  value_code scope r label (Unary operator inner) = value_code scope r label inner ++ (op.Unary operator r r ∷ [])
  value_code scope r label (Binary at operator left right) =
      value_code scope r label left
      ++ (value_code scope (r - 1) (label + labels_in left) right ++ (testing_divisor operator (r - 1) at ++ (op.Binary operator r r (r - 1) ∷ [])))
  value_code scope r label (Both left right) =
      value_code scope r (label + 1) left
      ++ (op.JumpZero r label ∷ (value_code scope r (label + 1 + labels_in left) right ++ (op.Unary Not r r ∷ op.Unary Not r r ∷ op.Label label ∷ [])))
  value_code scope r label (Either left right) =
      value_code scope r (label + 1) left
      ++ (op.Unary Not r r ∷ op.JumpZero r label ∷ (value_code scope r (label + 1 + labels_in left) right ++ (op.Unary Not r r ∷ op.Label label ∷ op.Unary Not r r ∷ [])))

  -- each value into a temporary of its own, from this one downward
  pub values_code : Scope → (r label : ℕ) → Arguments → List Op
  values_code scope r label NoArguments = []
  values_code scope r label (Argument value later) =
      value_code scope r label value ++ values_code scope (r - 1) (label + labels_in value) later

-- the value, or zero where there is none, and a condition, which holds where there is none
abbrev pub value_or : ℕ → Scope → (r label : ℕ) → Option Expr → List Op
value_or missing scope r label None = op.Const r missing ∷ []
value_or missing scope r label (Some e) = value_code scope r label e

-- ---- statements

-- the labels to which `break`, `continue` and `return` go
pub record Exits : Type 0 where
  pub broken : ℕ
  pub continued : ℕ
  pub returned : ℕ

-- Each statement has the temporaries of its function from the last one downward, and leaves the value that is returned in the last one.
abbrev pub statement_code : Scope → Exits → (r label : ℕ) → Stmt → List Op
statement_code scope exits r label Nothing = []
statement_code scope exits r label (Then first second) =
    statement_code scope exits r label first ++ statement_code scope exits r (label + labels_within first) second
statement_code scope exits r label Empty = []
statement_code scope exits r label (Block body) = statement_code scope exits r label body
statement_code scope exits r label (Local x value) = value_or 0 scope r label value ++ (op.Copy (scope.home x.token) r ∷ [])
statement_code scope exits r label (Assign x value) = value_code scope r label value ++ (op.Copy (scope.home x.token) r ∷ [])
statement_code scope exits r label (Store at x length index value) =
    value_code scope r label index
    ++ (op.Test r length at ∷ (value_code scope (r - 1) (label + labels_in index) value ++ (op.Store (scope.home x.token) r (r - 1) ∷ [])))
statement_code scope exits r label (Call function arguments) =
    values_code scope r label arguments ++ (passing 0 r arguments ++ calling scope function)
statement_code scope exits r label Suspend = op.Suspend ∷ []
statement_code scope exits r label (Release value) = value_code scope r label value ++ (op.Release r ∷ [])
statement_code scope exits r label Check = op.Check ∷ []
statement_code scope exits r label (Return value) = value_or 0 scope r label value ++ (op.Jump exits.returned ∷ [])
statement_code scope exits r label Break = op.Jump exits.broken ∷ []
statement_code scope exits r label Continue = op.Jump exits.continued ∷ []
statement_code scope exits r label (If test body other) =
    value_code scope r (label + 2) test
    ++ (op.JumpZero r label ∷ (statement_code scope exits r (label + 2 + labels_in test) body
    ++ (op.Jump (label + 1) ∷ op.Label label ∷ (statement_code scope exits r (label + 2 + labels_in test + labels_within body) other ++ (op.Label (label + 1) ∷ [])))))
statement_code scope exits r label (While test body) =
    op.Label label ∷ (value_code scope r (label + 2) test
    ++ (op.JumpZero r (label + 1) ∷ (statement_code scope (record exits { broken = label + 1; continued = label }) r (label + 2 + labels_in test) body
    ++ (op.Jump label ∷ op.Label (label + 1) ∷ []))))
statement_code scope exits r label (For first test step body) =
    statement_code scope (record { broken = label; continued = label; returned = label }) r (label + 3) first
    ++ (op.Label label ∷ (value_or 1 scope r (label + 3 + labels_within first) test
    ++ (op.JumpZero r (label + 2) ∷ (statement_code scope (record exits { broken = label + 2; continued = label + 1 }) r (label + 3 + labels_within first + labels_in_part test) body
    ++ (op.Label (label + 1) ∷ (statement_code scope (record { broken = label; continued = label; returned = label }) r (label + 3 + labels_within first + labels_in_part test + labels_within body) step
    ++ (op.Jump label ∷ op.Label (label + 2) ∷ [])))))))

-- ---- functions

-- the parameters get the words in the slots, the first of them being this one
abbrev pub taking : Scope → ℕ → List Variable → List Op
taking scope slot [] = []
taking scope slot (x ∷ xs) = op.Param (scope.home x.token) slot ∷ taking scope (slot + 1) xs

-- two labels for the end, and those within
abbrev pub labels_of_function : Function → ℕ
labels_of_function f = 2 + labels_within f.body

-- A function with this number, whose link is kept in this cell. A body that comes to its end has the value zero.
abbrev pub function_code : Scope → (number link label : ℕ) → Function → List Op
function_code scope number link label f =
    op.Label number ∷ (taking scope 0 f.parameters
    ++ (op.SaveLink link ∷ (statement_code scope (record { broken = label + 1; continued = label + 1; returned = label }) (link + room_in f.body) (label + 2) f.body
    ++ (op.Label (label + 1) ∷ op.Const (link + room_in f.body) 0 ∷ op.Label label ∷ op.SetResult (link + room_in f.body) ∷ op.Return link ∷ []))))

-- which of the functions are private
abbrev pub is_private_in : List Function → ℕ → Bool
is_private_in [] number = false
is_private_in (f ∷ fs) zero = f.private
is_private_in (f ∷ fs) (suc number) = is_private_in fs number

-- functions, the first of which has this number, this cell as its first and this label as its first one within
abbrev pub functions_code : (ℕ → ℕ) → (ℕ → Bool) → (number cell label : ℕ) → List Function → List Op
functions_code home is_private number cell label [] = []
functions_code home is_private number cell label (f ∷ fs) =
    function_code (record { home = home; is_private = is_private; private = f.private }) number (cell + length (own_tokens f)) label f
    ++ functions_code home is_private (number + 1) (cell + cell_count f) (label + labels_of_function f) fs

-- the code of the functions of a program
abbrev pub all_functions : Program → List Op
all_functions p =
    functions_code (home_of p) (is_private_in p.functions) 0 (length p.objects) (length p.functions) p.functions

-- the call of the function that a run starts with, and the exit
abbrev pub entry_code : Program → List Op
entry_code p = calling (record { home = home_of p; is_private = is_private_in p.functions; private = false }) p.main ++ (op.Exit ∷ [])

-- a program as flat code
abbrev pub lowered : Program → Ir
lowered p = record {
  cells = cells_of p;
  ops = all_functions p ++ entry_code p;
  entry = length (all_functions p);
}
