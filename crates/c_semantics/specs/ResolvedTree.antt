-- Promise: programs whose names are resolved. A variable is named by the token of its declaration, a function by its number among the
-- functions of the source, from 0, and each operator has the types of its operands. Parentheses are gone.
use Rattle.std.specs.Prelude.{ℕ, Bool, List, Option}
use Rattle.aegis_num.specs.declared.operators.BinaryOp.{BinaryOp}
use Rattle.aegis_num.specs.declared.operators.UnaryOp.{UnaryOp}
use Rattle.c_semantics.specs.declared.tree.Variable.{Variable}

mutual
  pub data Expr : Type 0 where
    Number : (value : ℕ) → Expr
    Scalar : (variable : Variable) → Expr
    -- an element of an array of this length, with the token of `[`
    Indexed : (at : ℕ) (array : Variable) (length : ℕ) (index : Expr) → Expr
    Called : (function : ℕ) (arguments : Arguments) → Expr
    Input : Expr
    Unary : (op : UnaryOp) (inner : Expr) → Expr
    -- with the token of the operator
    Binary : (at : ℕ) (op : BinaryOp) (left right : Expr) → Expr
    -- `&&` and `||`
    Both : (left right : Expr) → Expr
    Either : (left right : Expr) → Expr

  pub data Arguments : Type 0 where
    NoArguments : Arguments
    Argument : (value : Expr) (later : Arguments) → Arguments

pub data Stmt : Type 0 where
  -- no statement, as in the place of an `else` that does not stand
  Nothing : Stmt
  -- one after the other
  Then : (first second : Stmt) → Stmt
  Empty : Stmt
  Block : (body : Stmt) → Stmt
  Local : (variable : Variable) (value : Option Expr) → Stmt
  Assign : (variable : Variable) (value : Expr) → Stmt
  -- an assignment to an element, with the token of `[`
  Store : (at : ℕ) (array : Variable) (length : ℕ) (index value : Expr) → Stmt
  Call : (function : ℕ) (arguments : Arguments) → Stmt
  -- a call of untrusted code
  Suspend : Stmt
  Release : (value : Expr) → Stmt
  Check : Stmt
  Return : (value : Option Expr) → Stmt
  Break : Stmt
  Continue : Stmt
  If : (test : Expr) (body other : Stmt) → Stmt
  While : (test : Expr) (body : Stmt) → Stmt
  For : (first : Stmt) (test : Option Expr) (step body : Stmt) → Stmt

pub record Function : Type 0 where
  pub private : Bool
  pub parameters : List Variable
  pub body : Stmt

-- a global object with its length, if it is an array, and the words that it starts with; those that are missing are zero
pub record Object : Type 0 where
  pub variable : Variable
  pub length : Option ℕ
  pub first : List ℕ

-- the objects and the functions stand as in the source
pub record Program : Type 0 where
  pub objects : List Object
  pub functions : List Function
  -- the number of the function that a run starts with
  pub main : ℕ
