-- Promise: which cells a program has: first its objects in order, and then for each function in order its parameters, its locals, its
-- link and its temporaries.
use Rattle.std.specs.Prelude.{ℕ, zero, suc, ◌+◌, ◌-◌, max, Bool, true, false, cond, ◌==◌, List, [], ◌∷◌, ◌++◌, length, map, Option, Some, None}
use Rattle.std.specs.List.{slice_get}
use Rattle.execution.specs.Traffic.{Element}
use Rattle.regions.specs.declared.rights.Class.{Class}
use Rattle.regions.specs.declared.rights.Class.TheVariants.{Verified, Private, Constant}
use Rattle.c_semantics.specs.ResolvedTree.{Expr, Indexed, Called, Unary, Binary, Both, Either, Arguments, NoArguments, Argument, Stmt, Then, Block, Local, Assign, Store, Call, Release, Return, If, While, For, Function, Object, Program}
use Rattle.c_semantics.specs.ProgramShape.{own_tokens, word_count}
use Rattle.ir_code.specs.declared.code.Cell.{Cell}

-- ---- temporaries. A value is computed into one, and what it is made of into those below.

-- how many an expression needs, the one for its value included, and its arguments
abbrev mutual
  pub room_of : Expr → ℕ
  room_of (Indexed at array length index) = room_of index
  room_of (Called function arguments) = room_of_all arguments
  room_of (Unary op inner) = room_of inner
  room_of (Binary at op left right) = max (room_of left) (1 + room_of right)
  room_of (Both left right) = max (room_of left) (room_of right)
  room_of (Either left right) = max (room_of left) (room_of right)
  room_of other = 1

  pub room_of_all : Arguments → ℕ
  room_of_all NoArguments = 1
  room_of_all (Argument value later) = max (room_of value) (1 + room_of_all later)

abbrev pub room_of_part : Option Expr → ℕ
room_of_part None = 1
room_of_part (Some e) = room_of e

-- how many a statement needs
abbrev pub room_in : Stmt → ℕ
room_in (Then first second) = max (room_in first) (room_in second)
room_in (Block body) = room_in body
room_in (Local x value) = room_of_part value
room_in (Assign x value) = room_of value
room_in (Store at array length index value) = max (room_of index) (1 + room_of value)
room_in (Call function arguments) = room_of_all arguments
room_in (Release value) = room_of value
room_in (Return value) = room_of_part value
room_in (If test body other) = max (room_of test) (max (room_in body) (room_in other))
room_in (While test body) = max (room_of test) (room_in body)
room_in (For first test step body) = max (max (room_in first) (room_of_part test)) (max (room_in step) (room_in body))
room_in other = 1

-- ---- cells

-- how the cells of a function are kept
abbrev pub class_for : Bool → Class
class_for true = Private
class_for false = Verified

-- so many cells of one word
abbrev pub words : Class → ℕ → List Cell
words class zero = []
words class (suc n) = record { class = class; words = 1; first = [] } ∷ words class n

-- how many cells a function has: its own variables, its link and its temporaries
abbrev pub cell_count : Function → ℕ
cell_count f = length (own_tokens f) + (1 + room_in f.body)

abbrev pub function_cells : List Function → List Cell
function_cells [] = []
function_cells (f ∷ fs) = words (class_for f.private) (cell_count f) ++ function_cells fs

-- the words that an object starts with, filled up with zeros
abbrev pub filled_up : ℕ → List ℕ → List ℕ
filled_up zero first = []
filled_up (suc n) [] = 0 ∷ filled_up n []
filled_up (suc n) (word ∷ words) = word ∷ filled_up n words

-- a constant has its words, and another object starts with none
abbrev pub first_for : Class → ℕ → List ℕ → List ℕ
first_for Constant n first = filled_up n first
first_for class n first = []

-- an object always has a class
abbrev pub class_or_verified : Option Class → Class
class_or_verified None = Verified
class_or_verified (Some class) = class

abbrev pub object_cell : Object → Cell
object_cell o = record {
  class = class_or_verified o.variable.class;
  words = word_count o.length;
  first = first_for (class_or_verified o.variable.class) (word_count o.length) o.first;
}

abbrev pub object_cells : List Object → List Cell
object_cells [] = []
object_cells (o ∷ os) = object_cell o ∷ object_cells os

-- the cells of a program
abbrev pub cells_of : Program → List Cell
cells_of p = object_cells p.objects ++ function_cells p.functions

-- ---- which cell a variable has

-- the tokens of the variables that the cells of a function are for, where one is for a variable
abbrev pub nobody : ℕ → List (Option ℕ)
nobody zero = []
nobody (suc n) = None ∷ nobody n

abbrev pub owners_in : List Function → List (Option ℕ)
owners_in [] = []
owners_in (f ∷ fs) = (map Some (own_tokens f) ++ nobody (1 + room_in f.body)) ++ owners_in fs

-- the tokens of the variables that the cells are for
abbrev pub owners_of : Program → List (Option ℕ)
owners_of p = map (λ o. Some o.variable.token) p.objects ++ owners_in p.functions

-- the cell is for the variable of this token
abbrev pub is_for : ℕ → Option ℕ → Bool
is_for token None = false
is_for token (Some owner) = owner == token

-- The cell of the variable of this token, where the first of these has this number. A token that is not declared has one beyond all.
abbrev pub home_from : ℕ → List (Option ℕ) → ℕ → ℕ
home_from c [] token = c + token
home_from c (owner ∷ owners) token = cond (is_for token owner) c (home_from (c + 1) owners token)

abbrev pub home_in : List (Option ℕ) → ℕ → ℕ
home_in owners = home_from 0 owners

-- the cell of a variable of a program
abbrev pub home_of : Program → ℕ → ℕ
home_of p = home_in (owners_of p)

-- ---- which variable a cell is for

-- a number above all tokens of declared variables
abbrev pub above : List (Option ℕ) → ℕ
above [] = 0
above (None ∷ owners) = above owners
above (Some token ∷ owners) = max (suc token) (above owners)

abbrev pub is_declared : List (Option ℕ) → ℕ → Bool
is_declared [] token = false
is_declared (owner ∷ owners) token = cond (is_for token owner) true (is_declared owners token)

-- The token of the variable for which a cell is. Cells that are for none, and those beyond all, have tokens of their own that
-- nothing declares.
abbrev pub token_by : List (Option ℕ) → ℕ → Option (Option ℕ) → ℕ
token_by owners c (Some (Some token)) = token
token_by owners c (Some None) = above owners + c
token_by owners c None = cond (is_declared owners (c - length owners)) (above owners + c) (c - length owners)

abbrev pub token_in : List (Option ℕ) → ℕ → ℕ
token_in owners c = token_by owners c (slice_get owners c)

abbrev pub token_of : Program → ℕ → ℕ
token_of p = token_in (owners_of p)

-- the element of the source that an element of a cell stands for, and the other way round
abbrev pub source_element : Program → Element → Element
source_element p e = record { variable = token_of p e.variable; index = e.index }

abbrev pub cell_element : Program → Element → Element
cell_element p e = record { variable = home_of p e.variable; index = e.index }
