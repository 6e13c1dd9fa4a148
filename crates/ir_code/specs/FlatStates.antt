-- Promise: what a run of flat code goes through.
use Rattle.std.specs.Prelude.{ℕ, ◌+◌, Bool, true, false, cond, ◌==◌, ◌&&◌, nat_lt, List, [], ◌∷◌, Option, Some, None, slice_index}
use Rattle.std.specs.List.{slice_get}
use Rattle.execution.specs.Run.{Next, Stops}
use Rattle.execution.specs.Traffic.{Element, Entry, Traffic, traffic_from}
use Rattle.regions.specs.declared.rights.Access.{Access}
use Rattle.regions.specs.declared.rights.Class.{Class}
use Rattle.regions.specs.declared.rights.Class.TheVariants.{Open, Code}
use Rattle.regions.specs.declared.rights.Mode.{Mode}
use Rattle.regions.specs.declared.rights.Mode.TheVariants.{Te, Ptr}
use Rattle.regions.specs.Rights.{rights}
use Rattle.ir_code.specs.declared.code.Cell.{Cell}
use Rattle.ir_code.specs.declared.code.Ir.{Ir}
use Rattle.ir_code.specs.declared.ops.Op.{Op}
use Rattle.ir_code.specs.declared.ops.Op.TheVariants as op
use Rattle.ir_code.specs.OpTable.{weight_of, start_weight, keeps_slots, keeps_link}

-- what a cell holds at an index: a word, or the place to which a call returns
pub data Held : Type 0 where
  Word : ℕ → Held
  Link : ℕ → Held

pub record FlatState : Type 0 where
  -- the place of the next operation
  pub place : ℕ
  -- what each cell holds at each index
  pub cells : ℕ → ℕ → Held
  -- the words in the slots, the link of the last call, and the result of the last function, where they are not forgotten
  pub slots : ℕ → Option ℕ
  pub link : Option ℕ
  pub result : Option ℕ
  -- whether it runs in the private mode
  pub private : Bool
  -- what comes in and goes out, where a cell and an index are the variable and the index of an element
  pub traffic : Traffic Element
  -- the weights of the start and of the operations that were run, and how many of them jumped
  pub weight : ℕ
  pub jumps : ℕ

-- Why a run is over: an exit, an index out of range at this token, a zero divisor at this token, or a loose read that finds no
-- entry of its own. It is stuck where an operation is not allowed: flat code that is lawful never is.
pub data FlatEnd : Type 0 where
  Ended : FlatEnd
  Index : (at : ℕ) → FlatEnd
  Divide : (at : ℕ) → FlatEnd
  Starved : FlatEnd
  Stuck : FlatEnd

-- what comes after a state
abbrev pub Step : Type 0
Step = Next FlatState FlatEnd

-- what is still to be done in an operation
abbrev pub Later : Type 0
Later = FlatState → Step

-- the first where the test holds, and else the second
abbrev pub pick : Bool → Later → Later → Later
pick true one other f = one f
pick false one other f = other f

abbrev pub stuck : Later
stuck = Stops Stuck

abbrev pub with_traffic : Traffic Element → FlatState → FlatState
with_traffic traffic f = record f { traffic = traffic }

-- ---- cells

-- a cell that is not there has no word, and no right to any
abbrev pub words_in : Option Cell → ℕ
words_in None = 0
words_in (Some cell) = cell.words

abbrev pub class_in : Option Cell → Class
class_in None = Code
class_in (Some cell) = cell.class

abbrev pub words_of : Ir → ℕ → ℕ
words_of ir c = words_in (slice_get ir.cells c)

abbrev pub class_of : Ir → ℕ → Class
class_of ir c = class_in (slice_get ir.cells c)

-- the mode of the processor
abbrev pub mode_of : Bool → Mode
mode_of true = Ptr
mode_of false = Te

-- in this mode an access at an index of a cell is in range, and allowed by the table of rights
abbrev pub is_allowed : Ir → Access → ℕ → ℕ → Bool → Bool
is_allowed ir access c i private = nat_lt i (words_of ir c) && rights (mode_of private) (class_of ir c) access

-- the writes to cells of this class are shared writes
abbrev pub is_shared : Class → Bool
is_shared Open = true
is_shared class = false

abbrev pub element_at : ℕ → ℕ → Element
element_at c i = record { variable = c; index = i }

-- the cells with one changed
abbrev pub changed : (ℕ → ℕ → Held) → ℕ → ℕ → Held → ℕ → ℕ → Held
changed cells c i held c' i' = cond (c == c' && i == i') held (cells c' i')

-- the slots with one filled
abbrev pub filled : (ℕ → Option ℕ) → ℕ → ℕ → ℕ → Option ℕ
filled slots slot word slot' = cond (slot == slot') (Some word) (slots slot')

-- what the cells hold before the first operation
abbrev pub first_in : Option Cell → ℕ → Held
first_in None i = Word 0
first_in (Some cell) i = Word (slice_index cell.first i)

abbrev pub first_cells : Ir → ℕ → ℕ → Held
first_cells ir c i = first_in (slice_get ir.cells c) i

-- before the first operation
abbrev pub first_flat : Ir → List ℕ → List (Entry Element) → FlatState
first_flat ir input loose = record {
  place = ir.entry;
  cells = first_cells ir;
  slots = λ slot. None;
  link = None;
  result = None;
  private = false;
  traffic = traffic_from input loose;
  weight = start_weight;
  jumps = 0;
}

-- ---- places

-- the number of a label
abbrev pub is_label : ℕ → Op → Bool
is_label l (op.Label m) = l == m
is_label l other = false

-- the place of a label among operations of which the first has this place
abbrev pub label_from : ℕ → List Op → ℕ → Option ℕ
label_from place [] l = None
label_from place (o ∷ ops) l = cond (is_label l o) (Some place) (label_from (place + 1) ops l)

abbrev pub label_place : Ir → ℕ → Option ℕ
label_place ir l = label_from 0 ir.ops l

-- The operation at this place is run: the next place comes, its weight is added, and what does not outlast it is forgotten.
abbrev pub fetched : Op → FlatState → FlatState
fetched o f = record f {
  place = f.place + 1;
  slots = cond (keeps_slots o) f.slots (λ slot. None);
  result = cond (keeps_slots o) f.result None;
  link = cond (keeps_link o) f.link None;
  weight = f.weight + weight_of o;
}
