-- Promise: the table of operations: what each weighs, what it names, and which of them may stand between a slot, a link or a
-- result and its use.
use Rattle.std.specs.Prelude.{ℕ, Bool, true, false, List, [], ◌∷◌}
use Rattle.ir_code.specs.declared.ops.Op.{Op}
use Rattle.ir_code.specs.declared.ops.Op.TheVariants as op

-- the weight of an operation that is run or stands in the code
abbrev pub weight_of : Op → ℕ
weight_of (op.Const to value) = 4
weight_of (op.Copy to from) = 4
weight_of (op.Unary operator to a) = 8
weight_of (op.Binary operator to a b) = 12
weight_of (op.Test a length token) = 10
weight_of (op.NonZero a token) = 8
weight_of (op.Load to array index) = 10
weight_of (op.Store array index from) = 10
weight_of (op.Label l) = 0
weight_of (op.Jump l) = 1
weight_of (op.JumpZero a l) = 4
weight_of (op.Arg slot from) = 2
weight_of (op.Param to slot) = 2
weight_of (op.Call l) = 1
weight_of (op.SaveLink cell) = 2
weight_of (op.Return cell) = 3
weight_of (op.SetResult from) = 2
weight_of (op.Result to) = 2
weight_of (op.Input to) = 3
weight_of (op.Release a) = 3
weight_of op.Check = 1
weight_of op.Suspend = 1
weight_of (op.SetMode private) = 1
weight_of op.Exit = 1

-- the weight of what is done before the first operation
abbrev pub start_weight : ℕ
start_weight = 11

-- Slots keep their words, and a result is still there, after these. After any other operation slots and result are forgotten.
abbrev pub keeps_slots : Op → Bool
keeps_slots (op.Arg slot from) = true
keeps_slots (op.Param to slot) = true
keeps_slots (op.SaveLink cell) = true
keeps_slots (op.SetMode private) = true
keeps_slots (op.Call l) = true
keeps_slots (op.Label l) = true
keeps_slots (op.Return cell) = true
keeps_slots other = false

-- The link of a call is still there after these, and forgotten after any other operation.
abbrev pub keeps_link : Op → Bool
keeps_link (op.Label l) = true
keeps_link (op.Param to slot) = true
keeps_link other = false

-- ---- what an operation names

-- the cells that it writes as cells of one word
abbrev pub targets : Op → List ℕ
targets (op.Const to value) = to ∷ []
targets (op.Copy to from) = to ∷ []
targets (op.Unary operator to a) = to ∷ []
targets (op.Binary operator to a b) = to ∷ []
targets (op.Load to array index) = to ∷ []
targets (op.Param to slot) = to ∷ []
targets (op.Result to) = to ∷ []
targets (op.Input to) = to ∷ []
targets other = []

-- the cells that it reads as cells of one word
abbrev pub sources : Op → List ℕ
sources (op.Copy to from) = from ∷ []
sources (op.Unary operator to a) = a ∷ []
sources (op.Binary operator to a b) = a ∷ b ∷ []
sources (op.Test a length token) = a ∷ []
sources (op.NonZero a token) = a ∷ []
sources (op.Load to array index) = index ∷ []
sources (op.Store array index from) = index ∷ from ∷ []
sources (op.JumpZero a l) = a ∷ []
sources (op.Arg slot from) = from ∷ []
sources (op.SetResult from) = from ∷ []
sources (op.Release a) = a ∷ []
sources other = []

-- the array of which it reads an element, and the one of which it writes one
abbrev pub loaded : Op → List ℕ
loaded (op.Load to array index) = array ∷ []
loaded other = []

abbrev pub stored : Op → List ℕ
stored (op.Store array index from) = array ∷ []
stored other = []

-- the cell of a link
abbrev pub link_cells : Op → List ℕ
link_cells (op.SaveLink cell) = cell ∷ []
link_cells (op.Return cell) = cell ∷ []
link_cells other = []

-- the label that it goes to
abbrev pub goes_to : Op → List ℕ
goes_to (op.Jump l) = l ∷ []
goes_to (op.JumpZero a l) = l ∷ []
goes_to (op.Call l) = l ∷ []
goes_to other = []

-- the label that it is
abbrev pub labels_of : Op → List ℕ
labels_of (op.Label l) = l ∷ []
labels_of other = []

-- the slot that it fills or reads
abbrev pub slots_of : Op → List ℕ
slots_of (op.Arg slot from) = slot ∷ []
slots_of (op.Param to slot) = slot ∷ []
slots_of other = []

-- nothing comes after it
abbrev pub ends_code : Op → Bool
ends_code (op.Jump l) = true
ends_code (op.Return cell) = true
ends_code op.Exit = true
ends_code other = false
