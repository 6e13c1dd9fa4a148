-- Promise: what flat code does, operation by operation.
use Rattle.std.specs.Prelude.{ℕ, ◌+◌, Bool, true, false, cond, ◌==◌, nat_lt, List, Option, Some, None}
use Rattle.std.specs.List.{slice_get}
use Rattle.execution.specs.Run.{Goes, Stops, run}
use Rattle.execution.specs.Traffic.{Element, Entry, is_same_element, input_word, after_input, loose_word, after_loose, after_release, after_write, after_check, after_suspension}
use Rattle.aegis_num.specs.declared.limits.TheConstants.{MAX_PARAMETERS}
use Rattle.aegis_num.specs.Operators.{unary, binary, traps}
use Rattle.regions.specs.declared.rights.Access.{Access}
use Rattle.regions.specs.declared.rights.Access.TheVariants.{Read, Write}
use Rattle.regions.specs.declared.rights.Class.{Class}
use Rattle.ir_code.specs.declared.code.Ir.{Ir}
use Rattle.ir_code.specs.declared.ops.Op.{Op}
use Rattle.ir_code.specs.declared.ops.Op.TheVariants as op
use Rattle.ir_code.specs.FlatStates.{Held, Word, Link, FlatState, Ended, Index, Divide, Starved, Step, Later, pick, stuck, with_traffic, class_of, is_allowed, is_shared, element_at, changed, filled, label_place, fetched, first_flat}

-- ---- single things. What is still to be done takes what was found.

-- an access that is not allowed gets stuck
abbrev pub touching : Ir → Access → ℕ → ℕ → Later → Later
touching ir access c i next f = pick (is_allowed ir access c i f.private) next stuck f

-- the word that a cell holds; a link is no word
abbrev pub with_word : Held → (ℕ → Later) → Later
with_word (Word word) next = next word
with_word (Link place) next = stuck

abbrev pub with_link : Held → (ℕ → Later) → Later
with_link (Link place) next = next place
with_link (Word word) next = stuck

-- what was handed over and is not forgotten
abbrev pub with_given : Option ℕ → (ℕ → Later) → Later
with_given (Some word) next = next word
with_given None next = stuck

abbrev pub kept_word : ℕ → ℕ → (ℕ → Later) → Later
kept_word c i next f = with_word (f.cells c i) next f

-- a loose word where there is one; else the run is starved
abbrev pub loosely : Option ℕ → (ℕ → Later) → Later
loosely None next f = Stops Starved f
loosely (Some word) next f = next word (with_traffic (after_loose f.traffic) f)

abbrev pub taken_word : ℕ → ℕ → (ℕ → Later) → Later
taken_word c i next f = loosely (loose_word is_same_element (element_at c i) f.traffic) next f

-- the word of a cell at an index: that of the next loose entry, if the cell is loose
abbrev pub reading : (Class → Bool) → Ir → ℕ → ℕ → (ℕ → Later) → Later
reading is_loose ir c i next = touching ir Read c i (pick (is_loose (class_of ir c)) (taken_word c i next) (kept_word c i next))

-- the state with a word written; a write to a shared cell is noted
abbrev pub written : Ir → ℕ → ℕ → ℕ → FlatState → FlatState
written ir c i word f = record f {
  cells = changed f.cells c i (Word word);
  traffic = cond (is_shared (class_of ir c)) (after_write (element_at c i) word f.traffic) f.traffic;
}

abbrev pub writing : Ir → ℕ → ℕ → ℕ → Later → Later
writing ir c i word next = touching ir Write c i (λ f. next (written ir c i word f))

-- a word that is the last thing an operation has to put anywhere
abbrev pub put : Ir → ℕ → ℕ → Later
put ir c word = writing ir c 0 word Goes

-- A link is kept in a cell, and read there. A cell that others may change keeps none.
abbrev pub keeping_link : (Class → Bool) → Ir → ℕ → ℕ → Later
keeping_link is_loose ir c place =
    touching ir Write c 0 (pick (is_loose (class_of ir c)) stuck (λ f. Goes (record f { cells = changed f.cells c 0 (Link place) })))

-- a jump is counted
abbrev pub going : ℕ → Later
going place f = Goes (record f { place = place; jumps = f.jumps + 1 })

abbrev pub going_back : (Class → Bool) → Ir → ℕ → Later
going_back is_loose ir c =
    touching ir Read c 0 (pick (is_loose (class_of ir c)) stuck (λ f. with_link (f.cells c 0) going f))

-- to a label
abbrev pub jumping : Ir → ℕ → Later
jumping ir l = with_given (label_place ir l) going

-- ---- the table of operations

-- What an operation does, where `old` is the state before it, and the next one has it fetched.
abbrev pub effect : (Class → Bool) → Ir → Op → FlatState → Later
effect is_loose ir (op.Const to value) old = put ir to value
effect is_loose ir (op.Copy to from) old = reading is_loose ir from 0 (put ir to)
effect is_loose ir (op.Unary operator to a) old = reading is_loose ir a 0 (λ word. put ir to (unary operator word))
effect is_loose ir (op.Binary operator to a b) old =
    reading is_loose ir a 0 (λ left. reading is_loose ir b 0 (λ right. pick (traps operator right) stuck (put ir to (binary operator left right))))
effect is_loose ir (op.Test a length token) old = reading is_loose ir a 0 (λ index. pick (nat_lt index length) Goes (Stops (Index token)))
effect is_loose ir (op.NonZero a token) old = reading is_loose ir a 0 (λ word. pick (word == 0) (Stops (Divide token)) Goes)
effect is_loose ir (op.Load to array index) old = reading is_loose ir index 0 (λ i. reading is_loose ir array i (put ir to))
effect is_loose ir (op.Store array index from) old =
    reading is_loose ir index 0 (λ i. reading is_loose ir from 0 (λ word. writing ir array i word Goes))
effect is_loose ir (op.Label l) old = Goes
effect is_loose ir (op.Jump l) old = jumping ir l
effect is_loose ir (op.JumpZero a l) old = reading is_loose ir a 0 (λ word. pick (word == 0) (jumping ir l) Goes)
effect is_loose ir (op.Arg slot from) old =
    reading is_loose ir from 0 (λ word. pick (nat_lt slot MAX_PARAMETERS) (λ f. Goes (record f { slots = filled f.slots slot word })) stuck)
effect is_loose ir (op.Param to slot) old = with_given (old.slots slot) (put ir to)
effect is_loose ir (op.Call l) old = λ f. jumping ir l (record f { link = Some f.place })
effect is_loose ir (op.SaveLink cell) old = with_given old.link (keeping_link is_loose ir cell)
effect is_loose ir (op.Return cell) old = going_back is_loose ir cell
effect is_loose ir (op.SetResult from) old = reading is_loose ir from 0 (λ word f. Goes (record f { result = Some word }))
effect is_loose ir (op.Result to) old = with_given old.result (put ir to)
effect is_loose ir (op.Input to) old = λ f. put ir to (input_word f.traffic) (with_traffic (after_input f.traffic) f)
effect is_loose ir (op.Release a) old = reading is_loose ir a 0 (λ word f. Goes (with_traffic (after_release word f.traffic) f))
effect is_loose ir op.Check old = λ f. Goes (with_traffic (after_check f.traffic) f)
effect is_loose ir op.Suspend old = λ f. Goes (with_traffic (after_suspension f.traffic) f)
effect is_loose ir (op.SetMode true) old = λ f. pick f.private stuck (λ g. Goes (record g { private = true })) f
effect is_loose ir (op.SetMode false) old = λ f. pick f.private (λ g. Goes (record g { private = false })) stuck f
effect is_loose ir op.Exit old = Stops Ended

-- the operation at a place; where none stands, the run is stuck
abbrev pub at_op : (Class → Bool) → Ir → Option Op → Later
at_op is_loose ir None f = stuck f
at_op is_loose ir (Some o) f = effect is_loose ir o f (fetched o f)

-- one step
abbrev pub flat_step : (Class → Bool) → Ir → FlatState → Step
flat_step is_loose ir f = at_op is_loose ir (slice_get ir.ops f.place) f

-- where flat code comes to in so many steps, on an input and a list of loose words
abbrev pub flat_run : (Class → Bool) → Ir → List ℕ → List (Entry Element) → ℕ → Step
flat_run is_loose ir input loose steps = run (flat_step is_loose ir) steps (first_flat ir input loose)
