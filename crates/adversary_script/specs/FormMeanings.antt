-- Device: what the code's values mean.
use Rattle.std.specs.Prelude.{◌≡◌, ℕ, List, Result, Ok, Err, map}
use Rattle.std.specs.Borrow.{Bor}
use Rattle.adversary_script.specs.declared.fault.Fault.{Fault}
use Rattle.adversary_script.specs.declared.fault.Fault.TheVariants.{Line, Number, Hex, Range, Order, TooMany, OutOfMemory}
use Rattle.adversary_script.specs.declared.form.Block.{Block}
use Rattle.adversary_script.specs.declared.form.Moment.{Moment}
use Rattle.adversary_script.specs.declared.form.Moment.TheVariants as moment
use Rattle.adversary_script.specs.declared.form.Form.{Form}
use Rattle.adversary_script.specs.declared.form.Form.TheVariants as form
use Rattle.adversary_script.specs.declared.form.Line.{Line as Written}
use Rattle.adversary_script.specs.LineForms.{BlockForm, ChangeForm, open_form, code_form, bytes_form, save_form, back_form, copy_form, MomentForm, start_form, at_form, suspend_form, LineForm}

-- the texts of fields
abbrev pub texts : List (Bor (List ℕ)) → List (List ℕ)
texts fields = map (λ field. field.now) fields

-- a block with the field of its number
abbrev pub block_of : Block → BlockForm
block_of block = record { kind = block.kind; number = block.number.now }

-- a change with its fields
abbrev pub change_of : Form → ChangeForm
change_of (form.Open at bytes) = open_form at.now bytes.now
change_of (form.Code bytes) = code_form bytes.now
change_of (form.Bytes block at bytes) = bytes_form (block_of block) at.now bytes.now
change_of (form.Save slot block) = save_form slot.now (block_of block)
change_of (form.Back slot block) = back_form slot.now (block_of block)
change_of (form.Copy from to) = copy_form (block_of from) (block_of to)

-- a moment with its field
abbrev pub moment_of : Moment → MomentForm
moment_of moment.Start = start_form
moment_of (moment.At n) = at_form n.now
moment_of (moment.Suspend k) = suspend_form k.now

-- a line with its fields
abbrev pub line_meant : Written → LineForm
line_meant line = record { moment = moment_of line.moment; change = change_of line.change }

-- the outcome is this fault; of want of memory nothing is said
abbrev pub IsScriptFault : {X : Type 0} → Fault → Result X Fault → Type 0
IsScriptFault Line outcome = outcome ≡ Err Line
IsScriptFault Number outcome = outcome ≡ Err Number
IsScriptFault Hex outcome = outcome ≡ Err Hex
IsScriptFault Range outcome = outcome ≡ Err Range
IsScriptFault Order outcome = outcome ≡ Err Order
IsScriptFault TooMany outcome = outcome ≡ Err TooMany
IsScriptFault OutOfMemory outcome = Unit {0}

-- the result is this outcome, unless memory ran out
abbrev pub Gives : {X : Type 0} → Result X Fault → Result X Fault → Type 0
Gives (Ok x) outcome = outcome ≡ Ok x
Gives (Err fault) outcome = IsScriptFault fault outcome
