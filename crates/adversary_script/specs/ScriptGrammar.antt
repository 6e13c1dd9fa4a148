-- Promise: the changes of a text, line by line, and the fault of the first line that has one.
-- Of the faults of one line the first is answered, in the order Line, Number, Hex, Range, Order, TooMany.
use Rattle.std.specs.Prelude.{ℕ, ◌+◌, nat_eq, nat_le, nat_lt, Bool, not, ◌&&◌, List, [], ◌∷◌, ◌++◌, length, codes, Option, Some, None, Result, Ok, Err, if◌then◌else◌}
use Rattle.std.specs.List.{list_all, starts_with}
use Rattle.std.specs.Option.{ok_or}
use Rattle.std.specs.Str.Lines.{lines}
use Rattle.aegis_num.specs.declared.limits.TheConstants.{MAX_CHANGES, MAX_CHANGE_BYTES}
use Rattle.regions.specs.declared.addresses.TheConstants.{UNTRUSTED_START}
use Rattle.adversary_script.specs.declared.change.When.{When}
use Rattle.adversary_script.specs.declared.change.When.TheVariants as when
use Rattle.adversary_script.specs.declared.change.Target.{Target}
use Rattle.adversary_script.specs.declared.change.Target.TheVariants as target
use Rattle.adversary_script.specs.declared.change.What.{What}
use Rattle.adversary_script.specs.declared.change.What.TheVariants as what
use Rattle.adversary_script.specs.declared.change.Change.{Change}
use Rattle.adversary_script.specs.declared.error.ScriptError.{ScriptError}
use Rattle.adversary_script.specs.declared.error.ScriptError.TheVariants as error
use Rattle.adversary_script.specs.declared.fault.Fault.{Fault}
use Rattle.adversary_script.specs.declared.fault.Fault.TheVariants.{Line, Number, Hex, Range, Order, TooMany, OutOfMemory}
use Rattle.adversary_script.specs.declared.form.Kind.{Kind}
use Rattle.adversary_script.specs.declared.form.Kind.TheVariants.{Data, Node, Text, Log}
use Rattle.adversary_script.specs.ScriptRules.{is_in_range, may_precede, bytes_written, all_bytes_written}
use Rattle.adversary_script.specs.LineFields.{is_line_byte, fields_of, numeral_value, decoded_bytes}
use Rattle.adversary_script.specs.LineForms.{BlockForm, ChangeForm, open_form, code_form, bytes_form, save_form, back_form, copy_form, MomentForm, start_form, at_form, suspend_form, LineForm, line_form}

infixl 10 ◌>>=◌
abbrev pub ◌>>=◌ : {A B : Type 0} → Result A Fault → (A → Result B Fault) → Result B Fault
(Ok x) >>= f = f x
(Err fault) >>= f = Err fault

-- a number field
abbrev pub field_number : List ℕ → Result ℕ Fault
field_number field = ok_or (numeral_value field) Number

-- a HEX field
abbrev pub hex : List ℕ → Result (List ℕ) Fault
hex field = ok_or (decoded_bytes field) Hex

-- the block of a kind with a number
abbrev pub target_of : Kind → ℕ → Target
target_of Data n = target.Data n
target_of Node n = target.Node n
target_of Text n = target.Text n
target_of Log n = target.Log n

-- a block
unfoldable pub block : BlockForm → Result Target Fault
block form = do
  n ← field_number form.number
  Ok (target_of form.kind n)

-- a moment
unfoldable pub moment : MomentForm → Result When Fault
moment start_form = Ok when.Start
moment (at_form n) = field_number n >>= λ n. Ok (when.At n)
moment (suspend_form k) = field_number k >>= λ k. Ok (when.Suspend k)

-- what a change does: each number stands before the bytes
unfoldable pub deed : ChangeForm → Result What Fault
deed (open_form at bytes) = do
  at ← field_number at
  bytes ← hex bytes
  Ok (what.Open at bytes)
deed (code_form bytes) = do
  bytes ← hex bytes
  Ok (what.Open UNTRUSTED_START bytes)
deed (bytes_form form at bytes) = do
  target ← block form
  at ← field_number at
  bytes ← hex bytes
  Ok (what.Bytes target at bytes)
deed (save_form slot form) = do
  slot ← field_number slot
  target ← block form
  Ok (what.Save slot target)
deed (back_form slot form) = do
  slot ← field_number slot
  target ← block form
  Ok (what.Back slot target)
deed (copy_form from to) = do
  from ← block from
  to ← block to
  Ok (what.Copy from to)

-- a change
unfoldable pub change : LineForm → Result Change Fault
change form = do
  when ← moment form.moment
  what ← deed form.change
  Ok (record { when = when; what = what })

-- it stands after no earlier change that it has to precede
abbrev pub is_in_order : List Change → Change → Bool
is_in_order before change = list_all (λ earlier. may_precede earlier.when change.when) before

-- it is not one too many, and has not one byte too many
abbrev pub has_room : List Change → Change → Bool
has_room before change =
    nat_lt (length before) MAX_CHANGES && nat_le (all_bytes_written before + bytes_written change.what) MAX_CHANGE_BYTES

-- whether a change keeps the rules after earlier ones
unfoldable pub ruled : List Change → Change → Result (Unit {0}) Fault
ruled before change =
    if not (is_in_range change.what) then Err Range
    else (if not (is_in_order before change) then Err Order
    else (if not (has_room before change) then Err TooMany
    else Ok tt))

-- what a line of these fields says: an empty line and a comment make no change
unfoldable pub fields_say : List (List ℕ) → Result (Option Change) Fault
fields_say [] = Ok None
fields_say (field ∷ fields) =
    if starts_with nat_eq field (codes "#") then Ok None else (do
      form ← ok_or (line_form (field ∷ fields)) Line
      change ← change form
      Ok (Some change))

-- what a line says
unfoldable pub line_says : List ℕ → Result (Option Change) Fault
line_says line = if list_all is_line_byte line then fields_say (fields_of line) else Err Line

-- the changes of earlier lines, and that of the next, if it makes one
unfoldable pub added : List Change → Option Change → Result (List Change) Fault
added before None = Ok before
added before (Some change) = ruled before change >>= λ _. Ok (before ++ change ∷ [])

-- the changes of earlier lines and of this one
unfoldable pub read_line : List Change → List ℕ → Result (List Change) Fault
read_line before line = line_says line >>= λ change. added before change

-- the fault of the line with this number
abbrev pub fault_at : ℕ → Fault → ScriptError
fault_at n Line = error.Line n
fault_at n Number = error.Number n
fault_at n Hex = error.Hex n
fault_at n Range = error.Range n
fault_at n Order = error.Order n
fault_at n TooMany = error.TooMany n
fault_at n OutOfMemory = error.OutOfMemory

-- further lines after the line with this number, whose fault comes first
unfoldable pub after_line : ℕ → (List Change → Result (List Change) ScriptError) → Result (List Change) Fault → Result (List Change) ScriptError
after_line n further (Ok changes) = further changes
after_line n further (Err fault) = Err (fault_at n fault)

-- the changes of earlier lines and of these, the first of which has the number n
unfoldable pub changes_from : ℕ → List Change → List (List ℕ) → Result (List Change) ScriptError
changes_from n before [] = Ok before
changes_from n before (line ∷ further) = after_line n (λ changes. changes_from (n + 1) changes further) (read_line before line)

-- the changes of a text, or its first fault: lines are counted from 1, and of a line neither its line feed nor one carriage
-- return directly before that is a part
unfoldable pub script_of : List ℕ → Result (List Change) ScriptError
script_of text = changes_from 1 [] (lines text)
