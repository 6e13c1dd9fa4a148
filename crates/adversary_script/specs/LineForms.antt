-- Promise: the grammar of a line: its words, and where its numbers and its bytes stand. These are still fields.
use Rattle.std.specs.Prelude.{ℕ, List, [], ◌∷◌, codes, Option, Some, None, option_map, if◌then◌else◌}
use Rattle.std.specs.Str.{bytes_eq}
use Rattle.adversary_script.specs.declared.form.Kind.{Kind}
use Rattle.adversary_script.specs.declared.form.Kind.TheVariants.{Data, Node, Text, Log}

-- block: the kind that its word names, and the field of its number
pub record BlockForm : Type 0 where
  pub kind : Kind
  pub number : List ℕ

-- change
pub data ChangeForm : Type 0 where
  open_form : List ℕ → List ℕ → ChangeForm
  code_form : List ℕ → ChangeForm
  bytes_form : BlockForm → List ℕ → List ℕ → ChangeForm
  save_form : List ℕ → BlockForm → ChangeForm
  back_form : List ℕ → BlockForm → ChangeForm
  copy_form : BlockForm → BlockForm → ChangeForm

-- `start`, `at N` or `suspend K`
pub data MomentForm : Type 0 where
  start_form : MomentForm
  at_form : List ℕ → MomentForm
  suspend_form : List ℕ → MomentForm

-- line
pub record LineForm : Type 0 where
  pub moment : MomentForm
  pub change : ChangeForm

-- the kind of block that a word names
unfoldable pub kind_of : List ℕ → Option Kind
kind_of word =
    if bytes_eq word (codes "data") then Some Data
    else (if bytes_eq word (codes "node") then Some Node
    else (if bytes_eq word (codes "text") then Some Text
    else (if bytes_eq word (codes "log") then Some Log
    else None)))

-- block = ( "data" | "node" | "text" | "log" ) N
unfoldable pub block_form : List ℕ → List ℕ → Option BlockForm
block_form word number = option_map (λ kind. record { kind = kind; number = number }) (kind_of word)

-- two blocks, where both are
unfoldable pub copy_of : Option BlockForm → Option BlockForm → Option ChangeForm
copy_of None to = None
copy_of (Some from) to = option_map (λ to. copy_form from to) to

-- "save" SLOT block | "back" SLOT block | block O HEX
unfoldable pub four_fields : List ℕ → List ℕ → List ℕ → List ℕ → Option ChangeForm
four_fields word first second third =
    if bytes_eq word (codes "save") then option_map (λ block. save_form first block) (block_form second third)
    else (if bytes_eq word (codes "back") then option_map (λ block. back_form first block) (block_form second third)
    else option_map (λ block. bytes_form block second third) (block_form word first))

-- change = "code" HEX | "open" A HEX | one of four fields | "copy" block block
unfoldable pub change_form : List (List ℕ) → Option ChangeForm
change_form (word ∷ hex ∷ []) = if bytes_eq word (codes "code") then Some (code_form hex) else None
change_form (word ∷ at ∷ hex ∷ []) = if bytes_eq word (codes "open") then Some (open_form at hex) else None
change_form (word ∷ first ∷ second ∷ third ∷ []) = four_fields word first second third
change_form (word ∷ first ∷ second ∷ third ∷ fourth ∷ []) =
    if bytes_eq word (codes "copy") then copy_of (block_form first second) (block_form third fourth) else None
change_form fields = None

-- a moment, and a change after it
unfoldable pub moment_with : MomentForm → Option ChangeForm → Option LineForm
moment_with moment change = option_map (λ change. record { moment = moment; change = change }) change

-- a moment with a number, and a change after it
unfoldable pub moment_numbered : (List ℕ → MomentForm) → List (List ℕ) → Option LineForm
moment_numbered moment [] = None
moment_numbered moment (number ∷ fields) = moment_with (moment number) (change_form fields)

-- line = ( "start" | "at" N | "suspend" K ) change
unfoldable pub line_form : List (List ℕ) → Option LineForm
line_form [] = None
line_form (word ∷ fields) =
    if bytes_eq word (codes "start") then moment_with start_form (change_form fields)
    else (if bytes_eq word (codes "at") then moment_numbered (λ n. at_form n) fields
    else (if bytes_eq word (codes "suspend") then moment_numbered (λ k. suspend_form k) fields
    else None))
