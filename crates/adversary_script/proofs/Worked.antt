-- The definition of a script on worked texts.
use Rattle.std.proofs.Common.{◌≡◌, List, [], ◌∷◌, ◌++◌, ℕ, Ok, Err, refl}
use Rattle.std.specs.Prelude.{⊤, codes}
use Rattle.hex.specs.Hex.{decode_pairs}
use Rattle.aegis_num.specs.declared.limits.TheConstants.{MAX_CHANGES, MAX_CHANGE_BYTES}
use Rattle.adversary_script.specs.declared.change.When.TheVariants.{Start, At, Suspend}
use Rattle.adversary_script.specs.declared.change.When.{When}
use Rattle.adversary_script.specs.declared.change.Target.TheVariants.{Data, Node, Text, Log}
use Rattle.adversary_script.specs.declared.change.What.TheVariants.{Open, Bytes, Save, Back, Copy}
use Rattle.adversary_script.specs.declared.change.What.{What}
use Rattle.adversary_script.specs.declared.change.Change.{Change}
use Rattle.adversary_script.specs.declared.error.ScriptError.TheVariants.{Line, Number, Hex, Range, Order}
use Rattle.adversary_script.specs.LineFields.{numeral_value}
use Rattle.adversary_script.specs.LineForms.{kind_of, block_form, copy_of, four_fields, change_form, moment_with, moment_numbered, line_form}
use Rattle.adversary_script.specs.ScriptGrammar.{block, moment, deed, change, ruled, fields_say, line_says, added, read_line, after_line, changes_from, script_of}

-- what has to be unfolded to compute a script
unfoldable script_computes : ⊤
unfolding decode_pairs numeral_value kind_of block_form copy_of four_fields change_form moment_with moment_numbered line_form block moment deed change ruled fields_say line_says added read_line after_line changes_from script_of
script_computes = tt

abbrev makes : When → What → Change
makes when what = record { when = when; what = what }

-- two lines
abbrev both : List ℕ → List ℕ → List ℕ
both first second = first ++ 10 ∷ second

open_bytes : script_of (codes "suspend 0 open 0x8000 00000041") ≡ Ok (makes (Suspend 0) (Open 32768 (0 ∷ 0 ∷ 0 ∷ 65 ∷ [])) ∷ [])
unfolding script_computes
open_bytes = refl

data_byte : script_of (codes "suspend 0 data 0 3 02") ≡ Ok (makes (Suspend 0) (Bytes (Data 0) 3 (2 ∷ [])) ∷ [])
unfolding script_computes
data_byte = refl

replay : script_of (both (codes "suspend 0 save 0 data 0") (codes "suspend 1 back 0 data 0"))
    ≡ Ok (makes (Suspend 0) (Save 0 (Data 0)) ∷ makes (Suspend 1) (Back 0 (Data 0)) ∷ [])
unfolding script_computes
replay = refl

splice : script_of (codes "suspend 0 copy data 1 data 0") ≡ Ok (makes (Suspend 0) (Copy (Data 1) (Data 0)) ∷ [])
unfolding script_computes
splice = refl

code_block : script_of (codes "start text 0 0 ff") ≡ Ok (makes Start (Bytes (Text 0) 0 (255 ∷ [])) ∷ [])
unfolding script_computes
code_block = refl

untrusted_code : script_of (codes "suspend 0 code 00000000") ≡ Ok (makes (Suspend 0) (Open 8192 (0 ∷ 0 ∷ 0 ∷ 0 ∷ [])) ∷ [])
unfolding script_computes
untrusted_code = refl

out_of_order : script_of (both (codes "at 9 open 0 00") (codes "at 4 open 0 00")) ≡ Err (Order 2)
unfolding script_computes
out_of_order = refl

order_checker : script_of (both (codes "suspend 0 open 0x8000 0000000200000003") (codes "suspend 1 code a86080009c800001d40320009c800004d403200470000003"))
    ≡ Ok (makes (Suspend 0) (Open 32768 (0 ∷ 0 ∷ 0 ∷ 2 ∷ 0 ∷ 0 ∷ 0 ∷ 3 ∷ []))
    ∷ makes (Suspend 1) (Open 8192 (168 ∷ 96 ∷ 128 ∷ 0 ∷ 156 ∷ 128 ∷ 0 ∷ 1 ∷ 212 ∷ 3 ∷ 32 ∷ 0 ∷ 156 ∷ 128 ∷ 0 ∷ 4 ∷ 212 ∷ 3 ∷ 32 ∷ 4 ∷ 112 ∷ 0 ∷ 0 ∷ 3 ∷ [])) ∷ [])
unfolding script_computes
order_checker = refl

-- an empty line, one of blanks and a comment are counted, a tab separates, and a carriage return before a line feed is dropped
counted : script_of (10 ∷ 32 ∷ 9 ∷ 10 ∷ codes " # $1" ++ 10 ∷ 9 ∷ codes "start" ++ 9 ∷ codes "node 0x0a  71 Ff" ++ 13 ∷ 10 ∷ codes "start node 4294967296 0 0")
    ≡ Err (Number 5)
unfolding script_computes
counted = refl

separated : script_of (9 ∷ codes "start" ++ 9 ∷ codes "node 0x0a  071 Ff " ++ 13 ∷ 10 ∷ []) ≡ Ok (makes Start (Bytes (Node 10) 71 (255 ∷ [])) ∷ [])
unfolding script_computes
separated = refl

-- one carriage return is dropped, and only before a line feed
return_at_end : script_of (codes "#" ++ 13 ∷ []) ≡ Err (Line 1)
unfolding script_computes
return_at_end = refl

two_returns : script_of (13 ∷ 13 ∷ 10 ∷ []) ≡ Err (Line 1)
unfolding script_computes
two_returns = refl

-- each fault, and those before it in the same line
no_line : script_of (codes "at x log 0 99 0 0") ≡ Err (Line 1)
unfolding script_computes
no_line = refl

no_number : script_of (codes "at 4294967296 log 0 99 0") ≡ Err (Number 1)
unfolding script_computes
no_number = refl

bare_prefix : script_of (codes "start open 0x 00") ≡ Err (Number 1)
unfolding script_computes
bare_prefix = refl

large_prefix : script_of (codes "start open 0X1 00") ≡ Err (Number 1)
unfolding script_computes
large_prefix = refl

greatest_number : script_of (codes "at 0x00ffffffff back 15 log 0004294967295") ≡ Ok (makes (At 4294967295) (Back 15 (Log 4294967295)) ∷ [])
unfolding script_computes
greatest_number = refl

odd_digits : script_of (codes "start log 0 99 000") ≡ Err (Hex 1)
unfolding script_computes
odd_digits = refl

one_digit : script_of (codes "suspend 0 log 0 3 4") ≡ Err (Hex 1)
unfolding script_computes
one_digit = refl

past_open : script_of (codes "start open 65535 0000") ≡ Err (Range 1)
unfolding script_computes
past_open = refl

past_block : script_of (codes "start log 0 72 00") ≡ Err (Range 1)
unfolding script_computes
past_block = refl

past_slots : script_of (both (codes "at 0 save 15 log 0") (codes "start save 16 log 0")) ≡ Err (Range 2)
unfolding script_computes
past_slots = refl

start_after : script_of (both (codes "suspend 7 save 0 log 0") (codes "start save 0 log 0")) ≡ Err (Order 2)
unfolding script_computes
start_after = refl

-- the last places that there are
last_places : script_of (both (codes "start open 65535 00") (codes "start log 0 71 00"))
    ≡ Ok (makes Start (Open 65535 (0 ∷ [])) ∷ makes Start (Bytes (Log 0) 71 (0 ∷ [])) ∷ [])
unfolding script_computes
last_places = refl

-- the limits of the whole script
limits : (MAX_CHANGES ≡ 4096) × (MAX_CHANGE_BYTES ≡ 65536)
limits = (refl, refl)

-- the numbers of events and of suspensions are apart
apart : script_of (both (codes "suspend 7 save 0 log 0") (codes "at 3 save 0 log 0"))
    ≡ Ok (makes (Suspend 7) (Save 0 (Log 0)) ∷ makes (At 3) (Save 0 (Log 0)) ∷ [])
unfolding script_computes
apart = refl
