-- Device: what the tables of a writer of code tell.
use Rattle.std.specs.Prelude.{◌≡◌, ℕ, ◌+◌, ◌^◌, ◌<◌, nat_eq, nat_lt, true, cond, List, [], ◌∷◌, slice_index, unwrap_or, Option, Some, None}
use Rattle.std.specs.HashMap.{get}
use Rattle.ir_code.specs.declared.Op.{Op}
use Rattle.ir_code.specs.FlatStates.{is_label}
use Rattle.ir_code.specs.Lawful.{all_hold}
use Rattle.ir_code.specs.OpTable.{slots_of}
use Rattle.aegis_num.specs.declared.limits.TheConstants.{MAX_PARAMETERS}
use Rattle.codegen.specs.declared.sites.LabelTable.{LabelTable}
use Rattle.codegen.specs.ImageCode.{size_of}
use Rattle.codegen.specs.OpInstructions.{Sites}

-- the number at a label, or 0 where none is known
abbrev pub number_in : LabelTable → ℕ → ℕ
number_in table l = unwrap_or (get nat_eq table.numbers l) 0

-- where the tables say that things are
abbrev pub sites_in : List ℕ → LabelTable → Sites
sites_in homes table = record { home = slice_index homes; label = number_in table }

-- the numbers of labels among operations of which the first instruction has this number
abbrev pub label_number : ℕ → List Op → ℕ → Option ℕ
label_number n [] l = None
label_number n (o ∷ ops) l = cond (is_label l o) (Some n) (label_number (n + size_of o) ops l)

-- all addresses and numbers of instructions are as low as instructions want them
pub record AreLow (homes : List ℕ) (table : LabelTable) : Type 0 where
  pub addresses : (c : ℕ) → slice_index homes c < 2 ^ 31
  pub numbers : (l : ℕ) → number_in table l < 2 ^ 25

-- the slots that an operation names are there
abbrev pub HasSlots : Op → Type 0
HasSlots o = all_hold (λ slot. nat_lt slot MAX_PARAMETERS) (slots_of o) ≡ true
