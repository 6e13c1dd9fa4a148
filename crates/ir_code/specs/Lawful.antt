-- Promise: which flat code is lawful, so that instruction words can be made of it.
use Rattle.std.specs.Prelude.{◌≡◌, ℕ, ◌^◌, ◌<◌, Bool, true, false, cond, not, ◌==◌, ◌&&◌, ◌||◌, nat_lt, List, [], ◌∷◌, ◌++◌, length}
use Rattle.execution.specs.Run.{Stops}
use Rattle.execution.specs.Traffic.{Element, Entry}
use Rattle.aegis_num.specs.declared.limits.TheConstants.{MAX_PARAMETERS}
use Rattle.regions.specs.declared.rights.Class.{Class}
use Rattle.regions.specs.declared.rights.Class.TheVariants.{Verified, Private, Constant, Code}
use Rattle.ir_code.specs.declared.code.Cell.{Cell}
use Rattle.ir_code.specs.declared.code.Ir.{Ir}
use Rattle.ir_code.specs.declared.ops.Op.{Op}
use Rattle.ir_code.specs.OpTable.{targets, sources, loaded, stored, link_cells, goes_to, labels_of, slots_of, ends_code}
use Rattle.ir_code.specs.FlatStates.{FlatState, Stuck, words_of, class_of}
use Rattle.ir_code.specs.FlatMeaning.{flat_run}

-- the test holds of each one
abbrev pub all_hold : {A : Type 0} → (A → Bool) → List A → Bool
all_hold test [] = true
all_hold test (x ∷ xs) = test x && all_hold test xs

-- it is one of the list
abbrev pub is_among : List ℕ → ℕ → Bool
is_among [] n = false
is_among (x ∷ xs) n = x == n || is_among xs n

-- no number stands twice
abbrev pub is_once : List ℕ → Bool
is_once [] = true
is_once (x ∷ xs) = not (is_among xs x) && is_once xs

-- what each of the operations names, one after the other
abbrev pub named_by : (Op → List ℕ) → List Op → List ℕ
named_by names [] = []
named_by names (o ∷ ops) = names o ++ named_by names ops

abbrev pub is_constant : Class → Bool
is_constant Constant = true
is_constant class = false

abbrev pub is_code : Class → Bool
is_code Code = true
is_code class = false

-- a link is kept where nobody else can change it
abbrev pub keeps_links : Class → Bool
keeps_links Verified = true
keeps_links Private = true
keeps_links class = false

-- the cell that is named has one word
abbrev pub is_scalar : Ir → ℕ → Bool
is_scalar ir c = words_of ir c == 1

abbrev pub is_written : Ir → ℕ → Bool
is_written ir c = not (is_constant (class_of ir c))

abbrev pub is_there : {A : Type 0} → List A → ℕ → Bool
is_there xs n = nat_lt n (length xs)

-- a constant has all its words, and another cell has none to begin with
abbrev pub has_first : Cell → Bool
has_first cell = cond (is_constant cell.class) (length cell.first == cell.words) (length cell.first == 0)

abbrev pub is_data : Cell → Bool
is_data cell = not (is_code cell.class)

abbrev pub ends_well : List Op → Bool
ends_well [] = false
ends_well (o ∷ []) = ends_code o
ends_well (o ∷ p ∷ ops) = ends_well (p ∷ ops)

-- no cell of a link is named by an operation of another kind
abbrev pub keeps_apart : List ℕ → List ℕ → Bool
keeps_apart links cells = all_hold (λ c. not (is_among links c)) cells

-- the rules of form
pub record HasForm (ir : Ir) : Type 0 where
  pub ops : length ir.ops < 2 ^ 28
  pub cells : length ir.cells < 2 ^ 28
  pub entry : ir.entry < length ir.ops
  -- what is named is there, and a cell that is named as one of one word has one
  pub written_fit : all_hold (is_scalar ir) (named_by targets ir.ops) ≡ true
  pub read_fit : all_hold (is_scalar ir) (named_by sources ir.ops) ≡ true
  pub loaded_there : all_hold (is_there ir.cells) (named_by loaded ir.ops) ≡ true
  pub stored_there : all_hold (is_there ir.cells) (named_by stored ir.ops) ≡ true
  pub labels_there : all_hold (is_among (named_by labels_of ir.ops)) (named_by goes_to ir.ops) ≡ true
  pub slots_there : all_hold (λ slot. nat_lt slot MAX_PARAMETERS) (named_by slots_of ir.ops) ≡ true
  pub labels_once : is_once (named_by labels_of ir.ops) ≡ true
  pub last : ends_well ir.ops ≡ true
  -- no cell has the class of code, a constant has its words and is not written, and a cell of a link is nothing else
  pub no_code : all_hold is_data ir.cells ≡ true
  pub first : all_hold has_first ir.cells ≡ true
  pub constants : all_hold (is_written ir) (named_by targets ir.ops ++ named_by stored ir.ops) ≡ true
  pub links_fit : all_hold (is_scalar ir) (named_by link_cells ir.ops) ≡ true
  pub links_kept : all_hold (λ c. keeps_links (class_of ir c)) (named_by link_cells ir.ops) ≡ true
  pub links_apart : keeps_apart (named_by link_cells ir.ops)
      (named_by targets ir.ops ++ named_by sources ir.ops ++ named_by loaded ir.ops ++ named_by stored ir.ops) ≡ true

-- with these classes loose, no run is stuck
abbrev pub IsNeverStuck : (Class → Bool) → Ir → Type 0
IsNeverStuck is_loose ir = (input : List ℕ) (loose : List (Entry Element)) (steps : ℕ) (at : FlatState) →
    flat_run is_loose ir input loose steps ≡ Stops Stuck at → ⊥

-- Lawful, where the words of cells of these classes may be any.
pub record IsLawful (is_loose : Class → Bool) (ir : Ir) : Type 0 where
  pub form : HasForm ir
  pub runs : IsNeverStuck is_loose ir
