-- The code of operations depends on the homes of the cells that they name, and on the numbers of labels.
use Rattle.std.proofs.Common.{◌≡◌, ℕ, zero, suc, Option, ◌+◌, ◌<◌, true, false, ◌==◌, List, [], ◌∷◌, ◌++◌, length, refl, ap, ◌∙◌, arith}
use Rattle.std.proofs.lemmas.Bool.Decides.{nat_tests}
use Rattle.std.specs.List.{slice_get}
use Rattle.orbis_word.specs.declared.Instr.{Instr}
use Rattle.orbis_word.specs.declared.Instr.TheVariants.{J, Jal, Bf, Jr, Cust1, Lwz, Sw, Sfeq, Sfne, Sfltu}
use Rattle.ir_code.specs.declared.Cell.{Cell}
use Rattle.ir_code.specs.declared.Op.{Op}
use Rattle.ir_code.specs.declared.Op.TheVariants as op
use Rattle.ir_code.specs.declared.Ir.{Ir}
use Rattle.ir_code.specs.FlatStates.{words_in}
use Rattle.ir_code.specs.Lawful.{HasForm, all_hold, named_by, is_scalar, is_there}
use Rattle.ir_code.specs.OpTable.{targets, sources, loaded, stored, link_cells}
use Rattle.codegen.specs.OpInstructions.{Sites, instructions_of, read_into, keep, number, indexed, lower, trapped, on_one, on_two, distance}
use Rattle.codegen.specs.ImageCode.{size_of, code_from}
use Rattle.codegen.proofs.Holding.{first-of, second-of, hold-back}

-- the cells that operations name are there
pub record NamesCells (ir : Ir) (ops : List Op) : Type 0 where
  pub written_fit : all_hold (is_scalar ir) (named_by targets ops) ≡ true
  pub read_fit : all_hold (is_scalar ir) (named_by sources ops) ≡ true
  pub loaded_there : all_hold (is_there ir.cells) (named_by loaded ops) ≡ true
  pub stored_there : all_hold (is_there ir.cells) (named_by stored ops) ≡ true
  pub links_fit : all_hold (is_scalar ir) (named_by link_cells ops) ≡ true

names-form : (ir : Ir) → HasForm ir → NamesCells ir ir.ops
names-form ir form = record {
  written_fit = form.written_fit;
  read_fit = form.read_fit;
  loaded_there = form.loaded_there;
  stored_there = form.stored_there;
  links_fit = form.links_fit;
}

names-later : (ir : Ir) (o : Op) (ops : List Op) → NamesCells ir (o ∷ ops) → NamesCells ir ops
names-later ir o ops names = record {
  written_fit = hold-back (is_scalar ir) (targets o) (named_by targets ops) names.written_fit;
  read_fit = hold-back (is_scalar ir) (sources o) (named_by sources ops) names.read_fit;
  loaded_there = hold-back (is_there ir.cells) (loaded o) (named_by loaded ops) names.loaded_there;
  stored_there = hold-back (is_there ir.cells) (stored o) (named_by stored ops) names.stored_there;
  links_fit = hold-back (is_scalar ir) (link_cells o) (named_by link_cells ops) names.links_fit;
}

scalar-in : (found : Option Cell) → (words_in found == 1) ≡ true → 0 < words_in found
scalar-in found e = grind (arith, nat_tests, e)

length-found : (cells : List Cell) (c : ℕ) → 0 < words_in (slice_get cells c) → c < length cells
length-found [] c inside = absurd (omega (arith, inside))
length-found (x ∷ cells) zero inside = omega arith
length-found (x ∷ cells) (suc c) inside = omega (arith, length-found cells c inside)

there-test : (cells : List Cell) (c : ℕ) → is_there cells c ≡ true → c < length cells
there-test cells c e = grind (arith, nat_tests, e)

module _ (ir : Ir) (at bt : Sites) (homes : (c : ℕ) → c < length ir.cells → at.home c ≡ bt.home c) (labels : (l : ℕ) → at.label l ≡ bt.label l) where
  scalar : (c : ℕ) → is_scalar ir c ≡ true → at.home c ≡ bt.home c
  scalar c e = homes c (length-found ir.cells c (scalar-in (slice_get ir.cells c) e))

  -- the cell in front of those that pass a test
  front : (c : ℕ) (cs : List ℕ) → all_hold (is_scalar ir) (c ∷ cs) ≡ true → at.home c ≡ bt.home c
  front c cs h = scalar c (first-of (is_scalar ir c) (all_hold (is_scalar ir) cs) h)

  next : (b c : ℕ) (cs : List ℕ) → all_hold (is_scalar ir) (b ∷ c ∷ cs) ≡ true → at.home c ≡ bt.home c
  next b c cs h = front c cs (second-of (is_scalar ir b) (all_hold (is_scalar ir) (c ∷ cs)) h)

  array : (c : ℕ) (cs : List ℕ) → all_hold (is_there ir.cells) (c ∷ cs) ≡ true → at.home c ≡ bt.home c
  array c cs h = homes c (there-test ir.cells c (first-of (is_there ir.cells c) (all_hold (is_there ir.cells) cs) h))

  same-op : (n : ℕ) (o : Op) (ops : List Op) → NamesCells ir (o ∷ ops) → instructions_of at n o ≡ instructions_of bt n o
  same-op n (op.Const to value) ops names = ap (λ (h : ℕ). number 13 value (keep h 13 [])) (front to _ names.written_fit)
  same-op n (op.Copy to from) ops names =
      ap (λ (h : ℕ). read_into 13 h (keep (at.home to) 13 [])) (front from _ names.read_fit)
      ∙ ap (λ (h : ℕ). read_into 13 (bt.home from) (keep h 13 [])) (front to _ names.written_fit)
  same-op n (op.Unary operator to a) ops names =
      ap (λ (h : ℕ). read_into 13 h (on_one operator (keep (at.home to) 13 []))) (front a _ names.read_fit)
      ∙ ap (λ (h : ℕ). read_into 13 (bt.home a) (on_one operator (keep h 13 []))) (front to _ names.written_fit)
  same-op n (op.Binary operator to a b) ops names =
      ap (λ (h : ℕ). read_into 13 h (read_into 14 (at.home b) (on_two operator (keep (at.home to) 13 [])))) (front a (b ∷ named_by sources ops) names.read_fit)
      ∙ ap (λ (h : ℕ). read_into 13 (bt.home a) (read_into 14 h (on_two operator (keep (at.home to) 13 [])))) (next a b _ names.read_fit)
      ∙ ap (λ (h : ℕ). read_into 13 (bt.home a) (read_into 14 (bt.home b) (on_two operator (keep h 13 [])))) (front to _ names.written_fit)
  same-op n (op.Test a length token) ops names = ap (λ (h : ℕ). read_into 13 h (number 14 length (Sfltu 13 14 ∷ trapped 9 token))) (front a _ names.read_fit)
  same-op n (op.NonZero a token) ops names = ap (λ (h : ℕ). read_into 13 h (Sfne 13 0 ∷ trapped 10 token)) (front a _ names.read_fit)
  same-op n (op.Load to array_cell index) ops names =
      ap (λ (h : ℕ). read_into 13 h (indexed (at.home array_cell) (Lwz 13 (lower (at.home array_cell)) 12 ∷ keep (at.home to) 13 []))) (front index _ names.read_fit)
      ∙ ap (λ (h : ℕ). read_into 13 (bt.home index) (indexed h (Lwz 13 (lower h) 12 ∷ keep (at.home to) 13 []))) (array array_cell _ names.loaded_there)
      ∙ ap (λ (h : ℕ). read_into 13 (bt.home index) (indexed (bt.home array_cell) (Lwz 13 (lower (bt.home array_cell)) 12 ∷ keep h 13 []))) (front to _ names.written_fit)
  same-op n (op.Store array_cell index from) ops names =
      ap (λ (h : ℕ). read_into 13 h (read_into 14 (at.home from) (indexed (at.home array_cell) (Sw (lower (at.home array_cell)) 12 14 ∷ [])))) (front index (from ∷ named_by sources ops) names.read_fit)
      ∙ ap (λ (h : ℕ). read_into 13 (bt.home index) (read_into 14 h (indexed (at.home array_cell) (Sw (lower (at.home array_cell)) 12 14 ∷ [])))) (next index from _ names.read_fit)
      ∙ ap (λ (h : ℕ). read_into 13 (bt.home index) (read_into 14 (bt.home from) (indexed h (Sw (lower h) 12 14 ∷ [])))) (array array_cell _ names.stored_there)
  same-op n (op.Label l) ops names = refl
  same-op n (op.Jump l) ops names = ap (λ (m : ℕ). J (distance n m) ∷ []) (labels l)
  same-op n (op.JumpZero a l) ops names =
      ap (λ (h : ℕ). read_into 13 h (Sfeq 13 0 ∷ Bf (distance (n + 2) (at.label l)) ∷ [])) (front a _ names.read_fit)
      ∙ ap (λ (m : ℕ). read_into 13 (bt.home a) (Sfeq 13 0 ∷ Bf (distance (n + 2) m) ∷ [])) (labels l)
  same-op n (op.Arg slot from) ops names = ap (λ (h : ℕ). read_into (3 + slot) h []) (front from _ names.read_fit)
  same-op n (op.Param to slot) ops names = ap (λ (h : ℕ). keep h (3 + slot) []) (front to _ names.written_fit)
  same-op n (op.Call l) ops names = ap (λ (m : ℕ). Jal (distance n m) ∷ []) (labels l)
  same-op n (op.SaveLink cell) ops names = ap (λ (h : ℕ). keep h 9 []) (front cell _ names.links_fit)
  same-op n (op.Return cell) ops names = ap (λ (h : ℕ). read_into 9 h (Jr 9 ∷ [])) (front cell _ names.links_fit)
  same-op n (op.SetResult from) ops names = ap (λ (h : ℕ). read_into 11 h []) (front from _ names.read_fit)
  same-op n (op.Result to) ops names = ap (λ (h : ℕ). keep h 11 []) (front to _ names.written_fit)
  same-op n (op.Input to) ops names = ap (λ (h : ℕ). Cust1 7 ∷ keep h 11 []) (front to _ names.written_fit)
  same-op n (op.Release a) ops names = ap (λ (h : ℕ). read_into 3 h (Cust1 6 ∷ [])) (front a _ names.read_fit)
  same-op n op.Check ops names = refl
  same-op n op.Suspend ops names = refl
  same-op n (op.SetMode true) ops names = refl
  same-op n (op.SetMode false) ops names = refl
  same-op n op.Exit ops names = refl

  same-from : (n : ℕ) (ops : List Op) → NamesCells ir ops → code_from at n ops ≡ code_from bt n ops
  same-from n [] names = refl
  same-from n (o ∷ ops) names =
      ap (λ (is : List Instr). is ++ code_from at (n + size_of o) ops) (same-op n o ops names)
      ∙ ap (λ (is : List Instr). instructions_of bt n o ++ is) (same-from (n + size_of o) ops (names-later ir o ops names))

-- Tables that agree with homes and labels give the same code.
pub same-code : (ir : Ir) (at bt : Sites) → HasForm ir → ((c : ℕ) → c < length ir.cells → at.home c ≡ bt.home c) → ((l : ℕ) → at.label l ≡ bt.label l) →
    code_from at 0 ir.ops ≡ code_from bt 0 ir.ops
same-code ir at bt form homes labels = same-from ir at bt homes labels 0 ir.ops (names-form ir form)
