-- How many instructions operations have, one after the other.
use Rattle.std.proofs.Common.{◌≡◌, ℕ, zero, suc, ◌+◌, ◌<◌, ◌≤◌, List, [], ◌∷◌, ◌++◌, length, take, get_or, map, refl, sym, ap, ◌∙◌, arith, true, false, append-nil, Option, Some}
use Rattle.std.proofs.lemmas.List.{take_more, map-append}
use Rattle.std.proofs.Common.{append_assoc, length-append}
use Rattle.orbis_word.specs.declared.Instr.{Instr}
use Rattle.orbis_word.specs.declared.Instr.TheVariants.{Movhi}
use Rattle.aegis_num.specs.declared.UnaryOp.{UnaryOp}
use Rattle.aegis_num.specs.declared.UnaryOp.TheVariants.{Neg, Inv, Not}
use Rattle.aegis_num.specs.declared.BinaryOp.{BinaryOp}
use Rattle.aegis_num.specs.declared.BinaryOp.TheVariants as on
use Rattle.ir_code.specs.declared.Op.{Op}
use Rattle.ir_code.specs.declared.Op.TheVariants as op
use Rattle.ir_code.specs.OpTable.{ends_code, slots_of}
use Rattle.std.specs.Prelude.{nat_lt}
use Rattle.aegis_num.specs.declared.limits.TheConstants.{MAX_PARAMETERS}
use Rattle.ir_code.specs.Lawful.{ends_well, all_hold, named_by}
use Rattle.codegen.specs.Numbers.{HasSlots}
use Rattle.codegen.proofs.Holding.{hold-front, hold-back}
use Rattle.codegen.specs.OpInstructions.{Sites, fill, instructions_of, on_one, on_two}
use Rattle.codegen.specs.ImageCode.{size_of, offset_of, code_size, code_from}

pub code_size-push : (ops : List Op) (o : Op) → code_size (ops ++ o ∷ []) ≡ code_size ops + size_of o
code_size-push [] o = omega arith
code_size-push (p ∷ ops) o = omega (arith, code_size-push ops o)

pub code_size-more : (ops : List Op) (i : ℕ) (d : Op) → i < length ops → code_size (take (i + 1) ops) ≡ code_size (take i ops) + size_of (get_or ops i d)
code_size-more ops i d inside = ap code_size (take_more ops i d inside) ∙ code_size-push (take i ops) (get_or ops i d)

pub code_size-take-le : (ops : List Op) (i : ℕ) → code_size (take i ops) ≤ code_size ops
code_size-take-le [] zero = omega arith
code_size-take-le [] (suc i) = omega arith
code_size-take-le (o ∷ ops) zero = omega arith
code_size-take-le (o ∷ ops) (suc i) = omega (arith, code_size-take-le ops i)

pub offset_of-take : (ops : List Op) (place : ℕ) → offset_of ops place ≡ code_size (take place ops)
offset_of-take [] zero = refl
offset_of-take [] (suc place) = refl
offset_of-take (o ∷ ops) zero = refl
offset_of-take (o ∷ ops) (suc place) = ap (λ (n : ℕ). size_of o + n) (offset_of-take ops place)

-- the last operation has an instruction
false-true : false ≡ true → ⊥
false-true e = cc

size-end : (o : Op) → ends_code o ≡ true → 0 < size_of o
size-end (op.Jump l) e = omega arith
size-end (op.Return cell) e = omega arith
size-end op.Exit e = omega arith
size-end other e = absurd (false-true e)

-- so each place is before the end of the code
pub offset_of-below : (ops : List Op) (place : ℕ) → ends_well ops ≡ true → place < length ops → offset_of ops place < code_size ops
offset_of-below [] place well inside = absurd (omega (arith, inside))
offset_of-below (o ∷ []) zero well inside = omega (arith, size-end o well)
offset_of-below (o ∷ []) (suc place) well inside = absurd (omega (arith, inside))
offset_of-below (o ∷ p ∷ ops) zero well inside = omega (arith, offset_of-below (p ∷ ops) zero well (omega arith))
offset_of-below (o ∷ p ∷ ops) (suc place) well inside = omega (arith, offset_of-below (p ∷ ops) place well (omega (arith, inside)))

-- ---- lengths of instructions

length-one : (operator : UnaryOp) (one two : List Instr) → length one ≡ length two → length (on_one operator one) ≡ length (on_one operator two)
length-one Neg one two e = omega (arith, e)
length-one Inv one two e = omega (arith, e)
length-one Not one two e = omega (arith, e)

length-two : (operator : BinaryOp) (one two : List Instr) → length one ≡ length two → length (on_two operator one) ≡ length (on_two operator two)
length-two on.Add one two e = omega (arith, e)
length-two on.Sub one two e = omega (arith, e)
length-two on.Mul one two e = omega (arith, e)
length-two on.DivS one two e = omega (arith, e)
length-two on.DivU one two e = omega (arith, e)
length-two on.RemS one two e = omega (arith, e)
length-two on.RemU one two e = omega (arith, e)
length-two on.And one two e = omega (arith, e)
length-two on.Or one two e = omega (arith, e)
length-two on.Xor one two e = omega (arith, e)
length-two on.Shl one two e = omega (arith, e)
length-two on.ShrS one two e = omega (arith, e)
length-two on.ShrU one two e = omega (arith, e)
length-two on.Eq one two e = omega (arith, e)
length-two on.Ne one two e = omega (arith, e)
length-two on.LtS one two e = omega (arith, e)
length-two on.LtU one two e = omega (arith, e)
length-two on.LeS one two e = omega (arith, e)
length-two on.LeU one two e = omega (arith, e)
length-two on.GtS one two e = omega (arith, e)
length-two on.GtU one two e = omega (arith, e)
length-two on.GeS one two e = omega (arith, e)
length-two on.GeU one two e = omega (arith, e)

pub length-instructions : (at : Sites) (n : ℕ) (o : Op) → length (instructions_of at n o) ≡ size_of o
length-instructions at n (op.Const to value) = refl
length-instructions at n (op.Copy to from) = refl
length-instructions at n (op.Unary operator to a) = ap suc (length-one operator _ _ refl)
length-instructions at n (op.Binary operator to a b) = ap (λ (l : ℕ). suc (suc l)) (length-two operator _ _ refl)
length-instructions at n (op.Test a length token) = refl
length-instructions at n (op.NonZero a token) = refl
length-instructions at n (op.Load to array index) = refl
length-instructions at n (op.Store array index from) = refl
length-instructions at n (op.Label l) = refl
length-instructions at n (op.Jump l) = refl
length-instructions at n (op.JumpZero a l) = refl
length-instructions at n (op.Arg slot from) = refl
length-instructions at n (op.Param to slot) = refl
length-instructions at n (op.Call l) = refl
length-instructions at n (op.SaveLink cell) = refl
length-instructions at n (op.Return cell) = refl
length-instructions at n (op.SetResult from) = refl
length-instructions at n (op.Result to) = refl
length-instructions at n (op.Input to) = refl
length-instructions at n (op.Release a) = refl
length-instructions at n op.Check = refl
length-instructions at n op.Suspend = refl
length-instructions at n (op.SetMode true) = refl
length-instructions at n (op.SetMode false) = refl
length-instructions at n op.Exit = refl

pub length-code_from : (at : Sites) (n : ℕ) (ops : List Op) → length (code_from at n ops) ≡ code_size ops
length-code_from at n [] = refl
length-code_from at n (o ∷ ops) =
    length-append (instructions_of at n o) (code_from at (n + size_of o) ops)
    ∙ ap (λ (l : ℕ). l + length (code_from at (n + size_of o) ops)) (length-instructions at n o)
    ∙ ap (λ (l : ℕ). size_of o + l) (length-code_from at (n + size_of o) ops)

-- the code of operations, and then that of one more
pub code_from-push : (at : Sites) (n : ℕ) (ops : List Op) (o : Op) → code_from at n (ops ++ o ∷ []) ≡ code_from at n ops ++ instructions_of at (n + code_size ops) o
code_from-push at n [] o = append-nil (instructions_of at n o) ∙ ap (λ (m : ℕ). instructions_of at m o) (omega arith)
code_from-push at n (p ∷ ops) o =
    ap (λ (rest : List Instr). instructions_of at n p ++ rest) (code_from-push at (n + size_of p) ops o)
    ∙ sym (append_assoc (instructions_of at n p) (code_from at (n + size_of p) ops) (instructions_of at (n + size_of p + code_size ops) o))
    ∙ ap (λ (m : ℕ). (instructions_of at n p ++ code_from at (n + size_of p) ops) ++ instructions_of at m o) (omega arith)

pub code_from-more : (at : Sites) (ops : List Op) (i : ℕ) (d : Op) → i < length ops →
    code_from at 0 (take (i + 1) ops) ≡ code_from at 0 (take i ops) ++ instructions_of at (code_size (take i ops)) (get_or ops i d)
code_from-more at ops i d inside =
    ap (code_from at 0) (take_more ops i d inside) ∙ code_from-push at 0 (take i ops) (get_or ops i d)
    ∙ ap (λ (m : ℕ). code_from at 0 (take i ops) ++ instructions_of at m (get_or ops i d)) (omega arith)

-- and as words that are written
pub written-more : (at : Sites) (ops : List Op) (i number : ℕ) (d : Op) (code new : List (Option Instr)) → i < length ops →
    code ≡ map Some (code_from at 0 (take i ops)) → number ≡ code_size (take i ops) → new ≡ code ++ map Some (instructions_of at number (get_or ops i d)) →
    new ≡ map Some (code_from at 0 (take (i + 1) ops))
written-more at ops i number d code new inside written size grown =
    grown
    ∙ ap (λ (front : List (Option Instr)). front ++ map Some (instructions_of at number (get_or ops i d))) written
    ∙ ap (λ (m : ℕ). map Some (code_from at 0 (take i ops)) ++ map Some (instructions_of at m (get_or ops i d))) size
    ∙ sym (map-append Some (code_from at 0 (take i ops)) (instructions_of at (code_size (take i ops)) (get_or ops i d)))
    ∙ ap (map Some) (sym (code_from-more at ops i d inside))

-- ---- slots

slots-cons : (o : Op) (ops : List Op) → all_hold (λ slot. nat_lt slot MAX_PARAMETERS) (slots_of o ++ named_by slots_of ops) ≡ true →
    (HasSlots o) × (all_hold (λ slot. nat_lt slot MAX_PARAMETERS) (named_by slots_of ops) ≡ true)
slots-cons o ops h = (hold-front (λ (slot : ℕ). nat_lt slot MAX_PARAMETERS) (slots_of o) (named_by slots_of ops) h, hold-back (λ (slot : ℕ). nat_lt slot MAX_PARAMETERS) (slots_of o) (named_by slots_of ops) h)

pub slots-at : (ops : List Op) (i : ℕ) (d : Op) → i < length ops → all_hold (λ slot. nat_lt slot MAX_PARAMETERS) (named_by slots_of ops) ≡ true → HasSlots (get_or ops i d)
slots-at [] i d inside h = absurd (omega (arith, inside))
slots-at (o ∷ ops) zero d inside h = (slots-cons o ops h).0
slots-at (o ∷ ops) (suc i) d inside h = slots-at ops i d (omega (arith, inside)) (slots-cons o ops h).1

-- ---- registers that are filled one after the other

pub fill-more : (d part i : ℕ) → map Some (fill d part (i + 1) []) ≡ map Some (fill d part i []) ++ Some (Movhi (d + i) (part + i)) ∷ []
fill-more d part zero = ap (λ (n : ℕ). Some (Movhi n part) ∷ []) (omega arith) ∙ ap (λ (n : ℕ). Some (Movhi (d + 0) n) ∷ []) (omega arith)
fill-more d part (suc i) =
    let next : suc i + 1 ≡ suc (i + 1) = omega arith in
    ap (λ (n : ℕ). map Some (fill d part n [])) next
    ∙ ap (λ (rest : List (Option Instr)). Some (Movhi d part) ∷ rest) (fill-more (d + 1) (part + 1) i)
    ∙ ap (λ (n : ℕ). Some (Movhi d part) ∷ (map Some (fill (d + 1) (part + 1) i []) ++ Some (Movhi n (part + 1 + i)) ∷ [])) (omega arith)
    ∙ ap (λ (n : ℕ). Some (Movhi d part) ∷ (map Some (fill (d + 1) (part + 1) i []) ++ Some (Movhi (d + suc i) n) ∷ [])) (omega arith)
