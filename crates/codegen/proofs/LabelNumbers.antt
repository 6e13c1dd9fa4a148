-- The numbers of labels, by their places.
use Rattle.std.proofs.Common.{◌≡◌, ℕ, suc, ◌+◌, ◌<◌, ◌≤◌, cond, Bool, true, false, List, [], ◌∷◌, Option, Some, None, refl, sym, ap, ◌∙◌, arith, ◌-◌, length, take, drop, get_or}
use Rattle.std.proofs.Math.Seq.{drop-cons}
use Rattle.std.proofs.lemmas.Bool.Decides.{nat_tests}
use Rattle.std.specs.Prelude.{unwrap_or, nat_eq}
use Rattle.ir_code.specs.declared.Op.{Op}
use Rattle.ir_code.specs.declared.Op.TheVariants as op
use Rattle.ir_code.specs.declared.Ir.{Ir}
use Rattle.ir_code.specs.FlatStates.{is_label, label_from, label_place}
use Rattle.codegen.specs.ImageCode.{size_of, offset_of, offset_found, code_size}
use Rattle.codegen.specs.Numbers.{label_number}
use Rattle.codegen.proofs.CodeSizes.{code_size-more}

-- a label is at no place and has no number, or is at a place and has the number of the instruction there
abbrev pub NumbersAgree : ℕ → ℕ → List Op → Option ℕ → Option ℕ → Type 0
NumbersAgree n k ops None number = number ≡ None
NumbersAgree n k ops (Some place) number = (at : ℕ) × (place ≡ k + at) × (number ≡ Some (n + offset_of ops at))

agree-later : (n k : ℕ) (o : Op) (ops : List Op) (place number : Option ℕ) → NumbersAgree (n + size_of o) (k + 1) ops place number →
    NumbersAgree n k (o ∷ ops) place number
agree-later n k o ops None number h = h
agree-later n k o ops (Some place) number h = (suc h.0, omega (arith, h.1), h.2 ∙ ap Some (omega arith))

agree-cond : (n k : ℕ) (o : Op) (ops : List Op) (b : Bool) (place number : Option ℕ) → NumbersAgree (n + size_of o) (k + 1) ops place number →
    NumbersAgree n k (o ∷ ops) (cond b (Some k) place) (cond b (Some n) number)
agree-cond n k o ops true place number h = (0, omega arith, ap Some (omega arith))
agree-cond n k o ops false place number h = agree-later n k o ops place number h

pub numbers-agree : (n k : ℕ) (ops : List Op) (l : ℕ) → NumbersAgree n k ops (label_from k ops l) (label_number n ops l)
numbers-agree n k [] l = refl
numbers-agree n k (o ∷ ops) l =
    agree-cond n k o ops (is_label l o) (label_from (k + 1) ops l) (label_number (n + size_of o) ops l) (numbers-agree (n + size_of o) (k + 1) ops l)

at-number : (ops : List Op) (place number : Option ℕ) → NumbersAgree 0 0 ops place number → unwrap_or number 0 ≡ offset_found ops place
at-number ops None number h = ap (λ (it : Option ℕ). unwrap_or it 0) h
at-number ops (Some place) number h =
    let same : 0 + offset_of ops h.0 ≡ offset_of ops h.0 = omega arith in
    let there : h.0 ≡ place = omega (arith, h.1) in
    ap (λ (it : Option ℕ). unwrap_or it 0) h.2 ∙ same ∙ ap (offset_of ops) there

-- the number at a label is that of the instruction at its place
pub number-is_offset : (ir : Ir) (l : ℕ) → unwrap_or (label_number 0 ir.ops l) 0 ≡ offset_found ir.ops (label_place ir l)
number-is_offset ir l = at-number ir.ops (label_place ir l) (label_number 0 ir.ops l) (numbers-agree 0 0 ir.ops l)

cond-le : (n m : ℕ) (b : Bool) (number : Option ℕ) → n ≤ m → unwrap_or number 0 ≤ m → unwrap_or (cond b (Some n) number) 0 ≤ m
cond-le n m true number one other = one
cond-le n m false number one other = other

pub number-le : (n : ℕ) (ops : List Op) (l : ℕ) → unwrap_or (label_number n ops l) 0 ≤ n + code_size ops
number-le n [] l = omega arith
number-le n (o ∷ ops) l =
    cond-le n (n + code_size (o ∷ ops)) (is_label l o) (label_number (n + size_of o) ops l) (omega arith)
    (omega (arith, number-le (n + size_of o) ops l))

-- ---- a table of labels, made from the last operation on

pub nat_eq-sym : (a b : ℕ) → nat_eq a b ≡ nat_eq b a
nat_eq-sym a b = grind (arith, nat_tests)

pub not-label : (q : ℕ) (o : Op) → ((x : ℕ) → o ≡ op.Label x → ⊥) → is_label q o ≡ false
not-label q (op.Label m) none = absurd (none m refl)
not-label q other none = refl

pub code_size-before : (ops : List Op) (p place : ℕ) (d : Op) → place ≡ p + 1 → place ≤ length ops → code_size (take place ops) ≡ code_size (take p ops) + size_of (get_or ops p d)
code_size-before ops p place d is inside = ap (λ (n : ℕ). code_size (take n ops)) is ∙ code_size-more ops p d (omega (arith, is, inside))

pub labels-more : (ops : List Op) (p place number size : ℕ) (d : Op) (found : ℕ → Option ℕ) → place ≡ p + 1 → place ≤ length ops →
    size ≡ size_of (get_or ops p d) → size ≤ number → ((q : ℕ) → found q ≡ label_number number (drop place ops) q) →
    (q : ℕ) → label_number (number - size) (drop p ops) q ≡ cond (is_label q (get_or ops p d)) (Some (number - size)) (found q)
labels-more ops p place number size d found is inside sized room known q =
    let below : p < length ops = omega (arith, is, inside) in
    let back : number - size + size_of (get_or ops p d) ≡ number = omega (arith, sized, room) in
    let next : suc p ≡ place = omega (arith, is) in
    ap (λ (rest : List Op). label_number (number - size) rest q) (drop-cons ops p d below)
    ∙ ap (λ (n : ℕ). cond (is_label q (get_or ops p d)) (Some (number - size)) (label_number n (drop (suc p) ops) q)) back
    ∙ ap (λ (n : ℕ). cond (is_label q (get_or ops p d)) (Some (number - size)) (label_number number (drop n ops) q)) next
    ∙ ap (λ (it : Option ℕ). cond (is_label q (get_or ops p d)) (Some (number - size)) it) (sym (known q))
