-- Where the code of each operation stands.
use Rattle.std.proofs.Common.{◌≡◌, ℕ, zero, suc, ◌+◌, ◌*◌, ◌≤◌, true, false, List, [], ◌∷◌, ◌++◌, length, Some, None, arith, refl, sym, ◌∙◌, ap, subst, append_assoc}
use Rattle.std.proofs.lemmas.List.{length-append}
use Rattle.std.specs.List.{slice_get}
use Rattle.aegis_num.specs.declared.UnaryOp.{UnaryOp}
use Rattle.aegis_num.specs.declared.UnaryOp.TheVariants.{Neg, Inv, Not}
use Rattle.aegis_num.specs.declared.BinaryOp.{BinaryOp}
use Rattle.aegis_num.specs.declared.BinaryOp.TheVariants as on
use Rattle.orbis_word.specs.declared.Instr.{Instr}
use Rattle.ir_code.specs.declared.Op.{Op}
use Rattle.ir_code.specs.declared.Op.TheVariants as op
use Rattle.codegen.specs.OpInstructions.{Sites, instructions_of, on_one, on_two}
use Rattle.codegen.specs.ImageCode.{size_of, offset_of, code_size, code_from}
use Rattle.codegen.proofs.Comes.{World, HasCode, StandAll}

-- ---- sizes

one-size : (o : UnaryOp) (xs ys : List Instr) → length xs ≡ length ys → length (on_one o xs) ≡ length (on_one o ys)
one-size Neg xs ys e = ap suc e
one-size Inv xs ys e = ap (λ (n : ℕ). suc (suc n)) e
one-size Not xs ys e = ap (λ (n : ℕ). suc (suc (suc (suc n)))) e

two-size : (o : BinaryOp) (xs ys : List Instr) → length xs ≡ length ys → length (on_two o xs) ≡ length (on_two o ys)
two-size on.RemS xs ys e = ap (λ (n : ℕ). suc (suc (suc n))) e
two-size on.RemU xs ys e = ap (λ (n : ℕ). suc (suc (suc n))) e
two-size on.Add xs ys e = ap suc e
two-size on.Sub xs ys e = ap suc e
two-size on.Mul xs ys e = ap suc e
two-size on.DivS xs ys e = ap suc e
two-size on.DivU xs ys e = ap suc e
two-size on.And xs ys e = ap suc e
two-size on.Or xs ys e = ap suc e
two-size on.Xor xs ys e = ap suc e
two-size on.Shl xs ys e = ap suc e
two-size on.ShrS xs ys e = ap suc e
two-size on.ShrU xs ys e = ap suc e
two-size on.Eq xs ys e = ap (λ (n : ℕ). suc (suc (suc (suc n)))) e
two-size on.Ne xs ys e = ap (λ (n : ℕ). suc (suc (suc (suc n)))) e
two-size on.LtS xs ys e = ap (λ (n : ℕ). suc (suc (suc (suc n)))) e
two-size on.LtU xs ys e = ap (λ (n : ℕ). suc (suc (suc (suc n)))) e
two-size on.LeS xs ys e = ap (λ (n : ℕ). suc (suc (suc (suc n)))) e
two-size on.LeU xs ys e = ap (λ (n : ℕ). suc (suc (suc (suc n)))) e
two-size on.GtS xs ys e = ap (λ (n : ℕ). suc (suc (suc (suc n)))) e
two-size on.GtU xs ys e = ap (λ (n : ℕ). suc (suc (suc (suc n)))) e
two-size on.GeS xs ys e = ap (λ (n : ℕ). suc (suc (suc (suc n)))) e
two-size on.GeU xs ys e = ap (λ (n : ℕ). suc (suc (suc (suc n)))) e

-- an operation has as many instructions wherever things are
pub size-is : (at : Sites) (n : ℕ) (o : Op) → length (instructions_of at n o) ≡ size_of o
size-is at n (op.Const to value) = refl
size-is at n (op.Copy to from) = refl
size-is at n (op.Unary o to a) = ap suc (one-size o _ _ refl)
size-is at n (op.Binary o to a b) = ap (λ (k : ℕ). suc (suc k)) (two-size o _ _ refl)
size-is at n (op.Test a length token) = refl
size-is at n (op.NonZero a token) = refl
size-is at n (op.Load to array index) = refl
size-is at n (op.Store array index from) = refl
size-is at n (op.Label l) = refl
size-is at n (op.Jump l) = refl
size-is at n (op.JumpZero a l) = refl
size-is at n (op.Arg slot from) = refl
size-is at n (op.Param to slot) = refl
size-is at n (op.Call l) = refl
size-is at n (op.SaveLink cell) = refl
size-is at n (op.Return cell) = refl
size-is at n (op.SetResult from) = refl
size-is at n (op.Result to) = refl
size-is at n (op.Input to) = refl
size-is at n (op.Release a) = refl
size-is at n op.Check = refl
size-is at n op.Suspend = refl
size-is at n (op.SetMode true) = refl
size-is at n (op.SetMode false) = refl
size-is at n op.Exit = refl

-- ---- offsets

none-there : (o : Op) → None ≡ Some o → ⊥
none-there o e = absurd (grind (arith, e))

same-op : (one other : Op) → Some one ≡ Some other → one ≡ other
same-op one other e = cc

offset-suc : (p : Op) (ops : List Op) (place : ℕ) → offset_of (p ∷ ops) (suc place + 1) ≡ size_of p + offset_of ops (place + 1)
offset-suc p ops place = let e : suc place + 1 ≡ suc (place + 1) = omega arith in ap (λ (k : ℕ). offset_of (p ∷ ops) k) e

pub offset-next : (ops : List Op) (place : ℕ) (o : Op) → slice_get ops place ≡ Some o → offset_of ops (place + 1) ≡ offset_of ops place + size_of o
offset-next [] place o there = absurd (none-there o there)
offset-next (p ∷ []) zero o there = let e : size_of p ≡ size_of o = ap size_of (same-op p o there) in omega (arith, e)
offset-next (p ∷ q ∷ ops) zero o there = let e : size_of p ≡ size_of o = ap size_of (same-op p o there) in omega (arith, e)
offset-next (p ∷ ops) (suc place) o there = let e : offset_of ops (place + 1) ≡ offset_of ops place + size_of o = offset-next ops place o there in omega (arith, e, offset-suc p ops place)

pub offset-le : (ops : List Op) (place : ℕ) → offset_of ops place ≤ code_size ops
offset-le [] place = omega arith
offset-le (o ∷ ops) zero = omega arith
offset-le (o ∷ ops) (suc place) = let e : offset_of ops place ≤ code_size ops = offset-le ops place in omega (arith, e)

pub length-code : (at : Sites) (n : ℕ) (ops : List Op) → length (code_from at n ops) ≡ code_size ops
length-code at n [] = refl
length-code at n (o ∷ ops) =
    let e : length (code_from at (n + size_of o) ops) ≡ code_size ops = length-code at (n + size_of o) ops in
    let f : length (instructions_of at n o) ≡ size_of o = size-is at n o in
    length-append (instructions_of at n o) (code_from at (n + size_of o) ops) ∙ omega (arith, e, f)

-- ---- parts of code

module _ (w : World) where
  pub front-stands : (xs ys : List Instr) (pc to : ℕ) → HasCode w pc (xs ++ ys) to → HasCode w pc xs (pc + 4 * length xs)
  front-stands xs ys pc to code = record { all = go xs pc code.all }
    where
      go : (xs : List Instr) (pc : ℕ) → StandAll w pc (xs ++ ys) to → StandAll w pc xs (pc + 4 * length xs)
      go [] pc all = omega arith
      go (x ∷ xs) pc all = (all.0, (let e : pc + 4 + 4 * length xs ≡ pc + 4 * length (x ∷ xs) = omega arith in subst (λ (n : ℕ). StandAll w (pc + 4) xs n) e (go xs (pc + 4) all.1)))

  pub rest-of : (xs ys : List Instr) (pc to : ℕ) → HasCode w pc (xs ++ ys) to → HasCode w (pc + 4 * length xs) ys to
  rest-of xs ys pc to code = record { all = go xs pc code.all }
    where
      go : (xs : List Instr) (pc : ℕ) → StandAll w pc (xs ++ ys) to → StandAll w (pc + 4 * length xs) ys to
      go [] pc all = subst (λ (n : ℕ). StandAll w n ys to) (omega arith) all
      go (x ∷ xs) pc all = subst (λ (n : ℕ). StandAll w n ys to) (omega arith) (go xs (pc + 4) all.1)

  -- the code of each operation stands at its place
  pub op-stands : (at : Sites) (ops : List Op) (rest : List Instr) (n pc to place : ℕ) (o : Op) → HasCode w pc (code_from at n ops ++ rest) to → slice_get ops place ≡ Some o →
      HasCode w (pc + 4 * offset_of ops place) (instructions_of at (n + offset_of ops place) o) (pc + 4 * offset_of ops (place + 1))
  op-stands at [] rest n pc to place o code there = absurd (none-there o there)
  op-stands at (p ∷ ops) rest n pc to zero o code there =
      let whole : HasCode w pc (instructions_of at n p ++ (code_from at (n + size_of p) ops ++ rest)) to =
      subst (λ (is : List Instr). HasCode w pc is to) (append_assoc (instructions_of at n p) (code_from at (n + size_of p) ops) rest) code in
      let front : HasCode w pc (instructions_of at n p) (pc + 4 * length (instructions_of at n p)) = front-stands (instructions_of at n p) (code_from at (n + size_of p) ops ++ rest) pc to whole in
      let end : pc + 4 * length (instructions_of at n p) ≡ pc + 4 * offset_of (p ∷ ops) (zero + 1) =
      ap (λ (k : ℕ). pc + 4 * k) (size-is at n p ∙ sym (offset-next (p ∷ ops) zero p refl ∙ omega arith)) in
      let begin : pc ≡ pc + 4 * offset_of (p ∷ ops) zero = omega arith in
      let number : n ≡ n + offset_of (p ∷ ops) zero = omega arith in
      subst (λ (q : Op). HasCode w (pc + 4 * offset_of (p ∷ ops) zero) (instructions_of at (n + offset_of (p ∷ ops) zero) q) (pc + 4 * offset_of (p ∷ ops) (zero + 1))) (same-op p o there)
      (subst (λ (k : ℕ). HasCode w (pc + 4 * offset_of (p ∷ ops) zero) (instructions_of at k p) (pc + 4 * offset_of (p ∷ ops) (zero + 1))) number
      (subst (λ (k : ℕ). HasCode w k (instructions_of at n p) (pc + 4 * offset_of (p ∷ ops) (zero + 1))) begin
      (subst (λ (k : ℕ). HasCode w pc (instructions_of at n p) k) end front)))
  op-stands at (p ∷ ops) rest n pc to (suc place) o code there =
      let whole : HasCode w pc (instructions_of at n p ++ (code_from at (n + size_of p) ops ++ rest)) to =
      subst (λ (is : List Instr). HasCode w pc is to) (append_assoc (instructions_of at n p) (code_from at (n + size_of p) ops) rest) code in
      let later : HasCode w (pc + 4 * length (instructions_of at n p)) (code_from at (n + size_of p) ops ++ rest) to = rest-of (instructions_of at n p) (code_from at (n + size_of p) ops ++ rest) pc to whole in
      let it = op-stands at ops rest (n + size_of p) (pc + 4 * length (instructions_of at n p)) to place o later there in
      let size : length (instructions_of at n p) ≡ size_of p = size-is at n p in
      let begin : pc + 4 * length (instructions_of at n p) + 4 * offset_of ops place ≡ pc + 4 * offset_of (p ∷ ops) (suc place) = omega (arith, size) in
      let end : pc + 4 * length (instructions_of at n p) + 4 * offset_of ops (place + 1) ≡ pc + 4 * offset_of (p ∷ ops) (suc place + 1) = omega (arith, size, offset-suc p ops place) in
      let number : n + size_of p + offset_of ops place ≡ n + offset_of (p ∷ ops) (suc place) = omega arith in
      subst (λ (k : ℕ). HasCode w (pc + 4 * offset_of (p ∷ ops) (suc place)) (instructions_of at k o) (pc + 4 * offset_of (p ∷ ops) (suc place + 1))) number
      (subst (λ (k : ℕ). HasCode w k (instructions_of at (n + size_of p + offset_of ops place) o) (pc + 4 * offset_of (p ∷ ops) (suc place + 1))) begin
      (subst (λ (k : ℕ). HasCode w (pc + 4 * length (instructions_of at n p) + 4 * offset_of ops place) (instructions_of at (n + size_of p + offset_of ops place) o) k) end it))
