-- Operations that are part of a list stand at their places.
use Rattle.std.proofs.Common.{◌≡◌, ℕ, suc, ◌+◌, List, [], ◌∷◌, ◌++◌, length, Some, arith, refl, sym, ◌∙◌, ap, append_assoc}
use Rattle.std.proofs.lemmas.List.{length-append}
use Rattle.std.specs.List.{slice_get}
use Rattle.ir_code.specs.declared.ops.Op.{Op}
use Rattle.lowering.proofs.Relation.{World, Spans}

-- the element after a front
pub after-front : {A : Type 0} → (front : List A) (x : A) (rest : List A) → slice_get (front ++ x ∷ rest) (length front) ≡ Some x
after-front [] x rest = refl
after-front (y ∷ front) x rest = after-front front x rest

-- from a front on
pub front-on : {A : Type 0} → (front rest : List A) (i : ℕ) → slice_get (front ++ rest) (length front + i) ≡ slice_get rest i
front-on [] rest i = ap (λ (j : ℕ). slice_get rest j) (omega arith)
front-on (y ∷ front) rest i =
    let e : length (y ∷ front) + i ≡ suc (length front + i) = omega arith in
    ap (λ (j : ℕ). slice_get (y ∷ (front ++ rest)) j) e ∙ front-on front rest i

-- a part of the operations stands at the place after those before it
pub stands-after : (w : World) (front ops rest : List Op) (p q : ℕ) → w.ir.ops ≡ front ++ (ops ++ rest) → p ≡ length front → q ≡ p + length ops → Spans w p ops q
stands-after w front [] rest p q e place end = omega (arith, end)
stands-after w front (o ∷ ops) rest p q e place end = (
  ap (λ (xs : List Op). slice_get xs p) e ∙ ap (λ (i : ℕ). slice_get (front ++ (o ∷ ops ++ rest)) i) place ∙ after-front front o (ops ++ rest),
  stands-after w (front ++ o ∷ []) ops rest (p + 1) q (e ∙ sym (append_assoc front (o ∷ []) (ops ++ rest))) (omega (arith, place, length-append front (o ∷ []))) (omega (arith, end)),
)
