-- Tests of all of a list, in front and after.
use Rattle.std.proofs.Common.{◌≡◌, Bool, true, false, ◌&&◌, List, [], ◌∷◌, ◌++◌, refl, ap, ◌∙◌, arith}
use Rattle.ir_code.specs.Lawful.{all_hold}

pub first-of : (s t : Bool) → (s && t) ≡ true → s ≡ true
first-of true t e = refl
first-of false t e = absurd (grind (arith, e))

pub second-of : (s t : Bool) → (s && t) ≡ true → t ≡ true
second-of true t e = e
second-of false t e = absurd (grind (arith, e))

and-of : (s t : Bool) → s ≡ true → t ≡ true → (s && t) ≡ true
and-of s t e f = ap (λ (x : Bool). x && t) e ∙ f

pub hold-front : {A : Type 0} → (test : A → Bool) (one other : List A) → all_hold test (one ++ other) ≡ true → all_hold test one ≡ true
hold-front test [] other h = refl
hold-front test (x ∷ one) other h = and-of (test x) (all_hold test one) (first-of (test x) (all_hold test (one ++ other)) h)
    (hold-front test one other (second-of (test x) (all_hold test (one ++ other)) h))

pub hold-back : {A : Type 0} → (test : A → Bool) (one other : List A) → all_hold test (one ++ other) ≡ true → all_hold test other ≡ true
hold-back test [] other h = h
hold-back test (x ∷ one) other h = hold-back test one other (second-of (test x) (all_hold test (one ++ other)) h)
