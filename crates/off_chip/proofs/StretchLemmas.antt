-- A suspension has one stretch.
use Rattle.std.proofs.Common.{◌≡◌, ℕ, ◌+◌, false, cond, List, [], ◌∷◌, ◌++◌, refl, sym, ap, ◌∙◌, arith}
use Rattle.std.specs.List.{list_any}
use Rattle.std.proofs.lemmas.Bool.{or_parts, both_ways}
use Rattle.std.proofs.lemmas.List.Sums.{sum_by-cons}
use Rattle.off_chip.specs.declared.event.Event.{Event}
use Rattle.off_chip.specs.declared.event.Event.TheVariants.{Note}
use Rattle.off_chip.specs.declared.event.Mark.TheVariants.{Suspend, Resume}
use Rattle.off_chip.specs.Boundaries.{is_suspend, suspensions, is_resume, IsStretch}

suspensions-cons : (event : Event) (trace : List Event) → suspensions (event ∷ trace) ≡ cond (is_suspend event) 1 0 + suspensions trace
suspensions-cons event trace = sum_by-cons (λ (e : Event). cond (is_suspend e) 1 0) event trace

-- two Suspend marks with as many before them are one
same-mark : (before other rest rest_other : List Event) → before ++ Note Suspend ∷ rest ≡ other ++ Note Suspend ∷ rest_other → suspensions before ≡ suspensions other → rest ≡ rest_other
same-mark [] [] rest rest_other same counted = cc
same-mark [] (b ∷ other) rest rest_other same counted =
    let e : b ≡ Note Suspend = cc in
    let one : suspensions (b ∷ other) ≡ 1 + suspensions other = suspensions-cons b other ∙ ap (λ (x : Event). cond (is_suspend x) 1 0 + suspensions other) e in
    let no_such : ⊥ = omega (arith, counted, one) in absurd no_such
same-mark (b ∷ before) [] rest rest_other same counted =
    let e : b ≡ Note Suspend = cc in
    let one : suspensions (b ∷ before) ≡ 1 + suspensions before = suspensions-cons b before ∙ ap (λ (x : Event). cond (is_suspend x) 1 0 + suspensions before) e in
    let no_such : ⊥ = omega (arith, counted, one) in absurd no_such
same-mark (b ∷ before) (c ∷ other) rest rest_other same counted =
    let head : b ≡ c = cc in
    let tail : before ++ Note Suspend ∷ rest ≡ other ++ Note Suspend ∷ rest_other = cc in
    let first = suspensions-cons b before in
    let second = suspensions-cons c other ∙ ap (λ (x : Event). cond (is_suspend x) 1 0 + suspensions other) (sym head) in
    same-mark before other rest rest_other tail (omega (arith, first, second, counted))

-- two stretches up to the first Resume mark are one
same-stretch : (stretch other rest rest_other : List Event) → stretch ++ Note Resume ∷ rest ≡ other ++ Note Resume ∷ rest_other
    → list_any is_resume stretch ≡ false → list_any is_resume other ≡ false → stretch ≡ other
same-stretch [] [] rest rest_other same none none_other = refl
same-stretch [] (b ∷ other) rest rest_other same none none_other =
    let e : b ≡ Note Resume = cc in
    absurd (both_ways (is_resume b) (or_parts (is_resume b) (list_any is_resume other) none_other).0 (ap (λ (x : Event). is_resume x) e))
same-stretch (b ∷ stretch) [] rest rest_other same none none_other =
    let e : b ≡ Note Resume = cc in
    absurd (both_ways (is_resume b) (or_parts (is_resume b) (list_any is_resume stretch) none).0 (ap (λ (x : Event). is_resume x) e))
same-stretch (b ∷ stretch) (c ∷ other) rest rest_other same none none_other =
    let head : b ≡ c = cc in
    let tail : stretch ++ Note Resume ∷ rest ≡ other ++ Note Resume ∷ rest_other = cc in
    ap (λ (x : Event). x ∷ stretch) head
    ∙ ap (λ (xs : List Event). c ∷ xs) (same-stretch stretch other rest rest_other tail (or_parts (is_resume b) (list_any is_resume stretch) none).1 (or_parts (is_resume c) (list_any is_resume other) none_other).1)

pub one-stretch : (trace : List Event) (number : ℕ) (stretch other : List Event) → IsStretch trace number stretch → IsStretch trace number other → stretch ≡ other
one-stretch trace number stretch other first second =
    same-stretch stretch other first.rest second.rest
    (same-mark first.before second.before (stretch ++ Note Resume ∷ first.rest) (other ++ Note Resume ∷ second.rest) (sym first.parts ∙ second.parts) (first.counted ∙ sym second.counted))
    first.not_over second.not_over
