-- What follows of boundaries, and that they are the same of a trace in order.
use Rattle.std.proofs.Common.{◌≡◌, ℕ, ◌≤◌, true, eqb, leb, List, [], ◌∷◌, ◌++◌, length, refl, ap, ◌∙◌, subst, inl, inr, arith}
use Rattle.std.specs.Prelude.{IsTrue}
use Rattle.std.specs.Bool.{Decides}
use Rattle.std.proofs.lemmas.Bool.{or_cases, or_left, or_right, and_parts, and_from, eqb-true, eq-eqb, leb-true, le-leb}
use Rattle.off_chip.specs.declared.event.Event.{Event}
use Rattle.off_chip.specs.declared.event.Event.TheVariants.{Note}
use Rattle.off_chip.specs.declared.event.Mark.TheVariants.{Retire}
use Rattle.off_chip.specs.declared.event.Who.TheVariants.{Secure}
use Rattle.off_chip.specs.Histories.{History, no_event, ◌◂◌, in_order, history}
use Rattle.off_chip.specs.Boundaries.{is_retire, IsBoundary, start, entered, retirement, IsStep, is_boundary, is_step}
use Rattle.off_chip.proofs.HistoryLemmas.{history-push, in_order-history}

pub is_retire-event : (event : Event) → is_retire event ≡ true → event ≡ Note (Retire Secure)
is_retire-event (Note (Retire Secure)) retires = refl
is_retire-event event retires = cc

-- ---- the tests of a boundary tell it

boundary-of : (entry : ℕ) (older : History) → IsTrue (is_boundary entry older) → IsBoundary entry (in_order older)
boundary-of entry no_event passes = start refl
boundary-of entry (event ◂ older) passes =
    elim (or_cases (eqb (length (in_order (event ◂ older))) entry) (is_retire event) passes) [
      | inl long ↦ entered (eqb-true (length (in_order (event ◂ older))) entry long)
      | inr retires ↦ retirement (in_order older) (ap (λ (e : Event). in_order older ++ e ∷ []) (is_retire-event event retires))
    ]

long-boundary : (entry : ℕ) (older : History) → length (in_order older) ≡ entry → IsTrue (is_boundary entry older)
long-boundary entry no_event long = refl
long-boundary entry (event ◂ older) long = or_left (eqb (length (in_order (event ◂ older))) entry) (is_retire event) (eq-eqb (length (in_order (event ◂ older))) entry long)

pub length-history : (trace : List Event) → length (in_order (history trace)) ≡ length trace
length-history trace = ap (λ (t : List Event). length t) (in_order-history trace)

of-boundary : (entry : ℕ) (before : List Event) → IsBoundary entry before → IsTrue (is_boundary entry (history before))
of-boundary entry before (start same) = ap (λ (t : List Event). is_boundary entry (history t)) same
of-boundary entry before (entered long) = long-boundary entry (history before) (length-history before ∙ long)
of-boundary entry before (retirement earlier same) =
    ap (λ (t : List Event). is_boundary entry (history t)) same
    ∙ ap (λ (h : History). is_boundary entry h) (history-push earlier (Note (Retire Secure)))
    ∙ or_right (eqb (length (in_order (Note (Retire Secure) ◂ history earlier))) entry) true refl

pub is_boundary-Decides : (entry : ℕ) (trace : List Event) → Decides (is_boundary entry (history trace)) (IsBoundary entry trace)
is_boundary-Decides entry trace =
    (λ passes. subst (λ (t : List Event). IsBoundary entry t) (in_order-history trace) (boundary-of entry (history trace) passes), of-boundary entry trace)

pub is_step-Decides : (entry : ℕ) (trace : List Event) → Decides (is_step entry (history trace)) (IsStep entry trace)
is_step-Decides entry trace = (
  λ passes.
      let parts = and_parts (is_boundary entry (history trace)) (leb entry (length (in_order (history trace)))) passes in
      let long : entry ≤ length (in_order (history trace)) = leb-true entry (length (in_order (history trace))) parts.1 in
      record { boundary = (is_boundary-Decides entry trace).0 parts.0; entered = omega (arith, long, length-history trace) },
  λ step.
      let long : entry ≤ length (in_order (history trace)) = omega (arith, step.entered, length-history trace) in
      and_from (is_boundary entry (history trace)) (leb entry (length (in_order (history trace)))) ((is_boundary-Decides entry trace).1 step.boundary)
      (le-leb entry (length (in_order (history trace))) long),
)
