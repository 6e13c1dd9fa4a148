-- What counts of events come to, event by event.
use Rattle.std.proofs.Common.{◌≡◌, ℕ, zero, suc, ◌+◌, ◌*◌, ◌≤◌, Bool, true, false, cond, ◌&&◌, ◌||◌, leb, eqb, [], ◌∷◌, length, Option, refl, ap, ◌∙◌, inl, inr, arith}
use Rattle.std.proofs.lemmas.Bool.{cases_lt, le-leb, le-ltb, lt-ltb, ne_eqb}
use Rattle.std.proofs.lemmas.List.{length-append}
use Rattle.std.proofs.lemmas.List.Sums.{sum_by-append}
use Rattle.regions.specs.Modes.{SecureInstruction}
use Rattle.off_chip.specs.declared.Event.{Event}
use Rattle.off_chip.specs.Histories.{History, no_event, ◌◂◌, in_order, Each}
use Rattle.off_chip.specs.Boundaries.{is_retire, is_step, retired}
use Rattle.paced_trace.specs.EventKinds.{Kind, after_entering, in_step}
use Rattle.paced_trace.specs.PacedSteps.{asked_among}

pub length-more : (event : Event) (older : History) → length (in_order (event ◂ older)) ≡ length (in_order older) + 1
length-more event older = length-append (in_order older) (event ∷ [])

-- before the end of entering nothing is counted
pub after-none : (kind : Kind) (entry : ℕ) (older : History) → length (in_order older) ≤ entry → after_entering kind entry older ≡ 0
after-none kind entry no_event short = refl
after-none kind entry (event ◂ older) short =
    ap (λ (b : Bool). cond b 0 (after_entering kind entry older + kind event older))
    (lt-ltb (length (in_order older)) entry (omega (arith, length-more event older, short)))

-- and after it each event
pub after-more : (kind : Kind) (entry : ℕ) (event : Event) (older : History) → entry ≤ length (in_order older)
    → after_entering kind entry (event ◂ older) ≡ after_entering kind entry older + kind event older
after-more kind entry event older entered =
    ap (λ (b : Bool). cond b 0 (after_entering kind entry older + kind event older)) (le-ltb (length (in_order older)) entry entered)

-- one instruction more was done, or none
pub retired-more : (event : Event) (older : History) → retired (in_order (event ◂ older)) ≡ retired (in_order older) + cond (is_retire event) 1 0
retired-more event older = omega (arith, sum_by-append (λ (e : Event). cond (is_retire e) 1 0) (in_order older) (event ∷ []))

-- ---- the step under way

and-true : (b : Bool) → (b && true) ≡ b
and-true true = refl
and-true false = refl

-- after entering, a retirement ends a step, and nothing else does
step-entered : (entry : ℕ) (event : Event) (older : History) → entry ≤ length (in_order older) → is_step entry (event ◂ older) ≡ is_retire event
step-entered entry event older entered =
    let e : eqb (length (in_order (event ◂ older))) entry ≡ false =
    ne_eqb (length (in_order (event ◂ older))) entry (λ same. let no_such : ⊥ = omega (arith, same, length-more event older, entered) in no_such) in
    let l : leb entry (length (in_order (event ◂ older))) ≡ true = le-leb entry (length (in_order (event ◂ older))) (omega (arith, length-more event older, entered)) in
    ap (λ (b : Bool). (b || is_retire event) && leb entry (length (in_order (event ◂ older)))) e ∙ ap (λ (b : Bool). is_retire event && b) l ∙ and-true (is_retire event)

pub step-more : (kind : Kind) (entry : ℕ) (event : Event) (older : History) → entry ≤ length (in_order older) → is_retire event ≡ false
    → in_step kind entry (event ◂ older) ≡ in_step kind entry older + kind event older
step-more kind entry event older entered goes =
    ap (λ (b : Bool). cond b 0 (in_step kind entry older + kind event older)) (step-entered entry event older entered ∙ goes)

-- at a boundary it has no event
pub step-none : (kind : Kind) (entry : ℕ) (older : History) → is_step entry older ≡ true → in_step kind entry older ≡ 0
step-none kind entry no_event at = refl
step-none kind entry (event ◂ older) at = ap (λ (b : Bool). cond b 0 (in_step kind entry older + kind event older)) at

-- ---- sums of what the steps may have

abbrev pub sum_below : (ℕ → ℕ) → ℕ → ℕ
sum_below most zero = 0
sum_below most (suc k) = sum_below most k + most k

-- a step that is done has at most so many events of a kind
abbrev pub HasAtMost : Kind → ℕ → (ℕ → ℕ) → Event → History → Type 0
HasAtMost kind entry most event older =
    is_retire event ≡ true → entry ≤ length (in_order older) → in_step kind entry older + kind event older ≤ most (retired (in_order older))

-- and so there are at most as many as all steps that are done may have, and those of the step under way
pub at-most : (kind : Kind) (entry : ℕ) (most : ℕ → ℕ) (older : History) → Each (HasAtMost kind entry most) older
    → after_entering kind entry older ≤ sum_below most (retired (in_order older)) + in_step kind entry older
at-most kind entry most no_event each = omega arith
at-most kind entry most (event ◂ older) each =
    elim (cases_lt (length (in_order older)) entry) [
      | inl below ↦ omega (arith, after-none kind entry (event ◂ older) (omega (arith, below, length-more event older)))
      | inr entered ↦ by (at-most kind entry most older each.0) entered (is_retire event) refl
    ]
  where
    by : after_entering kind entry older ≤ sum_below most (retired (in_order older)) + in_step kind entry older → entry ≤ length (in_order older)
        → (b : Bool) → is_retire event ≡ b
        → after_entering kind entry (event ◂ older) ≤ sum_below most (retired (in_order (event ◂ older))) + in_step kind entry (event ◂ older)
    by before entered true done =
        let one : retired (in_order (event ◂ older)) ≡ suc (retired (in_order older)) = omega (arith, retired-more event older, ap {B = ℕ} (λ (b : Bool). cond b 1 0) done) in
        let sum : sum_below most (retired (in_order (event ◂ older))) ≡ sum_below most (retired (in_order older)) + most (retired (in_order older)) =
        ap (λ (k : ℕ). sum_below most k) one ∙ refl in
        omega (arith, before, sum, each.1 done entered, after-more kind entry event older entered)
    by before entered false goes =
        let same : retired (in_order (event ◂ older)) ≡ retired (in_order older) = omega (arith, retired-more event older, ap {B = ℕ} (λ (b : Bool). cond b 1 0) goes) in
        let sum : sum_below most (retired (in_order (event ◂ older))) ≡ sum_below most (retired (in_order older)) = ap (λ (k : ℕ). sum_below most k) same in
        omega (arith, before, sum, step-more kind entry event older entered goes, after-more kind entry event older entered)

-- as many each time
pub sum-same : (most k : ℕ) → sum_below (λ j. most) k ≡ k * most
sum-same most zero = omega arith
sum-same most (suc k) = let e : sum_below (λ j. most) k ≡ k * most = sum-same most k in omega (arith, e)

-- as many in each step of such an instruction
pub sum-asked : (test : Option SecureInstruction → Bool) (asked : ℕ → Option SecureInstruction) (most k : ℕ)
    → sum_below (λ j. cond (test (asked j)) most 0) k ≡ most * asked_among test asked k
sum-asked test asked most zero = omega arith
sum-asked test asked most (suc k) = by (sum-asked test asked most k) (test (asked k)) refl
  where
    by : sum_below (λ j. cond (test (asked j)) most 0) k ≡ most * asked_among test asked k → (b : Bool) → test (asked k) ≡ b
        → sum_below (λ j. cond (test (asked j)) most 0) (suc k) ≡ most * asked_among test asked (suc k)
    by before true is =
        let left : cond (test (asked k)) most 0 ≡ most = ap (λ (b : Bool). cond b most 0) is in
        let right : most * asked_among test asked (suc k) ≡ most * (asked_among test asked k + 1) = ap (λ (b : Bool). most * (asked_among test asked k + cond b 1 0)) is in
        let more : most * (asked_among test asked k + 1) ≡ most * asked_among test asked k + most = omega arith in
        omega (arith, before, left, right, more)
    by before false is =
        let left : cond (test (asked k)) most 0 ≡ 0 = ap (λ (b : Bool). cond b most 0) is in
        let right : most * asked_among test asked (suc k) ≡ most * (asked_among test asked k + 0) = ap (λ (b : Bool). most * (asked_among test asked k + cond b 1 0)) is in
        let more : most * (asked_among test asked k + 0) ≡ most * asked_among test asked k = omega arith in
        omega (arith, before, left, right, more)
