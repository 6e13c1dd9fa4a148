-- What follows of the steps of a trace.
use Rattle.std.proofs.Common.{◌≡◌, ℕ, ◌+◌, ◌≤◌, Bool, true, false, cond, ◌&&◌, ◌||◌, eqb, leb, List, [], ◌∷◌, ◌++◌, length, take, drop, refl, sym, ap, ◌∙◌, arith, length-append}
use Rattle.std.specs.List.{slice_split}
use Rattle.std.proofs.lemmas.Bool.{ne_eqb, eq-eqb, le-leb}
use Rattle.std.proofs.lemmas.List.{take-append-drop, length-take-le, drop-append-le}
use Rattle.std.proofs.lemmas.List.Splits.{length-slice_split}
use Rattle.off_chip.specs.declared.event.Event.{Event}
use Rattle.off_chip.specs.declared.event.Event.TheVariants.{Note}
use Rattle.off_chip.specs.declared.event.Mark.TheVariants.{Retire}
use Rattle.off_chip.specs.declared.event.Who.TheVariants.{Secure}
use Rattle.off_chip.specs.Histories.{History, no_event, ◌◂◌, followed, history, in_order, since}
use Rattle.off_chip.specs.Boundaries.{is_retire, retired, is_step, steps, since_step}
use Rattle.off_chip.proofs.HistoryLemmas.{history-append}
use Rattle.off_chip.proofs.SplitLemmas.{split-append, last-part}
use Rattle.off_chip.proofs.BoundaryLemmas.{length-history}

and-true : (b : Bool) → (b && true) ≡ b
and-true true = refl
and-true false = refl

-- after entering, a retirement ends a step, and nothing else does
step-entered : (entry : ℕ) (event : Event) (older : History) → entry ≤ length (in_order older) → is_step entry (event ◂ older) ≡ is_retire event
step-entered entry event older entered =
    let more : length (in_order (event ◂ older)) ≡ length (in_order older) + 1 = length-append (in_order older) (event ∷ []) in
    let e : eqb (length (in_order (event ◂ older))) entry ≡ false =
    ne_eqb (length (in_order (event ◂ older))) entry (λ same. let no_such : ⊥ = omega (arith, same, more, entered) in no_such) in
    let l : leb entry (length (in_order (event ◂ older))) ≡ true = le-leb entry (length (in_order (event ◂ older))) (omega (arith, more, entered)) in
    ap (λ (b : Bool). (b || is_retire event) && leb entry (length (in_order (event ◂ older)))) e ∙ ap (λ (b : Bool). is_retire event && b) l ∙ and-true (is_retire event)

since_step-entered : (entry : ℕ) (older : History) → length (in_order older) ≡ entry → since_step entry older ≡ []
since_step-entered entry no_event long = refl
since_step-entered entry (event ◂ older) long =
    ap (λ (b : Bool). cond ((b || is_retire event) && leb entry (length (in_order (event ◂ older)))) [] (since_step entry older ++ event ∷ []))
    (eq-eqb (length (in_order (event ◂ older))) entry long)
    ∙ ap (λ (b : Bool). cond b [] (since_step entry older ++ event ∷ [])) (le-leb entry (length (in_order (event ◂ older))) (omega (arith, long)))

-- the events of the step under way, where entering is over
since_step-followed : (entry : ℕ) (older : History) (rest : List Event) → entry ≤ length (in_order older)
    → (shorter : List Event) → since_step entry older ≡ since is_retire (history shorter) → since_step entry (followed older rest) ≡ since is_retire (followed (history shorter) rest)
since_step-followed entry older [] entered shorter same = same
since_step-followed entry older (event ∷ rest) entered shorter same =
    let more : length (in_order (event ◂ older)) ≡ length (in_order older) + 1 = length-append (in_order older) (event ∷ []) in
    let here : since_step entry (event ◂ older) ≡ since is_retire (event ◂ history shorter) =
    ap (λ (b : Bool). cond b [] (since_step entry older ++ event ∷ [])) (step-entered entry event older entered)
    ∙ ap (λ (xs : List Event). cond (is_retire event) [] (xs ++ event ∷ [])) same in
    let pushed : history (shorter ++ event ∷ []) ≡ event ◂ history shorter = history-append (shorter ++ event ∷ []) shorter (event ∷ []) refl in
    since_step-followed entry (event ◂ older) rest (omega (arith, more, entered)) (shorter ++ event ∷ []) (here ∙ ap (λ (h : History). since is_retire h) (sym pushed))
    ∙ ap (λ (h : History). since is_retire (followed h rest)) pushed

-- the step that is under way is the last one
pub since_step-in_order : (entry : ℕ) (trace : List Event) (earlier : List (List Event)) (step : List Event) → entry ≤ length trace
    → steps entry trace ≡ earlier ++ step ∷ [] → since_step entry (history trace) ≡ step
since_step-in_order entry trace earlier step entered same =
    let long : length (in_order (history (take entry trace))) ≡ entry = length-history (take entry trace) ∙ length-take-le entry trace entered in
    ap (λ (h : History). since_step entry h) (history-append trace (take entry trace) (drop entry trace) (sym (take-append-drop entry trace)))
    ∙ since_step-followed entry (history (take entry trace)) (drop entry trace) (omega (arith, long)) [] (since_step-entered entry (history (take entry trace)) long)
    ∙ last-part is_retire (drop entry trace) earlier step same

-- a retirement after entering ends a step
pub steps-cut : (entry : ℕ) (before rest : List Event) → entry ≤ length before
    → steps entry (before ++ Note (Retire Secure) ∷ rest) ≡ steps entry before ++ slice_split is_retire rest
steps-cut entry before rest entered =
    ap (λ (xs : List Event). slice_split is_retire xs) (drop-append-le entry before (Note (Retire Secure) ∷ rest) entered)
    ∙ split-append is_retire (drop entry before) (Note (Retire Secure)) rest refl

-- there is one step more than instructions that were done after entering
pub steps-count : (entry : ℕ) (trace : List Event) → length (steps entry trace) ≡ retired (drop entry trace) + 1
steps-count entry trace = length-slice_split is_retire (drop entry trace)
