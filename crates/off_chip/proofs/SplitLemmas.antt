-- What follows where a trace is cut at each event that passes a test: the last part is what stands after the latest such event.
use Rattle.std.proofs.Common.{◌≡◌, Bool, true, false, cond, List, [], ◌∷◌, ◌++◌, refl, sym, ap, ◌∙◌, inl, inr, ◌⊎◌}
use Rattle.std.specs.List.{slice_split, onto_first, list_any}
use Rattle.std.proofs.lemmas.Bool.{or_parts, or_from}
use Rattle.std.proofs.lemmas.List.{append_assoc}
use Rattle.std.proofs.lemmas.List.Folds.{list_any-append}
use Rattle.std.proofs.lemmas.List.Splits.{slice_split-cons_yes}
use Rattle.off_chip.specs.declared.event.Event.{Event}
use Rattle.off_chip.specs.Histories.{History, no_event, ◌◂◌, in_order, history, since, until}
use Rattle.off_chip.proofs.HistoryLemmas.{in_order-history}

-- ---- parts of a trace

some-part : (b : Bool) (event : Event) (parts : List (List Event)) → cond b ([] ∷ parts) (onto_first event parts) ≡ [] → ⊥
some-part true event parts same = cc
some-part false event [] same = cc
some-part false event (part ∷ parts) same = cc

pub split-some : (p : Event → Bool) (trace : List Event) → slice_split p trace ≡ [] → ⊥
split-some p [] same = cc
split-some p (event ∷ rest) same = some-part (p event) event (slice_split p rest) same

split-more : (b : Bool) (event : Event) (parts more : List (List Event)) → (parts ≡ [] → ⊥)
    → cond b ([] ∷ (parts ++ more)) (onto_first event (parts ++ more)) ≡ cond b ([] ∷ parts) (onto_first event parts) ++ more
split-more b event [] more some = absurd (some refl)
split-more true event (part ∷ parts) more some = refl
split-more false event (part ∷ parts) more some = refl

-- the parts before an event that passes, and those after it
pub split-append : (p : Event → Bool) (trace : List Event) (event : Event) (rest : List Event) → p event ≡ true
    → slice_split p (trace ++ event ∷ rest) ≡ slice_split p trace ++ slice_split p rest
split-append p [] event rest passes = slice_split-cons_yes p event rest passes
split-append p (first ∷ trace) event rest passes =
    ap (λ (parts : List (List Event)). cond (p first) ([] ∷ parts) (onto_first first parts)) (split-append p trace event rest passes)
    ∙ split-more (p first) first (slice_split p trace) (slice_split p rest) (split-some p trace)

-- one part, where no event passes
pub split-one : (p : Event → Bool) (trace : List Event) → list_any p trace ≡ false → slice_split p trace ≡ trace ∷ []
split-one p [] none = refl
split-one p (event ∷ rest) none =
    let parts : (p event ≡ false) × (list_any p rest ≡ false) = or_parts (p event) (list_any p rest) none in
    ap (λ (b : Bool). cond b ([] ∷ slice_split p rest) (onto_first event (slice_split p rest))) parts.0
    ∙ ap (λ (xs : List (List Event)). onto_first event xs) (split-one p rest parts.1)

-- ---- the events since the latest one that passes

any-push : (p : Event → Bool) (trace : List Event) (event : Event) → list_any p trace ≡ false → p event ≡ false → list_any p (trace ++ event ∷ []) ≡ false
any-push p trace event none fails =
    list_any-append p trace (event ∷ []) ∙ or_from (list_any p trace) (list_any p (event ∷ [])) none (or_from (p event) false fails refl)

since-push : (p : Event → Bool) (event : Event) (trace : List Event) → list_any p trace ≡ false → (b : Bool) → p event ≡ b → list_any p (cond b [] (trace ++ event ∷ [])) ≡ false
since-push p event trace none true same = refl
since-push p event trace none false same = any-push p trace event none same

pub since-none : (p : Event → Bool) (older : History) → list_any p (since p older) ≡ false
since-none p no_event = refl
since-none p (event ◂ older) = since-push p event (since p older) (since-none p older) (p event) refl

-- no event passes, or the latest one that passes stands between the two parts
pub record LatestAt (p : Event → Bool) (older : History) : Type 0 where
  pub event : Event
  pub passes : p event ≡ true
  pub parts : in_order older ≡ in_order (until p older) ++ event ∷ since p older

pub since-until : (p : Event → Bool) (older : History) → ((in_order older ≡ since p older) × (until p older ≡ no_event)) ⊎ LatestAt p older
since-until p no_event = inl (refl, refl)
since-until p (event ◂ older) = by (p event) refl (since-until p older)
  where
    by : (b : Bool) → p event ≡ b → ((in_order older ≡ since p older) × (until p older ≡ no_event)) ⊎ LatestAt p older
        → ((in_order (event ◂ older) ≡ since p (event ◂ older)) × (until p (event ◂ older) ≡ no_event)) ⊎ LatestAt p (event ◂ older)
    by true passes before = inr (record {
      event = event;
      passes = passes;
      parts = ap (λ (b : Bool). in_order (cond b older (until p older)) ++ event ∷ cond b [] (since p older ++ event ∷ [])) (sym passes);
    })
    by false fails (inl none) = inl (
      ap (λ (xs : List Event). xs ++ event ∷ []) none.0 ∙ ap (λ (b : Bool). cond b [] (since p older ++ event ∷ [])) (sym fails),
      ap (λ (b : Bool). cond b older (until p older)) fails ∙ none.1,
    )
    by false fails (inr at) = inr (record {
      event = at.event;
      passes = at.passes;
      parts = ap (λ (xs : List Event). xs ++ event ∷ []) at.parts
          ∙ append_assoc (in_order (until p older)) (at.event ∷ since p older) (event ∷ [])
          ∙ ap (λ (b : Bool). in_order (cond b older (until p older)) ++ at.event ∷ cond b [] (since p older ++ event ∷ [])) (sym fails);
    })

-- the last part is the only one, or it stands after those before the latest event that passes
pub split-open : (p : Event → Bool) (trace : List Event)
    → ((slice_split p trace ≡ since p (history trace) ∷ []) × (until p (history trace) ≡ no_event))
    ⊎ (slice_split p trace ≡ slice_split p (in_order (until p (history trace))) ++ since p (history trace) ∷ [])
split-open p trace =
    elim (since-until p (history trace)) [
      | inl none ↦ inl
          (ap (λ (t : List Event). slice_split p t) (sym (in_order-history trace) ∙ none.0) ∙ split-one p (since p (history trace)) (since-none p (history trace)), none.1)
      | inr some ↦ inr
          (ap (λ (t : List Event). slice_split p t) (sym (in_order-history trace) ∙ some.parts)
          ∙ split-append p (in_order (until p (history trace))) some.event (since p (history trace)) some.passes
          ∙ ap (λ (parts : List (List Event)). slice_split p (in_order (until p (history trace))) ++ parts) (split-one p (since p (history trace)) (since-none p (history trace))))
    ]

pub nil-push : {X : Type 0} (xs : List X) (x : X) → [] ≡ xs ++ x ∷ [] → ⊥
nil-push [] x same = cc
nil-push (y ∷ xs) x same = cc

pub push-same : {X : Type 0} (xs ys : List X) (x y : X) → xs ++ x ∷ [] ≡ ys ++ y ∷ [] → (xs ≡ ys) × (x ≡ y)
push-same [] [] x y same = (refl, cc)
push-same [] (z ∷ ys) x y same = let e : [] ≡ ys ++ y ∷ [] = cc in absurd (nil-push ys y e)
push-same (z ∷ xs) [] x y same = let e : [] ≡ xs ++ x ∷ [] = cc in absurd (nil-push xs x e)
push-same (z ∷ xs) (w ∷ ys) x y same =
    let head : z ≡ w = cc in
    let tail : xs ++ x ∷ [] ≡ ys ++ y ∷ [] = cc in
    let rest = push-same xs ys x y tail in
    (ap (λ (e : _). e ∷ xs) head ∙ ap (λ (es : List _). w ∷ es) rest.0, rest.1)

pub last-part : (p : Event → Bool) (trace : List Event) (earlier : List (List Event)) (part : List Event) → slice_split p trace ≡ earlier ++ part ∷ []
    → since p (history trace) ≡ part
last-part p trace earlier part same =
    elim (split-open p trace) [
      | inl one ↦ (push-same [] earlier (since p (history trace)) part (sym one.0 ∙ same)).1
      | inr more ↦ (push-same (slice_split p (in_order (until p (history trace)))) earlier (since p (history trace)) part (sym more ∙ same)).1
    ]
