-- What follows of the words on histories: one more event, further events, and the same said of the trace in order.
use Rattle.std.proofs.Common.{◌≡◌, Bool, false, List, [], ◌∷◌, ◌++◌, Option, Some, None, refl, sym, ap, ◌∙◌, subst, inl, inr, ◌⊎◌}
use Rattle.std.specs.Prelude.{◌↔◌, filter_map, option_to_list, IsTrue}
use Rattle.std.specs.List.{cons_option, list_any}
use Rattle.std.proofs.lemmas.Bool.{OnTrue_at, OnTrue_from, OnFalse_at, OnFalse_from, or_parts, or_from}
use Rattle.std.proofs.lemmas.List.{append-nil, append_assoc}
use Rattle.std.proofs.lemmas.List.Elements.{filter_map-append}
use Rattle.std.proofs.lemmas.List.Folds.{list_any-append}
use Rattle.off_chip.specs.declared.event.Event.{Event}
use Rattle.off_chip.specs.Histories.{History, no_event, ◌◂◌, followed, history, in_order, Each, EachCut, AtEach, AtEachCut, first_told, newest, EachSince}

-- ---- histories and traces

pub followed-append : (older : History) (first more : List Event) → followed older (first ++ more) ≡ followed (followed older first) more
followed-append older [] more = refl
followed-append older (event ∷ first) more = followed-append (event ◂ older) first more

-- one more event
pub history-push : (trace : List Event) (event : Event) → history (trace ++ event ∷ []) ≡ event ◂ history trace
history-push trace event = followed-append no_event trace (event ∷ [])

pub history-appended : (before after : List Event) (event : Event) → after ≡ before ++ event ∷ [] → history after ≡ event ◂ history before
history-appended before after event same = ap (λ (t : List Event). history t) same ∙ history-push before event

-- a trace that is cut in two, or at an event
pub history-append : (trace before rest : List Event) → trace ≡ before ++ rest → history trace ≡ followed (history before) rest
history-append trace before rest same = ap (λ (t : List Event). history t) same ∙ followed-append no_event before rest

pub history-cut : (trace before : List Event) (event : Event) (rest : List Event) → trace ≡ before ++ event ∷ rest
    → history trace ≡ followed (event ◂ history before) rest
history-cut trace before event rest same = history-append trace before (event ∷ rest) same

in_order-followed : (older : History) (rest : List Event) → in_order (followed older rest) ≡ in_order older ++ rest
in_order-followed older [] = sym (append-nil (in_order older))
in_order-followed older (event ∷ rest) = in_order-followed (event ◂ older) rest ∙ append_assoc (in_order older) (event ∷ []) rest

pub in_order-history : (trace : List Event) → in_order (history trace) ≡ trace
in_order-history trace = in_order-followed no_event trace

pub history-in_order : (older : History) → history (in_order older) ≡ older
history-in_order no_event = refl
history-in_order (event ◂ older) = history-push (in_order older) event ∙ ap (λ (h : History). event ◂ h) (history-in_order older)

-- ---- what holds at each event

pub Each-older : (P : Event → History → Type 0) (older : History) (rest : List Event) → Each P (followed older rest) → Each P older
Each-older P older [] each = each
Each-older P older (event ∷ rest) each = (Each-older P (event ◂ older) rest each).0

pub Each-weaker : (P Q : Event → History → Type 0) → ((event : Event) (older : History) → P event older → Q event older)
    → (older : History) → Each P older → Each Q older
Each-weaker P Q weaker no_event each = tt
Each-weaker P Q weaker (event ◂ older) each = (Each-weaker P Q weaker older each.0, weaker event older each.1)

pub Each-both : (P Q : Event → History → Type 0) (older : History) → Each P older → Each Q older → Each (λ event older. P event older × Q event older) older
Each-both P Q no_event first second = tt
Each-both P Q (event ◂ older) first second = (Each-both P Q older first.0 second.0, (first.1, second.1))

-- in order
pub Each-cut : (P : Event → History → Type 0) (trace before : List Event) (event : Event) (rest : List Event) → trace ≡ before ++ event ∷ rest
    → Each P (history trace) → P event (history before)
Each-cut P trace before event rest same each =
    (Each-older P (event ◂ history before) rest (subst (λ (h : History). Each P h) (history-cut trace before event rest same) each)).1

each-followed : (P : Event → History → Type 0) (older : History) (rest : List Event) → Each P older
    → ((between : List Event) (event : Event) (last : List Event) → rest ≡ between ++ event ∷ last → P event (followed older between)) → Each P (followed older rest)
each-followed P older [] each holds = each
each-followed P older (event ∷ rest) each holds =
    each-followed P (event ◂ older) rest (each, holds [] event rest refl)
    (λ between later last same. holds (event ∷ between) later last (ap (λ (xs : List Event). event ∷ xs) same))

pub cut-Each : (P : Event → History → Type 0) (trace : List Event)
    → ((before : List Event) (event : Event) (rest : List Event) → trace ≡ before ++ event ∷ rest → P event (history before)) → Each P (history trace)
cut-Each P trace cut = each-followed P no_event trace tt cut

pub each-tests : (test : Event → History → Bool) (trace : List Event)
    → Each (λ event older. IsTrue (test event older)) (history trace) ↔ EachCut (λ event before. IsTrue (test event (history before))) trace
each-tests test trace = (
  λ each before event rest same. Each-cut (λ event older. IsTrue (test event older)) trace before event rest same each,
  λ cut. cut-Each (λ event older. IsTrue (test event older)) trace cut,
)

-- ---- what holds at some points

pub AtEach-at : (test : History → Bool) (P : History → Type 0) (older : History) → AtEach test P older → IsTrue (test older) → P older
AtEach-at test P no_event each passes = OnTrue_at passes each
AtEach-at test P (event ◂ older) each passes = OnTrue_at passes each.1

pub AtEach-older : (test : History → Bool) (P : History → Type 0) (older : History) (rest : List Event) → AtEach test P (followed older rest) → AtEach test P older
AtEach-older test P older [] each = each
AtEach-older test P older (event ∷ rest) each = (AtEach-older test P (event ◂ older) rest each).0

pub AtEach-weaker : (test : History → Bool) (P Q : History → Type 0) → ((older : History) → IsTrue (test older) → P older → Q older)
    → (older : History) → AtEach test P older → AtEach test Q older
AtEach-weaker test P Q weaker no_event each = OnTrue_from (test no_event) (Q no_event) (λ passes. weaker no_event passes (OnTrue_at passes each))
AtEach-weaker test P Q weaker (event ◂ older) each = (
  AtEach-weaker test P Q weaker older each.0,
  OnTrue_from (test (event ◂ older)) (Q (event ◂ older)) (λ passes. weaker (event ◂ older) passes (OnTrue_at passes each.1)),
)

-- in order
pub AtEach-cut : (test : History → Bool) (P : History → Type 0) (trace before rest : List Event) → trace ≡ before ++ rest
    → AtEach test P (history trace) → IsTrue (test (history before)) → P (history before)
AtEach-cut test P trace before rest same each passes =
    AtEach-at test P (history before)
    (AtEach-older test P (history before) rest (subst (λ (h : History). AtEach test P h) (history-append trace before rest same) each)) passes

at_each-followed : (test : History → Bool) (P : History → Type 0) (older : History) (rest : List Event) → AtEach test P older
    → ((between last : List Event) → rest ≡ between ++ last → IsTrue (test (followed older between)) → P (followed older between)) → AtEach test P (followed older rest)
at_each-followed test P older [] each holds = each
at_each-followed test P older (event ∷ rest) each holds =
    at_each-followed test P (event ◂ older) rest
    (each, OnTrue_from (test (event ◂ older)) (P (event ◂ older)) (λ passes. holds (event ∷ []) rest refl passes))
    (λ between last same. holds (event ∷ between) last (ap (λ (xs : List Event). event ∷ xs) same))

pub cut-AtEach : (test : History → Bool) (P : History → Type 0) (trace : List Event)
    → ((before rest : List Event) → trace ≡ before ++ rest → IsTrue (test (history before)) → P (history before)) → AtEach test P (history trace)
cut-AtEach test P trace cut =
    at_each-followed test P no_event trace (OnTrue_from (test no_event) (P no_event) (λ passes. cut [] trace refl passes)) cut

pub points-tests : (kind test : History → Bool) (trace : List Event)
    → AtEach kind (λ older. IsTrue (test older)) (history trace) ↔ AtEachCut (λ before. IsTrue (kind (history before))) (λ before. IsTrue (test (history before))) trace
points-tests kind test trace = (
  λ each before rest same passes. AtEach-cut kind (λ older. IsTrue (test older)) trace before rest same each passes,
  λ cut. cut-AtEach kind (λ older. IsTrue (test older)) trace cut,
)

-- ---- the latest event that tells something

pub or_else-assoc : {X : Type 0} (a b c : Option X) → first_told (first_told a b) c ≡ first_told a (first_told b c)
or_else-assoc None b c = refl
or_else-assoc (Some x) b c = refl

or_else-none : {X : Type 0} (o p : Option X) → first_told o p ≡ None → (o ≡ None) × (p ≡ None)
or_else-none None p none = (refl, none)
or_else-none (Some x) p none = cc

pub newest-untold : {X : Type 0} (f : Event → History → Option X) (event : Event) (older : History) → f event older ≡ None
    → newest f (event ◂ older) ≡ newest f older
newest-untold f event older tells = ap (λ (o : Option _). first_told o (newest f older)) tells

-- where further events tell nothing
pub newest-nothing : {X : Type 0} (f : Event → History → Option X) (older : History) (rest : List Event)
    → ((between : List Event) (later : Event) (last : List Event) → rest ≡ between ++ later ∷ last → f later (followed older between) ≡ None)
    → newest f (followed older rest) ≡ newest f older
newest-nothing f older [] nothing = refl
newest-nothing f older (event ∷ rest) nothing =
    newest-nothing f (event ◂ older) rest (λ between later last same. nothing (event ∷ between) later last (ap (λ (xs : List Event). event ∷ xs) same))
    ∙ newest-untold f event older (nothing [] event rest refl)

-- where the answer stands among further events
pub record ToldAt {X : Type 0} (f : Event → History → Option X) (older : History) (rest : List Event) (x : X) : Type 0 where
  pub between : List Event
  pub event : Event
  pub last : List Event
  pub parts : rest ≡ between ++ event ∷ last
  pub answer : f event (followed older between) ≡ Some x
  pub nothing_after : (middle : List Event) (later : Event) (end : List Event) → last ≡ middle ++ later ∷ end
      → f later (followed older (between ++ event ∷ middle)) ≡ None

abbrev UntoldIn : {X : Type 0} → (Event → History → Option X) → History → List Event → Type 0
UntoldIn f older rest = (between : List Event) (later : Event) (last : List Event) → rest ≡ between ++ later ∷ last → f later (followed older between) ≡ None

nothing_in_nil : {X : Type 0} (P : Type 0) (between : List X) (later : X) (last : List X) → [] ≡ between ++ later ∷ last → P
nothing_in_nil P [] later last same = cc
nothing_in_nil P (x ∷ between) later last same = cc

untold-cons : {X : Type 0} (f : Event → History → Option X) (older : History) (event : Event) (rest : List Event) → f event older ≡ None → UntoldIn f (event ◂ older) rest
    → UntoldIn f older (event ∷ rest)
untold-cons f older event rest here nothing [] later last same =
    let e : event ≡ later = cc in subst (λ (x : Event). f x older ≡ None) e here
untold-cons f older event rest here nothing (first ∷ between) later last same =
    let e : event ≡ first = cc in
    let tail : rest ≡ between ++ later ∷ last = cc in
    subst (λ (x : Event). f later (followed (x ◂ older) between) ≡ None) e (nothing between later last tail)

pub newest-told : {X : Type 0} (f : Event → History → Option X) (older : History) (rest : List Event) (x : X) → newest f (followed older rest) ≡ Some x
    → ToldAt f older rest x ⊎ ((newest f older ≡ Some x) × UntoldIn f older rest)
newest-told f older [] x same = inr (same, λ between later last split. nothing_in_nil _ between later last split)
newest-told f older (event ∷ rest) x same =
    elim (newest-told f (event ◂ older) rest x same) [
      | inl at ↦ inl (record {
        between = event ∷ at.between;
        event = at.event;
        last = at.last;
        parts = ap (λ (xs : List Event). event ∷ xs) at.parts;
        answer = at.answer;
        nothing_after = at.nothing_after;
      })
      | inr before ↦ by (f event older) refl before.0 before.1
    ]
  where
    by : (o : Option _) → f event older ≡ o → first_told (f event older) (newest f older) ≡ Some x → UntoldIn f (event ◂ older) rest
        → ToldAt f older (event ∷ rest) x ⊎ ((newest f older ≡ Some x) × UntoldIn f older (event ∷ rest))
    by (Some y) tells found nothing = inl (record {
      between = [];
      event = event;
      last = rest;
      parts = refl;
      answer = tells ∙ sym (ap (λ (o : Option _). first_told o (newest f older)) tells) ∙ found;
      nothing_after = nothing;
    })
    by None tells found nothing = inr (sym (ap (λ (o : Option _). first_told o (newest f older)) tells) ∙ found, untold-cons f older event rest tells nothing)

-- in order: the answer of a trace stands at one of its events
pub newest-ToldAt : {X : Type 0} (f : Event → History → Option X) (trace : List Event) (x : X) → newest f (history trace) ≡ Some x → ToldAt f no_event trace x
newest-ToldAt f trace x same = elim (newest-told f no_event trace x same) [ inl at ↦ at | inr before ↦ let e : None ≡ Some x = before.0 in cc ]

pub ToldAt-newest : {X : Type 0} (f : Event → History → Option X) (trace : List Event) (x : X) → ToldAt f no_event trace x → newest f (history trace) ≡ Some x
ToldAt-newest f trace x at =
    ap (λ (h : History). newest f h) (history-cut trace at.between at.event at.last at.parts)
    ∙ newest-nothing f (at.event ◂ history at.between) at.last
    (λ middle later end same. ap (λ (h : History). f later h) (sym (followed-append no_event at.between (at.event ∷ middle))) ∙ at.nothing_after middle later end same)
    ∙ ap (λ (o : Option _). first_told o (newest f (history at.between))) at.answer

-- ---- where what an event tells does not depend on those before it

cons_option-nil : {X : Type 0} (o : Option X) (xs : List X) → cons_option o xs ≡ [] → (o ≡ None) × (xs ≡ [])
cons_option-nil None xs same = (refl, same)
cons_option-nil (Some x) xs same = cc

pub filter_map-nil : {X : Type 0} (f : Event → Option X) (rest between : List Event) (later : Event) (last : List Event) → rest ≡ between ++ later ∷ last
    → filter_map f rest ≡ [] → f later ≡ None
filter_map-nil f rest between later last split same = nil f between later last (ap (λ (xs : List Event). filter_map f xs) (sym split) ∙ same)
  where
    nil : {X : Type 0} (f : Event → Option X) (between : List Event) (later : Event) (last : List Event) → filter_map f (between ++ later ∷ last) ≡ [] → f later ≡ None
    nil f [] later last same = (cons_option-nil (f later) (filter_map f last) same).0
    nil f (event ∷ between) later last same = nil f between later last (cons_option-nil (f event) (filter_map f (between ++ later ∷ last)) same).1

pub nil-filter_map : {X : Type 0} (f : Event → Option X) (rest : List Event)
    → ((between : List Event) (later : Event) (last : List Event) → rest ≡ between ++ later ∷ last → f later ≡ None) → filter_map f rest ≡ []
nil-filter_map f [] none = refl
nil-filter_map f (event ∷ rest) none =
    ap (λ (o : Option _). cons_option o (filter_map f rest)) (none [] event rest refl)
    ∙ nil-filter_map f rest (λ between later last same. none (event ∷ between) later last (ap (λ (xs : List Event). event ∷ xs) same))

-- what further events tell, or what was told before
pub newest-followed : {X : Type 0} (f : Event → Option X) (older : History) (rest : List Event)
    → newest (λ event _. f event) (followed older rest) ≡ first_told (newest (λ event _. f event) (history rest)) (newest (λ event _. f event) older)
newest-followed f older [] = refl
newest-followed f older (event ∷ rest) =
    newest-followed f (event ◂ older) rest
    ∙ sym (or_else-assoc (newest (λ event _. f event) (history rest)) (f event) (newest (λ event _. f event) older))
    ∙ ap (λ (o : Option _). first_told o (newest (λ event _. f event) older))
    (ap (λ (o : Option _). first_told (newest (λ event _. f event) (history rest)) o) (none_after (f event)) ∙ sym (newest-followed f (event ◂ no_event) rest))
  where
    none_after : {X : Type 0} (o : Option X) → o ≡ first_told o None
    none_after None = refl
    none_after (Some x) = refl

pub newest-none : {X : Type 0} (f : Event → Option X) (trace : List Event) → newest (λ event _. f event) (history trace) ≡ None → filter_map f trace ≡ []
newest-none f [] none = refl
newest-none f (event ∷ rest) none =
    let parts = or_else-none (newest (λ event _. f event) (history rest)) (first_told (f event) None) (sym (newest-followed f (event ◂ no_event) rest) ∙ none) in
    ap (λ (o : Option _). cons_option o (filter_map f rest)) (or_else-none (f event) None parts.1).0 ∙ newest-none f rest parts.0

pub none-newest : {X : Type 0} (f : Event → Option X) (trace : List Event) → filter_map f trace ≡ [] → newest (λ event _. f event) (history trace) ≡ None
none-newest f trace none = newest-nothing (λ event _. f event) no_event trace (λ between later last same. filter_map-nil f trace between later last same none)

-- ---- what events tell, one more

cons_option-list : {X : Type 0} (o : Option X) → cons_option o [] ≡ option_to_list o
cons_option-list None = refl
cons_option-list (Some x) = refl

pub filter_map-push : {X : Type 0} (f : Event → Option X) (trace : List Event) (event : Event) → filter_map f (trace ++ event ∷ []) ≡ filter_map f trace ++ option_to_list (f event)
filter_map-push f trace event = filter_map-append f trace (event ∷ []) ∙ ap (λ (xs : List _). filter_map f trace ++ xs) (cons_option-list (f event))

-- ---- what holds after the latest event that passes

pub EachSince-at : (test : Event → Bool) (P : Event → History → Type 0) (older : History) (rest : List Event) → list_any test rest ≡ false
    → EachSince test P (followed older rest) → EachSince test P older
EachSince-at test P older [] none each = each
EachSince-at test P older (event ∷ rest) none each =
    let parts : (test event ≡ false) × (list_any test rest ≡ false) = or_parts (test event) (list_any test rest) none in
    (OnFalse_at parts.0 (EachSince-at test P (event ◂ older) rest parts.1 each)).0

pub EachSince-cut : (test : Event → Bool) (P : Event → History → Type 0) (trace before : List Event) (event : Event) (rest : List Event) → trace ≡ before ++ event ∷ rest
    → test event ≡ false → list_any test rest ≡ false → EachSince test P (history trace) → P event (history before)
EachSince-cut test P trace before event rest same not_test none each =
    (OnFalse_at not_test (EachSince-at test P (event ◂ history before) rest none
    (subst (λ (h : History). EachSince test P h) (history-cut trace before event rest same) each))).1

-- for each event after which none passes
pub cut-EachSince : (test : Event → Bool) (P : Event → History → Type 0) (older : History)
    → ((before : List Event) (event : Event) (rest : List Event) → in_order older ≡ before ++ event ∷ rest → test event ≡ false → list_any test rest ≡ false → P event (history before))
    → EachSince test P older
cut-EachSince test P no_event holds = tt
cut-EachSince test P (event ◂ older) holds =
    OnFalse_from (test event) (EachSince test P older × P event older) (λ not_test. (
      cut-EachSince test P older (λ before earlier rest same other none. holds before earlier (rest ++ event ∷ [])
          (ap (λ (xs : List Event). xs ++ event ∷ []) same ∙ append_assoc before (earlier ∷ rest) (event ∷ [])) other
          (list_any-append test rest (event ∷ []) ∙ or_from (list_any test rest) (list_any test (event ∷ [])) none (or_from (test event) false not_test refl))),
      subst (λ (h : History). P event h) (history-in_order older) (holds (in_order older) event [] refl not_test refl),
    ))
