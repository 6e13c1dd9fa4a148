-- What follows of the epochs of the log.
use Rattle.std.proofs.Common.{◌≤◌, ◌≡◌, ℕ, Bool, true, false, cond, ◌||◌, List, [], ◌∷◌, ◌++◌, Option, refl, sym, ap, ◌∙◌, subst, inl, inr}
use Rattle.std.specs.Prelude.{IsTrue, ◌↔◌}
use Rattle.std.specs.Bool.{OnTrue}
use Rattle.std.specs.List.{list_any}
use Rattle.std.proofs.lemmas.Bool.{or_right, both_ways, cases_Bool}
use Rattle.std.proofs.lemmas.List.{append_assoc}
use Rattle.std.proofs.lemmas.List.Folds.{list_any-append}
use Rattle.aegis_num.specs.declared.storage.Place.{Place}
use Rattle.aegis_num.specs.declared.storage.Place.TheVariants.{Log}
use Rattle.off_chip.specs.declared.event.Event.{Event}
use Rattle.off_chip.specs.declared.event.Event.TheVariants.{BlockRead, Note}
use Rattle.off_chip.specs.declared.event.Mark.TheVariants.{Sent, CheckPassed}
use Rattle.off_chip.specs.Histories.{History, history, in_order, since, until}
use Rattle.off_chip.specs.WriteBacks.{block_writes}
use Rattle.off_chip.specs.FaithfulReads.{is_faithful, is_log_read, LogFaithful, LogReadsFaithful}
use Rattle.off_chip.specs.Epochs.{is_passed, is_check_start, epochs, check_of, reads_of, writes_of, open_epoch, ended_epoch, open_reads, open_writes, IsQuiet, EpochFaithful, EndedFaithful, OpenReadsFaithful, EndedReadsFaithful, ReadNotAbove, NoReadAbove, ReadsNotAbove, SentInQuiet, AllSentInQuiet, SentAfterQuiet}
use Rattle.off_chip.proofs.HistoryLemmas.{in_order-history, history-in_order, Each-cut, cut-Each, EachSince-cut, cut-EachSince}
use Rattle.off_chip.proofs.SplitLemmas.{split-some, split-append, split-open, since-none, since-until, last-part, nil-push, push-same}
use Rattle.off_chip.proofs.FaithfulLemmas.{is_faithful-Decides, LogFaithful-in_order}

abbrev Image : Type 0
Image = Place → Option (List ℕ)

-- ---- the epochs of a trace

-- a passed check cuts the trace into epochs
pub epochs-cut : (before rest : List Event) → epochs (before ++ Note CheckPassed ∷ rest) ≡ epochs before ++ epochs rest
epochs-cut before rest = split-append is_passed before (Note CheckPassed) rest refl

pub open_epoch-last : (trace : List Event) (earlier : List (List Event)) (epoch : List Event) → epochs trace ≡ earlier ++ epoch ∷ [] → open_epoch (history trace) ≡ epoch
open_epoch-last trace earlier epoch same = last-part is_passed trace earlier epoch same

-- there is a last epoch
pub last-of : (trace : List Event) → (earlier : List (List Event)) × (epochs trace ≡ earlier ++ open_epoch (history trace) ∷ [])
last-of trace = elim (split-open is_passed trace) [ inl one ↦ ([], one.0) | inr more ↦ (epochs (in_order (until is_passed (history trace))), more) ]

ended_epoch-first : (trace : List Event) (epoch : List Event) → epochs trace ≡ epoch ∷ [] → ended_epoch (history trace) ≡ []
ended_epoch-first trace epoch same =
    elim (split-open is_passed trace) [
      | inl one ↦ ap (λ (h : History). since is_passed h) one.1
      | inr more ↦ absurd (split-some is_passed (in_order (until is_passed (history trace)))
          (push-same (epochs (in_order (until is_passed (history trace)))) [] (open_epoch (history trace)) epoch (sym more ∙ same)).0)
    ]

ended_epoch-later : (trace : List Event) (earlier : List (List Event)) (previous epoch : List Event) → epochs trace ≡ earlier ++ previous ∷ epoch ∷ []
    → ended_epoch (history trace) ≡ previous
ended_epoch-later trace earlier previous epoch same =
    let pushed : epochs trace ≡ (earlier ++ previous ∷ []) ++ epoch ∷ [] = same ∙ sym (append_assoc earlier (previous ∷ []) (epoch ∷ [])) in
    elim (split-open is_passed trace) [
      | inl one ↦ absurd (nil-push earlier previous (push-same [] (earlier ++ previous ∷ []) (open_epoch (history trace)) epoch (sym one.0 ∙ pushed)).0)
      | inr more ↦
          let before : epochs (in_order (until is_passed (history trace))) ≡ earlier ++ previous ∷ [] =
          (push-same (epochs (in_order (until is_passed (history trace)))) (earlier ++ previous ∷ []) (open_epoch (history trace)) epoch (sym more ∙ pushed)).0 in
          ap (λ (h : History). since is_passed h) (sym (history-in_order (until is_passed (history trace))))
          ∙ last-part is_passed (in_order (until is_passed (history trace))) earlier previous before
    ]

-- ---- reads and writes

pub open_reads-in_order : (trace : List Event) (earlier : List (List Event)) (epoch : List Event) → epochs trace ≡ earlier ++ epoch ∷ []
    → open_reads (history trace) ≡ reads_of epoch
open_reads-in_order trace earlier epoch same = ap (λ (xs : List Event). reads_of xs) (open_epoch-last trace earlier epoch same)

pub open_writes-first : (trace : List Event) (epoch : List Event) → epochs trace ≡ epoch ∷ [] → open_writes (history trace) ≡ writes_of [] epoch
open_writes-first trace epoch same =
    ap (λ (xs : List Event). writes_of xs (open_epoch (history trace))) (ended_epoch-first trace epoch same)
    ∙ ap (λ (xs : List Event). writes_of [] xs) (open_epoch-last trace [] epoch same)

pub open_writes-later : (trace : List Event) (earlier : List (List Event)) (previous epoch : List Event) → epochs trace ≡ earlier ++ previous ∷ epoch ∷ []
    → open_writes (history trace) ≡ writes_of previous epoch
open_writes-later trace earlier previous epoch same =
    ap (λ (xs : List Event). writes_of xs (open_epoch (history trace))) (ended_epoch-later trace earlier previous epoch same)
    ∙ ap (λ (xs : List Event). writes_of previous xs)
    (open_epoch-last trace (earlier ++ previous ∷ []) epoch (same ∙ sym (append_assoc earlier (previous ∷ []) (epoch ∷ []))))

pub IsQuiet-in_order : (trace : List Event) (earlier : List (List Event)) (epoch : List Event) → epochs trace ≡ earlier ++ epoch ∷ []
    → IsQuiet (history trace) ↔ (reads_of epoch ≡ [])
IsQuiet-in_order trace earlier epoch same =
    let e : open_reads (history trace) ≡ reads_of epoch = open_reads-in_order trace earlier epoch same in
    (λ quiet. sym e ∙ quiet.nothing, λ nothing. record { nothing = e ∙ nothing })

-- what a check read, with one event more
check-more : (b some : Bool) (first rest check tail : List Event) → tail ≡ cond some (check ++ rest) (check_of rest)
    → cond b (first ++ rest) tail ≡ cond (b || some) (cond b first check ++ rest) (check_of rest)
check-more true some first rest check tail same = refl
check-more false some first rest check tail same = same

check_of-append : (first rest : List Event) → check_of (first ++ rest) ≡ cond (list_any is_check_start first) (check_of first ++ rest) (check_of rest)
check_of-append [] rest = refl
check_of-append (event ∷ first) rest =
    check-more (is_check_start event) (list_any is_check_start first) first rest (check_of first) (check_of (first ++ rest)) (check_of-append first rest)

cond-same : (b : Bool) (xs : List Event) → cond b xs xs ≡ xs
cond-same true xs = refl
cond-same false xs = refl

check_of-last : (event : Event) → check_of (event ∷ []) ≡ []
check_of-last event = cond-same (is_check_start event) []

check_of-push : (first : List Event) (event : Event) → check_of (first ++ event ∷ []) ≡ cond (list_any is_check_start first) (check_of first ++ event ∷ []) []
check_of-push first event =
    check_of-append first (event ∷ []) ∙ ap (λ (xs : List Event). cond (list_any is_check_start first) (check_of first ++ event ∷ []) xs) (check_of-last event)

-- ---- faithful epochs

pub EpochFaithful-in_order : (image : Image) (trace : List Event) → EpochFaithful image (history trace) ↔ OpenReadsFaithful image trace
EpochFaithful-in_order image trace = (
  λ faithful. record {
    each = λ before n block rest same none. (is_faithful-Decides image before (Log n) block).0
        (EachSince-cut is_passed (λ event older. OnTrue (is_log_read event) (IsTrue (is_faithful image event older))) trace before (BlockRead (Log n) block) rest same refl none faithful.each);
  },
  λ faithful. record {
    each = cut-EachSince is_passed (λ event older. OnTrue (is_log_read event) (IsTrue (is_faithful image event older))) (history trace)
        (λ before event rest same other none. by faithful before event rest (sym (in_order-history trace) ∙ same) none);
  },
)
  where
    by : OpenReadsFaithful image trace → (before : List Event) (event : Event) (rest : List Event) → trace ≡ before ++ event ∷ rest → list_any is_passed rest ≡ false
        → OnTrue (is_log_read event) (IsTrue (is_faithful image event (history before)))
    by faithful before (BlockRead (Log n) block) rest same none = (is_faithful-Decides image before (Log n) block).1 (faithful.each before n block rest same none)
    by faithful before event rest same none = tt

-- an event after which one passes stands before the latest one that passes
before-latest : (p : Event → Bool) (front : List Event) (latest : Event) (since before : List Event) (event : Event) (rest : List Event)
    → before ++ event ∷ rest ≡ front ++ latest ∷ since → p event ≡ false → p latest ≡ true → list_any p since ≡ false → list_any p rest ≡ true
    → (middle : List Event) × (front ≡ before ++ event ∷ middle)
before-latest p [] latest since [] event rest same fails passes none some =
    let e : event ≡ latest = cc in absurd (both_ways (p event) fails (ap (λ (x : Event). p x) e ∙ passes))
before-latest p (first ∷ front) latest since [] event rest same fails passes none some = let e : first ≡ event = cc in (front, ap (λ (x : Event). x ∷ front) e)
before-latest p [] latest since (b ∷ before) event rest same fails passes none some =
    let tail : since ≡ before ++ event ∷ rest = cc in
    let any : list_any p since ≡ true =
    ap (λ (xs : List Event). list_any p xs) tail ∙ list_any-append p before (event ∷ rest)
    ∙ or_right (list_any p before) (list_any p (event ∷ rest)) (or_right (p event) (list_any p rest) some) in
    absurd (both_ways (list_any p since) none any)
before-latest p (first ∷ front) latest since (b ∷ before) event rest same fails passes none some =
    let head : first ≡ b = cc in
    let tail : before ++ event ∷ rest ≡ front ++ latest ∷ since = cc in
    let ih = before-latest p front latest since before event rest tail fails passes none some in
    (ih.0, ap (λ (x : Event). x ∷ front) head ∙ ap (λ (xs : List Event). b ∷ xs) ih.1)

any-later : (p : Event → Bool) (before : List Event) (event : Event) (rest : List Event) → list_any p rest ≡ true → list_any p (before ++ event ∷ rest) ≡ true
any-later p before event rest some =
    list_any-append p before (event ∷ rest) ∙ or_right (list_any p before) (list_any p (event ∷ rest)) (or_right (p event) (list_any p rest) some)

abbrev front_of : List Event → List Event
front_of trace = in_order (until is_passed (history trace))

front-faithful : (image : Image) (trace : List Event) → LogFaithful image (until is_passed (history trace)) ↔ LogReadsFaithful image (front_of trace)
front-faithful image trace =
    let both = LogFaithful-in_order image (front_of trace) in
    let e : history (front_of trace) ≡ until is_passed (history trace) = history-in_order (until is_passed (history trace)) in
    (λ all. both.0 (subst (λ (h : History). LogFaithful image h) (sym e) all), λ all. subst (λ (h : History). LogFaithful image h) e (both.1 all))

ended-of : (image : Image) (trace : List Event) → LogReadsFaithful image (front_of trace) → EndedReadsFaithful image trace
ended-of image trace all = record {
  each = λ before n block rest same some. elim (since-until is_passed (history trace)) [
    | inl none ↦
        let e : list_any is_passed trace ≡ true = ap (λ (t : List Event). list_any is_passed t) same ∙ any-later is_passed before (BlockRead (Log n) block) rest some in
        let f : list_any is_passed trace ≡ false = ap (λ (t : List Event). list_any is_passed t) (sym (in_order-history trace) ∙ none.0) ∙ since-none is_passed (history trace) in
        absurd (both_ways (list_any is_passed trace) f e)
    | inr at ↦
        let cut = before-latest is_passed (front_of trace) at.event (since is_passed (history trace)) before (BlockRead (Log n) block) rest
        (sym same ∙ sym (in_order-history trace) ∙ at.parts) refl at.passes (since-none is_passed (history trace)) some in
        all.each before n block cut.0 cut.1
  ];
}

of-ended : (image : Image) (trace : List Event) → EndedReadsFaithful image trace → LogReadsFaithful image (front_of trace)
of-ended image trace all = record {
  each = λ before n block middle same. elim (since-until is_passed (history trace)) [
    | inl none ↦ absurd (nil-cut before (BlockRead (Log n) block) middle (ap (λ (h : History). in_order h) (sym none.1) ∙ same))
    | inr at ↦ all.each before n block (middle ++ at.event ∷ since is_passed (history trace))
        (sym (in_order-history trace) ∙ at.parts ∙ ap (λ (xs : List Event). xs ++ at.event ∷ since is_passed (history trace)) same
        ∙ append_assoc before (BlockRead (Log n) block ∷ middle) (at.event ∷ since is_passed (history trace)))
        (list_any-append is_passed middle (at.event ∷ since is_passed (history trace))
        ∙ or_right (list_any is_passed middle) (list_any is_passed (at.event ∷ since is_passed (history trace)))
        (ap (λ (b : Bool). b || list_any is_passed (since is_passed (history trace))) at.passes))
  ];
}
  where
    nil-cut : (before : List Event) (event : Event) (middle : List Event) → [] ≡ before ++ event ∷ middle → ⊥
    nil-cut [] event middle same = cc
    nil-cut (first ∷ before) event middle same = cc

pub EndedFaithful-in_order : (image : Image) (trace : List Event) → EndedFaithful image (history trace) ↔ EndedReadsFaithful image trace
EndedFaithful-in_order image trace = (
  λ all. ended-of image trace ((front-faithful image trace).0 all.ended),
  λ all. record { ended = (front-faithful image trace).1 (of-ended image trace all) },
)

-- each log read is faithful where those of the ended epochs and of the open one are
pub LogReadsFaithful-epochs : (image : Image) (trace : List Event) → LogReadsFaithful image trace ↔ (EndedReadsFaithful image trace × OpenReadsFaithful image trace)
LogReadsFaithful-epochs image trace = (
  λ all. (record { each = λ before n block rest same some. all.each before n block rest same }, record { each = λ before n block rest same none. all.each before n block rest same }),
  λ both. record {
    each = λ before n block rest same. elim (cases_Bool (list_any is_passed rest)) [
      | inl some ↦ both.0.each before n block rest same some
      | inr none ↦ both.1.each before n block rest same none
    ];
  },
)

-- ---- reads that are not above the counter, and bytes sent in quiet epochs

pub NoReadAbove-in_order : (trace : List Event) → NoReadAbove (history trace) ↔ ReadsNotAbove trace
NoReadAbove-in_order trace = (
  λ all. record {
    each = λ before n block rest same. subst (λ (t : List Event). block.stamp ≤ block_writes t) (in_order-history before)
        (Each-cut ReadNotAbove trace before (BlockRead (Log n) block) rest same all.each);
  },
  λ all. record { each = cut-Each ReadNotAbove trace (by all) },
)
  where
    by : ReadsNotAbove trace → (before : List Event) (event : Event) (rest : List Event) → trace ≡ before ++ event ∷ rest → ReadNotAbove event (history before)
    by all before (BlockRead (Log n) block) rest same = subst (λ (t : List Event). block.stamp ≤ block_writes t) (sym (in_order-history before)) (all.each before n block rest same)
    by all before event rest same = tt

pub AllSentInQuiet-in_order : (trace : List Event) → AllSentInQuiet (history trace) ↔ SentAfterQuiet trace
AllSentInQuiet-in_order trace = (
  λ all. record {
    each = λ before n rest same earlier epoch parts.
        (IsQuiet-in_order before earlier epoch parts).0 (Each-cut SentInQuiet trace before (Note (Sent n)) rest same all.each);
  },
  λ all. record { each = cut-Each SentInQuiet trace (by all) },
)
  where
    by : SentAfterQuiet trace → (before : List Event) (event : Event) (rest : List Event) → trace ≡ before ++ event ∷ rest → SentInQuiet event (history before)
    by all before (Note (Sent n)) rest same =
        let last = last-of before in
        (IsQuiet-in_order before last.0 (open_epoch (history before)) last.1).1 (all.each before n rest same last.0 (open_epoch (history before)) last.1)
    by all before event rest same = tt
