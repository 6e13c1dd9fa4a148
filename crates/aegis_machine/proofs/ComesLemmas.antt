-- What comes after a step: which events, and what of the released bytes is held after them.
use Rattle.std.proofs.Common.{◌≡◌, ℕ, ◌+◌, ◌<◌, ◌==◌, ◌%◌, ◌^◌, arith, Bool, true, false, cond, List, [], ◌∷◌, ◌++◌, length, length-append, refl, sym, ap, ◌∙◌, subst}
use Rattle.std.specs.Prelude.{count_by}
use Rattle.std.specs.List.{All, list_all, list_any}
use Rattle.std.proofs.lemmas.Bool.{and_from}
use Rattle.std.proofs.lemmas.List.{append-nil}
use Rattle.std.proofs.lemmas.List.Elements.{All-head, All-tail}
use Rattle.off_chip.specs.declared.Event.{Event}
use Rattle.off_chip.specs.declared.Event.TheVariants.{BlockRead, BlockWrite, WordRead, WordWrite, Note}
use Rattle.off_chip.specs.declared.Mark.TheVariants as marks
use Rattle.off_chip.specs.declared.Who.TheVariants.{Secure, Untrusted}
use Rattle.off_chip.specs.Boundaries.{is_retire, is_suspend}
use Rattle.off_chip.specs.Epochs.{IsQuiet, is_passed}
use Rattle.off_chip.specs.ExchangedWords.{bytes_sent}
use Rattle.off_chip.specs.Histories.{History, ◌◂◌, followed, Each}
use Rattle.off_chip.proofs.HistoryLemmas.{followed-append}
use Rattle.orbis_core.specs.declared.StepEnd.{StepEnd}
use Rattle.orbis_core.specs.declared.StepEnd.TheVariants as end
use Rattle.orbis_core.specs.Rows.{IsNoStop}
use Rattle.untrusted_run.specs.PhaseLaws.{IsOpenEvent}
use Rattle.untrusted_run.proofs.LawLemmas.{phases-open}
use Rattle.bus_machine.specs.BusAccesses.{is_access_event, is_block_event}
use Rattle.bus_machine.specs.BusData.{most_held}
use Rattle.aegis_machine.specs.Boundaries.{IsWholePhase, is_suspended, is_untrusted}
use Rattle.aegis_machine.specs.InstructionsDone.{ComesAfter, IsSuspension, Releases, Settles, Waits, at_once, fills, makes_check, waits}
use Rattle.aegis_machine.specs.Releases.{mark_sent}
use Rattle.aegis_machine.specs.Ties.{released_by}
use Rattle.aegis_machine.proofs.AlongLemmas.{AllCalm, blocks-access, calm-accesses, calm-count, calm-goes, calm-quiet, calm-sent, calm-suspended, calm-untrusted-all, count-append, count-cons, each-along, not-same, quiet-before, sent-append}
use Rattle.aegis_machine.proofs.LogEvents.{log-blocks}
use Rattle.aegis_machine.proofs.TieLemmas.{both-go-on}

-- ---- the events of a phase are of untrusted code

open-untrusted : (event : Event) → IsOpenEvent event → is_untrusted event ≡ true
open-untrusted (WordRead Untrusted at word) is = refl
open-untrusted (WordRead Secure at word) is = absurd is
open-untrusted (WordWrite Untrusted at word) is = refl
open-untrusted (WordWrite Secure at word) is = absurd is
open-untrusted (BlockRead at block) is = absurd is
open-untrusted (BlockWrite at block) is = absurd is
open-untrusted (Note (marks.Retire Untrusted)) is = refl
open-untrusted (Note mark) is = absurd is

opens-untrusted : (events : List Event) → All IsOpenEvent events → list_all is_untrusted events ≡ true
opens-untrusted [] all = refl
opens-untrusted (event ∷ events) all =
    and_from (is_untrusted event) (list_all is_untrusted events) (open-untrusted event (All-head IsOpenEvent event events all)) (opens-untrusted events (All-tail IsOpenEvent event events all))

pub phase-untrusted : (events : List Event) → IsWholePhase events → list_all is_untrusted events ≡ true
phase-untrusted events whole = opens-untrusted events (phases-open.events events whole.end whole.phase)

-- ---- each event of what comes

-- what has to hold of single events, from a history at which a step was made
pub record IsSteady (P : Event → History → Type 0) (after : History) (due : Bool) : Type 0 where
  pub on_access : (event : Event) (older : History) → is_access_event event ≡ true → P event older
  pub on_start : due ≡ true → P (Note marks.CheckStart) after
  pub on_passed : (older : History) → P (Note marks.CheckPassed) older
  pub on_sent : (n : ℕ) (older : History) → IsQuiet older → P (Note (marks.Sent n)) older
  pub on_suspend : P (Note marks.Suspend) after
  pub on_phase : (events : List Event) → IsWholePhase events → Each P (Note marks.Suspend ◂ after) → Each P (followed (Note marks.Suspend ◂ after) events)
  pub on_resume : (events : List Event) → IsWholePhase events → P (Note marks.Resume) (followed (Note marks.Suspend ◂ after) events)

module _ (P : Event → History → Type 0) (after : History) where
  abbrev EachIn : List Event → Type 0
  EachIn events = Each P (followed after events)

  each-sent : (due : Bool) → IsSteady P after due → (held : List ℕ) (older : History) → IsQuiet older → Each P older → Each P (followed older (mark_sent held))
  each-sent due steady [] older quiet each = each
  each-sent due steady (byte ∷ held) older quiet each = (each, steady.on_sent (length (byte ∷ held)) older quiet)

  each-failed : (due : Bool) → due ≡ true → IsSteady P after due → (middle : List Event) → list_all is_block_event middle ≡ true → Each P after → EachIn (Note marks.CheckStart ∷ middle)
  each-failed due is steady middle blocks each =
      each-along P is_access_event steady.on_access (Note marks.CheckStart ◂ after) middle (blocks-access middle blocks) (each, steady.on_start is)

  each-check : (due : Bool) → due ≡ true → IsSteady P after due → (middle : List Event) → list_all is_block_event middle ≡ true → Each P after
      → EachIn (Note marks.CheckStart ∷ (middle ++ Note marks.CheckPassed ∷ []))
  each-check due is steady middle blocks each =
      let Q : History → Type 0 = λ h. Each P h in
      let started : History = Note marks.CheckStart ◂ after in
      subst Q (sym (followed-append started middle (Note marks.CheckPassed ∷ []))) (each-failed due is steady middle blocks each, steady.on_passed (followed started middle))

  passed-history : (middle : List Event) → followed after (Note marks.CheckStart ∷ (middle ++ Note marks.CheckPassed ∷ [])) ≡ Note marks.CheckPassed ◂ followed (Note marks.CheckStart ◂ after) middle
  passed-history middle = followed-append (Note marks.CheckStart ◂ after) middle (Note marks.CheckPassed ∷ [])

  passed-quiet : (middle : List Event) → IsQuiet (followed after (Note marks.CheckStart ∷ (middle ++ Note marks.CheckPassed ∷ [])))
  passed-quiet middle = let Q : History → Type 0 = λ h. IsQuiet h in subst Q (sym (passed-history middle)) (record { nothing = refl })

  module _ (due : Bool) (steady : IsSteady P after due) (each : Each P after) where
    each-none : (events : List Event) → events ≡ [] → EachIn events
    each-none events none = let Q : List Event → Type 0 = λ es. EachIn es in subst Q (sym none) each

    each-settles : due ≡ true → (held : List ℕ) (events : List Event) (kept piece : List ℕ) → Settles held events kept piece → EachIn events
    each-settles is held events kept piece settles =
        let middle : List Event = settles.check.middle in
        let checked : List Event = Note marks.CheckStart ∷ (middle ++ Note marks.CheckPassed ∷ []) in
        let parts : events ≡ checked ++ mark_sent held = settles.events_are ∙ ap (λ (es : List Event). es ++ mark_sent held) settles.check.events_are in
        let Q : List Event → Type 0 = λ es. EachIn es in
        let R : History → Type 0 = λ h. Each P h in
        subst Q (sym parts) (subst R (sym (followed-append after checked (mark_sent held)))
        (each-sent due steady held (followed after checked) (passed-quiet middle) (each-check due is steady middle (log-blocks middle settles.check.blocks) each)))

    each-released : (byte : ℕ) (held : List ℕ) (events : List Event) (kept piece : List ℕ) → (length held + 1 ≡ most_held → due ≡ true) → Releases after byte held events kept piece → EachIn events
    each-released byte held events kept piece is (at_once quiet none made stays handed) =
        let Q : List Event → Type 0 = λ es. EachIn es in subst Q (sym made) (each-sent due steady (byte ∷ []) after quiet each)
    each-released byte held events kept piece is (waits not few made stays handed) = each-none events made
    each-released byte held events kept piece is (fills not full settles) = each-settles (is full) (held ++ byte ∷ []) events kept piece settles

    each-suspension : (events : List Event) → IsSuspension events → EachIn events
    each-suspension events suspension =
        let whole : IsWholePhase suspension.phase = record { end = suspension.end; phase = suspension.untrusted } in
        let started : History = Note marks.Suspend ◂ after in
        let Q : List Event → Type 0 = λ es. EachIn es in
        let R : History → Type 0 = λ h. Each P h in
        subst Q (sym suspension.events_are) (subst R (sym (followed-append started suspension.phase (Note marks.Resume ∷ [])))
        (steady.on_phase suspension.phase whole (each, steady.on_suspend), steady.on_resume suspension.phase whole))

-- each event that comes after a step
pub each-comes : (P : Event → History → Type 0) (after : History) (ended : StepEnd) (held : List ℕ) (events : List Event) (kept piece : List ℕ) → IsNoStop ended
    → ComesAfter ended after held events kept piece → IsSteady P after (makes_check ended (length held)) → Each P after → Each P (followed after events)
each-comes P after (end.Released byte) held events kept piece none comes steady each =
    each-released P after (makes_check (end.Released byte) (length held)) steady each _ held events kept piece (λ full. full-due held full) comes
  where
    full-due : (held : List ℕ) → length held + 1 ≡ most_held → (length held + 1 == most_held) ≡ true
    full-due held full = ap (λ (n : ℕ). n == most_held) full
each-comes P after end.Check held events kept piece none comes steady each = each-settles P after true steady each refl held events kept piece comes
each-comes P after end.Exit held events kept piece none comes steady each = each-settles P after true steady each refl held events kept piece comes
each-comes P after (end.Index place) held events kept piece none comes steady each = each-settles P after true steady each refl held events kept piece comes
each-comes P after (end.Divide place) held events kept piece none comes steady each = each-settles P after true steady each refl held events kept piece comes
each-comes P after end.Suspend held events kept piece none comes steady each = each-suspension P after false steady each events comes.0
each-comes P after (end.Stopped reason) held events kept piece none comes steady each = absurd (none reason refl)
each-comes P after ended held events kept piece none comes steady each = each-none P after _ steady each events comes.0

-- and each event of a check that did not pass
pub each-fails : (P : Event → History → Type 0) (after : History) (middle : List Event) → list_all is_block_event middle ≡ true → IsSteady P after true → Each P after
    → Each P (followed after (Note marks.CheckStart ∷ middle))
each-fails P after middle blocks steady each = each-failed P after true refl steady middle blocks each

-- ---- what it counts

abbrev pub suspended_by : StepEnd → ℕ
suspended_by end.Suspend = 1
suspended_by ended = 0

pub record Comes (after : History) (ended : StepEnd) (held : List ℕ) (events : List Event) (kept piece : List ℕ) : Type 0 where
  pub goes : list_any is_retire events ≡ false
  pub sent : bytes_sent events ≡ length piece
  pub passed : count_by is_passed events ≡ cond (makes_check ended (length held)) 1 0
  pub suspends : count_by is_suspend events ≡ suspended_by ended
  pub bytes : held ++ released_by ended ≡ piece ++ kept
  pub few : length held < most_held → length kept < most_held
  pub quiet : (IsQuiet after → held ≡ []) → IsQuiet (followed after events) → kept ≡ []
  pub suspended : is_suspended after ≡ false → is_suspended (followed after events) ≡ false

sent-mark : (held : List ℕ) → bytes_sent (mark_sent held) ≡ length held
sent-mark [] = refl
sent-mark (byte ∷ held) = omega arith

passed-mark : (held : List ℕ) → count_by is_passed (mark_sent held) ≡ 0
passed-mark [] = refl
passed-mark (byte ∷ held) = refl

suspend-mark : (held : List ℕ) → count_by is_suspend (mark_sent held) ≡ 0
suspend-mark [] = refl
suspend-mark (byte ∷ held) = refl

goes-mark : (held : List ℕ) → list_any is_retire (mark_sent held) ≡ false
goes-mark [] = refl
goes-mark (byte ∷ held) = refl

suspended-mark : (older : History) (held : List ℕ) → is_suspended (followed older (mark_sent held)) ≡ is_suspended older
suspended-mark older [] = refl
suspended-mark older (byte ∷ held) = refl

-- what is counted of events between two marks, and of a mark that follows
between-count : (test : Event → Bool) (first last : Event) (middle : List Event) → count_by test middle ≡ 0 → count_by test (first ∷ (middle ++ last ∷ [])) ≡ cond (test first) 1 0 + cond (test last) 1 0
between-count test first last middle none =
    let e : count_by test (first ∷ (middle ++ last ∷ [])) ≡ cond (test first) 1 0 + count_by test (middle ++ last ∷ []) = count-cons test first (middle ++ last ∷ []) in
    let f : count_by test (middle ++ last ∷ []) ≡ count_by test middle + count_by test (last ∷ []) = count-append test middle (last ∷ []) in
    let g : count_by test (last ∷ []) ≡ cond (test last) 1 0 + 0 = count-cons test last [] in omega (arith, e, f, g, none)

check-count : (test : Event → Bool) (middle : List Event) (all : List ℕ) → count_by test middle ≡ 0 → count_by test (mark_sent all) ≡ 0
    → count_by test ((Note marks.CheckStart ∷ (middle ++ Note marks.CheckPassed ∷ [])) ++ mark_sent all) ≡ cond (test (Note marks.CheckStart)) 1 0 + cond (test (Note marks.CheckPassed)) 1 0
check-count test middle all none mark =
    let e : count_by test ((Note marks.CheckStart ∷ (middle ++ Note marks.CheckPassed ∷ [])) ++ mark_sent all)
    ≡ count_by test (Note marks.CheckStart ∷ (middle ++ Note marks.CheckPassed ∷ [])) + count_by test (mark_sent all) =
    count-append test (Note marks.CheckStart ∷ (middle ++ Note marks.CheckPassed ∷ [])) (mark_sent all) in
    let f : count_by test (Note marks.CheckStart ∷ (middle ++ Note marks.CheckPassed ∷ [])) ≡ cond (test (Note marks.CheckStart)) 1 0 + cond (test (Note marks.CheckPassed)) 1 0 =
    between-count test (Note marks.CheckStart) (Note marks.CheckPassed) middle none in
    omega (arith, e, f, mark)

module _ (after : History) (ended : StepEnd) (held : List ℕ) (events : List Event) (kept piece : List ℕ) where
  abbrev Holds : Type 0
  Holds = Comes after ended held events kept piece

  comes-nothing : makes_check ended (length held) ≡ false → suspended_by ended ≡ 0 → held ++ released_by ended ≡ kept → events ≡ [] → piece ≡ []
      → (length held < most_held → length kept < most_held) → ((IsQuiet after → held ≡ []) → IsQuiet after → kept ≡ []) → Holds
  comes-nothing due suspends bytes none nothing few quiet = record {
    goes = ap (λ (es : List Event). list_any is_retire es) none;
    sent = ap (λ (es : List Event). bytes_sent es) none ∙ ap (λ (ns : List ℕ). length ns) (sym nothing);
    passed = ap (λ (es : List Event). count_by is_passed es) none ∙ ap (λ (b : Bool). cond b 1 0) (sym due);
    suspends = ap (λ (es : List Event). count_by is_suspend es) none ∙ sym suspends;
    bytes = bytes ∙ ap (λ (ns : List ℕ). ns ++ kept) (sym nothing);
    few = few;
    quiet = λ before after_quiet. let Q : List Event → Type 0 = λ es. IsQuiet (followed after es) in quiet before (subst Q none after_quiet);
    suspended = λ not. ap (λ (es : List Event). is_suspended (followed after es)) none ∙ not;
  }

  comes-waits : makes_check ended (length held) ≡ false → suspended_by ended ≡ 0 → released_by ended ≡ [] → events ≡ [] → Waits held kept piece → Holds
  comes-waits due suspends bytes none stays =
      comes-nothing due suspends (ap (λ (ns : List ℕ). held ++ ns) bytes ∙ append-nil held ∙ sym stays.0) none stays.1
      (λ few. subst (λ (ns : List ℕ). length ns < most_held) (sym stays.0) few) (λ before quiet. stays.0 ∙ before quiet)

  comes-settles : (all : List ℕ) → makes_check ended (length held) ≡ true → suspended_by ended ≡ 0 → held ++ released_by ended ≡ all → Settles all events kept piece → Holds
  comes-settles all due suspends bytes settles =
      let middle : List Event = settles.check.middle in
      let checked : List Event = Note marks.CheckStart ∷ (middle ++ Note marks.CheckPassed ∷ []) in
      let parts : events ≡ checked ++ mark_sent all = settles.events_are ∙ ap (λ (es : List Event). es ++ mark_sent all) settles.check.events_are in
      let calm : AllCalm middle = calm-accesses middle (blocks-access middle (log-blocks middle settles.check.blocks)) in
      let started : History = Note marks.CheckStart ◂ after in
      let passed : History = Note marks.CheckPassed ◂ followed started middle in
      let history_is : followed after events ≡ followed passed (mark_sent all) =
      ap (λ (es : List Event). followed after es) parts ∙ followed-append after checked (mark_sent all)
      ∙ ap (λ (h : History). followed h (mark_sent all)) (followed-append started middle (Note marks.CheckPassed ∷ [])) in
      record {
        goes = ap (λ (es : List Event). list_any is_retire es) parts
            ∙ both-go-on checked (mark_sent all) (both-go-on (Note marks.CheckStart ∷ middle) (Note marks.CheckPassed ∷ []) (calm-goes middle calm) refl) (goes-mark all);
        sent =
            let e : bytes_sent (checked ++ mark_sent all) ≡ bytes_sent checked + bytes_sent (mark_sent all) = sent-append checked (mark_sent all) in
            let f : bytes_sent checked ≡ bytes_sent middle + 0 = sent-append (Note marks.CheckStart ∷ middle) (Note marks.CheckPassed ∷ []) in
            let n : bytes_sent middle ≡ 0 = calm-sent middle calm in
            let m : bytes_sent (mark_sent all) ≡ length all = sent-mark all in
            let sum_is : bytes_sent (checked ++ mark_sent all) ≡ length all = omega (arith, e, f, n, m) in
            ap (λ (es : List Event). bytes_sent es) parts ∙ sum_is ∙ ap (λ (ns : List ℕ). length ns) (sym settles.handed);
        passed =
            let count_is : count_by is_passed (checked ++ mark_sent all) ≡ 1 = check-count is_passed middle all (calm-count is_passed (λ event calm. calm.passed) middle calm) (passed-mark all) in
            ap (λ (es : List Event). count_by is_passed es) parts ∙ count_is ∙ ap (λ (b : Bool). cond b 1 0) (sym due);
        suspends =
            let count_is : count_by is_suspend (checked ++ mark_sent all) ≡ 0 = check-count is_suspend middle all (calm-count is_suspend (λ event calm. calm.suspend) middle calm) (suspend-mark all) in
            ap (λ (es : List Event). count_by is_suspend es) parts ∙ count_is ∙ sym suspends;
        bytes = bytes ∙ sym settles.handed ∙ sym (append-nil piece) ∙ ap (λ (ns : List ℕ). piece ++ ns) (sym settles.none);
        few = λ few. subst (λ (ns : List ℕ). length ns < most_held) (sym settles.none) (omega arith);
        quiet = λ before quiet. settles.none;
        suspended = λ not. ap (λ (h : History). is_suspended h) history_is ∙ suspended-mark passed all ∙ calm-suspended started middle calm ∙ not;
      }

  comes-suspension : makes_check ended (length held) ≡ false → suspended_by ended ≡ 1 → released_by ended ≡ [] → IsSuspension events → Waits held kept piece → Holds
  comes-suspension due suspends bytes suspension stays =
      let phase : List Event = suspension.phase in
      let parts : events ≡ Note marks.Suspend ∷ (phase ++ Note marks.Resume ∷ []) = suspension.events_are in
      let calm : AllCalm phase = calm-untrusted-all phase (phase-untrusted phase (record { end = suspension.end; phase = suspension.untrusted })) in
      let started : History = Note marks.Suspend ◂ after in
      let history_is : followed after events ≡ Note marks.Resume ◂ followed started phase =
      ap (λ (es : List Event). followed after es) parts ∙ followed-append started phase (Note marks.Resume ∷ []) in
      record {
        goes = ap (λ (es : List Event). list_any is_retire es) parts ∙ both-go-on (Note marks.Suspend ∷ phase) (Note marks.Resume ∷ []) (calm-goes phase calm) refl;
        sent =
            let e : bytes_sent (Note marks.Suspend ∷ (phase ++ Note marks.Resume ∷ [])) ≡ bytes_sent phase + 0 = sent-append (Note marks.Suspend ∷ phase) (Note marks.Resume ∷ []) in
            let n : bytes_sent phase ≡ 0 = calm-sent phase calm in
            let sum_is : bytes_sent (Note marks.Suspend ∷ (phase ++ Note marks.Resume ∷ [])) ≡ 0 = omega (arith, e, n) in
            ap (λ (es : List Event). bytes_sent es) parts ∙ sum_is ∙ ap (λ (ns : List ℕ). length ns) (sym stays.1);
        passed = ap (λ (es : List Event). count_by is_passed es) parts
            ∙ between-count is_passed (Note marks.Suspend) (Note marks.Resume) phase (calm-count is_passed (λ event calm. calm.passed) phase calm) ∙ ap (λ (b : Bool). cond b 1 0) (sym due);
        suspends = ap (λ (es : List Event). count_by is_suspend es) parts
            ∙ between-count is_suspend (Note marks.Suspend) (Note marks.Resume) phase (calm-count is_suspend (λ event calm. calm.suspend) phase calm) ∙ sym suspends;
        bytes = ap (λ (ns : List ℕ). held ++ ns) bytes ∙ append-nil held ∙ sym stays.0 ∙ ap (λ (ns : List ℕ). ns ++ kept) (sym stays.1);
        few = λ few. subst (λ (ns : List ℕ). length ns < most_held) (sym stays.0) few;
        quiet = λ before quiet.
            let Q : History → Type 0 = λ h. IsQuiet h in
            stays.0 ∙ before (quiet-before (Note marks.Suspend) after refl (calm-quiet started phase calm (quiet-before (Note marks.Resume) (followed started phase) refl (subst Q history_is quiet))));
        suspended = λ not. ap (λ (h : History). is_suspended h) history_is;
      }

comes-released : (after : History) (byte : ℕ) (held : List ℕ) (events : List Event) (kept piece : List ℕ) → Releases after (byte % 2 ^ 8) held events kept piece
    → Comes after (end.Released byte) held events kept piece
comes-released after byte held events kept piece (at_once quiet none made stays handed) =
    let few : (length held + 1 == most_held) ≡ false = ap (λ (ns : List ℕ). length ns + 1 == most_held) none in
    record {
      goes = ap (λ (es : List Event). list_any is_retire es) made;
      sent = ap (λ (es : List Event). bytes_sent es) made ∙ ap (λ (ns : List ℕ). length ns) (sym handed);
      passed = ap (λ (es : List Event). count_by is_passed es) made ∙ ap (λ (b : Bool). cond b 1 0) (sym few);
      suspends = ap (λ (es : List Event). count_by is_suspend es) made;
      bytes = ap (λ (ns : List ℕ). ns ++ byte % 2 ^ 8 ∷ []) none ∙ sym handed ∙ sym (append-nil piece) ∙ ap (λ (ns : List ℕ). piece ++ ns) (sym stays);
      few = λ few. subst (λ (ns : List ℕ). length ns < most_held) (sym stays) (omega arith);
      quiet = λ before quiet. stays;
      suspended = λ not. ap (λ (es : List Event). is_suspended (followed after es)) made ∙ not;
    }
comes-released after byte held events kept piece (waits not few made stays handed) =
    let below : (length held + 1 == most_held) ≡ false = not-same (length held + 1) most_held (λ same. let none : ⊥ = omega (arith, same, few) in none) in
    comes-nothing after (end.Released byte) held events kept piece below refl (sym stays) made handed
    (λ before. subst (λ (ns : List ℕ). length ns < most_held) (sym stays) (omega (arith, few, length-append held (byte % 2 ^ 8 ∷ []))))
    (λ before quiet. absurd (not (before quiet) quiet))
comes-released after byte held events kept piece (fills not full settles) =
    comes-settles after (end.Released byte) held events kept piece (held ++ byte % 2 ^ 8 ∷ []) (ap (λ (n : ℕ). n == most_held) full) refl refl settles

pub comes-counts : (after : History) (ended : StepEnd) (held : List ℕ) (events : List Event) (kept piece : List ℕ) → IsNoStop ended → ComesAfter ended after held events kept piece
    → Comes after ended held events kept piece
comes-counts after (end.Released byte) held events kept piece none comes = comes-released after byte held events kept piece comes
comes-counts after end.Check held events kept piece none comes = comes-settles after end.Check held events kept piece held refl refl (append-nil held) comes
comes-counts after end.Exit held events kept piece none comes = comes-settles after end.Exit held events kept piece held refl refl (append-nil held) comes
comes-counts after (end.Index place) held events kept piece none comes = comes-settles after (end.Index place) held events kept piece held refl refl (append-nil held) comes
comes-counts after (end.Divide place) held events kept piece none comes = comes-settles after (end.Divide place) held events kept piece held refl refl (append-nil held) comes
comes-counts after end.Suspend held events kept piece none comes = comes-suspension after end.Suspend held events kept piece refl refl refl comes.0 comes.1
comes-counts after (end.Stopped reason) held events kept piece none comes = absurd (none reason refl)
comes-counts after end.Next held events kept piece none comes = comes-waits after end.Next held events kept piece refl refl refl comes.0 comes.1
comes-counts after end.Input held events kept piece none comes = comes-waits after end.Input held events kept piece refl refl refl comes.0 comes.1
comes-counts after end.Resume held events kept piece none comes = comes-waits after end.Resume held events kept piece refl refl refl comes.0 comes.1
comes-counts after end.Enter held events kept piece none comes = comes-waits after end.Enter held events kept piece refl refl refl comes.0 comes.1
comes-counts after (end.Private on) held events kept piece none comes = comes-waits after (end.Private on) held events kept piece refl refl refl comes.0 comes.1

-- ---- the mark of a piece is the last event

-- events end with the mark of a piece
pub record EndsSent (events : List Event) (piece : List ℕ) : Type 0 where
  pub front : List Event
  pub last : events ≡ front ++ Note (marks.Sent (length piece)) ∷ []

mark-sends : (held : List ℕ) → (held ≡ [] → ⊥) → mark_sent held ≡ Note (marks.Sent (length held)) ∷ []
mark-sends [] some = absurd (some refl)
mark-sends (byte ∷ held) some = refl

sends-after : (front : List Event) (held piece : List ℕ) (events : List Event) → events ≡ front ++ mark_sent held → piece ≡ held → (piece ≡ [] → ⊥) → EndsSent events piece
sends-after front held piece events same is some =
    let P : List ℕ → Type 0 = λ bytes. (bytes ≡ [] → ⊥) → EndsSent events bytes in
    subst P (sym is) (λ more. record { front = front; last = same ∙ ap (λ (es : List Event). front ++ es) (mark-sends held more) }) some

settles-sends : (held : List ℕ) (events : List Event) (kept piece : List ℕ) → (piece ≡ [] → ⊥) → Settles held events kept piece → EndsSent events piece
settles-sends held events kept piece some settles = sends-after settles.checked held piece events settles.events_are settles.handed some

pub comes-sends : (ended : StepEnd) (older : History) (held : List ℕ) (events : List Event) (kept piece : List ℕ) → (piece ≡ [] → ⊥) → ComesAfter ended older held events kept piece
    → EndsSent events piece
comes-sends (end.Released byte) older held events kept piece some (at_once quiet none made stays handed) = sends-after [] _ piece events made handed some
comes-sends (end.Released byte) older held events kept piece some (waits not few made stays handed) = absurd (some handed)
comes-sends (end.Released byte) older held events kept piece some (fills not full settles) = settles-sends _ events kept piece some settles
comes-sends end.Check older held events kept piece some comes = settles-sends held events kept piece some comes
comes-sends end.Exit older held events kept piece some comes = settles-sends held events kept piece some comes
comes-sends (end.Index place) older held events kept piece some comes = settles-sends held events kept piece some comes
comes-sends (end.Divide place) older held events kept piece some comes = settles-sends held events kept piece some comes
comes-sends end.Suspend older held events kept piece some comes = absurd (some comes.1.1)
comes-sends ended older held events kept piece some comes = absurd (some comes.1.1)
