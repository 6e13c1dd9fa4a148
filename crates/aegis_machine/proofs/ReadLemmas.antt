-- Reads of tree blocks with the expected digests, over a history that goes on.
use Rattle.std.proofs.Common.{◌≡◌, ℕ, ◌≤◌, ◌||◌, arith, Bool, true, false, List, [], ◌∷◌, ◌++◌, length, length-append, Some, refl, sym, ap, ◌∙◌, subst}
use Rattle.std.specs.List.{list_all, list_any}
use Rattle.std.proofs.lemmas.Bool.{and_parts, or_parts}
use Rattle.aegis_num.specs.declared.Block.{Block}
use Rattle.aegis_num.specs.declared.Place.TheVariants.{Log, Tree}
use Rattle.regions.specs.declared.Layout.{Layout}
use Rattle.off_chip.specs.declared.Event.{Event}
use Rattle.off_chip.specs.declared.Event.TheVariants.{BlockRead, BlockWrite, Note, WordRead, WordWrite}
use Rattle.off_chip.specs.declared.Mark.TheVariants as marks
use Rattle.off_chip.specs.Boundaries.{enter_events}
use Rattle.off_chip.specs.ExpectedDigests.{expected_digest}
use Rattle.off_chip.specs.Histories.{History, no_event, ◌◂◌, followed, history, in_order, Each}
use Rattle.off_chip.proofs.HistoryLemmas.{history-append, in_order-history}
use Rattle.hash_tree.specs.HashTrees.{digests_of}
use Rattle.orbis_core.specs.declared.StepEnd.{StepEnd}
use Rattle.orbis_core.specs.declared.StepEnd.TheVariants as end
use Rattle.aegis_machine.specs.Boundaries.{IsWholePhase, is_untrusted}
use Rattle.aegis_machine.specs.Causes.{ReadExpected, ReadsExpected}
use Rattle.aegis_machine.specs.InstructionsDone.{ComesAfter, IsSuspension, Releases, Settles, at_once, fills, is_log_event, waits}
use Rattle.aegis_machine.specs.Releases.{mark_sent}
use Rattle.aegis_machine.proofs.ComesLemmas.{phase-untrusted}

-- ---- events of which each read of a tree block gives the expected digest

pub record AreExpected (layout : Layout) (older : History) (events : List Event) : Type 0 where
  pub each : (before : List Event) (n : ℕ) (block : Block) (rest : List Event) → events ≡ before ++ BlockRead (Tree n) block ∷ rest
      → expected_digest (digests_of layout) n (followed older before) ≡ Some ((digests_of layout).digest n block)

first-expected : (layout : Layout) (event : Event) (older : History) (events : List Event) → AreExpected layout older (event ∷ events) → ReadExpected layout event older
first-expected layout (BlockRead (Tree n) block) older events are = λ entered. are.each [] n block events refl
first-expected layout (BlockRead (Log n) block) older events are = tt
first-expected layout (BlockWrite at block) older events are = tt
first-expected layout (WordRead by at word) older events are = tt
first-expected layout (WordWrite by at word) older events are = tt
first-expected layout (Note mark) older events are = tt

pub expected-along : (layout : Layout) (older : History) (events : List Event) → AreExpected layout older events → ReadsExpected layout older → ReadsExpected layout (followed older events)
expected-along layout older [] are reads = reads
expected-along layout older (event ∷ events) are reads =
    expected-along layout (event ◂ older) events
    (record { each = λ before n block rest same. are.each (event ∷ before) n block rest (ap (λ (xs : List Event). event ∷ xs) same) })
    (record { each = (reads.each, first-expected layout event older events are) })

pub expected-append : (layout : Layout) (old new events : List Event) → new ≡ old ++ events → AreExpected layout (history old) events → ReadsExpected layout (history old) → ReadsExpected layout (history new)
expected-append layout old new events same are reads =
    let P : History → Type 0 = λ h. ReadsExpected layout h in
    subst P (sym (history-append new old events same)) (expected-along layout (history old) events are reads)

-- ---- events that read no tree block

abbrev pub is_tree_read : Event → Bool
is_tree_read (BlockRead (Tree n) block) = true
is_tree_read event = false

any-there : (before : List Event) (event : Event) (rest : List Event) → is_tree_read event ≡ true → list_any is_tree_read (before ++ event ∷ rest) ≡ true
any-there [] event rest is = ap (λ (b : Bool). b || list_any is_tree_read rest) is
any-there (first ∷ before) event rest is = by (is_tree_read first) (any-there before event rest is)
  where
    by : (b : Bool) → list_any is_tree_read (before ++ event ∷ rest) ≡ true → (b || list_any is_tree_read (before ++ event ∷ rest)) ≡ true
    by true there = refl
    by false there = there

pub none-expected : (layout : Layout) (older : History) (events : List Event) → list_any is_tree_read events ≡ false → AreExpected layout older events
none-expected layout older events none = record {
  each = λ before n block rest same.
      let e : false ≡ true = sym none ∙ ap (λ (xs : List Event). list_any is_tree_read xs) same ∙ any-there before (BlockRead (Tree n) block) rest refl in cc;
}

any-append : (first more : List Event) → list_any is_tree_read first ≡ false → list_any is_tree_read more ≡ false → list_any is_tree_read (first ++ more) ≡ false
any-append [] more none other = other
any-append (event ∷ first) more none other =
    let parts = or_parts (is_tree_read event) (list_any is_tree_read first) none in
    ap (λ (b : Bool). b || list_any is_tree_read (first ++ more)) parts.0 ∙ any-append first more parts.1 other

log-unread : (event : Event) → is_log_event event ≡ true → is_tree_read event ≡ false
log-unread (BlockRead (Log n) block) is = refl
log-unread (BlockRead (Tree n) block) is = let e : false ≡ true = is in cc
log-unread (BlockWrite at block) is = refl
log-unread (WordRead by at word) is = refl
log-unread (WordWrite by at word) is = refl
log-unread (Note mark) is = refl

pub logs-unread : (events : List Event) → list_all is_log_event events ≡ true → list_any is_tree_read events ≡ false
logs-unread [] each = refl
logs-unread (event ∷ events) each =
    let parts = and_parts (is_log_event event) (list_all is_log_event events) each in
    ap (λ (b : Bool). b || list_any is_tree_read events) (log-unread event parts.0) ∙ logs-unread events parts.1

untrusted-unread : (event : Event) → is_untrusted event ≡ true → is_tree_read event ≡ false
untrusted-unread (BlockRead at block) is = let e : false ≡ true = is in cc
untrusted-unread (BlockWrite at block) is = refl
untrusted-unread (WordRead by at word) is = refl
untrusted-unread (WordWrite by at word) is = refl
untrusted-unread (Note mark) is = refl

all-untrusted-unread : (events : List Event) → list_all is_untrusted events ≡ true → list_any is_tree_read events ≡ false
all-untrusted-unread [] each = refl
all-untrusted-unread (event ∷ events) each =
    let parts = and_parts (is_untrusted event) (list_all is_untrusted events) each in
    ap (λ (b : Bool). b || list_any is_tree_read events) (untrusted-unread event parts.0) ∙ all-untrusted-unread events parts.1

-- ---- what comes after a step

mark-unread : (held : List ℕ) → list_any is_tree_read (mark_sent held) ≡ false
mark-unread [] = refl
mark-unread (byte ∷ held) = refl

settles-unread : (held : List ℕ) (events : List Event) (kept piece : List ℕ) → Settles held events kept piece → list_any is_tree_read events ≡ false
settles-unread held events kept piece settles =
    let check = settles.check in
    let middle = logs-unread check.middle check.blocks in
    ap (λ (es : List Event). list_any is_tree_read es) (settles.events_are ∙ ap (λ (es : List Event). es ++ mark_sent held) check.events_are)
    ∙ any-append (Note marks.CheckStart ∷ (check.middle ++ Note marks.CheckPassed ∷ [])) (mark_sent held) (any-append check.middle (Note marks.CheckPassed ∷ []) middle refl) (mark-unread held)

none-unread : (events : List Event) → events ≡ [] → list_any is_tree_read events ≡ false
none-unread events none = ap (λ (es : List Event). list_any is_tree_read es) none

releases-unread : (older : History) (byte : ℕ) (held : List ℕ) (events : List Event) (kept piece : List ℕ) → Releases older byte held events kept piece → list_any is_tree_read events ≡ false
releases-unread older byte held events kept piece (at_once quiet none made stays handed) = ap (λ (es : List Event). list_any is_tree_read es) made
releases-unread older byte held events kept piece (waits not few made stays handed) = none-unread events made
releases-unread older byte held events kept piece (fills not full settles) = settles-unread _ events kept piece settles

suspension-unread : (events : List Event) → IsSuspension events → list_any is_tree_read events ≡ false
suspension-unread events is =
    let whole : IsWholePhase is.phase = record { end = is.end; phase = is.untrusted } in
    ap (λ (es : List Event). list_any is_tree_read es) is.events_are ∙ any-append is.phase (Note marks.Resume ∷ []) (all-untrusted-unread is.phase (phase-untrusted is.phase whole)) refl

pub comes-unread : (ended : StepEnd) (older : History) (held : List ℕ) (events : List Event) (kept piece : List ℕ) → ComesAfter ended older held events kept piece → list_any is_tree_read events ≡ false
comes-unread (end.Released byte) older held events kept piece comes = releases-unread older _ held events kept piece comes
comes-unread end.Check older held events kept piece comes = settles-unread held events kept piece comes
comes-unread end.Exit older held events kept piece comes = settles-unread held events kept piece comes
comes-unread (end.Index place) older held events kept piece comes = settles-unread held events kept piece comes
comes-unread (end.Divide place) older held events kept piece comes = settles-unread held events kept piece comes
comes-unread end.Suspend older held events kept piece comes = suspension-unread events comes.0
comes-unread (end.Private on) older held events kept piece comes = none-unread events comes.0
comes-unread (end.Stopped reason) older held events kept piece comes = none-unread events comes.0
comes-unread end.Next older held events kept piece comes = none-unread events comes.0
comes-unread end.Input older held events kept piece comes = none-unread events comes.0
comes-unread end.Resume older held events kept piece comes = none-unread events comes.0
comes-unread end.Enter older held events kept piece comes = none-unread events comes.0

pub unread-along : (layout : Layout) (old new events : List Event) → new ≡ old ++ events → list_any is_tree_read events ≡ false → ReadsExpected layout (history old) → ReadsExpected layout (history new)
unread-along layout old new events same none reads = expected-append layout old new events same (none-expected layout (history old) events none) reads

pub unread-more : (events more : List Event) → list_any is_tree_read events ≡ false → list_any is_tree_read more ≡ false → list_any is_tree_read (events ++ more) ≡ false
unread-more events more none other = any-append events more none other

-- ---- nothing is said of what entering reads

entering-expected : (layout : Layout) (older : History) → length (in_order older) ≤ enter_events layout → Each (ReadExpected layout) older
entering-expected layout no_event few = tt
entering-expected layout (event ◂ older) few =
    let long = length-append (in_order older) (event ∷ []) in
    (entering-expected layout older (omega (arith, few, long)), first event)
  where
    early : enter_events layout ≤ length (in_order older) → ⊥
    early entered = let long = length-append (in_order older) (event ∷ []) in omega (arith, few, long, entered)

    first : (e : Event) → ReadExpected layout e older
    first (BlockRead (Tree n) block) = λ entered. absurd (early entered)
    first (BlockRead (Log n) block) = tt
    first (BlockWrite at block) = tt
    first (WordRead by at word) = tt
    first (WordWrite by at word) = tt
    first (Note mark) = tt

pub entered-expected : (layout : Layout) (trace : List Event) → length trace ≤ enter_events layout → ReadsExpected layout (history trace)
entered-expected layout trace few = record {
  each = entering-expected layout (history trace) (let e : length (in_order (history trace)) ≡ length trace = ap (λ (t : List Event). length t) (in_order-history trace) in omega (arith, few, e));
}
