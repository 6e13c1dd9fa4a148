-- A machine goes on from one boundary to the next one.
use Rattle.std.proofs.Common.{◌≡◌, ℕ, suc, ◌+◌, ◌≤◌, arith, Bool, true, false, cond, leb, List, [], ◌∷◌, ◌++◌, length, length-append, take, Option, Some, None, is_some, refl, sym, ap, ◌∙◌, subst}
use Rattle.std.specs.Prelude.{IsTrue, count_by}
use Rattle.std.specs.List.{list_all, list_any}
use Rattle.std.proofs.lemmas.Bool.{and_parts, le-leb, or_parts}
use Rattle.std.proofs.lemmas.List.{append-nil, append_assoc, take-append-le}
use Rattle.execution.specs.Run.{Next, Goes, Stops, state_of}
use Rattle.regions.specs.declared.Layout.{Layout}
use Rattle.regions.specs.declared.Mode.{Mode}
use Rattle.regions.specs.declared.Access.TheVariants.{Fetch}
use Rattle.regions.specs.Modes.{is_secure}
use Rattle.off_chip.specs.declared.Event.{Event}
use Rattle.off_chip.specs.declared.Event.TheVariants.{BlockRead, BlockWrite, WordRead, WordWrite, Note}
use Rattle.off_chip.specs.declared.Mark.TheVariants as marks
use Rattle.off_chip.specs.declared.Who.TheVariants.{Secure, Untrusted}
use Rattle.off_chip.specs.Boundaries.{enter_events, is_boundary, is_retire, is_step, is_suspend, retired, since_step, suspensions}
use Rattle.off_chip.specs.Epochs.{IsQuiet, SentInQuiet, is_passed}
use Rattle.off_chip.specs.ExchangedWords.{bytes_sent}
use Rattle.off_chip.specs.Histories.{History, no_event, ◌◂◌, followed, history, in_order, AtEach, Each}
use Rattle.off_chip.proofs.HistoryLemmas.{AtEach-at, AtEach-weaker, followed-append, history-append, in_order-history}
use Rattle.orbis_core.specs.declared.StepEnd.{StepEnd}
use Rattle.orbis_core.specs.declared.StepEnd.TheVariants as end
use Rattle.orbis_core.specs.declared.Stop.TheVariants as stop
use Rattle.orbis_core.specs.declared.Why.{Why}
use Rattle.orbis_core.specs.declared.Why.TheVariants as why
use Rattle.orbis_core.specs.declared.Port.{Port}
use Rattle.orbis_core.specs.Accesses.{Accesses}
use Rattle.orbis_core.specs.Ideal.{Ideal, IdealEnd, Ended, Index, Divide, Refused, from_reads, secure_at}
use Rattle.orbis_core.specs.OwnMemory.{Answers, HasInput, comes_to, is_permitted, secure_of_end}
use Rattle.orbis_core.specs.Processor.{Processor}
use Rattle.orbis_core.specs.Refusals.{word_refusal}
use Rattle.orbis_core.specs.Rows.{IsNoStop, Machine, Steps}
use Rattle.bus_machine.specs.BusAccesses.{Makes, MeetsBus, Sight, is_access_event, is_block_event}
use Rattle.bus_machine.specs.BusData.{ChecksOnce, EndsAtLast, EndsSo, GoesOn, GoesOnAtEach, SendsSo, StartsDue, at_boundary, before_step, check_due, needs_check, sent_before_step}
use Rattle.bus_machine.specs.BusMachine.{LoadedProgram, Veil, blocks_taken, bus_machine, bus_step, bus_step_after, word_among}
use Rattle.bus_machine.specs.BusSteps.{StepsOnBus}
use Rattle.bus_machine.specs.BusTurns.{reading}
use Rattle.bus_machine.proofs.BusStepLemmas.{step-on-bus}
use Rattle.bus_machine.proofs.TurnLemmas.{goes-over}
use Rattle.aegis_machine.specs.Boundaries.{BoundariesFollow, FitsPhases, GoesOnFuelled, IsWholePhase, SaidAfter, SaidOfRun, StandsAtBoundary, is_suspended, is_untrusted}
use Rattle.aegis_machine.specs.FuelTests.{HasFuel}
use Rattle.aegis_machine.specs.InstructionsDone.{ComesAfter, makes_check}
use Rattle.aegis_machine.specs.Ties.{IsTied, RefusedTied, Retires, StandsAfter, end_of, released_by}
use Rattle.aegis_machine.proofs.AlongLemmas.{AllCalm, blocks-access, calm-access, calm-accesses, calm-count, calm-goes, calm-quiet, calm-sent, calm-since, calm-suspended, calm-untrusted, calm-untrusted-all, count-append, count-cons, each-along, fuelled-along, fuelled-at, longer, longer-along, no-step, on-true, quiet-before, sent-append, steps-along}
use Rattle.aegis_machine.proofs.CheckLemmas.{asks-secure, granted, secure_in, needs-due, needs-none, quiet-step}
use Rattle.aegis_machine.proofs.ComesLemmas.{Comes, IsSteady, comes-counts, each-comes, each-fails, phase-untrusted, suspended_by}
use Rattle.aegis_machine.proofs.LogEvents.{log-blocks}
use Rattle.aegis_machine.proofs.TieLemmas.{Reached, both-go-on, comes, reached, same-next, same-start, settled-of, steps-tied, trace-last, trace-new, veil-last, word-left}

-- ---- what holds of single events, whatever is done

no-retire : (event : Event) → is_retire event ≡ false → is_retire event ≡ true → ⊥
no-retire event not is = let e : false ≡ true = sym not ∙ is in cc

pub checks-other : (veil : Veil) (program : LoadedProgram) (event : Event) (older : History) → is_retire event ≡ false → ChecksOnce veil program event older
checks-other veil program event older not = λ retires entered. absurd (no-retire event not retires)

pub starts-access : (veil : Veil) (program : LoadedProgram) (event : Event) (older : History) → is_access_event event ≡ true → StartsDue veil program event older
starts-access veil program (BlockRead at block) older is = tt
starts-access veil program (BlockWrite at block) older is = tt
starts-access veil program (WordRead by at word) older is = tt
starts-access veil program (WordWrite by at word) older is = tt
starts-access veil program (Note (marks.Drop at)) older is = tt
starts-access veil program (Note mark) older is = let e : false ≡ true = is in cc

starts-untrusted : (veil : Veil) (program : LoadedProgram) (event : Event) (older : History) → is_untrusted event ≡ true → StartsDue veil program event older
starts-untrusted veil program (BlockRead at block) older is = tt
starts-untrusted veil program (BlockWrite at block) older is = tt
starts-untrusted veil program (WordRead by at word) older is = tt
starts-untrusted veil program (WordWrite by at word) older is = tt
starts-untrusted veil program (Note (marks.Retire by)) older is = tt
starts-untrusted veil program (Note mark) older is = let e : false ≡ true = is in cc

pub sent-access : (event : Event) (older : History) → is_access_event event ≡ true → SentInQuiet event older
sent-access (BlockRead at block) older is = tt
sent-access (BlockWrite at block) older is = tt
sent-access (WordRead by at word) older is = tt
sent-access (WordWrite by at word) older is = tt
sent-access (Note (marks.Drop at)) older is = tt
sent-access (Note mark) older is = let e : false ≡ true = is in cc

sent-untrusted : (event : Event) (older : History) → is_untrusted event ≡ true → SentInQuiet event older
sent-untrusted (BlockRead at block) older is = tt
sent-untrusted (BlockWrite at block) older is = tt
sent-untrusted (WordRead by at word) older is = tt
sent-untrusted (WordWrite by at word) older is = tt
sent-untrusted (Note (marks.Retire by)) older is = tt
sent-untrusted (Note mark) older is = let e : false ≡ true = is in cc

pub fits-access : (event : Event) (older : History) → is_access_event event ≡ true → FitsPhases event older
fits-access (BlockRead at block) older is = λ by. let e : false ≡ true = by in cc
fits-access (BlockWrite at block) older is = λ by. let e : false ≡ true = by in cc
fits-access (WordRead Secure at word) older is = λ by. let e : false ≡ true = by in cc
fits-access (WordRead Untrusted at word) older is = let e : false ≡ true = is in cc
fits-access (WordWrite Secure at word) older is = λ by. let e : false ≡ true = by in cc
fits-access (WordWrite Untrusted at word) older is = let e : false ≡ true = is in cc
fits-access (Note (marks.Drop at)) older is = λ by. let e : false ≡ true = by in cc
fits-access (Note mark) older is = let e : false ≡ true = is in cc

fits-untrusted : (event : Event) (older : History) → is_untrusted event ≡ true → is_suspended older ≡ true → FitsPhases event older
fits-untrusted (BlockRead at block) older is on = λ by. on
fits-untrusted (BlockWrite at block) older is on = λ by. on
fits-untrusted (WordRead by at word) older is on = λ by. on
fits-untrusted (WordWrite by at word) older is on = λ by. on
fits-untrusted (Note (marks.Retire by)) older is on = λ by. on
fits-untrusted (Note mark) older is on = let e : false ≡ true = is in cc

fits-along : (older : History) (events : List Event) → list_all is_untrusted events ≡ true → is_suspended older ≡ true → Each FitsPhases older → Each FitsPhases (followed older events)
fits-along older [] all on each = each
fits-along older (event ∷ events) all on each =
    let parts = and_parts (is_untrusted event) (list_all is_untrusted events) all in
    let calm = calm-untrusted event parts.0 in
    fits-along (event ◂ older) events parts.1 (calm-suspended older (event ∷ []) (calm, tt) ∙ on) (each, fits-untrusted event older parts.0 on)

-- a step of no secure instruction asks for no check
plain-due : (ended : StepEnd) → is_some (secure_of_end ended) ≡ false → IsNoStop ended → (held : ℕ) → makes_check ended held ≡ false
plain-due end.Next plain none held = refl
plain-due (end.Stopped reason) plain none held = refl
plain-due (end.Private true) plain none held = refl
plain-due (end.Private false) plain none held = refl
plain-due ended plain none held = let f : true ≡ false = plain in cc

-- what a step that the mode permits releases and counts
bytes-by : (ended : StepEnd) (state : Ideal) → IsNoStop ended → (state_of (comes_to ended state)).traffic.bytes ≡ state.traffic.bytes ++ released_by ended
bytes-by (end.Stopped reason) state none = absurd (none reason refl)
bytes-by (end.Released byte) state none = refl
bytes-by (end.Private true) state none = sym (append-nil state.traffic.bytes)
bytes-by (end.Private false) state none = sym (append-nil state.traffic.bytes)
bytes-by ended state none = sym (append-nil state.traffic.bytes)

suspensions-by : (ended : StepEnd) (state : Ideal) → IsNoStop ended → (state_of (comes_to ended state)).traffic.suspensions ≡ state.traffic.suspensions + suspended_by ended
suspensions-by (end.Stopped reason) state none = absurd (none reason refl)
suspensions-by end.Suspend state none = refl
suspensions-by (end.Private true) state none = omega arith
suspensions-by (end.Private false) state none = omega arith
suspensions-by ended state none = omega arith

pub count-none : (test : Event → Bool) (events : List Event) → list_any test events ≡ false → count_by test events ≡ 0
count-none test [] none = refl
count-none test (event ∷ events) none =
    let parts = or_parts (test event) (list_any test events) none in
    let e : count_by test (event ∷ events) ≡ 0 + count_by test events = count-cons test event events ∙ ap (λ (b : Bool). cond b 1 0 + count_by test events) parts.0 in
    let f : count_by test events ≡ 0 = count-none test events parts.1 in omega (arith, e, f)

one-byte : (ended : StepEnd) → length (released_by ended) ≤ 1
one-byte (end.Released byte) = omega arith
one-byte ended = omega arith

-- ---- the start of the step that is under way

before-at : (entry : ℕ) (older : History) → since_step entry older ≡ [] → before_step entry older ≡ older
before-at entry no_event at = refl
before-at entry (event ◂ older) at = by (is_step entry (event ◂ older)) at
  where
    none : {T : Type 0} (xs : List T) (x : T) → xs ++ x ∷ [] ≡ [] → ⊥
    none [] x is = cc
    none (y ∷ xs) x is = cc

    by : (b : Bool) → cond b [] (since_step entry older ++ event ∷ []) ≡ [] → cond b (event ◂ older) (before_step entry older) ≡ event ◂ older
    by true is = refl
    by false is = absurd (none (since_step entry older) event is)

before-along : (entry : ℕ) (older : History) (events : List Event) → entry ≤ length (in_order older) → list_any is_retire events ≡ false → before_step entry (followed older events) ≡ before_step entry older
before-along entry older [] entered none = refl
before-along entry older (event ∷ events) entered none =
    let parts = or_parts (is_retire event) (list_any is_retire events) none in
    before-along entry (event ◂ older) events (longer entry event older entered) parts.1
    ∙ ap (λ (b : Bool). cond b (event ◂ older) (before_step entry older)) (no-step entry event older entered parts.0)

step-at : (entry : ℕ) (older : History) → entry ≤ length (in_order older) → since_step entry older ≡ [] → is_step entry older ≡ true
step-at entry no_event entered at = le-leb entry 0 entered
step-at entry (event ◂ older) entered at = by (is_step entry (event ◂ older)) at
  where
    none : {T : Type 0} (xs : List T) (x : T) → xs ++ x ∷ [] ≡ [] → ⊥
    none [] x is = cc
    none (y ∷ xs) x is = cc

    by : (b : Bool) → cond b [] (since_step entry older ++ event ∷ []) ≡ [] → b ≡ true
    by true is = refl
    by false is = absurd (none (since_step entry older) event is)

-- ---- bytes

sends-more : (veil : Veil) (program : LoadedProgram) (handed_out piece : List ℕ) (older : History) → SendsSo veil program handed_out older → SendsSo veil program (handed_out ++ piece) older
sends-more veil program handed_out piece older sends = record {
  held = sends.held;
  counted = let e : length (handed_out ++ piece) ≡ length handed_out + length piece = length-append handed_out piece in omega (arith, e, sends.counted);
  released = sends.released ∙ ap (λ (bytes : List ℕ). bytes ++ sends.held) (sym (take-append-le (bytes_sent (in_order older)) handed_out piece sends.counted));
  few = sends.few;
  quiet = sends.quiet;
}

take-all : (bytes : List ℕ) (n : ℕ) → n ≡ length bytes → take n bytes ≡ bytes
take-all [] n is = ap (λ (m : ℕ). take m []) is
take-all (byte ∷ bytes) n is =
    let long : n ≡ suc (length bytes) = omega (arith, is) in
    ap (λ (m : ℕ). take m (byte ∷ bytes)) long ∙ ap (λ (xs : List ℕ). byte ∷ xs) (take-all bytes (length bytes) refl)

-- ---- what is said of the events so far

record Along (veil : Veil) (program : LoadedProgram) (fuel : ℕ) (handed_out : List ℕ) (older : History) : Type 0 where
  sends : AtEach (at_boundary program) (SendsSo veil program handed_out) older
  goes : AtEach (at_boundary program) (GoesOn veil program) older
  checks : Each (ChecksOnce veil program) older
  starts : Each (StartsDue veil program) older
  suspends : AtEach (at_boundary program) (λ older. suspensions (in_order older) ≡ (state_of (bus_machine veil program older)).traffic.suspensions) older
  waiting : Each SentInQuiet older
  phases : Each FitsPhases older
  over : is_suspended older ≡ false
  fuelled : Each (GoesOnFuelled program.layout fuel) older

along-more : (veil : Veil) (program : LoadedProgram) (fuel : ℕ) (handed_out piece : List ℕ) (older : History) → Along veil program fuel handed_out older → Along veil program fuel (handed_out ++ piece) older
along-more veil program fuel handed_out piece older along = record {
  sends = AtEach-weaker (at_boundary program) (SendsSo veil program handed_out) (SendsSo veil program (handed_out ++ piece))
      (λ before passes sends. sends-more veil program handed_out piece before sends) older along.sends;
  goes = along.goes;
  checks = along.checks;
  starts = along.starts;
  suspends = along.suspends;
  waiting = along.waiting;
  phases = along.phases;
  over = along.over;
  fuelled = along.fuelled;
}

said-along : (veil : Veil) (program : LoadedProgram) (fuel : ℕ) (handed_out : List ℕ) (end : Option IdealEnd) (older : History)
    → Along veil program fuel handed_out older → EndsSo veil program end older → SaidOfRun veil program fuel handed_out end older
said-along veil program fuel handed_out end older along ends = record {
  bus_data = record { sends = along.sends; ends = ends; checks = along.checks; starts = along.starts; suspends = along.suspends };
  waiting = record { each = along.waiting };
  phases = record { each = along.phases; over = along.over };
  fuelled = record { each = along.fuelled };
}

-- a step of no secure instruction goes on
plain-next : (e : StepEnd) → is_some (secure_of_end e) ≡ false → IsNoStop e → (start after : Ideal) (next : Next Ideal IdealEnd) → Answers e start after next → next ≡ Goes after
plain-next end.Next plain none start after next answers = answers
plain-next (end.Stopped reason) plain none start after next answers = absurd (none reason refl)
plain-next (end.Private true) plain none start after next answers = let e : true ≡ false = plain in cc
plain-next (end.Private false) plain none start after next answers = let e : true ≡ false = plain in cc
plain-next e plain none start after next answers = let f : true ≡ false = plain in cc

-- ---- a step

module _ {M : Type 0} (sight : Sight M) (accesses : Accesses M) (meets : MeetsBus sight accesses) (program : LoadedProgram) (fuel : ℕ) (handed_out held : List ℕ) (old : Machine M)
    (stands : StandsAtBoundary sight program fuel handed_out held old) (has_fuel : HasFuel program.layout fuel (length (sight.trace old.memory))) where
  abbrev tie : IsTied sight program old
  tie = stands.tied

  abbrev V : Veil
  V = sight.veil old.memory

  abbrev older : History
  older = history (sight.trace old.memory)

  abbrev entry : ℕ
  entry = enter_events program.layout

  entered : entry ≤ length (in_order older)
  entered = tie.stands.entered

  fuel-here : HasFuel program.layout fuel (length (in_order older))
  fuel-here = let P : List Event → Type 0 = λ t. HasFuel program.layout fuel (length t) in subst P (sym (in_order-history (sight.trace old.memory))) has_fuel

  sent-here : bytes_sent (in_order older) ≡ length handed_out
  sent-here = ap (λ (t : List Event). bytes_sent t) (in_order-history (sight.trace old.memory)) ∙ stands.counted

  suspended-here : suspensions (in_order older) ≡ tie.state.traffic.suspensions
  suspended-here =
      AtEach-at (at_boundary program) (λ h. suspensions (in_order h) ≡ (state_of (bus_machine V program h)).traffic.suspensions) older stands.said.bus_data.suspends
      (step-at entry older entered tie.stands.boundary)
      ∙ ap (λ (n : Next Ideal IdealEnd). (state_of n).traffic.suspensions) tie.stands.goes

  quiet-here : IsQuiet older → held ≡ []
  quiet-here quiet =
      let sends = AtEach-at (at_boundary program) (SendsSo V program handed_out) older stands.said.bus_data.sends (step-at entry older entered tie.stands.boundary) in
      let none : sends.held ≡ [] = sends.quiet quiet in
      let first : take (bytes_sent (in_order older)) handed_out ≡ handed_out = take-all handed_out (bytes_sent (in_order older)) sent-here in
      let bytes : handed_out ++ held ≡ handed_out ++ sends.held =
      sym stands.released ∙ ap (λ (n : Next Ideal IdealEnd). (state_of n).traffic.bytes) (sym tie.stands.goes) ∙ sends.released ∙ ap (λ (xs : List ℕ). xs ++ sends.held) first in
      same-rest handed_out held (bytes ∙ ap (λ (xs : List ℕ). handed_out ++ xs) none ∙ append-nil handed_out)
    where
      same-rest : (first rest : List ℕ) → first ++ rest ≡ first → rest ≡ []
      same-rest [] rest is = is
      same-rest (x ∷ first) rest is = same-rest first rest (let e : first ++ rest ≡ first = cc in e)

  along-here : Along V program fuel handed_out older
  along-here = record {
    sends = stands.said.bus_data.sends;
    goes = stands.said.bus_data.ends.each;
    checks = stands.said.bus_data.checks;
    starts = stands.said.bus_data.starts;
    suspends = stands.said.bus_data.suspends;
    waiting = stands.said.waiting.each;
    phases = stands.said.phases.each;
    over = stands.said.phases.over;
    fuelled = stands.said.fuelled.each;
  }

  -- the step, and its events
  module _ (middle : Machine M) (ended : StepEnd) (step : Steps accesses old ended middle) where
    abbrev on : StepsOnBus sight old middle ended
    on = step-on-bus sight accesses meets old middle ended tie.secure step

    abbrev stepped : History
    stepped = followed older on.events

    calm : AllCalm on.events
    calm = calm-accesses on.events on.accesses

    trace-middle : history (sight.trace middle.memory) ≡ stepped
    trace-middle = trace-new sight accesses meets program old middle ended tie step

    -- further events, none of which ends an instruction
    along-events : (after : History) (events : List Event) (handed : List ℕ) → entry ≤ length (in_order after) → list_any is_retire events ≡ false
        → AtEach (at_boundary program) (SendsSo V program handed) after → AtEach (at_boundary program) (SendsSo V program handed) (followed after events)
    along-events after events handed entered none sends = steps-along entry (SendsSo V program handed) after events entered none sends

    along-stepped : Along V program fuel handed_out stepped
    along-stepped =
        let none : list_any is_retire on.events ≡ false = calm-goes on.events calm in
        let along = along-here in
        record {
          sends = steps-along entry (SendsSo V program handed_out) older on.events entered none along.sends;
          goes = steps-along entry (GoesOn V program) older on.events entered none along.goes;
          checks = each-along (ChecksOnce V program) is_access_event (λ event older is. checks-other V program event older (calm-access event is).goes) older on.events on.accesses along.checks;
          starts = each-along (StartsDue V program) is_access_event (starts-access V program) older on.events on.accesses along.starts;
          suspends = steps-along entry (λ h. suspensions (in_order h) ≡ (state_of (bus_machine V program h)).traffic.suspensions) older on.events entered none along.suspends;
          waiting = each-along SentInQuiet is_access_event sent-access older on.events on.accesses along.waiting;
          phases = each-along FitsPhases is_access_event fits-access older on.events on.accesses along.phases;
          over = calm-suspended older on.events calm ∙ along.over;
          fuelled = fuelled-along program.layout fuel older on.events entered none fuel-here along.fuelled;
        }

    -- seen after further events
    along-at : (handed : List ℕ) (after : History) (memory : M) → history (sight.trace memory) ≡ after → Along V program fuel handed after
        → Along V program fuel handed (history (sight.trace memory))
    along-at handed after memory trace along = let P : History → Type 0 = λ h. Along V program fuel handed h in subst P (sym trace) along

    along-middle : (piece : List ℕ) → Along V program fuel (handed_out ++ piece) (history (sight.trace middle.memory))
    along-middle piece = along-at (handed_out ++ piece) stepped middle.memory trace-middle (along-more V program fuel handed_out piece stepped along-stepped)

    said-none : (handed : List ℕ) (memory : M) → Along V program fuel handed (history (sight.trace memory)) → SaidAfter sight program fuel handed None old.memory memory
    said-none handed memory along = said-along V program fuel handed None (history (sight.trace memory)) along (record { each = along.goes })

    -- it was refused
    said-refused : (reason : Why) (piece : List ℕ) → RefusedTied sight program reason middle.memory → SaidAfter sight program fuel (handed_out ++ piece) (Some (Refused reason)) old.memory middle.memory
    said-refused reason piece tied =
        let along = along-middle piece in
        let P : Veil → Type 0 = λ v. bus_step_after entry v program (history (sight.trace middle.memory)) ≡ Stops (Refused reason) tied.at in
        said-along V program fuel (handed_out ++ piece) (Some (Refused reason)) (history (sight.trace middle.memory)) along (record { each = along.goes }, (tied.at, subst P on.makes.veil tied.refused))

    -- ---- whether a check is due

    -- over further events the bus machine has the memory with the blocks that were read
    due-at : (events : List Event) → list_any is_retire events ≡ false → (due : Bool)
        → needs_check program.layout (Goes (reading V program events tie.state)) (length handed_out) ≡ due → check_due V program (followed older events) ≡ due
    due-at events none due is =
        let over = goes-over V program older tie.state events tie.stands none in
        ap (λ (n : Next Ideal IdealEnd). needs_check program.layout n (sent_before_step program (followed older events))) over.taken
        ∙ ap (λ (h : History). needs_check program.layout (Goes (reading V program events tie.state)) (bytes_sent (in_order h)))
        (before-along entry older events entered none ∙ before-at entry older tie.stands.boundary)
        ∙ ap (λ (n : ℕ). needs_check program.layout (Goes (reading V program events tie.state)) n) sent-here
        ∙ is

    long : length tie.state.traffic.bytes ≡ length handed_out + length held
    long = ap (λ (bytes : List ℕ). length bytes) stands.released ∙ length-append handed_out held

    fetch-granted : IsNoStop ended → word_refusal program.layout tie.state.mode Fetch tie.state.core.pc ≡ None
    fetch-granted none =
        ap (λ (l : Layout). word_refusal l tie.state.mode Fetch tie.state.core.pc) (sym tie.layout)
        ∙ ap (λ (m : Mode). word_refusal (sight.layout old.memory) m Fetch tie.state.core.pc) tie.mode
        ∙ ap (λ (c : Processor). word_refusal (sight.layout old.memory) (sight.mode old.memory) Fetch c.pc) tie.core
        ∙ granted sight accesses meets old middle ended tie.secure step none

    -- where the word that was fetched is as it was
    secure-here : (events : List Event) → is_some (secure_of_end ended) ≡ true → IsNoStop ended
        → blocks_taken (sight.layout old.memory) V events tie.state.memory old.core.pc ≡ blocks_taken (sight.layout old.memory) V on.events tie.state.memory old.core.pc
        → secure_at (reading V program events tie.state) ≡ secure_of_end ended
    secure-here events secured none same =
        let later = on.goes_later secured tie.state.memory tie.state.traffic tie.agrees tie.input []
        (ap (λ (es : List Event). blocks_taken (sight.layout old.memory) V es tie.state.memory old.core.pc) (append-nil on.events)) in
        let asks = asks-secure sight accesses meets old middle ended tie.secure step secured none (blocks_taken (sight.layout old.memory) V on.events tie.state.memory) later.agrees in
        ap (λ (s : Ideal). secure_at s) (same-start sight accesses meets program old middle ended tie step events)
        ∙ ap (λ (w : ℕ). secure_in old.core w) same
        ∙ asks

    pub due-secure : (events : List Event) → list_any is_retire events ≡ false → is_some (secure_of_end ended) ≡ true → IsNoStop ended
        → blocks_taken (sight.layout old.memory) V events tie.state.memory old.core.pc ≡ blocks_taken (sight.layout old.memory) V on.events tie.state.memory old.core.pc
        → check_due V program (followed older events) ≡ makes_check ended (length held)
    due-secure events goes secured none same =
        due-at events goes (makes_check ended (length held))
        (needs-due program.layout (reading V program events tie.state) ended (length handed_out) (length held) none (fetch-granted none) long (secure-here events secured none same))

    due-plain : is_some (secure_of_end ended) ≡ false → IsNoStop ended → check_due V program stepped ≡ false
    due-plain plain none =
        let along = on.goes_along (settled-of ended none) tie.state.memory tie.state.traffic tie.agrees tie.input in
        let same = same-next sight accesses meets program old middle ended tie step on.events in
        let start = same-start sight accesses meets program old middle ended tie step on.events in
        let next : bus_step program.layout on.events (reading V program on.events tie.state) ≡ Goes along.after = same ∙ plain-next ended plain none _ along.after _ along.answers in
        due-at on.events (calm-goes on.events calm) false
        (needs-none program.layout (reading V program on.events tie.state) (length handed_out)
        (quiet-step (reading V program on.events tie.state) along.after along.exchanged (length tie.state.traffic.bytes) (length handed_out) program.layout (from_reads (word_among on.events)) next))

    due-stepped : IsNoStop ended → check_due V program stepped ≡ makes_check ended (length held)
    due-stepped none = by (is_some (secure_of_end ended)) refl
      where
        by : (b : Bool) → is_some (secure_of_end ended) ≡ b → check_due V program stepped ≡ makes_check ended (length held)
        by true secured = due-secure on.events (calm-goes on.events calm) secured none refl
        by false plain = due-plain plain none ∙ sym (plain-due ended plain none (length held))

    -- ---- what comes after it

    -- each kind of what is said, of single events
    steady-checks : (due : Bool) → IsSteady (ChecksOnce V program) stepped due
    steady-checks due = record {
      on_access = λ event older is. checks-other V program event older (calm-access event is).goes;
      on_start = λ is. checks-other V program (Note marks.CheckStart) stepped refl;
      on_passed = λ older. checks-other V program (Note marks.CheckPassed) older refl;
      on_sent = λ n older quiet. checks-other V program (Note (marks.Sent n)) older refl;
      on_suspend = checks-other V program (Note marks.Suspend) stepped refl;
      on_phase = λ events whole each. each-along (ChecksOnce V program) is_untrusted (λ event older is. checks-other V program event older (calm-untrusted event is).goes)
          (Note marks.Suspend ◂ stepped) events (phase-untrusted events whole) each;
      on_resume = λ events whole. checks-other V program (Note marks.Resume) (followed (Note marks.Suspend ◂ stepped) events) refl;
    }

    steady-starts : IsNoStop ended → IsSteady (StartsDue V program) stepped (makes_check ended (length held))
    steady-starts none = record {
      on_access = starts-access V program;
      on_start = λ is. due-stepped none ∙ is;
      on_passed = λ older. tt;
      on_sent = λ n older quiet. tt;
      on_suspend = tt;
      on_phase = λ events whole each. each-along (StartsDue V program) is_untrusted (starts-untrusted V program) (Note marks.Suspend ◂ stepped) events (phase-untrusted events whole) each;
      on_resume = λ events whole. tt;
    }

    steady-sent : (due : Bool) → IsSteady SentInQuiet stepped due
    steady-sent due = record {
      on_access = sent-access;
      on_start = λ is. tt;
      on_passed = λ older. tt;
      on_sent = λ n older quiet. quiet;
      on_suspend = tt;
      on_phase = λ events whole each. each-along SentInQuiet is_untrusted sent-untrusted (Note marks.Suspend ◂ stepped) events (phase-untrusted events whole) each;
      on_resume = λ events whole. tt;
    }

    steady-phases : (due : Bool) → IsSteady FitsPhases stepped due
    steady-phases due = record {
      on_access = fits-access;
      on_start = λ is by. let e : false ≡ true = by in cc;
      on_passed = λ older by. let e : false ≡ true = by in cc;
      on_sent = λ n older quiet by. let e : false ≡ true = by in cc;
      on_suspend = along-stepped.over;
      on_phase = λ events whole each. fits-along (Note marks.Suspend ◂ stepped) events (phase-untrusted events whole) refl each;
      on_resume = λ events whole.
          let started : History = Note marks.Suspend ◂ stepped in
          let calm = calm-untrusted-all events (phase-untrusted events whole) in
          let P : List Event → Type 0 = λ es. IsWholePhase es in
          (calm-suspended started events calm, subst P (sym (calm-since started events calm)) whole);
    }

    module _ (more : List Event) (kept piece : List ℕ) (none : IsNoStop ended) (comes : ComesAfter ended (history (sight.trace middle.memory)) held more kept piece) where
      abbrev came : History
      came = followed stepped more

      comes-stepped : ComesAfter ended stepped held more kept piece
      comes-stepped = let P : History → Type 0 = λ h. ComesAfter ended h held more kept piece in subst P trace-middle comes

      counts : Comes stepped ended held more kept piece
      counts = comes-counts stepped ended held more kept piece none comes-stepped

      entered-stepped : entry ≤ length (in_order stepped)
      entered-stepped = longer-along entry older on.events entered

      goes-all : list_any is_retire (on.events ++ more) ≡ false
      goes-all = both-go-on on.events more (calm-goes on.events calm) counts.goes

      same-came : followed older (on.events ++ more) ≡ came
      same-came = followed-append older on.events more

      along-came : Along V program fuel (handed_out ++ piece) came
      along-came =
          let along = along-more V program fuel handed_out piece stepped along-stepped in
          let due : Bool = makes_check ended (length held) in
          let P : History → Type 0 = λ h. Each (GoesOnFuelled program.layout fuel) h in
          record {
            sends = steps-along entry (SendsSo V program (handed_out ++ piece)) stepped more entered-stepped counts.goes along.sends;
            goes = steps-along entry (GoesOn V program) stepped more entered-stepped counts.goes along.goes;
            checks = each-comes (ChecksOnce V program) stepped ended held more kept piece none comes-stepped (steady-checks due) along.checks;
            starts = each-comes (StartsDue V program) stepped ended held more kept piece none comes-stepped (steady-starts none) along.starts;
            suspends = steps-along entry (λ h. suspensions (in_order h) ≡ (state_of (bus_machine V program h)).traffic.suspensions) stepped more entered-stepped counts.goes along.suspends;
            waiting = each-comes SentInQuiet stepped ended held more kept piece none comes-stepped (steady-sent due) along.waiting;
            phases = each-comes FitsPhases stepped ended held more kept piece none comes-stepped (steady-phases due) along.phases;
            over = counts.suspended along.over;
            fuelled = subst P same-came (fuelled-along program.layout fuel older (on.events ++ more) entered goes-all fuel-here along-here.fuelled);
          }

      said-came : (new : M) → Makes sight more middle.memory new → SaidAfter sight program fuel (handed_out ++ piece) None old.memory new
      said-came new makes =
          said-none (handed_out ++ piece) new
          (along-at (handed_out ++ piece) came new
          (history-append (sight.trace new) (sight.trace middle.memory) more makes.trace ∙ ap (λ (h : History). followed h more) trace-middle) along-came)

    -- a check that did not pass
    module _ (checked : List Event) (blocks : list_all is_block_event checked ≡ true) (due : makes_check ended (length held) ≡ true) (none : IsNoStop ended) where
      abbrev failed : List Event
      failed = Note marks.CheckStart ∷ checked

      goes-failed : list_any is_retire failed ≡ false
      goes-failed = calm-goes checked (calm-accesses checked (blocks-access checked blocks))

      along-failed : Along V program fuel handed_out (followed stepped failed)
      along-failed =
          let along = along-stepped in
          let entered : entry ≤ length (in_order stepped) = longer-along entry older on.events entered in
          let started : History = Note marks.CheckStart ◂ stepped in
          let P : History → Type 0 = λ h. Each (GoesOnFuelled program.layout fuel) h in
          let Q : Bool → Type 0 = λ b. IsSteady (StartsDue V program) stepped b in
          record {
            sends = steps-along entry (SendsSo V program handed_out) stepped failed entered goes-failed along.sends;
            goes = steps-along entry (GoesOn V program) stepped failed entered goes-failed along.goes;
            checks = each-fails (ChecksOnce V program) stepped checked blocks (steady-checks true) along.checks;
            starts = each-fails (StartsDue V program) stepped checked blocks (subst Q due (steady-starts none)) along.starts;
            suspends = steps-along entry (λ h. suspensions (in_order h) ≡ (state_of (bus_machine V program h)).traffic.suspensions) stepped failed entered goes-failed along.suspends;
            waiting = each-fails SentInQuiet stepped checked blocks (steady-sent true) along.waiting;
            phases = each-fails FitsPhases stepped checked blocks (steady-phases true) along.phases;
            over = calm-suspended started checked (calm-accesses checked (blocks-access checked blocks)) ∙ along.over;
            fuelled = subst P (followed-append older on.events failed)
                (fuelled-along program.layout fuel older (on.events ++ failed) tie.stands.entered (both-go-on on.events failed (calm-goes on.events calm) goes-failed) fuel-here along-here.fuelled);
          }

      said-failed : (piece : List ℕ) (new : M) → Makes sight failed middle.memory new → SaidAfter sight program fuel (handed_out ++ piece) None old.memory new
      said-failed piece new makes =
          said-none (handed_out ++ piece) new
          (along-at (handed_out ++ piece) (followed stepped failed) new
          (history-append (sight.trace new) (sight.trace middle.memory) failed makes.trace ∙ ap (λ (h : History). followed h failed) trace-middle)
          (along-more V program fuel handed_out piece (followed stepped failed) along-failed))

    -- ---- it was done

    module _ (more : List Event) (kept piece : List ℕ) (last : M) (none : IsNoStop ended) (permitted : is_permitted (secure_of_end ended) (sight.mode old.memory) ≡ true)
        (comes-after : ComesAfter ended (history (sight.trace middle.memory)) held more kept piece) (retires : Retires sight ended more middle.memory last) where
      abbrev all : List Event
      all = on.events ++ more

      abbrev marked : History
      marked = Note (marks.Retire Secure) ◂ followed older all

      abbrev out : List ℕ
      out = handed_out ++ piece

      counted-up : Comes stepped ended held more kept piece
      counted-up = counts more kept piece none comes-after

      history-last : history (sight.trace last) ≡ marked
      history-last = trace-last sight accesses meets program old middle ended tie step more last none retires

      veil-same : sight.veil last ≡ V
      veil-same = veil-last sight accesses meets program old middle ended tie step more last none retires

      at : Reached sight accesses meets program old middle ended tie step all last
      at = reached sight accesses meets program old middle ended tie step more last none retires (is_some (secure_of_end ended)) refl

      next-is : bus_machine V program marked ≡ comes_to ended at.after
      next-is = comes sight accesses meets program old middle ended tie step more last none retires at permitted

      released-last : (state_of (bus_machine V program marked)).traffic.bytes ≡ out ++ kept
      released-last =
          ap (λ (n : Next Ideal IdealEnd). (state_of n).traffic.bytes) next-is
          ∙ bytes-by ended at.after none
          ∙ ap (λ (bytes : List ℕ). bytes ++ released_by ended) (at.exchanged.bytes ∙ stands.released)
          ∙ append_assoc handed_out held (released_by ended)
          ∙ ap (λ (bytes : List ℕ). handed_out ++ bytes) counted-up.bytes
          ∙ sym (append_assoc handed_out piece kept)

      trace-parts : sight.trace last ≡ sight.trace old.memory ++ (all ++ Note (marks.Retire Secure) ∷ [])
      trace-parts =
          retires.trace ∙ ap (λ (t : List Event). t ++ (more ++ Note (marks.Retire Secure) ∷ [])) on.makes.trace
          ∙ append_assoc (sight.trace old.memory) on.events (more ++ Note (marks.Retire Secure) ∷ [])
          ∙ ap (λ (t : List Event). sight.trace old.memory ++ t) (sym (append_assoc on.events more (Note (marks.Retire Secure) ∷ [])))

      sent-last : bytes_sent (sight.trace last) ≡ length out
      sent-last =
          let a : bytes_sent (sight.trace last) ≡ bytes_sent (sight.trace old.memory) + bytes_sent (all ++ Note (marks.Retire Secure) ∷ []) =
          ap (λ (t : List Event). bytes_sent t) trace-parts ∙ sent-append (sight.trace old.memory) (all ++ Note (marks.Retire Secure) ∷ []) in
          let b : bytes_sent (all ++ Note (marks.Retire Secure) ∷ []) ≡ bytes_sent all + 0 = sent-append all (Note (marks.Retire Secure) ∷ []) in
          let c : bytes_sent all ≡ bytes_sent on.events + bytes_sent more = sent-append on.events more in
          let d : bytes_sent on.events ≡ 0 = calm-sent on.events calm in
          let e : bytes_sent more ≡ length piece = counted-up.sent in
          let f : length out ≡ length handed_out + length piece = length-append handed_out piece in
          let g : bytes_sent (sight.trace old.memory) ≡ length handed_out = stands.counted in
          omega (arith, a, b, c, d, e, f, g)

      count-last : (test : Event → Bool) → count_by test (sight.trace last) ≡ count_by test (sight.trace old.memory) + (count_by test on.events + count_by test more + cond (test (Note (marks.Retire Secure))) 1 0)
      count-last test =
          let mark : List Event = Note (marks.Retire Secure) ∷ [] in
          let a : count_by test (sight.trace last) ≡ count_by test (sight.trace old.memory) + count_by test (all ++ mark) =
          ap (λ (t : List Event). count_by test t) trace-parts ∙ count-append test (sight.trace old.memory) (all ++ mark) in
          let b : count_by test (all ++ mark) ≡ count_by test all + count_by test mark = count-append test all mark in
          let c : count_by test all ≡ count_by test on.events + count_by test more = count-append test on.events more in
          let d : count_by test mark ≡ cond (test (Note (marks.Retire Secure))) 1 0 + 0 = count-cons test (Note (marks.Retire Secure)) [] in
          omega (arith, a, b, c, d)

      in-order-last : in_order marked ≡ sight.trace last
      in-order-last = ap (λ (h : History). in_order h) (sym history-last) ∙ in_order-history (sight.trace last)

      suspends-last : suspensions (in_order marked) ≡ (state_of (bus_machine V program marked)).traffic.suspensions
      suspends-last =
          let a : count_by is_suspend (sight.trace last) ≡ count_by is_suspend (sight.trace old.memory) + (count_by is_suspend on.events + count_by is_suspend more + 0) = count-last is_suspend in
          let b : count_by is_suspend on.events ≡ 0 = calm-count is_suspend (λ event calm. calm.suspend) on.events calm in
          let c : count_by is_suspend more ≡ suspended_by ended = counted-up.suspends in
          let d : count_by is_suspend (sight.trace old.memory) ≡ tie.state.traffic.suspensions =
          ap (λ (t : List Event). suspensions t) (sym (in_order-history (sight.trace old.memory))) ∙ suspended-here in
          let e : at.after.traffic.suspensions ≡ tie.state.traffic.suspensions = at.exchanged.suspensions in
          let f : (state_of (bus_machine V program marked)).traffic.suspensions ≡ at.after.traffic.suspensions + suspended_by ended =
          ap (λ (n : Next Ideal IdealEnd). (state_of n).traffic.suspensions) next-is ∙ suspensions-by ended at.after none in
          let g : suspensions (in_order marked) ≡ count_by is_suspend (sight.trace last) = ap (λ (t : List Event). suspensions t) in-order-last in
          omega (arith, a, b, c, d, e, f, g)

      retired-last : retired (sight.trace last) ≡ retired (sight.trace old.memory) + 1
      retired-last =
          let a : count_by is_retire (sight.trace last) ≡ count_by is_retire (sight.trace old.memory) + (count_by is_retire on.events + count_by is_retire more + 1) = count-last is_retire in
          let b : count_by is_retire on.events ≡ 0 = count-none is_retire on.events (calm-goes on.events calm) in
          let c : count_by is_retire more ≡ 0 = count-none is_retire more counted-up.goes in
          omega (arith, a, b, c)

      due-all : check_due V program (followed older all) ≡ makes_check ended (length held)
      due-all = by (is_some (secure_of_end ended)) refl
        where
          by : (b : Bool) → is_some (secure_of_end ended) ≡ b → check_due V program (followed older all) ≡ makes_check ended (length held)
          by true secured = due-secure all (goes-all more kept piece none comes-after) secured none (word-left sight accesses meets program old middle ended tie step more last none retires)
          by false plain =
              let same : all ≡ on.events = ap (λ (es : List Event). on.events ++ es) (retires.none plain) ∙ append-nil on.events in
              ap (λ (es : List Event). check_due V program (followed older es)) same ∙ due-plain plain none ∙ sym (plain-due ended plain none (length held))

      -- whether the check that was due passed
      passed-last : ChecksOnce V program (Note (marks.Retire Secure)) (followed older all)
      passed-last retire entered =
          let over = goes-over V program older tie.state all tie.stands (goes-all more kept piece none comes-after) in
          let a : count_by is_passed all ≡ count_by is_passed on.events + count_by is_passed more = count-append is_passed on.events more in
          let b : count_by is_passed on.events ≡ 0 = calm-count is_passed (λ event calm. calm.passed) on.events calm in
          let c : count_by is_passed all ≡ count_by is_passed more = omega (arith, a, b) in
          ap (λ (es : List Event). count_by is_passed es) over.under_way ∙ c ∙ counted-up.passed ∙ ap (λ (b : Bool). cond b 1 0) (sym due-all)

      along-all : Along V program fuel out (followed older all)
      along-all =
          let P : History → Type 0 = λ h. Along V program fuel out h in
          subst P (sym (same-came more kept piece none comes-after)) (along-came more kept piece none comes-after)

      sends-last : SendsSo V program out marked
      sends-last =
          let sent : bytes_sent (in_order marked) ≡ length out = ap (λ (t : List Event). bytes_sent t) in-order-last ∙ sent-last in
          let P : History → Type 0 = λ h. IsQuiet h in
          record {
            held = kept;
            counted = omega (arith, sent);
            released = released-last ∙ ap (λ (bytes : List ℕ). bytes ++ kept) (sym (take-all out (bytes_sent (in_order marked)) sent));
            few = counted-up.few stands.few;
            quiet = λ quiet.
                counted-up.quiet (λ before. quiet-here (calm-quiet older on.events calm before))
                (subst P (same-came more kept piece none comes-after) (quiet-before (Note (marks.Retire Secure)) (followed older all) refl quiet));
          }

      said-last : (end : Option IdealEnd) → EndsSo V program end marked → SaidOfRun V program fuel out end marked
      said-last end ends =
          let along = along-all in
          record {
            bus_data = record {
              sends = (along.sends, on-true (at_boundary program marked) (SendsSo V program out marked) sends-last);
              ends = ends;
              checks = (along.checks, passed-last);
              starts = (along.starts, tt);
              suspends = (along.suspends, on-true (at_boundary program marked) (suspensions (in_order marked) ≡ (state_of (bus_machine V program marked)).traffic.suspensions) suspends-last);
            };
            waiting = record { each = (along.waiting, tt) };
            phases = record { each = (along.phases, λ by. let e : false ≡ true = by in cc); over = along.over };
            fuelled = record { each = (along.fuelled, fuelled-at program.layout fuel older all (Note (marks.Retire Secure)) entered (goes-all more kept piece none comes-after) fuel-here) };
          }

      goes-last : (state : Ideal) → bus_machine V program marked ≡ Goes state → GoesOnAtEach V program marked
      goes-last state goes = record { each = (along-all.goes, on-true (at_boundary program marked) (GoesOn V program marked) (record { state = state; goes = goes })) }

      stops-last : (end : IdealEnd) → bus_machine V program marked ≡ Stops end at.after → EndsAtLast V program end marked
      stops-last end stops = record {
        event = Note (marks.Retire Secure);
        before = followed older all;
        last = refl;
        retires = refl;
        going = record { each = along-all.goes };
        at = at.after;
        ended = stops;
      }

      ends-by : (e : StepEnd) → IsNoStop e → bus_machine V program marked ≡ comes_to e at.after → EndsSo V program (end_of e) marked
      ends-by end.Exit none is = stops-last Ended is
      ends-by (end.Index place) none is = stops-last (Index place) is
      ends-by (end.Divide place) none is = stops-last (Divide place) is
      ends-by (end.Stopped reason) none is = absurd (none reason refl)
      ends-by (end.Private true) none is = goes-last _ is
      ends-by (end.Private false) none is = goes-last _ is
      ends-by e none is = goes-last _ is

      said-ended : SaidAfter sight program fuel out (end_of ended) old.memory last
      said-ended =
          let P : History → Type 0 = λ h. SaidOfRun V program fuel out (end_of ended) h in
          subst P (sym history-last) (said-last (end_of ended) (ends-by ended none next-is))

      -- and the machine stands there
      stands-last : (core : Processor) (port : Port) → core ≡ middle.core → port ≡ middle.port → end_of ended ≡ None
          → StandsAtBoundary sight program fuel out kept (record { core = core; memory = last; port = port })
      stands-last core port same_core same_port goes =
          let new : Machine M = record { core = core; memory = last; port = port } in
          let P : Option IdealEnd → Type 0 = λ e. StandsAfter sight program e (record middle { memory = last }) in
          let tied : IsTied sight program (record middle { memory = last }) = subst P goes ((steps-tied sight accesses meets).retired program old middle ended more last tie step none permitted retires) in
          let Q : Option IdealEnd → Type 0 = λ e. SaidOfRun V program fuel out e (history (sight.trace last)) in
          let U : Veil → Type 0 = λ v. SaidOfRun v program fuel out None (history (sight.trace last)) in
          let bytes : tied.state.traffic.bytes ≡ out ++ kept =
          ap (λ (n : Next Ideal IdealEnd). (state_of n).traffic.bytes) (sym tied.stands.goes)
          ∙ ap (λ (v : Veil). (state_of (bus_machine v program (history (sight.trace last)))).traffic.bytes) veil-same
          ∙ ap (λ (h : History). (state_of (bus_machine V program h)).traffic.bytes) history-last
          ∙ released-last in
          record {
            tied = record {
              state = tied.state;
              stands = tied.stands;
              layout = tied.layout;
              core = tied.core ∙ sym same_core;
              mode = tied.mode;
              secure = tied.secure;
              agrees = tied.agrees;
              input = let R : Port → Type 0 = λ p. HasInput p tied.state.traffic in subst R (sym same_port) tied.input;
            };
            said = subst U (sym veil-same) (subst Q goes said-ended);
            counted = sent-last;
            released = bytes;
            few = counted-up.few stands.few;
            slow =
                let a : length (held ++ released_by ended) ≡ length (piece ++ kept) = ap (λ (xs : List ℕ). length xs) counted-up.bytes in
                let b : length (held ++ released_by ended) ≡ length held + length (released_by ended) = length-append held (released_by ended) in
                let c : length (piece ++ kept) ≡ length piece + length kept = length-append piece kept in
                let d : length out ≡ length handed_out + length piece = length-append handed_out piece in
                let e : length (released_by ended) ≤ 1 = one-byte ended in
                omega (arith, a, b, c, d, e, retired-last, stands.slow);
          }

-- ---- no step but one that is done retires

pub steps-retire : {M : Type 0} (sight : Sight M) (accesses : Accesses M) → MeetsBus sight accesses → (old new : Machine M) (ended : StepEnd) → IsTrue (is_secure (sight.mode old.memory))
    → Steps accesses old ended new → retired (sight.trace new.memory) ≡ retired (sight.trace old.memory)
steps-retire sight accesses meets old new ended secure step =
    let on = step-on-bus sight accesses meets old new ended secure step in
    let a : count_by is_retire (sight.trace new.memory) ≡ count_by is_retire (sight.trace old.memory) + count_by is_retire on.events =
    ap (λ (t : List Event). count_by is_retire t) on.makes.trace ∙ count-append is_retire (sight.trace old.memory) on.events in
    let b : count_by is_retire on.events ≡ 0 = count-none is_retire on.events (calm-goes on.events (calm-accesses on.events on.accesses)) in
    omega (arith, a, b)

pub check-retires : {M : Type 0} (sight : Sight M) (events checked : List Event) (old new : M) → Makes sight events old new → events ≡ Note marks.CheckStart ∷ checked
    → list_all is_block_event checked ≡ true → retired (sight.trace new) ≡ retired (sight.trace old)
check-retires sight events checked old new makes are blocks =
    let a : count_by is_retire (sight.trace new) ≡ count_by is_retire (sight.trace old) + count_by is_retire (Note marks.CheckStart ∷ checked) =
    ap (λ (t : List Event). count_by is_retire t) makes.trace ∙ ap (λ (es : List Event). count_by is_retire (sight.trace old ++ es)) are
    ∙ count-append is_retire (sight.trace old) (Note marks.CheckStart ∷ checked) in
    let b : count_by is_retire (Note marks.CheckStart ∷ checked) ≡ 0 = count-none is_retire (Note marks.CheckStart ∷ checked) (calm-goes checked (calm-accesses checked (blocks-access checked blocks))) in
    omega (arith, a, b)

-- a boundary after entering is one
pub boundary-at : (entry : ℕ) (older : History) → entry ≤ length (in_order older) → since_step entry older ≡ [] → is_boundary entry older ≡ true
boundary-at entry older entered at = (and_parts (is_boundary entry older) (leb entry (length (in_order older))) (step-at entry older entered at)).0

-- ---- the law

pub boundaries-follow : {M : Type 0} (sight : Sight M) (accesses : Accesses M) → MeetsBus sight accesses → BoundariesFollow sight accesses
boundaries-follow {M} sight accesses meets = record {
  goes = λ program fuel handed_out held kept piece ended old new stands has_fuel done goes. (
    stands-last sight accesses meets program fuel handed_out held old stands has_fuel done.middle ended done.made.steps done.more kept piece new.memory
        done.made.not_stopped done.made.permitted done.comes done.retires new.core new.port done.core done.port goes,
    veil-same sight accesses meets program fuel handed_out held old stands has_fuel done.middle ended done.made.steps done.more kept piece new.memory
        done.made.not_stopped done.made.permitted done.comes done.retires,
    retired-last sight accesses meets program fuel handed_out held old stands has_fuel done.middle ended done.made.steps done.more kept piece new.memory
        done.made.not_stopped done.made.permitted done.comes done.retires,
  );
  ends = λ program fuel handed_out held kept piece ended old new stands has_fuel done.
      said-ended sight accesses meets program fuel handed_out held old stands has_fuel done.middle ended done.made.steps done.more kept piece new.memory
      done.made.not_stopped done.made.permitted done.comes done.retires;
  refused = λ program fuel handed_out held kept piece reason old new stands has_fuel stopped.
      said-refused sight accesses meets program fuel handed_out held old stands has_fuel new (end.Stopped (stop.Refused reason)) stopped.steps reason piece
      ((steps-tied sight accesses meets).refused program old new reason stands.tied stopped.steps);
  forbidden = λ program fuel handed_out held kept piece old new stands has_fuel forbidden.
      said-refused sight accesses meets program fuel handed_out held old stands has_fuel new forbidden.ended forbidden.steps why.Mode piece
      ((steps-tied sight accesses meets).forbidden program old new forbidden.ended stands.tied forbidden.steps forbidden.forbidden);
  stopped = λ program fuel handed_out held kept piece reason old new stands has_fuel stopped.
      said-none sight accesses meets program fuel handed_out held old stands has_fuel new (end.Stopped reason) stopped.steps (handed_out ++ piece) new.memory
      (along-middle sight accesses meets program fuel handed_out held old stands has_fuel new (end.Stopped reason) stopped.steps piece);
  check_fails = λ program fuel handed_out held piece cause old new stands has_fuel fails due.
      let P : List Event → Type 0 = λ es. Makes sight es fails.middle.memory new in
      said-failed sight accesses meets program fuel handed_out held old stands has_fuel fails.middle fails.ended fails.made.steps fails.check.middle (log-blocks fails.check.middle fails.check.blocks) due
      fails.made.not_stopped piece new (subst P fails.check.events_are fails.makes);
  sink_fails = λ program fuel handed_out held piece old new stands has_fuel fails.
      said-came sight accesses meets program fuel handed_out held old stands has_fuel fails.middle fails.ended fails.made.steps fails.more fails.kept piece
      fails.made.not_stopped fails.comes new fails.makes;
}
