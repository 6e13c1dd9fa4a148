-- A machine that is tied to the bus machine of its trace goes on with it.
use Rattle.std.proofs.Common.{◌≡◌, ℕ, ◌<◌, arith, Result, Bool, true, false, List, [], ◌∷◌, ◌++◌, Option, Some, None, is_some, refl, sym, ap, ◌∙◌, subst}
use Rattle.std.specs.Prelude.{IsTrue, if◌then◌else◌}
use Rattle.std.specs.List.{list_all, list_any}
use Rattle.std.proofs.lemmas.Bool.{and_parts, or_from}
use Rattle.std.proofs.lemmas.List.{append-nil, append_assoc}
use Rattle.std.proofs.lemmas.List.Folds.{list_any-append}
use Rattle.execution.specs.Run.{Next, Goes, Stops, state_of}
use Rattle.execution.specs.Traffic.{Traffic}
use Rattle.regions.specs.declared.Layout.{Layout}
use Rattle.regions.specs.declared.addresses.TheConstants.{LOG_START}
use Rattle.regions.specs.declared.Class.TheVariants.{Code}
use Rattle.regions.specs.declared.Access.TheVariants.{Fetch}
use Rattle.regions.specs.Addresses.{class_at}
use Rattle.regions.proofs.AddressLaws.{LiesIn-class_at}
use Rattle.orbis_core.specs.Refusals.{word_refusal}
use Rattle.orbis_core.proofs.IdealLemmas.{code-fetched}
use Rattle.regions.specs.declared.Mode.{Mode}
use Rattle.regions.specs.declared.Mode.TheVariants.{Std, Te, Ptr, Ssp}
use Rattle.regions.specs.Modes.{is_secure, is_standard}
use Rattle.off_chip.specs.declared.Event.{Event}
use Rattle.off_chip.specs.declared.Event.TheVariants.{BlockRead, BlockWrite, WordRead, WordWrite, Note}
use Rattle.off_chip.specs.declared.Mark.TheVariants as marks
use Rattle.off_chip.specs.declared.Who.TheVariants.{Secure}
use Rattle.off_chip.specs.Histories.{History, ◌◂◌, followed, history}
use Rattle.off_chip.specs.Boundaries.{enter_events, is_retire}
use Rattle.off_chip.proofs.HistoryLemmas.{history-append, history-appended}
use Rattle.orbis_core.specs.declared.Port.{Port}
use Rattle.orbis_core.specs.declared.StepEnd.{StepEnd}
use Rattle.orbis_core.specs.declared.StepEnd.TheVariants as end
use Rattle.orbis_core.specs.declared.Stop.{Stop}
use Rattle.orbis_core.specs.declared.Stop.TheVariants as stop
use Rattle.orbis_core.specs.declared.Why.{Why}
use Rattle.orbis_core.specs.declared.Why.TheVariants as why
use Rattle.orbis_core.specs.Accesses.{Accesses}
use Rattle.orbis_core.specs.FlatIsIdeal.{traffic_read}
use Rattle.orbis_core.specs.Ideal.{Ideal, IdealEnd, Ended, Index, Divide, Refused}
use Rattle.orbis_core.specs.OwnMemory.{Answers, HasInput, comes_to, is_permitted, secure_of_end}
use Rattle.orbis_core.specs.Processor.{Processor}
use Rattle.orbis_core.specs.Rows.{Machine, GoesOnAfter, IsSettledEnd, IsStopped, Steps}
use Rattle.bus_machine.specs.BusAccesses.{MeetsBus, ReadsBlock, Sight, UnlessRefused, is_access_event, is_block_event}
use Rattle.bus_machine.specs.BusMachine.{LoadedProgram, Veil, blocks_taken, bus_machine, bus_step, bus_step_after}
use Rattle.bus_machine.specs.BusSteps.{SameButWords, StepsOnBus, bus_state}
use Rattle.bus_machine.specs.BusTurns.{GoesOver, StandsAt, reading}
use Rattle.bus_machine.proofs.BusStepLemmas.{step-on-bus}
use Rattle.bus_machine.proofs.SegmentLemmas.{taken-append}
use Rattle.bus_machine.proofs.TurnLemmas.{goes-over}
use Rattle.aegis_machine.specs.Ties.{EndsTied, IsTied, RefusedTied, Retires, StandsAfter, StepsTied, end_of, mode_after, released_by}

-- ---- events of accesses end no instruction

pub block-goes-on : (event : Event) → is_block_event event ≡ true → is_retire event ≡ false
block-goes-on (BlockRead at block) is = refl
block-goes-on (BlockWrite at block) is = refl
block-goes-on (WordRead by at word) is = refl
block-goes-on (WordWrite by at word) is = refl
block-goes-on (Note (marks.Drop at)) is = refl
block-goes-on (Note mark) is = cc

pub access-goes-on : (event : Event) → is_access_event event ≡ true → is_retire event ≡ false
access-goes-on (BlockRead at block) is = refl
access-goes-on (BlockWrite at block) is = refl
access-goes-on (WordRead by at word) is = refl
access-goes-on (WordWrite by at word) is = refl
access-goes-on (Note mark) is = block-goes-on (Note mark) is

pub accesses-go-on : (events : List Event) → list_all is_access_event events ≡ true → list_any is_retire events ≡ false
accesses-go-on [] all = refl
accesses-go-on (event ∷ events) all =
    let parts = and_parts (is_access_event event) (list_all is_access_event events) all in
    or_from (is_retire event) (list_any is_retire events) (access-goes-on event parts.0) (accesses-go-on events parts.1)

pub both-go-on : (events more : List Event) → list_any is_retire events ≡ false → list_any is_retire more ≡ false → list_any is_retire (events ++ more) ≡ false
both-go-on events more one other = list_any-append is_retire events more ∙ or_from (list_any is_retire events) (list_any is_retire more) one other

-- ---- how steps end

abbrev IsNotStopped : StepEnd → Type 0
IsNotStopped ended = (reason : Stop) → ended ≡ end.Stopped reason → ⊥

pub settled-of : (ended : StepEnd) → IsNotStopped ended → IsSettledEnd ended
settled-of (end.Stopped reason) none = absurd (none reason refl)
settled-of ended none = tt

permitted-next : (ended : StepEnd) (start after : Ideal) (next : Next Ideal IdealEnd) → IsNotStopped ended → Answers ended start after next
    → is_permitted (secure_of_end ended) start.mode ≡ true → next ≡ comes_to ended after
permitted-next (end.Stopped reason) start after next none answers permitted = absurd (none reason refl)
permitted-next end.Next start after next none answers permitted = answers
permitted-next end.Input start after next none answers permitted = answers ∙ ap (λ (b : Bool). if b then comes_to end.Input after else Stops (Refused why.Mode) start) permitted
permitted-next (end.Released byte) start after next none answers permitted = answers ∙ ap (λ (b : Bool). if b then comes_to (end.Released byte) after else Stops (Refused why.Mode) start) permitted
permitted-next end.Check start after next none answers permitted = answers ∙ ap (λ (b : Bool). if b then comes_to end.Check after else Stops (Refused why.Mode) start) permitted
permitted-next end.Suspend start after next none answers permitted = answers ∙ ap (λ (b : Bool). if b then comes_to end.Suspend after else Stops (Refused why.Mode) start) permitted
permitted-next end.Resume start after next none answers permitted = answers ∙ ap (λ (b : Bool). if b then comes_to end.Resume after else Stops (Refused why.Mode) start) permitted
permitted-next end.Enter start after next none answers permitted = answers ∙ ap (λ (b : Bool). if b then comes_to end.Enter after else Stops (Refused why.Mode) start) permitted
permitted-next (end.Private true) start after next none answers permitted = answers ∙ ap (λ (b : Bool). if b then comes_to (end.Private true) after else Stops (Refused why.Mode) start) permitted
permitted-next (end.Private false) start after next none answers permitted = answers ∙ ap (λ (b : Bool). if b then comes_to (end.Private false) after else Stops (Refused why.Mode) start) permitted
permitted-next end.Exit start after next none answers permitted = answers ∙ ap (λ (b : Bool). if b then comes_to end.Exit after else Stops (Refused why.Mode) start) permitted
permitted-next (end.Index place) start after next none answers permitted = answers ∙ ap (λ (b : Bool). if b then comes_to (end.Index place) after else Stops (Refused why.Mode) start) permitted
permitted-next (end.Divide place) start after next none answers permitted = answers ∙ ap (λ (b : Bool). if b then comes_to (end.Divide place) after else Stops (Refused why.Mode) start) permitted

abbrev forbidden_next : Bool → Next Ideal IdealEnd → Ideal → Next Ideal IdealEnd
forbidden_next b come start = if b then come else Stops (Refused why.Mode) start

forbidden-next : (ended : StepEnd) (start after : Ideal) (next : Next Ideal IdealEnd) → Answers ended start after next
    → is_permitted (secure_of_end ended) start.mode ≡ false → next ≡ Stops (Refused why.Mode) start
forbidden-next (end.Stopped reason) start after next answers permitted = let e : true ≡ false = permitted in cc
forbidden-next end.Next start after next answers permitted = let e : true ≡ false = permitted in cc
forbidden-next end.Input start after next answers permitted = answers ∙ ap (λ (b : Bool). forbidden_next b (comes_to end.Input after) start) permitted
forbidden-next (end.Released byte) start after next answers permitted = answers ∙ ap (λ (b : Bool). forbidden_next b (comes_to (end.Released byte) after) start) permitted
forbidden-next end.Check start after next answers permitted = answers ∙ ap (λ (b : Bool). forbidden_next b (comes_to end.Check after) start) permitted
forbidden-next end.Suspend start after next answers permitted = answers ∙ ap (λ (b : Bool). forbidden_next b (comes_to end.Suspend after) start) permitted
forbidden-next end.Resume start after next answers permitted = answers ∙ ap (λ (b : Bool). forbidden_next b (comes_to end.Resume after) start) permitted
forbidden-next end.Enter start after next answers permitted = answers ∙ ap (λ (b : Bool). forbidden_next b (comes_to end.Enter after) start) permitted
forbidden-next (end.Private true) start after next answers permitted = answers ∙ ap (λ (b : Bool). forbidden_next b (comes_to (end.Private true) after) start) permitted
forbidden-next (end.Private false) start after next answers permitted = answers ∙ ap (λ (b : Bool). forbidden_next b (comes_to (end.Private false) after) start) permitted
forbidden-next end.Exit start after next answers permitted = answers ∙ ap (λ (b : Bool). forbidden_next b (comes_to end.Exit after) start) permitted
forbidden-next (end.Index place) start after next answers permitted = answers ∙ ap (λ (b : Bool). forbidden_next b (comes_to (end.Index place) after) start) permitted
forbidden-next (end.Divide place) start after next answers permitted = answers ∙ ap (λ (b : Bool). forbidden_next b (comes_to (end.Divide place) after) start) permitted

forbidden-settled : (ended : StepEnd) (mode : Mode) → is_permitted (secure_of_end ended) mode ≡ false → IsSettledEnd ended
forbidden-settled (end.Stopped reason) mode permitted = let e : true ≡ false = permitted in cc
forbidden-settled ended mode permitted = tt

-- no program enters again
never-enters : (mode : Mode) → IsTrue (is_secure mode) → is_standard mode ≡ true → ⊥
never-enters Std secure standard = let e : false ≡ true = secure in cc
never-enters Te secure standard = cc
never-enters Ptr secure standard = cc
never-enters Ssp secure standard = let e : false ≡ true = secure in cc

-- input is what it was, where what is left is
same-input : (port : Port) (one other : Traffic ℕ) → other.input ≡ one.input → HasInput port one → HasInput port other
same-input port one other same has = record { within = has.within; bytes = has.bytes; rest = same ∙ has.rest }

-- ---- a step

module _ {M : Type 0} (sight : Sight M) (accesses : Accesses M) (meets : MeetsBus sight accesses) (program : LoadedProgram) (old new : Machine M) (ended : StepEnd)
    (tie : IsTied sight program old) (step : Steps accesses old ended new) where
  abbrev V : Veil
  V = sight.veil old.memory

  abbrev older : History
  older = history (sight.trace old.memory)

  abbrev on : StepsOnBus sight old new ended
  on = step-on-bus sight accesses meets old new ended tie.secure step

  abbrev start : List Event → Ideal
  start events = bus_state sight old events tie.state.memory tie.state.traffic

  -- what the bus machine reads is what the step is told over
  pub same-start : (events : List Event) → reading V program events tie.state ≡ start events
  same-start events =
      ap (λ (c : Processor). record { core = c; mode = tie.state.mode; memory = blocks_taken program.layout V events tie.state.memory; traffic = tie.state.traffic }) tie.core
      ∙ ap (λ (m : Mode). record { core = old.core; mode = m; memory = blocks_taken program.layout V events tie.state.memory; traffic = tie.state.traffic }) tie.mode
      ∙ ap (λ (l : Layout). record { core = old.core; mode = sight.mode old.memory; memory = blocks_taken l V events tie.state.memory; traffic = tie.state.traffic }) (sym tie.layout)

  abbrev next : List Event → Next Ideal IdealEnd
  next events = bus_step (sight.layout old.memory) events (start events)

  pub same-next : (events : List Event) → bus_step program.layout events (reading V program events tie.state) ≡ next events
  same-next events =
      ap (λ (s : Ideal). bus_step program.layout events s) (same-start events) ∙ ap (λ (l : Layout). bus_step l events (start events)) (sym tie.layout)

  -- after the events of the step
  pub trace-new : history (sight.trace new.memory) ≡ followed older on.events
  trace-new = history-append (sight.trace new.memory) (sight.trace old.memory) on.events on.makes.trace

  refused-by : (reason : Why) → next on.events ≡ Stops (Refused reason) (start on.events) → RefusedTied sight program reason new.memory
  refused-by reason is =
      let over = goes-over V program older tie.state on.events tie.stands (accesses-go-on on.events on.accesses) in
      record {
        at = start on.events;
        refused = ap (λ (v : Veil). bus_step_after (enter_events program.layout) v program (history (sight.trace new.memory))) on.makes.veil
            ∙ ap (λ (h : History). bus_step_after (enter_events program.layout) V program h) trace-new
            ∙ over.next ∙ same-next on.events ∙ is;
      }

  forbidden : is_permitted (secure_of_end ended) (sight.mode old.memory) ≡ false → RefusedTied sight program why.Mode new.memory
  forbidden permitted =
      let along = on.goes_along (forbidden-settled ended (sight.mode old.memory) permitted) tie.state.memory tie.state.traffic tie.agrees tie.input in
      refused-by why.Mode (forbidden-next ended (start on.events) along.after (next on.events) along.answers permitted)

  -- the step over these events, and what the lines agree with after it
  pub record Reached (events : List Event) (last : M) : Type 0 where
    pub after : Ideal
    pub core : after.core ≡ new.core
    pub mode : after.mode ≡ sight.mode old.memory
    pub agrees : sight.Agrees last after.memory
    pub input : HasInput new.port (traffic_read ended after.traffic)
    pub exchanged : SameButWords tie.state.traffic after.traffic
    pub answers : Answers ended (start events) after (next events)

  -- the program counter is an address of code, which lies before the log
  pub fetched-by : IsNotStopped ended → (r : Option Why) → word_refusal (sight.layout old.memory) (sight.mode old.memory) Fetch old.core.pc ≡ r → old.core.pc < LOG_START
  fetched-by none (Some reason) is =
      let P : Option Why → Type 0 = λ r. UnlessRefused sight r step.answer old.memory step.middle (ReadsBlock sight (λ memory. memory old.core.pc) step.answer old.memory step.middle) in
      let row = subst P is (meets.fetch old.memory step.middle old.core.pc step.answer tie.secure step.fetched) in
      let Q : Result ℕ Stop → Type 0 = λ a. GoesOnAfter accesses a (record old { memory = step.middle }) ended new in
      let stopped : IsStopped (stop.Refused reason) (record old { memory = step.middle }) ended new = subst Q row.0 step.goes_on in
      absurd (none (stop.Refused reason) stopped.ends)
  fetched-by none None is =
      let code : class_at (sight.layout old.memory) old.core.pc ≡ Some Code = code-fetched (sight.layout old.memory) (start []) tie.secure is in
      let lies = LiesIn-class_at (sight.layout old.memory) old.core.pc Code code in
      let fits = (sight.layout old.memory).data_fits in
      let below = lies.1 in
      omega (arith, below, fits)

  module _ (more : List Event) (last : M) (none : IsNotStopped ended) (retires : Retires sight ended more new.memory last) where
    abbrev all : List Event
    all = on.events ++ more

    pub word-left : blocks_taken (sight.layout old.memory) V all tie.state.memory old.core.pc ≡ blocks_taken (sight.layout old.memory) V on.events tie.state.memory old.core.pc
    word-left =
        let taken : ℕ → ℕ = blocks_taken (sight.layout old.memory) V on.events tie.state.memory in
        ap (λ (m : ℕ → ℕ). m old.core.pc) (taken-append (sight.layout old.memory) V on.events more tie.state.memory)
        ∙ ap (λ (l : Layout). blocks_taken l V more taken old.core.pc) (sym on.makes.layout)
        ∙ ap (λ (v : Veil). blocks_taken (sight.layout new.memory) v more taken old.core.pc) (sym on.makes.veil)
        ∙ retires.data_stays taken old.core.pc (fetched-by none (word_refusal (sight.layout old.memory) (sight.mode old.memory) Fetch old.core.pc) refl)

    agrees-later : (memory : ℕ → ℕ) → sight.Agrees new.memory memory → sight.Agrees last (blocks_taken (sight.layout old.memory) V more memory)
    agrees-later memory agrees =
        let P : Layout → Type 0 = λ l. sight.Agrees last (blocks_taken l (sight.veil new.memory) more memory) in
        let Q : Veil → Type 0 = λ v. sight.Agrees last (blocks_taken (sight.layout old.memory) v more memory) in
        subst Q on.makes.veil (subst P on.makes.layout (retires.agrees memory agrees))

    pub reached : (b : Bool) → is_some (secure_of_end ended) ≡ b → Reached all last
    reached true is =
        let later = on.goes_later is tie.state.memory tie.state.traffic tie.agrees tie.input more word-left in
        let P : (ℕ → ℕ) → Type 0 = λ m. sight.Agrees last m in
        record {
          after = record (start all) { core = new.core };
          core = refl;
          mode = refl;
          agrees = subst P (sym (taken-append (sight.layout old.memory) V on.events more tie.state.memory))
              (agrees-later (blocks_taken (sight.layout old.memory) V on.events tie.state.memory) later.agrees);
          input = later.port;
          exchanged = record { input = refl; bytes = refl; releases = refl; checks = refl; suspensions = refl };
          answers = later.answers;
        }
    reached false is =
        let along = on.goes_along (settled-of ended none) tie.state.memory tie.state.traffic tie.agrees tie.input in
        let no_more : more ≡ [] = retires.none is in
        let same : all ≡ on.events = ap (λ (m : List Event). on.events ++ m) no_more ∙ append-nil on.events in
        let P : List Event → Type 0 = λ m. sight.Agrees last (blocks_taken (sight.layout old.memory) V m along.after.memory) in
        let Q : List Event → Type 0 = λ e. Answers ended (start e) along.after (next e) in
        record {
          after = along.after;
          core = along.core;
          mode = along.mode;
          agrees = subst P no_more (agrees-later along.after.memory along.agrees);
          input = along.port;
          exchanged = along.exchanged;
          answers = subst Q (sym same) along.answers;
        }

    -- the history after the mark
    abbrev marked : History
    marked = Note (marks.Retire Secure) ◂ followed older all

    pub trace-last : history (sight.trace last) ≡ marked
    trace-last =
        let parts : sight.trace last ≡ (sight.trace old.memory ++ all) ++ Note (marks.Retire Secure) ∷ [] =
        retires.trace ∙ ap (λ (t : List Event). t ++ (more ++ Note (marks.Retire Secure) ∷ [])) on.makes.trace
        ∙ append_assoc (sight.trace old.memory) on.events (more ++ Note (marks.Retire Secure) ∷ [])
        ∙ ap (λ (t : List Event). sight.trace old.memory ++ t) (sym (append_assoc on.events more (Note (marks.Retire Secure) ∷ [])))
        ∙ sym (append_assoc (sight.trace old.memory) all (Note (marks.Retire Secure) ∷ [])) in
        history-appended (sight.trace old.memory ++ all) (sight.trace last) (Note (marks.Retire Secure)) parts
        ∙ ap (λ (h : History). Note (marks.Retire Secure) ◂ h) (history-append (sight.trace old.memory ++ all) (sight.trace old.memory) all refl)

    pub veil-last : sight.veil last ≡ V
    veil-last = retires.veil ∙ on.makes.veil

    pub over : GoesOver V program older tie.state all
    over = goes-over V program older tie.state all tie.stands (both-go-on on.events more (accesses-go-on on.events on.accesses) retires.others)

    pub comes : (at : Reached all last) → is_permitted (secure_of_end ended) (sight.mode old.memory) ≡ true → bus_machine V program marked ≡ comes_to ended at.after
    comes at permitted = over.done ∙ same-next all ∙ permitted-next ended (start all) at.after (next all) none at.answers permitted

    tied-at : (state : Ideal) → bus_machine V program marked ≡ Goes state → state.core ≡ new.core → state.mode ≡ sight.mode last → IsTrue (is_secure (sight.mode last))
        → sight.Agrees last state.memory → HasInput new.port state.traffic → IsTied sight program (record new { memory = last })
    tied-at state goes core mode secure agrees input =
        let at : StandsAt V program marked state = record { entered = over.entered; boundary = over.boundary; goes = goes } in
        let P : Veil → Type 0 = λ v. StandsAt v program marked state in
        let Q : History → Type 0 = λ h. StandsAt (sight.veil last) program h state in
        record {
          state = state;
          stands = subst Q (sym trace-last) (subst P (sym veil-last) at);
          layout = retires.layout ∙ on.makes.layout ∙ tie.layout;
          core = core;
          mode = mode;
          secure = secure;
          agrees = agrees;
          input = input;
        }

    ended-at : (end : IdealEnd) (state : Ideal) → bus_machine V program marked ≡ Stops end state → EndsTied sight program end last
    ended-at end state stops = record {
      at = state;
      ends = ap (λ (v : Veil). bus_machine v program (history (sight.trace last))) veil-last ∙ ap (λ (h : History). bus_machine V program h) trace-last ∙ stops;
    }

    -- the mode before the step
    mode-new : (e : StepEnd) → ended ≡ e → sight.mode last ≡ mode_after e (sight.mode old.memory)
    mode-new e is = retires.mode ∙ ap (λ (x : StepEnd). mode_after x (sight.mode new.memory)) is ∙ ap (λ (m : Mode). mode_after e m) on.makes.mode

    secure-at : (mode : Mode) → sight.mode last ≡ mode → IsTrue (is_secure mode) → IsTrue (is_secure (sight.mode last))
    secure-at mode is secure = let P : Mode → Type 0 = λ m. IsTrue (is_secure m) in subst P (sym is) secure

    -- by how the step ended
    by-end : (e : StepEnd) → ended ≡ e → (at : Reached all last) → bus_machine V program marked ≡ comes_to e at.after → HasInput new.port (traffic_read e at.after.traffic)
        → is_permitted (secure_of_end e) (sight.mode old.memory) ≡ true → StandsAfter sight program (end_of e) (record new { memory = last })
    by-end (end.Stopped reason) is at come input permitted = absurd (none reason is)
    by-end end.Next is at come input permitted =
        tied-at at.after come at.core (at.mode ∙ sym (mode-new end.Next is)) (secure-at (sight.mode old.memory) (mode-new end.Next is) tie.secure) at.agrees input
    by-end end.Input is at come input permitted =
        tied-at _ come at.core (at.mode ∙ sym (mode-new end.Input is)) (secure-at (sight.mode old.memory) (mode-new end.Input is) tie.secure) at.agrees input
    by-end (end.Released byte) is at come input permitted =
        tied-at _ come at.core (at.mode ∙ sym (mode-new (end.Released byte) is)) (secure-at (sight.mode old.memory) (mode-new (end.Released byte) is) tie.secure) at.agrees
        (same-input new.port at.after.traffic _ refl input)
    by-end end.Check is at come input permitted =
        tied-at _ come at.core (at.mode ∙ sym (mode-new end.Check is)) (secure-at (sight.mode old.memory) (mode-new end.Check is) tie.secure) at.agrees
        (same-input new.port at.after.traffic _ refl input)
    by-end end.Suspend is at come input permitted =
        tied-at _ come at.core (at.mode ∙ sym (mode-new end.Suspend is)) (secure-at (sight.mode old.memory) (mode-new end.Suspend is) tie.secure) at.agrees
        (same-input new.port at.after.traffic _ refl input)
    by-end end.Resume is at come input permitted =
        tied-at at.after come at.core (at.mode ∙ sym (mode-new end.Resume is)) (secure-at (sight.mode old.memory) (mode-new end.Resume is) tie.secure) at.agrees input
    by-end end.Enter is at come input permitted = absurd (never-enters (sight.mode old.memory) tie.secure permitted)
    by-end (end.Private true) is at come input permitted =
        tied-at _ come at.core (sym (mode-new (end.Private true) is)) (secure-at Ptr (mode-new (end.Private true) is) refl) at.agrees input
    by-end (end.Private false) is at come input permitted =
        tied-at _ come at.core (sym (mode-new (end.Private false) is)) (secure-at Te (mode-new (end.Private false) is) refl) at.agrees input
    by-end end.Exit is at come input permitted = ended-at Ended at.after come
    by-end (end.Index place) is at come input permitted = ended-at (Index place) at.after come
    by-end (end.Divide place) is at come input permitted = ended-at (Divide place) at.after come

    bytes-after : (e : StepEnd) (state : Ideal) → IsNotStopped e → (state_of (comes_to e state)).traffic.bytes ≡ state.traffic.bytes ++ released_by e
    bytes-after (end.Stopped reason) state not_stopped = absurd (not_stopped reason refl)
    bytes-after (end.Released byte) state not_stopped = refl
    bytes-after end.Next state not_stopped = sym (append-nil state.traffic.bytes)
    bytes-after end.Input state not_stopped = sym (append-nil state.traffic.bytes)
    bytes-after end.Check state not_stopped = sym (append-nil state.traffic.bytes)
    bytes-after end.Suspend state not_stopped = sym (append-nil state.traffic.bytes)
    bytes-after end.Resume state not_stopped = sym (append-nil state.traffic.bytes)
    bytes-after end.Enter state not_stopped = sym (append-nil state.traffic.bytes)
    bytes-after (end.Private true) state not_stopped = sym (append-nil state.traffic.bytes)
    bytes-after (end.Private false) state not_stopped = sym (append-nil state.traffic.bytes)
    bytes-after end.Exit state not_stopped = sym (append-nil state.traffic.bytes)
    bytes-after (end.Index place) state not_stopped = sym (append-nil state.traffic.bytes)
    bytes-after (end.Divide place) state not_stopped = sym (append-nil state.traffic.bytes)

    pub released : is_permitted (secure_of_end ended) (sight.mode old.memory) ≡ true
        → (state_of (bus_machine (sight.veil last) program (history (sight.trace last)))).traffic.bytes ≡ tie.state.traffic.bytes ++ released_by ended
    released permitted =
        let at = reached (is_some (secure_of_end ended)) refl in
        ap (λ (v : Veil). (state_of (bus_machine v program (history (sight.trace last)))).traffic.bytes) veil-last
        ∙ ap (λ (h : History). (state_of (bus_machine V program h)).traffic.bytes) trace-last
        ∙ ap (λ (n : Next Ideal IdealEnd). (state_of n).traffic.bytes) (comes at permitted)
        ∙ bytes-after ended at.after none
        ∙ ap (λ (bytes : List ℕ). bytes ++ released_by ended) at.exchanged.bytes

    pub retired : is_permitted (secure_of_end ended) (sight.mode old.memory) ≡ true → StandsAfter sight program (end_of ended) (record new { memory = last })
    retired permitted =
        let at = reached (is_some (secure_of_end ended)) refl in
        by-end ended refl at (comes at permitted) at.input permitted

refused : {M : Type 0} (sight : Sight M) (accesses : Accesses M) → MeetsBus sight accesses → (program : LoadedProgram) (old new : Machine M) (reason : Why) → IsTied sight program old
    → Steps accesses old (end.Stopped (stop.Refused reason)) new → RefusedTied sight program reason new.memory
refused sight accesses meets program old new reason tie step =
    let steps = on sight accesses meets program old new (end.Stopped (stop.Refused reason)) tie step in
    let along = steps.goes_along tt tie.state.memory tie.state.traffic tie.agrees tie.input in
    refused-by sight accesses meets program old new (end.Stopped (stop.Refused reason)) tie step reason along.answers

pub steps-tied : {M : Type 0} (sight : Sight M) (accesses : Accesses M) → MeetsBus sight accesses → StepsTied sight accesses
steps-tied sight accesses meets = record {
  retired = λ program old new ended more last tie step none permitted retires. retired sight accesses meets program old new ended tie step more last none retires permitted;
  released = λ program old new ended more last tie step none permitted retires. released sight accesses meets program old new ended tie step more last none retires permitted;
  refused = λ program old new reason tie step. refused sight accesses meets program old new reason tie step;
  forbidden = λ program old new ended tie step permitted. forbidden sight accesses meets program old new ended tie step permitted;
}
