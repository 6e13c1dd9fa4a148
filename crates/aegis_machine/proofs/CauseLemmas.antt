-- What an end of a run shows by its trace.
use Rattle.std.proofs.Common.{◌≡◌, ℕ, Bool, true, false, List, [], ◌∷◌, ◌++◌, length, is_some, refl, sym, ap, ◌∙◌, subst}
use Rattle.std.specs.Prelude.{IsTrue}
use Rattle.std.specs.Bool.{OnTrue}
use Rattle.std.specs.List.{list_any}
use Rattle.std.proofs.lemmas.List.{append_assoc}
use Rattle.execution.specs.Run.{Next, Goes, Stops}
use Rattle.aegis_num.specs.declared.Block.{Block}
use Rattle.aegis_num.specs.declared.Place.TheVariants.{Log}
use Rattle.regions.specs.declared.Layout.{Layout}
use Rattle.regions.specs.declared.Access.TheVariants.{Fetch}
use Rattle.regions.specs.Modes.{is_secure}
use Rattle.off_chip.specs.declared.Event.{Event}
use Rattle.off_chip.specs.declared.Event.TheVariants.{BlockRead, Note}
use Rattle.off_chip.specs.declared.Mark.TheVariants as marks
use Rattle.off_chip.specs.declared.Who.TheVariants.{Secure}
use Rattle.off_chip.specs.Boundaries.{enter_events, is_boundary, is_retire}
use Rattle.off_chip.specs.Histories.{History, ◌◂◌, followed, history, in_order}
use Rattle.off_chip.specs.Residency.{in_check}
use Rattle.off_chip.proofs.HistoryLemmas.{followed-append, history-append, in_order-history}
use Rattle.orbis_core.specs.declared.StepEnd.{StepEnd}
use Rattle.orbis_core.specs.declared.StepEnd.TheVariants as end
use Rattle.orbis_core.specs.declared.Stop.TheVariants as stop
use Rattle.orbis_core.specs.Accesses.{Accesses}
use Rattle.orbis_core.specs.Ideal.{Ideal, IdealEnd}
use Rattle.orbis_core.specs.OwnMemory.{secure_of_end}
use Rattle.orbis_core.specs.Refusals.{word_refusal}
use Rattle.orbis_core.specs.Rows.{IsNoStop, Machine, Steps}
use Rattle.stamp_log.specs.declared.LogCause.{LogCause}
use Rattle.stamp_log.specs.declared.LogCause.TheVariants.{Future, Sums}
use Rattle.stamp_log.specs.OfflineCheck.{FutureRead}
use Rattle.bus_machine.specs.BusAccesses.{MeetsBus, Sight}
use Rattle.bus_machine.specs.BusData.{EndsAtLast, check_due}
use Rattle.bus_machine.specs.BusMachine.{LoadedProgram, Veil, blocks_taken}
use Rattle.bus_machine.specs.BusSteps.{StepsOnBus}
use Rattle.bus_machine.proofs.BusStepLemmas.{step-on-bus}
use Rattle.bus_machine.proofs.SegmentLemmas.{taken-append}
use Rattle.aegis_machine.specs.Boundaries.{StandsAtBoundary, checked}
use Rattle.aegis_machine.specs.Causes.{EndsCheckDue, HasFuelToGoOn, IsFutureAbort, IsLastRead, IsTreeAbort, ReadsExpected}
use Rattle.aegis_machine.specs.FuelTests.{HasFuel}
use Rattle.aegis_machine.specs.InstructionsDone.{FailsCheck, FailsSink, IsDone, makes_check}
use Rattle.aegis_machine.specs.Ties.{IsTied}
use Rattle.aegis_machine.proofs.AlongLemmas.{blocks-access, calm-accesses, calm-goes, fuelled-at}
use Rattle.aegis_machine.proofs.BoundaryLemmas.{due-secure}
use Rattle.aegis_machine.proofs.ComesLemmas.{comes-counts}
use Rattle.aegis_machine.proofs.LogEvents.{checks-on, last-of-check, log-blocks, logs-stay}
use Rattle.aegis_machine.proofs.ReadLemmas.{comes-unread, is_tree_read, logs-unread, unread-along, unread-more}
use Rattle.aegis_machine.proofs.TieLemmas.{both-go-on, fetched-by, trace-new}

-- the read that ended a check which did not pass
abbrev pub EndsCheck : ℕ → List Event → LogCause → Type 0
EndsCheck blocks trace (Future event) = FutureRead trace event
EndsCheck blocks trace (Sums read written) = IsLastRead blocks trace

-- what a memory tells of its accesses and checks
pub record Tells {M : Type 0} (sight : Sight M) (accesses : Accesses M) (Caused : LogCause → M → Type 0) : Type 0 where
  -- a check that did not pass ends with its read
  pub ends : (cause : LogCause) (memory : M) → Caused cause memory → EndsCheck (sight.layout memory).log (sight.trace memory) cause
  -- a step that no read of the tree stopped reads blocks of the tree with the expected digests
  pub keeps : (layout : Layout) (old new : Machine M) (ended : StepEnd) → sight.layout old.memory ≡ layout → IsTrue (is_secure (sight.mode old.memory))
      → ((event : ℕ) → ended ≡ end.Stopped (stop.Tree event) → ⊥) → Steps accesses old ended new
      → ReadsExpected layout (history (sight.trace old.memory)) → ReadsExpected layout (history (sight.trace new.memory))
  -- and one that was stopped ends with that read
  pub tree : (program : LoadedProgram) (old new : Machine M) (event : ℕ) → IsTied sight program old → ReadsExpected program.layout (history (sight.trace old.memory))
      → Steps accesses old (end.Stopped (stop.Tree event)) new → IsTreeAbort (sight.veil old.memory) program event (sight.trace new.memory)
  pub log : (program : LoadedProgram) (old new : Machine M) (event : ℕ) → IsTied sight program old → Steps accesses old (end.Stopped (stop.Log event)) new
      → IsFutureAbort (sight.veil old.memory) program event (sight.trace new.memory)

-- a check is made after steps of secure instructions alone
makes-secure : (ended : StepEnd) (held : ℕ) → makes_check ended held ≡ true → is_some (secure_of_end ended) ≡ true
makes-secure end.Check held is = refl
makes-secure end.Exit held is = refl
makes-secure (end.Index place) held is = refl
makes-secure (end.Divide place) held is = refl
makes-secure (end.Released byte) held is = refl
makes-secure ended held is = let e : false ≡ true = is in cc

-- ---- a read in a check that did not pass

module _ {M : Type 0} (sight : Sight M) (accesses : Accesses M) (meets : MeetsBus sight accesses) (Caused : LogCause → M → Type 0) (program : LoadedProgram) (fuel : ℕ) (handed_out held : List ℕ)
    (old : Machine M) (stands : StandsAtBoundary sight program fuel handed_out held old) (has_fuel : HasFuel program.layout fuel (length (sight.trace old.memory))) (cause : LogCause)
    (piece : List ℕ) (new : M) (fails : FailsCheck sight accesses Caused cause piece old new) (asked : makes_check fails.ended (length held) ≡ true) where
  abbrev tie : IsTied sight program old
  tie = stands.tied

  abbrev V : Veil
  V = sight.veil old.memory

  abbrev older : History
  older = history (sight.trace old.memory)

  abbrev on : StepsOnBus sight old fails.middle fails.ended
  on = step-on-bus sight accesses meets old fails.middle fails.ended tie.secure fails.made.steps

  abbrev start : List Event
  start = sight.trace fails.middle.memory

  appended : sight.trace new ≡ start ++ Note marks.CheckStart ∷ fails.check.middle
  appended = fails.makes.trace ∙ ap (λ (es : List Event). start ++ es) fails.check.events_are

  pub record StandsInCheck (before : List Event) : Type 0 where
    pub under_way : in_check (history before) ≡ true
    pub due : check_due V program (history before) ≡ true

  pub in-check : (before : List Event) (n : ℕ) (block : Block) → sight.trace new ≡ before ++ BlockRead (Log n) block ∷ [] → StandsInCheck before
  in-check before n block last =
      let parts = last-of-check start fails.check.middle before (BlockRead (Log n) block) (sym appended ∙ last) refl fails.check.blocks in
      let more : List Event = Note marks.CheckStart ∷ parts.front in
      let at_start : history start ≡ followed older on.events = trace-new sight accesses meets program old fails.middle fails.ended tie fails.made.steps in
      let there : history before ≡ followed (history start) more = history-append before start more parts.before_is in
      let whole : history before ≡ followed older (on.events ++ more) =
      there ∙ ap (λ (h : History). followed h more) at_start ∙ sym (followed-append older on.events more) in
      let goes : list_any is_retire (on.events ++ more) ≡ false =
      both-go-on on.events more (calm-goes on.events (calm-accesses on.events on.accesses))
      (calm-goes parts.front (calm-accesses parts.front (blocks-access parts.front (log-blocks parts.front parts.each)))) in
      let below = fetched-by sight accesses meets program old fails.middle fails.ended tie fails.made.steps fails.made.not_stopped
      (word_refusal (sight.layout old.memory) (sight.mode old.memory) Fetch old.core.pc) refl in
      let word : blocks_taken (sight.layout old.memory) V (on.events ++ more) tie.state.memory old.core.pc ≡ blocks_taken (sight.layout old.memory) V on.events tie.state.memory old.core.pc =
      ap (λ (m : ℕ → ℕ). m old.core.pc) (taken-append (sight.layout old.memory) V on.events more tie.state.memory)
      ∙ logs-stay (sight.layout old.memory) V parts.front (blocks_taken (sight.layout old.memory) V on.events tie.state.memory) old.core.pc parts.each below in
      record {
        under_way = ap (λ (h : History). in_check h) there ∙ checks-on (Note marks.CheckStart ◂ history start) parts.front parts.each refl;
        due = ap (λ (h : History). check_due V program h) whole
            ∙ due-secure sight accesses meets program fuel handed_out held old stands has_fuel fails.middle fails.ended fails.made.steps (on.events ++ more) goes
            (makes-secure fails.ended (length held) asked) fails.made.not_stopped word
            ∙ asked;
      }

  same-layout : sight.layout new ≡ program.layout
  same-layout = fails.makes.layout ∙ on.makes.layout ∙ tie.layout

  -- its last read, where the sums differ
  pub sums-abort : IsLastRead (sight.layout new).log (sight.trace new) → EndsCheckDue V program (sight.trace new)
  sums-abort last =
      let read = subst (λ (l : Layout). IsLastRead l.log (sight.trace new)) same-layout last in
      let stands_in = in-check read.before read.n read.block read.last in
      record { read = read; under_way = stands_in.under_way; due = stands_in.due }

  -- and the read of a stamp above the number of writes
  pub future-abort : (event : ℕ) → FutureRead (sight.trace new) event → IsFutureAbort V program event (sight.trace new)
  future-abort event future =
      let stands_in = in-check future.before future.n future.block future.last in record { future = future; in_step = checked stands_in.under_way stands_in.due }

-- ---- what is said of every end

module _ {M : Type 0} (sight : Sight M) (accesses : Accesses M) (meets : MeetsBus sight accesses) (Caused : LogCause → M → Type 0) (tells : Tells sight accesses Caused) (program : LoadedProgram)
    (fuel : ℕ) (handed_out held : List ℕ) (old : Machine M) (stands : StandsAtBoundary sight program fuel handed_out held old)
    (has_fuel : HasFuel program.layout fuel (length (sight.trace old.memory))) (expected : ReadsExpected program.layout (history (sight.trace old.memory))) where
  abbrev trace : List Event
  trace = sight.trace old.memory

  -- the fuel of the boundary before the step is that of its end, where that is a boundary too
  abbrev FuelledAt : M → Type 0
  FuelledAt new = HasFuelToGoOn (sight.veil old.memory) program fuel (history (sight.trace new))

  fuel-true : (b : Bool) (P : Type 0) → b ≡ true → OnTrue b P → P
  fuel-true true P is holds = holds
  fuel-true false P is holds = let e : false ≡ true = is in cc

  fuelled-after : (new : M) (events : List Event) → sight.trace new ≡ trace ++ events → list_any is_retire events ≡ false → FuelledAt new
  fuelled-after new events appended goes =
      let entry : ℕ = enter_events program.layout in
      let there : History = followed (history trace) events in
      let has : HasFuel program.layout fuel (length (in_order (history trace))) =
      (let P : List Event → Type 0 = λ t. HasFuel program.layout fuel (length t) in subst P (sym (in_order-history trace)) has_fuel) in
      let at : OnTrue (is_boundary entry there) (HasFuel program.layout fuel (length (in_order there))) =
      fuelled-at program.layout fuel (history trace) events (Note marks.Enter) stands.tied.stands.entered goes has in
      let P : History → Type 0 = λ h. HasFuelToGoOn (sight.veil old.memory) program fuel h in
      subst P (sym (history-append (sight.trace new) trace events appended))
      (λ boundary goes_on. fuel-true (is_boundary entry there) (HasFuel program.layout fuel (length (in_order there))) boundary at)

  module _ (middle : Machine M) (ended : StepEnd) (step : Steps accesses old ended middle) where
    abbrev over_bus : StepsOnBus sight old middle ended
    over_bus = step-on-bus sight accesses meets old middle ended stands.tied.secure step

    goes-step : list_any is_retire over_bus.events ≡ false
    goes-step = calm-goes over_bus.events (calm-accesses over_bus.events over_bus.accesses)

    pub fuelled-step : FuelledAt middle.memory
    fuelled-step = fuelled-after middle.memory over_bus.events over_bus.makes.trace goes-step

    fuelled-more : (new : M) (more : List Event) → sight.trace new ≡ sight.trace middle.memory ++ more → list_any is_retire more ≡ false → FuelledAt new
    fuelled-more new more appended goes =
        fuelled-after new (over_bus.events ++ more) (appended ∙ ap (λ (t : List Event). t ++ more) over_bus.makes.trace ∙ append_assoc trace over_bus.events more)
        (both-go-on over_bus.events more goes-step goes)

    pub expected-step : ((event : ℕ) → ended ≡ end.Stopped (stop.Tree event) → ⊥) → ReadsExpected program.layout (history (sight.trace middle.memory))
    expected-step not = tells.keeps program.layout old middle ended stands.tied.layout stands.tied.secure not step expected

    expected-more : IsNoStop ended → (new : M) (more : List Event) → sight.trace new ≡ sight.trace middle.memory ++ more → list_any is_tree_read more ≡ false
        → ReadsExpected program.layout (history (sight.trace new))
    expected-more none new more appended unread =
        unread-along program.layout (sight.trace middle.memory) (sight.trace new) more appended unread (expected-step (λ event is. none (stop.Tree event) is))

  -- it was done
  pub expected-done : (ended : StepEnd) (kept piece : List ℕ) (new : Machine M) → IsDone sight accesses ended held kept piece old new → ReadsExpected program.layout (history (sight.trace new.memory))
  expected-done ended kept piece new done =
      expected-more done.middle ended done.made.steps done.made.not_stopped new.memory (done.more ++ Note (marks.Retire Secure) ∷ []) done.retires.trace
      (unread-more done.more (Note (marks.Retire Secure) ∷ []) (comes-unread ended (history (sight.trace done.middle.memory)) held done.more kept piece done.comes) refl)

  -- a check did not pass
  module _ (cause : LogCause) (piece : List ℕ) (new : M) (fails : FailsCheck sight accesses Caused cause piece old new) where
    appended-check : sight.trace new ≡ sight.trace fails.middle.memory ++ Note marks.CheckStart ∷ fails.check.middle
    appended-check = fails.makes.trace ∙ ap (λ (es : List Event). sight.trace fails.middle.memory ++ es) fails.check.events_are

    pub fuelled-check : FuelledAt new
    fuelled-check =
        fuelled-more fails.middle fails.ended fails.made.steps new (Note marks.CheckStart ∷ fails.check.middle) appended-check
        (calm-goes fails.check.middle (calm-accesses fails.check.middle (blocks-access fails.check.middle (log-blocks fails.check.middle fails.check.blocks))))

    pub expected-check : ReadsExpected program.layout (history (sight.trace new))
    expected-check =
        expected-more fails.middle fails.ended fails.made.steps fails.made.not_stopped new (Note marks.CheckStart ∷ fails.check.middle) appended-check
        (logs-unread fails.check.middle fails.check.blocks)

  -- the sink did not take a piece
  module _ (piece : List ℕ) (new : M) (fails : FailsSink sight accesses held piece old new) where
    pub fuelled-sink : FuelledAt new
    fuelled-sink =
        fuelled-more fails.middle fails.ended fails.made.steps new fails.more fails.makes.trace
        (comes-counts (history (sight.trace fails.middle.memory)) fails.ended held fails.more fails.kept piece fails.made.not_stopped fails.comes).goes

    pub expected-sink : ReadsExpected program.layout (history (sight.trace new))
    expected-sink =
        expected-more fails.middle fails.ended fails.made.steps fails.made.not_stopped new fails.more fails.makes.trace
        (comes-unread fails.ended (history (sight.trace fails.middle.memory)) held fails.more fails.kept piece fails.comes)

-- the program has ended, so that it does not go on
pub ended-over : (veil : Veil) (program : LoadedProgram) (fuel : ℕ) (ended : IdealEnd) (older : History) → EndsAtLast veil program ended older → HasFuelToGoOn veil program fuel older
ended-over veil program fuel ended older ends boundary goes =
    let e : Stops ended ends.at ≡ Goes goes.state = sym ends.ended ∙ goes.goes in absurd (no-end (Stops ended ends.at) goes.state ended ends.at refl e)
  where
    no-end : (n : Next Ideal IdealEnd) (state : Ideal) (end : IdealEnd) (at : Ideal) → n ≡ Stops end at → n ≡ Goes state → ⊥
    no-end n state end at one other = let e : Stops end at ≡ Goes state = sym one ∙ other in cc
