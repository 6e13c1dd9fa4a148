-- A run in a turn, one instruction after another.
use Rattle.std.proofs.Common.{◌≡◌, true, false, ℕ, ◌+◌, ◌≤◌, arith, List, [], ◌∷◌, ◌++◌, length, length-append, Option, Some, None, refl, sym, ap, ◌∙◌, subst, inl, inr}
use Rattle.std.specs.Prelude.{IfSome, ◌⊎◌}
use Rattle.std.proofs.lemmas.List.{append-nil, append_assoc}
use Rattle.std.proofs.lemmas.List.Sums.{count_by-le-length}
use Rattle.aegis_edge.specs.Faults.{Rose}
use Rattle.aegis_edge.specs.Sink.{Appends, limit_after}
use Rattle.regions.specs.declared.Layout.{Layout}
use Rattle.off_chip.specs.declared.Event.{Event}
use Rattle.off_chip.specs.declared.Event.TheVariants.{Note}
use Rattle.off_chip.specs.declared.Mark.TheVariants as marks
use Rattle.off_chip.specs.Boundaries.{enter_events, is_retire, retired}
use Rattle.off_chip.specs.Histories.{history}
use Rattle.off_chip.proofs.HistoryLemmas.{in_order-history}
use Rattle.orbis_core.specs.declared.StepEnd.{StepEnd}
use Rattle.orbis_core.specs.declared.StepEnd.TheVariants as end
use Rattle.orbis_core.specs.declared.Stop.{Stop}
use Rattle.orbis_core.specs.declared.Stop.TheVariants as stop
use Rattle.orbis_core.specs.declared.Why.{Why}
use Rattle.orbis_core.specs.declared.Why.TheVariants as why
use Rattle.orbis_core.specs.Accesses.{Accesses}
use Rattle.orbis_core.specs.Ideal.{IdealEnd}
use Rattle.orbis_core.specs.Ideal as ideal
use Rattle.orbis_core.specs.OwnMemory.{is_permitted, secure_of_end}
use Rattle.orbis_core.specs.Rows.{Machine, Steps}
use Rattle.stamp_log.specs.declared.LogCause.{LogCause}
use Rattle.stamp_log.specs.declared.LogCause.TheVariants.{Future, Sums}
use Rattle.bus_machine.specs.BusAccesses.{MeetsBus, Sight}
use Rattle.bus_machine.specs.BusMachine.{LoadedProgram, Veil}
use Rattle.aegis_machine.specs.declared.ends.End.{End}
use Rattle.aegis_machine.specs.declared.ends.End.TheVariants as ends
use Rattle.aegis_machine.specs.declared.instructions.Done.{Done}
use Rattle.aegis_machine.specs.declared.instructions.Done.TheVariants as done
use Rattle.aegis_machine.specs.declared.instructions.Fault.TheVariants as fault
use Rattle.aegis_machine.specs.declared.turns.Turn.TheVariants as turns
use Rattle.aegis_machine.specs.Boundaries.{BoundariesFollow, IsOutOfFuel, SaidOfRun, StandsAtBoundary}
use Rattle.aegis_machine.specs.Causes.{EndsFuelled, ExpectsReads, HasFuelToGoOn, ReadsExpected, ShowsCause}
use Rattle.aegis_machine.specs.FuelTests.{HasFuel}
use Rattle.aegis_machine.specs.InstructionsDone.{DoesSo, FailsCheck, HandsOut, IsDone, IsForbidden, IsStoppedSo}
use Rattle.aegis_machine.specs.Keeping.{SameTotal}
use Rattle.aegis_machine.specs.MachineParts.{IsRunning, LeadsTo, NamesSo, RunIsOver, TakesIn, TakesRest, end_by, program_end}
use Rattle.aegis_machine.specs.Outcomes.{TakesMore}
use Rattle.aegis_machine.proofs.BoundaryLemmas.{boundaries-follow, boundary-at, check-retires, steps-retire}
use Rattle.aegis_machine.proofs.ProgramLemmas.{does-grows, entered-kept}
use Rattle.aegis_machine.specs.ProgramsRead.{ReadsLoaded, ReadsSo}
use Rattle.aegis_machine.proofs.CauseLemmas.{Tells, ended-over, expected-check, expected-done, expected-sink, expected-step, fuelled-check, fuelled-sink, fuelled-step, future-abort, sums-abort}
use Rattle.aegis_machine.proofs.ComesLemmas.{comes-sends}
use Rattle.aegis_machine.proofs.LogEvents.{log-blocks}

-- ---- what an instruction needs

module _ {M : Type 0} (sight : Sight M) (room : M → ℕ) (program : LoadedProgram) (fuel : ℕ) (limit : Option ℕ) (handed_out held : List ℕ) (count : ℕ) (now : Machine M)
    (running : IsRunning sight room program fuel limit handed_out held count now) where
  pub fuelled-program : HasFuel (sight.layout now.memory) fuel (length (sight.trace now.memory)) → HasFuel program.layout fuel (length (sight.trace now.memory))
  fuelled-program has = let P : Layout → Type 0 = λ l. HasFuel l fuel (length (sight.trace now.memory)) in subst P running.stands.tied.layout has

  pub room-enough : HasFuel (sight.layout now.memory) fuel (length (sight.trace now.memory)) → 16640 ≤ room now.memory
  room-enough has = omega (arith, has.enough, running.enough)

  pub count-less : count ≤ length (sight.trace now.memory)
  count-less = omega (arith, running.counted, count_by-le-length is_retire (sight.trace now.memory))

  handed-less : length handed_out ≤ length (sight.trace now.memory)
  handed-less = omega (arith, running.stands.slow, count_by-le-length is_retire (sight.trace now.memory))

  pub takes-enough : HasFuel (sight.layout now.memory) fuel (length (sight.trace now.memory)) → TakesMore limit 256
  takes-enough has = by limit running.takes
    where
      by : (left : Option ℕ) → TakesRest left fuel (length handed_out) → TakesMore left 256
      by None takes = tt
      by (Some left) takes = omega (arith, takes, has.enough, handed-less)

  -- there is no fuel
  pub fuel-out : (HasFuel (sight.layout now.memory) fuel (length (sight.trace now.memory)) → ⊥)
      → RunIsOver (sight.veil now.memory) program fuel handed_out (ends.FuelOut count) (sight.trace now.memory)
  fuel-out none =
      let tie = running.stands.tied in
      let P : Layout → Type 0 = λ l. HasFuel l fuel (length (sight.trace now.memory)) in
      let Q : List Event → Type 0 = λ t. HasFuel program.layout fuel (length t) in
      record {
        said = running.stands.said;
        names = (
          running.counted,
          record {
            boundary = boundary-at (enter_events program.layout) (history (sight.trace now.memory)) tie.stands.entered tie.stands.boundary;
            short = λ has. none (subst P (sym tie.layout) (subst Q (in_order-history (sight.trace now.memory)) has));
          },
        );
        reads = λ has. running.reads;
        cause = record { state = tie.state; goes = tie.stands.goes };
        fuelled = tt;
        expected = running.expected;
      }

-- ---- the program that was read

-- the end of a run, without what it tells of the program that was read
pub record OverSo (veil : Veil) (program : LoadedProgram) (fuel : ℕ) (handed_out : List ℕ) (end : End) (trace : List Event) : Type 0 where
  pub said : SaidOfRun veil program fuel handed_out (program_end end) (history trace)
  pub names : NamesSo program fuel end trace
  pub cause : ShowsCause veil program end trace
  pub fuelled : EndsFuelled veil program fuel end (history trace)
  pub expected : ExpectsReads program.layout end (history trace)

-- no instruction ends as entering does
reads-by : (program : LoadedProgram) (fuel : ℕ) (handed_out : List ℕ) (end : End) (trace : List Event) (answer : Done) (count : ℕ) → end_by answer count ≡ Some end
    → ReadsLoaded program trace → ReadsSo program fuel handed_out end trace
reads-by program fuel handed_out end trace answer count is loaded = by answer is
  where
    same : (other : End) → other ≡ end → ReadsSo program fuel handed_out other trace → ReadsSo program fuel handed_out end trace
    same other is reads = let P : End → Type 0 = λ e. ReadsSo program fuel handed_out e trace in subst P is reads

    by : (answer : Done) → end_by answer count ≡ Some end → ReadsSo program fuel handed_out end trace
    by done.Goes is = cc
    by done.Ended is = same ends.Ended (let e : ends.Ended ≡ end = cc in e) (λ has. loaded)
    by (done.Index at) is = same (ends.Index at) (let e : ends.Index at ≡ end = cc in e) (λ has. loaded)
    by (done.Divide at) is = same (ends.Divide at) (let e : ends.Divide at ≡ end = cc in e) (λ has. loaded)
    by (done.Refused reason) is = same (ends.Refused reason count) (let e : ends.Refused reason count ≡ end = cc in e) (λ has. loaded)
    by (done.Tree event) is = same (ends.AbortTree event count) (let e : ends.AbortTree event count ≡ end = cc in e) (λ has. loaded)
    by (done.Log event) is = same (ends.AbortLog (Future event) count) (let e : ends.AbortLog (Future event) count ≡ end = cc in e) (λ has. loaded)
    by (done.Fault (fault.Log cause)) is = same (ends.AbortLog cause count) (let e : ends.AbortLog cause count ≡ end = cc in e) (λ has. loaded)
    by (done.Fault fault.Sink) is = same ends.WriteFault (let e : ends.WriteFault ≡ end = cc in e) (λ has. loaded)

-- an instruction only adds events, so that what was read at entering stays
reads-kept : {M : Type 0} (sight : Sight M) (accesses : Accesses M) (meets : MeetsBus sight accesses) (Caused : LogCause → M → Type 0) (room : M → ℕ) (program : LoadedProgram) (fuel : ℕ)
    (limit : Option ℕ) (handed_out held : List ℕ) (count : ℕ) (now : Machine M) (running : IsRunning sight room program fuel limit handed_out held count now) (answer : Done)
    (kept piece : List ℕ) (new : Machine M) → DoesSo sight accesses Caused answer held kept piece now new → ReadsLoaded program (sight.trace new.memory)
reads-kept sight accesses meets Caused room program fuel limit handed_out held count now running answer kept piece new does =
    let grows = does-grows sight accesses meets Caused answer held kept piece now new running.stands.tied.secure does in
    let long : enter_events program.layout ≤ length (sight.trace now.memory) =
    subst (λ (t : List Event). enter_events program.layout ≤ length t) (in_order-history (sight.trace now.memory)) running.stands.tied.stands.entered in
    entered-kept program.layout (sight.trace now.memory) (sight.trace new.memory) grows.0 grows.1 long ∙ running.reads

-- ---- an instruction

takes-after : (limit : Option ℕ) (fuel : ℕ) (handed_out piece : List ℕ) → TakesRest limit fuel (length handed_out) → TakesRest (limit_after limit (length piece)) fuel (length (handed_out ++ piece))
takes-after None fuel handed_out piece takes = tt
takes-after (Some left) fuel handed_out piece takes = omega (arith, takes, length-append handed_out piece)

module _ {M : Type 0} (sight : Sight M) (accesses : Accesses M) (meets : MeetsBus sight accesses) (Caused : LogCause → M → Type 0) (tells : Tells sight accesses Caused) (room : M → ℕ) (program : LoadedProgram) (fuel : ℕ)
    (limit : Option ℕ) (handed_out held : List ℕ) (count : ℕ) (now : Machine M) (running : IsRunning sight room program fuel limit handed_out held count now)
    (has : HasFuel (sight.layout now.memory) fuel (length (sight.trace now.memory))) (kept piece : List ℕ) (new : Machine M) where
  abbrev law : BoundariesFollow sight accesses
  law = boundaries-follow sight accesses meets

  has-program : HasFuel program.layout fuel (length (sight.trace now.memory))
  has-program = fuelled-program sight room program fuel limit handed_out held count now running has

  pub runs-on : (new_limit : Option ℕ) → DoesSo sight accesses Caused done.Goes held kept piece now new → new_limit ≡ limit_after limit (length piece)
      → SameTotal (sight.trace now.memory) (room now.memory) (sight.trace new.memory) (room new.memory)
      → IsRunning sight room program fuel new_limit (handed_out ++ piece) kept (count + 1) new × (sight.veil new.memory ≡ sight.veil now.memory)
  runs-on new_limit does limits total =
      let follows = law.goes program fuel handed_out held kept piece does.0 now new running.stands has-program does.2 does.1 in
      let P : Option ℕ → Type 0 = λ l. TakesRest l fuel (length (handed_out ++ piece)) in (
        record {
          stands = follows.0;
          enough = omega (arith, total, running.enough);
          takes = subst P (sym limits) (takes-after limit fuel handed_out piece running.takes);
          counted = omega (arith, running.counted, follows.2);
          reads = reads-kept sight accesses meets Caused room program fuel limit handed_out held count now running done.Goes kept piece new does;
          expected = expected-done sight accesses meets Caused tells program fuel handed_out held now running.stands has-program running.expected does.0 kept piece new does.2;
        },
        follows.1,
      )

  abbrev Over : End → Type 0
  Over end = OverSo (sight.veil now.memory) program fuel (handed_out ++ piece) end (sight.trace new.memory)

  same-count : retired (sight.trace new.memory) ≡ retired (sight.trace now.memory) → count ≡ retired (sight.trace new.memory)
  same-count same = running.counted ∙ sym same

  stopped-count : (reason : Stop) → IsStoppedSo accesses reason held kept piece now new → count ≡ retired (sight.trace new.memory)
  stopped-count reason stopped = same-count (steps-retire sight accesses meets now new (end.Stopped reason) running.stands.tied.secure stopped.steps)

  -- what is said of a step that was made, and after it
  fuelled-by : (middle : Machine M) (ended : StepEnd) → Steps accesses now ended middle → HasFuelToGoOn (sight.veil now.memory) program fuel (history (sight.trace middle.memory))
  fuelled-by middle ended step = fuelled-step sight accesses meets Caused tells program fuel handed_out held now running.stands has-program running.expected middle ended step

  expected-by : (middle : Machine M) (ended : StepEnd) → Steps accesses now ended middle → ((event : ℕ) → ended ≡ end.Stopped (stop.Tree event) → ⊥)
      → ReadsExpected program.layout (history (sight.trace middle.memory))
  expected-by middle ended step not = expected-step sight accesses meets Caused tells program fuel handed_out held now running.stands has-program running.expected middle ended step not

  refused-over : (reason : Why) → IsStoppedSo accesses (stop.Refused reason) held kept piece now new ⊎ ((reason ≡ why.Mode) × IsForbidden sight accesses held kept piece now new)
      → Over (ends.Refused reason count)
  refused-over reason (inl stopped) = record {
    said = law.refused program fuel handed_out held kept piece reason now new running.stands has-program stopped;
    names = stopped-count (stop.Refused reason) stopped;
    cause = tt;
    fuelled = fuelled-by new (end.Stopped (stop.Refused reason)) stopped.steps;
    expected = expected-by new (end.Stopped (stop.Refused reason)) stopped.steps (λ event is. let e : end.Stopped (stop.Refused reason) ≡ end.Stopped (stop.Tree event) = is in cc);
  }
  refused-over reason (inr forbidden) =
      let P : Why → Type 0 = λ w. Over (ends.Refused w count) in
      let is = forbidden.1 in
      subst P (sym forbidden.0) (record {
        said = law.forbidden program fuel handed_out held kept piece now new running.stands has-program is;
        names = same-count (steps-retire sight accesses meets now new is.ended running.stands.tied.secure is.steps);
        cause = tt;
        fuelled = fuelled-by new is.ended is.steps;
        expected = expected-by new is.ended is.steps
            (λ event stops. let e : true ≡ false = ap (λ (x : StepEnd). is_permitted (secure_of_end x) (sight.mode now.memory)) (sym stops) ∙ is.forbidden in cc);
      })

  -- a check did not pass
  check-cause : (cause : LogCause) → DoesSo sight accesses Caused (done.Fault (fault.Log cause)) held kept piece now new
      → ShowsCause (sight.veil now.memory) program (ends.AbortLog cause count) (sight.trace new.memory)
  check-cause (Future event) does =
      future-abort sight accesses meets Caused program fuel handed_out held now running.stands has-program (Future event) piece new.memory does.0 does.1 event
      (tells.ends (Future event) new.memory does.0.caused)
  check-cause (Sums read written) does =
      sums-abort sight accesses meets Caused program fuel handed_out held now running.stands has-program (Sums read written) piece new.memory does.0 does.1
      (tells.ends (Sums read written) new.memory does.0.caused)

  done-expected : (ended : StepEnd) → IsDone sight accesses ended held kept piece now new → ReadsExpected program.layout (history (sight.trace new.memory))
  done-expected ended does = expected-done sight accesses meets Caused tells program fuel handed_out held now running.stands has-program running.expected ended kept piece new does

  -- it ended the run
  pub over-by : (answer : Done) → DoesSo sight accesses Caused answer held kept piece now new → IfSome (end_by answer count) Over
  over-by done.Goes does = tt
  over-by done.Ended does =
      let said = law.ends program fuel handed_out held kept piece end.Exit now new running.stands has-program does in
      record {
        said = said;
        names = tt;
        cause = tt;
        fuelled = ended-over (sight.veil now.memory) program fuel ideal.Ended (history (sight.trace new.memory)) said.bus_data.ends;
        expected = done-expected end.Exit does;
      }
  over-by (done.Index at) does =
      let said = law.ends program fuel handed_out held kept piece (end.Index at) now new running.stands has-program does in
      record {
        said = said;
        names = tt;
        cause = tt;
        fuelled = ended-over (sight.veil now.memory) program fuel (ideal.Index at) (history (sight.trace new.memory)) said.bus_data.ends;
        expected = done-expected (end.Index at) does;
      }
  over-by (done.Divide at) does =
      let said = law.ends program fuel handed_out held kept piece (end.Divide at) now new running.stands has-program does in
      record {
        said = said;
        names = tt;
        cause = tt;
        fuelled = ended-over (sight.veil now.memory) program fuel (ideal.Divide at) (history (sight.trace new.memory)) said.bus_data.ends;
        expected = done-expected (end.Divide at) does;
      }
  over-by (done.Refused reason) does = refused-over reason does
  over-by (done.Tree event) does = record {
    said = law.stopped program fuel handed_out held kept piece (stop.Tree event) now new running.stands has-program does;
    names = stopped-count (stop.Tree event) does;
    cause = tells.tree program now new event running.stands.tied running.expected does.steps;
    fuelled = fuelled-by new (end.Stopped (stop.Tree event)) does.steps;
    expected = tt;
  }
  over-by (done.Log event) does = record {
    said = law.stopped program fuel handed_out held kept piece (stop.Log event) now new running.stands has-program does;
    names = stopped-count (stop.Log event) does;
    cause = tells.log program now new event running.stands.tied does.steps;
    fuelled = fuelled-by new (end.Stopped (stop.Log event)) does.steps;
    expected = expected-by new (end.Stopped (stop.Log event)) does.steps (λ other is. let e : end.Stopped (stop.Log event) ≡ end.Stopped (stop.Tree other) = is in cc);
  }
  over-by (done.Fault (fault.Log cause)) does =
      let fails = does.0 in
      let plain : FailsCheck sight accesses (λ cause memory. Unit {0}) cause piece now new.memory =
      record { ended = fails.ended; middle = fails.middle; made = fails.made; events = fails.events; check = fails.check; makes = fails.makes; caused = tt; none = fails.none } in
      record {
        said = law.check_fails program fuel handed_out held piece cause now new.memory running.stands has-program plain does.1;
        names = same-count
            (check-retires sight fails.events fails.check.middle fails.middle.memory new.memory fails.makes fails.check.events_are (log-blocks fails.check.middle fails.check.blocks)
            ∙ steps-retire sight accesses meets now fails.middle fails.ended running.stands.tied.secure fails.made.steps);
        cause = check-cause cause does;
        fuelled = fuelled-check sight accesses meets Caused tells program fuel handed_out held now running.stands has-program running.expected cause piece new.memory fails;
        expected = expected-check sight accesses meets Caused tells program fuel handed_out held now running.stands has-program running.expected cause piece new.memory fails;
      }
  over-by (done.Fault fault.Sink) does = record {
    said = law.sink_fails program fuel handed_out held piece now new.memory running.stands has-program does;
    names = tt;
    cause = tt;
    fuelled = fuelled-sink sight accesses meets Caused tells program fuel handed_out held now running.stands has-program running.expected piece new.memory does;
    expected = expected-sink sight accesses meets Caused tells program fuel handed_out held now running.stands has-program running.expected piece new.memory does;
  }

-- ---- since a turn began

pub record RunsSince {M : Type 0} (sight : Sight M) (room : M → ℕ) (fuel : ℕ) (old_written written : Option (List ℕ)) (old_limit limit : Option ℕ) (old_held held : List ℕ)
    (old_count count : ℕ) (old now : Machine M) : Type 0 where
  pub piece : List ℕ
  pub taken : Appends old_written written piece
  pub runs : (program : LoadedProgram) (handed_out : List ℕ) → IsRunning sight room program fuel old_limit handed_out old_held old_count old
      → IsRunning sight room program fuel limit (handed_out ++ piece) held count now × (sight.veil now.memory ≡ sight.veil old.memory)

appends-none : (written : Option (List ℕ)) → Appends written written []
appends-none None = refl
appends-none (Some bytes) = ap (λ (xs : List ℕ). Some xs) (sym (append-nil bytes))

pub appends-both : (first middle last : Option (List ℕ)) (piece more : List ℕ) → Appends first middle piece → Appends middle last more → Appends first last (piece ++ more)
appends-both None middle last piece more one other = let P : Option (List ℕ) → Type 0 = λ m. Appends m last more in subst P one other
appends-both (Some bytes) middle last piece more one other =
    let P : Option (List ℕ) → Type 0 = λ m. Appends m last more in
    let after : last ≡ Some ((bytes ++ piece) ++ more) = subst P one other in
    after ∙ ap (λ (xs : List ℕ). Some xs) (append_assoc bytes piece more)

pub since-start : {M : Type 0} (sight : Sight M) (room : M → ℕ) (fuel : ℕ) (written : Option (List ℕ)) (limit : Option ℕ) (held : List ℕ) (count : ℕ) (old : Machine M)
    → RunsSince sight room fuel written written limit limit held held count count old old
since-start sight room fuel written limit held count old = record {
  piece = [];
  taken = appends-none written;
  runs = λ program handed_out running.
      let P : List ℕ → Type 0 = λ bytes. IsRunning sight room program fuel limit bytes held count old in (subst P (sym (append-nil handed_out)) running, refl);
}

module _ {M : Type 0} (sight : Sight M) (accesses : Accesses M) (meets : MeetsBus sight accesses) (Caused : LogCause → M → Type 0) (tells : Tells sight accesses Caused) (room : M → ℕ) (fuel : ℕ)
    (old_written written : Option (List ℕ)) (old_limit limit : Option ℕ) (old_held held : List ℕ) (old_count count : ℕ) (old now : Machine M)
    (since : RunsSince sight room fuel old_written written old_limit limit old_held held old_count count old now)
    (has : HasFuel (sight.layout now.memory) fuel (length (sight.trace now.memory))) (kept piece : List ℕ) (new : Machine M) (new_written : Option (List ℕ)) (new_limit : Option ℕ)
    (old_faults new_faults : ℕ) where
  pub since-more : DoesSo sight accesses Caused done.Goes held kept piece now new → HandsOut done.Goes written new_written old_faults new_faults limit new_limit piece
      → SameTotal (sight.trace now.memory) (room now.memory) (sight.trace new.memory) (room new.memory)
      → RunsSince sight room fuel old_written new_written old_limit new_limit old_held kept old_count (count + 1) old new
  since-more does hands total = record {
    piece = since.piece ++ piece;
    taken = appends-both old_written written new_written since.piece piece since.taken hands.0;
    runs = λ program handed_out running.
        let so_far = since.runs program handed_out running in
        let next = runs-on sight accesses meets Caused tells room program fuel limit (handed_out ++ since.piece) held count now so_far.0 has kept piece new new_limit does hands.2 total in
        let P : List ℕ → Type 0 = λ bytes. IsRunning sight room program fuel new_limit bytes kept (count + 1) new in
        (subst P (append_assoc handed_out since.piece piece) next.0, next.1 ∙ so_far.1);
  }

  -- it is over
  pub since-over : (answer : Done) (end : End) → end_by answer count ≡ Some end → DoesSo sight accesses Caused answer held kept piece now new
      → (program : LoadedProgram) (handed_out : List ℕ) → IsRunning sight room program fuel old_limit handed_out old_held old_count old
      → RunIsOver (sight.veil old.memory) program fuel (handed_out ++ (since.piece ++ piece)) end (sight.trace new.memory)
  since-over answer end is does program handed_out running =
      let so_far = since.runs program handed_out running in
      let over = over-by sight accesses meets Caused tells room program fuel limit (handed_out ++ since.piece) held count now so_far.0 has kept piece new answer does in
      let P : Option End → Type 0 = λ e. IfSome e (λ end. OverSo (sight.veil now.memory) program fuel ((handed_out ++ since.piece) ++ piece) end (sight.trace new.memory)) in
      let so : OverSo (sight.veil now.memory) program fuel ((handed_out ++ since.piece) ++ piece) end (sight.trace new.memory) = subst P is over in
      let kept' = reads-kept sight accesses meets Caused room program fuel limit (handed_out ++ since.piece) held count now so_far.0 answer kept piece new does in
      let at_end : RunIsOver (sight.veil now.memory) program fuel ((handed_out ++ since.piece) ++ piece) end (sight.trace new.memory) =
      record { said = so.said; names = so.names; cause = so.cause; fuelled = so.fuelled; expected = so.expected; reads = reads-by program fuel ((handed_out ++ since.piece) ++ piece) end (sight.trace new.memory) answer count is kept' } in
      let Q : List ℕ → Type 0 = λ bytes. RunIsOver (sight.veil now.memory) program fuel bytes end (sight.trace new.memory) in
      let R : Veil → Type 0 = λ v. RunIsOver v program fuel (handed_out ++ (since.piece ++ piece)) end (sight.trace new.memory) in
      subst R so_far.1 (subst Q (append_assoc handed_out since.piece piece) at_end)

  -- what the sink took
  pub since-takes : (answer : Done) (end : End) (first_faults : ℕ) → end_by answer count ≡ Some end → old_faults ≡ first_faults → DoesSo sight accesses Caused answer held kept piece now new
      → HandsOut answer written new_written old_faults new_faults limit new_limit piece
      → TakesIn (turns.Over end) (sight.trace new.memory) old_written new_written first_faults new_faults (since.piece ++ piece)
  since-takes answer end first_faults is steady does hands = takes-by answer is does hands
    where
      takes-at : (other : End) → other ≡ end → TakesIn (turns.Over other) (sight.trace new.memory) old_written new_written first_faults new_faults (since.piece ++ piece)
          → TakesIn (turns.Over end) (sight.trace new.memory) old_written new_written first_faults new_faults (since.piece ++ piece)
      takes-at other same takes = let P : End → Type 0 = λ e. TakesIn (turns.Over e) (sight.trace new.memory) old_written new_written first_faults new_faults (since.piece ++ piece) in subst P same takes

      all : Appends written new_written piece → new_faults ≡ old_faults → Appends old_written new_written (since.piece ++ piece) × (new_faults ≡ first_faults)
      all taken same = (appends-both old_written written new_written since.piece piece since.taken taken, same ∙ steady)

      takes-by : (answer : Done) → end_by answer count ≡ Some end → DoesSo sight accesses Caused answer held kept piece now new → HandsOut answer written new_written old_faults new_faults limit new_limit piece
          → TakesIn (turns.Over end) (sight.trace new.memory) old_written new_written first_faults new_faults (since.piece ++ piece)
      takes-by done.Goes is does hands = cc
      takes-by done.Ended is does hands = takes-at ends.Ended (let e : ends.Ended ≡ end = cc in e) (all hands.0 hands.1)
      takes-by (done.Index at) is does hands = takes-at (ends.Index at) (let e : ends.Index at ≡ end = cc in e) (all hands.0 hands.1)
      takes-by (done.Divide at) is does hands = takes-at (ends.Divide at) (let e : ends.Divide at ≡ end = cc in e) (all hands.0 hands.1)
      takes-by (done.Refused reason) is does hands = takes-at (ends.Refused reason count) (let e : ends.Refused reason count ≡ end = cc in e) (all hands.0 hands.1)
      takes-by (done.Tree event) is does hands = takes-at (ends.AbortTree event count) (let e : ends.AbortTree event count ≡ end = cc in e) (all hands.0 hands.1)
      takes-by (done.Log event) is does hands = takes-at (ends.AbortLog (Future event) count) (let e : ends.AbortLog (Future event) count ≡ end = cc in e) (all hands.0 hands.1)
      takes-by (done.Fault (fault.Log cause)) is does hands = takes-at (ends.AbortLog cause count) (let e : ends.AbortLog cause count ≡ end = cc in e) (all hands.0 hands.1)
      takes-by (done.Fault fault.Sink) is does hands =
          let P : ℕ → Type 0 = λ n. Rose n new_faults in
          let sends = comes-sends does.ended (history (sight.trace does.middle.memory)) held does.more does.kept piece hands.2 does.comes in
          takes-at ends.WriteFault (let e : ends.WriteFault ≡ end = cc in e) (
            record {
              before = sight.trace does.middle.memory ++ sends.front;
              count = length piece;
              last = does.makes.trace ∙ ap (λ (es : List Event). sight.trace does.middle.memory ++ es) sends.last
                  ∙ sym (append_assoc (sight.trace does.middle.memory) sends.front (Note (marks.Sent (length piece)) ∷ []));
              first = since.piece;
              rest = piece;
              parts = refl;
              long = refl;
              middle = written;
              taken = since.taken;
              front = hands.0;
            },
            subst P steady hands.1,
          )

-- where it does not end the run, an instruction goes on
pub goes-on : (answer : Done) (count : ℕ) (result : Option End) → result ≡ end_by answer count → ((end : End) → result ≡ Some end → ⊥) → answer ≡ done.Goes
goes-on done.Goes count result is none = refl
goes-on done.Ended count result is none = absurd (none ends.Ended is)
goes-on (done.Index at) count result is none = absurd (none (ends.Index at) is)
goes-on (done.Divide at) count result is none = absurd (none (ends.Divide at) is)
goes-on (done.Refused reason) count result is none = absurd (none (ends.Refused reason count) is)
goes-on (done.Tree event) count result is none = absurd (none (ends.AbortTree event count) is)
goes-on (done.Log event) count result is none = absurd (none (ends.AbortLog (Future event) count) is)
goes-on (done.Fault (fault.Log cause)) count result is none = absurd (none (ends.AbortLog cause count) is)
goes-on (done.Fault fault.Sink) count result is none = absurd (none ends.WriteFault is)
