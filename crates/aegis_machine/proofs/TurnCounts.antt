-- How many instructions were done after one that ended the run.
use Rattle.std.proofs.Common.{◌≡◌, ℕ, ◌+◌, ◌<◌, ◌≤◌, arith, List, [], ◌∷◌, ◌++◌, Some, inl, inr, sym, true, ap, ◌∙◌, subst}
use Rattle.std.specs.Prelude.{IsTrue, count_by, ◌⊎◌}
use Rattle.std.specs.List.{list_all}
use Rattle.regions.specs.Modes.{is_secure}
use Rattle.off_chip.specs.declared.Event.{Event}
use Rattle.off_chip.specs.declared.Event.TheVariants.{Note}
use Rattle.off_chip.specs.declared.Mark.TheVariants as marks
use Rattle.off_chip.specs.declared.Who.TheVariants.{Secure}
use Rattle.off_chip.specs.Boundaries.{is_retire, retired}
use Rattle.off_chip.specs.Histories.{history}
use Rattle.orbis_core.specs.declared.StepEnd.{StepEnd}
use Rattle.orbis_core.specs.declared.StepEnd.TheVariants as end
use Rattle.orbis_core.specs.declared.Stop.{Stop}
use Rattle.orbis_core.specs.declared.Stop.TheVariants as stop
use Rattle.orbis_core.specs.declared.Why.{Why}
use Rattle.orbis_core.specs.declared.Why.TheVariants as why
use Rattle.orbis_core.specs.Accesses.{Accesses}
use Rattle.orbis_core.specs.Rows.{Machine}
use Rattle.stamp_log.specs.declared.LogCause.{LogCause}
use Rattle.stamp_log.specs.declared.LogCause.TheVariants.{Future}
use Rattle.bus_machine.specs.BusAccesses.{MeetsBus, Sight, is_access_event}
use Rattle.aegis_machine.specs.declared.ends.End.{End}
use Rattle.aegis_machine.specs.declared.ends.End.TheVariants as ends
use Rattle.aegis_machine.specs.declared.instructions.Done.{Done}
use Rattle.aegis_machine.specs.declared.instructions.Done.TheVariants as done
use Rattle.aegis_machine.specs.declared.instructions.Fault.TheVariants as fault
use Rattle.aegis_machine.specs.declared.turns.Turn.TheVariants as turns
use Rattle.aegis_machine.specs.InstructionsDone.{DoesSo, FailsSink, IsDone, IsForbidden, IsStoppedSo}
use Rattle.aegis_machine.specs.MachineParts.{IsOfEntering, RetiresInTurn, end_by}
use Rattle.aegis_machine.proofs.AlongLemmas.{calm-accesses, calm-goes, count-append, count-cons}
use Rattle.aegis_machine.proofs.BoundaryLemmas.{check-retires, count-none, steps-retire}
use Rattle.aegis_machine.proofs.ComesLemmas.{comes-counts}
use Rattle.aegis_machine.proofs.LogEvents.{log-blocks}

module _ {M : Type 0} (sight : Sight M) (accesses : Accesses M) (meets : MeetsBus sight accesses) (Caused : LogCause → M → Type 0) (held kept piece : List ℕ) (now new : Machine M)
    (secure : IsTrue (is_secure (sight.mode now.memory))) where
  done-retires : (ended : StepEnd) → IsDone sight accesses ended held kept piece now new → retired (sight.trace new.memory) ≡ retired (sight.trace now.memory) + 1
  done-retires ended does =
      let mark : List Event = Note (marks.Retire Secure) ∷ [] in
      let a : count_by is_retire (sight.trace new.memory) ≡ count_by is_retire (sight.trace does.middle.memory) + count_by is_retire (does.more ++ mark) =
      ap (λ (t : List Event). count_by is_retire t) does.retires.trace ∙ count-append is_retire (sight.trace does.middle.memory) (does.more ++ mark) in
      let b : count_by is_retire (does.more ++ mark) ≡ count_by is_retire does.more + 1 = count-append is_retire does.more mark in
      let c : count_by is_retire does.more ≡ 0 = count-none is_retire does.more does.retires.others in
      let d = steps-retire sight accesses meets now does.middle ended secure does.made.steps in omega (arith, a, b, c, d)

  sink-retires : FailsSink sight accesses held piece now new.memory → retired (sight.trace new.memory) ≡ retired (sight.trace now.memory)
  sink-retires fails =
      let a : count_by is_retire (sight.trace new.memory) ≡ count_by is_retire (sight.trace fails.middle.memory) + count_by is_retire fails.more =
      ap (λ (t : List Event). count_by is_retire t) fails.makes.trace ∙ count-append is_retire (sight.trace fails.middle.memory) fails.more in
      let goes = (comes-counts (history (sight.trace fails.middle.memory)) fails.ended held fails.more fails.kept piece fails.made.not_stopped fails.comes).goes in
      let c : count_by is_retire fails.more ≡ 0 = count-none is_retire fails.more goes in
      let d = steps-retire sight accesses meets now fails.middle fails.ended secure fails.made.steps in omega (arith, a, c, d)

  -- after fewer than n before it
  pub over-retires : (n before counter count : ℕ) → retired (sight.trace now.memory) ≡ before + counter → counter < n → (answer : Done) (last : End) → end_by answer count ≡ Some last
      → DoesSo sight accesses Caused answer held kept piece now new → RetiresInTurn (turns.Over last) n before (retired (sight.trace new.memory))
  over-retires n before counter count far few answer last is does = by answer is does
    where
      at : (other : End) → other ≡ last → RetiresInTurn (turns.Over other) n before (retired (sight.trace new.memory)) → RetiresInTurn (turns.Over last) n before (retired (sight.trace new.memory))
      at other same retires = let P : End → Type 0 = λ e. RetiresInTurn (turns.Over e) n before (retired (sight.trace new.memory)) in subst P same retires

      one : (ended : StepEnd) → IsDone sight accesses ended held kept piece now new → (before < retired (sight.trace new.memory)) × (retired (sight.trace new.memory) ≤ before + n)
      one ended does = let e = done-retires ended does in (omega (arith, e, far), omega (arith, e, far, few))

      none : retired (sight.trace new.memory) ≡ retired (sight.trace now.memory) → (before ≤ retired (sight.trace new.memory)) × (retired (sight.trace new.memory) < before + n)
      none same = (omega (arith, same, far), omega (arith, same, far, few))

      stopped : (reason : Stop) → IsStoppedSo accesses reason held kept piece now new → (before ≤ retired (sight.trace new.memory)) × (retired (sight.trace new.memory) < before + n)
      stopped reason does = none (steps-retire sight accesses meets now new (end.Stopped reason) secure does.steps)

      refused : (reason : Why) → IsStoppedSo accesses (stop.Refused reason) held kept piece now new ⊎ ((reason ≡ why.Mode) × IsForbidden sight accesses held kept piece now new)
          → (before ≤ retired (sight.trace new.memory)) × (retired (sight.trace new.memory) < before + n)
      refused reason (inl does) = stopped (stop.Refused reason) does
      refused reason (inr does) = none (steps-retire sight accesses meets now new does.1.ended secure does.1.steps)

      by : (answer : Done) → end_by answer count ≡ Some last → DoesSo sight accesses Caused answer held kept piece now new → RetiresInTurn (turns.Over last) n before (retired (sight.trace new.memory))
      by done.Goes is does = cc
      by done.Ended is does = at ends.Ended (let e : ends.Ended ≡ last = cc in e) (one end.Exit does)
      by (done.Index place) is does = at (ends.Index place) (let e : ends.Index place ≡ last = cc in e) (one (end.Index place) does)
      by (done.Divide place) is does = at (ends.Divide place) (let e : ends.Divide place ≡ last = cc in e) (one (end.Divide place) does)
      by (done.Refused reason) is does = at (ends.Refused reason count) (let e : ends.Refused reason count ≡ last = cc in e) (refused reason does)
      by (done.Tree event) is does = at (ends.AbortTree event count) (let e : ends.AbortTree event count ≡ last = cc in e) (stopped (stop.Tree event) does)
      by (done.Log event) is does = at (ends.AbortLog (Future event) count) (let e : ends.AbortLog (Future event) count ≡ last = cc in e) (stopped (stop.Log event) does)
      by (done.Fault (fault.Log cause)) is does =
          let fails = does.0 in
          at (ends.AbortLog cause count) (let e : ends.AbortLog cause count ≡ last = cc in e)
          (none
          (check-retires sight fails.events fails.check.middle fails.middle.memory new.memory fails.makes fails.check.events_are (log-blocks fails.check.middle fails.check.blocks)
          ∙ steps-retire sight accesses meets now fails.middle fails.ended secure fails.made.steps))
      by (done.Fault fault.Sink) is does = at ends.WriteFault (let e : ends.WriteFault ≡ last = cc in e) (none (sink-retires does))

-- where the run ended before its first instruction, none was done
pub none-retires : (end : End) (n before after : ℕ) → IsOfEntering end → after ≡ before → 1 ≤ n → RetiresInTurn (turns.Over end) n before after
none-retires (ends.FuelOut count) n before after of same some = (omega (arith, same), omega (arith, same, some))
none-retires (ends.AbortProgram read expected) n before after of same some = (omega (arith, same), omega (arith, same, some))
none-retires end n before after of same some = absurd of

-- at entering none is done
pub entering-retires : (old trace rest : List Event) → old ≡ [] → trace ≡ Note marks.Enter ∷ rest → list_all is_access_event rest ≡ true → retired trace ≡ retired old
entering-retires old trace rest none are access =
    let a : count_by is_retire (Note marks.Enter ∷ rest) ≡ 0 + count_by is_retire rest = count-cons is_retire (Note marks.Enter) rest in
    let b : count_by is_retire rest ≡ 0 = count-none is_retire rest (calm-goes rest (calm-accesses rest access)) in
    let c : count_by is_retire (Note marks.Enter ∷ rest) ≡ 0 = omega (arith, a, b) in
    ap (λ (t : List Event). retired t) are ∙ c ∙ ap (λ (t : List Event). retired t) (sym none)
