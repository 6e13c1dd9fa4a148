use Rattle.std.proofs.Common.{◌≡◌, ◌+◌, ◌≤◌, ℕ, List, ◌∙◌, ap, sym, subst, arith, refl, length, Option}
use Rattle.std.specs.Prelude.{Ok, Err}
use Rattle.regions.specs.declared.layout.Layout.{Layout}
use Rattle.off_chip.specs.declared.event.Mark.TheVariants.{CheckStart, CheckPassed}
use Rattle.off_chip.specs.Histories.{history}
use Rattle.off_chip.specs.BusCalls.{TellsLog}
use Rattle.off_chip.specs.Epochs.{LogEntry, open_writes}
use Rattle.off_chip.specs.Collisions.{sum_of}
use Rattle.stamp_log.specs.LogState.{LogState, value_under, entry_sum}
use Rattle.stamp_log.specs.LogCalls.{WritesBack}
use Rattle.stamp_log.specs.StandsOn.{StandsOn}
use Rattle.stamp_log.specs.OfflineCheck.{PassedFaithful, SumsDiffer}
use Rattle.stamp_log.specs.declared.causes.LogCause.TheVariants.{Future, Sums}
use Rattle.stamp_log.specs.LogEvents.{EndsCheck, RunsCheck, SumsAgree}
use Rattle.stamp_log.proofs.EventLemmas.{check-runs, check-most, check-contents}
use Rattle.stamp_log.proofs.PassLemmas.{InWrites, mark-fits, start-sum, all-written, none-checked, empty-sum, reads-begin, check-stands, same-sum, differ-sum, passed-faithful}
use Rattle.stamp_log.proofs.log.StampLog.check.Goals as goal

pub write_all-requires : goal.write_all-requires
write_all-requires g c =
    let old : LogState = record { key = c.self.inside.key; blocks = c.self.inside.blocks; lines = c.self.inside.lines; read = c.self.inside.read; written = c.self.inside.written } in
    let stands : StandsOn old (history (g.O.OffChip.trace c.args.bus.now)) = subst (λ (l : LogState). StandsOn l (history (g.O.OffChip.trace c.args.bus.now))) (sym c.self.view_is) c.requires.stands in
    let blocks : c.args.self.now.blocks ≡ length c.self.inside.lines.held = ap (λ (l : LogState). l.blocks) (sym c.self.view_is) ∙ sym c.self.invariant.0 in
    let told : TellsLog (length c.self.inside.lines.held) (g.O.OffChip.layout c.args.bus.now) = subst (λ (n : ℕ). TellsLog n (g.O.OffChip.layout c.args.bus.now)) blocks c.requires.told in
    record {
      has_room = omega (arith, c.requires.has_room, c.note.ensures.event.room);
      told = subst (λ (l : Option Layout). TellsLog (length c.self.inside.lines.held) l) (g.met.O.OffChip.same_layout _ _ c.note.ensures.same) told;
      fits = mark-fits c.args.stamps.now CheckStart (g.O.OffChip.trace c.args.bus.now) (g.O.OffChip.trace c.note.new.self) c.note.ensures.event.trace c.requires.fits;
      sum = start-sum (value_under c.self.inside.key) (entry_sum c.self.inside.written) (g.O.OffChip.trace c.args.bus.now) (g.O.OffChip.trace c.note.new.self)
          c.note.ensures.event.trace stands.written;
    }

pub read_all-requires : goal.read_all-requires
read_all-requires g c =
    let old : LogState = record { key = c.self.inside.key; blocks = c.self.inside.blocks; lines = c.self.inside.lines; read = c.self.inside.read; written = c.self.inside.written } in
    let stands : StandsOn old (history (g.O.OffChip.trace c.args.bus.now)) = subst (λ (l : LogState). StandsOn l (history (g.O.OffChip.trace c.args.bus.now))) (sym c.self.view_is) c.requires.stands in
    let blocks : c.args.self.now.blocks ≡ c.self.inside.blocks = ap (λ (l : LogState). l.blocks) (sym c.self.view_is) in
    let told : TellsLog c.self.inside.blocks (g.O.OffChip.layout c.args.bus.now) = subst (λ (n : ℕ). TellsLog n (g.O.OffChip.layout c.args.bus.now)) blocks c.requires.told in
    let writes : WritesBack c.self.inside.blocks (g.O.OffChip.trace c.note.new.self) (g.O.OffChip.trace c.write_all.new.bus) c.self.inside.lines c.write_all.new.lines =
    subst (λ (n : ℕ). WritesBack n (g.O.OffChip.trace c.note.new.self) (g.O.OffChip.trace c.write_all.new.bus) c.self.inside.lines c.write_all.new.lines) c.self.invariant.0 c.write_all.ensures.writes in
    let all : InWrites (value_under c.self.inside.key) c.self.inside.blocks c.write_all.new.lines (history (g.O.OffChip.trace c.args.bus.now)) (history (g.O.OffChip.trace c.write_all.new.bus)) =
    all-written old (g.O.OffChip.trace c.args.bus.now) (g.O.OffChip.trace c.note.new.self) (g.O.OffChip.trace c.write_all.new.bus) c.write_all.new.lines stands c.note.ensures.event.trace writes in
    record {
      has_room = omega (arith, c.requires.has_room, c.note.ensures.event.room, c.write_all.ensures.room, blocks);
      told = subst (λ (l : Option Layout). TellsLog c.self.inside.blocks l)
          (g.met.O.OffChip.same_layout _ _ (g.met.O.OffChip.transitive _ _ _ c.note.ensures.same c.write_all.ensures.same)) told;
      fits = c.write_all.ensures.fits;
      read = stands.read ∙ ap (λ (xs : List LogEntry). sum_of (value_under c.self.inside.key) xs) (sym all.reads);
      next = none-checked (value_under c.self.inside.key) c.empty-next.result (history (g.O.OffChip.trace c.write_all.new.bus)) all.checking c.empty-next.ensures.count c.empty-next.ensures.sum;
      reading = reads-begin (value_under c.self.inside.key) c.self.inside.blocks c.write_all.new.lines (history (g.O.OffChip.trace c.args.bus.now)) (history (g.O.OffChip.trace c.write_all.new.bus))
          all c.write_all.ensures.nothing;
    }

pub returns-clause-stands : goal.returns-clause-stands
returns-clause-stands g c =
    let old : LogState = record { key = c.self.inside.key; blocks = c.self.inside.blocks; lines = c.self.inside.lines; read = c.self.inside.read; written = c.self.inside.written } in
    let new : LogState = record { key = c.self.inside.key; blocks = c.self.inside.blocks; lines = c.write_all.new.lines; read = c.empty-self-inside.result; written = c.read_all.new.next } in
    let stands : StandsOn old (history (g.O.OffChip.trace c.args.bus.now)) = subst (λ (l : LogState). StandsOn l (history (g.O.OffChip.trace c.args.bus.now))) (sym c.self.view_is) c.requires.stands in
    let writes : WritesBack c.self.inside.blocks (g.O.OffChip.trace c.note.new.self) (g.O.OffChip.trace c.write_all.new.bus) c.self.inside.lines c.write_all.new.lines =
    subst (λ (n : ℕ). WritesBack n (g.O.OffChip.trace c.note.new.self) (g.O.OffChip.trace c.write_all.new.bus) c.self.inside.lines c.write_all.new.lines) c.self.invariant.0 c.write_all.ensures.writes in
    let all : InWrites (value_under c.self.inside.key) c.self.inside.blocks c.write_all.new.lines (history (g.O.OffChip.trace c.args.bus.now)) (history (g.O.OffChip.trace c.write_all.new.bus)) =
    all-written old (g.O.OffChip.trace c.args.bus.now) (g.O.OffChip.trace c.note.new.self) (g.O.OffChip.trace c.write_all.new.bus) c.write_all.new.lines stands c.note.ensures.event.trace writes in
    let same : entry_sum c.read_all.new.read ≡ entry_sum c.write_all.new.written = same-sum c.read_all.new.read c.write_all.new.written c.if-ne.ensures in
    let kept : sum_of (value_under c.self.inside.key) (open_writes (history (g.O.OffChip.trace c.read_all.new.bus))) ≡ entry_sum c.write_all.new.written =
    ap (λ (xs : List LogEntry). sum_of (value_under c.self.inside.key) xs) c.in_default.ensures.reading.writes ∙ sym c.write_all.ensures.sum in
    check-stands new c.write_all.new.stamps (g.O.OffChip.trace c.args.bus.now) (g.O.OffChip.trace c.note.new.self) (g.O.OffChip.trace c.write_all.new.bus)
    (g.O.OffChip.trace c.read_all.new.bus) (g.O.OffChip.trace c.note-2.new.self) old refl refl all c.write_all.ensures.nothing c.in_default.ensures.reading
    c.read_all.ensures.fits (kept ∙ sym same ∙ c.in_default.ensures.read) (empty-sum c.empty-self-inside.result c.empty-self-inside.ensures.count c.empty-self-inside.ensures.sum)
    c.in_default.ensures.next c.note-2.ensures.event.trace

pub returns-clause-faithful : goal.returns-clause-faithful
returns-clause-faithful g c =
    let stands : StandsOn (record { key = c.self.inside.key; blocks = c.self.inside.blocks; lines = c.write_all.new.lines; read = c.empty-self-inside.result; written = c.read_all.new.next })
    (history (g.O.OffChip.trace c.note-2.new.self)) = returns-clause-stands g c in
    subst (λ (l : LogState). PassedFaithful (value_under l.key) (g.O.OffChip.trace c.note-2.new.self)) c.self.view_is
    (passed-faithful (value_under c.self.inside.key) c.self.inside.blocks (g.O.OffChip.trace c.read_all.new.bus) (g.O.OffChip.trace c.note-2.new.self) c.note-2.ensures.event.trace stands.trace)

pub returns-clause-fits : goal.returns-clause-fits
returns-clause-fits g c = mark-fits c.write_all.new.stamps CheckPassed (g.O.OffChip.trace c.read_all.new.bus) (g.O.OffChip.trace c.note-2.new.self) c.note-2.ensures.event.trace
    c.read_all.ensures.fits

pub returns-then-ne-clause-cause : goal.returns-then-ne-clause-cause
returns-then-ne-clause-cause g c =
    let kept : sum_of (value_under c.self.inside.key) (open_writes (history (g.O.OffChip.trace c.read_all.new.bus))) ≡ entry_sum c.write_all.new.written =
    ap (λ (xs : List LogEntry). sum_of (value_under c.self.inside.key) xs) c.in_default.ensures.reading.writes ∙ sym c.write_all.ensures.sum in
    subst (λ (l : LogState). SumsDiffer (value_under l.key) (g.O.OffChip.trace c.read_all.new.bus) c.read_all.new.read c.write_all.new.written) c.self.view_is
    (record { reads = c.in_default.ensures.read; writes = sym kept; differ = differ-sum c.read_all.new.read c.write_all.new.written c.if-ne.ensures })

pub returns-clause-events : goal.returns-clause-events
returns-clause-events g c =
    let value : LogEntry → ℕ = value_under c.self.inside.key in
    let writes : WritesBack c.self.inside.blocks (g.O.OffChip.trace c.note.new.self) (g.O.OffChip.trace c.write_all.new.bus) c.self.inside.lines c.write_all.new.lines =
    subst (λ (n : ℕ). WritesBack n (g.O.OffChip.trace c.note.new.self) (g.O.OffChip.trace c.write_all.new.bus) c.self.inside.lines c.write_all.new.lines) c.self.invariant.0 c.write_all.ensures.writes in
    let kept : sum_of value (open_writes (history (g.O.OffChip.trace c.read_all.new.bus))) ≡ entry_sum c.write_all.new.written =
    ap (λ (xs : List LogEntry). sum_of value xs) c.in_default.ensures.reading.writes ∙ sym c.write_all.ensures.sum in
    let agree : SumsAgree value (g.O.OffChip.trace c.read_all.new.bus) =
    sym c.in_default.ensures.read ∙ same-sum c.read_all.new.read c.write_all.new.written c.if-ne.ensures ∙ sym kept in
    let ends : EndsCheck value c.self.inside.blocks (g.O.OffChip.trace c.write_all.new.bus) (g.O.OffChip.trace c.note-2.new.self) (Ok tt) =
    EndsCheck.passes (g.O.OffChip.trace c.read_all.new.bus) c.in_default.ensures.order agree c.note-2.ensures.event.trace refl in
    subst (λ (l : LogState). RunsCheck (value_under l.key) l.blocks (Ok tt) (g.O.OffChip.trace c.args.bus.now) (g.O.OffChip.trace c.note-2.new.self) l.lines c.write_all.new.lines) c.self.view_is
    (check-runs value c.self.inside.blocks (Ok tt) (g.O.OffChip.trace c.args.bus.now) (g.O.OffChip.trace c.note.new.self) (g.O.OffChip.trace c.write_all.new.bus)
    (g.O.OffChip.trace c.note-2.new.self) c.self.inside.lines c.write_all.new.lines c.note.ensures.event.trace writes c.write_all.ensures.nothing c.write_all.ensures.few ends)

pub returns-clause-most : goal.returns-clause-most
returns-clause-most g c = check-most (value_under c.args.self.now.key) c.args.self.now.blocks (Ok tt) (g.O.OffChip.trace c.args.bus.now) (g.O.OffChip.trace c.note-2.new.self)
    c.args.self.now.lines c.write_all.new.lines (returns-clause-events g c)

pub returns-clause-contents : goal.returns-clause-contents
returns-clause-contents g c = check-contents (value_under c.args.self.now.key) c.args.self.now.blocks (Ok tt) (g.O.OffChip.trace c.args.bus.now) (g.O.OffChip.trace c.note-2.new.self)
    c.args.self.now.lines c.write_all.new.lines c.requires.stands.size (returns-clause-events g c)

pub returns-then-ne-clause-events : goal.returns-then-ne-clause-events
returns-then-ne-clause-events g c =
    let value : LogEntry → ℕ = value_under c.self.inside.key in
    let writes : WritesBack c.self.inside.blocks (g.O.OffChip.trace c.note.new.self) (g.O.OffChip.trace c.write_all.new.bus) c.self.inside.lines c.write_all.new.lines =
    subst (λ (n : ℕ). WritesBack n (g.O.OffChip.trace c.note.new.self) (g.O.OffChip.trace c.write_all.new.bus) c.self.inside.lines c.write_all.new.lines) c.self.invariant.0 c.write_all.ensures.writes in
    let kept : sum_of value (open_writes (history (g.O.OffChip.trace c.read_all.new.bus))) ≡ entry_sum c.write_all.new.written =
    ap (λ (xs : List LogEntry). sum_of value xs) c.in_default.ensures.reading.writes ∙ sym c.write_all.ensures.sum in
    let differ : SumsAgree value (g.O.OffChip.trace c.read_all.new.bus) → ⊥ =
    λ agree. differ-sum c.read_all.new.read c.write_all.new.written c.if-ne.ensures (c.in_default.ensures.read ∙ agree ∙ kept) in
    let ends : EndsCheck value c.self.inside.blocks (g.O.OffChip.trace c.write_all.new.bus) (g.O.OffChip.trace c.read_all.new.bus) (Err (Sums c.read_all.new.read c.write_all.new.written)) =
    EndsCheck.differs c.read_all.new.read c.write_all.new.written c.in_default.ensures.order differ refl in
    subst (λ (l : LogState). RunsCheck (value_under l.key) l.blocks (Err (Sums c.read_all.new.read c.write_all.new.written)) (g.O.OffChip.trace c.args.bus.now) (g.O.OffChip.trace c.read_all.new.bus) l.lines c.write_all.new.lines) c.self.view_is
    (check-runs value c.self.inside.blocks (Err (Sums c.read_all.new.read c.write_all.new.written)) (g.O.OffChip.trace c.args.bus.now) (g.O.OffChip.trace c.note.new.self) (g.O.OffChip.trace c.write_all.new.bus)
    (g.O.OffChip.trace c.read_all.new.bus) c.self.inside.lines c.write_all.new.lines c.note.ensures.event.trace writes c.write_all.ensures.nothing c.write_all.ensures.few ends)

pub returns-then-ne-clause-most : goal.returns-then-ne-clause-most
returns-then-ne-clause-most g c = check-most (value_under c.args.self.now.key) c.args.self.now.blocks (Err (Sums c.read_all.new.read c.write_all.new.written)) (g.O.OffChip.trace c.args.bus.now) (g.O.OffChip.trace c.read_all.new.bus)
    c.args.self.now.lines c.write_all.new.lines (returns-then-ne-clause-events g c)

pub returns-then-ne-clause-contents : goal.returns-then-ne-clause-contents
returns-then-ne-clause-contents g c = check-contents (value_under c.args.self.now.key) c.args.self.now.blocks (Err (Sums c.read_all.new.read c.write_all.new.written)) (g.O.OffChip.trace c.args.bus.now) (g.O.OffChip.trace c.read_all.new.bus)
    c.args.self.now.lines c.write_all.new.lines c.requires.stands.size (returns-then-ne-clause-events g c)

pub returns-in-Err-clause-events : goal.returns-in-Err-clause-events
returns-in-Err-clause-events g c =
    let value : LogEntry → ℕ = value_under c.self.inside.key in
    let writes : WritesBack c.self.inside.blocks (g.O.OffChip.trace c.note.new.self) (g.O.OffChip.trace c.write_all.new.bus) c.self.inside.lines c.write_all.new.lines =
    subst (λ (n : ℕ). WritesBack n (g.O.OffChip.trace c.note.new.self) (g.O.OffChip.trace c.write_all.new.bus) c.self.inside.lines c.write_all.new.lines) c.self.invariant.0 c.write_all.ensures.writes in
    let ends : EndsCheck value c.self.inside.blocks (g.O.OffChip.trace c.write_all.new.bus) (g.O.OffChip.trace c.read_all.new.bus) (Err (Future c.in-Err.event)) =
    EndsCheck.stops c.in-Err.event c.in-Err.ensures.stops refl in
    subst (λ (l : LogState). RunsCheck (value_under l.key) l.blocks (Err (Future c.in-Err.event)) (g.O.OffChip.trace c.args.bus.now) (g.O.OffChip.trace c.read_all.new.bus) l.lines c.write_all.new.lines) c.self.view_is
    (check-runs value c.self.inside.blocks (Err (Future c.in-Err.event)) (g.O.OffChip.trace c.args.bus.now) (g.O.OffChip.trace c.note.new.self) (g.O.OffChip.trace c.write_all.new.bus)
    (g.O.OffChip.trace c.read_all.new.bus) c.self.inside.lines c.write_all.new.lines c.note.ensures.event.trace writes c.write_all.ensures.nothing c.write_all.ensures.few ends)

pub returns-in-Err-clause-most : goal.returns-in-Err-clause-most
returns-in-Err-clause-most g c = check-most (value_under c.args.self.now.key) c.args.self.now.blocks (Err (Future c.in-Err.event)) (g.O.OffChip.trace c.args.bus.now) (g.O.OffChip.trace c.read_all.new.bus)
    c.args.self.now.lines c.write_all.new.lines (returns-in-Err-clause-events g c)

pub returns-in-Err-clause-contents : goal.returns-in-Err-clause-contents
returns-in-Err-clause-contents g c = check-contents (value_under c.args.self.now.key) c.args.self.now.blocks (Err (Future c.in-Err.event)) (g.O.OffChip.trace c.args.bus.now) (g.O.OffChip.trace c.read_all.new.bus)
    c.args.self.now.lines c.write_all.new.lines c.requires.stands.size (returns-in-Err-clause-events g c)
