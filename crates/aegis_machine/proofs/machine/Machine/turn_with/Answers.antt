use Rattle.std.proofs.Common.{Some, arith, lit≤, [], ℕ, ◌<◌, ◌≡◌, ◌+◌, ◌++◌, ◌∙◌, ap, length, refl, rules, subst, sym, List}
use Rattle.aegis_num.specs.declared.Key.{Key}
use Rattle.off_chip.specs.Boundaries.{retired}
use Rattle.off_chip.specs.declared.Event.{Event}
use Rattle.line_cache.specs.LineMaps.{HoldParents}
use Rattle.stamp_log.specs.LogState.{LogState}
use Rattle.aegis_machine.specs.MachineParts.{CarriesSums, RetiresInTurn, TakesIn, program_of}
use Rattle.aegis_machine.proofs.SecureRuns.{ends-turn, starts-running}
use Rattle.aegis_machine.proofs.machine.Machine.turn_with.Goals as goal

pub run_on-turn-requires-clause-running : goal.run_on-turn-requires-clause-running
run_on-turn-requires-clause-running g c =
    let runs = c.requires.runs in (
      program_of runs.0 c.args.input.now,
      runs.2,
      starts-running g.L.Lines.lines g.O.OffChip.trace g.O.OffChip.room g.O.OffChip.layout g.O.OffChip.same_memory runs.0 c.args.input.now runs.1 c.args.self.now.fuel runs.2 c.args.self.now.held
          c.args.self.now.core c.args.self.now.next c.args.self.now.retired (g.K.Sink.limit c.args.out.now) c.args.parts _ (g.O.OffChip.trace c.args.bus.now) _ refl refl refl refl refl refl refl refl runs.3 runs.4
          c.requires.room,
    )

pub returns-clause-does : goal.returns-clause-does
returns-clause-does g c =
    let e : c.bus-1.given.0 ≡ c.apart-parts.result.1.now = search rules in
    let last = e ∙ c.apart-parts.ensures.bus in
    let does = c.run_on-turn.ensures.does in
    let apart = c.apart-parts.ensures in
    let T : List Event → Type 0 = λ t. TakesIn c.run_on-turn.result t (g.K.Sink.written c.args.out.now) (g.K.Sink.written c.run_on-turn.new.out) (g.K.Sink.faults c.args.out.now)
    (g.K.Sink.faults c.run_on-turn.new.out) does.0 in (
      does.0,
      subst T (sym (ap g.O.OffChip.trace last)) does.1,
      λ image veil handed_out stands takes.
          let running = starts-running g.L.Lines.lines g.O.OffChip.trace g.O.OffChip.room g.O.OffChip.layout g.O.OffChip.same_memory image c.args.input.now veil c.args.self.now.fuel handed_out
          c.args.self.now.held c.args.self.now.core c.args.self.now.next c.args.self.now.retired (g.K.Sink.limit c.args.out.now) c.args.parts _ (g.O.OffChip.trace c.args.bus.now) _ refl refl refl refl refl refl
          refl refl stands takes c.requires.room in
          ends-turn g.L.Lines.lines g.O.OffChip.trace g.O.OffChip.room g.O.OffChip.layout g.O.OffChip.same_memory image c.args.input.now veil c.args.self.now.fuel c.run_on-turn.result
          (g.K.Sink.limit c.run_on-turn.new.out) (handed_out ++ does.0) c.run_on-turn.new.held c.run_on-turn.new.count c.run_on-turn.new.core c.run_on-turn.new.mem c.run_on-turn.new.port
          c.apart-parts.result.0 (g.O.OffChip.trace c.bus-1.given.0) _ c.args.self.now.entered (does.2 (program_of image c.args.input.now) handed_out running) stands.same_veil c.run_on-turn.ensures.ready
          apart.tree apart.log apart.stamps apart.modes apart.layout (ap g.O.OffChip.trace last) (ap (λ b. b.now) c.run_on-turn.ensures.input) c.run_on-turn.ensures.port c.requires.entered,
    )

pub returns-clause-total : goal.returns-clause-total
returns-clause-total g c =
    let e : c.bus-1.given.0 ≡ c.apart-parts.result.1.now = search rules in
    let Q : g.row.O.Denot → Type 0 = λ b. length (g.O.OffChip.trace b) + g.O.OffChip.room b ≡ length (g.O.OffChip.trace c.args.bus.now) + g.O.OffChip.room c.args.bus.now in
    subst Q (sym (e ∙ c.apart-parts.ensures.bus)) c.run_on-turn.ensures.total

pub returns-clause-sums : goal.returns-clause-sums
returns-clause-sums g c =
    let e : c.bus-1.given.0 ≡ c.apart-parts.result.1.now = search rules in
    let P : g.row.O.Denot → Type 0 = λ b. CarriesSums c.args.parts.log.key c.run_on-turn.result (g.O.OffChip.trace b) in
    subst P (sym (e ∙ c.apart-parts.ensures.bus)) c.run_on-turn.ensures.sums

pub returns-clause-key : goal.returns-clause-key
returns-clause-key g c = ap (λ (log : LogState). Some log.key) c.apart-parts.ensures.log ∙ ap (λ (key : Key). Some key) c.run_on-turn.ensures.key

pub returns-clause-over : goal.returns-clause-over
returns-clause-over g c =
    let e : c.bus-1.given.0 ≡ c.apart-parts.result.1.now = search rules in
    let P : g.row.O.Denot → Type 0 = λ b. RetiresInTurn c.run_on-turn.result c.args.n (retired (g.O.OffChip.trace c.args.bus.now)) (retired (g.O.OffChip.trace b)) in
    subst P (sym (e ∙ c.apart-parts.ensures.bus)) c.run_on-turn.ensures.over

-- where nothing is pinned, all parents of what is pinned are
none-pinned : HoldParents []
none-pinned = λ block held above. let below : held.0 < 0 = held.1 in absurd (omega (arith, below))

pub run_on-turn-requires-clause-ready : goal.run_on-turn-requires-clause-ready
run_on-turn-requires-clause-ready g c =
    let pins : c.new.result.items ≡ [] = search rules in
    record {
      ready = record { stands = c.requires.stands; parents = subst (λ (p : List ℕ). HoldParents p) (sym pins) none-pinned; few = rw pins (lit≤ tt); told = c.requires.told };
      sound = c.requires.runs.3.sound;
    }
