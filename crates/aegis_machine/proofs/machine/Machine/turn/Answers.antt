use Rattle.std.proofs.Common.{◌++◌, ◌∙◌, [], arith, length, subst, sym, ℕ, List, Option}
use Rattle.std.proofs.lemmas.List.{append-nil}
use Rattle.regions.specs.declared.Layout.{Layout}
use Rattle.off_chip.specs.Boundaries.{retired}
use Rattle.off_chip.specs.BusCalls.{TellsOnly}
use Rattle.aegis_machine.specs.MachineParts.{EndsTurn, RetiresInTurn, RunIsOver, TakesRest, program_of}
use Rattle.aegis_machine.proofs.TurnLemmas.{carries-nothing, carries-some, stands-same, takes-nothing}
use Rattle.aegis_machine.proofs.TurnCounts.{none-retires}
use Rattle.aegis_machine.proofs.machine.Machine.turn.Goals as goal

pub ready_parts-requires-clause-fits : goal.ready_parts-requires-clause-fits
ready_parts-requires-clause-fits g c = let fits = c.requires.fits in (c.args.input.now, fits.0, fits.1, fits.2)

pub turn_with-requires-clause-runs : goal.turn_with-requires-clause-runs
turn_with-requires-clause-runs g c =
    let fits = c.requires.fits in
    let same = c.ready_parts.ensures in (
      c.args.image.now,
      fits.0,
      fits.1,
      stands-same g.L.Lines.lines c.args.image.now c.args.input.now fits.0 _ fits.1 _ _ _ _ _ _ _ _ _ _ c.in-Ok.parts same.core same.next same.held same.fuel same.retired
          (c.in-Ok.ensures.ready c.args.input.now fits.0 fits.1 (λ k. omega (arith, c.type_inv.input k)) fits.2),
      (let P : ℕ → Type 0 = λ fuel. TakesRest (g.K.Sink.limit c.args.out.now) fuel (length fits.1) in subst P (sym same.fuel) fits.3),
    )

pub turn_with-requires-clause-room : goal.turn_with-requires-clause-room
turn_with-requires-clause-room g c = omega (arith, c.requires.room, c.ready_parts.ensures.total, c.ready_parts.ensures.fuel)

pub turn_with-requires-clause-told : goal.turn_with-requires-clause-told
turn_with-requires-clause-told g c =
    let P : Layout → Type 0 = λ l. TellsOnly l (g.O.OffChip.layout c.ready_parts.new.bus) in
    let Q : Option Layout → Type 0 = λ t. TellsOnly c.args.image.now.layout t in
    subst P (sym c.in-Ok.ensures.layout) (subst Q (g.met.O.OffChip.same_layout _ _ c.ready_parts.ensures.same) c.requires.told)

pub returns-in-Ok-clause-does : goal.returns-in-Ok-clause-does
returns-in-Ok-clause-does g c =
    let does = c.turn_with.ensures.does in
    let same = c.ready_parts.ensures in (
      does.0,
      does.1,
      λ veil handed_out fits takes.
          let P : ℕ → Type 0 = λ fuel. TakesRest (g.K.Sink.limit c.args.out.now) fuel (length handed_out) in
          let Q : ℕ → Type 0 =
          λ fuel. EndsTurn g.L.Lines.lines c.args.image.now c.args.input.now veil fuel c.turn_with.result (g.O.OffChip.trace c.turn_with.new.bus) (g.K.Sink.limit c.turn_with.new.out) (handed_out ++ does.0)
          c.turn_with.new.self in
          subst Q same.fuel
          (does.2 c.args.image.now veil handed_out
          (stands-same g.L.Lines.lines c.args.image.now c.args.input.now veil _ handed_out _ _ _ _ _ _ _ _ _ _ c.in-Ok.parts same.core same.next same.held same.fuel same.retired
          (c.in-Ok.ensures.ready c.args.input.now veil handed_out (λ k. omega (arith, c.type_inv.input k)) fits))
          (subst P (sym same.fuel) takes)),
    )

pub returns-in-Ok-clause-same : goal.returns-in-Ok-clause-same
returns-in-Ok-clause-same g c = g.met.O.OffChip.transitive _ _ _ c.ready_parts.ensures.same c.turn_with.ensures.same

pub returns-in-Ok-clause-total : goal.returns-in-Ok-clause-total
returns-in-Ok-clause-total g c = c.turn_with.ensures.total ∙ c.ready_parts.ensures.total

pub returns-in-Err-clause-does : goal.returns-in-Err-clause-does
returns-in-Err-clause-does g c = (
  [],
  takes-nothing c.in-Err.end (g.O.OffChip.trace c.ready_parts.new.bus) (g.K.Sink.written c.args.out.now) (g.K.Sink.faults c.args.out.now) c.in-Err.ensures.ends,
  λ veil handed_out fits takes.
      let P : List ℕ → Type 0 = λ bytes. RunIsOver veil (program_of c.args.image.now c.args.input.now) c.args.self.now.fuel bytes c.in-Err.end (g.O.OffChip.trace c.ready_parts.new.bus) in
      subst P (sym (append-nil handed_out)) (c.in-Err.ensures.over c.args.input.now veil handed_out fits),
)

pub returns-in-Ok-clause-parked : goal.returns-in-Ok-clause-parked
returns-in-Ok-clause-parked g c parked = let e = c.turn_with.ensures.parked parked in omega (arith, e, c.ready_parts.ensures.retired)

pub returns-in-Ok-clause-sums : goal.returns-in-Ok-clause-sums
returns-in-Ok-clause-sums g c = carries-some _ c.in-Ok.parts.log.key c.turn_with.result (g.O.OffChip.trace c.turn_with.new.bus) c.in-Ok.ensures.key c.turn_with.ensures.sums

pub returns-in-Ok-clause-key : goal.returns-in-Ok-clause-key
returns-in-Ok-clause-key g c parked = c.turn_with.ensures.key ∙ sym c.in-Ok.ensures.key

pub returns-in-Err-clause-sums : goal.returns-in-Err-clause-sums
returns-in-Err-clause-sums g c = carries-nothing _ c.in-Err.end (g.O.OffChip.trace c.ready_parts.new.bus) c.in-Err.ensures.ends

pub returns-in-Ok-clause-over : goal.returns-in-Ok-clause-over
returns-in-Ok-clause-over g c =
    let P : ℕ → Type 0 = λ before. RetiresInTurn c.turn_with.result c.args.n before (retired (g.O.OffChip.trace c.turn_with.new.bus)) in subst P c.ready_parts.ensures.none c.turn_with.ensures.over

pub returns-in-Err-clause-over : goal.returns-in-Err-clause-over
returns-in-Err-clause-over g c = none-retires c.in-Err.end c.args.n _ _ c.in-Err.ensures.ends c.ready_parts.ensures.none c.requires.some
