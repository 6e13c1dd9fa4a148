use Rattle.std.proofs.Common.{◌++◌, ◌∙◌, [], arith, length, refl, subst, sym, ℕ, List, Option}
use Rattle.std.specs.Prelude.{IfSome}
use Rattle.aegis_num.specs.declared.Key.{Key}
use Rattle.regions.specs.declared.Layout.{Layout}
use Rattle.off_chip.specs.BusCalls.{TellsOnly}
use Rattle.off_chip.specs.declared.Event.{Event}
use Rattle.secure_memory.specs.PrivatePads.{hidden_payload}
use Rattle.aegis_machine.specs.declared.turns.Turn.TheVariants.{Over}
use Rattle.aegis_machine.specs.MachineParts.{CarriesSums, FitsMachine, RunIsOver, TakesRest, program_of}
use Rattle.aegis_machine.proofs.RunLemmas.{appends-both}
use Rattle.aegis_machine.proofs.TurnLemmas.{appends-nothing, takes-more}
use Rattle.aegis_machine.proofs.machine.run.Goals as goal

pub turns-init : goal.turns-init
turns-init g c =
    let P : List Event → Type 0 = λ t. FitsMachine g.L.Lines.lines c.args.image.now c.args.input.now (hidden_payload c.args.store.tree.veil) t [] c.new-machine.result in
    record {
      far = record {
        piece = [];
        taken = appends-nothing _;
        fits = subst P (sym c.requires.unused) (c.new-machine.ensures.fits c.args.input.now);
        takes = c.requires.takes;
        fuel_is = c.new-machine.ensures.fuel;
      };
      key = c.new-machine.ensures.key;
      steady = refl;
      count = omega (arith, c.new-machine.ensures.retired);
      total = refl;
      told = c.requires.told;
      same = g.met.O.OffChip.reflexive _;
    }

pub turn-requires-clause-fits : goal.turn-requires-clause-fits
turn-requires-clause-fits g c =
    let far = c.turns.invariant.far in
    let P : ℕ → Type 0 = λ fuel. TakesRest (g.K.Sink.limit c.turns.out) fuel (length far.piece) in
    (hidden_payload c.args.store.tree.veil, far.piece, far.fits, subst P (sym far.fuel_is) far.takes)

pub turn-requires-clause-room : goal.turn-requires-clause-room
turn-requires-clause-room g c = omega (arith, c.turns.invariant.total, c.turns.invariant.far.fuel_is, c.requires.room)

pub returns-in-Over-clause-does : goal.returns-in-Over-clause-does
returns-in-Over-clause-does g c =
    let far = c.turns.invariant.far in
    let does = c.in-Over.ensures.does in
    let P : ℕ → Type 0 = λ fuel. TakesRest (g.K.Sink.limit c.turns.out) fuel (length far.piece) in
    let Q : ℕ → Type 0 = λ fuel. RunIsOver (hidden_payload c.args.store.tree.veil) (program_of c.args.image.now c.args.input.now) fuel (far.piece ++ does.0) c.in-Over.end (g.O.OffChip.trace c.turn.new.bus) in (
      far.piece ++ does.0,
      takes-more c.in-Over.end (g.O.OffChip.trace c.turn.new.bus) (g.K.Sink.written c.args.out.now) (g.K.Sink.written c.turns.out) (g.K.Sink.written c.turn.new.out) (g.K.Sink.faults c.args.out.now) (g.K.Sink.faults c.turns.out)
          (g.K.Sink.faults c.turn.new.out) far.piece does.0 far.taken c.turns.invariant.steady does.1,
      subst Q far.fuel_is (does.2 (hidden_payload c.args.store.tree.veil) far.piece far.fits (subst P (sym far.fuel_is) far.takes)),
    )

pub returns-in-Over-clause-same : goal.returns-in-Over-clause-same
returns-in-Over-clause-same g c = g.met.O.OffChip.transitive _ _ _ c.turns.invariant.same c.turn.ensures.same

pub turns-preserved : goal.turns-preserved
turns-preserved g c =
    let far = c.turns.invariant.far in
    let does = c.in-Parked.ensures.does in
    let P : ℕ → Type 0 = λ fuel. TakesRest (g.K.Sink.limit c.turns.out) fuel (length far.piece) in
    let ends = does.2 (hidden_payload c.args.store.tree.veil) far.piece far.fits (subst P (sym far.fuel_is) far.takes) in
    let Q : ℕ → Type 0 = λ fuel. TakesRest (g.K.Sink.limit c.turn.new.out) fuel (length (far.piece ++ does.0)) in
    let T : Option Layout → Type 0 = λ t. TellsOnly c.args.image.now.layout t in
    record {
      far = record {
        piece = far.piece ++ does.0;
        taken = appends-both (g.K.Sink.written c.args.out.now) (g.K.Sink.written c.turns.out) (g.K.Sink.written c.turn.new.out) far.piece does.0 far.taken does.1.0;
        fits = ends.0;
        takes = subst Q far.fuel_is ends.1;
        fuel_is = ends.2 ∙ far.fuel_is;
      };
      key = c.in-Parked.ensures.key refl ∙ c.turns.invariant.key;
      steady = does.1.1 ∙ c.turns.invariant.steady;
      count = let e = c.in-Parked.ensures.parked refl in omega (arith, e, c.turns.invariant.count);
      total = c.turn.ensures.total ∙ c.turns.invariant.total;
      told = subst T (g.met.O.OffChip.same_layout _ _ c.turn.ensures.same) c.turns.invariant.told;
      same = g.met.O.OffChip.transitive _ _ _ c.turns.invariant.same c.turn.ensures.same;
    }

pub returns-in-Over-clause-sums : goal.returns-in-Over-clause-sums
returns-in-Over-clause-sums g c =
    let P : Option Key → Type 0 = λ o. IfSome o (λ key. CarriesSums key (Over c.in-Over.end) (g.O.OffChip.trace c.turn.new.bus)) in subst P c.turns.invariant.key c.in-Over.ensures.sums
