use Rattle.std.proofs.Common.{◌≡◌, ◌+◌, ◌++◌, ◌∙◌, [], arith, length, refl, subst, sym, ℕ, List}
use Rattle.std.specs.Prelude.{Option}
use Rattle.regions.specs.declared.Layout.{Layout}
use Rattle.off_chip.specs.BusCalls.{TellsOnly}
use Rattle.off_chip.specs.declared.Event.{Event}
use Rattle.secure_memory.specs.PrivatePads.{hidden_payload}
use Rattle.aegis_machine.specs.MachineParts.{FitsMachine, TakesRest}
use Rattle.machine_list.proofs.running.turn_on.Goals as goal

pub turns-init : goal.turns-init
turns-init g c =
    let F : List Event → Type 0 = λ t. FitsMachine g.L.Lines.lines c.args.image.now c.args.input.now (hidden_payload c.args.store.tree.veil) t [] c.new-machine.result in
    let T : ℕ → Type 0 = λ fuel. TakesRest (g.K.Sink.limit c.args.out.now) fuel 0 in
    record {
      far = ([], subst F (sym c.requires.unused) (c.new-machine.ensures.fits c.args.input.now), subst T (sym c.new-machine.ensures.fuel) c.requires.takes);
      fuel_is = c.new-machine.ensures.fuel;
      total = refl;
      told = c.requires.told;
    }

pub turn-requires-clause-fits : goal.turn-requires-clause-fits
turn-requires-clause-fits g c =
    let far = c.turns.invariant.far in
    (hidden_payload c.args.store.tree.veil, far.0, far.1, far.2)

pub turn-requires-clause-room : goal.turn-requires-clause-room
turn-requires-clause-room g c = omega (arith, c.turns.invariant.total, c.turns.invariant.fuel_is, c.requires.room)

pub turns-preserved : goal.turns-preserved
turns-preserved g c =
    let far = c.turns.invariant.far in
    let does = c.in-Parked.ensures.does in
    let ends = does.2 (hidden_payload c.args.store.tree.veil) far.0 far.1 far.2 in
    let P : ℕ → Type 0 = λ fuel. TakesRest (g.K.Sink.limit c.turn.new.out) fuel (length (far.0 ++ does.0)) in
    let T : Option Layout → Type 0 = λ t. TellsOnly c.args.image.now.layout t in
    record {
      far = (far.0 ++ does.0, ends.0, subst P (sym ends.2) ends.1);
      fuel_is = ends.2 ∙ c.turns.invariant.fuel_is;
      total = c.turn.ensures.total ∙ c.turns.invariant.total;
      told = subst T (g.met.O.OffChip.same_layout _ _ c.turn.ensures.same) c.turns.invariant.told;
    }
