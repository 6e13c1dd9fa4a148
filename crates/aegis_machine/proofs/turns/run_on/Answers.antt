use Rattle.std.proofs.Common.{◌≡◌, ◌+◌, ◌∙◌, ◌++◌, arith, refl, subst, sym, ℕ, length}
use Rattle.off_chip.specs.Boundaries.{retired}
use Rattle.bus_machine.specs.BusMachine.{Veil}
use Rattle.aegis_machine.specs.declared.ends.End.TheVariants.{FuelOut}
use Rattle.aegis_machine.specs.declared.instructions.Done.{Done}
use Rattle.aegis_machine.specs.declared.instructions.Done.TheVariants.{Goes}
use Rattle.aegis_machine.specs.FuelTests.{HasFuel}
use Rattle.aegis_machine.specs.InstructionsDone.{DoesSo, HandsOut}
use Rattle.aegis_machine.specs.MachineParts.{RunIsOver}
use Rattle.aegis_machine.proofs.RunLemmas.{count-less, fuel-out, goes-on, room-enough, since-more, since-over, since-start, since-takes, takes-enough}
use Rattle.aegis_machine.proofs.SecureRuns.{accesses_on, carries-on, caused_on, meets_on, room_on, sight_on, tells_on}
use Rattle.aegis_machine.proofs.TurnCounts.{over-retires}
use Rattle.aegis_machine.proofs.turns.run_on.Goals as goal

pub instructions-init : goal.instructions-init
instructions-init g c = record {
  since = since-start _ _ c.args.fuel _ _ _ _ _;
  steady = refl;
  ready = c.requires.ready;
  parked = omega arith;
  port = c.requires.port;
  input = refl;
  same = g.met.O.OffChip.reflexive _;
  total = refl;
  same_reference = refl;
  key = refl;
}

pub returns-then-not-has_fuel-clause-does : goal.returns-then-not-has_fuel-clause-does
returns-then-not-has_fuel-clause-does g c =
    let since = c.instructions.invariant.since in
    let sight = sight_on g.L.Lines.lines g.O.OffChip.trace g.O.OffChip.room g.O.OffChip.layout g.O.OffChip.same_memory in (
      since.piece,
      (since.taken, c.instructions.invariant.steady),
      λ program handed_out running.
          let so_far = since.runs program handed_out running in
          let P : Veil → Type 0 = λ v. RunIsOver v program c.args.fuel (handed_out ++ since.piece) (FuelOut c.instructions.count) (g.O.OffChip.trace c.instructions.mem.lent.now) in
          subst P so_far.1
          (fuel-out sight (room_on g.L.Lines.lines g.O.OffChip.trace g.O.OffChip.room g.O.OffChip.layout g.O.OffChip.same_memory) program c.args.fuel _ (handed_out ++ since.piece) _ c.instructions.count
          (record { core = c.instructions.core; memory = c.instructions.mem; port = c.instructions.port }) so_far.0
          (λ has.
          let is = c.has_fuel.ensures.1 (subst (λ (n : ℕ). HasFuel c.instructions.mem.layout c.args.fuel n) (sym c.events.ensures.value) has) in
          let not = c.if-not-has_fuel.true in
          cc)),
    )

pub instruction-done-requires-clause-secure : goal.instruction-done-requires-clause-secure
instruction-done-requires-clause-secure g c =
    let running = c.requires.running in
    (c.instructions.invariant.since.runs running.0 running.1 running.2).0.stands.tied.secure

pub instruction-done-requires-clause-has_room : goal.instruction-done-requires-clause-has_room
instruction-done-requires-clause-has_room g c =
    let running = c.requires.running in
    let so_far = c.instructions.invariant.since.runs running.0 running.1 running.2 in
    let has : HasFuel c.instructions.mem.layout c.args.fuel (length (g.O.OffChip.trace c.instructions.mem.lent.now)) =
    subst (λ (n : ℕ). HasFuel c.instructions.mem.layout c.args.fuel n) c.events.ensures.value (c.has_fuel.ensures.0 c.if-not-has_fuel.false) in
    room-enough _ _ running.0 c.args.fuel _ _ _ _ _ so_far.0 has

pub instruction-done-requires-clause-takes : goal.instruction-done-requires-clause-takes
instruction-done-requires-clause-takes g c =
    let running = c.requires.running in
    let so_far = c.instructions.invariant.since.runs running.0 running.1 running.2 in
    let has : HasFuel c.instructions.mem.layout c.args.fuel (length (g.O.OffChip.trace c.instructions.mem.lent.now)) =
    subst (λ (n : ℕ). HasFuel c.instructions.mem.layout c.args.fuel n) c.events.ensures.value (c.has_fuel.ensures.0 c.if-not-has_fuel.false) in
    takes-enough _ _ running.0 c.args.fuel _ _ _ _ _ so_far.0 has

pub instruction-done-requires-clause-few : goal.instruction-done-requires-clause-few
instruction-done-requires-clause-few g c =
    let running = c.requires.running in
    (c.instructions.invariant.since.runs running.0 running.1 running.2).0.stands.few

pub returns-in-Some-clause-does : goal.returns-in-Some-clause-does
returns-in-Some-clause-does g c =
    let since = c.instructions.invariant.since in
    let does = c.instruction-done.ensures.does in
    let has : HasFuel c.instructions.mem.layout c.args.fuel (length (g.O.OffChip.trace c.instructions.mem.lent.now)) =
    subst (λ (n : ℕ). HasFuel c.instructions.mem.layout c.args.fuel n) c.events.ensures.value (c.has_fuel.ensures.0 c.if-not-has_fuel.false) in (
      since.piece ++ does.0,
      since-takes (sight_on g.L.Lines.lines g.O.OffChip.trace g.O.OffChip.room g.O.OffChip.layout g.O.OffChip.same_memory)
          (accesses_on g.L.Lines.lines g.O.OffChip.trace g.O.OffChip.room g.O.OffChip.layout g.O.OffChip.same_memory)
          (meets_on g.L.Lines.lines g.O.OffChip.trace g.O.OffChip.room g.O.OffChip.layout g.O.OffChip.same_memory)
          (caused_on g.L.Lines.lines g.O.OffChip.trace g.O.OffChip.room g.O.OffChip.layout g.O.OffChip.same_memory)
          (tells_on g.L.Lines.lines g.O.OffChip.trace g.O.OffChip.room g.O.OffChip.layout g.O.OffChip.same_memory)
          (room_on g.L.Lines.lines g.O.OffChip.trace g.O.OffChip.room g.O.OffChip.layout g.O.OffChip.same_memory) c.args.fuel _ _ _ _ _ _ _ c.instructions.count _ _ since has c.instruction-done.new.held does.0
          (record { core = c.instruction-done.new.core; memory = c.instruction-done.new.mem; port = c.instruction-done.new.port }) _ (g.K.Sink.limit c.instruction-done.new.out)
          (g.K.Sink.faults c.instructions.out) _ c.instruction-done.result c.in-Some.end _ (sym c.end_after.ensures ∙ c.in-Some.is) c.instructions.invariant.steady does.1 does.2,
      since-over (sight_on g.L.Lines.lines g.O.OffChip.trace g.O.OffChip.room g.O.OffChip.layout g.O.OffChip.same_memory)
          (accesses_on g.L.Lines.lines g.O.OffChip.trace g.O.OffChip.room g.O.OffChip.layout g.O.OffChip.same_memory)
          (meets_on g.L.Lines.lines g.O.OffChip.trace g.O.OffChip.room g.O.OffChip.layout g.O.OffChip.same_memory)
          (caused_on g.L.Lines.lines g.O.OffChip.trace g.O.OffChip.room g.O.OffChip.layout g.O.OffChip.same_memory)
          (tells_on g.L.Lines.lines g.O.OffChip.trace g.O.OffChip.room g.O.OffChip.layout g.O.OffChip.same_memory)
          (room_on g.L.Lines.lines g.O.OffChip.trace g.O.OffChip.room g.O.OffChip.layout g.O.OffChip.same_memory) c.args.fuel _ _ _ _ _ _ _ c.instructions.count _ _ since has c.instruction-done.new.held does.0
          (record { core = c.instruction-done.new.core; memory = c.instruction-done.new.mem; port = c.instruction-done.new.port }) (g.K.Sink.written c.instruction-done.new.out) (g.K.Sink.limit c.instruction-done.new.out)
          (g.K.Sink.faults c.instructions.out) (g.K.Sink.faults c.instruction-done.new.out) c.instruction-done.result c.in-Some.end (sym c.end_after.ensures ∙ c.in-Some.is) does.1,
    )

pub overflow_add-count : goal.overflow_add-count
overflow_add-count g c =
    let running = c.requires.running in
    let so_far = c.instructions.invariant.since.runs running.0 running.1 running.2 in
    let has : HasFuel c.instructions.mem.layout c.args.fuel (length (g.O.OffChip.trace c.instructions.mem.lent.now)) =
    subst (λ (n : ℕ). HasFuel c.instructions.mem.layout c.args.fuel n) c.events.ensures.value (c.has_fuel.ensures.0 c.if-not-has_fuel.false) in
    let room = room-enough _ _ running.0 c.args.fuel _ _ _ _ _ so_far.0 has in
    let less = count-less _ _ running.0 c.args.fuel _ _ _ _ _ so_far.0 in
    omega (arith, room, less, c.events.ensures.limit)

pub instructions-preserved : goal.instructions-preserved
instructions-preserved g c =
    let since = c.instructions.invariant.since in
    let does = c.instruction-done.ensures.does in
    let has : HasFuel c.instructions.mem.layout c.args.fuel (length (g.O.OffChip.trace c.instructions.mem.lent.now)) =
    subst (λ (n : ℕ). HasFuel c.instructions.mem.layout c.args.fuel n) c.events.ensures.value (c.has_fuel.ensures.0 c.if-not-has_fuel.false) in
    let goes : c.instruction-done.result ≡ Goes = goes-on c.instruction-done.result c.instructions.count c.end_after.result c.end_after.ensures c.in_default.not-Some in
    let D : Done → Type 0 = λ d. DoesSo (sight_on g.L.Lines.lines g.O.OffChip.trace g.O.OffChip.room g.O.OffChip.layout g.O.OffChip.same_memory)
    (accesses_on g.L.Lines.lines g.O.OffChip.trace g.O.OffChip.room g.O.OffChip.layout g.O.OffChip.same_memory)
    (caused_on g.L.Lines.lines g.O.OffChip.trace g.O.OffChip.room g.O.OffChip.layout g.O.OffChip.same_memory) d c.instructions.held c.instruction-done.new.held does.0
    (record { core = c.instructions.core; memory = c.instructions.mem; port = c.instructions.port })
    (record { core = c.instruction-done.new.core; memory = c.instruction-done.new.mem; port = c.instruction-done.new.port }) in
    let H : Done → Type 0 = λ d. HandsOut d (g.K.Sink.written c.instructions.out) (g.K.Sink.written c.instruction-done.new.out) (g.K.Sink.faults c.instructions.out) (g.K.Sink.faults c.instruction-done.new.out)
    (g.K.Sink.limit c.instructions.out) (g.K.Sink.limit c.instruction-done.new.out) does.0 in
    let hands : H Goes = subst H goes does.2 in
    record {
      since = since-more (sight_on g.L.Lines.lines g.O.OffChip.trace g.O.OffChip.room g.O.OffChip.layout g.O.OffChip.same_memory)
          (accesses_on g.L.Lines.lines g.O.OffChip.trace g.O.OffChip.room g.O.OffChip.layout g.O.OffChip.same_memory)
          (meets_on g.L.Lines.lines g.O.OffChip.trace g.O.OffChip.room g.O.OffChip.layout g.O.OffChip.same_memory)
          (caused_on g.L.Lines.lines g.O.OffChip.trace g.O.OffChip.room g.O.OffChip.layout g.O.OffChip.same_memory)
          (tells_on g.L.Lines.lines g.O.OffChip.trace g.O.OffChip.room g.O.OffChip.layout g.O.OffChip.same_memory)
          (room_on g.L.Lines.lines g.O.OffChip.trace g.O.OffChip.room g.O.OffChip.layout g.O.OffChip.same_memory) c.args.fuel _ _ _ _ _ _ _ c.instructions.count _ _ since has c.instruction-done.new.held does.0
          (record { core = c.instruction-done.new.core; memory = c.instruction-done.new.mem; port = c.instruction-done.new.port }) (g.K.Sink.written c.instruction-done.new.out) (g.K.Sink.limit c.instruction-done.new.out)
          (g.K.Sink.faults c.instructions.out) (g.K.Sink.faults c.instruction-done.new.out) (subst D goes does.1) hands c.instruction-done.ensures.kept.2;
      steady = hands.1 ∙ c.instructions.invariant.steady;
      ready = c.instruction-done.ensures.ready goes;
      parked = omega (arith, c.instructions.invariant.parked);
      port = c.instruction-done.ensures.port;
      input = c.instruction-done.ensures.input ∙ c.instructions.invariant.input;
      same = g.met.O.OffChip.transitive _ _ _ c.instructions.invariant.same c.instruction-done.ensures.kept.1;
      total = c.instruction-done.ensures.kept.2 ∙ c.instructions.invariant.total;
      same_reference = c.instruction-done.ensures.kept.0 ∙ c.instructions.invariant.same_reference;
      key = c.instruction-done.ensures.kept.3 ∙ c.instructions.invariant.key;
    }

pub returns-clause-does : goal.returns-clause-does
returns-clause-does g c =
    let since = c.instructions.invariant.since in
    (since.piece, (since.taken, c.instructions.invariant.steady), λ program handed_out running. since.runs program handed_out running)

pub returns-in-Some-clause-total : goal.returns-in-Some-clause-total
returns-in-Some-clause-total g c = c.instruction-done.ensures.kept.2 ∙ c.instructions.invariant.total

pub returns-in-Some-clause-key : goal.returns-in-Some-clause-key
returns-in-Some-clause-key g c = c.instruction-done.ensures.kept.3 ∙ c.instructions.invariant.key

pub returns-in-Some-clause-sums : goal.returns-in-Some-clause-sums
returns-in-Some-clause-sums g c =
    let does = c.instruction-done.ensures.does in
    carries-on g.L.Lines.lines g.O.OffChip.trace g.O.OffChip.room g.O.OffChip.layout g.O.OffChip.same_memory _ c.instruction-done.result c.in-Some.end c.instructions.count c.instructions.held
    c.instruction-done.new.held does.0 (record { core = c.instructions.core; memory = c.instructions.mem; port = c.instructions.port })
    (record { core = c.instruction-done.new.core; memory = c.instruction-done.new.mem; port = c.instruction-done.new.port })
    (c.instruction-done.ensures.kept.3 ∙ c.instructions.invariant.key) (sym c.end_after.ensures ∙ c.in-Some.is) does.1

pub returns-then-not-has_fuel-clause-over : goal.returns-then-not-has_fuel-clause-over
returns-then-not-has_fuel-clause-over g c =
    let running = c.requires.running in
    let so_far = c.instructions.invariant.since.runs running.0 running.1 running.2 in
    let far : retired (g.O.OffChip.trace c.instructions.mem.lent.now) ≡ retired (g.O.OffChip.trace c.args.mem.now.lent.now) + c.instructions.counter =
    omega (arith, running.2.counted, so_far.0.counted, c.instructions.invariant.parked) in
    (omega (arith, far), omega (arith, far, c.instructions-test.true))

pub returns-in-Some-clause-over : goal.returns-in-Some-clause-over
returns-in-Some-clause-over g c =
    let running = c.requires.running in
    let so_far = c.instructions.invariant.since.runs running.0 running.1 running.2 in
    let far : retired (g.O.OffChip.trace c.instructions.mem.lent.now) ≡ retired (g.O.OffChip.trace c.args.mem.now.lent.now) + c.instructions.counter =
    omega (arith, running.2.counted, so_far.0.counted, c.instructions.invariant.parked) in
    let does = c.instruction-done.ensures.does in
    over-retires (sight_on g.L.Lines.lines g.O.OffChip.trace g.O.OffChip.room g.O.OffChip.layout g.O.OffChip.same_memory)
    (accesses_on g.L.Lines.lines g.O.OffChip.trace g.O.OffChip.room g.O.OffChip.layout g.O.OffChip.same_memory)
    (meets_on g.L.Lines.lines g.O.OffChip.trace g.O.OffChip.room g.O.OffChip.layout g.O.OffChip.same_memory)
    (caused_on g.L.Lines.lines g.O.OffChip.trace g.O.OffChip.room g.O.OffChip.layout g.O.OffChip.same_memory) c.instructions.held c.instruction-done.new.held does.0
    (record { core = c.instructions.core; memory = c.instructions.mem; port = c.instructions.port })
    (record { core = c.instruction-done.new.core; memory = c.instruction-done.new.mem; port = c.instruction-done.new.port }) so_far.0.stands.tied.secure c.args.n _ _ c.instructions.count far
    c.instructions-test.true c.instruction-done.result c.in-Some.end (sym c.end_after.ensures ∙ c.in-Some.is) does.1

pub returns-clause-over : goal.returns-clause-over
returns-clause-over g c =
    let running = c.requires.running in
    let so_far = c.instructions.invariant.since.runs running.0 running.1 running.2 in
    let far : retired (g.O.OffChip.trace c.instructions.mem.lent.now) ≡ retired (g.O.OffChip.trace c.args.mem.now.lent.now) + c.instructions.counter =
    omega (arith, running.2.counted, so_far.0.counted, c.instructions.invariant.parked) in
    omega (arith, far, c.instructions-test.false, c.instructions.auto.counter-end)
