use Rattle.std.proofs.Common.{◌≡◌, ◌+◌, ◌∷◌, [], refl, sym, ap, ◌∙◌, subst, arith}
use Rattle.std.specs.Prelude.{true, false, is_err}
use Rattle.aegis_edge.specs.Faults.{Rose}
use Rattle.aegis_edge.specs.Sink.{Appends, AppendsFront, limit_after}
use Rattle.orbis_core.specs.FlatMemory.{flat_accesses}
use Rattle.orbis_core.specs.Ideal as machine
use Rattle.orbis_core.specs.Processor.{reset_core}
use Rattle.flat_machine.specs.declared.ran.ImageEnd.TheVariants.{Ended, Index, Divide}
use Rattle.flat_machine.proofs.Progress.{comes-on, starts-at, step-comes}
use Rattle.flat_machine.proofs.Released.{released-small}
use Rattle.flat_machine.proofs.Sending.{IsRunning, answer-cut, answer-fuel, answer-over, begins, has-room, runs-on, runs-on-released, unlimited-stays, when-done, when-failed}
use Rattle.flat_machine.proofs.machine.run_image.Goals as goal
use Rattle.flat_machine.proofs.machine.run_image.Goals.{in_default, in-Released+else-is_err}

pub loop-index-init : goal.loop-index-init
loop-index-init g c = record {
  running = begins _ _ _ _ _ (starts-at c.args.image.now c.new-core.result c.in_ok-memory.memory (record { input = c.args.input; next = 0 })
      (c.new-core.ensures ∙ ap reset_core c.start_address.ensures) c.in_ok-memory.ensures.memory refl (λ k. omega (arith, c.type_inv.input k)));
  steady = refl;
}

pub write-requires : goal.write-requires
write-requires g c =
    let running = c.loop-index.invariant.running in
    let row = c.in-Released.ensures.row in
    record {
      within = has-room c.args.image.now c.args.input.now c.loop-index.index c.args.fuel _ _ c.in-Released.byte _ _ _ _ c.loop-index-test.true
          (released-small flat_accesses _ _ c.in-Released.byte row) c.requires.room running
          (step-comes c.args.image.now c.args.input.now c.loop-index.index _ _ c.requires.sound c.in_ok-memory.ensures.bytes running.at _ row);
    }

pub returns-then-is_err : goal.returns-then-is_err
returns-then-is_err g c =
    let running = c.loop-index.invariant.running in
    let row = c.in-Released.ensures.row in
    let failed : is_err c.write.result ≡ true = sym c.is_err.ensures.value ∙ c.if-is_err.true in
    let rose : Rose (g.K.Sink.faults c.loop-index.out) (g.K.Sink.faults c.write.new.self) = when-failed c.write.result _ failed c.write.ensures.failed in
    let front : AppendsFront (g.K.Sink.written c.loop-index.out) (g.K.Sink.written c.write.new.self) (c.in-Released.byte ∷ []) = when-failed c.write.result _ failed c.write.ensures.front in
    let answer = answer-cut c.args.image.now c.args.input.now c.loop-index.index c.args.fuel _ _ c.in-Released.byte (g.K.Sink.written c.args.out.now) _ _
    (g.K.Sink.limit c.args.out.now) _ (g.K.Sink.limit c.write.new.self) (g.K.Sink.faults c.args.out.now) (g.K.Sink.faults c.write.new.self) c.loop-index-test.true
    (released-small flat_accesses _ _ c.in-Released.byte row)
    (subst (λ n. Rose n (g.K.Sink.faults c.write.new.self)) c.loop-index.invariant.steady rose) running
    (step-comes c.args.image.now c.args.input.now c.loop-index.index _ _ c.requires.sound c.in_ok-memory.ensures.bytes running.at _ row) front in
    record {
      ended = answer.ended;
      complete = answer.complete;
      fuel_out = answer.fuel_out;
      used_up = answer.used_up;
      delivered = answer.delivered;
      cut_short = answer.cut_short;
      fault = answer.fault;
      steady = answer.steady;
      left = answer.room;
      still_unlimited = λ none. c.write.ensures.unlimited (unlimited-stays _ _ _ running.room none);
      silent = tt;
      untouched = tt;
      unspent = tt;
    }

pub returns-in-Exit : goal.returns-in-Exit
returns-in-Exit g c =
    let running = c.loop-index.invariant.running in
    let answer = answer-over c.args.image.now c.args.input.now c.loop-index.index c.args.fuel Ended machine.Ended _ _ _ _ _
    (g.K.Sink.faults c.args.out.now) (g.K.Sink.faults c.loop-index.out) c.loop-index-test.true refl (λ h. cc) (λ h. cc) c.loop-index.invariant.steady running
    (step-comes c.args.image.now c.args.input.now c.loop-index.index _ _ c.requires.sound c.in_ok-memory.ensures.bytes running.at _ c.in-Exit.ensures.row) in
    record {
      ended = answer.ended;
      complete = answer.complete;
      fuel_out = answer.fuel_out;
      used_up = answer.used_up;
      delivered = answer.delivered;
      cut_short = answer.cut_short;
      fault = answer.fault;
      steady = answer.steady;
      left = answer.room;
      still_unlimited = λ none. unlimited-stays _ _ _ running.room none;
      silent = tt;
      untouched = tt;
      unspent = tt;
    }

pub returns-in-Index : goal.returns-in-Index
returns-in-Index g c =
    let running = c.loop-index.invariant.running in
    let answer = answer-over c.args.image.now c.args.input.now c.loop-index.index c.args.fuel (Index c.in-Index.at) (machine.Index c.in-Index.at) _ _ _ _ _
    (g.K.Sink.faults c.args.out.now) (g.K.Sink.faults c.loop-index.out) c.loop-index-test.true refl (λ h. cc) (λ h. cc) c.loop-index.invariant.steady running
    (step-comes c.args.image.now c.args.input.now c.loop-index.index _ _ c.requires.sound c.in_ok-memory.ensures.bytes running.at _ c.in-Index.ensures.row) in
    record {
      ended = answer.ended;
      complete = answer.complete;
      fuel_out = answer.fuel_out;
      used_up = answer.used_up;
      delivered = answer.delivered;
      cut_short = answer.cut_short;
      fault = answer.fault;
      steady = answer.steady;
      left = answer.room;
      still_unlimited = λ none. unlimited-stays _ _ _ running.room none;
      silent = tt;
      untouched = tt;
      unspent = tt;
    }

pub returns-in-Divide : goal.returns-in-Divide
returns-in-Divide g c =
    let running = c.loop-index.invariant.running in
    let answer = answer-over c.args.image.now c.args.input.now c.loop-index.index c.args.fuel (Divide c.in-Divide.at) (machine.Divide c.in-Divide.at) _ _ _ _ _
    (g.K.Sink.faults c.args.out.now) (g.K.Sink.faults c.loop-index.out) c.loop-index-test.true refl (λ h. cc) (λ h. cc) c.loop-index.invariant.steady running
    (step-comes c.args.image.now c.args.input.now c.loop-index.index _ _ c.requires.sound c.in_ok-memory.ensures.bytes running.at _ c.in-Divide.ensures.row) in
    record {
      ended = answer.ended;
      complete = answer.complete;
      fuel_out = answer.fuel_out;
      used_up = answer.used_up;
      delivered = answer.delivered;
      cut_short = answer.cut_short;
      fault = answer.fault;
      steady = answer.steady;
      left = answer.room;
      still_unlimited = λ none. unlimited-stays _ _ _ running.room none;
      silent = tt;
      untouched = tt;
      unspent = tt;
    }

pub unreachable-requires : goal.unreachable-requires
unreachable-requires g c =
    step-comes c.args.image.now c.args.input.now c.loop-index.index _ _ c.requires.sound c.in_ok-memory.ensures.bytes c.loop-index.invariant.running.at _ c.in-Stopped.ensures.row

pub loop-index-preserved : goal.loop-index-preserved
loop-index-preserved g c =
    let running = c.loop-index.invariant.running in
    elim c.match-step.branch [
      | in-Released+else-is_err w ↦
          let done : is_err w.write.result ≡ false = sym w.is_err.ensures.value ∙ w.if-is_err.false in
          let took : Appends (g.K.Sink.written c.loop-index.out) (g.K.Sink.written w.write.new.self) (w.in-Released.byte ∷ []) = when-done w.write.result _ done w.write.ensures.taken in
          let lower : g.K.Sink.limit w.write.new.self ≡ limit_after (g.K.Sink.limit c.loop-index.out) 1 = when-done w.write.result _ done w.write.ensures.left in
          let same : g.K.Sink.faults w.write.new.self ≡ g.K.Sink.faults c.loop-index.out = when-done w.write.result _ done w.write.ensures.steady in
          record {
            running = (
                let P : _ → Type 0 = λ out. IsRunning c.args.image.now c.args.input.now (c.loop-index.index + 1) (record { core = c.step.new.core; memory = c.step.new.mem; port = c.step.new.port })
                (g.K.Sink.written c.args.out.now) (g.K.Sink.written out) (g.K.Sink.limit c.args.out.now) (g.K.Sink.limit out) in
                subst P (sym w.out-is)
                (runs-on-released c.args.image.now c.args.input.now c.loop-index.index _ _ w.in-Released.byte _ _ _ _ _ _
                (released-small flat_accesses _ _ w.in-Released.byte w.in-Released.ensures.row) running
                (step-comes c.args.image.now c.args.input.now c.loop-index.index _ _ c.requires.sound c.in_ok-memory.ensures.bytes running.at _ w.in-Released.ensures.row) took lower));
            steady = ap g.K.Sink.faults w.out-is ∙ same ∙ c.loop-index.invariant.steady;
          }
      | in_default w ↦
          record {
            running = (
                let P : _ → Type 0 = λ out. IsRunning c.args.image.now c.args.input.now (c.loop-index.index + 1) (record { core = c.step.new.core; memory = c.step.new.mem; port = c.step.new.port })
                (g.K.Sink.written c.args.out.now) (g.K.Sink.written out) (g.K.Sink.limit c.args.out.now) (g.K.Sink.limit out) in
                subst P (sym w.out-is)
                (runs-on c.args.image.now c.args.input.now c.loop-index.index _ _ _ _ _ _ running
                (comes-on c.args.image.now c.args.input.now c.loop-index.index _ c.step.result
                (step-comes c.args.image.now c.args.input.now c.loop-index.index _ _ c.requires.sound c.in_ok-memory.ensures.bytes running.at _ c.step.ensures.row)
                w.in_default.not-Released w.in_default.not-Exit w.in_default.not-Index w.in_default.not-Divide)));
            steady = ap g.K.Sink.faults w.out-is ∙ c.loop-index.invariant.steady;
          }
    ]

pub returns : goal.returns
returns g c =
    let running = c.loop-index.invariant.running in
    let answer = answer-fuel c.args.image.now c.args.input.now c.loop-index.index c.args.fuel _ _ _ _ _
    (g.K.Sink.faults c.args.out.now) (g.K.Sink.faults c.loop-index.out) (omega arith) c.loop-index.invariant.steady running in
    record {
      ended = answer.ended;
      complete = answer.complete;
      fuel_out = answer.fuel_out;
      used_up = answer.used_up;
      delivered = answer.delivered;
      cut_short = answer.cut_short;
      fault = answer.fault;
      steady = answer.steady;
      left = answer.room;
      still_unlimited = λ none. unlimited-stays _ _ _ running.room none;
      silent = tt;
      untouched = tt;
      unspent = tt;
    }
