use Rattle.std.proofs.Common.{[], ◌∙◌, arith, false, subst, sym, true, ◌≡◌}
use Rattle.regions.specs.declared.Mode.{Mode}
use Rattle.orbis_core.specs.OwnMemory.{is_permitted, secure_of_end}
use Rattle.aegis_machine.proofs.GuardLemmas.{done-does, done-hands, done-leaves, fault-does, forbidden-does, forbidden-leaves, hands-none, permitted-before, ready-left, room-left, stopped-does, stopped-hands, stopped-leaves, stopped-not-goes}
use Rattle.aegis_machine.proofs.KeepLemmas.{steps-input, steps-keep}
use Rattle.aegis_machine.proofs.instructions.instruction.Goals as goal

pub step-end-requires-clause-left : goal.step-end-requires-clause-left
step-end-requires-clause-left g c = g.met.M.Guarded.leaves c.args.mem.now 2 c.requires.ready (omega (arith, c.requires.has_room))

pub returns-in-Stopped-clause-does : goal.returns-in-Stopped-clause-does
returns-in-Stopped-clause-does g c = (
  [],
  stopped-does g.M.Guarded.sight g.M.Memory.accesses g.M.Guarded.Caused _ _ c.args.held.now c.after_stop.result c.step-end.result c.in-Stopped.stop c.after_stop.ensures c.in-Stopped.is
      c.step-end.ensures.row,
  stopped-hands _ _ _ _ _ _ [] c.after_stop.result c.in-Stopped.stop c.after_stop.ensures
      (hands-none (g.K.Sink.written c.args.out.now) (g.K.Sink.faults c.args.out.now) (g.K.Sink.limit c.args.out.now)),
)

pub returns-in-Stopped-clause-tied : goal.returns-in-Stopped-clause-tied
returns-in-Stopped-clause-tied g c program tie =
    stopped-leaves g.M.Guarded.sight g.M.Memory.accesses g.met.M.Guarded.meets program _ _ tie c.after_stop.result c.step-end.result c.in-Stopped.stop c.after_stop.ensures c.in-Stopped.is
    c.step-end.ensures.row

pub returns-in-Stopped-clause-ready : goal.returns-in-Stopped-clause-ready
returns-in-Stopped-clause-ready g c goes = absurd (stopped-not-goes c.in-Stopped.stop (sym c.after_stop.ensures ∙ goes))

pub returns-in-Stopped-clause-few : goal.returns-in-Stopped-clause-few
returns-in-Stopped-clause-few g c goes = absurd (stopped-not-goes c.in-Stopped.stop (sym c.after_stop.ensures ∙ goes))

pub returns-then-not-permits : goal.returns-then-not-permits
returns-then-not-permits g c =
    let forbidden : is_permitted (secure_of_end c.step-end.result) (g.M.Guarded.sight.mode c.args.mem.now) ≡ false =
    permitted-before g.M.Guarded.sight g.M.Memory.accesses g.met.M.Guarded.meets _ _ c.step-end.result c.mode.result c.permits.result false c.requires.secure c.step-end.ensures.row
    c.mode.ensures c.permits.ensures c.if-not-permits.true in
    record {
      does = (
        [],
        forbidden-does g.M.Guarded.sight g.M.Memory.accesses g.M.Guarded.Caused _ _ c.args.held.now c.step-end.result forbidden c.step-end.ensures.row,
        hands-none (g.K.Sink.written c.args.out.now) (g.K.Sink.faults c.args.out.now) (g.K.Sink.limit c.args.out.now),
      );
      tied = λ program tie. forbidden-leaves g.M.Guarded.sight g.M.Memory.accesses g.met.M.Guarded.meets program _ _ tie c.step-end.result forbidden c.step-end.ensures.row;
      port = c.step-end.ensures.port;
      input = steps-input g.M.Memory.accesses _ _ c.step-end.result c.step-end.ensures.row;
      kept = steps-keep g.M.Memory.accesses g.M.Guarded.Keeps g.met.M.Guarded.keeps_self g.met.M.Guarded.keeps_both g.met.M.Guarded.keeps_each _ _ c.step-end.result c.step-end.ensures.row;
      ready = λ goes. cc;
      few = λ goes. cc;
    }

pub finish-requires : goal.finish-requires
finish-requires g c = record {
  ready = ready-left g.M.Memory.accesses g.M.Guarded.ready g.M.Guarded.room g.met.M.Guarded.spends _ _ c.step-end.result c.in_default.not-Stopped c.step-end.ensures.row c.requires.ready
      c.requires.has_room;
  permitted = subst (λ (m : Mode). is_permitted (secure_of_end c.step-end.result) m ≡ true) c.mode.ensures (sym c.permits.ensures ∙ c.if-not-permits.false);
  has_room = room-left g.M.Memory.accesses g.M.Guarded.ready g.M.Guarded.room g.met.M.Guarded.spends _ _ c.step-end.result c.in_default.not-Stopped c.step-end.ensures.row c.requires.ready
      c.requires.has_room;
  takes = c.requires.takes;
  few = c.requires.few;
}

pub returns-in-Ok : goal.returns-in-Ok
returns-in-Ok g c =
    let permitted : is_permitted (secure_of_end c.step-end.result) (g.M.Guarded.sight.mode c.args.mem.now) ≡ true =
    permitted-before g.M.Guarded.sight g.M.Memory.accesses g.met.M.Guarded.meets _ _ c.step-end.result c.mode.result c.permits.result true c.requires.secure c.step-end.ensures.row
    c.mode.ensures c.permits.ensures c.if-not-permits.false in
    record {
      does = (
        c.in-Ok.ensures.does.0,
        done-does g.M.Guarded.sight g.M.Memory.accesses g.M.Guarded.Caused _ (record { core = c.step-end.new.core; memory = c.step-end.new.mem; port = c.step-end.new.port }) c.args.held.now
            c.after_step.result c.step-end.result c.finish.new.held c.in-Ok.ensures.does.0 c.finish.new.mem c.after_step.ensures
            (record { steps = c.step-end.ensures.row; not_stopped = c.in_default.not-Stopped; permitted = permitted }) c.in-Ok.ensures.does.1,
        done-hands _ _ _ _ _ _ c.in-Ok.ensures.does.0 c.after_step.result c.step-end.result c.after_step.ensures c.in-Ok.ensures.does.2,
      );
      tied = λ program tie.
          done-leaves g.M.Guarded.sight g.M.Memory.accesses g.met.M.Guarded.meets program _ (record { core = c.step-end.new.core; memory = c.step-end.new.mem; port = c.step-end.new.port }) tie
          c.after_step.result c.step-end.result c.in-Ok.ensures.does.1.0 c.finish.new.mem c.after_step.ensures
          (record { steps = c.step-end.ensures.row; not_stopped = c.in_default.not-Stopped; permitted = permitted }) c.in-Ok.ensures.does.1.2;
      port = c.step-end.ensures.port;
      input = steps-input g.M.Memory.accesses _ _ c.step-end.result c.step-end.ensures.row;
      kept = g.met.M.Guarded.keeps_both _ _ _
          (steps-keep g.M.Memory.accesses g.M.Guarded.Keeps g.met.M.Guarded.keeps_self g.met.M.Guarded.keeps_both g.met.M.Guarded.keeps_each _ _ c.step-end.result c.step-end.ensures.row)
          c.finish.ensures.kept;
      ready = λ goes. c.in-Ok.ensures.ready;
      few = λ goes. c.in-Ok.ensures.few;
    }

pub returns-in-Err-clause-does : goal.returns-in-Err-clause-does
returns-in-Err-clause-does g c =
    let permitted : is_permitted (secure_of_end c.step-end.result) (g.M.Guarded.sight.mode c.args.mem.now) ≡ true =
    permitted-before g.M.Guarded.sight g.M.Memory.accesses g.met.M.Guarded.meets _ _ c.step-end.result c.mode.result c.permits.result true c.requires.secure c.step-end.ensures.row
    c.mode.ensures c.permits.ensures c.if-not-permits.false in (
      c.in-Err.ensures.does.0,
      fault-does g.M.Guarded.sight g.M.Memory.accesses g.M.Guarded.Caused _ (record { core = c.step-end.new.core; memory = c.step-end.new.mem; port = c.step-end.new.port }) c.args.held.now
          c.step-end.result c.in-Err.fault c.finish.new.held c.in-Err.ensures.does.0 c.finish.new.mem
          (record { steps = c.step-end.ensures.row; not_stopped = c.in_default.not-Stopped; permitted = permitted }) c.in-Err.ensures.does.1,
      c.in-Err.ensures.does.2,
    )

pub returns-in-Stopped-clause-kept : goal.returns-in-Stopped-clause-kept
returns-in-Stopped-clause-kept g c = steps-keep g.M.Memory.accesses g.M.Guarded.Keeps g.met.M.Guarded.keeps_self g.met.M.Guarded.keeps_both g.met.M.Guarded.keeps_each _ _ c.step-end.result c.step-end.ensures.row

pub returns-in-Stopped-clause-input : goal.returns-in-Stopped-clause-input
returns-in-Stopped-clause-input g c = steps-input g.M.Memory.accesses _ _ c.step-end.result c.step-end.ensures.row

pub returns-in-Err-clause-kept : goal.returns-in-Err-clause-kept
returns-in-Err-clause-kept g c =
    g.met.M.Guarded.keeps_both _ _ _
    (steps-keep g.M.Memory.accesses g.M.Guarded.Keeps g.met.M.Guarded.keeps_self g.met.M.Guarded.keeps_both g.met.M.Guarded.keeps_each _ _ c.step-end.result c.step-end.ensures.row)
    c.finish.ensures.kept

pub returns-in-Err-clause-input : goal.returns-in-Err-clause-input
returns-in-Err-clause-input g c = steps-input g.M.Memory.accesses _ _ c.step-end.result c.step-end.ensures.row
