use Rattle.std.proofs.Common.{[], Ok, subst, sym}
use Rattle.orbis_core.specs.declared.StepEnd.{StepEnd}
use Rattle.aegis_machine.specs.Follows.{Follows}
use Rattle.aegis_machine.proofs.GuardLemmas.{follows-private, follows-released, follows-suspended, hands-none}
use Rattle.aegis_machine.proofs.instructions.follow_up.Goals as goal

pub returns-in-Released-clause-does : goal.returns-in-Released-clause-does
returns-in-Released-clause-does g c = (
  c.release.ensures.does.0,
  (let P : StepEnd → Type 0 =
      λ e. Follows g.M.Guarded.sight g.M.Guarded.Caused e c.release.result c.args.held.now c.release.new.held c.release.ensures.does.0 c.args.mem.now c.release.new.mem in
      subst P (sym c.in-Released.is)
      (follows-released g.M.Guarded.sight g.M.Guarded.Caused c.in-Released.byte c.release.result c.args.held.now c.release.new.held c.release.ensures.does.0 c.args.mem.now c.release.new.mem
      c.release.ensures.does.1)),
  c.release.ensures.does.2,
)

pub returns-in-Suspend-clause-does : goal.returns-in-Suspend-clause-does
returns-in-Suspend-clause-does g c = (
  [],
  (let P : StepEnd → Type 0 = λ e. Follows g.M.Guarded.sight g.M.Guarded.Caused e (Ok tt) c.args.held.now c.args.held.now [] c.args.mem.now c.suspend.new.self in
      subst P (sym c.in-Suspend.is) (follows-suspended g.M.Guarded.sight g.M.Guarded.Caused c.args.held.now c.args.mem.now c.suspend.new.self c.suspend.ensures.phase)),
  hands-none (g.K.Sink.written c.args.out.now) (g.K.Sink.faults c.args.out.now) (g.K.Sink.limit c.args.out.now),
)

pub returns-in-Private-clause-does : goal.returns-in-Private-clause-does
returns-in-Private-clause-does g c = (
  [],
  (let P : StepEnd → Type 0 = λ e. Follows g.M.Guarded.sight g.M.Guarded.Caused e (Ok tt) c.args.held.now c.args.held.now [] c.args.mem.now c.set_private.new.self in
      subst P (sym c.in-Private.is) (follows-private g.M.Guarded.sight g.M.Guarded.Caused c.in-Private.on c.args.held.now c.args.mem.now c.set_private.new.self c.set_private.ensures.sets)),
  hands-none (g.K.Sink.written c.args.out.now) (g.K.Sink.faults c.args.out.now) (g.K.Sink.limit c.args.out.now),
)

pub returns-in-Check-clause-does : goal.returns-in-Check-clause-does
returns-in-Check-clause-does g c =
    let does = c.settle.ensures.does in
    let P : StepEnd → Type 0 = λ e. Follows g.M.Guarded.sight g.M.Guarded.Caused e c.settle.result c.args.held.now c.settle.new.held does.0 c.args.mem.now c.settle.new.mem in
    (does.0, subst P (sym c.in-Check.is) does.1, does.2)

pub returns-in-Exit-clause-does : goal.returns-in-Exit-clause-does
returns-in-Exit-clause-does g c =
    let does = c.settle-in-Exit.ensures.does in
    let P : StepEnd → Type 0 = λ e. Follows g.M.Guarded.sight g.M.Guarded.Caused e c.settle-in-Exit.result c.args.held.now c.settle-in-Exit.new.held does.0 c.args.mem.now c.settle-in-Exit.new.mem in
    (does.0, subst P (sym c.in-Exit.is) does.1, does.2)

pub returns-in-Index-clause-does : goal.returns-in-Index-clause-does
returns-in-Index-clause-does g c =
    let does = c.settle-in-Index.ensures.does in
    let P : StepEnd → Type 0 = λ e. Follows g.M.Guarded.sight g.M.Guarded.Caused e c.settle-in-Index.result c.args.held.now c.settle-in-Index.new.held does.0 c.args.mem.now c.settle-in-Index.new.mem in
    (does.0, subst P (sym c.in-Index.is) does.1, does.2)

pub returns-in-Divide-clause-does : goal.returns-in-Divide-clause-does
returns-in-Divide-clause-does g c =
    let does = c.settle-in-Divide.ensures.does in
    let P : StepEnd → Type 0 = λ e. Follows g.M.Guarded.sight g.M.Guarded.Caused e c.settle-in-Divide.result c.args.held.now c.settle-in-Divide.new.held does.0 c.args.mem.now c.settle-in-Divide.new.mem in
    (does.0, subst P (sym c.in-Divide.is) does.1, does.2)
