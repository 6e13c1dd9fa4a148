use Rattle.std.proofs.Common.{[], refl}
use Rattle.aegis_machine.proofs.GuardLemmas.{comes-settled, hands-none}
use Rattle.aegis_machine.proofs.instructions.settle.Goals as goal

pub returns-in-Err-clause-does : goal.returns-in-Err-clause-does
returns-in-Err-clause-does g c =
    ([], (c.in-Err.ensures.missed, refl, refl), hands-none (g.K.Sink.written c.args.out.now) (g.K.Sink.faults c.args.out.now) (g.K.Sink.limit c.args.out.now))

pub returns-clause-does : goal.returns-clause-does
returns-clause-does g c = (
  c.args.held.now,
  comes-settled g.M.Guarded.sight g.M.Guarded.Caused c.send.result c.args.held.now c.send.new.held c.args.mem.now c.check.new.self c.send.new.mem c.in_default.ensures.passed c.send.ensures.event
      c.send.ensures.fault c.send.ensures.empty,
  c.send.ensures.hands,
)
