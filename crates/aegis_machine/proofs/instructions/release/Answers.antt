use Rattle.std.proofs.Common.{[]}
use Rattle.aegis_machine.proofs.GuardLemmas.{comes-at-once, comes-filled, comes-held, hands-none}
use Rattle.aegis_machine.proofs.instructions.release.Goals as goal

pub returns-then-at_once-clause-does : goal.returns-then-at_once-clause-does
returns-then-at_once-clause-does g c =
    let free = c.sends_at_once-at_once.ensures.0 c.if-at_once.true in (
      c.hold.new.self,
      comes-at-once g.M.Guarded.sight g.M.Guarded.Caused c.args.byte c.args.held.now c.hold.new.self c.ranges.byte.fits c.hold.ensures c.send.result c.send.new.held c.args.mem.now c.send.new.mem
          free.1 free.0 c.send.ensures.event c.send.ensures.fault c.send.ensures.empty,
      c.send.ensures.hands,
    )

pub returns-then-is_full-clause-does : goal.returns-then-is_full-clause-does
returns-then-is_full-clause-does g c = (
  c.settle.ensures.does.0,
  comes-filled g.M.Guarded.sight g.M.Guarded.Caused c.args.byte c.args.held.now c.hold.new.self c.ranges.byte.fits c.hold.ensures c.settle.result c.settle.new.held c.settle.ensures.does.0
      c.args.mem.now c.settle.new.mem (λ none quiet. let at_once = c.sends_at_once-at_once.ensures.1 (none, quiet) in let not = c.if-at_once.false in cc)
      (c.is_full.ensures.full.0 c.if-is_full.true) c.settle.ensures.does.1,
  c.settle.ensures.does.2,
)

pub returns-clause-does : goal.returns-clause-does
returns-clause-does g c = (
  [],
  comes-held g.M.Guarded.sight g.M.Guarded.Caused c.args.byte c.args.held.now c.hold.new.self c.ranges.byte.fits c.hold.ensures c.args.mem.now
      (λ none quiet. let at_once = c.sends_at_once-at_once.ensures.1 (none, quiet) in let not = c.if-at_once.false in cc) c.requires.few
      (λ full. let is = c.is_full.ensures.full.1 full in let not = c.if-is_full.false in cc),
  hands-none (g.K.Sink.written c.args.out.now) (g.K.Sink.faults c.args.out.now) (g.K.Sink.limit c.args.out.now),
)
