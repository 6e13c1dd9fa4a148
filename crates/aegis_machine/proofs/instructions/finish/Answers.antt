use Rattle.aegis_machine.proofs.GuardLemmas.{finishes}
use Rattle.aegis_machine.proofs.instructions.finish.Goals as goal

pub returns-clause-does : goal.returns-clause-does
returns-clause-does g c = (
  c.in_default.ensures.does.0,
  finishes g.M.Guarded.sight g.M.Guarded.Caused c.args.end c.args.held.now c.follow_up.new.held c.in_default.ensures.does.0 c.args.mem.now c.follow_up.new.mem c.note.new.self
      c.in_default.ensures.does.1 c.note.ensures.event,
  c.in_default.ensures.does.2,
)
