use Rattle.std.proofs.Common.{arith}
use Rattle.c_evaluator.proofs.Sizes.{statement-at}
use Rattle.secure_split.proofs.rooms.+locals.Goals as goal

pub note_all_locals-note_locals-requires : goal.note_all_locals-note_locals-requires
note_all_locals-note_locals-requires t c = (omega (arith, statement-at c.args.ss.now c.loop-s.s-index c.s-item.result c.s-item.is c.loop-s-test.true, c.decreases), tt)
