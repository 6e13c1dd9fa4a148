use Rattle.std.proofs.Common.{sym, arith}
use Rattle.line_cache.proofs.SlotLemmas.{none_above}
use Rattle.line_cache.proofs.slots.Slots.find.Goals as goal

pub returns-in-None : goal.returns-in-None
returns-in-None c = record { value = rw (← c.self.view_is) (sym (none_above c.self.inside.greatest c.args.block c.self.inside.order.items c.self.invariant.bounded (omega arith))) }
