use Rattle.off_chip.proofs.WriteLemmas.{last_write-in_order, last_write-never, StampsFit-in_order, last_write-stamp}
use Rattle.off_chip.proofs.laws.writes_in_order.Goals as goal

pub returns : goal.returns
returns c = record { same = record { last = last_write-in_order; never = last_write-never; stamps = StampsFit-in_order; bounds = last_write-stamp } }
