use Rattle.off_chip.proofs.ResidencyLemmas.{in_check-Decides, is_resident-Decides}
use Rattle.off_chip.proofs.laws.residency_in_order.Goals as goal

pub returns : goal.returns
returns c = record { same = record { check = in_check-Decides; resident = is_resident-Decides } }
