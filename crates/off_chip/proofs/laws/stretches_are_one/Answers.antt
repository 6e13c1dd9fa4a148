use Rattle.off_chip.proofs.StretchLemmas.{one-stretch}
use Rattle.off_chip.proofs.laws.stretches_are_one.Goals as goal

pub returns : goal.returns
returns c = record { law = record { one = one-stretch } }
