use Rattle.lowering.proofs.Whole.{lowers, names-reach}
use Rattle.lowering.proofs.laws.lowered_code_means_the_source.Goals as goal

pub returns : goal.returns
returns c = record { meaning = lowers; names = names-reach }
