use Rattle.lowering.proofs.Sizing.{sizes-follow}
use Rattle.lowering.proofs.laws.lowered_code_is_small.Goals as goal

pub returns : goal.returns
returns c = record { sizes = sizes-follow }
