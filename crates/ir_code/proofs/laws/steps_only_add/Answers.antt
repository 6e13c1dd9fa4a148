use Rattle.ir_code.proofs.OnlyAdds.{steps-only-add, weights-are-counted}
use Rattle.ir_code.proofs.laws.steps_only_add.Goals as goal

pub returns : goal.returns
returns c = record { adds = steps-only-add; weights = weights-are-counted }
