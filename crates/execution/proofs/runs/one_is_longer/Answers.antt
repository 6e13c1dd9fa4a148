use Rattle.execution.proofs.RunLemmas.{one-longer}
use Rattle.execution.proofs.runs.one_is_longer.Goals as goal

pub returns : goal.returns
returns g c = record { longer = one-longer }
