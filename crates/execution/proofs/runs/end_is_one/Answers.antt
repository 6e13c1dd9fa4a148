use Rattle.execution.proofs.RunLemmas.{ends-one}
use Rattle.execution.proofs.runs.end_is_one.Goals as goal

pub returns : goal.returns
returns g c = record { one = ends-one }
