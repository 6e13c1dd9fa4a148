use Rattle.execution.proofs.RunLemmas.{run-ended}
use Rattle.execution.proofs.runs.ends_stay.Goals as goal

pub returns : goal.returns
returns g c = record { unchanged = run-ended }
