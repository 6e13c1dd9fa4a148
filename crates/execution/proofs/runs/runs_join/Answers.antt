use Rattle.execution.proofs.RunLemmas.{run-+}
use Rattle.execution.proofs.runs.runs_join.Goals as goal

pub returns : goal.returns
returns g c = record { joined = run-+ }
