use Rattle.execution.proofs.RunLemmas.{ends-in-one, ends-found}
use Rattle.execution.proofs.runs.ends_in_one_number_of_steps.Goals as goal

pub returns : goal.returns
returns g c = record { one = record { one = ends-in-one; found = ends-found } }
