use Rattle.ideal_trace.proofs.SameLemmas.{same-steps}
use Rattle.ideal_trace.proofs.laws.same_machines_step_alike.Goals as goal

pub returns : goal.returns
returns c = record { law = same-steps }
