use Rattle.ideal_trace.proofs.CountLemmas.{counts-of-steps}
use Rattle.ideal_trace.proofs.laws.counts_are_of_steps.Goals as goal

pub returns : goal.returns
returns c = record { law = counts-of-steps }
