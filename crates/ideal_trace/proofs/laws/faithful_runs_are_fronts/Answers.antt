use Rattle.ideal_trace.proofs.FrontLemmas.{faithful-fronts}
use Rattle.ideal_trace.proofs.laws.faithful_runs_are_fronts.Goals as goal

pub returns : goal.returns
returns c = record { law = faithful-fronts }
