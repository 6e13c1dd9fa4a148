use Rattle.ideal_trace.proofs.StandsLemmas.{faithful-ideal}
use Rattle.ideal_trace.proofs.laws.faithful_runs_are_ideal.Goals as goal

pub returns : goal.returns
returns c = record { law = faithful-ideal }
