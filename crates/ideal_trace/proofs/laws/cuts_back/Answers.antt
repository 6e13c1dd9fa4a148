use Rattle.ideal_trace.proofs.CutLemmas.{cuts-back}
use Rattle.ideal_trace.proofs.laws.cuts_back.Goals as goal

pub returns : goal.returns
returns c = record { law = cuts-back }
