use Rattle.paced_trace.proofs.HeldLemmas.{lines-counted}
use Rattle.paced_trace.proofs.laws.lines_are_counted.Goals as goal

pub returns : goal.returns
returns c = record { law = lines-counted }
