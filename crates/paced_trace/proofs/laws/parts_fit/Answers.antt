use Rattle.paced_trace.proofs.PartLemmas.{parts-fit}
use Rattle.paced_trace.proofs.laws.parts_fit.Goals as goal

pub returns : goal.returns
returns c = record { law = parts-fit }
