use Rattle.paced_trace.proofs.BusPaceLemmas.{bus-steps-fit}
use Rattle.paced_trace.proofs.laws.bus_steps_fit.Goals as goal

pub returns : goal.returns
returns c = record { law = bus-steps-fit }
