use Rattle.bus_machine.proofs.SegmentLemmas.{in-steps}
use Rattle.bus_machine.proofs.laws.bus_in_steps.Goals as goal

pub returns : goal.returns
returns c = record { law = in-steps }
