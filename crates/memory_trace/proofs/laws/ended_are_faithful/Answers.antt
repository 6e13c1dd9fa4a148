use Rattle.memory_trace.proofs.EpochProofs.{ended-law}
use Rattle.memory_trace.proofs.laws.ended_are_faithful.Goals as goal

pub returns : goal.returns
returns g c = record { law = ended-law _ }
