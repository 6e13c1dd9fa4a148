use Rattle.memory_trace.proofs.EpochProofs.{no_epoch-law}
use Rattle.memory_trace.proofs.laws.accesses_end_no_epoch.Goals as goal

pub returns : goal.returns
returns g c = record { law = no_epoch-law _ }
