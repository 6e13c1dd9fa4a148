use Rattle.secure_memory.proofs.OutsideProofs.{outside-law}
use Rattle.secure_memory.proofs.laws.outside_events_keep.Goals as goal

pub returns : goal.returns
returns g c = record { law = outside-law _ }
