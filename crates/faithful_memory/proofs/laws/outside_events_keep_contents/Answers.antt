use Rattle.faithful_memory.proofs.OutsideReads.{outside-law}
use Rattle.faithful_memory.proofs.laws.outside_events_keep_contents.Goals as goal

pub returns : goal.returns
returns g c = record { law = outside-law _ }
