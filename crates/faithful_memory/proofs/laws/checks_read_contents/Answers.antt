use Rattle.faithful_memory.proofs.CheckReads.{check-law}
use Rattle.faithful_memory.proofs.laws.checks_read_contents.Goals as goal

pub returns : goal.returns
returns g c = record { law = check-law _ }
