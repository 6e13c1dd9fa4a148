use Rattle.faithful_memory.proofs.AccessReads.{access-law}
use Rattle.faithful_memory.proofs.laws.accesses_read_contents.Goals as goal

pub returns : goal.returns
returns g c = record { law = access-law _ }
