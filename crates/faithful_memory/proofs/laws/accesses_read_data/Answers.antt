use Rattle.faithful_memory.proofs.DataAccesses.{data-law}
use Rattle.faithful_memory.proofs.ReadLemmas.{data-of}
use Rattle.faithful_memory.proofs.laws.accesses_read_data.Goals as goal

pub returns : goal.returns
returns g c = record { law = data-law _; holds = data-of }
