use Rattle.memory_trace.proofs.HeldPathLemmas.{paths-law}
use Rattle.memory_trace.proofs.laws.accesses_hold_paths.Goals as goal

pub returns : goal.returns
returns g c = record { law = paths-law _ }
