use Rattle.secure_memory.proofs.IdealLemmas.{ideal-law}
use Rattle.secure_memory.proofs.laws.accesses_are_ideal.Goals as goal

pub returns : goal.returns
returns g c = record { law = ideal-law _ }
