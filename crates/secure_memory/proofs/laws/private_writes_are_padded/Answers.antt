use Rattle.secure_memory.proofs.PrivateLemmas.{private-law}
use Rattle.secure_memory.proofs.laws.private_writes_are_padded.Goals as goal

pub returns : goal.returns
returns g c = record { law = private-law _ }
