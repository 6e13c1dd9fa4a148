use Rattle.memory_trace.proofs.SoundAccesses.{accesses-law}
use Rattle.memory_trace.proofs.laws.accesses_keep_sound.Goals as goal

pub returns : goal.returns
returns g c = record { law = accesses-law _ }
