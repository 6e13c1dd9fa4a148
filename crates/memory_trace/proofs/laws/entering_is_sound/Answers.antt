use Rattle.memory_trace.proofs.EntryTraces.{entering-law}
use Rattle.memory_trace.proofs.laws.entering_is_sound.Goals as goal

pub returns : goal.returns
returns g c = record { law = entering-law _ }
