use Rattle.faithful_memory.proofs.SettleLemmas.{settle-law}
use Rattle.faithful_memory.proofs.StopLemmas.{stop-law}
use Rattle.faithful_memory.proofs.laws.steps_settle.Goals as goal

pub returns : goal.returns
returns g c = record { law = settle-law _; stops = stop-law _ }
