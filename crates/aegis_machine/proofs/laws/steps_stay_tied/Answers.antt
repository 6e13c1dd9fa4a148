use Rattle.aegis_machine.proofs.TieLemmas.{steps-tied}
use Rattle.aegis_machine.proofs.laws.steps_stay_tied.Goals as goal

pub returns : goal.returns
returns g c = record { law = steps-tied g.C.OverBus.sight g.C.OverBus.calls g.C.OverBus.meets }
