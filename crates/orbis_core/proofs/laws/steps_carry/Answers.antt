use Rattle.orbis_core.proofs.CarryingLemmas.{steps-carry}
use Rattle.orbis_core.proofs.laws.steps_carry.Goals as goal

pub returns : goal.returns
returns g c = record { carried = steps-carry g.C.Carries.calls g.C.Carries.other_calls g.C.Carries.related_to g.C.Carries.carries }
