use Rattle.aegis_machine.proofs.BoundaryLemmas.{boundaries-follow}
use Rattle.aegis_machine.proofs.laws.boundaries_follow.Goals as goal

pub returns : goal.returns
returns g c = record { law = boundaries-follow g.C.OverBus.sight g.C.OverBus.calls g.C.OverBus.meets }
