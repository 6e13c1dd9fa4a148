use Rattle.orbis_core.proofs.LeftLemmas.{steps-leave-fewer}
use Rattle.orbis_core.proofs.laws.steps_leave_fewer.Goals as goal

pub returns : goal.returns
returns g c = record { left = steps-leave-fewer g.M.Memory.accesses g.M.Memory.has_left g.met.M.Memory.fewer_left g.met.M.Memory.one_fewer_left }
