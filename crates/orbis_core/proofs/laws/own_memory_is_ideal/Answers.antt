use Rattle.orbis_core.proofs.OwnLemmas.{own-ideal}
use Rattle.orbis_core.proofs.laws.own_memory_is_ideal.Goals as goal

pub returns : goal.returns
returns c = record { step = own-ideal }
