use Rattle.orbis_core.proofs.FlatIdealLemmas.{flat-ideal, flat-start}
use Rattle.orbis_core.proofs.laws.flat_is_ideal.Goals as goal

pub returns : goal.returns
returns c = record { start = flat-start; step = flat-ideal }
