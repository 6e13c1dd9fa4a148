use Rattle.orbis_core.proofs.LooseningLemmas.{runs-loosen}
use Rattle.orbis_core.proofs.laws.runs_loosen.Goals as goal

pub returns : goal.returns
returns c = record { loosened = runs-loosen }
