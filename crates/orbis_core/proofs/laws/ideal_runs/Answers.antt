use Rattle.orbis_core.proofs.IdealLemmas.{ends-stay, run-extends, runs-join}
use Rattle.orbis_core.proofs.laws.ideal_runs.Goals as goal

pub returns : goal.returns
returns c = record { joined = runs-join; extended = run-extends; ended = ends-stay }
