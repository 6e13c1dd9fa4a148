use Rattle.faithful_memory.proofs.HomeLemmas.{home-law}
use Rattle.faithful_memory.proofs.laws.contents_stay_home.Goals as goal

pub returns : goal.returns
returns g c = record { law = home-law _ }
