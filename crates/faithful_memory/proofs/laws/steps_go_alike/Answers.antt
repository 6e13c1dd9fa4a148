use Rattle.faithful_memory.proofs.AlikeLemmas.{alike-law}
use Rattle.faithful_memory.proofs.laws.steps_go_alike.Goals as goal

pub returns : goal.returns
returns c = record { law = alike-law }
