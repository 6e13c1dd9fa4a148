use Rattle.faithful_memory.proofs.EnteredLemmas.{entered-law, tree-faithful}
use Rattle.faithful_memory.proofs.laws.entering_gives_statics.Goals as goal

pub returns : goal.returns
returns g c = record { law = entered-law _; all = tree-faithful }
