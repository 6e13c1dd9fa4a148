use Rattle.orbis_core.proofs.WholeLemmas.{states-whole, steps-whole}
use Rattle.orbis_core.proofs.laws.ideal_states.Goals as goal

pub returns : goal.returns
returns c = record { kept = steps-whole; whole = states-whole }
