use Rattle.orbis_core.proofs.IdealLemmas.{class-of-word, code-fetched, code-stays, mode-secure, step-carried}
use Rattle.orbis_core.proofs.laws.ideal_steps.Goals as goal

pub returns : goal.returns
returns c = record { carried = step-carried; code = code-stays; fetched = code-fetched; mode = mode-secure; class = class-of-word }
