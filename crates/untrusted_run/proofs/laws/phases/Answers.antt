use Rattle.untrusted_run.proofs.LawLemmas.{phases-open}
use Rattle.untrusted_run.proofs.laws.phases.Goals as goal

pub returns : goal.returns
returns c = record { law = phases-open }
