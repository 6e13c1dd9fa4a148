use Rattle.paced_trace.proofs.LeavingLemmas.{leaving-paid}
use Rattle.paced_trace.proofs.PaceLemmas.{resident-paced, steps-paced}
use Rattle.paced_trace.proofs.laws.paced_steps.Goals as goal

pub returns : goal.returns
returns c = record { leaving = leaving-paid; steps = steps-paced; both = resident-paced }
