use Rattle.trap_free.proofs.KeptRuns.{safe_programs}
use Rattle.trap_free.proofs.laws.safe_programs_do_not_trap.Goals as goal

pub returns : goal.returns
returns c = record { law = safe_programs }
