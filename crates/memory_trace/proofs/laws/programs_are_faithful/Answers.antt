use Rattle.memory_trace.proofs.ProgramProofs.{program-law}
use Rattle.memory_trace.proofs.laws.programs_are_faithful.Goals as goal

pub returns : goal.returns
returns g c = record { law = program-law _ }
