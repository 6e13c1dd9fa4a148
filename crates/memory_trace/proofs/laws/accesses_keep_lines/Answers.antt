use Rattle.memory_trace.proofs.LineAccesses.{lines-law}
use Rattle.memory_trace.proofs.laws.accesses_keep_lines.Goals as goal

pub returns : goal.returns
returns g c = record { law = lines-law _ }
