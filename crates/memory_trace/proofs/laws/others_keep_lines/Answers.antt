use Rattle.memory_trace.proofs.LineLemmas.{others-lines}
use Rattle.memory_trace.proofs.laws.others_keep_lines.Goals as goal

pub returns : goal.returns
returns c = record { law = others-lines }
