use Rattle.memory_trace.proofs.SoundOthers.{others-law}
use Rattle.memory_trace.proofs.laws.others_keep_sound.Goals as goal

pub returns : goal.returns
returns c = record { law = others-law }
