use Rattle.faithful_memory.proofs.JoinLemmas.{join-law}
use Rattle.faithful_memory.proofs.WordsKept.{contents-law}
use Rattle.faithful_memory.proofs.laws.contents_are_words.Goals as goal

pub returns : goal.returns
returns g c = record { law = contents-law _; joined = join-law _ }
