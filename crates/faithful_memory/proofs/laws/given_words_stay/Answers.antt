use Rattle.faithful_memory.proofs.WordsKept.{words-law}
use Rattle.faithful_memory.proofs.laws.given_words_stay.Goals as goal

pub returns : goal.returns
returns c = record { law = words-law }
