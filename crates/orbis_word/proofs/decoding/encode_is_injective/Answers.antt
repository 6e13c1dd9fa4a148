use Rattle.orbis_word.proofs.WordLaws.{words-apart}
use Rattle.orbis_word.proofs.decoding.encode_is_injective.Goals as goal

pub returns : goal.returns
returns c = words-apart
