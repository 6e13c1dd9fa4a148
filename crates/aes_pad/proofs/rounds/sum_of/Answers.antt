use Rattle.aes_pad.proofs.WordLemmas.{words-xor}
use Rattle.aes_pad.proofs.rounds.sum_of.Goals as goal

pub returns : goal.returns
returns c = words-xor c.args.words c.args.others
