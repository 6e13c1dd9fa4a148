use Rattle.std.proofs.Common.{arith}
use Rattle.aes_pad.proofs.WordLemmas.{words_from}
use Rattle.aes_pad.proofs.rounds.words_of.Goals as goal

pub returns : goal.returns
returns c = words_from c.args.block.now _ _ _ _ (omega arith) c.word_of-first.ensures c.word_of-second.ensures c.word_of-third.ensures c.word_of-fourth.ensures
