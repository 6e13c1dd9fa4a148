use Rattle.std.proofs.Common.{arith}
use Rattle.aes_pad.proofs.RoundLemmas.{substituted}
use Rattle.aes_pad.proofs.rounds.substituted_word.Goals as goal

pub returns : goal.returns
returns c = substituted c.args.a c.args.b c.args.c c.args.d _ (omega arith) (omega arith) (omega arith) (omega arith) c.word_of.ensures
