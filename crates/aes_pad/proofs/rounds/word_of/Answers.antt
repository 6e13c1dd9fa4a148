use Rattle.std.proofs.Common.{arith}
use Rattle.aes_pad.proofs.WordLemmas.{word_from}
use Rattle.aes_pad.proofs.rounds.word_of.Goals as goal

pub returns : goal.returns
returns c = word_from c.args.a c.args.b c.args.c c.args.d _ (omega arith) (omega arith) (omega arith) (omega arith) c.from_be_bytes.ensures
