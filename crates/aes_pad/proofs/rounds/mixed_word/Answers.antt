use Rattle.std.proofs.Common.{arith}
use Rattle.aes_pad.proofs.RoundLemmas.{mixed_from}
use Rattle.aes_pad.proofs.rounds.mixed_word.Goals as goal

pub returns : goal.returns
returns c =
    mixed_from c.args.a c.args.b c.args.c c.args.d _ _ _ (omega arith) (omega arith) (omega arith) (omega arith)
    c.rotate_right.ensures c.rotate_right-2.ensures c.rotate_right-3.ensures
