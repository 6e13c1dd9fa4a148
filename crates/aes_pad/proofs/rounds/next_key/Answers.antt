use Rattle.std.proofs.Common.{refl}
use Rattle.aes_pad.proofs.RoundLemmas.{key_from}
use Rattle.aes_pad.proofs.rounds.next_key.Goals as goal

pub returns : goal.returns
returns c =
    key_from c.args.key _ c.args.constant _ _ _ _ _ _ c.to_be_bytes-last.ensures c.substituted_word-turned.ensures
    c.word_of-constant_word.ensures refl refl refl refl
