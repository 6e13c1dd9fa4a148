use Rattle.aes_pad.proofs.RoundLemmas.{last_round_from}
use Rattle.aes_pad.proofs.rounds.last_state.Goals as goal

pub returns : goal.returns
returns c =
    last_round_from c.args.state c.args.key _ _ _ _ _ _ _ _ _ c.to_be_bytes-a.ensures c.to_be_bytes-b.ensures c.to_be_bytes-c.ensures c.to_be_bytes-d.ensures
    c.substituted_word-first.ensures c.substituted_word-second.ensures c.substituted_word-third.ensures c.substituted_word-fourth.ensures c.sum_of.ensures
