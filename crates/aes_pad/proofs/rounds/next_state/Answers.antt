use Rattle.aes_pad.proofs.RoundLemmas.{round_from}
use Rattle.aes_pad.proofs.rounds.next_state.Goals as goal

pub returns : goal.returns
returns c =
    round_from c.args.state c.args.key _ _ _ _ _ _ _ _ _ c.to_be_bytes-a.ensures c.to_be_bytes-b.ensures c.to_be_bytes-c.ensures c.to_be_bytes-d.ensures
    c.mixed_word-first.ensures c.mixed_word-second.ensures c.mixed_word-third.ensures c.mixed_word-fourth.ensures c.sum_of.ensures
