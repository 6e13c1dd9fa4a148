use Rattle.aes_pad.proofs.WordLemmas.{bytes_from}
use Rattle.aes_pad.proofs.rounds.bytes_of.Goals as goal

pub returns : goal.returns
returns c = bytes_from c.args.words _ _ _ _ c.to_be_bytes-a.ensures c.to_be_bytes-b.ensures c.to_be_bytes-c.ensures c.to_be_bytes-d.ensures
