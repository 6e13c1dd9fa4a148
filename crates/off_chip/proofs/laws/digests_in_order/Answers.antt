use Rattle.off_chip.proofs.DigestLemmas.{expected_digest-in_order}
use Rattle.off_chip.proofs.laws.digests_in_order.Goals as goal

pub returns : goal.returns
returns c = record { same = record { expected = expected_digest-in_order } }
