use Rattle.std.proofs.Common.{◌≡◌, length}
use Rattle.aes_pad.proofs.RoundLemmas.{AreKept}
use Rattle.aes_pad.proofs.aes.Aes.new.Given as goal

abbrev pub invariant-expansion : goal.invariant-expansion
invariant-expansion l = (length l.keys ≡ 11) × AreKept l.keys l.key.0 l.round
