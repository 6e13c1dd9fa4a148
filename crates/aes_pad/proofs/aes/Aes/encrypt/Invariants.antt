use Rattle.std.proofs.Common.{◌≡◌}
use Rattle.aes_pad.specs.Cipher.{state_after}
use Rattle.aes_pad.specs.KeptKeys.{bytes_of, kept_key}
use Rattle.aes_pad.proofs.aes.Aes.encrypt.Given as goal

abbrev pub invariant-rounds : goal.invariant-rounds
invariant-rounds l = bytes_of l.state ≡ state_after (kept_key l.self-inside.keys 0) l.fn.block l.round
