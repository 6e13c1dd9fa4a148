use Rattle.aes_pad.proofs.PadLemmas.{IsAdded}
use Rattle.aes_pad.proofs.pads.xor_into.Given as goal

abbrev pub invariant-bytes : goal.invariant-bytes
invariant-bytes l = IsAdded l.fn.payload l.pad l.payload l.i
