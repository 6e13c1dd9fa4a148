use Rattle.std.proofs.Common.{◌≡◌, ◌*◌, length, take}
use Rattle.aes_pad.specs.Pads.{pad_blocks}
use Rattle.aes_pad.proofs.aes.Aes.pad.Given as goal

abbrev pub invariant-counters : goal.invariant-counters
invariant-counters l = (length l.pad ≡ 64) × (take (16 * l.j) l.pad ≡ pad_blocks l.self l.number l.stamp l.j)
