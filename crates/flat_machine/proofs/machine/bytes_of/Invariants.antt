use Rattle.std.proofs.Common.{◌≡◌, ◌++◌, take}
use Rattle.orbis_core.specs.ByteOrder.{bytes_of}
use Rattle.flat_machine.proofs.machine.bytes_of.Given as goal

abbrev pub invariant-loop-word : goal.invariant-loop-word
invariant-loop-word l = l.bytes.items ≡ l.image.constants ++ bytes_of (take l.word-index l.image.code)
