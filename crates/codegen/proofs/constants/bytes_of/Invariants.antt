use Rattle.std.proofs.Common.{◌≡◌, take}
use Rattle.orbis_core.specs.ByteOrder.{bytes_of}
use Rattle.codegen.proofs.constants.bytes_of.Given as goal

abbrev pub invariant-loop-word : goal.invariant-loop-word
invariant-loop-word l = l.bytes.items ≡ bytes_of (take l.word-index l.fn.words.items)
