use Rattle.std.proofs.Common.{◌≡◌, ◌++◌, length}
use Rattle.orbis_core.specs.ByteOrder.{words_in}
use Rattle.orbis_core.proofs.flat_memory.push_words.Given as goal

abbrev pub invariant-loop-rest : goal.invariant-loop-rest
invariant-loop-rest l = l.words.items ++ words_in l.rest ≡ l.initial.words.items ++ words_in l.bytes

abbrev pub decreases-loop-rest : goal.decreases-loop-rest
decreases-loop-rest l = length l.rest
