use Rattle.std.proofs.Common.{◌≡◌, ◌++◌, length}
use Rattle.image_file.specs.ReadParts.{words_in}
use Rattle.image_file.proofs.reading.words_of.Given as goal

abbrev pub invariant-loop-rest : goal.invariant-loop-rest
invariant-loop-rest l = l.words.items ++ words_in l.rest ≡ words_in l.bytes

abbrev pub decreases-loop-rest : goal.decreases-loop-rest
decreases-loop-rest l = length l.rest
