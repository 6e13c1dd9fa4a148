use Rattle.std.proofs.Common.{◌≡◌, take}
use Rattle.codegen.specs.ImageCode.{constant_words}
use Rattle.codegen.proofs.constants.words_in.Given as goal

abbrev pub invariant-loop-cell : goal.invariant-loop-cell
invariant-loop-cell l = l.words.items ≡ constant_words (take l.cell-index l.cells)
