use Rattle.std.proofs.Common.{List, ℕ, ap, sym, take, ◌∙◌, ◌++◌}
use Rattle.codegen.specs.ImageCode.{constant_words}
use Rattle.codegen.proofs.ConstantSizes.{constant_words-more}
use Rattle.codegen.proofs.constants.words_in.Goals as goal

pub loop-cell-preserved : goal.loop-cell-preserved
loop-cell-preserved c =
    c.in_ok-extend_from_slice.ensures.items
    ∙ ap (λ (front : List ℕ). front ++ c.words_of.result.now) c.loop-cell.invariant
    ∙ ap (λ (back : List ℕ). constant_words (take c.loop-cell.cell-index c.args.cells.now) ++ back) c.words_of.ensures
    ∙ sym (constant_words-more c.args.cells.now c.loop-cell.cell-index c.cell-item.result c.loop-cell-test.true c.cell-item.is)
