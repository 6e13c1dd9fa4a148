use Rattle.std.proofs.Common.{◌∙◌}
use Rattle.work_maker.specs.MadeSource.{function_line}
use Rattle.work_maker.proofs.Ranges.{after_piece}
use Rattle.work_maker.proofs.push_functions.Goals as goal

pub loop-k-preserved : goal.loop-k-preserved
loop-k-preserved c =
    after_piece function_line c.args.text.now.items c.loop-k.text.items c.extend_from_slice.new.self.items c.as_bytes.result.now c.loop-k.k
    c.loop-k.invariant (c.as_bytes.ensures.value ∙ c.in_ok-line.ensures) c.in_ok-extend_from_slice.ensures.items
