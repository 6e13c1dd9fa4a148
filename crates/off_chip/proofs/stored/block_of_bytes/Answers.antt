use Rattle.std.proofs.Common.{arith, ◌∙◌}
use Rattle.std.proofs.lemmas.List.{take_all}
use Rattle.off_chip.proofs.stored.block_of_bytes.Goals as goal

pub returns : goal.returns
returns c = record { value = c.block_at.ensures.bytes ∙ take_all 72 c.args.bytes.now (omega arith) }
