use Rattle.std.proofs.Common.{◌+◌, ◌++◌, length, arith, ap, ◌∙◌, append-nil}
use Rattle.std.proofs.lemmas.List.{drop_all}
use Rattle.off_chip.specs.OffChipBytes.{stored}
use Rattle.off_chip.proofs.stored.bytes_of_block.Goals as goal

pub returns : goal.returns
returns c =
    let bytes = stored c.args.block.now in
    record {
      value = c.put_block.ensures.bytes
          ∙ ap (λ l. bytes ++ l) (drop_all (0 + length bytes) _ (omega (arith, c.put_block.ensures.long)))
          ∙ append-nil bytes;
    }
