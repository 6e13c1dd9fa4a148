use Rattle.std.proofs.Common.{◌∙◌, ◌+◌, ◌/◌, ◌%◌, arith, refl, sym}
use Rattle.secure_memory.proofs.WordLemmas.{word-bytes}
use Rattle.secure_memory.proofs.accesses.word_of.Goals as goal

pub returns : goal.returns
returns c = record {
  value = c.from_be_bytes.ensures
      ∙ sym (word-bytes c.args.payload.now (c.args.at % 64) (c.args.at % 64 / 4) (c.args.at % 64 + 1) (c.args.at % 64 + 2) (c.args.at % 64 + 3) (omega (arith, c.requires.aligned))
      (omega (arith, c.told-payload, c.requires.aligned)) refl refl refl);
}
