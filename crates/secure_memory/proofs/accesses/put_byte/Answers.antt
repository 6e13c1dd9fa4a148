use Rattle.std.proofs.Common.{◌/◌, ◌%◌, arith, refl}
use Rattle.secure_memory.proofs.WordLemmas.{words-set}
use Rattle.secure_memory.proofs.accesses.put_byte.Goals as goal

pub returns-clause-words : goal.returns-clause-words
returns-clause-words c =
    words-set c.args.payload.now c.args.at (c.args.at % 64) (c.args.at % 64 / 4) c.args.byte c.fits-payload (omega (arith, c.ranges.byte.fits)) refl (omega arith)
    (omega (arith, c.told-payload))
