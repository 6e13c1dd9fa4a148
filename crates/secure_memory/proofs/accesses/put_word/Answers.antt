use Rattle.std.proofs.Common.{◌/◌, ◌%◌, arith}
use Rattle.secure_memory.proofs.WordLemmas.{words-put}
use Rattle.secure_memory.proofs.accesses.put_word.Goals as goal

pub returns-clause-words : goal.returns-clause-words
returns-clause-words c =
    words-put c.args.payload.now (c.args.at % 64) (c.args.at % 64 / 4) c.args.word (omega (arith, c.ranges.word.fits)) (omega (arith, c.requires.aligned))
    (omega (arith, c.told-payload, c.requires.aligned))
