use Rattle.std.proofs.Common.{◌≡◌, ◌*◌, arith}
use Rattle.aegis_machine.proofs.ProgramLemmas.{words-whole}
use Rattle.aegis_machine.proofs.program.code_block.Goals as goal

pub returns : goal.returns
returns c =
    let sixteen : c.loop-k.k ≡ 16 = omega (arith, c.loop-k-test.false, c.loop-k.auto.k-end) in
    words-whole c.args.code.now c.loop-k.payload (16 * c.args.number) c.loop-k.k c.loop-k.invariant.long sixteen c.loop-k.invariant.words
