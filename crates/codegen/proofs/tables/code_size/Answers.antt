use Rattle.std.proofs.Common.{arith}
use Rattle.ir_code.specs.declared.Op.TheVariants.{Const}
use Rattle.codegen.proofs.CodeSizes.{code_size-more}
use Rattle.codegen.proofs.tables.code_size.Goals as goal

pub loop-o-preserved : goal.loop-o-preserved
loop-o-preserved c =
    let more = code_size-more c.args.ops.now c.loop-o.o-index (Const 0 0) c.loop-o-test.true in
    (omega (arith, c.loop-o.invariant.0, more, c.size_of-size.ensures.size), omega (arith, c.loop-o.invariant.1, c.size_of-size.ensures.small))
