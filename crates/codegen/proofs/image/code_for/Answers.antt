use Rattle.std.proofs.Common.{arith}
use Rattle.ir_code.specs.declared.Op.TheVariants.{Const}
use Rattle.codegen.specs.Numbers.{sites_in}
use Rattle.codegen.proofs.CodeSizes.{code_size-more, code_size-take-le, slots-at, written-more}
use Rattle.codegen.proofs.image.code_for.Goals as goal

pub operation-requires-clause-near : goal.operation-requires-clause-near
operation-requires-clause-near c = omega (arith, c.loop-o.invariant.1, code_size-take-le c.args.ops.now c.loop-o.o-index, c.requires.near)

pub operation-requires-clause-slots : goal.operation-requires-clause-slots
operation-requires-clause-slots c = slots-at c.args.ops.now c.loop-o.o-index (Const 0 0) c.loop-o-test.true c.requires.slots

pub overflow_add-number : goal.overflow_add-number
overflow_add-number c =
    omega (arith, c.loop-o.invariant.1, code_size-take-le c.args.ops.now c.loop-o.o-index, c.requires.near, c.size_of-number.ensures.small)

pub loop-o-preserved : goal.loop-o-preserved
loop-o-preserved c =
    let more = code_size-more c.args.ops.now c.loop-o.o-index (Const 0 0) c.loop-o-test.true in (
      written-more (sites_in c.args.sites.now.homes.now c.args.sites.now.labels.now) c.args.ops.now c.loop-o.o-index c.loop-o.number (Const 0 0) c.loop-o.code
          c.operation.new.self c.loop-o-test.true c.loop-o.invariant.0 c.loop-o.invariant.1 c.in_ok-operation.ensures,
      omega (arith, more, c.loop-o.invariant.1, c.size_of-number.ensures.size),
    )
