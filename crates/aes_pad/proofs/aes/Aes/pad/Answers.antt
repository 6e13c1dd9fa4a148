use Rattle.std.proofs.Common.{refl, replicate, arith}
use Rattle.aes_pad.proofs.PadLemmas.{no_blocks, one_block_more, whole_pad}
use Rattle.aes_pad.proofs.aes.Aes.pad.Goals as goal

pub counters-init : goal.counters-init
counters-init c = (refl, no_blocks c.args.self.now c.args.number c.args.stamp (replicate 64 0))

pub counters-preserved : goal.counters-preserved
counters-preserved c = (
  omega arith,
  one_block_more c.args.self.now c.args.number c.args.stamp c.counters.j c.counters.pad _ _ _ c.counters.invariant.1 c.pad_input.ensures c.encrypt-block.ensures.value c.put_block.ensures,
)

pub returns : goal.returns
returns c = record { value = whole_pad c.args.self.now c.args.number c.args.stamp c.counters.j c.counters.pad (omega arith) c.counters.invariant.0 c.counters.invariant.1 }
