use Rattle.std.proofs.Common.{refl, arith, replicate}
use Rattle.block_hash.proofs.StringLemmas.{block_string-built}
use Rattle.block_hash.proofs.strings.block_string.Goals as goal

pub returns : goal.returns
returns c = record {
  value = block_string-built c.args.tag c.args.number c.args.b.now c.to_be_bytes.result c.to_be_bytes-2.result (replicate 77 c.args.tag)
      c.put_after.new.string c.put_after-2.new.string c.put_after-3.new.string c.to_be_bytes.ensures c.to_be_bytes-2.ensures (omega arith) refl
      c.put_after.ensures c.put_after-2.ensures c.put_after-3.ensures (omega arith);
}
