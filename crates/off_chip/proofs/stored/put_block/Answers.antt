use Rattle.std.proofs.Common.{◌≡◌, ◌+◌, arith, ap, ◌∙◌}
use Rattle.std.specs.Int.{w64, to_be_bytes}
use Rattle.off_chip.specs.OffChipBytes.{bytes_put}
use Rattle.off_chip.proofs.ByteLemmas.{put-put}
use Rattle.off_chip.proofs.stored.put_block.Goals as goal

pub returns-clause-bytes : goal.returns-clause-bytes
returns-clause-bytes c =
    let start = c.args.start in
    let block = c.args.block.now in
    let payload : c.put_payload.new.memory ≡ bytes_put start block.payload c.args.memory.now = c.put_payload.ensures in
    c.put_stamp.ensures.bytes ∙ ap (bytes_put (start + 64) (to_be_bytes w64 block.stamp)) payload
    ∙ put-put start block.payload (to_be_bytes w64 block.stamp) c.args.memory.now (start + 64) (omega arith) (omega arith)

pub returns-clause-whole : goal.returns-clause-whole
returns-clause-whole c = record { payload = omega arith; stamp = c.put_stamp.ensures.limit }
