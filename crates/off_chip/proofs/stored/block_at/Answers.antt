use Rattle.std.proofs.Common.{◌≡◌, ◌+◌, ◌++◌, arith, ap, ◌∙◌, sym, ◌-◌, take, drop}
use Rattle.std.specs.Int.{w64, to_be_bytes}
use Rattle.off_chip.specs.OffChipBytes.{bytes_at}
use Rattle.off_chip.proofs.ByteLemmas.{bytes_at-add}
use Rattle.off_chip.proofs.stored.block_at.Goals as goal

pub returns-clause-bytes : goal.returns-clause-bytes
returns-clause-bytes c =
    let start = c.args.start in
    let memory = c.args.memory.now in
    let part : start + 64 - start ≡ 64 = omega arith in
    let payload : c.copy_from_slice.new.self ≡ bytes_at start 64 memory =
    c.copy_from_slice.ensures.after ∙ ap (λ n. take n (drop start memory)) part in
    let stamp : to_be_bytes w64 c.stamp_at.result ≡ bytes_at (start + 64) 8 memory = c.stamp_at.ensures in
    let both : c.copy_from_slice.new.self ++ to_be_bytes w64 c.stamp_at.result ≡ bytes_at start 64 memory ++ bytes_at (start + 64) 8 memory = cc in
    both ∙ sym (bytes_at-add start 64 8 memory)
