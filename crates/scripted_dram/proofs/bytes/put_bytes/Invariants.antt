use Rattle.std.proofs.Common.{◌≡◌, length, take}
use Rattle.off_chip.specs.OffChipBytes.{bytes_put}
use Rattle.scripted_dram.proofs.bytes.put_bytes.Given as goal

-- the bytes so far are put
abbrev pub invariant-loop-i : goal.invariant-loop-i
invariant-loop-i l = record {
  all : l.i-end ≡ length l.bytes;
  bytes : l.memory ≡ bytes_put l.at (take l.i l.bytes) l.fn.memory;
}
