use Rattle.std.proofs.Common.{◌≡◌, ◌*◌, drop, length, take}
use Rattle.std.specs.Int.{w32, to_be_bytes}
use Rattle.std.specs.List.{flat_map}
use Rattle.aegis_machine.proofs.program.code_block.Given as goal

-- the words so far stand in the payload
abbrev pub invariant-loop-k : goal.invariant-loop-k
invariant-loop-k l = record {
  long : length l.payload ≡ 64;
  words : take (4 * l.k) l.payload ≡ flat_map (to_be_bytes w32) (take l.k (drop l.first l.code));
}
