use Rattle.std.proofs.Common.{◌≡◌}
use Rattle.block_hash.specs.ProgramParts.{HasTaken}
use Rattle.image_file.specs.ImageTable.{static_bytes}
use Rattle.off_chip.specs.OffChipBytes.{static_blocks}
use Rattle.aegis_machine.specs.Boundaries.{blocks_in}
use Rattle.aegis_machine.proofs.program.digest_of.Given as goal

-- the static blocks so far were taken in
abbrev pub invariant-loop-number : goal.invariant-loop-number
invariant-loop-number l = record {
  whole : l.blocks ≡ static_blocks l.image.layout;
  blocks : l.program.blocks ≡ static_blocks l.image.layout;
  added : l.program.added ≡ l.number;
  taken : HasTaken l.program (blocks_in l.number (static_bytes l.image));
}
