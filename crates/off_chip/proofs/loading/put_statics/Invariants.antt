use Rattle.std.proofs.Common.{◌≡◌}
use Rattle.regions.specs.Tree.{tree_blocks}
use Rattle.off_chip.specs.OffChipBytes.{static_blocks, with_statics}
use Rattle.off_chip.proofs.loading.put_statics.Given as goal

-- the static blocks so far are at their places
abbrev pub invariant-loop-n : goal.invariant-loop-n
invariant-loop-n l = record {
  in_tree : l.tree_blocks ≡ tree_blocks l.layout;
  blocks : l.n-end ≡ static_blocks l.layout;
  memory : l.memory ≡ with_statics l.layout l.statics l.n l.fn.memory;
}
