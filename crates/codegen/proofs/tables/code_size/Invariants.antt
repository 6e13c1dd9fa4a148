use Rattle.std.proofs.Common.{◌≡◌, ◌*◌, ◌≤◌, take}
use Rattle.codegen.specs.ImageCode.{code_size}
use Rattle.codegen.proofs.tables.code_size.Given as goal

abbrev pub invariant-loop-o : goal.invariant-loop-o
invariant-loop-o l = (l.size ≡ code_size (take l.o-index l.ops)) × (l.size ≤ 8 * l.o-index)
