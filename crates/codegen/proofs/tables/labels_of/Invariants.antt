use Rattle.std.proofs.Common.{◌≡◌, ◌≤◌, ℕ, take, drop, length}
use Rattle.std.specs.Prelude.{nat_eq}
use Rattle.std.specs.HashMap.{get}
use Rattle.codegen.specs.ImageCode.{code_size}
use Rattle.codegen.specs.Numbers.{label_number}
use Rattle.codegen.proofs.tables.labels_of.Given as goal

abbrev pub invariant-loop-place : goal.invariant-loop-place
invariant-loop-place l =
    (l.place ≤ length l.ops) × (l.number ≡ code_size (take l.place l.ops)) × ((q : ℕ) → get nat_eq l.numbers q ≡ label_number l.number (drop l.place l.ops) q)

abbrev pub decreases-loop-place : goal.decreases-loop-place
decreases-loop-place l = l.place
