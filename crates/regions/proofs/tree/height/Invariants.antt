use Rattle.std.proofs.Common.{◌-◌, ◌≡◌, ◌^◌, ◌<◌, ℕ, ◌≤◌}
use Rattle.regions.proofs.tree.height.Given as goal

-- so far the levels have too few places, but for the one that is tried next
pub record TriesLevel (blocks height positions : ℕ) : Type 0 where
  pub positive : 1 ≤ height
  pub at_most : height ≤ 8
  pub power : positions ≡ 3 ^ height
  pub some : 0 < positions
  pub few : (lower : ℕ) → 1 ≤ lower → lower < height → 3 ^ lower < blocks

abbrev pub invariant-loop-positions : goal.invariant-loop-positions
invariant-loop-positions l = TriesLevel l.blocks l.height l.positions

abbrev pub decreases-loop-positions : goal.decreases-loop-positions
decreases-loop-positions l = l.blocks - l.positions
