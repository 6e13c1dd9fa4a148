-- Promise: the path of a block: the blocks from the root of the tree down to it.
use Rattle.std.specs.Prelude.{ℕ, zero, suc, ◌<◌, ◌≤◌, List, [], ◌∷◌, ◌++◌}
use Rattle.regions.specs.declared.layout.Layout.{Layout}
use Rattle.regions.specs.Tree.{fan_of, height_of, leaf_of, level_start, parent_in}

-- a block stands in the level of this depth
pub record IsAtDepth (fan depth block : ℕ) : Type 0 where
  pub from : level_start fan depth ≤ block
  pub below : block < level_start fan (suc depth)

-- the path of a block that stands so many steps below the root
abbrev pub path_in : ℕ → ℕ → ℕ → List ℕ
path_in fan zero block = block ∷ []
path_in fan (suc depth) block = path_in fan depth (parent_in fan block) ++ block ∷ []

-- the path of the block at a position in the lowest level
abbrev pub path_of : Layout → ℕ → List ℕ
path_of layout position = path_in (fan_of layout) (height_of layout) (leaf_of layout position)
