-- Promise: the tree over the data blocks: its height, and the numbers of its blocks, level by level from the root, which is 0.
use Rattle.std.specs.Prelude.{◌≡◌, ℕ, ◌+◌, ◌-◌, ◌/◌, ◌%◌, ◌^◌, ◌<◌, ◌≤◌, nat_le, if◌then◌else◌, zero, suc}
use Rattle.regions.specs.declared.layout.Layout.{Layout}
use Rattle.regions.specs.Blocks.{data_blocks}

-- how many children a node has
abbrev pub fan_of : Layout → ℕ
fan_of layout = 3

-- the greatest height
abbrev pub max_height_of : Layout → ℕ
max_height_of layout = 8

-- In what follows the first number is the fan of a tree.

-- the height of a tree that is at most so high, over so many data blocks: the least number of levels that has a place for each
pub record IsHeight (fan highest blocks height : ℕ) : Type 0 where
  pub positive : 1 ≤ height
  pub at_most : height ≤ highest
  pub enough : blocks ≤ fan ^ height
  pub least : (lower : ℕ) → 1 ≤ lower → blocks ≤ fan ^ lower → height ≤ lower

-- the first of so many heights, from the last argument on, with a place for each block; if none has, the one after them
abbrev pub least_height : ℕ → ℕ → ℕ → ℕ → ℕ
least_height fan blocks zero height = height
least_height fan blocks (suc more) height = if nat_le blocks (fan ^ height) then height else least_height fan blocks more (height + 1)

-- the first tree block of the level of this depth: the root, or the one after all blocks of the levels above
abbrev pub level_start : ℕ → ℕ → ℕ
level_start fan zero = 0
level_start fan (suc depth) = level_start fan depth + fan ^ depth

-- the tree block of a position in the level of this depth
abbrev pub block_in : ℕ → ℕ → ℕ → ℕ
block_in fan depth position = level_start fan depth + position

-- the node above a tree block, for each but the root, and which child of it the block is
abbrev pub parent_in : ℕ → ℕ → ℕ
parent_in fan block = (block - 1) / fan

abbrev pub slot_in : ℕ → ℕ → ℕ
slot_in fan block = (block - 1) % fan

-- the block so many steps above a tree block
abbrev pub ancestor_in : ℕ → ℕ → ℕ → ℕ
ancestor_in fan zero block = block
ancestor_in fan (suc steps) block = ancestor_in fan steps (parent_in fan block)

-- And for the tree of a layout:

-- its height
unfoldable pub height_of : Layout → ℕ
height_of layout = least_height (fan_of layout) (data_blocks layout) (max_height_of layout - 1) 1

-- how many positions its lowest level has
abbrev pub positions_of : Layout → ℕ
positions_of layout = fan_of layout ^ height_of layout

-- the tree block of a position in its lowest level; data block d has position d
abbrev pub leaf_of : Layout → ℕ → ℕ
leaf_of layout position = block_in (fan_of layout) (height_of layout) position

-- how many blocks it has
abbrev pub tree_blocks : Layout → ℕ
tree_blocks layout = level_start (fan_of layout) (suc (height_of layout))

-- the node above a block, and which child of it the block is
abbrev pub parent_of : Layout → ℕ → ℕ
parent_of layout block = parent_in (fan_of layout) block

abbrev pub slot_of : Layout → ℕ → ℕ
slot_of layout block = slot_in (fan_of layout) block

-- the block so many steps above a block
abbrev pub ancestor_of : Layout → ℕ → ℕ → ℕ
ancestor_of layout steps block = ancestor_in (fan_of layout) steps block

-- The laws, for each fan of at least 2:

-- where so many levels have a place for each block, the least such height is the height
abbrev pub HeightIsLeast : Type 0
HeightIsLeast =
    (fan highest blocks : ℕ) → 2 ≤ fan → 1 ≤ highest → blocks ≤ fan ^ highest → IsHeight fan highest blocks (least_height fan blocks (highest - 1) 1)

-- there is one height
abbrev pub HeightsAreOne : Type 0
HeightsAreOne = (fan highest blocks height other : ℕ) → IsHeight fan highest blocks height → IsHeight fan highest blocks other → height ≡ other

-- the parent of a block stands in the level above, at its position divided by the fan; its slot is the remainder
abbrev pub ParentsAreAbove : Type 0
ParentsAreAbove =
    (fan depth position : ℕ) → 2 ≤ fan →
    (parent_in fan (block_in fan (suc depth) position) ≡ block_in fan depth (position / fan)) × (slot_in fan (block_in fan (suc depth) position) ≡ position % fan)

-- a block of a level is as many steps below the root as the level is deep
abbrev pub RootIsAbove : Type 0
RootIsAbove = (fan depth position : ℕ) → 2 ≤ fan → position < fan ^ depth → ancestor_in fan depth (block_in fan depth position) ≡ 0

-- a block of a level stands before the next level
abbrev pub LevelsAreApart : Type 0
LevelsAreApart = (fan depth position : ℕ) → position < fan ^ depth → block_in fan depth position < level_start fan (suc depth)
