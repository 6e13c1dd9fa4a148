-- Promise: what a cache of lines is seen as: a finite map from blocks to lines, in which the parent of each block is held.
use Rattle.std.specs.Prelude.{◌≡◌, ℕ, ◌<◌, ◌≤◌, Bool, true, false, IsTrue, List, Option, None, Some, option_map, Contains}
use Rattle.std.specs.Ordering.{nat_cmp}
use Rattle.std.specs.FinMap.{FinMap, contains_key, get, insert, len}
use Rattle.aegis_num.specs.declared.limits.TheConstants.{TREE_LINES}
use Rattle.regions.specs.Tree.{parent_in}
use Rattle.line_cache.specs.declared.lines.Line.{Line}

abbrev pub LineMap : Type 0
LineMap = FinMap nat_cmp Line

-- the parent of a block but block 0: each node has three children
abbrev pub parent_block : ℕ → ℕ
parent_block block = parent_in 3 block

-- the block has a line
abbrev pub Holds : LineMap → ℕ → Type 0
Holds lines block = IsTrue (contains_key lines block)

-- the payload of the line of a block, and whether that line is dirty
abbrev pub payload_at : LineMap → ℕ → Option (List ℕ)
payload_at lines block = option_map (λ line. line.payload) (get lines block)

abbrev pub dirty_at : LineMap → ℕ → Option Bool
dirty_at lines block = option_map (λ line. line.dirty) (get lines block)

-- the block is block 0, or its parent has a line
abbrev pub HasParent : LineMap → ℕ → Type 0
HasParent lines block = 0 < block → Holds lines (parent_block block)

-- no child of the block has a line
abbrev pub IsChildless : LineMap → ℕ → Type 0
IsChildless lines block = (child : ℕ) → 0 < child → parent_block child ≡ block → contains_key lines child ≡ false

-- a cache has so many lines at most, and the parent of each block that it holds
pub record AreLines (lines : LineMap) : Type 0 where
  pub at_most : len lines ≤ TREE_LINES
  pub parents : (block : ℕ) → Holds lines block → HasParent lines block

-- these blocks hold the parent of each of them
abbrev pub HoldParents : List ℕ → Type 0
HoldParents blocks = (block : ℕ) → Contains blocks block → 0 < block → Contains blocks (parent_block block)

-- a block that may be removed where these blocks are pinned
pub record MayBeRemoved (lines : LineMap) (pinned : List ℕ) (block : ℕ) : Type 0 where
  pub held : Holds lines block
  pub childless : IsChildless lines block
  pub unpinned : ¬ (Contains pinned block)

-- the lines after that of the block was marked as clean
abbrev pub clean_line : LineMap → ℕ → Option Line → LineMap
clean_line lines block None = lines
clean_line lines block (Some line) = insert lines block (record { payload = line.payload; dirty = false })

abbrev pub with_clean : LineMap → ℕ → LineMap
with_clean lines block = clean_line lines block (get lines block)

-- the lines where that of the block is dirty and has this payload
abbrev pub with_payload : LineMap → ℕ → List ℕ → LineMap
with_payload lines block payload = insert lines block (record { payload = payload; dirty = true })
