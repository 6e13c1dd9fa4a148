-- Promise: the address map: which addresses each class has, and in which blocks they lie.
use Rattle.std.specs.Prelude.{ℕ, ◌+◌, ◌-◌, ◌*◌, ◌/◌, ◌%◌, ◌<◌, ◌≤◌, Bool, ◌&&◌, nat_le, nat_lt, [], ◌∷◌, find, Option}
use Rattle.regions.specs.declared.addresses.TheConstants.{BLOCK_BYTES, LOG_START, OPEN_END, TREE_START}
use Rattle.regions.specs.declared.layout.Layout.{Layout}
use Rattle.regions.specs.declared.rights.Class.{Class}
use Rattle.regions.specs.declared.rights.Class.TheVariants.{Open, Verified, Private, Constant, Code, Logged}
use Rattle.regions.specs.Blocks.{data_blocks}

-- the first address of a class
abbrev pub start_of : Layout → Class → ℕ
start_of layout Open = 0
start_of layout Verified = TREE_START
start_of layout Private = TREE_START + BLOCK_BYTES * layout.verified
start_of layout Constant = TREE_START + BLOCK_BYTES * (layout.verified + layout.private)
start_of layout Code = TREE_START + BLOCK_BYTES * (layout.verified + layout.private + layout.constants)
start_of layout Logged = LOG_START

-- the first address after a class
abbrev pub end_of : Layout → Class → ℕ
end_of layout Open = OPEN_END
end_of layout Verified = start_of layout Private
end_of layout Private = start_of layout Constant
end_of layout Constant = start_of layout Code
end_of layout Code = TREE_START + BLOCK_BYTES * data_blocks layout
end_of layout Logged = LOG_START + BLOCK_BYTES * layout.log

-- the address is one of the class
abbrev pub LiesIn : Layout → Class → ℕ → Type 0
LiesIn layout class at = (start_of layout class ≤ at) × (at < end_of layout class)

-- the test of it
abbrev pub lies_in : Layout → Class → ℕ → Bool
lies_in layout class at = nat_le (start_of layout class) at && nat_lt at (end_of layout class)

-- the class of an address, if it has one
unfoldable pub class_at : Layout → ℕ → Option Class
class_at layout at = find (λ class. lies_in layout class at) (Open ∷ Verified ∷ Private ∷ Constant ∷ Code ∷ Logged ∷ [])

-- data blocks may lie at the address
pub record IsUnderTree (at : ℕ) : Type 0 where
  pub from : TREE_START ≤ at
  pub below : at < LOG_START

-- the first address of a data block
abbrev pub block_start : ℕ → ℕ
block_start block = TREE_START + BLOCK_BYTES * block

-- the number of the data block in which an address of the tree lies
abbrev pub data_block_at : ℕ → ℕ
data_block_at at = (at - TREE_START) / BLOCK_BYTES

-- the number of the log block in which an address of the log lies
abbrev pub log_block_at : ℕ → ℕ
log_block_at at = (at - LOG_START) / BLOCK_BYTES

-- where in its block an address lies
abbrev pub offset_at : ℕ → ℕ
offset_at at = at % BLOCK_BYTES

-- the address lies in a data block that the layout has
pub record IsInData (layout : Layout) (at : ℕ) : Type 0 where
  pub from : TREE_START ≤ at
  pub block : data_block_at at < data_blocks layout

-- the address lies in a log block that the layout has
pub record IsInLog (layout : Layout) (at : ℕ) : Type 0 where
  pub from : LOG_START ≤ at
  pub block : log_block_at at < layout.log

-- what an address of each class lies in
abbrev pub HasBlock : Layout → Class → ℕ → Type 0
HasBlock layout Open at = at < OPEN_END
HasBlock layout Verified at = IsInData layout at
HasBlock layout Private at = IsInData layout at
HasBlock layout Constant at = IsInData layout at
HasBlock layout Code at = IsInData layout at
HasBlock layout Logged at = IsInLog layout at
