-- Promise: what the cache that removes the least recently used line is seen as: its lines in the order of their last use.
use Rattle.std.specs.Prelude.{ℕ, Bool, true, false, not, ◌&&◌, ◌||◌, ◌==◌, nat_le, nat_lt, nat_eq, List, [], ◌∷◌, length, reverse, if◌then◌else◌, Option, None, find}
use Rattle.std.specs.List.{list_any, list_all}
use Rattle.std.specs.Option.{option_map_or}
use Rattle.std.specs.FinMap.{empty, from_entries}
use Rattle.std.specs.Map.{keys_of, lookup, remove_entry, set_value}
use Rattle.aegis_num.specs.declared.limits.TheConstants.{TREE_LINES}
use Rattle.line_cache.specs.declared.lines.Line.{Line}
use Rattle.line_cache.specs.LineMaps.{LineMap, parent_block}

-- lines with their blocks, the one that was touched, lent or inserted last first
abbrev pub OrderedLines : Type 0
OrderedLines = List (ℕ × Line)

-- the blocks, in this order
abbrev pub blocks_of : {X : Type 0} → List (ℕ × X) → List ℕ
blocks_of lines = keys_of lines

-- the line of a block
abbrev pub line_of : {X : Type 0} → ℕ → List (ℕ × X) → Option X
line_of block lines = lookup (nat_eq block) lines

-- all lines but that of a block, in their order
abbrev pub without : {X : Type 0} → ℕ → List (ℕ × X) → List (ℕ × X)
without block lines = remove_entry (nat_eq block) lines

-- a line of a block first, and then all others
abbrev pub put_first : {X : Type 0} → ℕ → X → List (ℕ × X) → List (ℕ × X)
put_first block line lines = (block, line) ∷ without block lines

-- after a touch of a block: its line first
abbrev pub promoted : {X : Type 0} → ℕ → List (ℕ × X) → List (ℕ × X)
promoted block lines = option_map_or (λ line. put_first block line lines) (line_of block lines) lines

-- after a loan of a block's line, in which this payload was left: its line first, and dirty
abbrev pub written : OrderedLines → ℕ → List ℕ → OrderedLines
written lines block payload = put_first block (record { payload = payload; dirty = true }) lines

-- after the line of a block was marked as clean: where it stood
abbrev pub cleaned : ℕ → OrderedLines → OrderedLines
cleaned block lines = option_map_or (λ line. set_value (nat_eq block) lines (record { payload = line.payload; dirty = false })) (line_of block lines) lines

-- whether there is room
abbrev pub is_below_limit : {X : Type 0} → List (ℕ × X) → Bool
is_below_limit lines = nat_lt (length lines) TREE_LINES

-- whether a block is among others
abbrev pub is_in : List ℕ → ℕ → Bool
is_in blocks block = list_any (nat_eq block) blocks

-- whether one block is a child of another
abbrev pub is_child_of : ℕ → ℕ → Bool
is_child_of block child = nat_lt 0 child && (parent_block child == block)

-- whether a block of these may be removed: no child of it is among them, and it is not pinned
abbrev pub is_removable : List ℕ → List ℕ → ℕ → Bool
is_removable pinned blocks block = not (list_any (is_child_of block) blocks) && not (is_in pinned block)

-- the last block in the order that may be removed
abbrev pub last_removable : {X : Type 0} → List ℕ → List (ℕ × X) → Option ℕ
last_removable pinned lines = find (is_removable pinned (blocks_of lines)) (blocks_of (reverse lines))

-- the block to be removed, where there is no room
abbrev pub next_victim : List ℕ → OrderedLines → Option ℕ
next_victim pinned lines = if is_below_limit lines then None else last_removable pinned lines

-- whether no block stands twice in a list
abbrev pub is_distinct : List ℕ → Bool
is_distinct [] = true
is_distinct (block ∷ blocks) = not (is_in blocks block) && is_distinct blocks

-- whether a block is block 0, or its parent is in a list
abbrev pub has_parent_in : List ℕ → ℕ → Bool
has_parent_in blocks block = (block == 0) || is_in blocks (parent_block block)

-- whether a cache may have these lines
abbrev pub is_cache : OrderedLines → Bool
is_cache lines = nat_le (length lines) TREE_LINES && is_distinct (blocks_of lines) && list_all (has_parent_in (blocks_of lines)) (blocks_of lines)

-- the lines as a map. No cache has other lists than those that pass the test, so the map of those is empty.
abbrev pub lines_of : OrderedLines → LineMap
lines_of lines = if is_cache lines then from_entries lines else empty
