-- Device: blocks with the slots where their lines lie, in the order of their last use, and the slots that are free.
use Rattle.std.specs.Prelude.{◌≡◌, ℕ, zero, suc, Bool, true, false, List, [], ◌∷◌, ◌++◌, slice_index_or}
use Rattle.std.specs.List.Sorted.{IsPermutation}
use Rattle.std.specs.Map.{values_of}
use Rattle.aegis_num.specs.declared.limits.TheConstants.{TREE_LINES}
use Rattle.line_cache.specs.declared.lines.Line.{Line}
use Rattle.line_cache.specs.LineOrder.{OrderedLines, blocks_of, is_distinct}

pub record SlotLists : Type 0 where
  pub held : List (ℕ × ℕ)
  pub free : List ℕ

-- the first so many slots
abbrev pub slots_below : ℕ → List ℕ
slots_below zero = []
slots_below (suc n) = slots_below n ++ n ∷ []

-- no block stands twice, and each slot is one block's or free
pub record AreApart (lists : SlotLists) : Type 0 where
  pub blocks : is_distinct (blocks_of lists.held) ≡ true
  pub slots : IsPermutation (slots_below TREE_LINES) (values_of lists.held ++ lists.free)

-- the line of a slot
abbrev pub line_at : List (List ℕ) → List Bool → ℕ → Line
line_at payloads marks slot = record { payload = slice_index_or payloads slot []; dirty = slice_index_or marks slot false }

-- the lines of blocks that lie in slots
abbrev pub lines_at : List (List ℕ) → List Bool → List (ℕ × ℕ) → OrderedLines
lines_at payloads marks [] = []
lines_at payloads marks (held ∷ others) = (held.0, line_at payloads marks held.1) ∷ lines_at payloads marks others
