-- Promise: the line and the column of a place of a text, counted from 1, and the lines that show it.
-- A place is a number of bytes before it: that of a byte, or that of the end.
use Rattle.std.specs.Prelude.{ℕ, ◌+◌, ◌==◌, Bool, if◌then◌else◌, List, ◌++◌, length, take, drop, map, count_by, codes, decimal}
use Rattle.std.specs.List.{after_last, before_first}

-- a byte that ends its line
abbrev pub is_feed : ℕ → Bool
is_feed byte = byte == 10

-- the line of a place: one more than the line feeds before it
abbrev pub line_of : List ℕ → ℕ → ℕ
line_of text place = count_by is_feed (take place text) + 1

-- what stands in its line before it: all bytes since the line feed before it, or since the start
abbrev pub front_of : List ℕ → ℕ → List ℕ
front_of text place = after_last is_feed (take place text)

-- and what stands in its line from it on
abbrev pub back_of : List ℕ → ℕ → List ℕ
back_of text place = before_first is_feed (drop place text)

-- its column: one more than the bytes before it in its line
abbrev pub column_of : List ℕ → ℕ → ℕ
column_of text place = length (front_of text place) + 1

-- what is written below a byte, so that what comes after it stands in one column with what comes after the byte
abbrev pub below : ℕ → ℕ
below byte = if byte == 9 then 9 else 32

-- the line that tells a line and a column by their numbers
abbrev pub head_line : ℕ → ℕ → List ℕ
head_line line column = codes "line " ++ decimal line ++ codes ", column " ++ decimal column ++ codes "\n"

-- a line of two parts, and a caret below the start of the second one
abbrev pub caret_lines : List ℕ → List ℕ → List ℕ
caret_lines front back = front ++ back ++ codes "\n" ++ map below front ++ codes "^\n"

-- the lines that show a place
abbrev pub shown : List ℕ → ℕ → List ℕ
shown text place = head_line (line_of text place) (column_of text place) ++ caret_lines (front_of text place) (back_of text place)
