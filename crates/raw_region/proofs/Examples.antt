-- The contracts' words on worked examples.
use mathlib.Core.Path.{◌≡◌, refl}
use mathlib.Core.List.{List, [], ◌∷◌, ◌++◌}
use Prim.Native.Nat.{ℕ, ◌+◌}
use lib.ListN.{length, take, drop, replicate}
use Rattle.std.specs.Prelude.{slice_index, slice_set}

-- a block of 72 bytes with 5 in its last byte
abbrev block : List ℕ
block = slice_set (replicate 72 0) 71 5

last_byte : slice_index block 71 ≡ 5
last_byte = refl

first_byte : slice_index block 0 ≡ 0
first_byte = refl

all_bytes : length block ≡ 72
all_bytes = refl

-- a piece read from the middle of four bytes, and one written there
abbrev four : List ℕ
four = 9 ∷ 8 ∷ 7 ∷ 6 ∷ []

middle : take 2 (drop 1 four) ≡ 8 ∷ 7 ∷ []
middle = refl

abbrev piece : List ℕ
piece = 1 ∷ 2 ∷ []

middle_written : take 1 four ++ piece ++ drop (1 + 2) four ≡ 9 ∷ 1 ∷ 2 ∷ 6 ∷ []
middle_written = refl
