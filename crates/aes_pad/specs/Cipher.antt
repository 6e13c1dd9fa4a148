-- Promise: AES-128 as a function on lists of bytes (FIPS 197). Section numbers are the standard's.
-- A state is a list of 16 bytes, column by column, and so is a round key, a word being a column.
use Rattle.std.specs.Prelude.{ℕ, zero, suc, ◌+◌, ◌*◌, ◌%◌, List, [], ◌∷◌, ◌++◌, map, slice_index}
use Rattle.aes_pad.specs.Field.{◌⊕◌, xtimes, product, sub_byte}

-- the sum of two lists of bytes, place by place
abbrev pub xor_bytes : List ℕ → List ℕ → List ℕ
xor_bytes [] others = []
xor_bytes (b ∷ bytes) [] = []
xor_bytes (b ∷ bytes) (c ∷ others) = (b ⊕ c) ∷ xor_bytes bytes others

-- the byte in row r and column c (3.4)
abbrev pub cell : List ℕ → ℕ → ℕ → ℕ
cell state r c = slice_index state (r + 4 * c)

-- the four bytes of a column, or word (3.5)
abbrev pub column : (ℕ → ℕ → ℕ) → ℕ → List ℕ
column cells c = cells 0 c ∷ cells 1 c ∷ cells 2 c ∷ cells 3 c ∷ []

-- SubBytes (5.1.1)
abbrev pub sub_bytes : List ℕ → List ℕ
sub_bytes state = map sub_byte state

-- ShiftRows: row r goes to the left by r columns (5.1.2)
abbrev pub shifted_cell : List ℕ → ℕ → ℕ → ℕ
shifted_cell state r c = cell state r ((c + r) % 4)

abbrev pub shift_rows : List ℕ → List ℕ
shift_rows state = column (shifted_cell state) 0 ++ column (shifted_cell state) 1 ++ column (shifted_cell state) 2 ++ column (shifted_cell state) 3

-- a column of these four bytes, mixed (5.1.3)
abbrev pub mixed : ℕ → ℕ → ℕ → ℕ → List ℕ
mixed a b c d =
    (product 2 a ⊕ product 3 b ⊕ c ⊕ d)
    ∷ (a ⊕ product 2 b ⊕ product 3 c ⊕ d)
    ∷ (a ⊕ b ⊕ product 2 c ⊕ product 3 d)
    ∷ (product 3 a ⊕ b ⊕ c ⊕ product 2 d)
    ∷ []

-- column c of a state, mixed
abbrev pub mixed_column : List ℕ → ℕ → List ℕ
mixed_column state c = mixed (cell state 0 c) (cell state 1 c) (cell state 2 c) (cell state 3 c)

-- MixColumns (5.1.3)
abbrev pub mix_columns : List ℕ → List ℕ
mix_columns state = mixed_column state 0 ++ mixed_column state 1 ++ mixed_column state 2 ++ mixed_column state 3

-- AddRoundKey (5.1.4)
abbrev pub add_round_key : List ℕ → List ℕ → List ℕ
add_round_key state key = xor_bytes state key

-- RotWord (5.2)
abbrev pub rot_word : List ℕ → List ℕ
rot_word word = slice_index word 1 ∷ slice_index word 2 ∷ slice_index word 3 ∷ slice_index word 0 ∷ []

-- x to the power n, which is the first byte of Rcon[n + 1]; its other bytes are 0 (5.2)
abbrev pub power_of_x : ℕ → ℕ
power_of_x zero = 1
power_of_x (suc n) = xtimes (power_of_x n)

-- KeyExpansion: the next four words, where the first takes the constant (5.2)
unfoldable pub next_key : List ℕ → ℕ → List ℕ
next_key key constant =
    let first = xor_bytes (column (cell key) 0) (xor_bytes (sub_bytes (rot_word (column (cell key) 3))) (constant ∷ 0 ∷ 0 ∷ 0 ∷ [])) in
    let second = xor_bytes (column (cell key) 1) first in
    let third = xor_bytes (column (cell key) 2) second in
    first ++ second ++ third ++ xor_bytes (column (cell key) 3) third

-- round key n, which is the words 4n to 4n + 3 of KeyExpansion (5.2)
unfoldable pub round_key : List ℕ → ℕ → List ℕ
round_key key zero = key
round_key key (suc n) = next_key (round_key key n) (power_of_x n)

-- a round (5.1)
unfoldable pub next_state : List ℕ → List ℕ → List ℕ
next_state state key = add_round_key (mix_columns (shift_rows (sub_bytes state))) key

-- the last round, which does not mix columns (5.1)
unfoldable pub last_state : List ℕ → List ℕ → List ℕ
last_state state key = add_round_key (shift_rows (sub_bytes state)) key

-- the state after the first AddRoundKey and n rounds (5.1)
unfoldable pub state_after : List ℕ → List ℕ → ℕ → List ℕ
state_after key block zero = add_round_key block (round_key key 0)
state_after key block (suc n) = next_state (state_after key block n) (round_key key (suc n))

-- Cipher: ten rounds under a key of 16 bytes (5.1)
unfoldable pub cipher : List ℕ → List ℕ → List ℕ
cipher key block = last_state (state_after key block 9) (round_key key 10)
