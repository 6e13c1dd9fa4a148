-- The tables, checked entry by entry.
use Rattle.std.proofs.Common.{◌≡◌, ℕ, zero, suc, ◌<◌, Bool, true, ◌&&◌, eqb, List, [], ◌∷◌, slice_index, refl, subst, inl, inr, eqb-true, arith}
use Rattle.std.specs.Int.{w32, to_be_bytes, rotate_right}
use Rattle.std.specs.Str.{bytes_eq}
use Rattle.std.proofs.lemmas.Bool.{cases_lt, and_parts}
use Rattle.std.proofs.lemmas.Slice.Eq.{bytes_eq-Decides}
use Rattle.aes_pad.specs.declared.tables.TheConstants.{SUBSTITUTES, MIXED, ROUND_CONSTANTS}
use Rattle.aes_pad.specs.Field.{product_by_bits, product, inverse_below, sub_byte}
use Rattle.aes_pad.specs.Cipher.{power_of_x}

abbrev passes_below : (ℕ → Bool) → ℕ → Bool
passes_below test zero = true
passes_below test (suc n) = test n && passes_below test n

passes : (test : ℕ → Bool) (n k : ℕ) → passes_below test n ≡ true → k < n → test k ≡ true
passes test zero k all less = absurd (omega arith)
passes test (suc n) k all less =
    let parts = and_parts (test n) (passes_below test n) all in
    elim (cases_lt k n) [
      | inl below ↦ passes test n k parts.1 below
      | inr past ↦ let e : n ≡ k = omega arith in subst (λ (j : ℕ). test j ≡ true) e parts.0
    ]

-- ---- the S-box

abbrev is_substitute : ℕ → Bool
is_substitute b = eqb (slice_index SUBSTITUTES b) (sub_byte b)

substitutes_checked : passes_below is_substitute 256 ≡ true
unfolding product_by_bits product inverse_below sub_byte
substitutes_checked = refl

pub substitute : (b : ℕ) → b < 256 → slice_index SUBSTITUTES b ≡ sub_byte b
substitute b below = eqb-true (slice_index SUBSTITUTES b) (sub_byte b) (passes is_substitute 256 b substitutes_checked below)

-- ---- what a substitute adds to its column, by its row

abbrev pub row_0 : ℕ → List ℕ
row_0 s = product 2 s ∷ s ∷ s ∷ product 3 s ∷ []

abbrev pub row_1 : ℕ → List ℕ
row_1 s = product 3 s ∷ product 2 s ∷ s ∷ s ∷ []

abbrev pub row_2 : ℕ → List ℕ
row_2 s = s ∷ product 3 s ∷ product 2 s ∷ s ∷ []

abbrev pub row_3 : ℕ → List ℕ
row_3 s = s ∷ s ∷ product 3 s ∷ product 2 s ∷ []

abbrev turned : ℕ → ℕ → List ℕ
turned b by = to_be_bytes w32 (rotate_right w32 (slice_index MIXED b) by)

abbrev is_row_0 : ℕ → Bool
is_row_0 b = bytes_eq (to_be_bytes w32 (slice_index MIXED b)) (row_0 (slice_index SUBSTITUTES b))

abbrev is_row_1 : ℕ → Bool
is_row_1 b = bytes_eq (turned b 8) (row_1 (slice_index SUBSTITUTES b))

abbrev is_row_2 : ℕ → Bool
is_row_2 b = bytes_eq (turned b 16) (row_2 (slice_index SUBSTITUTES b))

abbrev is_row_3 : ℕ → Bool
is_row_3 b = bytes_eq (turned b 24) (row_3 (slice_index SUBSTITUTES b))

row_0_checked : passes_below is_row_0 256 ≡ true
unfolding product_by_bits product
row_0_checked = refl

row_1_checked : passes_below is_row_1 256 ≡ true
unfolding product_by_bits product
row_1_checked = refl

row_2_checked : passes_below is_row_2 256 ≡ true
unfolding product_by_bits product
row_2_checked = refl

row_3_checked : passes_below is_row_3 256 ≡ true
unfolding product_by_bits product
row_3_checked = refl

of_substitute : (bytes : List ℕ) (row : ℕ → List ℕ) (b : ℕ) → b < 256 → bytes_eq bytes (row (slice_index SUBSTITUTES b)) ≡ true → bytes ≡ row (sub_byte b)
of_substitute bytes row b below same =
    subst (λ (s : ℕ). bytes ≡ row s) (substitute b below) ((bytes_eq-Decides bytes (row (slice_index SUBSTITUTES b))).0 same)

pub mixed_row_0 : (b : ℕ) → b < 256 → to_be_bytes w32 (slice_index MIXED b) ≡ row_0 (sub_byte b)
mixed_row_0 b below = of_substitute (to_be_bytes w32 (slice_index MIXED b)) row_0 b below (passes is_row_0 256 b row_0_checked below)

pub mixed_row_1 : (b : ℕ) → b < 256 → to_be_bytes w32 (rotate_right w32 (slice_index MIXED b) 8) ≡ row_1 (sub_byte b)
mixed_row_1 b below = of_substitute (turned b 8) row_1 b below (passes is_row_1 256 b row_1_checked below)

pub mixed_row_2 : (b : ℕ) → b < 256 → to_be_bytes w32 (rotate_right w32 (slice_index MIXED b) 16) ≡ row_2 (sub_byte b)
mixed_row_2 b below = of_substitute (turned b 16) row_2 b below (passes is_row_2 256 b row_2_checked below)

pub mixed_row_3 : (b : ℕ) → b < 256 → to_be_bytes w32 (rotate_right w32 (slice_index MIXED b) 24) ≡ row_3 (sub_byte b)
mixed_row_3 b below = of_substitute (turned b 24) row_3 b below (passes is_row_3 256 b row_3_checked below)

-- ---- the round constants

abbrev is_constant : ℕ → Bool
is_constant n = eqb (slice_index ROUND_CONSTANTS n) (power_of_x n)

constants_checked : passes_below is_constant 10 ≡ true
constants_checked = refl

pub round_constant : (n : ℕ) → n < 10 → slice_index ROUND_CONSTANTS n ≡ power_of_x n
round_constant n below = eqb-true (slice_index ROUND_CONSTANTS n) (power_of_x n) (passes is_constant 10 n constants_checked below)
