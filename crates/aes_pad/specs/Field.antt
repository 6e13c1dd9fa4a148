-- Promise: bytes as elements of the field GF(2^8), and the S-box of AES (FIPS 197).
-- A byte is a number below 2 ^ 8 whose bit i is the coefficient of x^i. Section numbers are the standard's.
use Rattle.std.specs.Prelude.{ℕ, zero, suc, ◌*◌, ◌/◌, ◌%◌, ◌==◌, nat_lt, cond, bit_xor}
use Rattle.std.specs.Int.{w8, rotate_left}

-- the sum of two bytes (4.1)
infixl 65 ◌⊕◌
abbrev pub ◌⊕◌ : ℕ → ℕ → ℕ
b ⊕ c = bit_xor b c

-- the product of a byte and x, modulo x^8 + x^4 + x^3 + x + 1 (4.2)
abbrev pub xtimes : ℕ → ℕ
xtimes b = cond (nat_lt b 0x80) (2 * b) (2 * b ⊕ 0x11b)

-- the sum of b times x^i, over those of the n lowest bits i of c that are 1
unfoldable pub product_by_bits : ℕ → ℕ → ℕ → ℕ
product_by_bits zero b c = 0
product_by_bits (suc n) b c = b * (c % 2) ⊕ product_by_bits n (xtimes b) (c / 2)

-- the product of two bytes (4.2)
unfoldable pub product : ℕ → ℕ → ℕ
product b c = product_by_bits 8 b c

-- the byte below n whose product with b is 1, or 0 where there is none
unfoldable pub inverse_below : ℕ → ℕ → ℕ
inverse_below zero b = 0
inverse_below (suc n) b = cond (product b n == 1) n (inverse_below n b)

-- the inverse of a byte, and 0 for 0 (4.4)
abbrev pub inverse : ℕ → ℕ
inverse b = inverse_below 256 b

-- bit i of the result is the sum of the bits i, i + 4, i + 5, i + 6 and i + 7, modulo 8, of b and of bit i of 0x63 (5.1.1)
abbrev pub affine : ℕ → ℕ
affine b = b ⊕ rotate_left w8 b 4 ⊕ rotate_left w8 b 3 ⊕ rotate_left w8 b 2 ⊕ rotate_left w8 b 1 ⊕ 0x63

-- the S-box (5.1.1)
unfoldable pub sub_byte : ℕ → ℕ
sub_byte b = affine (inverse b)
