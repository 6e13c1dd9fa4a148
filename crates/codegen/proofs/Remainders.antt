-- A remainder is what a quotient, a product and a difference leave.
use Rattle.std.proofs.Common.{◌≡◌, ℕ, zero, suc, ◌+◌, ◌-◌, ◌*◌, ◌/◌, ◌%◌, ◌^◌, ◌<◌, ◌≤◌, false, ◌==◌, arith, refl, sym, ◌∙◌, ap}
use Rattle.std.proofs.lemmas.Bool.{eq-eqb, true≢false}
use Rattle.std.proofs.lemmas.Bool.Decides.{nat_tests}
use Rattle.std.proofs.Math.Nat.{div-le_self}
use Rattle.std.proofs.lemmas.Int.{ints, of_z-to_z, int_rem_euclid_is, int_wrap_fits, wrapping_sub-bits, wrapping_mul-bits, int_wrap-sub_right, int_wrap-mul_left, quot-rem, rem_below, fits_signed_from_abs}
use Rattle.std.specs.Prelude.{ℤ, pos, negsuc, neg_ℤ, ◌+ℤ◌, ◌-ℤ◌, ◌*ℤ◌, unsigned_abs}
use Rattle.std.specs.Int.{w32, int_wrap, int_rem_euclid}
use Rattle.std.specs.Int.RustNames.{int_div, int_rem}
use Rattle.aegis_num.specs.declared.BinaryOp.TheVariants as on
use Rattle.aegis_num.specs.Operators.{binary, wrapped, int_of, word_of_int}

positive : (y : ℕ) → (y == 0) ≡ false → 0 < y
positive zero e = absurd (true≢false (sym (eq-eqb 0 0 refl) ∙ e))
positive (suc y) e = omega arith

left-over : (x p rest : ℕ) → p + rest ≡ x → x < 2 ^ 32 → wrapped (x + (2 ^ 32 - wrapped p)) ≡ rest
left-over x p rest e small = omega arith

pub remainder : (x y : ℕ) → x < 2 ^ 32 → y < 2 ^ 32 → (y == 0) ≡ false → wrapped (x + (2 ^ 32 - wrapped (x / y * y))) ≡ x % y
remainder x y small small' nonzero = let above : 0 < y = positive y nonzero in left-over x (x / y * y) (x % y) (omega arith) small

-- ---- numbers with a sign

abbrev IsWithin : ℤ → Type 0
IsWithin (pos n) = n < 2 ^ 32
IsWithin (negsuc n) = n < 2 ^ 32

abbrev IsHalf : ℤ → Type 0
IsHalf (pos n) = n < 2 ^ 31
IsHalf (negsuc n) = n < 2 ^ 31

half-of : (number : ℤ) (word : ℕ) → number ≡ int_of word → word < 2 ^ 32 → IsHalf number
half-of (pos n) word is fits = grind (arith, is)
half-of (negsuc n) word is fits = grind (arith, is)

negated : (n : ℕ) → n ≤ 2 ^ 31 → IsWithin (neg_ℤ (pos n))
negated zero few = omega arith
negated (suc n) few = omega arith

divided : (number by : ℤ) → IsHalf number → IsWithin (int_div number by)
divided (pos n) (pos d) fits = let few : n / d ≤ n = div-le_self n d in omega arith
divided (pos n) (negsuc d) fits = let few : n / suc d ≤ n = div-le_self n (suc d) in negated (n / suc d) (omega arith)
divided (negsuc n) (pos d) fits = let few : suc n / d ≤ suc n = div-le_self (suc n) d in negated (suc n / d) (omega arith)
divided (negsuc n) (negsuc d) fits = let few : suc n / suc d ≤ suc n = div-le_self (suc n) (suc d) in omega arith

word-small : (z : ℤ) → IsWithin z → word_of_int z < 2 ^ 32
word-small (pos n) within = within
word-small (negsuc n) within = omega arith

-- what a word is read as, of a number that may be too large by one half
wraps : (z : ℤ) → IsWithin z → int_of (word_of_int z) ≡ int_wrap w32 z
unfolding int_wrap
wraps (pos n) within =
    let e : int_rem_euclid (pos n) (pos (2 ^ 32)) ≡ pos (n % 2 ^ 32) = int_rem_euclid_is (pos n) (pos (2 ^ 32)) (2 ^ 32) 0 n (omega arith) refl (omega (arith, ints)) in
    let same : n ≡ n % 2 ^ 32 = omega arith in
    ap (λ (m : ℕ). int_of m) same ∙ sym (ap (λ (y : ℤ). int_of (unsigned_abs y)) e)
wraps (negsuc n) within =
    let e : int_rem_euclid (negsuc n) (pos (2 ^ 32)) ≡ pos ((2 ^ 32 - suc n) % 2 ^ 32) = int_rem_euclid_is (negsuc n) (pos (2 ^ 32)) (2 ^ 32) 1 (2 ^ 32 - suc n) (omega arith) refl (omega (arith, ints)) in
    let same : 2 ^ 32 - suc n ≡ (2 ^ 32 - suc n) % 2 ^ 32 = omega arith in
    ap (λ (m : ℕ). int_of m) same ∙ sym (ap (λ (y : ℤ). int_of (unsigned_abs y)) e)

difference : (p q r : ℤ) → q +ℤ r ≡ p → p -ℤ q ≡ r
difference p q r e = omega (arith, ints)

size-of : (y : ℕ) → y < 2 ^ 32 → 0 < y → (0 < unsigned_abs (int_of y)) × (unsigned_abs (int_of y) ≤ 2 ^ 31)
size-of y small above = (grind (arith, nat_tests), grind (arith, nat_tests))

pub signed-remainder : (x y : ℕ) → x < 2 ^ 32 → y < 2 ^ 32 → (y == 0) ≡ false → wrapped (x + (2 ^ 32 - wrapped (binary on.DivS x y * y))) ≡ binary on.RemS x y
signed-remainder x y small small' nonzero =
    let a : ℤ = int_of x in
    let d : ℤ = int_of y in
    let q : ℤ = int_div a d in
    let within : IsWithin q = divided a d (half-of a x refl small) in
    let p : ℕ = wrapped (word_of_int q * y) in
    let product : int_of p ≡ int_wrap w32 (int_of (word_of_int q) *ℤ d) = wrapping_mul-bits w32 (word_of_int q) y (word-small q within) small' in
    let exact : int_of p ≡ int_wrap w32 (q *ℤ d) = product ∙ ap (λ (z : ℤ). int_wrap w32 (z *ℤ d)) (wraps q within) ∙ int_wrap-mul_left w32 q d in
    let sizes : (0 < unsigned_abs d) × (unsigned_abs d ≤ 2 ^ 31) = size-of y small' (positive y nonzero) in
    let below : unsigned_abs (int_rem a d) < unsigned_abs d = rem_below a d sizes.0 in
    let whole : int_of (wrapped (x + (2 ^ 32 - p))) ≡ int_rem a d =
    wrapping_sub-bits w32 x p small (omega arith)
    ∙ ap (λ (z : ℤ). int_wrap w32 (a -ℤ z)) exact ∙ int_wrap-sub_right w32 a (q *ℤ d)
    ∙ ap (λ (z : ℤ). int_wrap w32 z) (difference a (q *ℤ d) (int_rem a d) (quot-rem a d))
    ∙ int_wrap_fits w32 (int_rem a d) (fits_signed_from_abs w32 (int_rem a d) (omega (arith, below, sizes.1))) in
    sym (of_z-to_z w32 (wrapped (x + (2 ^ 32 - p))) (omega arith)) ∙ ap word_of_int whole
