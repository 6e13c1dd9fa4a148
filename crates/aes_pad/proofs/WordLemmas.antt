-- Words as bytes: their sums, and how they are put together and taken apart.
use Rattle.std.proofs.Common.{◌≡◌, ℕ, zero, suc, ◌+◌, ◌/◌, ◌%◌, ◌^◌, ◌<◌, List, [], ◌∷◌, ◌++◌, length, drop, slice_index, refl, sym, ap, ap₂, ◌∙◌, drop-cons, drop_of_length-le, arith}
use Rattle.std.specs.Int.{w32, to_be_bytes, from_be_bytes}
use Rattle.std.specs.Int.Bits.{xor_assoc, xor_self, xor_zero_r}
use Rattle.std.proofs.lemmas.Nat.{xor_shr, xor_mod, be_bytes_4}
use Rattle.std.proofs.lemmas.Grind.{same_number_lists}
use Rattle.aes_pad.specs.Field.{◌⊕◌}
use Rattle.aes_pad.specs.Cipher.{xor_bytes}
use Rattle.aes_pad.specs.KeptKeys.{bytes_of}

-- ---- parts that are equal

pub four_bytes : (a b c d p q r s : ℕ) → a ≡ p → b ≡ q → c ≡ r → d ≡ s → a ∷ b ∷ c ∷ d ∷ [] ≡ p ∷ q ∷ r ∷ s ∷ []
four_bytes a b c d p q r s ea eb ec ed = rw (ea, eb, ec, ed) refl

pub four_parts : (a b c d p q r s : List ℕ) → a ≡ p → b ≡ q → c ≡ r → d ≡ s → a ++ b ++ c ++ d ≡ p ++ q ++ r ++ s
four_parts a b c d p q r s ea eb ec ed = rw (ea, eb, ec, ed) refl

pub four_sums : (a b c d p q r s : List ℕ) → a ≡ p → b ≡ q → c ≡ r → d ≡ s
    → xor_bytes (xor_bytes (xor_bytes a b) c) d ≡ xor_bytes (xor_bytes (xor_bytes p q) r) s
four_sums a b c d p q r s ea eb ec ed = rw (ea, eb, ec, ed) refl

-- ---- sums

byte_of_sum : (x y k : ℕ) → (x ⊕ y) / 2 ^ k % 2 ^ 8 ≡ (x / 2 ^ k % 2 ^ 8) ⊕ (y / 2 ^ k % 2 ^ 8)
byte_of_sum x y k = ap (λ (n : ℕ). n % 2 ^ 8) (xor_shr x y k) ∙ xor_mod (x / 2 ^ k) (y / 2 ^ k) 8

-- the bytes of a sum are the sums of the bytes
pub word-xor : (x y : ℕ) → to_be_bytes w32 (x ⊕ y) ≡ xor_bytes (to_be_bytes w32 x) (to_be_bytes w32 y)
word-xor x y = four_bytes _ _ _ _ _ _ _ _ (byte_of_sum x y 24) (byte_of_sum x y 16) (byte_of_sum x y 8) (xor_mod x y 8)

pub words-xor : (words others : List ℕ)
    → bytes_of ((slice_index words 0 ⊕ slice_index others 0) ∷ (slice_index words 1 ⊕ slice_index others 1) ∷ (slice_index words 2 ⊕ slice_index others 2) ∷ (slice_index words 3 ⊕ slice_index others 3) ∷ [])
    ≡ xor_bytes (bytes_of words) (bytes_of others)
unfolding bytes_of
words-xor words others =
    four_parts _ _ _ _ _ _ _ _ (word-xor (slice_index words 0) (slice_index others 0)) (word-xor (slice_index words 1) (slice_index others 1))
    (word-xor (slice_index words 2) (slice_index others 2)) (word-xor (slice_index words 3) (slice_index others 3))

-- ---- words from bytes, and bytes from words

each_fits : (a b c d : ℕ) → a < 256 → b < 256 → c < 256 → d < 256 → (i : ℕ) → slice_index (a ∷ b ∷ c ∷ d ∷ []) i < 256
each_fits a b c d ha hb hc hd zero = ha
each_fits a b c d ha hb hc hd (suc zero) = hb
each_fits a b c d ha hb hc hd (suc (suc zero)) = hc
each_fits a b c d ha hb hc hd (suc (suc (suc zero))) = hd
each_fits a b c d ha hb hc hd (suc (suc (suc (suc i)))) = omega arith

pub word_from : (a b c d n : ℕ) → a < 256 → b < 256 → c < 256 → d < 256 → n ≡ from_be_bytes w32 (a ∷ b ∷ c ∷ d ∷ []) → to_be_bytes w32 n ≡ a ∷ b ∷ c ∷ d ∷ []
word_from a b c d n ha hb hc hd is = be_bytes_4 (a ∷ b ∷ c ∷ d ∷ []) n refl (each_fits a b c d ha hb hc hd) is

-- n bytes from place i on
abbrev listing : List ℕ → ℕ → ℕ → List ℕ
listing bytes i zero = []
listing bytes i (suc n) = slice_index bytes i ∷ listing bytes (suc i) n

listed : (n i : ℕ) (bytes : List ℕ) → length bytes ≡ i + n → listing bytes i n ≡ drop i bytes
listed zero i bytes long = sym (drop_of_length-le bytes (omega (arith, long)))
listed (suc n) i bytes long =
    ap (λ (rest : List ℕ). slice_index bytes i ∷ rest) (listed n (suc i) bytes (omega (arith, long))) ∙ sym (drop-cons bytes i 0 (omega (arith, long)))

pub words_from : (block : List ℕ) (w0 w1 w2 w3 : ℕ) → length block ≡ 16
    → to_be_bytes w32 w0 ≡ slice_index block 0 ∷ slice_index block 1 ∷ slice_index block 2 ∷ slice_index block 3 ∷ []
    → to_be_bytes w32 w1 ≡ slice_index block 4 ∷ slice_index block 5 ∷ slice_index block 6 ∷ slice_index block 7 ∷ []
    → to_be_bytes w32 w2 ≡ slice_index block 8 ∷ slice_index block 9 ∷ slice_index block 10 ∷ slice_index block 11 ∷ []
    → to_be_bytes w32 w3 ≡ slice_index block 12 ∷ slice_index block 13 ∷ slice_index block 14 ∷ slice_index block 15 ∷ []
    → bytes_of (w0 ∷ w1 ∷ w2 ∷ w3 ∷ []) ≡ block
unfolding bytes_of
words_from block w0 w1 w2 w3 long e0 e1 e2 e3 =
    four_parts (to_be_bytes w32 w0) (to_be_bytes w32 w1) (to_be_bytes w32 w2) (to_be_bytes w32 w3) _ _ _ _ e0 e1 e2 e3 ∙ listed 16 0 block long

pub bytes_from : (words a b c d : List ℕ)
    → a ≡ to_be_bytes w32 (slice_index words 0) → b ≡ to_be_bytes w32 (slice_index words 1) → c ≡ to_be_bytes w32 (slice_index words 2) → d ≡ to_be_bytes w32 (slice_index words 3)
    → slice_index a 0 ∷ slice_index a 1 ∷ slice_index a 2 ∷ slice_index a 3 ∷ slice_index b 0 ∷ slice_index b 1 ∷ slice_index b 2 ∷ slice_index b 3
    ∷ slice_index c 0 ∷ slice_index c 1 ∷ slice_index c 2 ∷ slice_index c 3 ∷ slice_index d 0 ∷ slice_index d 1 ∷ slice_index d 2 ∷ slice_index d 3 ∷ []
    ≡ bytes_of words
unfolding bytes_of
bytes_from words a b c d ea eb ec ed = rw (ea, eb, ec, ed) refl

-- ---- lists of bytes

length-xor_bytes : (bytes others : List ℕ) → length bytes ≡ length others → length (xor_bytes bytes others) ≡ length bytes
length-xor_bytes [] others long = refl
length-xor_bytes (b ∷ bytes) [] long = absurd (omega (arith, long))
length-xor_bytes (b ∷ bytes) (c ∷ others) long = omega (arith, length-xor_bytes bytes others (omega (arith, long)))

slice_index-xor_bytes : (bytes others : List ℕ) (k : ℕ) → length bytes ≡ length others → slice_index (xor_bytes bytes others) k ≡ slice_index bytes k ⊕ slice_index others k
slice_index-xor_bytes [] [] k long = refl
slice_index-xor_bytes [] (c ∷ others) k long = absurd (omega (arith, long))
slice_index-xor_bytes (b ∷ bytes) [] k long = absurd (omega (arith, long))
slice_index-xor_bytes (b ∷ bytes) (c ∷ others) zero long = refl
slice_index-xor_bytes (b ∷ bytes) (c ∷ others) (suc k) long = slice_index-xor_bytes bytes others k (omega (arith, long))

-- a list that has the sum at each place
pub xor_bytes_from : (bytes others sum : List ℕ) (n : ℕ) → length bytes ≡ n → length others ≡ n → length sum ≡ n
    → ((k : ℕ) → k < n → slice_index sum k ≡ slice_index bytes k ⊕ slice_index others k) → sum ≡ xor_bytes bytes others
xor_bytes_from bytes others sum n long long_others long_sum each =
    let same : length bytes ≡ length others = long ∙ sym long_others in
    same_number_lists sum (xor_bytes bytes others) (long_sum ∙ sym long ∙ sym (length-xor_bytes bytes others same))
    (λ k below. each k (omega (arith, below, long_sum)) ∙ sym (slice_index-xor_bytes bytes others k same))

-- what is added twice is gone
pub xor_bytes_twice : (bytes others : List ℕ) → length bytes ≡ length others → xor_bytes (xor_bytes bytes others) others ≡ bytes
xor_bytes_twice [] others long = refl
xor_bytes_twice (b ∷ bytes) [] long = absurd (omega (arith, long))
xor_bytes_twice (b ∷ bytes) (c ∷ others) long =
    ap₂ (λ (x : ℕ) (xs : List ℕ). x ∷ xs) (xor_assoc b c c ∙ ap (λ (n : ℕ). b ⊕ n) (xor_self c) ∙ xor_zero_r b)
    (xor_bytes_twice bytes others (omega (arith, long)))
