-- The words of a payload, read and written.
use Rattle.std.proofs.Common.{◌≡◌, ℕ, zero, suc, ◌+◌, ◌*◌, ◌/◌, ◌%◌, ◌^◌, ◌<◌, ◌≤◌, List, [], ◌∷◌, ◌++◌, length, refl, sym, ap, ◌∙◌, arith}
use Rattle.std.specs.Prelude.{slice_index, slice_set, take, drop}
use Rattle.std.specs.Int.{w32, to_be_bytes, from_be_bytes}
use Rattle.orbis_core.specs.ByteOrder.{with_byte, word_of_bytes, words_in}
use Rattle.off_chip.specs.OffChipBytes.{bytes_put}

-- word number k has the bytes from 4 * k on
word-from : (bytes : List ℕ) (at k : ℕ) → at ≡ 4 * k → at + 4 ≤ length bytes
    → slice_index (words_in bytes) k
    ≡ word_of_bytes (slice_index bytes at) (slice_index bytes (suc at)) (slice_index bytes (suc (suc at))) (slice_index bytes (suc (suc (suc at))))
word-from (a ∷ b ∷ c ∷ d ∷ bytes) zero k place within = let e : k ≡ 0 = omega (arith, place) in rw e refl
word-from (a ∷ b ∷ c ∷ d ∷ bytes) (suc (suc (suc (suc at)))) zero place within = absurd (omega (arith, place))
word-from (a ∷ b ∷ c ∷ d ∷ bytes) (suc (suc (suc (suc at)))) (suc k) place within = word-from bytes at k (omega (arith, place)) (omega (arith, within))
word-from (a ∷ b ∷ c ∷ d ∷ bytes) (suc zero) k place within = absurd (omega (arith, place))
word-from (a ∷ b ∷ c ∷ d ∷ bytes) (suc (suc zero)) k place within = absurd (omega (arith, place))
word-from (a ∷ b ∷ c ∷ d ∷ bytes) (suc (suc (suc zero))) k place within = absurd (omega (arith, place))
word-from [] at k place within = absurd (omega (arith, within))
word-from (a ∷ []) at k place within = absurd (omega (arith, within))
word-from (a ∷ b ∷ []) at k place within = absurd (omega (arith, within))
word-from (a ∷ b ∷ c ∷ []) at k place within = absurd (omega (arith, within))

pub word-bytes : (bytes : List ℕ) (at k second third fourth : ℕ) → at ≡ 4 * k → at + 4 ≤ length bytes → second ≡ at + 1 → third ≡ at + 2 → fourth ≡ at + 3
    → slice_index (words_in bytes) k ≡ word_of_bytes (slice_index bytes at) (slice_index bytes second) (slice_index bytes third) (slice_index bytes fourth)
word-bytes bytes at k second third fourth place within e f g =
    let two : second ≡ suc at = omega (arith, e) in
    let three : third ≡ suc (suc at) = omega (arith, f) in
    let four : fourth ≡ suc (suc (suc at)) = omega (arith, g) in
    rw (two, three, four) (word-from bytes at k place within)

word-word : (n : ℕ) → n < 2 ^ 32 → word_of_bytes (n / 16777216 % 256) (n / 65536 % 256) (n / 256 % 256) (n % 256) ≡ n
word-word n fits = omega arith

put-from : (bytes : List ℕ) (at k word after : ℕ) → word < 2 ^ 32 → at ≡ 4 * k → after ≡ at + 4 → after ≤ length bytes
    → words_in (take at bytes ++ (to_be_bytes w32 word ++ drop after bytes)) ≡ slice_set (words_in bytes) k word
put-from (a ∷ b ∷ c ∷ d ∷ bytes) zero k word (suc (suc (suc (suc after)))) fits place next within =
    let e : k ≡ 0 = omega (arith, place) in let f : after ≡ 0 = omega (arith, next) in rw (e, f) (ap (λ n. n ∷ words_in bytes) (word-word word fits))
put-from (a ∷ b ∷ c ∷ d ∷ bytes) (suc (suc (suc (suc at)))) zero word after fits place next within = absurd (omega (arith, place))
put-from (a ∷ b ∷ c ∷ d ∷ bytes) (suc (suc (suc (suc at)))) (suc k) word (suc (suc (suc (suc after)))) fits place next within =
    ap (λ ws. word_of_bytes a b c d ∷ ws) (put-from bytes at k word after fits (omega (arith, place)) (omega (arith, next)) (omega (arith, within)))
put-from (a ∷ b ∷ c ∷ d ∷ bytes) at k word zero fits place next within = absurd (omega (arith, next))
put-from (a ∷ b ∷ c ∷ d ∷ bytes) at k word (suc zero) fits place next within = absurd (omega (arith, next))
put-from (a ∷ b ∷ c ∷ d ∷ bytes) at k word (suc (suc zero)) fits place next within = absurd (omega (arith, next))
put-from (a ∷ b ∷ c ∷ d ∷ bytes) at k word (suc (suc (suc zero))) fits place next within = absurd (omega (arith, next))
put-from (a ∷ b ∷ c ∷ d ∷ bytes) (suc zero) k word after fits place next within = absurd (omega (arith, place))
put-from (a ∷ b ∷ c ∷ d ∷ bytes) (suc (suc zero)) k word after fits place next within = absurd (omega (arith, place))
put-from (a ∷ b ∷ c ∷ d ∷ bytes) (suc (suc (suc zero))) k word after fits place next within = absurd (omega (arith, place))
put-from [] at k word after fits place next within = absurd (omega (arith, next, within))
put-from (a ∷ []) at k word after fits place next within = absurd (omega (arith, next, within))
put-from (a ∷ b ∷ []) at k word after fits place next within = absurd (omega (arith, next, within))
put-from (a ∷ b ∷ c ∷ []) at k word after fits place next within = absurd (omega (arith, next, within))

-- a word that is put there becomes word number k
pub words-put : (bytes : List ℕ) (at k word : ℕ) → word < 2 ^ 32 → at ≡ 4 * k → at + 4 ≤ length bytes
    → words_in (bytes_put at (to_be_bytes w32 word) bytes) ≡ slice_set (words_in bytes) k word
words-put bytes at k word fits place within = put-from bytes at k word (at + 4) fits place refl within

-- a byte of a word, and a word with another byte
word-four : (a b c d : ℕ) → a < 2 ^ 8 → b < 2 ^ 8 → c < 2 ^ 8 → d < 2 ^ 8 → to_be_bytes w32 (word_of_bytes a b c d) ≡ a ∷ b ∷ c ∷ d ∷ []
word-four a b c d small_a small_b small_c small_d =
    let first : word_of_bytes a b c d / 16777216 % 256 ≡ a = omega arith in
    let second : word_of_bytes a b c d / 65536 % 256 ≡ b = omega arith in
    let third : word_of_bytes a b c d / 256 % 256 ≡ c = omega arith in
    let fourth : word_of_bytes a b c d % 256 ≡ d = omega arith in cc

set_byte-from : (bytes : List ℕ) (at k j byte : ℕ) → ((i : ℕ) → slice_index bytes i < 2 ^ 8) → byte < 2 ^ 8 → at ≡ 4 * k + j → 4 * k + 4 ≤ length bytes → j < 4
    → words_in (slice_set bytes at byte) ≡ slice_set (words_in bytes) k (from_be_bytes w32 (slice_set (to_be_bytes w32 (slice_index (words_in bytes) k)) j byte))
set_byte-from (a ∷ b ∷ c ∷ d ∷ bytes) at zero j byte small fits place within less =
    one at j less (omega (arith, place))
    ∙ ap (λ (xs : List ℕ). from_be_bytes w32 (slice_set xs j byte) ∷ words_in bytes) (sym (word-four a b c d (small 0) (small 1) (small 2) (small 3)))
  where
    one : (at j : ℕ) → j < 4 → at ≡ j → words_in (slice_set (a ∷ b ∷ c ∷ d ∷ bytes) at byte) ≡ from_be_bytes w32 (slice_set (a ∷ b ∷ c ∷ d ∷ []) j byte) ∷ words_in bytes
    one at zero less e = rw e (ap (λ n. n ∷ words_in bytes) (omega arith))
    one at (suc zero) less e = rw e (ap (λ n. n ∷ words_in bytes) (omega arith))
    one at (suc (suc zero)) less e = rw e (ap (λ n. n ∷ words_in bytes) (omega arith))
    one at (suc (suc (suc zero))) less e = rw e (ap (λ n. n ∷ words_in bytes) (omega arith))
    one at (suc (suc (suc (suc j)))) less e = absurd (omega (arith, less))
set_byte-from (a ∷ b ∷ c ∷ d ∷ bytes) (suc (suc (suc (suc at)))) (suc k) j byte small fits place within less =
    ap (λ ws. word_of_bytes a b c d ∷ ws)
    (set_byte-from bytes at k j byte (λ i. small (suc (suc (suc (suc i))))) fits (omega (arith, place)) (omega (arith, within)) less)
set_byte-from (a ∷ b ∷ c ∷ d ∷ bytes) zero (suc k) j byte small fits place within less = absurd (omega (arith, place))
set_byte-from (a ∷ b ∷ c ∷ d ∷ bytes) (suc zero) (suc k) j byte small fits place within less = absurd (omega (arith, place))
set_byte-from (a ∷ b ∷ c ∷ d ∷ bytes) (suc (suc zero)) (suc k) j byte small fits place within less = absurd (omega (arith, place))
set_byte-from (a ∷ b ∷ c ∷ d ∷ bytes) (suc (suc (suc zero))) (suc k) j byte small fits place within less = absurd (omega (arith, place))
set_byte-from [] at k j byte small fits place within less = absurd (omega (arith, within))
set_byte-from (a ∷ []) at k j byte small fits place within less = absurd (omega (arith, within))
set_byte-from (a ∷ b ∷ []) at k j byte small fits place within less = absurd (omega (arith, within))
set_byte-from (a ∷ b ∷ c ∷ []) at k j byte small fits place within less = absurd (omega (arith, within))

set-put : (bytes : List ℕ) (at after byte : ℕ) → after ≡ at + 1 → at < length bytes → take at bytes ++ (byte ∷ drop after bytes) ≡ slice_set bytes at byte
set-put [] at after byte next within = absurd (omega (arith, within))
set-put (b ∷ bytes) zero zero byte next within = absurd (omega (arith, next))
set-put (b ∷ bytes) zero (suc after) byte next within = let e : after ≡ 0 = omega (arith, next) in rw e refl
set-put (b ∷ bytes) (suc at) zero byte next within = absurd (omega (arith, next))
set-put (b ∷ bytes) (suc at) (suc after) byte next within = ap (λ (xs : List ℕ). b ∷ xs) (set-put bytes at after byte (omega (arith, next)) (omega (arith, within)))

-- a byte that is put there changes that byte of its word
pub words-set : (bytes : List ℕ) (at place k byte : ℕ) → ((i : ℕ) → slice_index bytes i < 2 ^ 8) → byte < 2 ^ 8 → k ≡ place / 4 → place % 4 ≡ at % 4 → 4 * k + 4 ≤ length bytes
    → words_in (bytes_put place (byte ∷ []) bytes) ≡ slice_set (words_in bytes) k (with_byte (slice_index (words_in bytes) k) at byte)
words-set bytes at place k byte small fits e same within =
    ap (λ (xs : List ℕ). words_in xs) (set-put bytes place (place + 1) byte refl (omega (arith, e, within)))
    ∙ set_byte-from bytes place k (place % 4) byte small fits (omega (arith, e)) within (omega arith)
    ∙ ap (λ j. slice_set (words_in bytes) k (from_be_bytes w32 (slice_set (to_be_bytes w32 (slice_index (words_in bytes) k)) j byte))) same
