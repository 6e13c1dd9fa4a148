-- Words and their bytes.
use Rattle.std.proofs.Common.{◌≡◌, ℕ, zero, suc, ◌+◌, ◌*◌, ◌/◌, ◌^◌, ◌<◌, ◌≤◌, List, [], ◌∷◌, ◌++◌, length, get_or, take, drop, refl, sym, ap, ◌∙◌, arith, inl, inr}
use Rattle.std.specs.Int.{w32, from_be_bytes, to_be_bytes}
use Rattle.std.specs.List.{flat_map, AllByRecursion}
use Rattle.std.proofs.lemmas.Bool.{cases_lt}
use Rattle.std.proofs.lemmas.List.{take-append-drop, length-take, length-drop, get_or-drop, get_or-take, get_or_past}
use Rattle.std.proofs.lemmas.Nat.{be_bytes_4, from_be_bytes-to_be_bytes_4}
use Rattle.image_file.specs.ReadParts.{words_in}

-- each is a byte
abbrev pub AreBytes : List ℕ → Type 0
AreBytes bytes = (i : ℕ) → get_or bytes i 0 < 256

pub AreBytes-rest : (b : ℕ) (bytes : List ℕ) → AreBytes (b ∷ bytes) → AreBytes bytes
AreBytes-rest b bytes fit i = fit (suc i)

pub AreBytes-all : (bytes : List ℕ) → AreBytes bytes → AllByRecursion (λ byte. byte < 2 ^ 8) bytes
AreBytes-all [] fit = tt
AreBytes-all (b ∷ bytes) fit = (fit 0, AreBytes-all bytes (AreBytes-rest b bytes fit))

first_four : (a b c d : ℕ) (bytes : List ℕ) → AreBytes (a ∷ b ∷ c ∷ d ∷ bytes) → AreBytes (a ∷ b ∷ c ∷ d ∷ [])
first_four a b c d bytes fit zero = fit 0
first_four a b c d bytes fit (suc zero) = fit 1
first_four a b c d bytes fit (suc (suc zero)) = fit 2
first_four a b c d bytes fit (suc (suc (suc zero))) = fit 3
first_four a b c d bytes fit (suc (suc (suc (suc i)))) = omega arith

word-below : (a b c d : ℕ) → AreBytes (a ∷ b ∷ c ∷ d ∷ []) → from_be_bytes w32 (a ∷ b ∷ c ∷ d ∷ []) < 2 ^ 32
word-below a b c d fit = omega (arith, fit 0, fit 1, fit 2, fit 3)

pub length-words_in : (bytes : List ℕ) → length (words_in bytes) ≡ length bytes / 4
length-words_in [] = refl
length-words_in (a ∷ []) = refl
length-words_in (a ∷ b ∷ []) = refl
length-words_in (a ∷ b ∷ c ∷ []) = refl
length-words_in (a ∷ b ∷ c ∷ d ∷ bytes) = omega (arith, length-words_in bytes)

pub words_in-below : (bytes : List ℕ) → AreBytes bytes → AllByRecursion (λ word. word < 2 ^ 32) (words_in bytes)
words_in-below [] fit = tt
words_in-below (a ∷ []) fit = tt
words_in-below (a ∷ b ∷ []) fit = tt
words_in-below (a ∷ b ∷ c ∷ []) fit = tt
words_in-below (a ∷ b ∷ c ∷ d ∷ bytes) fit = (word-below a b c d (first_four a b c d bytes fit), words_in-below bytes (λ i. fit (suc (suc (suc (suc i))))))

-- the bytes of the words in some bytes are these bytes
pub bytes-words_in : (bytes : List ℕ) (n : ℕ) → length bytes ≡ 4 * n → AreBytes bytes → flat_map (to_be_bytes w32) (words_in bytes) ≡ bytes
bytes-words_in [] n e fit = refl
bytes-words_in (a ∷ []) n e fit = absurd (omega arith)
bytes-words_in (a ∷ b ∷ []) n e fit = absurd (omega arith)
bytes-words_in (a ∷ b ∷ c ∷ []) n e fit = absurd (omega arith)
bytes-words_in (a ∷ b ∷ c ∷ d ∷ bytes) zero e fit = absurd (omega arith)
bytes-words_in (a ∷ b ∷ c ∷ d ∷ bytes) (suc n) e fit =
    let four : to_be_bytes w32 (from_be_bytes w32 (a ∷ b ∷ c ∷ d ∷ [])) ≡ a ∷ b ∷ c ∷ d ∷ [] = be_bytes_4 (a ∷ b ∷ c ∷ d ∷ []) _ refl (first_four a b c d bytes fit) refl in
    let rest : flat_map (to_be_bytes w32) (words_in bytes) ≡ bytes = bytes-words_in bytes n (omega arith) (λ i. fit (suc (suc (suc (suc i))))) in
    ap (λ (front : List ℕ). front ++ flat_map (to_be_bytes w32) (words_in bytes)) four ∙ ap (λ (back : List ℕ). a ∷ b ∷ c ∷ d ∷ back) rest

pub length-word_bytes : (words : List ℕ) → length (flat_map (to_be_bytes w32) words) ≡ 4 * length words
length-word_bytes [] = refl
length-word_bytes (word ∷ words) = omega (arith, length-word_bytes words)

-- words with the same bytes are the same
pub one-word_bytes : (words others : List ℕ) → AllByRecursion (λ word. word < 2 ^ 32) words → AllByRecursion (λ word. word < 2 ^ 32) others
    → flat_map (to_be_bytes w32) words ≡ flat_map (to_be_bytes w32) others → words ≡ others
one-word_bytes [] [] below below' e = refl
one-word_bytes [] (other ∷ others) below below' e = absurd (cc)
one-word_bytes (word ∷ words) [] below below' e = absurd (cc)
one-word_bytes (word ∷ words) (other ∷ others) below below' e =
    let fronts : to_be_bytes w32 word ≡ to_be_bytes w32 other = ap (take 4) e in
    let backs : flat_map (to_be_bytes w32) words ≡ flat_map (to_be_bytes w32) others = ap (drop 4) e in
    let first : word ≡ other = sym (from_be_bytes-to_be_bytes_4 word below.0) ∙ ap (from_be_bytes w32) fronts ∙ from_be_bytes-to_be_bytes_4 other below'.0 in
    let rest : words ≡ others = one-word_bytes words others below.1 below'.1 backs in
    cc

pub AreBytes-take : (n : ℕ) (bytes : List ℕ) → AreBytes bytes → AreBytes (take n bytes)
AreBytes-take n bytes fit i =
    elim (cases_lt i n) [
      | inl lt ↦ rw (get_or-take n bytes i 0 lt) (fit i)
      | inr le ↦ rw (get_or_past (take n bytes) i 0 (omega (arith, length-take n bytes))) (omega arith)
    ]

pub AreBytes-drop : (n : ℕ) (bytes : List ℕ) → AreBytes bytes → AreBytes (drop n bytes)
AreBytes-drop n bytes fit i = rw get_or-drop (fit (n + i))

-- blocks taken apart: their constants, and their code as words
pub record TakenApart (blocks constants code : List ℕ) (c k : ℕ) : Type 0 where
  pub constants_whole : length constants ≡ 64 * c
  pub code_whole : length code ≡ 16 * k
  pub bytes : constants ++ flat_map (to_be_bytes w32) code ≡ blocks
  pub constants_below : AllByRecursion (λ byte. byte < 2 ^ 8) constants
  pub code_below : AllByRecursion (λ word. word < 2 ^ 32) code

pub taken_apart : (blocks : List ℕ) (c k : ℕ) → length blocks ≡ 64 * (c + k) → AreBytes blocks → TakenApart blocks (take (64 * c) blocks) (words_in (drop (64 * c) blocks)) c k
taken_apart blocks c k e fit =
    let back : length (drop (64 * c) blocks) ≡ 4 * (16 * k) = omega (arith, length-drop (64 * c) blocks) in
    let back_fit = AreBytes-drop (64 * c) blocks fit in
    record {
      constants_whole = omega (arith, length-take (64 * c) blocks);
      code_whole = omega (arith, length-words_in (drop (64 * c) blocks));
      bytes = ap (λ (code : List ℕ). take (64 * c) blocks ++ code) (bytes-words_in (drop (64 * c) blocks) (16 * k) back back_fit) ∙ take-append-drop (64 * c) blocks;
      constants_below = AreBytes-all (take (64 * c) blocks) (AreBytes-take (64 * c) blocks fit);
      code_below = words_in-below (drop (64 * c) blocks) back_fit;
    }

pub taken_apart_as : (blocks constants code : List ℕ) (c k : ℕ) → constants ≡ take (64 * c) blocks → code ≡ words_in (drop (64 * c) blocks) → length blocks ≡ 64 * (c + k) → AreBytes blocks
    → TakenApart blocks constants code c k
taken_apart_as blocks constants code c k constants-is code-is e fit = rw (constants-is, code-is) (taken_apart blocks c k e fit)
