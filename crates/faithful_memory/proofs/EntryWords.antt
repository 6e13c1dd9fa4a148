-- The words of static blocks, and those of zeros.
use Rattle.std.proofs.Common.{◌≡◌, ℕ, zero, suc, ◌+◌, ◌-◌, ◌*◌, ◌/◌, ◌<◌, ◌≤◌, Bool, true, false, List, [], ◌∷◌, refl, sym, ap, ◌∙◌, arith}
use Rattle.std.specs.Prelude.{◌&&◌, drop, if◌then◌else◌, nat_le, nat_lt, replicate, slice_index, take}
use Rattle.std.proofs.lemmas.Bool.Decides.{nat_tests}
use Rattle.std.proofs.lemmas.List.{get_or-replicate}
use Rattle.aegis_num.specs.declared.storage.Place.TheVariants.{Log, Tree}
use Rattle.regions.specs.declared.layout.Layout.{Layout}
use Rattle.regions.specs.declared.rights.Class.TheVariants.{Code, Constant}
use Rattle.regions.specs.Addresses.{end_of, start_of}
use Rattle.off_chip.specs.BlockPlaces.{first_static}
use Rattle.off_chip.specs.OffChipBytes.{bytes_at, static_blocks}
use Rattle.hash_tree.specs.HashTrees.{nodes_of}
use Rattle.orbis_core.specs.ByteOrder.{words_in}
use Rattle.orbis_core.specs.Ideal.{static_memory}
use Rattle.secure_memory.specs.BlockWords.{AreWordsAt, start_at}

-- ---- words of a part of some bytes

words-take : (j n : ℕ) (bytes : List ℕ) → 4 * j + 4 ≤ n → slice_index (words_in (take n bytes)) j ≡ slice_index (words_in bytes) j
words-take j zero bytes long = absurd (omega (arith, long))
words-take j (suc zero) bytes long = absurd (omega (arith, long))
words-take j (suc (suc zero)) bytes long = absurd (omega (arith, long))
words-take j (suc (suc (suc zero))) bytes long = absurd (omega (arith, long))
words-take j (suc (suc (suc (suc n)))) [] long = refl
words-take j (suc (suc (suc (suc n)))) (a ∷ []) long = refl
words-take j (suc (suc (suc (suc n)))) (a ∷ b ∷ []) long = refl
words-take j (suc (suc (suc (suc n)))) (a ∷ b ∷ c ∷ []) long = refl
words-take zero (suc (suc (suc (suc n)))) (a ∷ b ∷ c ∷ d ∷ bytes) long = refl
words-take (suc j) (suc (suc (suc (suc n)))) (a ∷ b ∷ c ∷ d ∷ bytes) long = words-take j n bytes (omega (arith, long))

words-drop : (m n i j : ℕ) (bytes : List ℕ) → n ≡ 4 * m → i ≡ m + j → slice_index (words_in (drop n bytes)) j ≡ slice_index (words_in bytes) i
words-drop zero n i j bytes whole at =
    let none : n ≡ 0 = omega (arith, whole) in
    let same : j ≡ i = omega (arith, at) in
    ap (λ (x : ℕ). slice_index (words_in (drop x bytes)) j) none ∙ ap (λ (x : ℕ). slice_index (words_in bytes) x) same
words-drop (suc m) zero i j bytes whole at = absurd (omega (arith, whole))
words-drop (suc m) (suc zero) i j bytes whole at = absurd (omega (arith, whole))
words-drop (suc m) (suc (suc zero)) i j bytes whole at = absurd (omega (arith, whole))
words-drop (suc m) (suc (suc (suc zero))) i j bytes whole at = absurd (omega (arith, whole))
words-drop (suc m) (suc (suc (suc (suc n)))) zero j bytes whole at = absurd (omega (arith, at))
words-drop (suc m) (suc (suc (suc (suc n)))) (suc i) j [] whole at = refl
words-drop (suc m) (suc (suc (suc (suc n)))) (suc i) j (a ∷ []) whole at = refl
words-drop (suc m) (suc (suc (suc (suc n)))) (suc i) j (a ∷ b ∷ []) whole at = refl
words-drop (suc m) (suc (suc (suc (suc n)))) (suc i) j (a ∷ b ∷ c ∷ []) whole at = refl
words-drop (suc m) (suc (suc (suc (suc n)))) (suc i) j (a ∷ b ∷ c ∷ d ∷ bytes) whole at = words-drop m n i j bytes (omega (arith, whole)) (omega (arith, at))

-- ---- what the machine begins with

inside-word : (layout : Layout) (statics : List ℕ) (at i : ℕ) → start_of layout Constant ≤ at → at < end_of layout Code → (at - start_of layout Constant) / 4 ≡ i
    → static_memory layout statics at ≡ slice_index (words_in statics) i
inside-word layout statics at i from below is =
    let test : (nat_le (start_of layout Constant) at && nat_lt at (end_of layout Code)) ≡ true = grind (arith, nat_tests, from, below) in
    ap (λ (b : Bool). if b then slice_index (words_in statics) ((at - start_of layout Constant) / 4) else 0) test ∙ ap (λ (x : ℕ). slice_index (words_in statics) x) is

before-word : (layout : Layout) (statics : List ℕ) (at : ℕ) → at < start_of layout Constant → static_memory layout statics at ≡ 0
before-word layout statics at early =
    let test : (nat_le (start_of layout Constant) at && nat_lt at (end_of layout Code)) ≡ false = grind (arith, nat_tests, early) in
    ap (λ (b : Bool). if b then slice_index (words_in statics) ((at - start_of layout Constant) / 4) else 0) test

after-word : (layout : Layout) (statics : List ℕ) (at : ℕ) → end_of layout Code ≤ at → static_memory layout statics at ≡ 0
after-word layout statics at late =
    let test : (nat_le (start_of layout Constant) at && nat_lt at (end_of layout Code)) ≡ false = grind (arith, nat_tests, late) in
    ap (λ (b : Bool). if b then slice_index (words_in statics) ((at - start_of layout Constant) / 4) else 0) test

zero-word : (k : ℕ) → k < 16 → slice_index (words_in (replicate 64 0)) k ≡ 0
zero-word k less = let words : words_in (replicate 64 0) ≡ replicate 16 0 = refl in ap (λ (ws : List ℕ). slice_index ws k) words ∙ get_or-replicate 16 k 0 0 less

-- a static block has its bytes
pub static-words : (layout : Layout) (statics : List ℕ) (n k : ℕ) → n ≡ first_static layout + k → k < static_blocks layout
    → AreWordsAt (static_memory layout statics) (start_at layout (Tree n)) (bytes_at (64 * k) 64 statics)
static-words layout statics n k is inside j less =
    let place : start_at layout (Tree n) + 4 * j ≡ start_of layout Constant + (64 * k + 4 * j) = omega (arith, is) in
    let from : start_of layout Constant ≤ start_at layout (Tree n) + 4 * j = omega (arith, place) in
    let below : start_at layout (Tree n) + 4 * j < end_of layout Code = omega (arith, place, inside, less) in
    let index : (start_at layout (Tree n) + 4 * j - start_of layout Constant) / 4 ≡ 16 * k + j = omega (arith, place) in
    inside-word layout statics (start_at layout (Tree n) + 4 * j) (16 * k + j) from below index
    ∙ sym (words-take j 64 (drop (64 * k) statics) (omega (arith, less)) ∙ words-drop (16 * k) (64 * k) (16 * k + j) j statics (omega arith) refl)

-- another data block has zeros
pub early-words : (layout : Layout) (statics : List ℕ) (n : ℕ) → nodes_of layout ≤ n → n < first_static layout
    → AreWordsAt (static_memory layout statics) (start_at layout (Tree n)) (replicate 64 0)
early-words layout statics n leaf early j less =
    let place : start_at layout (Tree n) + 4 * j < start_of layout Constant = omega (arith, leaf, early, less) in
    before-word layout statics (start_at layout (Tree n) + 4 * j) place ∙ sym (zero-word j less)

-- and so has a block of the log
pub log-words : (layout : Layout) (statics : List ℕ) (n : ℕ) → AreWordsAt (static_memory layout statics) (start_at layout (Log n)) (replicate 64 0)
log-words layout statics n j less =
    let place : end_of layout Code ≤ start_at layout (Log n) + 4 * j = omega (arith, layout.data_fits) in
    after-word layout statics (start_at layout (Log n) + 4 * j) place ∙ sym (zero-word j less)
