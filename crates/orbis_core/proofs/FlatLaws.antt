-- What follows for a flat memory before its first access, for proofs here and in the crates above.
use Rattle.std.proofs.Common.{◌≡◌, ℕ, ◌+◌, ◌*◌, ◌/◌, ◌%◌, ◌^◌, ◌<◌, ◌≤◌, List, [], ◌∷◌, ◌++◌, length, get_or, replicate, Some, None, refl, ap, arith, append_assoc}
use Rattle.std.proofs.lemmas.Bool.Decides.{nat_tests}
use Rattle.std.proofs.lemmas.List.{length-replicate, get_or-append-add, get_or_append_left}
use Rattle.std.specs.List.{AllByRecursion}
use Rattle.regions.specs.declared.Layout.{Layout}
use Rattle.regions.specs.declared.Class.TheVariants.{Constant, Code}
use Rattle.regions.specs.declared.Mode.TheVariants.{Ptr}
use Rattle.regions.specs.declared.Access.TheVariants.{Fetch}
use Rattle.regions.specs.Addresses.{start_of, class_at}
use Rattle.regions.proofs.AddressLaws.{class_at-LiesIn}
use Rattle.regions.specs.Blocks.{data_blocks}
use Rattle.orbis_core.specs.FlatMemory.{flat_of, flat_word, index_of, open_words, block_words}
use Rattle.orbis_core.specs.Refusals.{word_refusal}
use Rattle.orbis_core.specs.ByteOrder.{bytes_of, words_in, word_of_bytes}

-- four bytes make a word
pub length-words_in : (bytes : List ℕ) → length (words_in bytes) ≡ length bytes / 4
length-words_in [] = refl
length-words_in (a ∷ []) = refl
length-words_in (a ∷ b ∷ []) = refl
length-words_in (a ∷ b ∷ c ∷ []) = refl
length-words_in (a ∷ b ∷ c ∷ d ∷ bytes) = omega (arith, length-words_in bytes)

-- a word is the word of its bytes
word-to_be_bytes : (n : ℕ) → n < 2 ^ 32 → word_of_bytes (n / 16777216 % 256) (n / 65536 % 256) (n / 256 % 256) (n % 256) ≡ n
word-to_be_bytes n fits = omega arith

-- the words in the bytes of some words are these words
pub words_in-bytes_of : (words : List ℕ) → AllByRecursion (λ n. n < 2 ^ 32) words → words_in (bytes_of words) ≡ words
words_in-bytes_of [] small = refl
words_in-bytes_of (word ∷ words) small = rw (words_in-bytes_of words small.1) (ap (λ n. n ∷ words) (word-to_be_bytes word small.0))

-- four bytes a word
pub length-bytes_of : (words : List ℕ) → length (bytes_of words) ≡ 4 * length words
length-bytes_of [] = refl
length-bytes_of (word ∷ words) = let rest : length (bytes_of words) ≡ 4 * length words = length-bytes_of words in omega arith

-- what stands in the middle of three lists
pub between : (front words back : List ℕ) (count k : ℕ) → length front ≡ count → k < length words → get_or (front ++ words ++ back) (count + k) 0 ≡ get_or words k 0
between front words back count k long below =
    rw (← long, append_assoc front words back, get_or-append-add front (words ++ back) k 0) (get_or_append_left words back 0 k below)

-- the static words stand from the first constant block on
pub flat_word-static : (layout : Layout) (statics : List ℕ) (k at : ℕ) → data_blocks layout ≤ 6561 → k < length (words_in statics)
    → length statics ≡ 64 * (layout.constants + layout.code) → at ≡ start_of layout Constant + 4 * k
    → flat_word (flat_of layout statics) at ≡ get_or (words_in statics) k 0
flat_word-static layout statics k at fits below whole place =
    let within : k < 16 * (layout.constants + layout.code) = omega (arith, length-words_in statics) in
    let index : index_of layout at ≡ open_words + block_words * (layout.verified + layout.private) + k = grind (arith, nat_tests) in
    let count : ℕ = open_words + block_words * (layout.verified + layout.private) in
    rw index (between (replicate count 0) (words_in statics) (replicate (block_words * layout.log) 0) count k (length-replicate count 0) below)

-- code may be fetched by the secure program
pub fetch-code : (layout : Layout) (k at : ℕ) → k < 16 * layout.code → at ≡ start_of layout Code + 4 * k → word_refusal layout Ptr Fetch at ≡ None
fetch-code layout k at below place =
    let class : class_at layout at ≡ Some Code = class_at-LiesIn layout at Code (omega arith, omega arith) in
    let aligned : at % 4 ≡ 0 = omega arith in
    rw (class, aligned) refl
