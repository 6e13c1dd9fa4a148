-- What a load and a store do to a secure memory, in a block and at an open word.
use Rattle.std.proofs.Common.{◌≡◌, ◌≢◌, ℕ, ◌+◌, ◌*◌, ◌/◌, ◌<◌, ◌≤◌, Bool, true, false, Option, Some, None, List, length, refl, sym, ap, ◌∙◌, subst, arith, inl, inr}
use Rattle.std.specs.Prelude.{IsTrue, IsSome, is_some, if◌then◌else◌, nat_lt, ◌==◌, slice_index, slice_set}
use Rattle.std.proofs.lemmas.Bool.{cases_Bool, cases_eq}
use Rattle.std.proofs.lemmas.Bool.Decides.{nat_tests}
use Rattle.std.proofs.lemmas.List.{get_or-set_same, get_or-set_other}
use Rattle.aegis_num.specs.declared.storage.Place.{Place}
use Rattle.aegis_num.specs.declared.storage.Place.TheVariants.{Log, Tree}
use Rattle.regions.specs.declared.addresses.TheConstants.{LOG_START, OPEN_END}
use Rattle.regions.specs.declared.layout.Layout.{Layout}
use Rattle.regions.specs.declared.rights.Class.{Class}
use Rattle.regions.specs.declared.rights.Class.TheVariants.{Open, Verified, Private, Constant, Code, Logged}
use Rattle.regions.specs.Addresses.{HasBlock, IsInData, IsInLog, class_at, data_block_at, log_block_at, offset_at}
use Rattle.regions.specs.Tree.{leaf_of, positions_of}
use Rattle.regions.proofs.TreeLaws.{data_block_has_place}
use Rattle.std.specs.FinMap.{get}
use Rattle.line_cache.specs.LineMaps.{Holds, payload_at}
use Rattle.hash_tree.proofs.CallLemmas.{line-holds}
use Rattle.stamp_log.specs.LogState.{line_of}
use Rattle.secure_memory.proofs.TreeActs.{payload-line}
use Rattle.regions.proofs.AddressLaws.{HasBlock-LiesIn, LiesIn-class_at}
use Rattle.off_chip.specs.WriteBacks.{same_place}
use Rattle.orbis_core.specs.ByteOrder.{updated, word_start, words_in}
use Rattle.orbis_core.proofs.FlatLaws.{length-words_in}
use Rattle.secure_memory.specs.BlockWords.{AreWordsAt, IsPlaced, is_memory_block, place_at, start_at}
use Rattle.secure_memory.specs.MemorySights.{HasLine, Sight, line_in}
use Rattle.secure_memory.specs.MemoryAccesses.{Reaches, changed}
use Rattle.secure_memory.proofs.PlaceLemmas.{apart, data_place, data_word, log_place, log_word}

-- ---- where an address lies

class-data : (layout : Layout) (at : ℕ) (class : Class) → HasBlock layout class at → OPEN_END ≤ at → at < LOG_START → IsInData layout at
class-data layout at Open has above below = absurd (omega (arith, has, above))
class-data layout at Verified has above below = has
class-data layout at Private has above below = has
class-data layout at Constant has above below = has
class-data layout at Code has above below = has
class-data layout at Logged has above below = absurd (omega (arith, has.from, below))

class-log : (layout : Layout) (at : ℕ) (class : Class) → HasBlock layout class at → OPEN_END ≤ at → LOG_START ≤ at → IsInLog layout at
class-log layout at Open has above from = absurd (omega (arith, has, above))
class-log layout at Verified has above from = absurd (omega (arith, has.from, has.block, layout.data_fits, from))
class-log layout at Private has above from = absurd (omega (arith, has.from, has.block, layout.data_fits, from))
class-log layout at Constant has above from = absurd (omega (arith, has.from, has.block, layout.data_fits, from))
class-log layout at Code has above from = absurd (omega (arith, has.from, has.block, layout.data_fits, from))
class-log layout at Logged has above from = has

some-class : (o : Option Class) → IsSome o → (class : Class) × (o ≡ Some class)
some-class (Some class) is = (class, refl)
some-class None is = let e : false ≡ true = is in cc

class-block : (layout : Layout) (at : ℕ) → IsPlaced layout at → (class : Class) × HasBlock layout class at
class-block layout at placed = let found = some-class (class_at layout at) placed in (found.0, HasBlock-LiesIn layout at found.0 (LiesIn-class_at layout at found.0 found.1))

pub placed-data : (layout : Layout) (at : ℕ) → IsPlaced layout at → OPEN_END ≤ at → at < LOG_START → IsInData layout at
placed-data layout at placed above below = let found = class-block layout at placed in class-data layout at found.0 found.1 above below

pub placed-log : (layout : Layout) (at : ℕ) → IsPlaced layout at → OPEN_END ≤ at → LOG_START ≤ at → IsInLog layout at
placed-log layout at placed above from = let found = class-block layout at placed in class-log layout at found.0 found.1 above from

-- the block of an address, and the place of the word in it
pub record LiesAt (layout : Layout) (at : ℕ) : Type 0 where
  pub is : IsTrue (is_memory_block layout (place_at layout at))
  pub word : word_start at ≡ start_at layout (place_at layout at) + 4 * (offset_at at / 4)
  pub less : offset_at at / 4 < 16

pub lies-at : (layout : Layout) (at : ℕ) → IsPlaced layout at → OPEN_END ≤ at → LiesAt layout at
lies-at layout at placed above =
    elim (cases_Bool (nat_lt at LOG_START)) [
      | inl below ↦
          let inside : IsInData layout at = placed-data layout at placed above (grind (arith, nat_tests, below)) in
          record { is = data_place layout at inside; word = data_word layout at inside; less = omega arith }
      | inr from ↦
          let inside : IsInLog layout at = placed-log layout at placed above (grind (arith, nat_tests, from)) in
          record { is = log_place layout at inside; word = log_word layout at inside; less = omega arith }
    ]

-- ---- after a block was reached

pub reached-line : {L : Type 0} (at : ℕ) (old new : Sight L) → Reaches at old new → HasLine at new
reached-line at old new reaches = record {
  payload = reaches.payload;
  is = subst (λ (l : Layout). line_in new (place_at l at) ≡ Some reaches.payload) (sym reaches.acts.parts.layout) reaches.line;
}

-- ---- a word of a block is changed

updated-here : (memory : ℕ → ℕ) (at word other : ℕ) → other ≡ at → updated memory at word other ≡ word
updated-here memory at word other same =
    let test : (other == at) ≡ true = grind (arith, nat_tests, same) in ap (λ (b : Bool). if b then word else memory other) test

updated-other : (memory : ℕ → ℕ) (at word other : ℕ) → other ≢ at → updated memory at word other ≡ memory other
updated-other memory at word other differ =
    let test : (other == at) ≡ false = grind (arith, nat_tests, differ) in ap (λ (b : Bool). if b then word else memory other) test

-- the block of the address has the new words
pub words-here : (layout : Layout) (at : ℕ) (value : ℕ → ℕ) (memory : ℕ → ℕ) (payload left : List ℕ) → LiesAt layout at → length payload ≡ 64
    → words_in left ≡ slice_set (words_in payload) (offset_at at / 4) (value (slice_index (words_in payload) (offset_at at / 4)))
    → AreWordsAt memory (start_at layout (place_at layout at)) payload → AreWordsAt (changed value at memory) (start_at layout (place_at layout at)) left
words-here layout at value memory payload left lies long words are k less =
    let start : ℕ = start_at layout (place_at layout at) in
    let place : ℕ = offset_at at / 4 in
    let count : length (words_in payload) ≡ 16 = omega (arith, length-words_in payload, long) in
    let before : memory (word_start at) ≡ slice_index (words_in payload) place = ap (λ n. memory n) lies.word ∙ are place lies.less in
    elim (cases_eq k place) [
      | inl equal ↦
          let here : start + 4 * k ≡ word_start at = omega (arith, lies.word, equal) in
          let inside : place < length (words_in payload) = omega (arith, count, lies.less) in
          updated-here memory (word_start at) (value (memory (word_start at))) (start + 4 * k) here
          ∙ ap (λ n. value n) before
          ∙ sym (get_or-set_same (words_in payload) place (value (slice_index (words_in payload) place)) 0 inside)
          ∙ ap (λ n. slice_index (slice_set (words_in payload) place (value (slice_index (words_in payload) place))) n) (sym equal)
          ∙ ap (λ (ws : List ℕ). slice_index ws k) (sym words)
      | inr differ ↦
          let there : start + 4 * k ≢ word_start at = λ same. differ (omega (arith, same, lies.word)) in
          updated-other memory (word_start at) (value (memory (word_start at))) (start + 4 * k) there
          ∙ are k less
          ∙ sym (get_or-set_other (words_in payload) place k (value (slice_index (words_in payload) place)) 0 differ)
          ∙ ap (λ (ws : List ℕ). slice_index ws k) (sym words)
    ]

-- and each other block its own
pub words-there : (layout : Layout) (at : ℕ) (value : ℕ → ℕ) (memory : ℕ → ℕ) (place : Place) (payload : List ℕ) → LiesAt layout at → IsTrue (is_memory_block layout place)
    → same_place place (place_at layout at) ≡ false → AreWordsAt memory (start_at layout place) payload → AreWordsAt (changed value at memory) (start_at layout place) payload
words-there layout at value memory place payload lies is differ are k less =
    let there : start_at layout place + 4 * k ≢ word_start at =
    λ same. elim (apart layout place (place_at layout at) k is lies.is less differ) [
      | inl before ↦ omega (arith, before, same, lies.word)
      | inr after ↦ omega (arith, after, same, lies.word, lies.less)
    ] in
    updated-other memory (word_start at) (value (memory (word_start at))) (start_at layout place + 4 * k) there ∙ are k less

-- ---- the line of an address

pub position-of : (at : ℕ) (one other : Layout) → one ≡ other → IsInData other at → data_block_at at < positions_of one
position-of at one other same inside = subst (λ (l : Layout). data_block_at at < positions_of l) (sym same) (data_block_has_place other (data_block_at at) inside.block)

pub tree-place : (layout : Layout) (at : ℕ) → at < LOG_START → place_at layout at ≡ Tree (leaf_of layout (data_block_at at))
tree-place layout at below =
    let test : nat_lt at LOG_START ≡ true = grind (arith, nat_tests, below) in
    ap (λ (b : Bool). if b then Tree (leaf_of layout (data_block_at at)) else Log (log_block_at at)) test

pub log-place : (layout : Layout) (at : ℕ) → LOG_START ≤ at → place_at layout at ≡ Log (log_block_at at)
log-place layout at above =
    let test : nat_lt at LOG_START ≡ false = grind (arith, nat_tests, above) in
    ap (λ (b : Bool). if b then Tree (leaf_of layout (data_block_at at)) else Log (log_block_at at)) test

-- what is held there, as the tree and the log say it, where the tree has the layout of the memory
pub data-held : {L : Type 0} (at : ℕ) (sight : Sight L) → sight.tree.layout ≡ sight.layout → at < LOG_START → HasLine at sight → Holds sight.lines (leaf_of sight.tree.layout (data_block_at at))
data-held at sight of below has =
    let here : payload_at sight.lines (leaf_of sight.layout (data_block_at at)) ≡ Some has.payload =
    subst (λ (p : Place). line_in sight p ≡ Some has.payload) (tree-place sight.layout at below) has.is in
    let line = payload-line (get sight.lines (leaf_of sight.layout (data_block_at at))) has.payload here in
    subst (λ (l : Layout). Holds sight.lines (leaf_of l (data_block_at at))) (sym of) (line-holds sight.lines (leaf_of sight.layout (data_block_at at)) line.0 line.1)

pub data-value : {L : Type 0} (at : ℕ) (sight : Sight L) (payload : List ℕ) → sight.tree.layout ≡ sight.layout → at < LOG_START
    → payload_at sight.lines (leaf_of sight.tree.layout (data_block_at at)) ≡ Some payload → line_in sight (place_at sight.layout at) ≡ Some payload
data-value at sight payload of below value =
    ap (λ (p : Place). line_in sight p) (tree-place sight.layout at below) ∙ subst (λ (l : Layout). payload_at sight.lines (leaf_of l (data_block_at at)) ≡ Some payload) of value

pub log-held : {L : Type 0} (at : ℕ) (sight : Sight L) → LOG_START ≤ at → HasLine at sight → is_some (line_of sight.log.lines (log_block_at at)) ≡ true
log-held at sight from has =
    ap (λ (o : Option (List ℕ)). is_some o) (subst (λ (p : Place). line_in sight p ≡ Some has.payload) (log-place sight.layout at from) has.is)

pub log-value : {L : Type 0} (at : ℕ) (sight : Sight L) (payload : List ℕ) → LOG_START ≤ at → line_of sight.log.lines (log_block_at at) ≡ Some payload
    → line_in sight (place_at sight.layout at) ≡ Some payload
log-value at sight payload from value = ap (λ (p : Place). line_in sight p) (log-place sight.layout at from) ∙ value
