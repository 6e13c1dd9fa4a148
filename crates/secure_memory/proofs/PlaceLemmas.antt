-- The places of memory blocks, and the words after reads of blocks.
use Rattle.std.proofs.Common.{◌≡◌, ◌≢◌, ℕ, ◌+◌, ◌-◌, ◌*◌, ◌/◌, ◌%◌, ◌<◌, ◌≤◌, Bool, true, false, Option, Some, None, List, [], ◌∷◌, ◌++◌, refl, sym, ap, ◌∙◌, arith, inl, inr, ◌⊎◌}
use Rattle.std.specs.Prelude.{IsTrue, slice_index, nat_le, nat_lt, filter_map, if◌then◌else◌, ◌&&◌}
use Rattle.std.proofs.lemmas.Bool.{cases_Bool}
use Rattle.std.proofs.lemmas.Bool.Decides.{nat_tests}
use Rattle.aegis_num.specs.declared.storage.Block.{Block}
use Rattle.aegis_num.specs.declared.storage.Place.{Place}
use Rattle.aegis_num.specs.declared.storage.Place.TheVariants.{Tree, Log}
use Rattle.regions.specs.declared.addresses.TheConstants.{LOG_START}
use Rattle.regions.specs.declared.layout.Layout.{Layout}
use Rattle.regions.specs.Addresses.{offset_at, IsInData, IsInLog}
use Rattle.regions.specs.Blocks.{data_blocks}
use Rattle.off_chip.specs.declared.event.Event.{Event}
use Rattle.off_chip.specs.declared.event.Event.TheVariants.{BlockRead, BlockWrite, WordRead, WordWrite, Note}
use Rattle.off_chip.specs.WriteBacks.{read_at, same_place}
use Rattle.off_chip.proofs.WriteLemmas.{same_place-Decides}
use Rattle.orbis_core.specs.ByteOrder.{with_block, words_in}
use Rattle.hash_tree.specs.HashTrees.{nodes_of}
use Rattle.secure_memory.specs.BlockWords.{after_read, after_reads, is_memory_block, on_chip, place_at, start_at}

-- ---- one block in a memory

block-here : (memory : ℕ → ℕ) (start k : ℕ) (payload : List ℕ) → k < 16 → with_block memory start payload (start + 4 * k) ≡ slice_index (words_in payload) k
block-here memory start k payload less =
    let e : (start + 4 * k - start) / 4 ≡ k = omega (arith, less) in
    let inside : (nat_le start (start + 4 * k) && nat_lt (start + 4 * k) (start + 64)) ≡ true = grind (arith, nat_tests) in
    ap (λ (b : Bool). if b then slice_index (words_in payload) ((start + 4 * k - start) / 4) else memory (start + 4 * k)) inside
    ∙ ap (λ n. slice_index (words_in payload) n) e

block-before : (memory : ℕ → ℕ) (start at : ℕ) (payload : List ℕ) → at < start → with_block memory start payload at ≡ memory at
block-before memory start at payload less =
    let outside : (nat_le start at && nat_lt at (start + 64)) ≡ false = grind (arith, nat_tests) in
    ap (λ (b : Bool). if b then slice_index (words_in payload) ((at - start) / 4) else memory at) outside

block-after : (memory : ℕ → ℕ) (start at : ℕ) (payload : List ℕ) → start + 64 ≤ at → with_block memory start payload at ≡ memory at
block-after memory start at payload less =
    let outside : (nat_le start at && nat_lt at (start + 64)) ≡ false = grind (arith, nat_tests) in
    ap (λ (b : Bool). if b then slice_index (words_in payload) ((at - start) / 4) else memory at) outside

-- ---- two blocks

tree-from : (layout : Layout) (n : ℕ) → IsTrue (is_memory_block layout (Tree n)) → nodes_of layout ≤ n
tree-from layout n is = grind (arith, nat_tests)

tree-below : (layout : Layout) (n : ℕ) → IsTrue (is_memory_block layout (Tree n)) → n < nodes_of layout + data_blocks layout
tree-below layout n is = grind (arith, nat_tests)

log-below : (layout : Layout) (n : ℕ) → IsTrue (is_memory_block layout (Log n)) → n < layout.log
log-below layout n is = grind (arith, nat_tests)

-- an address of one block does not lie in another one
pub apart : (layout : Layout) (place other : Place) (k : ℕ) → IsTrue (is_memory_block layout place) → IsTrue (is_memory_block layout other) → k < 16 → same_place place other ≡ false
    → (start_at layout place + 4 * k < start_at layout other) ⊎ (start_at layout other + 64 ≤ start_at layout place + 4 * k)
apart layout (Tree m) (Tree n) k is_one is_other less differ =
    let a = tree-from layout m is_one in
    let b = tree-from layout n is_other in
    let c : m ≢ n = grind (arith, nat_tests) in
    grind (arith, a, b, c, less)
apart layout (Tree m) (Log n) k is_one is_other less differ = inl (omega (arith, tree-from layout m is_one, tree-below layout m is_one, layout.data_fits, less))
apart layout (Log m) (Tree n) k is_one is_other less differ = inr (omega (arith, tree-from layout n is_other, tree-below layout n is_other, layout.data_fits, less))
apart layout (Log m) (Log n) k is_one is_other less differ =
    let c : m ≢ n = grind (arith, nat_tests) in
    grind (arith, c, less)

-- ---- one event

-- a block that is read has its words
pub read-here : (layout : Layout) (veil : ℕ → ℕ → List ℕ → List ℕ) (place : Place) (block : Block) (memory : ℕ → ℕ) (k : ℕ) → IsTrue (is_memory_block layout place) → k < 16
    → after_read layout veil (BlockRead place block) memory (start_at layout place + 4 * k) ≡ slice_index (words_in (on_chip veil place block)) k
read-here layout veil place block memory k is less =
    ap (λ (b : Bool). (if b then with_block memory (start_at layout place) (on_chip veil place block) else memory) (start_at layout place + 4 * k)) is
    ∙ block-here memory (start_at layout place) k (on_chip veil place block) less

-- one that is not read has those from before
read-apart : (layout : Layout) (veil : ℕ → ℕ → List ℕ → List ℕ) (place other : Place) (block : Block) (memory : ℕ → ℕ) (k : ℕ) → IsTrue (is_memory_block layout place) → k < 16
    → same_place place other ≡ false → after_read layout veil (BlockRead other block) memory (start_at layout place + 4 * k) ≡ memory (start_at layout place + 4 * k)
read-apart layout veil place other block memory k is less differ =
    elim (cases_Bool (is_memory_block layout other)) [
      | inr none ↦ ap (λ (b : Bool). (if b then with_block memory (start_at layout other) (on_chip veil other block) else memory) (start_at layout place + 4 * k)) none
      | inl too ↦
          ap (λ (b : Bool). (if b then with_block memory (start_at layout other) (on_chip veil other block) else memory) (start_at layout place + 4 * k)) too
          ∙ elim (apart layout place other k is too less differ) [
            | inl before ↦ block-before memory (start_at layout other) (start_at layout place + 4 * k) (on_chip veil other block) before
            | inr after ↦ block-after memory (start_at layout other) (start_at layout place + 4 * k) (on_chip veil other block) after
          ]
    ]

read_none : (b : Bool) (block : Block) → (if b then Some block else None) ≡ None → b ≡ false
read_none true block none = cc
read_none false block none = refl

read_some : (b : Bool) (block found : Block) → (if b then Some block else None) ≡ Some found → (b ≡ true) × (block ≡ found)
read_some true block found is = (refl, cc)
read_some false block found is = let e : None ≡ Some found = is in cc

pub read-other : (layout : Layout) (veil : ℕ → ℕ → List ℕ → List ℕ) (place : Place) (event : Event) (memory : ℕ → ℕ) (k : ℕ) → IsTrue (is_memory_block layout place) → k < 16
    → read_at place event ≡ None → after_read layout veil event memory (start_at layout place + 4 * k) ≡ memory (start_at layout place + 4 * k)
read-other layout veil place (BlockRead other block) memory k is less none = read-apart layout veil place other block memory k is less (read_none (same_place place other) block none)
read-other layout veil place (BlockWrite other block) memory k is less none = refl
read-other layout veil place (WordRead by at word) memory k is less none = refl
read-other layout veil place (WordWrite by at word) memory k is less none = refl
read-other layout veil place (Note mark) memory k is less none = refl

-- ---- several events

-- of some events the last that reads a block at a place, if one does
pub data LastRead (place : Place) (events : List Event) : Type 0 where
  no_read : filter_map (read_at place) events ≡ [] → LastRead place events
  one_read : (before : List Event) (block : Block) (rest : List Event) → events ≡ before ++ BlockRead place block ∷ rest → filter_map (read_at place) rest ≡ [] → LastRead place events

map_none : (place : Place) (event : Event) (events : List Event) → read_at place event ≡ None → filter_map (read_at place) events ≡ [] → filter_map (read_at place) (event ∷ events) ≡ []
map_none place event events none rest = rw none rest

read_event : (place : Place) (event : Event) (block : Block) → read_at place event ≡ Some block → event ≡ BlockRead place block
read_event place (BlockRead other read) block found =
    let parts = read_some (same_place place other) read block found in
    let same : place ≡ other = (same_place-Decides place other).0 parts.0 in
    let one : BlockRead other read ≡ BlockRead place read = ap (λ (p : Place). BlockRead p read) (sym same) in one ∙ ap (λ (b : Block). BlockRead place b) parts.1
read_event place (BlockWrite other read) block found = let e : None ≡ Some block = found in cc
read_event place (WordRead by at word) block found = let e : None ≡ Some block = found in cc
read_event place (WordWrite by at word) block found = let e : None ≡ Some block = found in cc
read_event place (Note mark) block found = let e : None ≡ Some block = found in cc

pub last_read : (place : Place) (events : List Event) → LastRead place events
last_read place [] = LastRead.no_read refl
last_read place (event ∷ events) = later (last_read place events) (read_at place event) refl
  where
    later : LastRead place events → (o : Option Block) → read_at place event ≡ o → LastRead place (event ∷ events)
    later (LastRead.one_read before block rest parts none) o is = LastRead.one_read (event ∷ before) block rest (ap (λ (es : List Event). event ∷ es) parts) none
    later (LastRead.no_read none) None is = LastRead.no_read (map_none place event events is none)
    later (LastRead.no_read none) (Some block) is = LastRead.one_read [] block events (ap (λ (e : Event). e ∷ events) (read_event place event block is)) none

cons_none : (place : Place) (event : Event) (events : List Event) → filter_map (read_at place) (event ∷ events) ≡ [] → (read_at place event ≡ None) × (filter_map (read_at place) events ≡ [])
cons_none place event events none = by (read_at place event) refl none
  where
    by : (o : Option Block) → read_at place event ≡ o → filter_map (read_at place) (event ∷ events) ≡ [] → (read_at place event ≡ None) × (filter_map (read_at place) events ≡ [])
    by None is none = (is, rw is at none)
    by (Some block) is none = let e : block ∷ filter_map (read_at place) events ≡ [] = rw is at none in cc

-- a block that none of them reads has its words from before
pub reads-none : (layout : Layout) (veil : ℕ → ℕ → List ℕ → List ℕ) (place : Place) (events : List Event) (memory : ℕ → ℕ) (k : ℕ) → IsTrue (is_memory_block layout place) → k < 16
    → filter_map (read_at place) events ≡ [] → after_reads layout veil events memory (start_at layout place + 4 * k) ≡ memory (start_at layout place + 4 * k)
reads-none layout veil place [] memory k is less none = refl
reads-none layout veil place (event ∷ events) memory k is less none =
    let parts = cons_none place event events none in
    reads-none layout veil place events (after_read layout veil event memory) k is less parts.1 ∙ read-other layout veil place event memory k is less parts.0

-- and one whose last read is known has the words of that read
pub reads-last : (layout : Layout) (veil : ℕ → ℕ → List ℕ → List ℕ) (place : Place) (before : List Event) (block : Block) (rest : List Event) (memory : ℕ → ℕ) (k : ℕ)
    → IsTrue (is_memory_block layout place) → k < 16 → filter_map (read_at place) rest ≡ []
    → after_reads layout veil (before ++ BlockRead place block ∷ rest) memory (start_at layout place + 4 * k) ≡ slice_index (words_in (on_chip veil place block)) k
reads-last layout veil place [] block rest memory k is less none =
    reads-none layout veil place rest (after_read layout veil (BlockRead place block) memory) k is less none ∙ read-here layout veil place block memory k is less
reads-last layout veil place (event ∷ before) block rest memory k is less none = reads-last layout veil place before block rest (after_read layout veil event memory) k is less none

-- ---- addresses

pub data_place : (layout : Layout) (at : ℕ) → IsInData layout at → IsTrue (is_memory_block layout (place_at layout at))
data_place layout at inside =
    let below : at < LOG_START = omega (arith, inside.from, inside.block, layout.data_fits) in
    grind (arith, nat_tests, inside.block, below)

pub log_place : (layout : Layout) (at : ℕ) → IsInLog layout at → IsTrue (is_memory_block layout (place_at layout at))
log_place layout at inside = grind (arith, nat_tests, inside.block, inside.from)

-- the word that an address lies in is one of its block
pub data_word : (layout : Layout) (at : ℕ) → IsInData layout at → at - at % 4 ≡ start_at layout (place_at layout at) + 4 * (offset_at at / 4)
data_word layout at inside =
    let below : nat_lt at LOG_START ≡ true = grind (arith, nat_tests, inside.from, inside.block, layout.data_fits) in
    let from = inside.from in
    rw below (omega (arith, from))

pub log_word : (layout : Layout) (at : ℕ) → IsInLog layout at → at - at % 4 ≡ start_at layout (place_at layout at) + 4 * (offset_at at / 4)
log_word layout at inside =
    let from = inside.from in
    let below : nat_lt at LOG_START ≡ false = grind (arith, nat_tests, from) in
    rw below (omega (arith, from))
