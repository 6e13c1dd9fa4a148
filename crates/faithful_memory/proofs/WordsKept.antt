-- Reads that give the words of a memory leave them as they are.
use Rattle.std.proofs.Common.{◌≡◌, ℕ, ◌+◌, ◌-◌, ◌*◌, ◌/◌, ◌%◌, ◌<◌, ◌≤◌, Bool, true, false, List, [], ◌∷◌, ◌++◌, refl, sym, ap, ◌∙◌, subst, arith, inl, inr}
use Rattle.std.specs.Prelude.{IsTrue, ⊤, ◌&&◌, if◌then◌else◌, nat_le, nat_lt, slice_index}
use Rattle.std.proofs.lemmas.Bool.{cases_Bool}
use Rattle.std.proofs.lemmas.Bool.Decides.{nat_tests}
use Rattle.aegis_num.specs.declared.storage.Block.{Block}
use Rattle.aegis_num.specs.declared.storage.Place.{Place}
use Rattle.aegis_num.specs.declared.storage.Place.TheVariants.{Log, Tree}
use Rattle.regions.specs.declared.addresses.TheConstants.{LOG_START}
use Rattle.regions.specs.declared.layout.Layout.{Layout}
use Rattle.regions.specs.Addresses.{block_start}
use Rattle.regions.specs.Blocks.{data_blocks}
use Rattle.off_chip.specs.declared.event.Event.{Event}
use Rattle.off_chip.specs.declared.event.Event.TheVariants.{BlockRead, BlockWrite, WordRead, WordWrite, Note}
use Rattle.hash_tree.specs.HashTrees.{nodes_of}
use Rattle.orbis_core.specs.ByteOrder.{log_block_start, with_block, words_in}
use Rattle.secure_memory.specs.BlockWords.{AreWordsAt, after_read, is_memory_block, on_chip, start_at}
use Rattle.secure_memory.specs.MemorySights.{HasContents, Sight}
use Rattle.secure_memory.proofs.PlaceLemmas.{read-here}
use Rattle.bus_machine.specs.BusMachine.{Veil, blocks_taken, is_data, memory_after}
use Rattle.faithful_memory.specs.KnownWords.{AllGiveDataWords, AllGiveWords, GivesDataWords, GivesWords, HasDataContents, HasSameDataWords, HasSameWords}
use Rattle.faithful_memory.specs.ReadContents.{ContentsAreWords, GivenWordsStay}

-- ---- the same words

pub same-refl : (memory : ℕ → ℕ) → HasSameWords memory memory
same-refl memory = record { word = λ at is. refl }

pub same-trans : (a b c : ℕ → ℕ) → HasSameWords a b → HasSameWords b c → HasSameWords a c
same-trans a b c one other = record { word = λ at is. other.word at is ∙ one.word at is }

data-refl : (memory : ℕ → ℕ) → HasSameDataWords memory memory
data-refl memory = record { word = λ at is below. refl }

data-trans : (a b c : ℕ → ℕ) → HasSameDataWords a b → HasSameDataWords b c → HasSameDataWords a c
data-trans a b c one other = record { word = λ at is below. other.word at is below ∙ one.word at is below }

-- ---- the memory of the bus machine after reads, and that of a secure memory, are one

same-data : (layout : Layout) (n : ℕ) → is_memory_block layout (Tree n) ≡ is_data layout n
same-data layout n =
    elim (cases_Bool (nat_le (nodes_of layout) n)) [
      | inr below ↦
          ap (λ (b : Bool). b && nat_lt n (nodes_of layout + data_blocks layout)) below
          ∙ sym (ap (λ (b : Bool). b && nat_lt (n - nodes_of layout) (data_blocks layout)) below)
      | inl from ↦
          let least : nodes_of layout ≤ n = grind (arith, nat_tests, from) in
          ap (λ (b : Bool). nat_le (nodes_of layout) n && b) (same-test (nodes_of layout) (data_blocks layout) n least)
    ]
  where
    same-test : (nodes blocks n : ℕ) → nodes ≤ n → nat_lt n (nodes + blocks) ≡ nat_lt (n - nodes) blocks
    same-test nodes blocks n least =
        elim (cases_Bool (nat_lt (n - nodes) blocks)) [
          | inl is ↦ let less : n - nodes < blocks = grind (arith, nat_tests, is) in
              let e : nat_lt n (nodes + blocks) ≡ true = grind (arith, nat_tests, less, least) in e ∙ sym is
          | inr not ↦ let more : blocks ≤ n - nodes = grind (arith, nat_tests, not) in
              let e : nat_lt n (nodes + blocks) ≡ false = grind (arith, nat_tests, more, least) in e ∙ sym not
        ]

pub same-after : (layout : Layout) (veil : Veil) (event : Event) (memory : ℕ → ℕ) → after_read layout veil event memory ≡ memory_after layout veil event memory
same-after layout veil (BlockRead (Tree n) block) memory =
    ap (λ (b : Bool). if b then with_block memory (block_start (n - nodes_of layout)) (veil n block.stamp block.payload) else memory) (same-data layout n)
same-after layout veil (BlockRead (Log n) block) memory = refl
same-after layout veil (BlockWrite at block) memory = refl
same-after layout veil (WordRead by at word) memory = refl
same-after layout veil (WordWrite by at word) memory = refl
same-after layout veil (Note mark) memory = refl

-- ---- one block

-- a word of a block with these bytes is theirs, and each other word is as before
block-word : (memory : ℕ → ℕ) (start : ℕ) (payload : List ℕ) (at : ℕ) → start % 4 ≡ 0 → at % 4 ≡ 0 → AreWordsAt memory start payload → with_block memory start payload at ≡ memory at
block-word memory start payload at even is words =
    elim (cases_Bool (nat_le start at && nat_lt at (start + 64))) [
      | inr outside ↦ ap (λ (b : Bool). if b then slice_index (words_in payload) ((at - start) / 4) else memory at) outside
      | inl inside ↦
          let from : start ≤ at = grind (arith, nat_tests) in
          let below : at < start + 64 = grind (arith, nat_tests) in
          let less : (at - start) / 4 < 16 = omega (arith, from, below) in
          let here : start + 4 * ((at - start) / 4) ≡ at = omega (arith, from, below, even, is) in
          ap (λ (b : Bool). if b then slice_index (words_in payload) ((at - start) / 4) else memory at) inside
          ∙ sym (words ((at - start) / 4) less) ∙ ap (λ n. memory n) here
    ]

pub start-even : (layout : Layout) (place : Place) → start_at layout place % 4 ≡ 0
start-even layout (Tree n) = omega arith
start-even layout (Log n) = omega arith

-- ---- one event

read-stays : (layout : Layout) (veil : Veil) (place : Place) (block : Block) (memory : ℕ → ℕ) (at : ℕ) → at % 4 ≡ 0 → GivesWords layout veil memory (BlockRead place block)
    → after_read layout veil (BlockRead place block) memory at ≡ memory at
read-stays layout veil place block memory at is gives =
    elim (cases_Bool (is_memory_block layout place)) [
      | inr none ↦ ap (λ (b : Bool). (if b then with_block memory (start_at layout place) (on_chip veil place block) else memory) at) none
      | inl there ↦
          ap (λ (b : Bool). (if b then with_block memory (start_at layout place) (on_chip veil place block) else memory) at) there
          ∙ block-word memory (start_at layout place) (on_chip veil place block) at (start-even layout place) is (gives there)
    ]

pub event-stays : (layout : Layout) (veil : Veil) (memory : ℕ → ℕ) (event : Event) → GivesWords layout veil memory event → HasSameWords memory (memory_after layout veil event memory)
event-stays layout veil memory (BlockRead place block) gives = record {
  word = λ at is. ap (λ (m : ℕ → ℕ). m at) (sym (same-after layout veil (BlockRead place block) memory)) ∙ read-stays layout veil place block memory at is gives;
}
event-stays layout veil memory (BlockWrite at block) gives = same-refl memory
event-stays layout veil memory (WordRead by at word) gives = same-refl memory
event-stays layout veil memory (WordWrite by at word) gives = same-refl memory
event-stays layout veil memory (Note mark) gives = same-refl memory

-- and only then
stays-event : (layout : Layout) (veil : Veil) (memory : ℕ → ℕ) (event : Event) → HasSameWords memory (memory_after layout veil event memory) → GivesWords layout veil memory event
stays-event layout veil memory (BlockRead place block) same = λ is k less.
    sym (same.word (start_at layout place + 4 * k) (omega (arith, start-even layout place)))
    ∙ ap (λ (m : ℕ → ℕ). m (start_at layout place + 4 * k)) (sym (same-after layout veil (BlockRead place block) memory))
    ∙ read-here layout veil place block memory k is less
stays-event layout veil memory (BlockWrite at block) same = tt
stays-event layout veil memory (WordRead by at word) same = tt
stays-event layout veil memory (WordWrite by at word) same = tt
stays-event layout veil memory (Note mark) same = tt

-- ---- what gives the words of a memory gives those of another one that has the same

words-same : (layout : Layout) (place : Place) (one other : ℕ → ℕ) (payload : List ℕ) → HasSameWords one other → AreWordsAt one (start_at layout place) payload
    → AreWordsAt other (start_at layout place) payload
words-same layout place one other payload same words k less = same.word (start_at layout place + 4 * k) (omega (arith, start-even layout place)) ∙ words k less

gives-same : (layout : Layout) (veil : Veil) (one other : ℕ → ℕ) (event : Event) → HasSameWords one other → GivesWords layout veil one event → GivesWords layout veil other event
gives-same layout veil one other (BlockRead place block) same gives = λ is. words-same layout place one other (on_chip veil place block) same (gives is)
gives-same layout veil one other (BlockWrite at block) same gives = tt
gives-same layout veil one other (WordRead by at word) same gives = tt
gives-same layout veil one other (WordWrite by at word) same gives = tt
gives-same layout veil one other (Note mark) same gives = tt

-- ---- several events

-- the same by recursion on the list
abbrev pub Given : Layout → Veil → (ℕ → ℕ) → List Event → Type 0
Given layout veil memory [] = ⊤
Given layout veil memory (event ∷ events) = GivesWords layout veil memory event × Given layout veil memory events

pub given-each : (layout : Layout) (veil : Veil) (memory : ℕ → ℕ) (events : List Event) → Given layout veil memory events → AllGiveWords layout veil memory events
given-each layout veil memory events given = record { each = λ before event rest parts. cut before event rest (subst (λ (es : List Event). Given layout veil memory es) parts given) }
  where
    cut : (before : List Event) (event : Event) (rest : List Event) → Given layout veil memory (before ++ event ∷ rest) → GivesWords layout veil memory event
    cut [] event rest given = given.0
    cut (first ∷ before) event rest given = cut before event rest given.1

pub each-given : (layout : Layout) (veil : Veil) (memory : ℕ → ℕ) (events : List Event) → AllGiveWords layout veil memory events → Given layout veil memory events
each-given layout veil memory [] all = tt
each-given layout veil memory (event ∷ events) all = (
  all.each [] event events refl,
  each-given layout veil memory events (record { each = λ before later rest parts. all.each (event ∷ before) later rest (ap (λ (es : List Event). event ∷ es) parts) }),
)

pub given-append : (layout : Layout) (veil : Veil) (memory : ℕ → ℕ) (events more : List Event) → Given layout veil memory events → Given layout veil memory more
    → Given layout veil memory (events ++ more)
given-append layout veil memory [] more given rest = rest
given-append layout veil memory (event ∷ events) more given rest = (given.0, given-append layout veil memory events more given.1 rest)

given-same : (layout : Layout) (veil : Veil) (one other : ℕ → ℕ) (events : List Event) → HasSameWords one other → Given layout veil one events → Given layout veil other events
given-same layout veil one other [] same given = tt
given-same layout veil one other (event ∷ events) same given = (gives-same layout veil one other event same given.0, given-same layout veil one other events same given.1)

pub given-stay : (layout : Layout) (veil : Veil) (events : List Event) (memory : ℕ → ℕ) → Given layout veil memory events → HasSameWords memory (blocks_taken layout veil events memory)
given-stay layout veil [] memory given = same-refl memory
given-stay layout veil (event ∷ events) memory given =
    let after : ℕ → ℕ = memory_after layout veil event memory in
    let one : HasSameWords memory after = event-stays layout veil memory event given.0 in
    same-trans memory after (blocks_taken layout veil events after) one
    (given-stay layout veil events after (given-same layout veil memory after events one given.1))

pub all-stay : (layout : Layout) (veil : Veil) (memory : ℕ → ℕ) (events : List Event) → AllGiveWords layout veil memory events → HasSameWords memory (blocks_taken layout veil events memory)
all-stay layout veil memory events all = given-stay layout veil events memory (each-given layout veil memory events all)

-- ---- contents

pub contents-words : {L : Type 0} (sight : Sight L) (one other : ℕ → ℕ) → HasSameWords one other → HasContents sight one → HasContents sight other
contents-words sight one other same has = record {
  block = λ place is.
      let was = has.block place is in
      record { payload = was.payload; is = was.is; words = words-same sight.layout place one other was.payload same was.words };
}

-- ---- data blocks alone

-- a data block lies before the log
data-below : (layout : Layout) (n k : ℕ) → IsTrue (is_memory_block layout (Tree n)) → k < 16 → start_at layout (Tree n) + 4 * k < LOG_START
data-below layout n k is less =
    let below : n < nodes_of layout + data_blocks layout = grind (arith, nat_tests) in
    let from : nodes_of layout ≤ n = grind (arith, nat_tests) in
    omega (arith, below, from, layout.data_fits, less)

words-data_same : (layout : Layout) (n : ℕ) (one other : ℕ → ℕ) (payload : List ℕ) → IsTrue (is_memory_block layout (Tree n)) → HasSameDataWords one other
    → AreWordsAt one (start_at layout (Tree n)) payload → AreWordsAt other (start_at layout (Tree n)) payload
words-data_same layout n one other payload is same words k less =
    same.word (start_at layout (Tree n) + 4 * k) (omega (arith, start-even layout (Tree n))) (data-below layout n k is less) ∙ words k less

pub contents-data_words : {L : Type 0} (sight : Sight L) (one other : ℕ → ℕ) → HasSameDataWords one other → HasDataContents sight one → HasDataContents sight other
contents-data_words sight one other same has = record {
  block = λ n is.
      let was = has.block n is in
      record { payload = was.payload; is = was.is; words = words-data_same sight.layout n one other was.payload is same was.words };
}

-- a read of the log changes no word before the log
log-apart : (layout : Layout) (veil : Veil) (n : ℕ) (block : Block) (memory : ℕ → ℕ) (at : ℕ) → at < LOG_START → memory_after layout veil (BlockRead (Log n) block) memory at ≡ memory at
log-apart layout veil n block memory at below =
    elim (cases_Bool (nat_lt n layout.log)) [
      | inr none ↦ ap (λ (b : Bool). (if b then with_block memory (log_block_start n) block.payload else memory) at) none
      | inl there ↦
          let outside : (nat_le (log_block_start n) at && nat_lt at (log_block_start n + 64)) ≡ false = grind (arith, nat_tests, below) in
          ap (λ (b : Bool). (if b then with_block memory (log_block_start n) block.payload else memory) at) there
          ∙ ap (λ (b : Bool). if b then slice_index (words_in block.payload) ((at - log_block_start n) / 4) else memory at) outside
    ]

event-data_stays : (layout : Layout) (veil : Veil) (memory : ℕ → ℕ) (event : Event) → GivesDataWords layout veil memory event → HasSameDataWords memory (memory_after layout veil event memory)
event-data_stays layout veil memory (BlockRead (Tree n) block) gives =
    let same = event-stays layout veil memory (BlockRead (Tree n) block) gives in record { word = λ at is below. same.word at is }
event-data_stays layout veil memory (BlockRead (Log n) block) gives = record { word = λ at is below. log-apart layout veil n block memory at below }
event-data_stays layout veil memory (BlockWrite at block) gives = data-refl memory
event-data_stays layout veil memory (WordRead by at word) gives = data-refl memory
event-data_stays layout veil memory (WordWrite by at word) gives = data-refl memory
event-data_stays layout veil memory (Note mark) gives = data-refl memory

gives-data_same : (layout : Layout) (veil : Veil) (one other : ℕ → ℕ) (event : Event) → HasSameDataWords one other → GivesDataWords layout veil one event
    → GivesDataWords layout veil other event
gives-data_same layout veil one other (BlockRead (Tree n) block) same gives = λ is. words-data_same layout n one other (on_chip veil (Tree n) block) is same (gives is)
gives-data_same layout veil one other (BlockRead (Log n) block) same gives = tt
gives-data_same layout veil one other (BlockWrite at block) same gives = tt
gives-data_same layout veil one other (WordRead by at word) same gives = tt
gives-data_same layout veil one other (WordWrite by at word) same gives = tt
gives-data_same layout veil one other (Note mark) same gives = tt

abbrev pub GivenData : Layout → Veil → (ℕ → ℕ) → List Event → Type 0
GivenData layout veil memory [] = ⊤
GivenData layout veil memory (event ∷ events) = GivesDataWords layout veil memory event × GivenData layout veil memory events

-- where reads give all words, they give those of data blocks
gives-data : (layout : Layout) (veil : Veil) (memory : ℕ → ℕ) (event : Event) → GivesWords layout veil memory event → GivesDataWords layout veil memory event
gives-data layout veil memory (BlockRead (Tree n) block) gives = gives
gives-data layout veil memory (BlockRead (Log n) block) gives = tt
gives-data layout veil memory (BlockWrite at block) gives = tt
gives-data layout veil memory (WordRead by at word) gives = tt
gives-data layout veil memory (WordWrite by at word) gives = tt
gives-data layout veil memory (Note mark) gives = tt

pub given-data : (layout : Layout) (veil : Veil) (memory : ℕ → ℕ) (events : List Event) → Given layout veil memory events → GivenData layout veil memory events
given-data layout veil memory [] given = tt
given-data layout veil memory (event ∷ events) given = (gives-data layout veil memory event given.0, given-data layout veil memory events given.1)

pub all-data : (layout : Layout) (veil : Veil) (memory : ℕ → ℕ) (events : List Event) → AllGiveWords layout veil memory events → AllGiveDataWords layout veil memory events
all-data layout veil memory events all = record { each = λ before event rest parts. gives-data layout veil memory event (all.each before event rest parts) }

pub given_data-append : (layout : Layout) (veil : Veil) (memory : ℕ → ℕ) (events more : List Event) → GivenData layout veil memory events → GivenData layout veil memory more
    → GivenData layout veil memory (events ++ more)
given_data-append layout veil memory [] more given rest = rest
given_data-append layout veil memory (event ∷ events) more given rest = (given.0, given_data-append layout veil memory events more given.1 rest)

pub given_data-each : (layout : Layout) (veil : Veil) (memory : ℕ → ℕ) (events : List Event) → GivenData layout veil memory events → AllGiveDataWords layout veil memory events
given_data-each layout veil memory events given = record { each = λ before event rest parts. cut before event rest (subst (λ (es : List Event). GivenData layout veil memory es) parts given) }
  where
    cut : (before : List Event) (event : Event) (rest : List Event) → GivenData layout veil memory (before ++ event ∷ rest) → GivesDataWords layout veil memory event
    cut [] event rest given = given.0
    cut (first ∷ before) event rest given = cut before event rest given.1

pub each-given_data : (layout : Layout) (veil : Veil) (memory : ℕ → ℕ) (events : List Event) → AllGiveDataWords layout veil memory events → GivenData layout veil memory events
each-given_data layout veil memory [] all = tt
each-given_data layout veil memory (event ∷ events) all = (
  all.each [] event events refl,
  each-given_data layout veil memory events (record { each = λ before later rest parts. all.each (event ∷ before) later rest (ap (λ (es : List Event). event ∷ es) parts) }),
)

given-data_same : (layout : Layout) (veil : Veil) (one other : ℕ → ℕ) (events : List Event) → HasSameDataWords one other → GivenData layout veil one events → GivenData layout veil other events
given-data_same layout veil one other [] same given = tt
given-data_same layout veil one other (event ∷ events) same given = (gives-data_same layout veil one other event same given.0, given-data_same layout veil one other events same given.1)

given-data_stay : (layout : Layout) (veil : Veil) (events : List Event) (memory : ℕ → ℕ) → GivenData layout veil memory events → HasSameDataWords memory (blocks_taken layout veil events memory)
given-data_stay layout veil [] memory given = data-refl memory
given-data_stay layout veil (event ∷ events) memory given =
    let after : ℕ → ℕ = memory_after layout veil event memory in
    let one : HasSameDataWords memory after = event-data_stays layout veil memory event given.0 in
    data-trans memory after (blocks_taken layout veil events after) one
    (given-data_stay layout veil events after (given-data_same layout veil memory after events one given.1))

pub data-stay : (layout : Layout) (veil : Veil) (memory : ℕ → ℕ) (events : List Event) → AllGiveDataWords layout veil memory events → HasSameDataWords memory (blocks_taken layout veil events memory)
data-stay layout veil memory events all = given-data_stay layout veil events memory (each-given_data layout veil memory events all)

-- ---- the laws

pub words-law : GivenWordsStay
words-law = record {
  one = λ layout veil memory event. (event-stays layout veil memory event, stays-event layout veil memory event);
  all = all-stay;
  data_words = data-stay;
}

pub contents-law : (L : Type 0) → ContentsAreWords L
contents-law L = record { all = contents-words; data_words = contents-data_words }
