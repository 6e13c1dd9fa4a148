-- What a plain memory holds at each place.
use Rattle.std.proofs.Common.{◌≡◌, ℕ, zero, suc, ◌+◌, ◌*◌, ◌<◌, ◌≤◌, Bool, cond, List, [], ◌∷◌, ◌++◌, length, take, drop, replicate, Option, Some, None, refl, sym, ap, ◌∙◌, subst, inl, inr, ◌⊎◌, arith, length-append, length-drop, lit<, lit≤, add-one}
use Rattle.std.specs.Prelude.{◌≢◌, filter_map, IfSome}
use Rattle.std.specs.Int.{w32, w64, to_be_bytes, from_be_bytes}
use Rattle.std.proofs.lemmas.Nat.{from_be_bytes-to_be_bytes_8}
use Rattle.std.proofs.lemmas.Bool.{cases_Bool, both_ways}
use Rattle.std.proofs.lemmas.List.{append_assoc, drop-take, drop_at, take_at, length-take-le, length-replicate}
use Rattle.std.proofs.lemmas.Slice.{drop-append-drop}
use Rattle.aegis_num.specs.declared.storage.Block.{Block}
use Rattle.aegis_num.specs.declared.storage.Place.{Place}
use Rattle.aegis_num.specs.declared.storage.Place.TheVariants.{Tree, Log}
use Rattle.regions.specs.declared.addresses.TheConstants.{BLOCK_BYTES, OPEN_END, STORED_BLOCK_BYTES, UNTRUSTED_START}
use Rattle.regions.specs.declared.layout.Layout.{Layout}
use Rattle.regions.specs.Tree.{leaf_of, tree_blocks}
use Rattle.regions.proofs.TreeLaws.{data_block_has_place}
use Rattle.off_chip.specs.declared.event.Event.{Event}
use Rattle.off_chip.specs.declared.event.Event.TheVariants.{BlockRead, BlockWrite, WordRead, WordWrite, Note}
use Rattle.off_chip.specs.declared.loading.TheConstants.{RESUME_WORD}
use Rattle.off_chip.specs.Histories.{History, no_event, ◌◂◌, in_order, history, first_told}
use Rattle.off_chip.specs.OffChipBytes.{HasPlace, bytes_at, bytes_loaded, bytes_put, size_of, start_of_place, static_block, static_blocks, static_place, stored, with_statics, Holds, after_event, after_events, IsAnswered}
use Rattle.off_chip.specs.BlockPlaces.{LiesInside, static_at}
use Rattle.off_chip.specs.WriteBacks.{same_place, written_at, last_write, IsLastWrite}
use Rattle.off_chip.specs.FaithfulReads.{AllReadsFaithful, IsFaithfulRead, as_written, as_loaded}
use Rattle.off_chip.specs.HonestMemory.{moved_block, IsWhole, FirstReadsStatic, IsPlainTrace}
use Rattle.off_chip.proofs.AnswerLemmas.{after_events-more}
use Rattle.off_chip.proofs.ByteLemmas.{length-put, HasPlace-within, IsWordAddress-within, with_statics-zero, with_statics-more, loaded-zeros}
use Rattle.off_chip.proofs.HistoryLemmas.{in_order-history}
use Rattle.off_chip.proofs.StaticLemmas.{static_at-is}
use Rattle.off_chip.proofs.WriteLemmas.{same_place-Decides, last_write-in_order, last_write-never}

-- ---- bytes that are put

take-front : (k at : ℕ) (memory after : List ℕ) → k ≤ at → at ≤ length memory → take k (take at memory ++ after) ≡ take k memory
take-front zero at memory after low high = refl
take-front (suc k) zero memory after low high = let no_such : ⊥ = omega (arith, low) in absurd no_such
take-front (suc k) (suc at) [] after low high = let no_such : ⊥ = omega (arith, high) in absurd no_such
take-front (suc k) (suc at) (x ∷ memory) after low high = ap (λ (xs : List ℕ). x ∷ xs) (take-front k at memory after (omega (arith, low)) (omega (arith, high)))

-- they stand where they were put
pub bytes_at-put : (at n : ℕ) (bytes memory : List ℕ) → at ≤ length memory → length bytes ≡ n → bytes_at at n (bytes_put at bytes memory) ≡ bytes
bytes_at-put at n bytes memory within long =
    ap (λ (xs : List ℕ). take n xs) (drop_at (take at memory) (bytes ++ drop (at + length bytes) memory) at (length-take-le at memory within))
    ∙ take_at bytes (drop (at + length bytes) memory) n long

-- bytes before them and after them stay
pub bytes_at-before : (place n at : ℕ) (bytes memory : List ℕ) → place + n ≤ at → at ≤ length memory → bytes_at place n (bytes_put at bytes memory) ≡ bytes_at place n memory
bytes_at-before place n at bytes memory low within =
    sym (drop-take place n (bytes_put at bytes memory))
    ∙ ap (λ (xs : List ℕ). drop place xs) (take-front (place + n) at memory (bytes ++ drop (at + length bytes) memory) low within)
    ∙ drop-take place n memory

pub bytes_at-after : (place n at : ℕ) (bytes memory : List ℕ) → at + length bytes ≤ place → at ≤ length memory → bytes_at place n (bytes_put at bytes memory) ≡ bytes_at place n memory
bytes_at-after place n at bytes memory high within =
    let front : length (take at memory ++ bytes) ≡ at + length bytes = omega (arith, length-append (take at memory) bytes, length-take-le at memory within) in
    ap (λ (xs : List ℕ). take n (drop place xs)) (sym (append_assoc (take at memory) bytes (drop (at + length bytes) memory)))
    ∙ ap (λ (xs : List ℕ). take n xs) (drop-append-drop (at + length bytes) memory (take at memory ++ bytes) place high front)

-- ---- places

order : (m n : ℕ) → ((m < n) ⊎ (n < m)) ⊎ (m ≡ n)
order zero zero = inr refl
order zero (suc n) = inl (inl (omega arith))
order (suc m) zero = inl (inr (omega arith))
order (suc m) (suc n) =
    elim (order m n) [
      | inl (inl lt) ↦ inl (inl (omega (arith, lt)))
      | inl (inr gt) ↦ inl (inr (omega (arith, gt)))
      | inr same ↦ inr (ap (λ (k : ℕ). suc k) same)
    ]

-- blocks that are counted from a place on, where they are not the same
counted-apart : (from m n : ℕ) → (m ≡ n → ⊥)
    → (from + STORED_BLOCK_BYTES * m + STORED_BLOCK_BYTES ≤ from + STORED_BLOCK_BYTES * n) ⊎ (from + STORED_BLOCK_BYTES * n + STORED_BLOCK_BYTES ≤ from + STORED_BLOCK_BYTES * m)
counted-apart from m n apart =
    elim (order m n) [
      | inl (inl lt) ↦ inl (omega (arith, lt))
      | inl (inr gt) ↦ inr (omega (arith, gt))
      | inr same ↦ absurd (apart same)
    ]

pub places-apart : (layout : Layout) (place other : Place) → HasPlace layout place → HasPlace layout other → place ≢ other
    → (start_of_place layout place + STORED_BLOCK_BYTES ≤ start_of_place layout other) ⊎ (start_of_place layout other + STORED_BLOCK_BYTES ≤ start_of_place layout place)
places-apart layout (Tree m) (Tree n) has other apart = counted-apart OPEN_END m n (λ same. apart (ap (λ (k : ℕ). Tree k) same))
places-apart layout (Log m) (Log n) has other apart =
    counted-apart OPEN_END (tree_blocks layout + m) (tree_blocks layout + n) (λ same. let e : m ≡ n = omega (arith, same) in apart (ap (λ (k : ℕ). Log k) e))
places-apart layout (Tree m) (Log n) has other apart = inl (omega (arith, has))
places-apart layout (Log m) (Tree n) has other apart = inr (omega (arith, other))

pub place-within : (layout : Layout) (place : Place) → HasPlace layout place
    → (OPEN_END ≤ start_of_place layout place) × (start_of_place layout place + STORED_BLOCK_BYTES ≤ size_of layout)
place-within layout (Tree n) has = (omega arith, HasPlace-within layout (Tree n) has)
place-within layout (Log n) has = (omega arith, HasPlace-within layout (Log n) has)

-- bytes that are put over another place
elsewhere : (layout : Layout) (place other : Place) (bytes memory : List ℕ) → HasPlace layout place → HasPlace layout other → place ≢ other
    → length bytes ≡ STORED_BLOCK_BYTES → length memory ≡ size_of layout
    → bytes_at (start_of_place layout place) STORED_BLOCK_BYTES (bytes_put (start_of_place layout other) bytes memory) ≡ bytes_at (start_of_place layout place) STORED_BLOCK_BYTES memory
elsewhere layout place other bytes memory has has_other apart long size =
    let within = (place-within layout other has_other).1 in
    elim (places-apart layout place other has has_other apart) [
      | inl before ↦ bytes_at-before (start_of_place layout place) STORED_BLOCK_BYTES (start_of_place layout other) bytes memory before (omega (arith, within, size))
      | inr after ↦ bytes_at-after (start_of_place layout place) STORED_BLOCK_BYTES (start_of_place layout other) bytes memory (omega (arith, after, long)) (omega (arith, within, size))
    ]

-- open bytes
below-blocks : (layout : Layout) (place : Place) (at : ℕ) (bytes memory : List ℕ) → HasPlace layout place → at + length bytes ≤ OPEN_END → length memory ≡ size_of layout
    → bytes_at (start_of_place layout place) STORED_BLOCK_BYTES (bytes_put at bytes memory) ≡ bytes_at (start_of_place layout place) STORED_BLOCK_BYTES memory
below-blocks layout place at bytes memory has low size =
    let within = place-within layout place has in
    bytes_at-after (start_of_place layout place) STORED_BLOCK_BYTES at bytes memory (omega (arith, low, within.0)) (omega (arith, low, within.0, within.1, size))

length-stored : (block : Block) → IsWhole block → length (stored block) ≡ STORED_BLOCK_BYTES
length-stored block whole = omega (arith, length-append block.payload (to_be_bytes w64 block.stamp), whole.payload)

-- ---- what memory began with

static-place : (layout : Layout) (n : ℕ) → n < static_blocks layout → HasPlace layout (static_place layout n)
static-place layout n below =
    omega (arith, data_block_has_place layout (layout.verified + layout.private + n) (omega (arith, below)))

statics-apart : (layout : Layout) (m n : ℕ) → m < n → static_place layout m ≢ static_place layout n
statics-apart layout m n lt same =
    let e : leaf_of layout (layout.verified + layout.private + m) ≡ leaf_of layout (layout.verified + layout.private + n) = cc in
    let no_such : ⊥ = omega (arith, e, lt) in no_such

whole-static : (statics : List ℕ) (n count : ℕ) → length statics ≡ BLOCK_BYTES * count → n < count → IsWhole (static_block statics n)
whole-static statics n count long below = record {
  payload = length-take-le BLOCK_BYTES (drop (BLOCK_BYTES * n) statics) (omega (arith, length-drop (BLOCK_BYTES * n) statics, long, below));
  stamp = lit< tt;
}

with_statics-holds : (layout : Layout) (statics memory : List ℕ) → length statics ≡ BLOCK_BYTES * static_blocks layout → length memory ≡ size_of layout
    → (count : ℕ) → count ≤ static_blocks layout
    → (length (with_statics layout statics count memory) ≡ size_of layout)
    × ((n : ℕ) → n < count → bytes_at (start_of_place layout (static_place layout n)) STORED_BLOCK_BYTES (with_statics layout statics count memory) ≡ stored (static_block statics n))
with_statics-holds layout statics memory long size zero few =
    (ap (λ (xs : List ℕ). length xs) (with_statics-zero layout statics memory) ∙ size, λ n below. let no_such : ⊥ = omega (arith, below) in absurd no_such)
with_statics-holds layout statics memory long size (suc count) few =
    let ih = with_statics-holds layout statics memory long size count (omega (arith, few)) in
    let so_far = with_statics layout statics count memory in
    let start = start_of_place layout (static_place layout count) in
    let has = static-place layout count (omega (arith, few)) in
    let within = (place-within layout (static_place layout count) has).1 in
    let wide = length-stored (static_block statics count) (whole-static statics count (static_blocks layout) long (omega (arith, few))) in
    let more : with_statics layout statics (suc count) memory ≡ bytes_put start (stored (static_block statics count)) so_far =
    ap (λ (k : ℕ). with_statics layout statics k memory) (sym (add-one count)) ∙ with_statics-more layout statics count memory in (
      ap (λ (xs : List ℕ). length xs) more ∙ length-put start (stored (static_block statics count)) so_far (omega (arith, within, wide, ih.0)) ∙ ih.0,
      λ n below.
          ap (λ (xs : List ℕ). bytes_at (start_of_place layout (static_place layout n)) STORED_BLOCK_BYTES xs) more
          ∙ elim (order n count) [
            | inl (inl lt) ↦
                elsewhere layout (static_place layout n) (static_place layout count) (stored (static_block statics count)) so_far
                (static-place layout n (omega (arith, lt, few))) has (statics-apart layout n count lt) wide ih.0
                ∙ ih.1 n lt
            | inl (inr gt) ↦ let no_such : ⊥ = omega (arith, gt, below) in absurd no_such
            | inr same ↦
                ap (λ (k : ℕ). bytes_at (start_of_place layout (static_place layout k)) STORED_BLOCK_BYTES (bytes_put start (stored (static_block statics count)) so_far)) same
                ∙ bytes_at-put start STORED_BLOCK_BYTES (stored (static_block statics count)) so_far (omega (arith, within, ih.0)) wide
                ∙ ap (λ (k : ℕ). stored (static_block statics k)) (sym same)
          ],
    )

loaded-holds : (layout : Layout) (statics : List ℕ) → length statics ≡ BLOCK_BYTES * static_blocks layout
    → (length (bytes_loaded layout statics) ≡ size_of layout)
    × ((n : ℕ) → n < static_blocks layout → bytes_at (start_of_place layout (static_place layout n)) STORED_BLOCK_BYTES (bytes_loaded layout statics) ≡ stored (static_block statics n))
loaded-holds layout statics long =
    let zeros : List ℕ = replicate (size_of layout) 0 in
    let placed = with_statics-holds layout statics zeros long (length-replicate (size_of layout) 0) (static_blocks layout) (omega arith) in
    let whole = with_statics layout statics (static_blocks layout) zeros in (
      ap (λ (xs : List ℕ). length xs) (loaded-zeros layout statics)
          ∙ length-put UNTRUSTED_START (to_be_bytes w32 RESUME_WORD) whole (omega (arith, placed.0)) ∙ placed.0,
      λ n below.
          ap (λ (xs : List ℕ). bytes_at (start_of_place layout (static_place layout n)) STORED_BLOCK_BYTES xs) (loaded-zeros layout statics)
          ∙ below-blocks layout (static_place layout n) UNTRUSTED_START (to_be_bytes w32 RESUME_WORD) whole (static-place layout n below) (lit≤ tt) placed.0
          ∙ placed.1 n below,
    )

-- ---- what stands at a place after events

-- an event that lies inside, with a whole block
abbrev IsFit : Layout → Event → Type 0
IsFit layout event = LiesInside layout event × IfSome (moved_block event) IsWhole

pub length-after : (layout : Layout) (event : Event) (memory : List ℕ) → IsFit layout event → length memory ≡ size_of layout → length (after_event layout event memory) ≡ size_of layout
length-after layout (BlockRead at block) memory fit size = size
length-after layout (BlockWrite at block) memory fit size =
    length-put (start_of_place layout at) (stored block) memory (omega (arith, (place-within layout at fit.0.place).1, length-stored block fit.1, size)) ∙ size
length-after layout (WordRead by at word) memory fit size = size
length-after layout (WordWrite by at word) memory fit size =
    length-put at (to_be_bytes w32 word) memory (omega (arith, IsWordAddress-within at fit.0.address, size)) ∙ size
length-after layout (Note mark) memory fit size = size

-- what is there: the last write-back, or else what was there before
abbrev there : Option Block → List ℕ → List ℕ
there None before = before
there (Some written) before = stored written

after-holds : (layout : Layout) (place : Place) (event : Event) (memory before : List ℕ) (last : Option Block) → HasPlace layout place → IsFit layout event → length memory ≡ size_of layout
    → bytes_at (start_of_place layout place) STORED_BLOCK_BYTES memory ≡ there last before
    → bytes_at (start_of_place layout place) STORED_BLOCK_BYTES (after_event layout event memory) ≡ there (first_told (written_at place event) last) before
after-holds layout place (BlockWrite at block) memory before last has fit size holds =
    elim (cases_Bool (same_place place at)) [
      | inl same ↦
          let e : place ≡ at = (same_place-Decides place at).0 same in
          ap (λ (p : Place). bytes_at (start_of_place layout p) STORED_BLOCK_BYTES (bytes_put (start_of_place layout at) (stored block) memory)) e
          ∙ bytes_at-put (start_of_place layout at) STORED_BLOCK_BYTES (stored block) memory (omega (arith, (place-within layout at fit.0.place).1, size)) (length-stored block fit.1)
          ∙ ap (λ (b : Bool). there (first_told (cond b (Some block) None) last) before) (sym same)
      | inr other ↦
          elsewhere layout place at (stored block) memory has fit.0.place (λ e. both_ways (same_place place at) other ((same_place-Decides place at).1 e)) (length-stored block fit.1) size
          ∙ holds
          ∙ ap (λ (b : Bool). there (first_told (cond b (Some block) None) last) before) (sym other)
    ]
after-holds layout place (WordWrite by at word) memory before last has fit size holds =
    below-blocks layout place at (to_be_bytes w32 word) memory has (IsWordAddress-within at fit.0.address) size ∙ holds
after-holds layout place (BlockRead at block) memory before last has fit size holds = holds
after-holds layout place (WordRead by at word) memory before last has fit size holds = holds
after-holds layout place (Note mark) memory before last has fit size holds = holds

all-holds : (layout : Layout) (place : Place) (memory : List ℕ) → HasPlace layout place → length memory ≡ size_of layout
    → (older : History) → ((before : List Event) (event : Event) (rest : List Event) → in_order older ≡ before ++ event ∷ rest → IsFit layout event)
    → (length (after_events layout (in_order older) memory) ≡ size_of layout)
    × (bytes_at (start_of_place layout place) STORED_BLOCK_BYTES (after_events layout (in_order older) memory)
    ≡ there (last_write place older) (bytes_at (start_of_place layout place) STORED_BLOCK_BYTES memory))
all-holds layout place memory has size no_event fits = (size, refl)
all-holds layout place memory has size (event ◂ older) fits =
    let ih = all-holds layout place memory has size older
    (λ before earlier rest same. fits before earlier (rest ++ event ∷ []) (ap (λ (xs : List Event). xs ++ event ∷ []) same ∙ append_assoc before (earlier ∷ rest) (event ∷ []))) in
    let so_far = after_events layout (in_order older) memory in
    let fit = fits (in_order older) event [] refl in
    let more : after_events layout (in_order (event ◂ older)) memory ≡ after_event layout event so_far = after_events-more layout (in_order older) event memory in (
      ap (λ (xs : List ℕ). length xs) more ∙ length-after layout event so_far fit ih.0,
      ap (λ (xs : List ℕ). bytes_at (start_of_place layout place) STORED_BLOCK_BYTES xs) more
          ∙ after-holds layout place event so_far (bytes_at (start_of_place layout place) STORED_BLOCK_BYTES memory) (last_write place older) has fit ih.0 ih.1,
    )

-- ---- block reads of a plain memory

answered-at : (layout : Layout) (before : List Event) (event : Event) (rest : List Event) (memory : List ℕ) → IsAnswered layout (before ++ event ∷ rest) memory
    → Holds layout (after_events layout before memory) event
answered-at layout [] event rest memory answered = answered.0
answered-at layout (first ∷ before) event rest memory answered = answered-at layout before event rest (after_event layout first memory) answered.1

-- what a block read holds
pub read-holds : (layout : Layout) (statics : List ℕ) (before : List Event) (place : Place) (block : Block) (rest : List Event)
    → IsPlainTrace layout statics (before ++ BlockRead place block ∷ rest)
    → stored block ≡ there (last_write place (history before)) (bytes_at (start_of_place layout place) STORED_BLOCK_BYTES (bytes_loaded layout statics))
read-holds layout statics before place block rest plain =
    let has = (plain.inside.each before (BlockRead place block) rest refl).place in
    let e : in_order (history before) ≡ before = in_order-history before in
    let all = all-holds layout place (bytes_loaded layout statics) has (loaded-holds layout statics plain.long).0 (history before)
    (λ front event later same.
    let parts : before ++ BlockRead place block ∷ rest ≡ front ++ event ∷ (later ++ BlockRead place block ∷ rest) =
    ap (λ (xs : List Event). xs ++ BlockRead place block ∷ rest) (sym e ∙ same) ∙ append_assoc front (event ∷ later) (BlockRead place block ∷ rest) in
    (plain.inside.each front event (later ++ BlockRead place block ∷ rest) parts, plain.whole.each front event (later ++ BlockRead place block ∷ rest) parts)) in
    answered-at layout before (BlockRead place block) rest (bytes_loaded layout statics) plain.answered
    ∙ ap (λ (t : List Event). bytes_at (start_of_place layout place) STORED_BLOCK_BYTES (after_events layout t (bytes_loaded layout statics))) (sym e)
    ∙ all.1

-- two whole blocks with the same bytes are the same
stored-same : (block other : Block) → IsWhole block → IsWhole other → stored block ≡ stored other → block ≡ other
stored-same block other whole whole_other same =
    let payloads : block.payload ≡ other.payload =
    sym (take_at block.payload (to_be_bytes w64 block.stamp) BLOCK_BYTES whole.payload) ∙ ap (λ (xs : List ℕ). take BLOCK_BYTES xs) same
    ∙ take_at other.payload (to_be_bytes w64 other.stamp) BLOCK_BYTES whole_other.payload in
    let stamps : to_be_bytes w64 block.stamp ≡ to_be_bytes w64 other.stamp =
    sym (drop_at block.payload (to_be_bytes w64 block.stamp) BLOCK_BYTES whole.payload) ∙ ap (λ (xs : List ℕ). drop BLOCK_BYTES xs) same
    ∙ drop_at other.payload (to_be_bytes w64 other.stamp) BLOCK_BYTES whole_other.payload in
    let numbers : block.stamp ≡ other.stamp =
    sym (from_be_bytes-to_be_bytes_8 block.stamp whole.stamp) ∙ ap (λ (xs : List ℕ). from_be_bytes w64 xs) stamps ∙ from_be_bytes-to_be_bytes_8 other.stamp whole_other.stamp in
    ap (λ (xs : List ℕ). record { payload = xs; stamp = block.stamp }) payloads ∙ ap (λ (n : ℕ). record { payload = other.payload; stamp = n }) numbers

-- ---- the laws

pub read-written : (layout : Layout) (statics : List ℕ) (before : List Event) (place : Place) (block written : Block) (rest : List Event)
    → IsPlainTrace layout statics (before ++ BlockRead place block ∷ rest) → IsLastWrite place before written → block ≡ written
read-written layout statics before place block written rest plain last =
    let found = (last_write-in_order place before written).1 last in
    let parts : before ++ BlockRead place block ∷ rest ≡ last.before ++ BlockWrite place written ∷ (last.rest ++ BlockRead place block ∷ rest) =
    ap (λ (xs : List Event). xs ++ BlockRead place block ∷ rest) last.parts ∙ append_assoc last.before (BlockWrite place written ∷ last.rest) (BlockRead place block ∷ rest) in
    stored-same block written (plain.whole.each before (BlockRead place block) rest refl)
    (plain.whole.each last.before (BlockWrite place written) (last.rest ++ BlockRead place block ∷ rest) parts)
    (read-holds layout statics before place block rest plain
    ∙ ap (λ (o : Option Block). there o (bytes_at (start_of_place layout place) STORED_BLOCK_BYTES (bytes_loaded layout statics))) found)

pub read-first : (layout : Layout) (statics : List ℕ) (before : List Event) (place : Place) (block : Block) (rest : List Event)
    → IsPlainTrace layout statics (before ++ BlockRead place block ∷ rest) → filter_map (written_at place) before ≡ []
    → stored block ≡ bytes_at (start_of_place layout place) STORED_BLOCK_BYTES (bytes_loaded layout statics)
read-first layout statics before place block rest plain never =
    read-holds layout statics before place block rest plain
    ∙ ap (λ (o : Option Block). there o (bytes_at (start_of_place layout place) STORED_BLOCK_BYTES (bytes_loaded layout statics))) ((last_write-never place before).1 never)

read-faithful : (layout : Layout) (statics : List ℕ) (before : List Event) (place : Place) (block : Block) (rest : List Event)
    → IsPlainTrace layout statics (before ++ BlockRead place block ∷ rest)
    → (filter_map (written_at place) before ≡ [] → static_at layout statics place ≢ None)
    → (last : Option Block) → last_write place (history before) ≡ last → (static : Option (List ℕ)) → static_at layout statics place ≡ static
    → IsFaithfulRead (static_at layout statics) before place block
read-faithful layout statics before place block rest plain first (Some written) found static is =
    let last = (last_write-in_order place before written).0 found in
    let e = read-written layout statics before place block written rest plain last in
    as_written written last (ap (λ (b : Block). b.payload) e) (ap (λ (b : Block). b.stamp) e)
read-faithful layout statics before place block rest plain first None found None is = absurd (first ((last_write-never place before).0 found) is)
read-faithful layout statics before place block rest plain first None found (Some payload) is =
    let never = (last_write-never place before).0 found in
    let at = (static_at-is layout statics place payload).0 is in
    let same : stored block ≡ stored (static_block statics at.n) =
    read-first layout statics before place block rest plain never
    ∙ ap (λ (p : Place). bytes_at (start_of_place layout p) STORED_BLOCK_BYTES (bytes_loaded layout statics)) at.stands
    ∙ (loaded-holds layout statics plain.long).1 at.n at.below in
    let e : block ≡ static_block statics at.n =
    stored-same block (static_block statics at.n) (plain.whole.each before (BlockRead place block) rest refl)
    (whole-static statics at.n (static_blocks layout) plain.long at.below) same in
    as_loaded never (is ∙ ap (λ (xs : List ℕ). Some xs) (at.holds ∙ ap (λ (b : Block). b.payload) (sym e)))

pub plain-faithful : (layout : Layout) (statics : List ℕ) (trace : List Event) → IsPlainTrace layout statics trace → FirstReadsStatic layout statics trace
    → AllReadsFaithful (static_at layout statics) trace
plain-faithful layout statics trace plain first = record {
  each = λ before place block rest same.
      read-faithful layout statics before place block rest (subst (λ (t : List Event). IsPlainTrace layout statics t) same plain)
      (first.each before place block rest same) (last_write place (history before)) refl (static_at layout statics place) refl;
}
