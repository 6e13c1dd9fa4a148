-- What a secure memory contains where its program was entered.
use Rattle.std.proofs.Common.{◌≡◌, ℕ, ◌+◌, ◌-◌, ◌*◌, ◌<◌, ◌≤◌, true, false, Option, Some, None, List, [], ◌∷◌, ◌++◌, length, refl, sym, ap, ◌∙◌, subst, arith, inl, inr, append_assoc}
use Rattle.std.specs.Prelude.{IsTrue, filter_map, replicate, slice_get}
use Rattle.std.specs.Bool.{OnTrue}
use Rattle.std.specs.FinMap.{empty}
use Rattle.std.proofs.lemmas.Bool.{cases_Bool, cases_lt}
use Rattle.std.proofs.lemmas.Bool.Decides.{nat_tests}
use Rattle.std.proofs.lemmas.Option.{slice_get-get_or}
use Rattle.std.proofs.lemmas.Slice.Eq.{bytes_eq-Decides}
use Rattle.aegis_num.specs.declared.storage.Block.{Block}
use Rattle.aegis_num.specs.declared.storage.Place.{Place}
use Rattle.aegis_num.specs.declared.storage.Place.TheVariants.{Log, Tree}
use Rattle.regions.specs.declared.layout.Layout.{Layout}
use Rattle.regions.specs.Blocks.{data_blocks}
use Rattle.off_chip.specs.declared.event.Event.{Event}
use Rattle.off_chip.specs.declared.event.Event.TheVariants.{BlockRead, BlockWrite, WordRead, WordWrite, Note}
use Rattle.off_chip.specs.declared.event.Mark.TheVariants.{Enter}
use Rattle.off_chip.specs.BlockPlaces.{first_static, static_at}
use Rattle.off_chip.specs.Boundaries.{payload_read}
use Rattle.off_chip.specs.FaithfulReads.{TreeFaithful, is_expected, is_faithful, is_payload, is_tree_read}
use Rattle.off_chip.specs.Histories.{History, ◌◂◌, history, no_event}
use Rattle.off_chip.specs.OffChipBytes.{bytes_at, static_blocks, static_place}
use Rattle.off_chip.specs.WriteBacks.{last_write}
use Rattle.off_chip.proofs.HistoryLemmas.{Each-cut, Each-weaker}
use Rattle.off_chip.proofs.StaticLemmas.{static_at-is}
use Rattle.hash_tree.specs.Entering.{BlockMove, Entered, is_static}
use Rattle.hash_tree.specs.HashTrees.{nodes_of, scheme_of, state_of}
use Rattle.hash_tree.specs.Standing.{State, contents, contents_in}
use Rattle.hash_tree.proofs.UnderLemmas.{static-at, static-is}
use Rattle.std.specs.FinMap.{get}
use Rattle.stamp_log.specs.LogEvents.{zeros_written}
use Rattle.orbis_core.specs.Ideal.{static_memory}
use Rattle.secure_memory.specs.BlockWords.{is_memory_block, start_at}
use Rattle.secure_memory.specs.MemorySights.{HasWordsAt, contents_of_place}
use Rattle.secure_memory.specs.PrivatePads.{Padding, hidden_payload}
use Rattle.secure_memory.proofs.EntryEvents.{zeros-elsewhere}
use Rattle.secure_memory.proofs.EventLists.{GrowsElsewhere}
use Rattle.secure_memory.proofs.TreeActs.{block-inside, block-node}
use Rattle.bus_machine.specs.BusMachine.{Veil}
use Rattle.faithful_memory.specs.EnteredContents.{AllMakesTreeFaithful, EnteringGivesStatics}
use Rattle.faithful_memory.proofs.EntryReads.{FirstRead, Runs, entry-runs, first-read}
use Rattle.faithful_memory.proofs.EntryWords.{early-words, log-words, static-words}
use Rattle.faithful_memory.proofs.ReadLemmas.{HasLeaves}
use Rattle.faithful_memory.proofs.TreeKept.{elsewhere-last}

pub tree-faithful : AllMakesTreeFaithful
tree-faithful image older all = record {
  each = Each-weaker (λ event older. IsTrue (is_faithful image event older)) (λ event older. OnTrue (is_tree_read event) (IsTrue (is_faithful image event older))) one older all.each;
}
  where
    one : (event : Event) (older : History) → IsTrue (is_faithful image event older) → OnTrue (is_tree_read event) (IsTrue (is_faithful image event older))
    one (BlockRead (Tree n) block) older is = is
    one (BlockRead (Log n) block) older is = tt
    one (BlockWrite at block) older is = tt
    one (WordRead who at word) older is = tt
    one (WordWrite who at word) older is = tt
    one (Note mark) older is = tt

-- ---- a static block

-- a faithful read of a place that was not written gives the image's payload
given-static : (block : Block) (loaded : Option (List ℕ)) (bytes : List ℕ) (written : Option Block) → written ≡ None → loaded ≡ Some bytes → is_expected loaded block written ≡ true → block.payload ≡ bytes
given-static block loaded bytes written none is expected =
    let e : is_payload block.payload (Some bytes) ≡ true =
    sym (ap (λ (o : Option Block). is_expected loaded block o) none ∙ ap (λ (o : Option (List ℕ)). is_payload block.payload o) is) ∙ expected in
    (bytes_eq-Decides block.payload bytes).0 e

module _ (layout : Layout) (veil : Veil) (statics : List ℕ) (old new : State) (digest : List ℕ) (entered : Entered layout (scheme_of layout veil) old new digest) (rest : List Event)
    (begun : old.trace ≡ Note Enter ∷ []) (faithful : TreeFaithful (static_at layout statics) (history (new.trace ++ rest))) where
  abbrev payloads : List (List ℕ)
  payloads = filter_map payload_read entered.events

  trace-is : new.trace ++ rest ≡ (Note Enter ∷ entered.events) ++ rest
  trace-is = ap (λ (t : List Event). t ++ rest) (entered.appended ∙ ap (λ (t : List Event). t ++ entered.events) begun)

  -- the static block with a number has the image's bytes
  static-payload : (k : ℕ) (payload : List ℕ) → k < static_blocks layout → slice_get payloads k ≡ Some payload → payload ≡ bytes_at (64 * k) 64 statics
  static-payload k payload inside found =
      let n : ℕ = first_static layout + k in
      let all = entry-runs layout in
      let runs = subst (λ (ms : List BlockMove). Runs (nodes_of layout) all.from all.to (first_static layout) all.last ms) (sym entered.order) all.runs in
      let older : History = Note Enter ◂ no_event in
      let read : FirstRead older entered.events n payload = first-read (nodes_of layout) all.from all.to (first_static layout) all.last entered.events older k n payload refl runs (λ m at leaf. refl) found in
      let event : Event = BlockRead (Tree n) read.block in
      let cut : new.trace ++ rest ≡ (Note Enter ∷ read.before) ++ event ∷ (read.rest ++ rest) =
      trace-is ∙ ap (λ (es : List Event). Note Enter ∷ (es ++ rest)) read.parts ∙ ap (λ (es : List Event). Note Enter ∷ es) (append_assoc read.before (event ∷ read.rest) rest) in
      let expected : is_expected (static_at layout statics (Tree n)) read.block (last_write (Tree n) (history (Note Enter ∷ read.before))) ≡ true =
      Each-cut (λ event older. OnTrue (is_tree_read event) (IsTrue (is_faithful (static_at layout statics) event older))) (new.trace ++ rest) (Note Enter ∷ read.before) event
      (read.rest ++ rest) cut faithful.each in
      let place : Tree n ≡ static_place layout k = ap (λ (x : ℕ). Tree x) (omega arith) in
      let loaded : static_at layout statics (Tree n) ≡ Some (bytes_at (64 * k) 64 statics) =
      (static_at-is layout statics (Tree n) (bytes_at (64 * k) 64 statics)).1 (record { n = k; below = inside; stands = place; holds = refl }) in
      sym read.payload_is ∙ given-static read.block (static_at layout statics (Tree n)) (bytes_at (64 * k) 64 statics) (last_write (Tree n) (history (Note Enter ∷ read.before))) read.unwritten loaded expected

  static-leaf : (n : ℕ) → is_static layout n ≡ true → HasWordsAt (static_memory layout statics) (start_at layout (Tree n)) (contents (scheme_of layout veil) new n)
  static-leaf n is =
      let at = static-at layout n is in
      let k : ℕ = n - first_static layout in
      let number : n ≡ first_static layout + k = omega (arith, at.from) in
      let inside : k < static_blocks layout = omega (arith, at.from, at.below) in
      let short : k < length payloads = omega (arith, inside, entered.reads) in
      let found = slice_get-get_or payloads k [] short in
      let same = static-payload k _ inside found in
      record {
        payload = bytes_at (64 * k) 64 statics;
        is = ap (λ (x : ℕ). contents (scheme_of layout veil) new x) number ∙ entered.statics k inside ∙ found ∙ ap (λ (p : List ℕ). Some p) same;
        words = static-words layout statics n k number inside;
      }

  other-leaf : (n : ℕ) → IsTrue (is_memory_block layout (Tree n)) → is_static layout n ≡ false
      → HasWordsAt (static_memory layout statics) (start_at layout (Tree n)) (contents (scheme_of layout veil) new n)
  unfolding scheme_of
  other-leaf n is other =
      let leaf : nodes_of layout ≤ n = block-node layout n is in
      let below : n < nodes_of layout + data_blocks layout = grind (arith, nat_tests) in
      let early : n < first_static layout = elim (cases_lt n (first_static layout)) [
        | inl less ↦ less
        | inr from ↦ let e : true ≡ false = sym (static-is layout n from (omega (arith, below))) ∙ other in cc
      ] in
      record {
        payload = replicate 64 0;
        is = entered.zeros n leaf (block-inside layout n is) other;
        words = early-words layout statics n leaf early;
      }

  pub leaves-entered : HasLeaves layout veil new (static_memory layout statics)
  leaves-entered n is =
      elim (cases_Bool (is_static layout n)) [
        | inl static ↦ static-leaf n static
        | inr other ↦ other-leaf n is other
      ]

-- ---- the law

pub entered-law : (L : Type 0) → EnteringGivesStatics L
entered-law L statics old new digest long entered faithful = record { block = blocks }
  where
    -- the last write-back of a tree block is the one from before the log was written
    last : (n : ℕ) → last_write (Tree n) (history new.trace) ≡ last_write (Tree n) (history entered.does.middle)
    last n =
        ap (λ (t : List Event). last_write (Tree n) (history t)) entered.does.started
        ∙ elsewhere-last n entered.does.middle (entered.does.middle ++ zeros_written entered.does.last old.layout.log)
        (zeros-elsewhere entered.does.last old.layout.log entered.does.middle entered.does.middle (GrowsElsewhere.no_more entered.does.middle))

    leaves : HasLeaves new.layout (hidden_payload old.veil) (state_of new.lines new.tree.root entered.does.middle) (static_memory new.layout statics)
    leaves = by old.layout entered.layout entered.does.entered
      where
        by : (l : Layout) → l ≡ new.layout
            → Entered l (scheme_of l (hidden_payload old.veil)) (state_of empty old.root (Note Enter ∷ [])) (state_of new.lines new.tree.root entered.does.middle) digest
            → HasLeaves new.layout (hidden_payload old.veil) (state_of new.lines new.tree.root entered.does.middle) (static_memory new.layout statics)
        by l same one =
            leaves-entered new.layout (hidden_payload old.veil) statics (state_of empty old.root (Note Enter ∷ [])) (state_of new.lines new.tree.root entered.does.middle) digest
            (subst (λ (x : Layout). Entered x (scheme_of x (hidden_payload old.veil)) (state_of empty old.root (Note Enter ∷ [])) (state_of new.lines new.tree.root entered.does.middle) digest) same one)
            (zeros_written entered.does.last old.layout.log) refl
            (subst (λ (t : List Event). TreeFaithful (static_at new.layout statics) (history t)) entered.does.started faithful)

    leaf-same : (n : ℕ) → contents_of_place new (Tree n) ≡ contents (scheme_of new.layout (hidden_payload old.veil)) (state_of new.lines new.tree.root entered.does.middle) n
    leaf-same n =
        ap (λ (v : Padding). contents_in (scheme_of new.layout (hidden_payload v)) n (get new.lines n) (last_write (Tree n) (history new.trace))) entered.same.veil
        ∙ ap (λ (o : Option Block). contents_in (scheme_of new.layout (hidden_payload old.veil)) n (get new.lines n) o) (last n)

    blocks : (place : Place) → IsTrue (is_memory_block new.layout place) → HasWordsAt (static_memory new.layout statics) (start_at new.layout place) (contents_of_place new place)
    blocks (Tree n) is = subst (λ (o : Option (List ℕ)). HasWordsAt (static_memory new.layout statics) (start_at new.layout (Tree n)) o) (sym (leaf-same n)) (leaves n is)
    blocks (Log n) is = record {
      payload = replicate 64 0;
      is = entered.log n (grind (arith, nat_tests, is));
      words = log-words new.layout statics n;
    }
