-- What an access reads of data blocks, and what they contain after it, where each tree block that was read is as it was written.
use Rattle.std.proofs.Common.{◌≡◌, ℕ, ◌/◌, ◌<◌, ◌≤◌, true, false, Option, Some, None, List, [], ◌∷◌, ◌++◌, length, refl, sym, ap, ◌∙◌, subst, append_assoc, inl, inr}
use Rattle.std.specs.Prelude.{IsTrue, Ok, option_map, slice_index, slice_set}
use Rattle.std.specs.FinMap.{get}
use Rattle.std.specs.Bool.{OnTrue}
use Rattle.std.proofs.lemmas.Bool.{cases_Bool}
use Rattle.std.proofs.lemmas.List.{append-nil, append_cancel_left}
use Rattle.aegis_num.specs.declared.storage.Block.{Block}
use Rattle.aegis_num.specs.declared.storage.Place.{Place}
use Rattle.aegis_num.specs.declared.storage.Place.TheVariants.{Log, Tree}
use Rattle.regions.specs.declared.layout.Layout.{Layout}
use Rattle.regions.specs.Addresses.{data_block_at, log_block_at, offset_at}
use Rattle.regions.specs.Tree.{leaf_of}
use Rattle.off_chip.specs.declared.event.Event.{Event}
use Rattle.off_chip.specs.declared.event.Event.TheVariants.{BlockRead, BlockWrite, WordRead, WordWrite, Note}
use Rattle.off_chip.specs.FaithfulReads.{TreeFaithful, is_expected, is_faithful, is_tree_read}
use Rattle.off_chip.specs.Histories.{History, Each, history}
use Rattle.off_chip.specs.WriteBacks.{last_write, same_place}
use Rattle.off_chip.proofs.HistoryLemmas.{Each-cut, Each-older, Each-weaker, history-append}
use Rattle.off_chip.proofs.WriteLemmas.{last_write-in_order, same_place-Decides}
use Rattle.line_cache.specs.declared.lines.Line.{Line}
use Rattle.hash_tree.specs.AsWritten.{AllAsWritten, UnfaithfulTreeRead, is_as_written, is_written_block}
use Rattle.hash_tree.specs.HashTrees.{scheme_of}
use Rattle.hash_tree.specs.Schemes.{Scheme}
use Rattle.hash_tree.specs.Standing.{IsHome, IsKeptDigest, KeepsContents, SameContents, State, contents, contents_in, payload_in}
use Rattle.hash_tree.specs.TreeSteps.{Stops}
use Rattle.hash_tree.proofs.AsWrittenLemmas.{as_written-block}
use Rattle.stamp_log.specs.LogCalls.{Fetches as LogFetches, MakesRoom}
use Rattle.stamp_log.specs.LogState.{stamped}
use Rattle.orbis_core.specs.ByteOrder.{words_in}
use Rattle.secure_memory.specs.BlockWords.{AreWordsAt, IsPlaced, is_memory_block, place_at, start_at}
use Rattle.secure_memory.specs.MemoryAccesses.{IsReachedBy, Puts, IsPutBy, Reaches, changed}
use Rattle.secure_memory.specs.MemorySights.{HasWordsAt, Sight, contents_of_place, tree_state, veil_of}
use Rattle.secure_memory.specs.PrivatePads.{Padding, hidden_payload}
use Rattle.secure_memory.proofs.AccessLemmas.{LiesAt, lies-at, log-place, words-here, words-there}
use Rattle.secure_memory.proofs.EventLists.{GrowsElsewhere, log_read-elsewhere, room-elsewhere}
use Rattle.secure_memory.proofs.StoreActs.{Left, tree-left, with_tree_line}
use Rattle.secure_memory.proofs.TreeActs.{same-leaf}
use Rattle.regions.specs.declared.addresses.TheConstants.{LOG_START, OPEN_END}
use Rattle.faithful_memory.specs.DataContents.{TreeReadsAsWritten}
use Rattle.faithful_memory.specs.KnownWords.{AllGiveDataWords, HasDataContents, TreeAsWritten}
use Rattle.faithful_memory.proofs.ReadLemmas.{leaves-in, moves-give}
use Rattle.faithful_memory.proofs.TreeKept.{data-kept, elsewhere-last, tree-kept}
use Rattle.faithful_memory.proofs.WordsKept.{GivenData, all-data, given_data-each}

-- ---- tree reads that are as they were written

abbrev IsTreeWritten : Event → History → Type 0
IsTreeWritten event older = OnTrue (is_tree_read event) (IsTrue (is_as_written event older))

pub tree-all : (older : History) → AllAsWritten older → TreeAsWritten older
tree-all older all = record { each = Each-weaker (λ event older. IsTrue (is_as_written event older)) IsTreeWritten one older all.each }
  where
    one : (event : Event) (older : History) → IsTrue (is_as_written event older) → IsTreeWritten event older
    one (BlockRead (Tree n) block) older is = is
    one (BlockRead (Log n) block) older is = tt
    one (BlockWrite at block) older is = tt
    one (WordRead who at word) older is = tt
    one (WordWrite who at word) older is = tt
    one (Note mark) older is = tt

tree-image : (image : Place → Option (List ℕ)) (older : History) → TreeFaithful image older → TreeAsWritten older
tree-image image older faithful =
    record { each = Each-weaker (λ event older. OnTrue (is_tree_read event) (IsTrue (is_faithful image event older))) IsTreeWritten one older faithful.each }
  where
    weaker : (place : Place) (block : Block) (o : Option Block) → is_expected (image place) block o ≡ true → is_written_block block o ≡ true
    weaker place block None is = refl
    weaker place block (Some written) is = is

    one : (event : Event) (older : History) → OnTrue (is_tree_read event) (IsTrue (is_faithful image event older)) → IsTreeWritten event older
    one (BlockRead (Tree n) block) older is = weaker (Tree n) block (last_write (Tree n) older) is
    one (BlockRead (Log n) block) older is = tt
    one (BlockWrite at block) older is = tt
    one (WordRead who at word) older is = tt
    one (WordWrite who at word) older is = tt
    one (Note mark) older is = tt

pub tree-older : (before after events : List Event) → after ≡ before ++ events → TreeAsWritten (history after) → TreeAsWritten (history before)
tree-older before after events same all =
    record { each = Each-older IsTreeWritten (history before) events (subst (λ (h : History). Each IsTreeWritten h) (history-append after before events same) all.each) }

not-unfaithful : (trace : List Event) → UnfaithfulTreeRead trace → TreeAsWritten (history trace) → ⊥
not-unfaithful trace unfaithful all =
    let here = Each-cut IsTreeWritten trace unfaithful.before (BlockRead (Tree unfaithful.n) unfaithful.block) unfaithful.rest unfaithful.parts all.each in
    unfaithful.differ (as_written-block (Tree unfaithful.n) unfaithful.block unfaithful.written (history unfaithful.before)
    ((last_write-in_order (Tree unfaithful.n) unfaithful.before unfaithful.written).1 unfaithful.last) here)

pub contents-same : (scheme : Scheme) (old new : State) → KeepsContents scheme old new → TreeAsWritten (history new.trace) → SameContents scheme old new
contents-same scheme old new keeps all = elim keeps.kept [ inl same ↦ same | inr deceived ↦ absurd (not-unfaithful new.trace deceived.unfaithful all) ]

-- a load does not stop
kept-digest : (scheme : Scheme) (state : State) (n : ℕ) (kept : List ℕ) (block : Block) → IsHome scheme state → n < scheme.blocks → last_write (Tree n) (history state.trace) ≡ Some block
    → IsKeptDigest scheme state n kept → scheme.digests.digest n block ≡ kept
kept-digest scheme state n kept block home inside last (IsKeptDigest.on_chip first is) =
    let P : ℕ → Type 0 = λ m. last_write (Tree m) (history state.trace) ≡ Some block → scheme.digests.digest m block ≡ kept in
    subst P (sym first) (λ (root : last_write (Tree 0) (history state.trace) ≡ Some block). sym (is ∙ home.root block root)) last
kept-digest scheme state n kept block home inside last (IsKeptDigest.in_parent line some held is) =
    let payload = ap (λ (o : Option Line). payload_in o (last_write (Tree (scheme.digests.parent n)) (history state.trace))) held in
    sym (is ∙ home.slots n block line.payload some inside last payload)

not-stopped : (scheme : Scheme) (pinned : List ℕ) (old new : State) (event : ℕ) → Stops scheme pinned old new event → TreeAsWritten (history new.trace) → ⊥
not-stopped scheme pinned old new event stops all =
    elim stops.moved.stands.home [
      | inr deceived ↦ not-unfaithful stops.middle.trace deceived.unfaithful (tree-older stops.middle.trace new.trace (BlockRead (Tree stops.n) stops.block ∷ []) stops.read all)
      | inl home ↦
          let written = home.written stops.n stops.inside in
          let here = Each-cut IsTreeWritten new.trace stops.middle.trace (BlockRead (Tree stops.n) stops.block) [] stops.read all.each in
          let same : stops.block ≡ written.0 = as_written-block (Tree stops.n) stops.block written.0 (history stops.middle.trace) written.1 here in
          stops.differs (ap (λ (b : Block). scheme.digests.digest stops.n b) same
          ∙ kept-digest scheme stops.middle stops.n stops.kept written.0 home stops.inside written.1 stops.is_kept)
    ]

pub tree-law : TreeReadsAsWritten
tree-law = record { all = tree-all; image = tree-image; stops = not-stopped }

-- ---- a block that was reached

-- the contents of a block, by the payload of its line
same-line : (scheme : Scheme) (n : ℕ) (one other : Option Line) (written : Option Block) → option_map (λ (line : Line). line.payload) one ≡ option_map (λ (line : Line). line.payload) other
    → contents_in scheme n one written ≡ contents_in scheme n other written
same-line scheme n (Some a) (Some b) written same = same
same-line scheme n None None written same = refl
same-line scheme n (Some a) None written same = let e : Some a.payload ≡ None = same in cc
same-line scheme n None (Some b) written same = let e : None ≡ Some b.payload = same in cc

scheme-same : {L : Type 0} (old new : Sight L) (n : ℕ) → new.layout ≡ old.layout → new.tree.veil ≡ old.tree.veil
    → contents_of_place new (Tree n) ≡ contents (scheme_of old.layout (veil_of old)) (tree_state new) n
scheme-same old new n layout veil =
    ap (λ (l : Layout). contents (scheme_of l (veil_of new)) (tree_state new) n) layout
    ∙ ap (λ (v : Padding). contents (scheme_of old.layout (hidden_payload v)) (tree_state new) n) veil

log-elsewhere : {L : Type 0} (at : ℕ) (old new : Sight L) → LogFetches old.log.blocks (log_block_at at) (Ok tt) old.trace new.trace old.log.lines new.log.lines → GrowsElsewhere old.trace new.trace
log-elsewhere at old new fetches =
    GrowsElsewhere.one_more old.trace fetches.middle new.trace (BlockRead (Log (log_block_at at)) fetches.read)
    (room-elsewhere old.log.blocks old.trace old.trace fetches.middle old.log.lines fetches.between fetches.makes (GrowsElsewhere.no_more old.trace))
    (log_read-elsewhere (log_block_at at) fetches.read) fetches.event

pub reaches-data : {L : Type 0} (at : ℕ) (old new : Sight L) (memory : ℕ → ℕ) (reaches : Reaches at old new) → TreeAsWritten (history new.trace) → HasDataContents old memory
    → HasDataContents new memory
reaches-data {L} at old new memory reaches all has = data-kept old new memory reaches.acts.parts.layout (by reaches.by) has
  where
    by : IsReachedBy at old new → (n : ℕ) → IsTrue (is_memory_block old.layout (Tree n)) → contents_of_place new (Tree n) ≡ contents_of_place old (Tree n)
    by (IsReachedBy.by_tree below log moved) n is =
        scheme-same old new n reaches.acts.parts.layout reaches.acts.parts.veil
        ∙ same-leaf old.layout (veil_of old) (tree_state old) (tree_state new) n is
        (contents-same (scheme_of old.layout (veil_of old)) (tree_state old) (tree_state new) moved.contents all)
    by (IsReachedBy.by_log from tree lines fetches) n is =
        tree-kept old new n (record { layout = reaches.acts.parts.layout; tree = tree; lines = lines }) (elsewhere-last n old.trace new.trace (log-elsewhere at old new fetches))
    by (IsReachedBy.cached trace lines) n is =
        scheme-same old new n reaches.acts.parts.layout reaches.acts.parts.veil
        ∙ ap (λ (t : List Event). contents_in (scheme_of old.layout (veil_of old)) n (get new.lines n) (last_write (Tree n) (history t))) trace
        ∙ same-line (scheme_of old.layout (veil_of old)) n (get new.lines n) (get old.lines n) (last_write (Tree n) (history old.trace)) (lines (Tree n))

log-data : {L : Type 0} (at : ℕ) (old new : Sight L) (memory : ℕ → ℕ) (events : List Event) → new.trace ≡ old.trace ++ events
    → LogFetches old.log.blocks (log_block_at at) (Ok tt) old.trace new.trace old.log.lines new.log.lines → GivenData old.layout (veil_of old) memory events
log-data {L} at old new memory events appended fetches = by fetches.makes
  where
    by : MakesRoom old.log.blocks old.trace fetches.middle old.log.lines fetches.between → GivenData old.layout (veil_of old) memory events
    by (MakesRoom.nothing same held payloads) =
        let one : new.trace ≡ old.trace ++ BlockRead (Log (log_block_at at)) fetches.read ∷ [] =
        fetches.event ∙ ap (λ (t : List Event). t ++ BlockRead (Log (log_block_at at)) fetches.read ∷ []) same in
        subst (λ (es : List Event). GivenData old.layout (veil_of old) memory es)
        (append_cancel_left old.trace (BlockRead (Log (log_block_at at)) fetches.read ∷ []) events (sym one ∙ appended)) (tt, tt)
    by (MakesRoom.written n stamp payload less line same held payloads) =
        let write : Event = BlockWrite (Log n) (stamped payload stamp) in
        let both : new.trace ≡ old.trace ++ (write ∷ BlockRead (Log (log_block_at at)) fetches.read ∷ []) =
        fetches.event ∙ ap (λ (t : List Event). t ++ BlockRead (Log (log_block_at at)) fetches.read ∷ []) same
        ∙ append_assoc old.trace (write ∷ []) (BlockRead (Log (log_block_at at)) fetches.read ∷ []) in
        subst (λ (es : List Event). GivenData old.layout (veil_of old) memory es)
        (append_cancel_left old.trace (write ∷ BlockRead (Log (log_block_at at)) fetches.read ∷ []) events (sym both ∙ appended)) (tt, (tt, tt))

pub reaches-give_data : {L : Type 0} (at : ℕ) (old new : Sight L) (memory : ℕ → ℕ) (reaches : Reaches at old new) → HasDataContents new memory
    → AllGiveDataWords old.layout (veil_of old) memory reaches.events
reaches-give_data at old new memory reaches has = by reaches.by
  where
    by : IsReachedBy at old new → AllGiveDataWords old.layout (veil_of old) memory reaches.events
    by (IsReachedBy.by_tree below log moved) =
        subst (λ (es : List Event). AllGiveDataWords old.layout (veil_of old) memory es)
        (append_cancel_left old.trace moved.moves.events reaches.events (sym moved.moves.appended ∙ reaches.acts.appended))
        (all-data old.layout (veil_of old) memory moved.moves.events
        (moves-give old.layout (veil_of old) _ _ (tree_state old) (tree_state new) memory moved.moves (leaves-in old new memory reaches.acts.parts.layout reaches.acts.parts.veil has)))
    by (IsReachedBy.by_log from tree lines fetches) =
        given_data-each old.layout (veil_of old) memory reaches.events (log-data at old new memory reaches.events reaches.acts.appended fetches)
    by (IsReachedBy.cached trace lines) =
        subst (λ (es : List Event). AllGiveDataWords old.layout (veil_of old) memory es)
        (append_cancel_left old.trace [] reaches.events (append-nil old.trace ∙ sym trace ∙ reaches.acts.appended))
        (given_data-each old.layout (veil_of old) memory [] tt)

-- ---- what a store puts into a line

data-left : {L : Type 0} (value : ℕ → ℕ) (at : ℕ) (payload left : List ℕ) (middle new : Sight L) (memory : ℕ → ℕ) → IsPlaced middle.layout at → OPEN_END ≤ at → new.layout ≡ middle.layout
    → length payload ≡ 64 → words_in left ≡ slice_set (words_in payload) (offset_at at / 4) (value (slice_index (words_in payload) (offset_at at / 4)))
    → Left at payload left middle new → HasDataContents middle memory → HasDataContents new (changed value at memory)
data-left {L} value at payload left middle new memory placed above layout long words leaves has = record {
  block = λ n. subst (λ (l : Layout). IsTrue (is_memory_block l (Tree n)) → HasWordsAt (changed value at memory) (start_at l (Tree n)) (contents_of_place new (Tree n))) (sym layout) (blocks n);
}
  where
    lies : LiesAt middle.layout at
    lies = lies-at middle.layout at placed above

    here : (n : ℕ) → Tree n ≡ place_at middle.layout at → IsTrue (is_memory_block middle.layout (Tree n))
        → HasWordsAt (changed value at memory) (start_at middle.layout (Tree n)) (contents_of_place new (Tree n))
    here n same is =
        let was = has.block n is in
        let before : contents_of_place middle (Tree n) ≡ Some payload = ap (λ (p : Place). contents_of_place middle p) same ∙ leaves.before in
        let e : Some was.payload ≡ Some payload = sym was.is ∙ before in
        let one : was.payload ≡ payload = cc in
        let at_place : AreWordsAt memory (start_at middle.layout (place_at middle.layout at)) payload =
        subst (λ (p : Place). AreWordsAt memory (start_at middle.layout p) payload) same (subst (λ (ps : List ℕ). AreWordsAt memory (start_at middle.layout (Tree n)) ps) one was.words) in
        record {
          payload = left;
          is = ap (λ (p : Place). contents_of_place new p) same ∙ leaves.contents;
          words = subst (λ (p : Place). AreWordsAt (changed value at memory) (start_at middle.layout p) left) (sym same)
              (words-here middle.layout at value memory payload left lies long words at_place);
        }

    blocks : (n : ℕ) → IsTrue (is_memory_block middle.layout (Tree n)) → HasWordsAt (changed value at memory) (start_at middle.layout (Tree n)) (contents_of_place new (Tree n))
    blocks n is =
        elim (cases_Bool (same_place (Tree n) (place_at middle.layout at))) [
          | inl same ↦ here n ((same_place-Decides (Tree n) (place_at middle.layout at)).0 same) is
          | inr differ ↦
              let was = has.block n is in
              record {
                payload = was.payload;
                is = leaves.other_contents (Tree n) is differ ∙ was.is;
                words = words-there middle.layout at value memory (Tree n) was.payload lies is differ was.words;
              }
        ]

data-apart : {L : Type 0} (value : ℕ → ℕ) (at : ℕ) (middle new : Sight L) (memory : ℕ → ℕ) → IsPlaced middle.layout at → LOG_START ≤ at → OPEN_END ≤ at → new.layout ≡ middle.layout
    → ((n : ℕ) → contents_of_place new (Tree n) ≡ contents_of_place middle (Tree n)) → HasDataContents middle memory → HasDataContents new (changed value at memory)
data-apart {L} value at middle new memory placed from above layout same has = record {
  block = λ n. subst (λ (l : Layout). IsTrue (is_memory_block l (Tree n)) → HasWordsAt (changed value at memory) (start_at l (Tree n)) (contents_of_place new (Tree n))) (sym layout)
      (λ (is : IsTrue (is_memory_block middle.layout (Tree n))).
      let was = has.block n is in
      let differ : same_place (Tree n) (place_at middle.layout at) ≡ false = ap (λ (p : Place). same_place (Tree n) p) (log-place middle.layout at from) in
      record {
        payload = was.payload;
        is = same n ∙ was.is;
        words = words-there middle.layout at value memory (Tree n) was.payload (lies-at middle.layout at placed above) is differ was.words;
      });
}

pub puts-data : {L : Type 0} (value : ℕ → ℕ) (left : List ℕ → List ℕ) (at : ℕ) (old middle new : Sight L) (memory : ℕ → ℕ) → Reaches at old middle → IsPlaced old.layout at → OPEN_END ≤ at
    → Puts value left at middle new → HasDataContents middle memory → HasDataContents new (changed value at memory)
puts-data {L} value left at old middle new memory reaches placed above puts has = by puts.by
  where
    there : IsPlaced middle.layout at
    there = subst (λ (l : Layout). IsPlaced l at) (sym reaches.acts.parts.layout) placed

    by : IsPutBy left at puts.payload middle new → HasDataContents new (changed value at memory)
    by (IsPutBy.in_tree cache below is) =
        subst (λ (s : Sight L). HasDataContents s (changed value at memory)) (sym is)
        (subst (λ (l : Layout). HasDataContents (with_tree_line middle cache (leaf_of l (data_block_at at)) (left puts.payload)) (changed value at memory))
        (sym reaches.acts.ready.stands.parts.of_tree)
        (data-left value at puts.payload (left puts.payload) middle (with_tree_line middle cache (leaf_of middle.layout (data_block_at at)) (left puts.payload)) memory there above refl
        puts.long puts.words (tree-left at puts.payload (left puts.payload) middle cache reaches.acts.ready below puts.left_long puts.line) has))
    by (IsPutBy.in_log from is) =
        subst (λ (s : Sight L). HasDataContents s (changed value at memory)) (sym is) (data-apart value at middle _ memory there from above refl (λ n. refl) has)
