-- What a store puts into a line does to a secure memory.
use Rattle.std.proofs.Common.{◌≡◌, ◌≢◌, ℕ, zero, suc, ◌/◌, ◌<◌, ◌≤◌, true, false, Option, Some, None, List, [], ◌∷◌, length, refl, sym, ap, ◌∙◌, subst, arith, inl, inr}
use Rattle.std.specs.Prelude.{IsTrue, option_map, if◌then◌else◌, slice_index, slice_set, slice_index_or}
use Rattle.std.specs.FinMap.{get}
use Rattle.std.proofs.lemmas.Bool.{cases_Bool}
use Rattle.std.proofs.lemmas.Bool.Decides.{nat_tests}
use Rattle.aegis_num.specs.declared.storage.Place.{Place}
use Rattle.aegis_num.specs.declared.storage.Place.TheVariants.{Log, Tree}
use Rattle.regions.specs.declared.addresses.TheConstants.{LOG_START, OPEN_END}
use Rattle.regions.specs.declared.layout.Layout.{Layout}
use Rattle.regions.specs.Addresses.{data_block_at, log_block_at, offset_at}
use Rattle.regions.specs.Tree.{leaf_of}
use Rattle.off_chip.specs.Histories.{History, history}
use Rattle.off_chip.specs.WriteBacks.{same_place}
use Rattle.off_chip.proofs.WriteLemmas.{same_place-Decides}
use Rattle.line_cache.specs.declared.lines.Line.{Line}
use Rattle.line_cache.specs.LineMaps.{LineMap, payload_at, with_payload}
use Rattle.line_cache.proofs.MapLemmas.{get-insert_same, get-insert_other}
use Rattle.hash_tree.specs.AsWritten.{AllAsWritten}
use Rattle.hash_tree.specs.HashTrees.{nodes_of, scheme_of, state_of}
use Rattle.hash_tree.specs.Schemes.{IsLawful}
use Rattle.hash_tree.specs.Standing.{Stands}
use Rattle.hash_tree.specs.TreeLaws.{LendsContents}
use Rattle.hash_tree.proofs.CallLemmas.{line-holds}
use Rattle.hash_tree.proofs.LawProofs.{layouts-law, lending-law}
use Rattle.stamp_log.specs.LogState.{LogLines, line_of, with_line, with_payload as with_line_payload}
use Rattle.stamp_log.proofs.LogLemmas.{line-some, some-line}
use Rattle.std.proofs.lemmas.List.{get_or-set_same, get_or-set_other}
use Rattle.stamp_log.specs.LogLaws.{LendsContents as LendsLogContents}
use Rattle.stamp_log.specs.StandsOn.{contents_in}
use Rattle.stamp_log.proofs.LawProofs.{lending-law as log-lending}
use Rattle.orbis_core.specs.ByteOrder.{words_in}
use Rattle.secure_memory.specs.BlockWords.{AreWordsAt, IsPlaced, after_reads, is_memory_block, place_at, start_at}
use Rattle.secure_memory.specs.MemorySights.{HasWordsAt, IsReady, Sight, contents_of_place, line_in, veil_of}
use Rattle.secure_memory.specs.MemoryAccesses.{Acts, IsPutBy, Puts, Reaches, SameParts, StoresBlock, changed}
use Rattle.secure_memory.specs.PadLaws.{hidden-twice, hidden-long, hidden-node}
use Rattle.secure_memory.specs.PrivatePads.{Padding, hidden_payload}
use Rattle.secure_memory.proofs.AccessLemmas.{LiesAt, data-value, lies-at, log-place, log-value, tree-place, words-here, words-there}
use Rattle.secure_memory.proofs.TreeActs.{block-node, payload-line}

-- what a store leaves: the line of the block of the address has another payload, and the other lines and all other contents are as before
pub record Left {L : Type 0} (at : ℕ) (payload left : List ℕ) (old new : Sight L) : Type 0 where
  pub ready : IsReady new
  pub line : line_in new (place_at old.layout at) ≡ Some left
  pub other_lines : (place : Place) → same_place place (place_at old.layout at) ≡ false → line_in new place ≡ line_in old place
  pub before : contents_of_place old (place_at old.layout at) ≡ Some payload
  pub contents : contents_of_place new (place_at old.layout at) ≡ Some left
  pub other_contents : (place : Place) → IsTrue (is_memory_block old.layout place) → same_place place (place_at old.layout at) ≡ false
      → contents_of_place new place ≡ contents_of_place old place

-- nothing but a tree and a log changed
pub record OnlyLines {L : Type 0} (old new : Sight L) : Type 0 where
  pub layout : new.layout ≡ old.layout
  pub trace : new.trace ≡ old.trace
  pub room : new.room ≡ old.room
  pub parts : SameParts old new

-- a place that is another one, or the very one
by-place : (P : Place → Type 0) (one place : Place) → (same_place place one ≡ false → P place) → P one → P place
by-place P one place other here =
    elim (cases_Bool (same_place place one)) [
      | inr differ ↦ other differ
      | inl same ↦ subst P (sym ((same_place-Decides place one).0 same)) here
    ]

pub left-acts : {L : Type 0} (value : ℕ → ℕ) (at : ℕ) (payload left : List ℕ) (old middle new : Sight L) → (reaches : Reaches at old middle) → IsPlaced old.layout at → OPEN_END ≤ at
    → new.layout ≡ old.layout → middle.layout ≡ old.layout → length payload ≡ 64
    → line_in middle (place_at old.layout at) ≡ Some payload
    → words_in left ≡ slice_set (words_in payload) (offset_at at / 4) (value (slice_index (words_in payload) (offset_at at / 4)))
    → Left at payload left middle new → new.trace ≡ middle.trace → new.room ≡ middle.room → SameParts old new → Acts (changed value at) reaches.events old new
left-acts value at payload left old middle new reaches placed above layout_new layout_middle long line words leaves trace room parts =
    let lies : LiesAt old.layout at = lies-at old.layout at placed above in
    record {
      appended = trace ∙ reaches.acts.appended;
      parts = parts;
      ready = leaves.ready;
      room = omega (arith, reaches.acts.room, room);
      agrees = λ memory agrees. record {
        line = subst (λ (l : Layout). (place : Place) (found : List ℕ) → IsTrue (is_memory_block l place) → line_in new place ≡ Some found
            → AreWordsAt (changed value at (after_reads old.layout (veil_of old) reaches.events memory)) (start_at l place) found) (sym layout_new)
            (lines lies (after_reads old.layout (veil_of old) reaches.events memory)
            (subst (λ (l : Layout). (place : Place) (found : List ℕ) → IsTrue (is_memory_block l place) → line_in middle place ≡ Some found
            → AreWordsAt (after_reads old.layout (veil_of old) reaches.events memory) (start_at l place) found) layout_middle (reaches.acts.agrees memory agrees).line));
      };
      unread = reaches.acts.unread;
      contents = λ all memory has. record {
        block = subst (λ (l : Layout). (place : Place) → IsTrue (is_memory_block l place) → HasWordsAt (changed value at memory) (start_at l place) (contents_of_place new place)) (sym layout_new)
            (blocks lies memory
            (subst (λ (l : Layout). (place : Place) → IsTrue (is_memory_block l place) → HasWordsAt memory (start_at l place) (contents_of_place middle place)) layout_middle
            (reaches.acts.contents (subst (λ (t : List _). AllAsWritten (history t)) trace all) memory has).block));
      };
    }
  where
    one : Place
    one = place_at old.layout at

    line_new : line_in new (place_at old.layout at) ≡ Some left
    line_new = subst (λ (l : Layout). line_in new (place_at l at) ≡ Some left) layout_middle leaves.line

    before : contents_of_place middle (place_at old.layout at) ≡ Some payload
    before = subst (λ (l : Layout). contents_of_place middle (place_at l at) ≡ Some payload) layout_middle leaves.before

    after : contents_of_place new (place_at old.layout at) ≡ Some left
    after = subst (λ (l : Layout). contents_of_place new (place_at l at) ≡ Some left) layout_middle leaves.contents

    lines : LiesAt old.layout at → (memory : ℕ → ℕ)
        → ((place : Place) (found : List ℕ) → IsTrue (is_memory_block old.layout place) → line_in middle place ≡ Some found → AreWordsAt memory (start_at old.layout place) found)
        → (place : Place) (found : List ℕ) → IsTrue (is_memory_block old.layout place) → line_in new place ≡ Some found → AreWordsAt (changed value at memory) (start_at old.layout place) found
    lines lies memory agree place =
        by-place (λ (p : Place). (found : List ℕ) → IsTrue (is_memory_block old.layout p) → line_in new p ≡ Some found → AreWordsAt (changed value at memory) (start_at old.layout p) found)
        (place_at old.layout at) place
        (λ (differ : same_place place (place_at old.layout at) ≡ false) (found : List ℕ) (is : IsTrue (is_memory_block old.layout place)) (has : line_in new place ≡ Some found).
        let same : line_in new place ≡ line_in middle place =
        subst (λ (l : Layout). same_place place (place_at l at) ≡ false → line_in new place ≡ line_in middle place) layout_middle (leaves.other_lines place) differ in
        words-there old.layout at value memory place found lies is differ (agree place found is (sym same ∙ has)))
        (λ (found : List ℕ) (is : IsTrue (is_memory_block old.layout (place_at old.layout at))) (has : line_in new (place_at old.layout at) ≡ Some found).
        let e : Some left ≡ Some found = sym line_new ∙ has in
        let same : left ≡ found = cc in
        subst (λ (p : List ℕ). AreWordsAt (changed value at memory) (start_at old.layout (place_at old.layout at)) p) same
        (words-here old.layout at value memory payload left lies long words (agree (place_at old.layout at) payload is line)))

    blocks : LiesAt old.layout at → (memory : ℕ → ℕ)
        → ((place : Place) → IsTrue (is_memory_block old.layout place) → HasWordsAt memory (start_at old.layout place) (contents_of_place middle place))
        → (place : Place) → IsTrue (is_memory_block old.layout place) → HasWordsAt (changed value at memory) (start_at old.layout place) (contents_of_place new place)
    blocks lies memory has place =
        by-place (λ (p : Place). IsTrue (is_memory_block old.layout p) → HasWordsAt (changed value at memory) (start_at old.layout p) (contents_of_place new p))
        (place_at old.layout at) place
        (λ (differ : same_place place (place_at old.layout at) ≡ false) (is : IsTrue (is_memory_block old.layout place)).
        let same : contents_of_place new place ≡ contents_of_place middle place =
        subst (λ (l : Layout). IsTrue (is_memory_block l place) → same_place place (place_at l at) ≡ false → contents_of_place new place ≡ contents_of_place middle place) layout_middle
        (leaves.other_contents place) is differ in
        let was = has place is in
        record { payload = was.payload; is = same ∙ was.is; words = words-there old.layout at value memory place was.payload lies is differ was.words })
        (λ (is : IsTrue (is_memory_block old.layout (place_at old.layout at))).
        let was = has (place_at old.layout at) is in
        let e : Some was.payload ≡ Some payload = sym was.is ∙ before in
        let same : was.payload ≡ payload = cc in
        record {
          payload = left;
          is = after;
          words = words-here old.layout at value memory payload left lies long words
              (subst (λ (p : List ℕ). AreWordsAt memory (start_at old.layout (place_at old.layout at)) p) same was.words);
        })

-- ---- where the line is one of the tree

lawful : (layout : Layout) (veil : Padding) → veil.layout ≡ layout → IsLawful (scheme_of layout (hidden_payload veil))
lawful layout veil of = layouts-law layout (hidden_payload veil) (hidden-twice veil) (hidden-long veil)
    (λ n stamp payload node. hidden-node veil n stamp payload (subst (λ (l : Layout). n < nodes_of l) (sym of) node))

leaf-apart : (m n : ℕ) → same_place (Tree m) (Tree n) ≡ false → m ≢ n
leaf-apart m n differ = grind (arith, nat_tests)

tree-nodes : (layout : Layout) (veil : ℕ → ℕ → List ℕ → List ℕ) (n : ℕ) → nodes_of layout ≤ n → (scheme_of layout veil).nodes ≤ n
unfolding scheme_of
tree-nodes layout veil n from = from

-- a memory with another payload in a line of its tree
abbrev pub with_tree_line : {L : Type 0} → Sight L → L → ℕ → List ℕ → Sight L
with_tree_line old cache n left = record old { tree = record old.tree { lines = cache }; lines = with_payload old.lines n left }

pub tree-left : {L : Type 0} (at : ℕ) (payload left : List ℕ) (old : Sight L) (cache : L) → IsReady old → at < LOG_START → length left ≡ 64
    → line_in old (place_at old.layout at) ≡ Some payload → Left at payload left old (with_tree_line old cache (leaf_of old.layout (data_block_at at)) left)
tree-left at payload left old cache ready below long line =
    let n : ℕ = leaf_of old.layout (data_block_at at) in
    let place : place_at old.layout at ≡ Tree n = tree-place old.layout at below in
    let here : payload_at old.lines n ≡ Some payload = subst (λ (p : Place). line_in old p ≡ Some payload) place line in
    let found = payload-line (get old.lines n) payload here in
    let stands : Stands (scheme_of old.layout (veil_of old)) (state_of old.lines old.tree.root old.trace) =
    subst (λ (l : Layout). Stands (scheme_of l (veil_of old)) (state_of old.lines old.tree.root old.trace)) ready.stands.parts.of_tree ready.stands.tree_stands in
    let lends : LendsContents (scheme_of old.layout (veil_of old)) (state_of old.lines old.tree.root old.trace) (state_of (with_payload old.lines n left) old.tree.root old.trace) n left =
    lending-law (scheme_of old.layout (veil_of old)) old.lines old.tree.root old.trace n left (lawful old.layout old.tree.veil ready.stands.parts.of_veil) stands
    (tree-nodes old.layout (veil_of old) n (omega arith)) (line-holds old.lines n found.0 found.1) long in
    record {
      ready = record {
        stands = record {
          parts = record { of_tree = ready.stands.parts.of_tree; of_veil = ready.stands.parts.of_veil; of_log = ready.stands.parts.of_log };
          tree_stands = subst (λ (l : Layout). Stands (scheme_of l (veil_of old)) (state_of (with_payload old.lines n left) old.tree.root old.trace)) (sym ready.stands.parts.of_tree) lends.stands;
          log_stands = ready.stands.log_stands;
          stamps_fit = ready.stands.stamps_fit;
        };
        parents = ready.parents;
        few = ready.few;
        told = ready.told;
      };
      line = ap (λ (p : Place). line_in (with_tree_line old cache n left) p) place
          ∙ ap (λ (o : Option Line). option_map (λ (l : Line). l.payload) o) (get-insert_same old.lines n (record { payload = left; dirty = true }));
      other_lines = other_lines;
      before = ap (λ (p : Place). contents_of_place old p) place ∙ before-line found.0 found.1 found.2;
      contents = ap (λ (p : Place). contents_of_place (with_tree_line old cache n left) p) place ∙ lends.here;
      other_contents = λ other is differ. other_contents lends other is (subst (λ (p : Place). same_place other p ≡ false) place differ);
    }
  where
    before-line : (line : Line) → get old.lines (leaf_of old.layout (data_block_at at)) ≡ Some line → line.payload ≡ payload
        → contents_of_place old (Tree (leaf_of old.layout (data_block_at at))) ≡ Some payload
    before-line line is same = rw is (ap (λ (p : List ℕ). Some p) same)

    other_lines : (other : Place) → same_place other (place_at old.layout at) ≡ false
        → line_in (with_tree_line old cache (leaf_of old.layout (data_block_at at)) left) other ≡ line_in old other
    other_lines (Log m) differ = refl
    other_lines (Tree m) differ =
        let apart : m ≢ leaf_of old.layout (data_block_at at) =
        leaf-apart m (leaf_of old.layout (data_block_at at)) (subst (λ (p : Place). same_place (Tree m) p ≡ false) (tree-place old.layout at below) differ) in
        ap (λ (o : Option Line). option_map (λ (l : Line). l.payload) o) (get-insert_other old.lines (leaf_of old.layout (data_block_at at)) m (record { payload = left; dirty = true }) apart)

    other_contents : LendsContents (scheme_of old.layout (veil_of old)) (state_of old.lines old.tree.root old.trace)
        (state_of (with_payload old.lines (leaf_of old.layout (data_block_at at)) left) old.tree.root old.trace) (leaf_of old.layout (data_block_at at)) left
        → (other : Place) → IsTrue (is_memory_block old.layout other) → same_place other (Tree (leaf_of old.layout (data_block_at at))) ≡ false
        → contents_of_place (with_tree_line old cache (leaf_of old.layout (data_block_at at)) left) other ≡ contents_of_place old other
    other_contents lends (Log m) is differ = refl
    other_contents lends (Tree m) is differ =
        lends.others m (tree-nodes old.layout (veil_of old) m (block-node old.layout m is)) (leaf-apart m (leaf_of old.layout (data_block_at at)) differ)

-- ---- where it is one of the log

abbrev pub with_log_line : {L : Type 0} → Sight L → ℕ → List ℕ → Sight L
with_log_line old n left = record old { log = with_line old.log n left }

within : (xs : List (List ℕ)) (n : ℕ) → 0 < length (slice_index_or xs n []) → n < length xs
within [] n some = absurd (omega (arith, some))
within (x ∷ xs) zero some = omega arith
within (x ∷ xs) (suc n) some = omega (arith, within xs n some)

log-apart : (m n : ℕ) → same_place (Log m) (Log n) ≡ false → m ≢ n
log-apart m n differ = grind (arith, nat_tests)

-- the line of the log that has another payload
set-line-here : (lines : LogLines) (n : ℕ) (payload left : List ℕ) → line_of lines n ≡ Some payload → length payload ≡ 64 → line_of (with_line_payload lines n left) n ≡ Some left
set-line-here lines n payload left line long =
    let held : slice_index_or lines.held n false ≡ true = some-line (slice_index_or lines.held n false) (slice_index_or lines.payloads n []) payload line in
    let here : Some (slice_index_or lines.payloads n []) ≡ Some payload = sym (line-some lines n held) ∙ line in
    let same : slice_index_or lines.payloads n [] ≡ payload = cc in
    let whole : length (slice_index_or lines.payloads n []) ≡ 64 = ap (λ (p : List ℕ). length p) same ∙ long in
    let less : n < length lines.payloads = within lines.payloads n (omega (arith, whole)) in
    line-some (with_line_payload lines n left) n held ∙ ap (λ (p : List ℕ). Some p) (get_or-set_same lines.payloads n left [] less)

set-line-apart : (lines : LogLines) (n m : ℕ) (left : List ℕ) → m ≢ n → line_of (with_line_payload lines n left) m ≡ line_of lines m
set-line-apart lines n m left differ =
    ap (λ (p : List ℕ). if slice_index_or lines.held m false then Some p else None) (get_or-set_other lines.payloads n m left [] differ)

line-contents : (lines : LogLines) (older : History) (n : ℕ) (payload : List ℕ) → line_of lines n ≡ Some payload → contents_in lines older n ≡ Some payload
line-contents lines older n payload line = rw line refl

pub log-left : {L : Type 0} (at : ℕ) (payload left : List ℕ) (old : Sight L) → IsReady old → LOG_START ≤ at → length payload ≡ 64
    → line_in old (place_at old.layout at) ≡ Some payload → Left at payload left old (with_log_line old (log_block_at at) left)
log-left at payload left old ready from long line =
    let n : ℕ = log_block_at at in
    let place : place_at old.layout at ≡ Log n = log-place old.layout at from in
    let here : line_of old.log.lines n ≡ Some payload = subst (λ (p : Place). line_in old p ≡ Some payload) place line in
    let lends : LendsLogContents old.log (history old.trace) n left = log-lending old.log (history old.trace) n payload left ready.stands.log_stands here long in
    record {
      ready = record {
        stands = record {
          parts = record { of_tree = ready.stands.parts.of_tree; of_veil = ready.stands.parts.of_veil; of_log = ready.stands.parts.of_log };
          tree_stands = ready.stands.tree_stands;
          log_stands = lends.stands;
          stamps_fit = ready.stands.stamps_fit;
        };
        parents = ready.parents;
        few = ready.few;
        told = ready.told;
      };
      line = ap (λ (p : Place). line_in (with_log_line old n left) p) place ∙ set-line-here old.log.lines n payload left here long;
      other_lines = other_lines;
      before = ap (λ (p : Place). contents_of_place old p) place ∙ line-contents old.log.lines (history old.trace) n payload here;
      contents = ap (λ (p : Place). contents_of_place (with_log_line old n left) p) place ∙ lends.here;
      other_contents = λ other is differ. other_contents lends other (subst (λ (p : Place). same_place other p ≡ false) place differ);
    }
  where
    other_lines : (other : Place) → same_place other (place_at old.layout at) ≡ false → line_in (with_log_line old (log_block_at at) left) other ≡ line_in old other
    other_lines (Tree m) differ = refl
    other_lines (Log m) differ =
        set-line-apart old.log.lines (log_block_at at) m left (log-apart m (log_block_at at) (subst (λ (p : Place). same_place (Log m) p ≡ false) (log-place old.layout at from) differ))

    other_contents : LendsLogContents old.log (history old.trace) (log_block_at at) left → (other : Place) → same_place other (Log (log_block_at at)) ≡ false
        → contents_of_place (with_log_line old (log_block_at at) left) other ≡ contents_of_place old other
    other_contents lends (Tree m) differ = refl
    other_contents lends (Log m) differ = lends.others m (log-apart m (log_block_at at) differ)

-- ---- a store, from what is put into the line

pub puts-acts : {L : Type 0} (value : ℕ → ℕ) (left : List ℕ → List ℕ) (at : ℕ) (old middle new : Sight L) → (reaches : Reaches at old middle) → IsPlaced old.layout at → OPEN_END ≤ at
    → Puts value left at middle new → StoresBlock value left at old new
puts-acts {L} value left at old middle new reaches placed above puts = record { middle = middle; reaches = reaches; puts = puts; acts = acts puts.by }
  where
    parts-of : (new : Sight L) → SameParts middle new → SameParts old new
    parts-of new parts =
        let first = reaches.acts.parts in
        record {
          layout = parts.layout ∙ first.layout;
          mode = parts.mode ∙ first.mode;
          veil = parts.veil ∙ first.veil;
          pinned = parts.pinned ∙ first.pinned;
          key = parts.key ∙ first.key;
          told = parts.told ∙ first.told;
        }

    acts : IsPutBy left at puts.payload middle new → Acts (changed value at) reaches.events old new
    acts (IsPutBy.in_tree cache below is) =
        subst (λ (s : Sight L). Acts (changed value at) reaches.events old s) (sym is)
        (subst (λ (l : Layout). Acts (changed value at) reaches.events old (with_tree_line middle cache (leaf_of l (data_block_at at)) (left puts.payload)))
        (sym reaches.acts.ready.stands.parts.of_tree)
        (left-acts value at puts.payload (left puts.payload) old middle (with_tree_line middle cache (leaf_of middle.layout (data_block_at at)) (left puts.payload)) reaches placed above
        reaches.acts.parts.layout reaches.acts.parts.layout puts.long (subst (λ (l : Layout). line_in middle (place_at l at) ≡ Some puts.payload) reaches.acts.parts.layout puts.line) puts.words
        (tree-left at puts.payload (left puts.payload) middle cache reaches.acts.ready below puts.left_long puts.line) refl refl
        (parts-of (with_tree_line middle cache (leaf_of middle.layout (data_block_at at)) (left puts.payload))
        (record { layout = refl; mode = refl; veil = refl; pinned = refl; key = refl; told = refl }))))
    acts (IsPutBy.in_log from is) =
        subst (λ (s : Sight L). Acts (changed value at) reaches.events old s) (sym is)
        (left-acts value at puts.payload (left puts.payload) old middle (with_log_line middle (log_block_at at) (left puts.payload)) reaches placed above
        reaches.acts.parts.layout reaches.acts.parts.layout puts.long (subst (λ (l : Layout). line_in middle (place_at l at) ≡ Some puts.payload) reaches.acts.parts.layout puts.line) puts.words
        (log-left at puts.payload (left puts.payload) middle reaches.acts.ready from puts.long puts.line) refl refl
        (parts-of (with_log_line middle (log_block_at at) (left puts.payload))
        (record { layout = refl; mode = refl; veil = refl; pinned = refl; key = refl; told = refl })))

-- ---- what a loan of a line leaves

pub tree-puts : {L : Type 0} (value : ℕ → ℕ) (left : List ℕ → List ℕ) (at : ℕ) (payload put : List ℕ) (old : Sight L) (cache : L) (lines : LineMap) → old.tree.layout ≡ old.layout
    → at < LOG_START → payload_at old.lines (leaf_of old.tree.layout (data_block_at at)) ≡ Some payload → length payload ≡ 64 → length put ≡ 64 → put ≡ left payload
    → words_in (left payload) ≡ slice_set (words_in payload) (offset_at at / 4) (value (slice_index (words_in payload) (offset_at at / 4)))
    → lines ≡ with_payload old.lines (leaf_of old.tree.layout (data_block_at at)) put
    → Puts value left at old (record old { tree = record old.tree { lines = cache }; lines = lines })
tree-puts value left at payload put old cache lines of below line long put_long is words put_in = record {
  payload = payload;
  line = data-value at old payload of below line;
  long = long;
  left_long = ap (λ (p : List ℕ). length p) (sym is) ∙ put_long;
  words = words;
  by = IsPutBy.in_tree cache below (ap (λ (ls : LineMap). record old { tree = record old.tree { lines = cache }; lines = ls })
      (put_in ∙ ap (λ (p : List ℕ). with_payload old.lines (leaf_of old.tree.layout (data_block_at at)) p) is));
}

pub log-puts : {L : Type 0} (value : ℕ → ℕ) (left : List ℕ → List ℕ) (at : ℕ) (payload put : List ℕ) (old : Sight L) → LOG_START ≤ at → line_of old.log.lines (log_block_at at) ≡ Some payload
    → length payload ≡ 64 → length put ≡ 64 → put ≡ left payload
    → words_in (left payload) ≡ slice_set (words_in payload) (offset_at at / 4) (value (slice_index (words_in payload) (offset_at at / 4)))
    → Puts value left at old (record old { log = with_line old.log (log_block_at at) put })
log-puts value left at payload put old from line long put_long is words = record {
  payload = payload;
  line = log-value at old payload from line;
  long = long;
  left_long = ap (λ (p : List ℕ). length p) (sym is) ∙ put_long;
  words = words;
  by = IsPutBy.in_log from (ap (λ (p : List ℕ). record old { log = with_line old.log (log_block_at at) p }) is);
}
