-- What a load of the tree does to a secure memory.
use Rattle.std.proofs.Common.{◌≡◌, ℕ, ◌+◌, ◌*◌, ◌<◌, ◌≤◌, Bool, true, Option, Some, None, List, [], ◌∷◌, ◌++◌, refl, sym, ap, ◌∙◌, subst, arith, append_assoc}
use Rattle.std.specs.Prelude.{IsTrue, is_some, option_map, if◌then◌else◌, nat_lt, slice_index}
use Rattle.std.proofs.lemmas.Bool.Decides.{nat_tests}
use Rattle.std.specs.FinMap.{get}
use Rattle.aegis_num.specs.declared.storage.Place.{Place}
use Rattle.aegis_num.specs.declared.storage.Place.TheVariants.{Log, Tree}
use Rattle.regions.specs.declared.addresses.TheConstants.{LOG_START}
use Rattle.regions.specs.declared.layout.Layout.{Layout}
use Rattle.regions.specs.Addresses.{IsInData, data_block_at, log_block_at}
use Rattle.regions.specs.Blocks.{data_blocks}
use Rattle.regions.specs.Tree.{leaf_of, tree_blocks}
use Rattle.regions.proofs.TreeLaws.{IsHeight-height_of}
use Rattle.off_chip.specs.declared.event.Event.{Event}
use Rattle.off_chip.specs.declared.event.Event.TheVariants.{BlockRead}
use Rattle.off_chip.specs.BusCalls.{TellsOnly}
use Rattle.off_chip.specs.Histories.{history}
use Rattle.off_chip.specs.WriteBacks.{StampsFit}
use Rattle.line_cache.specs.declared.lines.Line.{Line}
use Rattle.line_cache.specs.LineMaps.{Holds, LineMap, payload_at}
use Rattle.hash_tree.specs.AsWritten.{AllAsWritten}
use Rattle.hash_tree.specs.CachedLines.{held_in}
use Rattle.hash_tree.specs.HashTrees.{nodes_of, scheme_of, state_of}
use Rattle.hash_tree.specs.Paths.{path_of}
use Rattle.hash_tree.specs.Standing.{State, SameContents, Stands, contents}
use Rattle.hash_tree.specs.TreeParts.{SameTree, TreeParts}
use Rattle.hash_tree.specs.TreeSteps.{Moved, ReadsFirst, Stops, uncached}
use Rattle.hash_tree.proofs.CallLemmas.{held-line}
use Rattle.orbis_core.specs.declared.memory.Stop.TheVariants as stop
use Rattle.orbis_core.specs.ByteOrder.{words_in}
use Rattle.secure_memory.specs.BlockWords.{AreWordsAt, after_reads, is_memory_block, place_at, start_at}
use Rattle.secure_memory.specs.MemorySights.{Agrees, HasContents, HasWordsAt, IsReady, Sight, contents_of_place, line_in, veil_of}
use Rattle.secure_memory.specs.MemoryAccesses.{IsReachedBy, IsStopped, IsStoppedBy, Reaches}
use Rattle.secure_memory.specs.PrivatePads.{Padding, hidden_payload}
use Rattle.secure_memory.proofs.PlaceLemmas.{reads-last, reads-none}
use Rattle.secure_memory.proofs.TreeReach.{All-append-one, LineFrom, LogStays, all-move, contents-kept, held-unread, line-from, log-stays, no-log_read}

-- a memory with another tree and a longer trace
abbrev pub with_tree : {L : Type 0} → Sight L → TreeParts L Padding → LineMap → ℕ → List Event → ℕ → Option Layout → Sight L
with_tree old tree lines stamps trace room told = record old { tree = tree; lines = lines; stamps = stamps; trace = trace; room = room; told = told }

-- what a load of the tree gives
pub record TreeLoad {L : Type 0} (at : ℕ) (old : Sight L) (tree : TreeParts L Padding) (lines : LineMap) (stamps : ℕ) (trace : List Event) (room : ℕ) (told : Option Layout) : Type 0 where
  pub ready : IsReady old
  pub inside : IsInData old.layout at
  pub same : SameTree old.tree tree
  pub moved : Moved (scheme_of old.tree.layout (veil_of old)) (old.pinned ++ path_of old.tree.layout (data_block_at at)) (state_of old.lines old.tree.root old.trace)
      (state_of lines tree.root trace) (uncached (held_in old.lines) (path_of old.tree.layout (data_block_at at)))
  pub held : Holds lines (leaf_of old.tree.layout (data_block_at at))
  pub fit : StampsFit stamps (history trace)
  pub few : old.room ≤ room + 160
  pub tells : told ≡ old.told

-- the payload in a line
pub payload-line : (o : Option Line) (payload : List ℕ) → option_map (λ (line : Line). line.payload) o ≡ Some payload → (line : Line) × (o ≡ Some line) × (line.payload ≡ payload)
payload-line (Some line) payload is = (line, refl, cc)
payload-line None payload is = let e : None ≡ Some payload = is in cc

pub some-payload : (o : Option Line) → is_some (option_map (λ (line : Line). line.payload) o) ≡ true → is_some o ≡ true
some-payload (Some line) is = refl
some-payload None is = cc

pub block-node : (layout : Layout) (n : ℕ) → IsTrue (is_memory_block layout (Tree n)) → nodes_of layout ≤ n
block-node layout n is = grind (arith, nat_tests)

pub block-inside : (layout : Layout) (n : ℕ) → IsTrue (is_memory_block layout (Tree n)) → n < tree_blocks layout
block-inside layout n is =
    let below : n < nodes_of layout + data_blocks layout = grind (arith, nat_tests) in
    omega (arith, below, (IsHeight-height_of layout).enough)

-- a memory that agrees with the lines agrees with the new ones after the reads
lines-agree : {L : Type 0} (old : Sight L) (pinned reads : List ℕ) (root : List ℕ) (lines : LineMap) (trace : List Event)
    (moved : Moved (scheme_of old.layout (veil_of old)) pinned (state_of old.lines old.tree.root old.trace) (state_of lines root trace) reads)
    (memory : ℕ → ℕ) (n : ℕ) (payload : List ℕ) → Agrees old memory → IsTrue (is_memory_block old.layout (Tree n)) → payload_at lines n ≡ Some payload
    → AreWordsAt (after_reads old.layout (veil_of old) moved.moves.events memory) (start_at old.layout (Tree n)) payload
unfolding scheme_of
lines-agree old pinned reads root lines trace moved memory n payload agrees is found =
    let line = payload-line (get lines n) payload found in
    by (line-from (scheme_of old.layout (veil_of old)) pinned (state_of old.lines old.tree.root old.trace) (state_of lines root trace) reads n line.0 moved.moves
    (block-node old.layout n is) line.1) line.2
  where
    by : {line : Line} → LineFrom (scheme_of old.layout (veil_of old)) moved.moves.events (state_of old.lines old.tree.root old.trace) n line → line.payload ≡ payload
        → AreWordsAt (after_reads old.layout (veil_of old) moved.moves.events memory) (start_at old.layout (Tree n)) payload
    by (LineFrom.kept none was) same = λ k less.
        reads-none old.layout (veil_of old) (Tree n) moved.moves.events memory k is less none
        ∙ agrees.line (Tree n) payload is (ap (λ (o : Option Line). option_map (λ (l : Line). l.payload) o) was ∙ ap (λ (p : List ℕ). Some p) same) k less
    by (LineFrom.came before block rest parts none read) same = λ k less.
        ap (λ (es : List Event). after_reads old.layout (veil_of old) es memory (start_at old.layout (Tree n) + 4 * k)) parts
        ∙ reads-last old.layout (veil_of old) (Tree n) before block rest memory k is less none
        ∙ ap (λ (p : List ℕ). slice_index (words_in p) k) (sym read ∙ same)

-- a block with a line is not read
lines-unread : {L : Type 0} (old : Sight L) (pinned path : List ℕ) (root : List ℕ) (lines : LineMap) (trace : List Event)
    (moved : Moved (scheme_of old.layout (veil_of old)) pinned (state_of old.lines old.tree.root old.trace) (state_of lines root trace) (uncached (held_in old.lines) path))
    (memory : ℕ → ℕ) (place : Place) (k : ℕ) → IsTrue (is_memory_block old.layout place) → is_some (line_in old place) ≡ true → k < 16
    → after_reads old.layout (veil_of old) moved.moves.events memory (start_at old.layout place + 4 * k) ≡ memory (start_at old.layout place + 4 * k)
lines-unread old pinned path root lines trace moved memory (Tree n) k is held less =
    reads-none old.layout (veil_of old) (Tree n) moved.moves.events memory k is less
    (held-unread (scheme_of old.layout (veil_of old)) pinned (state_of old.lines old.tree.root old.trace) (state_of lines root trace) path n moved.moves (some-payload (get old.lines n) held))
lines-unread old pinned path root lines trace moved memory (Log n) k is held less =
    reads-none old.layout (veil_of old) (Log n) moved.moves.events memory k is less
    (no-log_read n pinned (state_of old.lines old.tree.root old.trace) (state_of lines root trace) moved.moves.events moved.moves.each)

-- contents are kept where each read gave the last write-back
pub same-leaf : (layout : Layout) (veil : ℕ → ℕ → List ℕ → List ℕ) (old new : State) (n : ℕ) → IsTrue (is_memory_block layout (Tree n)) → SameContents (scheme_of layout veil) old new
    → contents (scheme_of layout veil) new n ≡ contents (scheme_of layout veil) old n
unfolding scheme_of
same-leaf layout veil old new n is same = same.leaf n (block-node layout n is) (block-inside layout n is)

pub contents-same : {L : Type 0} (old new : Sight L) (memory : ℕ → ℕ) → (same : new.layout ≡ old.layout) → ((place : Place) → IsTrue (is_memory_block old.layout place) → contents_of_place new place ≡ contents_of_place old place)
    → HasContents old memory → (place : Place) → IsTrue (is_memory_block old.layout place) → HasWordsAt memory (start_at old.layout place) (contents_of_place new place)
contents-same old new memory layout same has place is =
    subst (λ (o : Option (List ℕ)). HasWordsAt memory (start_at old.layout place) o) (sym (same place is)) (has.block place is)

-- the tree and the log after a load of the tree
tree-contents : {L : Type 0} (at : ℕ) (old : Sight L) (tree : TreeParts L Padding) (lines : LineMap) (stamps : ℕ) (trace : List Event) (room : ℕ) (told : Option Layout)
    (pinned reads : List ℕ) → (veil : tree.veil ≡ old.tree.veil)
    (moved : Moved (scheme_of old.layout (veil_of old)) pinned (state_of old.lines old.tree.root old.trace) (state_of lines tree.root trace) reads)
    → LogStays old.log old.trace trace → AllAsWritten (history trace) → (place : Place) → IsTrue (is_memory_block old.layout place)
    → contents_of_place (with_tree old tree lines stamps trace room told) place ≡ contents_of_place old place
tree-contents at old tree lines stamps trace room told pinned reads veil moved log all (Tree n) is =
    ap (λ (v : Padding). contents (scheme_of old.layout (hidden_payload v)) (state_of lines tree.root trace) n) veil
    ∙ same-leaf old.layout (veil_of old) (state_of old.lines old.tree.root old.trace) (state_of lines tree.root trace) n is
    (contents-kept (scheme_of old.layout (veil_of old)) (state_of old.lines old.tree.root old.trace) (state_of lines tree.root trace) moved.contents all)
tree-contents at old tree lines stamps trace room told pinned reads veil moved log all (Log n) is = log.contents n

-- the place of an address of the tree
tree-place : (layout : Layout) (at : ℕ) → at < LOG_START → place_at layout at ≡ Tree (leaf_of layout (data_block_at at))
tree-place layout at below =
    let test : nat_lt at LOG_START ≡ true = grind (arith, nat_tests, below) in
    ap (λ (b : Bool). if b then Tree (leaf_of layout (data_block_at at)) else Log (log_block_at at)) test

tree-below : (layout : Layout) (at : ℕ) → IsInData layout at → at < LOG_START
tree-below layout at inside = omega (arith, inside.from, inside.block, layout.data_fits)

-- where its own layout is that of the memory
of-layout : {L : Type 0} (at : ℕ) (old : Sight L) (tree : TreeParts L Padding) (lines : LineMap) (trace : List Event) (one other : Layout) → one ≡ other
    → Moved (scheme_of one (veil_of old)) (old.pinned ++ path_of one (data_block_at at)) (state_of old.lines old.tree.root old.trace) (state_of lines tree.root trace)
    (uncached (held_in old.lines) (path_of one (data_block_at at)))
    → Moved (scheme_of other (veil_of old)) (old.pinned ++ path_of other (data_block_at at)) (state_of old.lines old.tree.root old.trace) (state_of lines tree.root trace)
    (uncached (held_in old.lines) (path_of other (data_block_at at)))
of-layout at old tree lines trace one other same moved =
    subst (λ (l : Layout). Moved (scheme_of l (veil_of old)) (old.pinned ++ path_of l (data_block_at at)) (state_of old.lines old.tree.root old.trace) (state_of lines tree.root trace)
    (uncached (held_in old.lines) (path_of l (data_block_at at)))) same moved

pub tree-reaches : {L : Type 0} (at : ℕ) (old : Sight L) (tree : TreeParts L Padding) (lines : LineMap) (stamps : ℕ) (trace : List Event) (room : ℕ) (told : Option Layout)
    → TreeLoad at old tree lines stamps trace room told → Reaches at old (with_tree old tree lines stamps trace room told)
tree-reaches at old tree lines stamps trace room told load =
    let parts = load.ready.stands.parts in
    let pinned : List ℕ = old.pinned ++ path_of old.layout (data_block_at at) in
    let reads : List ℕ = uncached (held_in old.lines) (path_of old.layout (data_block_at at)) in
    let moved : Moved (scheme_of old.layout (veil_of old)) pinned (state_of old.lines old.tree.root old.trace) (state_of lines tree.root trace) reads =
    of-layout at old tree lines trace old.tree.layout old.layout parts.of_tree load.moved in
    let moves = moved.moves in
    let log : LogStays old.log old.trace trace = subst (λ (t : List Event). LogStays old.log old.trace t) (sym moves.appended)
    (log-stays pinned (state_of old.lines old.tree.root old.trace) (state_of lines tree.root trace) old.log moves.events old.trace moves.each load.ready.stands.log_stands) in
    let below : at < LOG_START = tree-below old.layout at load.inside in
    let held : Holds lines (leaf_of old.layout (data_block_at at)) = subst (λ (l : Layout). Holds lines (leaf_of l (data_block_at at))) parts.of_tree load.held in
    let line = held-line lines (leaf_of old.layout (data_block_at at)) held in
    record {
      events = moves.events;
      payload = line.0.payload;
      acts = record {
        appended = moves.appended;
        parts = record { layout = refl; mode = refl; veil = load.same.veil; pinned = refl; key = refl; told = load.tells };
        ready = record {
          stands = record {
            parts = record {
              of_tree = load.same.layout ∙ parts.of_tree;
              of_veil = ap (λ (v : Padding). v.layout) load.same.veil ∙ parts.of_veil;
              of_log = parts.of_log;
            };
            tree_stands = subst (λ (v : Padding). Stands (scheme_of tree.layout (hidden_payload v)) (state_of lines tree.root trace)) (sym load.same.veil)
                (subst (λ (l : Layout). Stands (scheme_of l (veil_of old)) (state_of lines tree.root trace)) (sym (load.same.layout ∙ parts.of_tree)) moved.stands);
            log_stands = log.stands;
            stamps_fit = load.fit;
          };
          parents = load.ready.parents;
          few = load.ready.few;
          told = subst (λ (t : Option Layout). TellsOnly old.layout t) (sym load.tells) load.ready.told;
        };
        room = load.few;
        agrees = λ memory agrees. record { line = lines-agree-at memory agrees moved };
        unread = lines-unread old pinned (path_of old.layout (data_block_at at)) tree.root lines trace moved;
        contents = λ all memory has. record {
          block = contents-same old (with_tree old tree lines stamps trace room told) memory refl
              (tree-contents at old tree lines stamps trace room told pinned reads load.same.veil moved log all) has;
        };
      };
      moves = all-move pinned (state_of old.lines old.tree.root old.trace) (state_of lines tree.root trace) moves.events moves.each;
      by = IsReachedBy.by_tree below refl moved;
      line = ap (λ (p : Place). line_in (with_tree old tree lines stamps trace room told) p) (tree-place old.layout at below)
          ∙ ap (λ (o : Option Line). option_map (λ (l : Line). l.payload) o) line.1;
    }
  where
    lines-agree-at : (memory : ℕ → ℕ) → Agrees old memory
        → (moved : Moved (scheme_of old.layout (veil_of old)) (old.pinned ++ path_of old.layout (data_block_at at)) (state_of old.lines old.tree.root old.trace)
        (state_of lines tree.root trace) (uncached (held_in old.lines) (path_of old.layout (data_block_at at))))
        → (place : Place) (payload : List ℕ) → IsTrue (is_memory_block old.layout place) → line_in (with_tree old tree lines stamps trace room told) place ≡ Some payload
        → AreWordsAt (after_reads old.layout (veil_of old) moved.moves.events memory) (start_at old.layout place) payload
    lines-agree-at memory agrees moved (Tree n) payload is found =
        lines-agree old (old.pinned ++ path_of old.layout (data_block_at at)) (uncached (held_in old.lines) (path_of old.layout (data_block_at at))) tree.root lines trace moved memory n payload
        agrees is found
    lines-agree-at memory agrees moved (Log n) payload is found = λ k less.
        reads-none old.layout (veil_of old) (Log n) moved.moves.events memory k is less
        (no-log_read n (old.pinned ++ path_of old.layout (data_block_at at)) (state_of old.lines old.tree.root old.trace) (state_of lines tree.root trace) moved.moves.events moved.moves.each)
        ∙ agrees.line (Log n) payload is found k less

-- and where a digest differs, the access is stopped
pub tree-stops : {L : Type 0} (at event : ℕ) (old : Sight L) (tree : TreeParts L Padding) (lines : LineMap) (stamps : ℕ) (trace : List Event) (room : ℕ) (told : Option Layout)
    → old.tree.layout ≡ old.layout → IsInData old.layout at → SameTree old.tree tree → old.room ≤ room + 160 → told ≡ old.told
    → Stops (scheme_of old.tree.layout (veil_of old)) (old.pinned ++ path_of old.tree.layout (data_block_at at)) (state_of old.lines old.tree.root old.trace) (state_of lines tree.root trace) event
    → ReadsFirst (uncached (held_in old.lines) (path_of old.tree.layout (data_block_at at))) old.trace trace
    → IsStopped at (stop.Tree event) old (with_tree old tree lines stamps trace room told)
tree-stops at event old tree lines stamps trace room told of inside same few tells stops reads =
    let pinned : List ℕ = old.pinned ++ path_of old.layout (data_block_at at) in
    let stops_here : Stops (scheme_of old.layout (veil_of old)) pinned (state_of old.lines old.tree.root old.trace) (state_of lines tree.root trace) event =
    subst (λ (l : Layout). Stops (scheme_of l (veil_of old)) (old.pinned ++ path_of l (data_block_at at)) (state_of old.lines old.tree.root old.trace) (state_of lines tree.root trace) event) of stops in
    let moves = stops_here.moved.moves in
    record {
      events = moves.events ++ BlockRead (Tree stops_here.n) stops_here.block ∷ [];
      appended = stops_here.read ∙ ap (λ (t : List Event). t ++ BlockRead (Tree stops_here.n) stops_here.block ∷ []) moves.appended
          ∙ append_assoc old.trace moves.events (BlockRead (Tree stops_here.n) stops_here.block ∷ []);
      moves = All-append-one moves.events (BlockRead (Tree stops_here.n) stops_here.block)
          (all-move pinned (state_of old.lines old.tree.root old.trace) stops_here.middle moves.events moves.each) refl;
      closed = omega (arith, inside.from);
      by = IsStoppedBy.tree event (tree-below old.layout at inside) stops_here
          (subst (λ (l : Layout). ReadsFirst (uncached (held_in old.lines) (path_of l (data_block_at at))) old.trace trace) of reads);
      parts = record { layout = refl; mode = refl; veil = same.veil; pinned = refl; key = refl; told = tells };
      room = few;
    }
