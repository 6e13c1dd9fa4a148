-- What a load of the log does to a secure memory.
use Rattle.std.proofs.Common.{◌≡◌, ◌≢◌, ℕ, ◌+◌, ◌*◌, ◌<◌, ◌≤◌, Bool, true, false, Option, Some, None, List, [], ◌∷◌, ◌++◌, refl, sym, ap, ◌∙◌, subst, arith, append_assoc, inl, inr}
use Rattle.std.specs.Prelude.{IsTrue, is_some, if◌then◌else◌, nat_lt, slice_index, Ok, Err}
use Rattle.std.proofs.lemmas.Bool.{cases_Bool, cases_eq}
use Rattle.std.proofs.lemmas.Bool.Decides.{nat_tests}
use Rattle.std.proofs.lemmas.List.{append-nil}
use Rattle.std.proofs.lemmas.List.Elements.{All-cons, All-nil}
use Rattle.std.specs.List.{All}
use Rattle.aegis_num.specs.declared.storage.Place.{Place}
use Rattle.aegis_num.specs.declared.storage.Place.TheVariants.{Log, Tree}
use Rattle.regions.specs.declared.addresses.TheConstants.{LOG_START}
use Rattle.regions.specs.declared.layout.Layout.{Layout}
use Rattle.regions.specs.Addresses.{IsInLog, data_block_at, log_block_at}
use Rattle.regions.specs.Tree.{leaf_of}
use Rattle.off_chip.specs.BusCalls.{TellsOnly}
use Rattle.off_chip.specs.declared.event.Event.{Event}
use Rattle.off_chip.specs.declared.event.Event.TheVariants.{BlockRead, BlockWrite}
use Rattle.off_chip.specs.Histories.{history}
use Rattle.off_chip.specs.WriteBacks.{StampsFit}
use Rattle.hash_tree.specs.AsWritten.{AllAsWritten}
use Rattle.hash_tree.specs.HashTrees.{scheme_of, state_of}
use Rattle.hash_tree.specs.Standing.{Stands, contents}
use Rattle.stamp_log.specs.LogCalls.{Fetches as LogFetches, MakesRoom}
use Rattle.stamp_log.specs.LogContents.{KeepsContents, ReadKeepsContents}
use Rattle.stamp_log.specs.LogState.{LogLines, LogState, line_of, stamped}
use Rattle.stamp_log.specs.StandsOn.{StandsOn as LogStandsOn}
use Rattle.orbis_core.specs.ByteOrder.{words_in}
use Rattle.orbis_core.specs.declared.memory.Stop.TheVariants as stop
use Rattle.secure_memory.specs.BlockWords.{AreWordsAt, after_reads, is_memory_block, place_at, start_at}
use Rattle.secure_memory.specs.MemorySights.{Agrees, IsReady, Sight, contents_of_place, line_in, veil_of}
use Rattle.secure_memory.specs.MemoryAccesses.{IsReachedBy, IsStopped, IsStoppedBy, Reaches, is_block_move}
use Rattle.secure_memory.proofs.EventLists.{GrowsElsewhere, log_read-elsewhere, room-elsewhere, tree-same, tree-stays}
use Rattle.secure_memory.proofs.LogReach.{LogReached, log-kept, log-reached}
use Rattle.secure_memory.proofs.PlaceLemmas.{reads-last, reads-none}
use Rattle.secure_memory.proofs.TreeReach.{All-append-one}
use Rattle.secure_memory.proofs.TreeActs.{contents-same, same-leaf}

-- a memory with another log and a longer trace
abbrev pub with_log : {L : Type 0} → Sight L → LogState → ℕ → List Event → ℕ → Option Layout → Sight L
with_log old log stamps trace room told = record old { log = log; stamps = stamps; trace = trace; room = room; told = told }

-- what a load of the log gives
pub record LogLoad {L : Type 0} (at : ℕ) (old : Sight L) (log : LogState) (stamps : ℕ) (trace : List Event) (room : ℕ) (told : Option Layout) : Type 0 where
  pub ready : IsReady old
  pub inside : IsInLog old.layout at
  pub blocks : log.blocks ≡ old.log.blocks
  pub key : log.key ≡ old.log.key
  pub stands : LogStandsOn log (history trace)
  pub fit : StampsFit stamps (history trace)
  pub few : old.room ≤ room + 2
  pub tells : told ≡ old.told
  pub held : is_some (line_of log.lines (log_block_at at)) ≡ true

-- where the block had a line, nothing is done
pub record LogStill {L : Type 0} (old : Sight L) (log : LogState) (trace : List Event) : Type 0 where
  pub trace_is : trace ≡ old.trace
  pub lines : (n : ℕ) → line_of log.lines n ≡ line_of old.log.lines n
  pub contents : KeepsContents old.log.lines log.lines (history old.trace) (history trace)

-- where it had none, it is read
pub record LogRead {L : Type 0} (at : ℕ) (old : Sight L) (log : LogState) (trace : List Event) : Type 0 where
  pub none : is_some (line_of old.log.lines (log_block_at at)) ≡ false
  pub fetches : LogFetches old.log.blocks (log_block_at at) (Ok tt) old.trace trace old.log.lines log.lines
  pub contents : ReadKeepsContents (log_block_at at) old.log.lines log.lines old.trace trace

some-held : {X : Type 0} (o : Option X) → is_some o ≡ true → (x : X) × (o ≡ Some x)
some-held (Some x) held = (x, refl)
some-held None held = cc

log-place : (layout : Layout) (at : ℕ) → LOG_START ≤ at → place_at layout at ≡ Log (log_block_at at)
log-place layout at above =
    let test : nat_lt at LOG_START ≡ false = grind (arith, nat_tests, above) in
    ap (λ (b : Bool). if b then Tree (leaf_of layout (data_block_at at)) else Log (log_block_at at)) test

-- what the load leaves of the other parts
log-ready : {L : Type 0} (at : ℕ) (old : Sight L) (log : LogState) (stamps : ℕ) (trace : List Event) (room : ℕ) (told : Option Layout)
    → LogLoad at old log stamps trace room told → Stands (scheme_of old.tree.layout (veil_of old)) (state_of old.lines old.tree.root trace) → IsReady (with_log old log stamps trace room told)
log-ready at old log stamps trace room told load tree = record {
  stands = record {
    parts = record {
      of_tree = load.ready.stands.parts.of_tree;
      of_veil = load.ready.stands.parts.of_veil;
      of_log = load.blocks ∙ load.ready.stands.parts.of_log;
    };
    tree_stands = tree;
    log_stands = load.stands;
    stamps_fit = load.fit;
  };
  parents = load.ready.parents;
  few = load.ready.few;
  told = subst (λ (t : Option Layout). TellsOnly old.layout t) (sym load.tells) load.ready.told;
}

pub still-reaches : {L : Type 0} (at : ℕ) (old : Sight L) (log : LogState) (stamps : ℕ) (trace : List Event) (room : ℕ) (told : Option Layout)
    → LogLoad at old log stamps trace room told → LogStill old log trace → Reaches at old (with_log old log stamps trace room told)
still-reaches at old log stamps trace room told load still =
    let stands : Stands (scheme_of old.tree.layout (veil_of old)) (state_of old.lines old.tree.root trace) =
    subst (λ (t : List Event). Stands (scheme_of old.tree.layout (veil_of old)) (state_of old.lines old.tree.root t)) (sym still.trace_is) load.ready.stands.tree_stands in
    record {
      events = [];
      payload = (some-held (line_of log.lines (log_block_at at)) load.held).0;
      acts = record {
        appended = still.trace_is ∙ sym (append-nil old.trace);
        parts = record { layout = refl; mode = refl; veil = refl; pinned = refl; key = load.key; told = load.tells };
        ready = log-ready at old log stamps trace room told load stands;
        room = omega (arith, load.few);
        agrees = λ memory agrees. record { line = λ place payload is found. agrees.line place payload is (sym (same place) ∙ found) };
        unread = λ memory place k is held less. refl;
        contents = λ all memory has. record { block = contents-same old (with_log old log stamps trace room told) memory refl kept has };
      };
      moves = All-nil (λ event. IsTrue (is_block_move event));
      by = IsReachedBy.cached still.trace_is same;
      line = ap (λ (p : Place). line_in (with_log old log stamps trace room told) p) (log-place old.layout at load.inside.from) ∙ (some-held (line_of log.lines (log_block_at at)) load.held).1;
    }
  where
    same : (place : Place) → line_in (with_log old log stamps trace room told) place ≡ line_in old place
    same (Tree n) = refl
    same (Log n) = still.lines n

    kept : (place : Place) → IsTrue (is_memory_block old.layout place) → contents_of_place (with_log old log stamps trace room told) place ≡ contents_of_place old place
    kept (Tree n) is = ap (λ (t : List Event). contents (scheme_of old.layout (veil_of old)) (state_of old.lines old.tree.root t) n) still.trace_is
    kept (Log n) is = still.contents.each n

-- a tree stays, with its contents, where the log reads a block
log-grows : {L : Type 0} (at : ℕ) (old : Sight L) (log : LogState) (trace : List Event) → LogRead at old log trace → GrowsElsewhere old.trace trace
log-grows at old log trace read =
    GrowsElsewhere.one_more old.trace read.fetches.middle trace (BlockRead (Log (log_block_at at)) read.fetches.read)
    (room-elsewhere old.log.blocks old.trace old.trace read.fetches.middle old.log.lines read.fetches.between read.fetches.makes (GrowsElsewhere.no_more old.trace))
    (log_read-elsewhere (log_block_at at) read.fetches.read) read.fetches.event

leaf-same : {L : Type 0} (old : Sight L) (trace : List Event) (n : ℕ) → GrowsElsewhere old.trace trace → Stands (scheme_of old.tree.layout (veil_of old)) (state_of old.lines old.tree.root old.trace)
    → old.tree.layout ≡ old.layout → IsTrue (is_memory_block old.layout (Tree n))
    → contents (scheme_of old.layout (veil_of old)) (state_of old.lines old.tree.root trace) n ≡ contents (scheme_of old.layout (veil_of old)) (state_of old.lines old.tree.root old.trace) n
leaf-same old trace n grows stands of is =
    same-leaf old.layout (veil_of old) (state_of old.lines old.tree.root old.trace) (state_of old.lines old.tree.root trace) n is
    (tree-same (scheme_of old.layout (veil_of old)) old.lines old.tree.root old.trace trace grows
    (subst (λ (l : Layout). Stands (scheme_of l (veil_of old)) (state_of old.lines old.tree.root old.trace)) of stands))

pub read-reaches : {L : Type 0} (at : ℕ) (old : Sight L) (log : LogState) (stamps : ℕ) (trace : List Event) (room : ℕ) (told : Option Layout)
    → LogLoad at old log stamps trace room told → LogRead at old log trace → Reaches at old (with_log old log stamps trace room told)
read-reaches at old log stamps trace room told load read =
    let block : ℕ = log_block_at at in
    let reached = log-reached old.log.blocks block old.trace trace old.log.lines log.lines read.fetches load.ready.stands.log_stands.size in
    let grows : GrowsElsewhere old.trace trace = log-grows at old log trace read in
    let stands : Stands (scheme_of old.tree.layout (veil_of old)) (state_of old.lines old.tree.root trace) =
    tree-stays (scheme_of old.tree.layout (veil_of old)) old.lines old.tree.root old.trace trace grows load.ready.stands.tree_stands in
    record {
      events = reached.front ++ BlockRead (Log block) reached.read ∷ [];
      payload = (some-held (line_of log.lines (log_block_at at)) load.held).0;
      acts = record {
        appended = reached.appended;
        parts = record { layout = refl; mode = refl; veil = refl; pinned = refl; key = load.key; told = load.tells };
        ready = log-ready at old log stamps trace room told load stands;
        room = omega (arith, load.few);
        agrees = λ memory agrees. record { line = agree reached memory agrees };
        unread = unread reached;
        contents = λ all memory has. record { block = contents-same old (with_log old log stamps trace room told) memory refl (same grows all) has };
      };
      moves = reached.moves;
      by = IsReachedBy.by_log load.inside.from refl refl read.fetches;
      line = ap (λ (p : Place). line_in (with_log old log stamps trace room told) p) (log-place old.layout at load.inside.from) ∙ (some-held (line_of log.lines (log_block_at at)) load.held).1;
    }
  where
    agree : (reached : LogReached (log_block_at at) old.trace trace old.log.lines log.lines) (memory : ℕ → ℕ) → Agrees old memory → (place : Place) (payload : List ℕ)
        → IsTrue (is_memory_block old.layout place) → line_in (with_log old log stamps trace room told) place ≡ Some payload
        → AreWordsAt (after_reads old.layout (veil_of old) (reached.front ++ BlockRead (Log (log_block_at at)) reached.read ∷ []) memory) (start_at old.layout place) payload
    agree reached memory agrees (Tree n) payload is found = λ k less.
        reads-none old.layout (veil_of old) (Tree n) (reached.front ++ BlockRead (Log (log_block_at at)) reached.read ∷ []) memory k is less (reached.no_tree n)
        ∙ agrees.line (Tree n) payload is found k less
    agree reached memory agrees (Log n) payload is found =
        elim (cases_eq n (log_block_at at)) [
          | inr differ ↦ λ k less.
              reads-none old.layout (veil_of old) (Log n) (reached.front ++ BlockRead (Log (log_block_at at)) reached.read ∷ []) memory k is less (reached.no_other n differ)
              ∙ agrees.line (Log n) payload is (reached.others n payload differ found) k less
          | inl equal ↦
              subst (λ (m : ℕ). IsTrue (is_memory_block old.layout (Log m)) → line_of log.lines m ≡ Some payload
              → AreWordsAt (after_reads old.layout (veil_of old) (reached.front ++ BlockRead (Log (log_block_at at)) reached.read ∷ []) memory) (start_at old.layout (Log m)) payload)
              (sym equal)
              (λ (is : IsTrue (is_memory_block old.layout (Log (log_block_at at)))) (found : line_of log.lines (log_block_at at) ≡ Some payload).
              let e : Some reached.read.payload ≡ Some payload = sym reached.here ∙ found in
              let same : reached.read.payload ≡ payload = cc in
              λ k less. reads-last old.layout (veil_of old) (Log (log_block_at at)) reached.front reached.read [] memory k is less refl
              ∙ ap (λ (p : List ℕ). slice_index (words_in p) k) same) is found
        ]

    unread : (reached : LogReached (log_block_at at) old.trace trace old.log.lines log.lines) (memory : ℕ → ℕ) (place : Place) (k : ℕ) → IsTrue (is_memory_block old.layout place)
        → is_some (line_in old place) ≡ true → k < 16
        → after_reads old.layout (veil_of old) (reached.front ++ BlockRead (Log (log_block_at at)) reached.read ∷ []) memory (start_at old.layout place + 4 * k) ≡ memory (start_at old.layout place + 4 * k)
    unread reached memory (Tree n) k is held less =
        reads-none old.layout (veil_of old) (Tree n) (reached.front ++ BlockRead (Log (log_block_at at)) reached.read ∷ []) memory k is less (reached.no_tree n)
    unread reached memory (Log n) k is held less =
        let differ : n ≢ log_block_at at = λ equal. let e : true ≡ false = sym held ∙ ap (λ (m : ℕ). is_some (line_of old.log.lines m)) equal ∙ read.none in cc in
        reads-none old.layout (veil_of old) (Log n) (reached.front ++ BlockRead (Log (log_block_at at)) reached.read ∷ []) memory k is less (reached.no_other n differ)

    same : GrowsElsewhere old.trace trace → AllAsWritten (history trace) → (place : Place) → IsTrue (is_memory_block old.layout place)
        → contents_of_place (with_log old log stamps trace room told) place ≡ contents_of_place old place
    same grows all (Tree n) is = leaf-same old trace n grows load.ready.stands.tree_stands load.ready.stands.parts.of_tree is
    same grows all (Log n) is = log-kept (log_block_at at) old.log.lines log.lines old.trace trace read.contents all n

-- where the load had an answer, one of the two
pub log-reaches : {L : Type 0} (at : ℕ) (old : Sight L) (log : LogState) (stamps : ℕ) (trace : List Event) (room : ℕ) (told : Option Layout)
    → LogLoad at old log stamps trace room told → (is_some (line_of old.log.lines (log_block_at at)) ≡ true → LogStill old log trace)
    → (is_some (line_of old.log.lines (log_block_at at)) ≡ false → LogRead at old log trace) → Reaches at old (with_log old log stamps trace room told)
log-reaches at old log stamps trace room told load still read =
    elim (cases_Bool (is_some (line_of old.log.lines (log_block_at at)))) [
      | inl held ↦ still-reaches at old log stamps trace room told load (still held)
      | inr none ↦ read-reaches at old log stamps trace room told load (read none)
    ]

-- and where a stamp is above the count, the access is stopped
pub log-stops : {L : Type 0} (at event : ℕ) (old : Sight L) (log : LogState) (stamps : ℕ) (trace : List Event) (room : ℕ) (told : Option Layout)
    → IsInLog old.layout at → log.key ≡ old.log.key → old.room ≤ room + 2 → told ≡ old.told
    → LogFetches old.log.blocks (log_block_at at) (Err (record { event = event })) old.trace trace old.log.lines log.lines
    → IsStopped at (stop.Log event) old (with_log old log stamps trace room told)
log-stops at event old log stamps trace room told inside key few tells fetches =
    let block : ℕ = log_block_at at in
    let made = room-events old.log.blocks old.trace fetches.middle old.log.lines fetches.between fetches.makes in
    record {
      events = made.0 ++ BlockRead (Log block) fetches.read ∷ [];
      appended = fetches.event ∙ ap (λ (t : List Event). t ++ BlockRead (Log block) fetches.read ∷ []) made.1 ∙ append_assoc old.trace made.0 (BlockRead (Log block) fetches.read ∷ []);
      moves = All-append-one made.0 (BlockRead (Log block) fetches.read) made.2 refl;
      closed = omega (arith, inside.from);
      by = IsStoppedBy.log event inside.from fetches;
      parts = record { layout = refl; mode = refl; veil = refl; pinned = refl; key = key; told = tells };
      room = omega (arith, few);
    }
  where
    room-events : (blocks : ℕ) (before after : List Event) (lines between : LogLines) → MakesRoom blocks before after lines between
        → (events : List Event) × (after ≡ before ++ events) × All (λ event. IsTrue (is_block_move event)) events
    room-events blocks before after lines between (MakesRoom.nothing same held payloads) = ([], same ∙ sym (append-nil before), All-nil (λ event. IsTrue (is_block_move event)))
    room-events blocks before after lines between (MakesRoom.written n stamp payload less line same held payloads) =
        (BlockWrite (Log n) (stamped payload stamp) ∷ [], same, All-cons (λ event. IsTrue (is_block_move event)) (BlockWrite (Log n) (stamped payload stamp)) [] refl (All-nil (λ event. IsTrue (is_block_move event))))
