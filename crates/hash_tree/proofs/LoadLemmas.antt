-- What follows where one block of a path is loaded.
use Rattle.std.proofs.Common.{◌≡◌, ℕ, ◌<◌, Bool, true, false, List, [], ◌∷◌, ◌++◌, length, Option, Some, None, refl, sym, ap, ◌∙◌, subst}
use Rattle.std.specs.Prelude.{is_some, filter_map, Contains, if◌then◌else◌}
use Rattle.std.specs.FinMap.{contains_key}
use Rattle.regions.specs.declared.layout.Layout.{Layout}
use Rattle.regions.specs.Tree.{tree_blocks}
use Rattle.aegis_num.specs.declared.storage.Block.{Block}
use Rattle.aegis_num.specs.declared.storage.Place.TheVariants.{Tree}
use Rattle.off_chip.specs.declared.event.Event.{Event}
use Rattle.off_chip.specs.declared.event.Event.TheVariants.{BlockRead}
use Rattle.off_chip.proofs.HistoryLemmas.{filter_map-push}
use Rattle.std.proofs.lemmas.List.{append-nil}
use Rattle.line_cache.specs.declared.lines.Line.{Line}
use Rattle.line_cache.specs.LineMaps.{LineMap}
use Rattle.hash_tree.specs.CachedLines.{held_in}
use Rattle.hash_tree.specs.HashTrees.{scheme_of, state_of}
use Rattle.hash_tree.specs.Schemes.{Scheme, IsLawful}
use Rattle.hash_tree.specs.Standing.{State, Stands, IsKeptDigest}
use Rattle.hash_tree.specs.TreeSteps.{Appends, Moved, Reads, ReadsFirst, Stops, block_read, uncached}
use Rattle.hash_tree.proofs.MoveLemmas.{appended-more, moved-none, moved-inserted, still-absent}

no-line : (o : Option Line) → is_some o ≡ false → o ≡ None
no-line None none = refl
no-line (Some line) none = cc

pub moved-touched : (scheme : Scheme) (pinned : List ℕ) (old new : LineMap) (root : List ℕ) (trace : List Event) (n : ℕ) → Stands scheme (state_of old root trace) → new ≡ old
    → true ≡ contains_key old n → Moved scheme pinned (state_of old root trace) (state_of new root trace) (uncached (held_in old) (n ∷ []))
moved-touched scheme pinned old new root trace n stands same held =
    subst (λ (m : LineMap). Moved scheme pinned (state_of old root trace) (state_of m root trace) (uncached (held_in old) (n ∷ []))) (sym same)
    (subst (λ (b : Bool). Moved scheme pinned (state_of old root trace) (state_of old root trace) (if b then [] else n ∷ [])) held (moved-none scheme pinned (state_of old root trace) stands))

pub moved-read : (layout : Layout) (veiled : ℕ → ℕ → List ℕ → List ℕ) → IsLawful (scheme_of layout veiled) → (pinned : List ℕ) (old middle new : LineMap) (old_root middle_root new_root : List ℕ)
    (old_trace middle_trace new_trace : List Event) (n : ℕ) → Moved (scheme_of layout veiled) pinned (state_of old old_root old_trace) (state_of middle middle_root middle_trace) []
    → Reads (scheme_of layout veiled) (state_of middle middle_root middle_trace) (state_of new new_root new_trace) n true → Contains pinned n → n < tree_blocks layout
    → false ≡ contains_key old n → Moved (scheme_of layout veiled) pinned (state_of old old_root old_trace) (state_of new new_root new_trace) (uncached (held_in old) (n ∷ []))
unfolding scheme_of
moved-read layout veiled lawful pinned old middle new old_root middle_root new_root old_trace middle_trace new_trace n moved reads pin below absent =
    let scheme = scheme_of layout veiled in
    let before = state_of old old_root old_trace in
    let between = state_of middle middle_root middle_trace in
    let after = state_of new new_root new_trace in
    let same = reads.same refl in
    let none : between.lines n ≡ None = no-line (between.lines n) (still-absent scheme pinned before between n moved (sym absent)) in
    let kept : IsKeptDigest scheme between n (scheme.digests.digest n reads.block) = subst (λ (d : List ℕ). IsKeptDigest scheme between n d) (sym same.0) reads.is_kept in
    subst (λ (b : Bool). Moved scheme pinned before after (if b then [] else n ∷ [])) absent
    (moved-inserted scheme lawful pinned before between after [] n reads.block moved pin below reads.whole same.1 none kept)

pub stops-read : (layout : Layout) (veiled : ℕ → ℕ → List ℕ → List ℕ) (pinned : List ℕ) (old : State) (middle new : LineMap) (middle_root new_root : List ℕ)
    (middle_trace new_trace : List Event) (n event : ℕ) → Moved (scheme_of layout veiled) pinned old (state_of middle middle_root middle_trace) []
    → Reads (scheme_of layout veiled) (state_of middle middle_root middle_trace) (state_of new new_root new_trace) n false → n < tree_blocks layout → event ≡ length middle_trace
    → Stops (scheme_of layout veiled) pinned old (state_of new new_root new_trace) event
unfolding scheme_of
stops-read layout veiled pinned old middle new middle_root new_root middle_trace new_trace n event moved reads below number = record {
  middle = state_of middle middle_root middle_trace;
  reads = [];
  moved = moved;
  n = n;
  block = reads.block;
  read = reads.event;
  number = number;
  kept = reads.kept;
  is_kept = reads.is_kept;
  differs = (reads.differs refl).0;
  inside = below;
}

-- ---- which blocks are read

-- none
pub reads-none : (blocks : List ℕ) (trace : List Event) → ReadsFirst blocks trace trace
reads-none blocks trace = record { events = []; appended = sym (append-nil trace); unread = blocks; reads = refl }

-- one, after lines left
pub reads-one : (scheme : Scheme) (pinned : List ℕ) (old middle : LineMap) (old_root middle_root : List ℕ) (old_trace middle_trace new_trace : List Event) (n : ℕ) (block : Block)
    → Moved scheme pinned (state_of old old_root old_trace) (state_of middle middle_root middle_trace) [] → Appends (BlockRead (Tree n) block) middle_trace new_trace
    → false ≡ contains_key old n → ReadsFirst (uncached (held_in old) (n ∷ [])) old_trace new_trace
reads-one scheme pinned old middle old_root middle_root old_trace middle_trace new_trace n block moved event absent =
    let moves = moved.moves in
    subst (λ (b : Bool). ReadsFirst (if b then [] else n ∷ []) old_trace new_trace) absent (record {
      events = moves.events ++ BlockRead (Tree n) block ∷ [];
      appended = appended-more old_trace middle_trace new_trace moves.events (BlockRead (Tree n) block) moves.appended event;
      unread = [];
      reads = append-nil (filter_map block_read (moves.events ++ BlockRead (Tree n) block ∷ [])) ∙ filter_map-push block_read moves.events (BlockRead (Tree n) block)
          ∙ ap (λ (xs : List ℕ). xs ++ n ∷ []) moves.reads_are;
    })

-- ---- a block that has a line

pub moved-still : (scheme : Scheme) (pinned blocks : List ℕ) (old new : LineMap) (root : List ℕ) (trace : List Event) → Stands scheme (state_of old root trace) → new ≡ old
    → [] ≡ uncached (held_in old) blocks → Moved scheme pinned (state_of old root trace) (state_of new root trace) (uncached (held_in old) blocks)
moved-still scheme pinned blocks old new root trace stands same none =
    subst (λ (m : LineMap). Moved scheme pinned (state_of old root trace) (state_of m root trace) (uncached (held_in old) blocks)) (sym same)
    (subst (λ (reads : List ℕ). Moved scheme pinned (state_of old root trace) (state_of old root trace) reads) none (moved-none scheme pinned (state_of old root trace) stands))
