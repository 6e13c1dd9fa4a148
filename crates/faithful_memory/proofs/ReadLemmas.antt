-- The reads of an access give what the blocks contain after it.
use Rattle.std.proofs.Common.{◌≡◌, ℕ, ◌≤◌, false, Option, Some, None, List, [], ◌∷◌, ◌++◌, sym, ap, ◌∙◌, subst, append_assoc}
use Rattle.std.specs.Prelude.{IsTrue, Ok}
use Rattle.std.proofs.lemmas.List.{append-nil, append_cancel_left}
use Rattle.aegis_num.specs.declared.storage.Block.{Block}
use Rattle.aegis_num.specs.declared.storage.Place.TheVariants.{Log, Tree}
use Rattle.regions.specs.declared.layout.Layout.{Layout}
use Rattle.regions.specs.Addresses.{log_block_at}
use Rattle.off_chip.specs.declared.event.Event.{Event}
use Rattle.off_chip.specs.declared.event.Event.TheVariants.{BlockRead, BlockWrite, WordRead, WordWrite, Note}
use Rattle.off_chip.specs.Histories.{history}
use Rattle.off_chip.specs.WriteBacks.{last_write, read_at}
use Rattle.off_chip.proofs.HistoryLemmas.{filter_map-nil}
use Rattle.off_chip.proofs.WriteLemmas.{read_at-here}
use Rattle.line_cache.specs.declared.lines.Line.{Line}
use Rattle.hash_tree.specs.HashTrees.{scheme_of}
use Rattle.hash_tree.specs.Schemes.{unveiled}
use Rattle.hash_tree.specs.Standing.{State, contents, contents_in}
use Rattle.hash_tree.specs.TreeSteps.{Moves}
use Rattle.stamp_log.specs.LogCalls.{Fetches as LogFetches, MakesRoom}
use Rattle.stamp_log.specs.LogState.{stamped}
use Rattle.stamp_log.proofs.ContentLemmas.{contents-line}
use Rattle.secure_memory.specs.BlockWords.{AreWordsAt, is_memory_block, start_at}
use Rattle.secure_memory.specs.MemoryAccesses.{IsReachedBy, Reaches}
use Rattle.secure_memory.specs.MemorySights.{HasContents, HasWordsAt, Sight, tree_state, veil_of}
use Rattle.secure_memory.specs.PrivatePads.{Padding, hidden_payload}
use Rattle.secure_memory.proofs.TreeActs.{block-node}
use Rattle.secure_memory.proofs.TreeReach.{no-log_read}
use Rattle.bus_machine.specs.BusMachine.{Veil}
use Rattle.faithful_memory.specs.KnownWords.{AllGiveWords, GivesWords, HasDataContents}
use Rattle.faithful_memory.proofs.WordsKept.{Given, given-each}

-- ---- the tree

leaf-from : (layout : Layout) (veil : Veil) (n : ℕ) → IsTrue (is_memory_block layout (Tree n)) → (scheme_of layout veil).nodes ≤ n
unfolding scheme_of
leaf-from layout veil n is = block-node layout n is

-- the contents of a block whose line has what was read
leaf-read : (layout : Layout) (veil : Veil) (state : State) (n : ℕ) (block : Block)
    → state.lines n ≡ Some (record { payload = unveiled (scheme_of layout veil) n block; dirty = false }) → contents (scheme_of layout veil) state n ≡ Some (veil n block.stamp block.payload)
unfolding scheme_of
leaf-read layout veil state n block here = ap (λ (o : Option Line). contents_in (scheme_of layout veil) n o (last_write (Tree n) (history state.trace))) here

-- a memory has the contents of each data block
abbrev pub HasLeaves : Layout → Veil → State → (ℕ → ℕ) → Type 0
HasLeaves layout veil state memory = (n : ℕ) → IsTrue (is_memory_block layout (Tree n)) → HasWordsAt memory (start_at layout (Tree n)) (contents (scheme_of layout veil) state n)

pub words-are : (memory : ℕ → ℕ) (start : ℕ) (contents : Option (List ℕ)) (payload : List ℕ) → HasWordsAt memory start contents → contents ≡ Some payload → AreWordsAt memory start payload
words-are memory start contents payload has is =
    let e : Some has.payload ≡ Some payload = sym has.is ∙ is in
    let same : has.payload ≡ payload = cc in
    subst (λ (p : List ℕ). AreWordsAt memory start p) same has.words

no-read : {X : Type 0} (n : ℕ) (block : Block) → read_at (Log n) (BlockRead (Log n) block) ≡ None → X
no-read n block none = let e : Some block ≡ None = sym (read_at-here (Log n) block) ∙ none in absurd (cc)

-- a load of the tree reads what the data blocks contain after it
pub moves-give : (layout : Layout) (veil : Veil) (pinned reads : List ℕ) (old new : State) (memory : ℕ → ℕ) (moves : Moves (scheme_of layout veil) pinned old new reads)
    → HasLeaves layout veil new memory → AllGiveWords layout veil memory moves.events
moves-give layout veil pinned reads old new memory moves has = record { each = by }
  where
    by : (before : List Event) (event : Event) (rest : List Event) → moves.events ≡ before ++ event ∷ rest → GivesWords layout veil memory event
    by before (BlockRead (Tree n) block) rest parts = λ is.
        words-are memory (start_at layout (Tree n)) (contents (scheme_of layout veil) new n) (veil n block.stamp block.payload) (has n is)
        (leaf-read layout veil new n block (moves.line_read before n block rest parts (leaf-from layout veil n is)))
    by before (BlockRead (Log n) block) rest parts =
        no-read n block (filter_map-nil (read_at (Log n)) moves.events before (BlockRead (Log n) block) rest parts (no-log_read n pinned old new moves.events moves.each))
    by before (BlockWrite at block) rest parts = tt
    by before (WordRead who at word) rest parts = tt
    by before (WordWrite who at word) rest parts = tt
    by before (Note mark) rest parts = tt

-- ---- a block that was reached

pub leaves-in : {L : Type 0} (old new : Sight L) (memory : ℕ → ℕ) → new.layout ≡ old.layout → new.tree.veil ≡ old.tree.veil → HasDataContents new memory
    → HasLeaves old.layout (veil_of old) (tree_state new) memory
leaves-in old new memory layout veil has =
    subst (λ (l : Layout). HasLeaves l (veil_of old) (tree_state new) memory) layout
    (subst (λ (v : Padding). HasLeaves new.layout (hidden_payload v) (tree_state new) memory) veil has.block)

pub data-of : {L : Type 0} (sight : Sight L) (memory : ℕ → ℕ) → HasContents sight memory → HasDataContents sight memory
data-of sight memory has = record { block = λ n is. has.block (Tree n) is }

log-give : {L : Type 0} (at : ℕ) (old new : Sight L) (memory : ℕ → ℕ) (events : List Event) → new.trace ≡ old.trace ++ events → new.layout ≡ old.layout → HasContents new memory
    → LogFetches old.log.blocks (log_block_at at) (Ok tt) old.trace new.trace old.log.lines new.log.lines → Given old.layout (veil_of old) memory events
log-give {L} at old new memory events appended layout has fetches = by fetches.makes
  where
    read : Event
    read = BlockRead (Log (log_block_at at)) fetches.read

    words : GivesWords old.layout (veil_of old) memory (BlockRead (Log (log_block_at at)) fetches.read)
    words is =
        words-are memory (start_at new.layout (Log (log_block_at at))) _ fetches.read.payload
        (has.block (Log (log_block_at at)) (subst (λ (l : Layout). IsTrue (is_memory_block l (Log (log_block_at at)))) (sym layout) is))
        (contents-line new.log.lines (history new.trace) (log_block_at at) fetches.read.payload fetches.here)

    by : MakesRoom old.log.blocks old.trace fetches.middle old.log.lines fetches.between → Given old.layout (veil_of old) memory events
    by (MakesRoom.nothing same held payloads) =
        let one : new.trace ≡ old.trace ++ BlockRead (Log (log_block_at at)) fetches.read ∷ [] =
        fetches.event ∙ ap (λ (t : List Event). t ++ BlockRead (Log (log_block_at at)) fetches.read ∷ []) same in
        subst (λ (es : List Event). Given old.layout (veil_of old) memory es)
        (append_cancel_left old.trace (BlockRead (Log (log_block_at at)) fetches.read ∷ []) events (sym one ∙ appended)) (words, tt)
    by (MakesRoom.written n stamp payload less line same held payloads) =
        let write : Event = BlockWrite (Log n) (stamped payload stamp) in
        let both : new.trace ≡ old.trace ++ (write ∷ BlockRead (Log (log_block_at at)) fetches.read ∷ []) =
        fetches.event ∙ ap (λ (t : List Event). t ++ BlockRead (Log (log_block_at at)) fetches.read ∷ []) same
        ∙ append_assoc old.trace (write ∷ []) (BlockRead (Log (log_block_at at)) fetches.read ∷ []) in
        subst (λ (es : List Event). Given old.layout (veil_of old) memory es)
        (append_cancel_left old.trace (write ∷ BlockRead (Log (log_block_at at)) fetches.read ∷ []) events (sym both ∙ appended)) (tt, (words, tt))

pub reaches-give : {L : Type 0} (at : ℕ) (old new : Sight L) (memory : ℕ → ℕ) (reaches : Reaches at old new) → HasContents new memory
    → AllGiveWords old.layout (veil_of old) memory reaches.events
reaches-give at old new memory reaches has = by reaches.by
  where
    by : IsReachedBy at old new → AllGiveWords old.layout (veil_of old) memory reaches.events
    by (IsReachedBy.by_tree below log moved) =
        subst (λ (es : List Event). AllGiveWords old.layout (veil_of old) memory es)
        (append_cancel_left old.trace moved.moves.events reaches.events (sym moved.moves.appended ∙ reaches.acts.appended))
        (moves-give old.layout (veil_of old) _ _ (tree_state old) (tree_state new) memory moved.moves (leaves-in old new memory reaches.acts.parts.layout reaches.acts.parts.veil (data-of new memory has)))
    by (IsReachedBy.by_log from tree lines fetches) =
        given-each old.layout (veil_of old) memory reaches.events
        (log-give at old new memory reaches.events reaches.acts.appended reaches.acts.parts.layout has fetches)
    by (IsReachedBy.cached trace lines) =
        subst (λ (es : List Event). AllGiveWords old.layout (veil_of old) memory es)
        (append_cancel_left old.trace [] reaches.events (append-nil old.trace ∙ sym trace ∙ reaches.acts.appended))
        (given-each old.layout (veil_of old) memory [] tt)
