-- Accesses that are stopped read blocks that are not as they were written.
use Rattle.std.proofs.Common.{◌≡◌, ◌≢◌, ℕ, ◌<◌, ◌≤◌, true, Option, Some, Err, List, [], ◌∷◌, ◌++◌, refl, sym, ap, ◌∙◌, subst, append_assoc, arith, inl, inr}
use Rattle.std.specs.Prelude.{IsTrue}
use Rattle.std.proofs.lemmas.Bool.{cases_eq}
use Rattle.aegis_num.specs.declared.storage.Block.{Block}
use Rattle.aegis_num.specs.declared.storage.Place.TheVariants.{Log, Tree}
use Rattle.regions.specs.Addresses.{IsInLog, data_block_at, log_block_at}
use Rattle.off_chip.specs.declared.event.Event.{Event}
use Rattle.off_chip.specs.declared.event.Event.TheVariants.{BlockRead, BlockWrite}
use Rattle.off_chip.specs.Histories.{History, ◌◂◌, Each, history, in_order}
use Rattle.off_chip.specs.WriteBacks.{StampFits, StampsFit, block_writes, last_write}
use Rattle.off_chip.proofs.HistoryLemmas.{Each-cut, Each-older, history-append, history-appended, in_order-history}
use Rattle.off_chip.proofs.WriteLemmas.{last_write-elsewhere, last_write-here, last_write-stamp}
use Rattle.hash_tree.specs.AsWritten.{AllAsWritten, is_as_written}
use Rattle.hash_tree.specs.HashTrees.{scheme_of}
use Rattle.hash_tree.specs.Paths.{path_of}
use Rattle.hash_tree.proofs.AsWrittenLemmas.{as_written-block}
use Rattle.orbis_core.specs.declared.memory.Stop.{Stop}
use Rattle.orbis_core.specs.declared.memory.Stop.TheVariants as stop
use Rattle.stamp_log.specs.LogCalls.{Fetches as LogFetches, MakesRoom}
use Rattle.stamp_log.specs.LogStands.{IsWritten}
use Rattle.stamp_log.specs.LogState.{LogLines, stamped}
use Rattle.secure_memory.specs.BlockWords.{IsPlaced, start_at}
use Rattle.secure_memory.specs.MemoryAccesses.{IsStopped, IsStoppedBy}
use Rattle.secure_memory.specs.MemorySights.{HasContents, HasWordsAt, IsReady, Sight, tree_scheme, tree_state, veil_of}
use Rattle.secure_memory.proofs.AccessLemmas.{placed-log}
use Rattle.secure_memory.proofs.TreeActs.{same-leaf}
use Rattle.secure_memory.proofs.TreeReach.{contents-kept}
use Rattle.faithful_memory.specs.KnownWords.{TreeAsWritten}
use Rattle.faithful_memory.specs.StepsSettle.{IsWrittenAndStamped, StopsAfterContents, StopsAreUnwritten}
use Rattle.faithful_memory.proofs.DataReads.{tree-law}
use Rattle.faithful_memory.proofs.ReadLemmas.{HasLeaves, moves-give}
use Rattle.faithful_memory.proofs.WordsKept.{given-each}

-- ---- by the tree

pub tree-unwritten : {L : Type 0} (at event : ℕ) (old new : Sight L) → IsStopped at (stop.Tree event) old new → TreeAsWritten (history new.trace) → ⊥
tree-unwritten at event old new stopped all = by stopped.by
  where
    by : IsStoppedBy at old new (stop.Tree event) → ⊥
    by (IsStoppedBy.tree number below stops reads) = tree-law.stops (tree_scheme old) _ (tree_state old) (tree_state new) number stops all

-- ---- by the log

log-apart : (m n : ℕ) → m ≢ n → Log m ≢ Log n
log-apart m n differ same = let e : m ≡ n = cc in differ e

-- a block that was written still is, where room was made for a line
still-written : (blocks n : ℕ) (before after : List Event) (old new : LogLines) → MakesRoom blocks before after old new → IsWritten (history before) n → IsWritten (history after) n
still-written blocks n before after old new (MakesRoom.nothing same held payloads) written = subst (λ (t : List Event). IsWritten (history t) n) (sym same) written
still-written blocks n before after old new (MakesRoom.written m stamp payload less line same held payloads) written =
    let e = history-appended before after (BlockWrite (Log m) (stamped payload stamp)) same in
    elim (cases_eq n m) [
      | inl equal ↦ record {
        block = stamped payload stamp;
        last = ap (λ (h : History). last_write (Log n) h) e ∙ ap (λ (k : ℕ). last_write (Log k) (BlockWrite (Log m) (stamped payload stamp) ◂ history before)) equal ∙ last_write-here (Log m) (stamped payload stamp) (history before);
      }
      | inr differ ↦ record {
        block = written.block;
        last = ap (λ (h : History). last_write (Log n) h) e ∙ last_write-elsewhere (Log n) (Log m) (stamped payload stamp) (history before) (log-apart n m differ) ∙ written.last;
      }
    ]

-- the last write-back has a stamp that is not above the number of block writes
stamp-low : (last : ℕ) (before after events : List Event) (n : ℕ) (block : Block) → StampsFit last (history after) → after ≡ before ++ events
    → last_write (Log n) (history before) ≡ Some block → block.stamp ≤ block_writes before
stamp-low last before after events n block fit same found =
    let older : StampsFit (block_writes (in_order (history before))) (history before) = record {
      each = Each-older StampFits (history before) events (subst (λ (h : History). Each StampFits h) (history-append after before events same) fit.each);
      count = refl;
    } in
    let bound = last_write-stamp (block_writes (in_order (history before))) (Log n) (history before) block older found in
    omega (arith, bound.1, ap (λ (t : List Event). block_writes t) (in_order-history before))

fetch-unwritten : (blocks n event last : ℕ) (old new : List Event) (lines lines_new : LogLines) → LogFetches blocks n (Err (record { event = event })) old new lines lines_new
    → IsWritten (history old) n → AllAsWritten (history new) → StampsFit last (history new) → ⊥
fetch-unwritten blocks n event last old new lines lines_new fetches written all fit =
    let there = still-written blocks n old fetches.middle lines fetches.between fetches.makes written in
    let read : Event = BlockRead (Log n) fetches.read in
    let as_written : is_as_written read (history fetches.middle) ≡ true =
    Each-cut (λ event older. IsTrue (is_as_written event older)) new fetches.middle read [] fetches.event all.each in
    let same : fetches.read ≡ there.block = as_written-block (Log n) fetches.read there.block (history fetches.middle) there.last as_written in
    let low = stamp-low last fetches.middle new (read ∷ []) n there.block fit fetches.event there.last in
    let above : block_writes fetches.middle < fetches.read.stamp = fetches.above.0 refl in
    omega (arith, low, above, ap (λ (b : Block). b.stamp) same)

pub log-unwritten : {L : Type 0} (at event : ℕ) (old new : Sight L) → IsReady old → IsPlaced old.layout at → IsStopped at (stop.Log event) old new → IsWrittenAndStamped new → ⊥
log-unwritten at event old new ready placed stopped all = by stopped.by
  where
    by : IsStoppedBy at old new (stop.Log event) → ⊥
    by (IsStoppedBy.log number from fetches) =
        let inside : IsInLog old.layout at = placed-log old.layout at placed stopped.closed from in
        let less : log_block_at at < old.log.blocks = omega (arith, inside.block, ready.stands.parts.of_log) in
        fetch-unwritten old.log.blocks (log_block_at at) number all.last old.trace new.trace old.log.lines new.log.lines fetches
        (ready.stands.log_stands.trace.written (log_block_at at) less) all.written all.fit

-- ---- the reads before the last event

stops-after : {L : Type 0} (at : ℕ) (reason : Stop) (old new : Sight L) (memory : ℕ → ℕ) → HasContents old memory → IsStoppedBy at old new reason
    → ((earlier : List Event) (event : Event) → new.trace ≡ earlier ++ event ∷ [] → AllAsWritten (history earlier)) → StopsAfterContents old new memory
stops-after at reason old new memory has (IsStoppedBy.tree number below stops reads) all =
    let last : Event = BlockRead (Tree stops.n) stops.block in
    let same = contents-kept (scheme_of old.layout (veil_of old)) (tree_state old) stops.middle stops.moved.contents (all stops.middle.trace last stops.read) in
    let leaves : HasLeaves old.layout (veil_of old) stops.middle memory =
    λ n is. subst (λ (o : Option (List ℕ)). HasWordsAt memory (start_at old.layout (Tree n)) o)
    (sym (same-leaf old.layout (veil_of old) (tree_state old) stops.middle n is same)) (has.block (Tree n) is) in
    record {
      events = stops.moved.moves.events;
      last = last;
      appended = stops.read ∙ ap (λ (t : List Event). t ++ last ∷ []) stops.moved.moves.appended ∙ append_assoc old.trace stops.moved.moves.events (last ∷ []);
      reads = moves-give old.layout (veil_of old) (old.pinned ++ path_of old.layout (data_block_at at)) stops.reads (tree_state old) stops.middle memory stops.moved.moves leaves;
    }
stops-after at reason old new memory has (IsStoppedBy.log number from fetches) all = by fetches.makes
  where
    by : MakesRoom old.log.blocks old.trace fetches.middle old.log.lines fetches.between → StopsAfterContents old new memory
    by (MakesRoom.nothing same held payloads) = record {
      events = [];
      last = BlockRead (Log (log_block_at at)) fetches.read;
      appended = fetches.event ∙ ap (λ (t : List Event). t ++ BlockRead (Log (log_block_at at)) fetches.read ∷ []) same;
      reads = given-each old.layout (veil_of old) memory [] tt;
    }
    by (MakesRoom.written n stamp payload less line same held payloads) =
        let write : Event = BlockWrite (Log n) (stamped payload stamp) in
        record {
          events = write ∷ [];
          last = BlockRead (Log (log_block_at at)) fetches.read;
          appended = fetches.event ∙ ap (λ (t : List Event). t ++ BlockRead (Log (log_block_at at)) fetches.read ∷ []) same
              ∙ append_assoc old.trace (write ∷ []) (BlockRead (Log (log_block_at at)) fetches.read ∷ []);
          reads = given-each old.layout (veil_of old) memory (write ∷ []) (tt, tt);
        }

pub stop-law : (L : Type 0) → StopsAreUnwritten L
stop-law L = record {
  tree = tree-unwritten;
  log = log-unwritten;
  before = λ at reason old new memory has stopped all. stops-after at reason old new memory has stopped.by all;
}
