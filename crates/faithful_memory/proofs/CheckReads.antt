-- What a check reads, and the contents after it.
use Rattle.std.proofs.Common.{◌≡◌, ℕ, suc, true, Option, Some, None, Result, List, [], ◌∷◌, ◌++◌, refl, sym, ap, ◌∙◌, subst, append_assoc}
use Rattle.std.specs.Prelude.{IsTrue, ⊤, option_map}
use Rattle.std.proofs.lemmas.List.{append-nil}
use Rattle.aegis_num.specs.declared.storage.Block.{Block}
use Rattle.aegis_num.specs.declared.storage.Place.{Place}
use Rattle.aegis_num.specs.declared.storage.Place.TheVariants.{Log, Tree}
use Rattle.regions.specs.declared.layout.Layout.{Layout}
use Rattle.off_chip.specs.declared.event.Event.{Event}
use Rattle.off_chip.specs.declared.event.Event.TheVariants.{BlockRead, BlockWrite, WordRead, WordWrite, Note}
use Rattle.off_chip.specs.declared.event.Mark.TheVariants.{CheckPassed, CheckStart}
use Rattle.off_chip.specs.Epochs.{LogEntry}
use Rattle.off_chip.specs.Histories.{History, ◌◂◌, followed, history}
use Rattle.off_chip.specs.WriteBacks.{last_write, written_at}
use Rattle.off_chip.proofs.HistoryLemmas.{Each-cut, history-append, history-appended, newest-untold}
use Rattle.hash_tree.specs.AsWritten.{AllAsWritten, is_as_written}
use Rattle.hash_tree.proofs.AsWrittenLemmas.{as_written-block}
use Rattle.stamp_log.specs.declared.causes.LogCause.{LogCause}
use Rattle.stamp_log.specs.LogCalls.{HoldsNothing, MakesRoom, WritesBack}
use Rattle.stamp_log.specs.LogEvents.{EndsCheck, ReadsInOrder, reads_from}
use Rattle.stamp_log.specs.LogState.{LogLines, line_of, stamped}
use Rattle.stamp_log.specs.StandsOn.{contents_in}
use Rattle.stamp_log.proofs.ContentLemmas.{contents-from, writes-contents}
use Rattle.secure_memory.specs.BlockWords.{AreWordsAt, is_memory_block, start_at}
use Rattle.secure_memory.specs.MemorySights.{HasContents, HasWordsAt, Sight, contents_of_place, veil_of}
use Rattle.secure_memory.specs.MemoryStands.{MemoryStands}
use Rattle.secure_memory.proofs.EventLists.{check-elsewhere}
use Rattle.bus_machine.specs.BusMachine.{Veil}
use Rattle.faithful_memory.specs.BetweenAccesses.{ChecksReadContents, IsChecked}
use Rattle.faithful_memory.specs.KnownWords.{AllGiveWords, GivesWords, HasDataContents}
use Rattle.faithful_memory.specs.ReadContents.{ReadsContents, ReadsDataContents}
use Rattle.faithful_memory.proofs.TreeKept.{contents-kept, data-kept, elsewhere-last, tree-kept}
use Rattle.faithful_memory.proofs.WordsKept.{Given, GivenData, each-given, given-append, given-data, given-each, given_data-append, given_data-each}

-- ---- reads of the log, and the mark that a check passed

abbrev pub ReadsLog : Event → Type 0
ReadsLog (BlockRead (Log n) block) = ⊤
ReadsLog (Note CheckPassed) = ⊤
ReadsLog event = ⊥

abbrev pub AllReadLog : List Event → Type 0
AllReadLog [] = ⊤
AllReadLog (event ∷ events) = ReadsLog event × AllReadLog events

log-append : (events more : List Event) → AllReadLog events → AllReadLog more → AllReadLog (events ++ more)
log-append [] more all rest = rest
log-append (event ∷ events) more all rest = (all.0, log-append events more all.1 rest)

log-front : (events more : List Event) → AllReadLog (events ++ more) → AllReadLog events
log-front [] more all = tt
log-front (event ∷ events) more all = (all.0, log-front events more all.1)

log-unwritten : (place : Place) (event : Event) → ReadsLog event → written_at place event ≡ None
log-unwritten place (BlockRead at block) reads = refl
log-unwritten place (BlockWrite at block) reads = absurd reads
log-unwritten place (WordRead by at word) reads = refl
log-unwritten place (WordWrite by at word) reads = refl
log-unwritten place (Note mark) reads = refl

log-last : (place : Place) (older : History) (events : List Event) → AllReadLog events → last_write place (followed older events) ≡ last_write place older
log-last place older [] all = refl
log-last place older (event ∷ events) all =
    log-last place (event ◂ older) events all.1 ∙ newest-untold (λ event _. written_at place event) event older (log-unwritten place event all.0)

last-same : (place : Place) (trace events : List Event) → AllReadLog events → last_write place (history (trace ++ events)) ≡ last_write place (history trace)
last-same place trace events all = ap (λ (h : History). last_write place h) (history-append (trace ++ events) trace events refl) ∙ log-last place (history trace) events all

reads-log : (n : ℕ) (read : List Block) → AllReadLog (reads_from n read)
reads-log n [] = tt
reads-log n (block ∷ read) = (tt, reads-log (suc n) read)

-- those of a check
record CheckEnd (middle after : List Event) : Type 0 where
  events : List Event
  appended : after ≡ middle ++ events
  all : AllReadLog events

one-more : (count : ℕ) (middle between after : List Event) (event : Event) → ReadsInOrder count middle between → ReadsLog event → after ≡ between ++ event ∷ [] → CheckEnd middle after
one-more count middle between after event reads is same = record {
  events = reads_from 0 reads.read ++ event ∷ [];
  appended = same ∙ ap (λ (t : List Event). t ++ event ∷ []) reads.events ∙ append_assoc middle (reads_from 0 reads.read) (event ∷ []);
  all = log-append (reads_from 0 reads.read) (event ∷ []) (reads-log 0 reads.read) (is, tt);
}

check-end : (value : LogEntry → ℕ) (blocks : ℕ) (middle after : List Event) (result : Result (Unit {0}) LogCause) → EndsCheck value blocks middle after result → CheckEnd middle after
check-end value blocks middle after result (EndsCheck.passes compared reads agree same is) = one-more blocks middle compared after (Note CheckPassed) reads tt same
check-end value blocks middle after result (EndsCheck.differs read written reads differ is) =
    record { events = reads_from 0 reads.read; appended = reads.events; all = reads-log 0 reads.read }
check-end value blocks middle after result (EndsCheck.stops event stopped is) =
    one-more stopped.n middle stopped.middle after (BlockRead (Log stopped.n) stopped.block) stopped.earlier tt stopped.last

-- ---- lines that are written back

record CheckFront (layout : Layout) (veil : Veil) (memory : ℕ → ℕ) (before after : List Event) : Type 0 where
  events : List Event
  appended : after ≡ before ++ events
  given : Given layout veil memory events

front-more : (layout : Layout) (veil : Veil) (memory : ℕ → ℕ) (blocks : ℕ) (before middle after : List Event) (old new : LogLines) → CheckFront layout veil memory before middle
    → MakesRoom blocks middle after old new → CheckFront layout veil memory before after
front-more layout veil memory blocks before middle after old new front (MakesRoom.nothing same held payloads) =
    record { events = front.events; appended = same ∙ front.appended; given = front.given }
front-more layout veil memory blocks before middle after old new front (MakesRoom.written n stamp payload less line same held payloads) =
    let write : Event = BlockWrite (Log n) (stamped payload stamp) in
    record {
      events = front.events ++ write ∷ [];
      appended = same ∙ ap (λ (t : List Event). t ++ write ∷ []) front.appended ∙ append_assoc before front.events (write ∷ []);
      given = given-append layout veil memory front.events (write ∷ []) front.given (tt, tt);
    }

check-front : (layout : Layout) (veil : Veil) (memory : ℕ → ℕ) (blocks : ℕ) (before after : List Event) (old new : LogLines) → WritesBack blocks before after old new
    → CheckFront layout veil memory before after
check-front layout veil memory blocks before after old new (WritesBack.none trace lines) = record { events = []; appended = sym (append-nil before); given = tt }
check-front layout veil memory blocks before after old new (WritesBack.more first middle last one between other writes makes) =
    front-more layout veil memory blocks before middle after between new (check-front layout veil memory blocks before middle old between writes) makes

-- ---- what is read

no-line : (lines : LogLines) (n : ℕ) → HoldsNothing lines → line_of lines n ≡ None
no-line lines n holds = rw (holds.nothing n) refl

some-written : (o : Option Block) (payload : List ℕ) → option_map (λ (block : Block). block.payload) o ≡ Some payload → (block : Block) × (o ≡ Some block) × (block.payload ≡ payload)
some-written (Some block) payload is = (block, refl, cc)
some-written None payload is = let e : None ≡ Some payload = is in cc

-- where a block has no line, it contains its last write-back
written-contents : (lines : LogLines) (older : History) (n : ℕ) (payload : List ℕ) → line_of lines n ≡ None → contents_in lines older n ≡ Some payload
    → (block : Block) × (last_write (Log n) older ≡ Some block) × (block.payload ≡ payload)
written-contents lines older n payload none is = some-written (last_write (Log n) older) payload (rw none at is)

-- reads of blocks that have no lines give what these contain
pub log-reads-give : (layout : Layout) (veil : Veil) (memory : ℕ → ℕ) (lines : LogLines) (middle events : List Event) → AllReadLog events → HoldsNothing lines
    → AllAsWritten (history (middle ++ events))
    → ((n : ℕ) → IsTrue (is_memory_block layout (Log n)) → HasWordsAt memory (start_at layout (Log n)) (contents_in lines (history middle) n))
    → AllGiveWords layout veil memory events
log-reads-give layout veil memory lines middle events reads nothing all has = record { each = by }
  where
    is-log : (before : List Event) (event : Event) (rest : List Event) → AllReadLog (before ++ event ∷ rest) → ReadsLog event
    is-log [] event rest all = all.0
    is-log (first ∷ before) event rest all = is-log before event rest all.1

    by : (before : List Event) (event : Event) (rest : List Event) → events ≡ before ++ event ∷ rest → GivesWords layout veil memory event
    by before (BlockRead (Tree n) block) rest parts = absurd (is-log before (BlockRead (Tree n) block) rest (subst (λ (es : List Event). AllReadLog es) parts reads))
    by before (BlockRead (Log n) block) rest parts = λ is.
        let was = has n is in
        let written = written-contents lines (history middle) n was.payload (no-line lines n nothing) was.is in
        let front : AllReadLog before = log-front before (BlockRead (Log n) block ∷ rest) (subst (λ (es : List Event). AllReadLog es) parts reads) in
        let cut : middle ++ events ≡ (middle ++ before) ++ BlockRead (Log n) block ∷ rest =
        ap (λ (es : List Event). middle ++ es) parts ∙ sym (append_assoc middle before (BlockRead (Log n) block ∷ rest)) in
        let as_written : is_as_written (BlockRead (Log n) block) (history (middle ++ before)) ≡ true =
        Each-cut (λ event older. IsTrue (is_as_written event older)) (middle ++ events) (middle ++ before) (BlockRead (Log n) block) rest cut all.each in
        let same : block ≡ written.0 = as_written-block (Log n) block written.0 (history (middle ++ before)) (last-same (Log n) middle before front ∙ written.1) as_written in
        subst (λ (p : List ℕ). AreWordsAt memory (start_at layout (Log n)) p) (sym (ap (λ (b : Block). b.payload) same ∙ written.2)) was.words
    by before (BlockWrite at block) rest parts = tt
    by before (WordRead who at word) rest parts = tt
    by before (WordWrite who at word) rest parts = tt
    by before (Note mark) rest parts = tt

-- ---- the law

module _ {L : Type 0} (value : LogEntry → ℕ) (result : Result (Unit {0}) LogCause) (old new : Sight L) (memory : ℕ → ℕ) (checked : IsChecked value result old new) where
  abbrev started : List Event
  started = old.trace ++ Note CheckStart ∷ []

  abbrev front : CheckFront old.layout (veil_of old) memory started checked.runs.middle
  front = check-front old.layout (veil_of old) memory old.log.blocks started checked.runs.middle old.log.lines new.log.lines checked.runs.writes

  abbrev end : CheckEnd checked.runs.middle new.trace
  end = check-end value old.log.blocks checked.runs.middle new.trace result checked.runs.ends

  abbrev events : List Event
  events = Note CheckStart ∷ (front.events ++ end.events)

  appended : new.trace ≡ old.trace ++ events
  appended =
      end.appended ∙ ap (λ (t : List Event). t ++ end.events) front.appended ∙ append_assoc started front.events end.events
      ∙ append_assoc old.trace (Note CheckStart ∷ []) (front.events ++ end.events)

  tree-same : (n : ℕ) → contents_of_place new (Tree n) ≡ contents_of_place old (Tree n)
  tree-same n =
      tree-kept old new n checked.same
      (elsewhere-last n old.trace new.trace (check-elsewhere value old.log.blocks result old.trace new.trace old.log.lines new.log.lines checked.runs))

  -- the log after the lines were written back
  log-middle : MemoryStands old.layout old.tree old.lines old.log old.stamps old.trace → (n : ℕ)
      → contents_in new.log.lines (history checked.runs.middle) n ≡ contents_in old.log.lines (history old.trace) n
  log-middle stands n =
      (writes-contents old.log.blocks started checked.runs.middle old.log.lines new.log.lines checked.runs.writes stands.log_stands.size).1 n
      ∙ ap (λ (h : History). contents_in old.log.lines h n) (history-appended old.trace started (Note CheckStart) refl)
      ∙ contents-from old.log.lines old.log.lines (history old.trace) (Note CheckStart ◂ history old.trace) n refl
      (newest-untold (λ event _. written_at (Log n) event) (Note CheckStart) (history old.trace) refl)

  -- and after the reads
  log-same : MemoryStands old.layout old.tree old.lines old.log old.stamps old.trace → (n : ℕ) → contents_of_place new (Log n) ≡ contents_of_place old (Log n)
  log-same stands n =
      contents-from new.log.lines new.log.lines (history checked.runs.middle) (history new.trace) n refl
      (ap (λ (t : List Event). last_write (Log n) (history t)) end.appended ∙ last-same (Log n) checked.runs.middle end.events end.all)
      ∙ log-middle stands n

  check-reads : MemoryStands old.layout old.tree old.lines old.log old.stamps old.trace → AllAsWritten (history new.trace) → HasContents old memory → ReadsContents old new memory memory
  check-reads stands all has =
      let has_log : (n : ℕ) → IsTrue (is_memory_block old.layout (Log n)) → HasWordsAt memory (start_at old.layout (Log n)) (contents_in new.log.lines (history checked.runs.middle) n) =
      λ n is. subst (λ (o : Option (List ℕ)). HasWordsAt memory (start_at old.layout (Log n)) o) (sym (log-middle stands n)) (has.block (Log n) is) in
      let ends : AllGiveWords old.layout (veil_of old) memory end.events =
      log-reads-give old.layout (veil_of old) memory new.log.lines checked.runs.middle end.events end.all checked.runs.nothing
      (subst (λ (t : List Event). AllAsWritten (history t)) end.appended all) has_log in
      record {
        events = events;
        appended = appended;
        reads = given-each old.layout (veil_of old) memory events
            (tt, given-append old.layout (veil_of old) memory front.events end.events front.given (each-given old.layout (veil_of old) memory end.events ends));
        contents = contents-kept old new memory checked.same.layout both has;
      }
    where
      both : (place : Place) → contents_of_place new place ≡ contents_of_place old place
      both (Tree n) = tree-same n
      both (Log n) = log-same stands n

  -- no data block is read
  log-data : (reads : List Event) → AllReadLog reads → GivenData old.layout (veil_of old) memory reads
  log-data [] all = tt
  log-data (BlockRead (Tree n) block ∷ reads) all = absurd all.0
  log-data (BlockRead (Log n) block ∷ reads) all = (tt, log-data reads all.1)
  log-data (BlockWrite at block ∷ reads) all = absurd all.0
  log-data (WordRead who at word ∷ reads) all = absurd all.0
  log-data (WordWrite who at word ∷ reads) all = absurd all.0
  log-data (Note mark ∷ reads) all = (tt, log-data reads all.1)

  check-data : HasDataContents old memory → ReadsDataContents old new memory memory
  check-data has = record {
    events = events;
    appended = appended;
    reads = given_data-each old.layout (veil_of old) memory events
        (tt, given_data-append old.layout (veil_of old) memory front.events end.events (given-data old.layout (veil_of old) memory front.events front.given) (log-data end.events end.all));
    contents = data-kept old new memory checked.same.layout (λ n is. tree-same n) has;
  }

pub check-law : (L : Type 0) → ChecksReadContents L
check-law L = record {
  all = λ value result old new memory stands all has checked. check-reads value result old new memory checked stands all has;
  data_blocks = λ value result old new memory has checked. check-data value result old new memory checked has;
}
