-- How the events of a log's calls follow on one another, and what they keep.
use Rattle.std.proofs.Common.{◌≡◌, ◌≢◌, ℕ, zero, suc, ◌+◌, ◌<◌, ◌≤◌, Bool, true, false, eqb, ◌||◌, List, [], ◌∷◌, ◌++◌, length, Some, None, refl, sym, ap, ◌∙◌, subst, inl, inr, arith, length-append}
use Rattle.std.specs.Prelude.{nat_lt, slice_get, Result}
use Rattle.std.proofs.lemmas.Bool.{cases_Bool, eqb-true, eqb-false, ltb-true, ltb-false, false_from_ne_true}
use Rattle.std.specs.List.{list_any}
use Rattle.std.proofs.lemmas.List.{append-nil, append_assoc}
use Rattle.std.proofs.lemmas.List.Folds.{list_any-append}
use Rattle.aegis_num.specs.declared.storage.Block.{Block}
use Rattle.aegis_num.specs.declared.storage.Place.TheVariants.{Log}
use Rattle.off_chip.specs.declared.event.Event.{Event}
use Rattle.off_chip.specs.declared.event.Event.TheVariants.{BlockRead, BlockWrite, Note}
use Rattle.off_chip.specs.declared.event.Mark.TheVariants.{CheckStart, CheckPassed}
use Rattle.off_chip.specs.Histories.{History, no_event, ◌◂◌, history, followed}
use Rattle.off_chip.specs.WriteBacks.{last_write, block_writes}
use Rattle.off_chip.specs.Epochs.{LogEntry, log_entry, open_writes}
use Rattle.off_chip.proofs.HistoryLemmas.{history-appended, history-push, followed-append}
use Rattle.off_chip.proofs.WriteLemmas.{last_write-here, last_write-elsewhere}
use Rattle.stamp_log.specs.declared.causes.LogCause.{LogCause}
use Rattle.stamp_log.specs.LogStands.{AreLastWrites}
use Rattle.stamp_log.specs.LogState.{LogLines, line_of, stamped}
use Rattle.stamp_log.specs.StandsOn.{contents_in}
use Rattle.stamp_log.specs.LogCalls.{MakesRoom, WritesBack, HoldsNothing}
use Rattle.stamp_log.specs.LogContents.{KeepsContents}
use Rattle.stamp_log.specs.LogEvents.{zero_payload, zeros_written, reads_from, some_above, ReadsInOrder, StopsReading, EndsCheck, RunsCheck}
use Rattle.stamp_log.proofs.Offline.{writes-write}
use Rattle.stamp_log.proofs.CheckLemmas.{get-front, get-last}
use Rattle.stamp_log.proofs.ContentLemmas.{contents-from, contents-written, writes-contents}

-- ---- the writes of zeros

pub zeros-more : (last n now : ℕ) (start before after : List Event) → now ≡ last + n → before ≡ start ++ zeros_written last n
    → after ≡ before ++ BlockWrite (Log n) (stamped zero_payload (now + 1)) ∷ [] → after ≡ start ++ zeros_written last (n + 1)
zeros-more last n now start before after same is appended =
    let one : suc n ≡ n + 1 = omega arith in
    let stamp : now + 1 ≡ last + suc n = omega (arith, same) in
    appended
    ∙ ap (λ (t : List Event). t ++ BlockWrite (Log n) (stamped zero_payload (now + 1)) ∷ []) is
    ∙ append_assoc start (zeros_written last n) (BlockWrite (Log n) (stamped zero_payload (now + 1)) ∷ [])
    ∙ ap (λ (k : ℕ). start ++ (zeros_written last n ++ BlockWrite (Log n) (stamped zero_payload k) ∷ [])) stamp
    ∙ ap (λ (k : ℕ). start ++ zeros_written last k) one

log-apart : (m n : ℕ) → m ≢ n → Log m ≢ Log n
log-apart m n differ same = let e : m ≡ n = cc in differ e

smaller : (m n : ℕ) → m < suc n → m ≢ n → m < n
smaller m n below differ = elim (cases_Bool (nat_lt m n)) [
  | inl less ↦ ltb-true m n less
  | inr more ↦ let equal : m ≡ n = omega (arith, below, ltb-false m n more) in absurd (differ equal)
]

pub zeros-last : (last count : ℕ) (start : List Event) (m : ℕ) → m < count
    → last_write (Log m) (history (start ++ zeros_written last count)) ≡ Some (stamped zero_payload (last + suc m))
zeros-last last zero start m below = let no_such : ⊥ = omega (arith, below) in absurd no_such
zeros-last last (suc n) start m below =
    let block : Block = stamped zero_payload (last + suc n) in
    let before : List Event = start ++ zeros_written last n in
    let e : history (start ++ (zeros_written last n ++ BlockWrite (Log n) block ∷ [])) ≡ BlockWrite (Log n) block ◂ history before =
    history-appended before (start ++ (zeros_written last n ++ BlockWrite (Log n) block ∷ [])) (BlockWrite (Log n) block)
    (sym (append_assoc start (zeros_written last n) (BlockWrite (Log n) block ∷ []))) in
    let here : last_write (Log m) (BlockWrite (Log n) block ◂ history before) ≡ Some (stamped zero_payload (last + suc m)) = elim (cases_Bool (eqb m n)) [
      | inl equal ↦ subst (λ (k : ℕ). last_write (Log k) (BlockWrite (Log n) block ◂ history before) ≡ Some (stamped zero_payload (last + suc k))) (sym (eqb-true m n equal))
          (last_write-here (Log n) block (history before))
      | inr other ↦
          let differ : m ≢ n = λ equal. eqb-false m n other equal in
          last_write-elsewhere (Log m) (Log n) block (history before) (log-apart m n differ) ∙ zeros-last last n start m (smaller m n below differ)
    ] in
    ap (λ (h : History). last_write (Log m) h) e ∙ here

-- the contents of a block without a line, after the writes of zeros
pub zeros-contents : (last count : ℕ) (start after : List Event) (lines : LogLines) (m : ℕ) → m < count → after ≡ start ++ zeros_written last count → line_of lines m ≡ None
    → contents_in lines (history after) m ≡ Some zero_payload
zeros-contents last count start after lines m below is line =
    contents-written lines (history after) m (stamped zero_payload (last + suc m)) line (ap (λ (t : List Event). last_write (Log m) (history t)) is ∙ zeros-last last count start m below)

-- the entries of these writes
zero_entries : ℕ → ℕ → List LogEntry
zero_entries last zero = []
zero_entries last (suc n) = zero_entries last n ++ log_entry n (stamped zero_payload (last + suc n)) ∷ []

zeros-entries : (last count : ℕ) (start : List Event) → open_writes (history start) ≡ [] → open_writes (history (start ++ zeros_written last count)) ≡ zero_entries last count
unfolding zero_entries
zeros-entries last zero start none = ap (λ (t : List Event). open_writes (history t)) (append-nil start) ∙ none
zeros-entries last (suc n) start none =
    let block : Block = stamped zero_payload (last + suc n) in
    let before : List Event = start ++ zeros_written last n in
    ap (λ (h : History). open_writes h) (history-appended before (start ++ (zeros_written last n ++ BlockWrite (Log n) block ∷ [])) (BlockWrite (Log n) block)
    (sym (append_assoc start (zeros_written last n) (BlockWrite (Log n) block ∷ []))))
    ∙ writes-write n block (history before)
    ∙ ap (λ (xs : List LogEntry). xs ++ log_entry n block ∷ []) (zeros-entries last n start none)

long-entries : (last count : ℕ) → length (zero_entries last count) ≡ count
unfolding zero_entries
long-entries last zero = refl
long-entries last (suc n) = omega (arith, length-append (zero_entries last n) (log_entry n (stamped zero_payload (last + suc n)) ∷ []), long-entries last n)

entry-at : (last count m : ℕ) → m < count → slice_get (zero_entries last count) m ≡ Some (log_entry m (stamped zero_payload (last + suc m)))
unfolding zero_entries
entry-at last zero m below = let no_such : ⊥ = omega (arith, below) in absurd no_such
entry-at last (suc n) m below =
    let entry : LogEntry = log_entry n (stamped zero_payload (last + suc n)) in
    elim (cases_Bool (eqb m n)) [
      | inl equal ↦ subst (λ (k : ℕ). slice_get (zero_entries last n ++ entry ∷ []) k ≡ Some (log_entry k (stamped zero_payload (last + suc k)))) (sym (eqb-true m n equal))
          (get-last (zero_entries last n) entry n (sym (long-entries last n)))
      | inr other ↦ get-front (zero_entries last n) (entry ∷ []) m (log_entry m (stamped zero_payload (last + suc m)))
          (entry-at last n m (smaller m n below (λ equal. eqb-false m n other equal)))
    ]

-- the writes of the first epoch begin with the last write-backs of its start
pub zeros-first : (last count : ℕ) (start after : List Event) → open_writes (history start) ≡ [] → after ≡ start ++ zeros_written last count
    → AreLastWrites count (open_writes (history after)) (history after)
zeros-first last count start after none is =
    let entries : open_writes (history after) ≡ zero_entries last count = ap (λ (t : List Event). open_writes (history t)) is ∙ zeros-entries last count start none in
    record {
      count = ap (λ (xs : List LogEntry). length xs) entries ∙ long-entries last count;
      each = λ n less. record {
        block = stamped zero_payload (last + suc n);
        written = ap (λ (t : List Event). last_write (Log n) (history t)) is ∙ zeros-last last count start n less;
        at = ap (λ (xs : List LogEntry). slice_get xs n) entries ∙ entry-at last count n less;
      };
    }

-- ---- the reads of a check

pub none-read : (before : List Event) → ReadsInOrder 0 before before
none-read before = record { read = []; events = sym (append-nil before); counted = refl; fit = refl }

reads-push : (k : ℕ) (blocks : List Block) (last : Block) → reads_from k (blocks ++ last ∷ []) ≡ reads_from k blocks ++ BlockRead (Log (k + length blocks)) last ∷ []
reads-push k [] last =
    let same : k ≡ k + 0 = omega arith in
    ap (λ (m : ℕ). BlockRead (Log m) last ∷ []) same
reads-push k (block ∷ rest) last =
    let same : suc k + length rest ≡ k + length (block ∷ rest) = omega arith in
    ap (λ (t : List Event). BlockRead (Log k) block ∷ t) (reads-push (suc k) rest last ∙ ap (λ (m : ℕ). reads_from (suc k) rest ++ BlockRead (Log m) last ∷ []) same)

pub one-more-read : (n : ℕ) (block : Block) (start before after : List Event) → ReadsInOrder n start before → after ≡ before ++ BlockRead (Log n) block ∷ []
    → block.stamp ≤ block_writes start → ReadsInOrder (n + 1) start after
one-more-read n block start before after reads appended stamp =
    let above : nat_lt (block_writes start) block.stamp ≡ false =
    false_from_ne_true (nat_lt (block_writes start) block.stamp) (λ less. let bad : ⊥ = omega (arith, ltb-true (block_writes start) block.stamp less, stamp) in bad) in
    let number : n ≡ 0 + length reads.read = omega (arith, reads.counted) in
    record {
      read = reads.read ++ block ∷ [];
      events = appended
          ∙ ap (λ (t : List Event). t ++ BlockRead (Log n) block ∷ []) reads.events
          ∙ append_assoc start (reads_from 0 reads.read) (BlockRead (Log n) block ∷ [])
          ∙ ap (λ (m : ℕ). start ++ (reads_from 0 reads.read ++ BlockRead (Log m) block ∷ [])) number
          ∙ ap (λ (t : List Event). start ++ t) (sym (reads-push 0 reads.read block));
      counted = length-append reads.read (block ∷ []) ∙ ap (λ (k : ℕ). k + 1) reads.counted;
      fit = list_any-append (λ (b : Block). nat_lt (block_writes start) b.stamp) reads.read (block ∷ [])
          ∙ ap (λ (b : Bool). b || (nat_lt (block_writes start) block.stamp || false)) reads.fit
          ∙ ap (λ (b : Bool). b || false) above;
    }

-- reads change no last write-back
followed-reads : (k : ℕ) (blocks : List Block) (older : History) (m : ℕ) → last_write (Log m) (followed older (reads_from k blocks)) ≡ last_write (Log m) older
followed-reads k [] older m = refl
followed-reads k (block ∷ rest) older m = followed-reads (suc k) rest (BlockRead (Log k) block ◂ older) m

reads-last : (count : ℕ) (before after : List Event) → ReadsInOrder count before after → (m : ℕ) → last_write (Log m) (history after) ≡ last_write (Log m) (history before)
reads-last count before after reads m =
    ap (λ (t : List Event). last_write (Log m) (history t)) reads.events
    ∙ ap (λ (h : History). last_write (Log m) h) (followed-append no_event before (reads_from 0 reads.read))
    ∙ followed-reads 0 reads.read (history before) m

ends-last : (value : LogEntry → ℕ) (blocks : ℕ) (before after : List Event) (result : Result (Unit {0}) LogCause) → EndsCheck value blocks before after result
    → (m : ℕ) → last_write (Log m) (history after) ≡ last_write (Log m) (history before)
ends-last value blocks before after result (EndsCheck.passes compared reads agree appended answer) m =
    ap (λ (h : History). last_write (Log m) h) (history-appended compared after (Note CheckPassed) appended) ∙ reads-last blocks before compared reads m
ends-last value blocks before after result (EndsCheck.differs read written reads differ answer) m = reads-last blocks before after reads m
ends-last value blocks before after result (EndsCheck.stops event stopped answer) m =
    ap (λ (h : History). last_write (Log m) h) (history-appended stopped.middle after (BlockRead (Log stopped.n) stopped.block) stopped.last)
    ∙ reads-last stopped.n before stopped.middle stopped.earlier m

-- a check leaves the contents of all blocks
pub check-contents : (value : LogEntry → ℕ) (blocks : ℕ) (result : Result (Unit {0}) LogCause) (before after : List Event) (old new : LogLines) → length old.held ≡ blocks
    → RunsCheck value blocks result before after old new → KeepsContents old new (history before) (history after)
check-contents value blocks result before after old new size runs = record {
  each = λ m. contents-from new new (history runs.middle) (history after) m refl (ends-last value blocks runs.middle after result runs.ends m)
      ∙ (writes-contents blocks (before ++ Note CheckStart ∷ []) runs.middle old new runs.writes size).1 m
      ∙ contents-from old old (history before) (history (before ++ Note CheckStart ∷ [])) m refl (ap (λ (h : History). last_write (Log m) h) (history-push before (Note CheckStart)));
}

-- ---- how many events there are

pub room-length : (blocks : ℕ) (before after : List Event) (old new : LogLines) → MakesRoom blocks before after old new → length after ≤ length before + 1
room-length blocks before after old new (MakesRoom.nothing same held payloads) = omega (arith, ap (λ (t : List Event). length t) same)
room-length blocks before after old new (MakesRoom.written n stamp payload less line same held payloads) =
    omega (arith, ap (λ (t : List Event). length t) same, length-append before (BlockWrite (Log n) (stamped payload stamp) ∷ []))

long-reads : (k : ℕ) (blocks : List Block) → length (reads_from k blocks) ≡ length blocks
long-reads k [] = refl
long-reads k (block ∷ rest) = ap (λ (n : ℕ). suc n) (long-reads (suc k) rest)

reads-length : (count : ℕ) (before after : List Event) → ReadsInOrder count before after → length after ≡ length before + count
reads-length count before after reads =
    omega (arith, ap (λ (t : List Event). length t) reads.events, length-append before (reads_from 0 reads.read), long-reads 0 reads.read, reads.counted)

pub ends-length : (value : LogEntry → ℕ) (blocks : ℕ) (before after : List Event) (result : Result (Unit {0}) LogCause) → EndsCheck value blocks before after result
    → length after ≤ length before + (blocks + 1)
ends-length value blocks before after result (EndsCheck.passes compared reads agree appended answer) =
    omega (arith, reads-length blocks before compared reads, ap (λ (t : List Event). length t) appended, length-append compared (Note CheckPassed ∷ []))
ends-length value blocks before after result (EndsCheck.differs read written reads differ answer) = omega (arith, reads-length blocks before after reads)
ends-length value blocks before after result (EndsCheck.stops event stopped answer) =
    omega (
      arith,
      reads-length stopped.n before stopped.middle stopped.earlier,
      ap (λ (t : List Event). length t) stopped.last,
      length-append stopped.middle (BlockRead (Log stopped.n) stopped.block ∷ []),
      stopped.less,
    )

-- a check that ran so
pub check-runs : (value : LogEntry → ℕ) (blocks : ℕ) (result : Result (Unit {0}) LogCause) (before noted middle after : List Event) (old new : LogLines)
    → noted ≡ before ++ Note CheckStart ∷ [] → WritesBack blocks noted middle old new → HoldsNothing new → length middle ≤ length noted + 32
    → EndsCheck value blocks middle after result → RunsCheck value blocks result before after old new
check-runs value blocks result before noted middle after old new is writes nothing few ends = record {
  middle = middle;
  writes = subst (λ (t : List Event). WritesBack blocks t middle old new) is writes;
  nothing = nothing;
  few = omega (arith, few, ap (λ (t : List Event). length t) is, length-append before (Note CheckStart ∷ []));
  ends = ends;
}

pub check-most : (value : LogEntry → ℕ) (blocks : ℕ) (result : Result (Unit {0}) LogCause) (before after : List Event) (old new : LogLines)
    → RunsCheck value blocks result before after old new → length after ≤ length before + (blocks + 34)
check-most value blocks result before after old new runs = omega (arith, ends-length value blocks runs.middle after result runs.ends, runs.few)
