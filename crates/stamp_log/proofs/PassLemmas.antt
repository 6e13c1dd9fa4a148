-- How a check begins, writes back all lines, and passes.
use Rattle.std.proofs.Common.{◌≡◌, ◌≢◌, ℕ, ◌<◌, Bool, true, false, eqb, ◌||◌, List, [], ◌∷◌, ◌++◌, length, refl, sym, ap, ◌∙◌, subst, inl, inr, arith}
use Rattle.std.specs.Prelude.{is_some, not, ◌&&◌, IsTrue, ◌↔◌}
use Rattle.std.specs.Bool.{OnTrue}
use Rattle.std.specs.List.{list_any}
use Rattle.std.proofs.lemmas.Bool.{cases_Bool, or_right, both_ways, and_parts, and_from, eqb-true, eq-eqb, OnFalse_from}
use Rattle.std.proofs.lemmas.List.{append-nil, length-set}
use Rattle.std.proofs.lemmas.List.Folds.{list_any-append}
use Rattle.aegis_num.specs.declared.storage.Key.{Key}
use Rattle.aegis_num.specs.declared.storage.Place.TheVariants.{Log}
use Rattle.off_chip.specs.declared.event.Event.{Event}
use Rattle.off_chip.specs.declared.event.Event.TheVariants.{BlockWrite, Note}
use Rattle.off_chip.specs.declared.event.Mark.{Mark}
use Rattle.stamp_log.specs.declared.sums.MultisetSum.{MultisetSum}
use Rattle.off_chip.specs.declared.event.Mark.TheVariants.{CheckPassed, CheckStart}
use Rattle.off_chip.specs.Histories.{History, no_event, ◌◂◌, history, Each, EachSince, until}
use Rattle.off_chip.specs.FaithfulReads.{is_faithful, is_log_read, LogFaithful}
use Rattle.off_chip.specs.WriteBacks.{StampsFit}
use Rattle.off_chip.specs.Residency.{in_check, is_resident}
use Rattle.off_chip.specs.Epochs.{LogEntry, IsQuiet, is_passed, is_check_start, open_epoch, check_of, reads_of, open_reads, open_writes}
use Rattle.off_chip.specs.Collisions.{EntrySum, sum_of}
use Rattle.off_chip.proofs.HistoryLemmas.{history-appended, in_order-history}
use Rattle.off_chip.proofs.MoreLemmas.{open_reads-more, open_writes-more}
use Rattle.off_chip.proofs.WriteLemmas.{StampsFit-other}
use Rattle.stamp_log.specs.LogStands.{TraceStands, HoldsLogCollision}
use Rattle.stamp_log.specs.OfflineCheck.{PassedFaithful}
use Rattle.stamp_log.specs.LogState.{LogState, LogLines, stamped, value_under, entry_sum}
use Rattle.stamp_log.specs.StandsOn.{StandsOn, LinesStand, no_entries}
use Rattle.stamp_log.specs.LogCalls.{MakesRoom, WritesBack, HoldsNothing}
use Rattle.stamp_log.specs.Checking.{check_reads, IsChecking, IsReading}
use Rattle.stamp_log.proofs.TraceLemmas.{trace-other, trace-passed, reads-push}
use Rattle.stamp_log.proofs.LogLemmas.{RoomKeeps, room-keeps, line-none}

-- ---- the start

no-start : (older : History) → in_check older ≡ false → list_any is_check_start (open_epoch older) ≡ false
no-start no_event outside = refl
no-start (Note CheckStart ◂ older) outside = cc
no-start (Note CheckPassed ◂ older) outside = refl
no-start (event ◂ older) outside = list_any-append is_check_start (open_epoch older) (event ∷ []) ∙ ap (λ (b : Bool). b || false) (no-start older outside)

check-none : (xs : List Event) → list_any is_check_start xs ≡ false → check_of (xs ++ Note CheckStart ∷ []) ≡ []
check-none [] none = refl
check-none (x ∷ xs) none = elim (cases_Bool (is_check_start x)) [
  | inl starts ↦ absurd (both_ways (is_check_start x || list_any is_check_start xs) none (ap (λ (b : Bool). b || list_any is_check_start xs) starts))
  | inr other ↦ rw other (check-none xs (ap (λ (b : Bool). b || list_any is_check_start xs) (sym other) ∙ none))
]

-- what stands in a check before its reads
pub record InWrites (value : LogEntry → ℕ) (blocks : ℕ) (kept : LogLines) (start older : History) : Type 0 where
  pub lines : LinesStand blocks kept older
  pub trace : TraceStands value blocks older
  pub checking : IsChecking 0 older
  pub reads : open_reads older ≡ open_reads start
  pub size : length kept.held ≡ blocks

pub check-starts : (value : LogEntry → ℕ) (blocks : ℕ) (lines : LogLines) (older : History) → LinesStand blocks lines older → TraceStands value blocks older → in_check older ≡ false
    → length lines.held ≡ blocks → InWrites value blocks lines older (Note CheckStart ◂ older)
check-starts value blocks lines older stand trace outside size = record {
  lines = record { resident = stand.resident; out = stand.out };
  trace = trace-other value blocks (Note CheckStart) older refl (λ n. refl) tt tt trace;
  checking = record {
    under_way = refl;
    started = list_any-append is_check_start (open_epoch older) (Note CheckStart ∷ []) ∙ or_right (list_any is_check_start (open_epoch older)) true refl;
    counted = ap (λ (xs : List Event). length (reads_of xs)) (check-none (open_epoch older) (no-start older outside));
    each = λ n less. let no_such : ⊥ = omega (arith, less) in absurd no_such;
  };
  reads = open_reads-more (Note CheckStart) older ∙ append-nil (open_reads older);
  size = size;
}

pub writes-at-start : (older : History) → open_writes (Note CheckStart ◂ older) ≡ open_writes older
writes-at-start older = open_writes-more (Note CheckStart) older ∙ append-nil (open_writes older)

-- ---- the writes

pub held-after : (blocks : ℕ) (before after : List Event) (old new : LogLines) → MakesRoom blocks before after old new → length new.held ≡ length old.held
held-after blocks before after old new (MakesRoom.nothing same held payloads) = ap (λ (xs : List Bool). length xs) held
held-after blocks before after old new (MakesRoom.written n stamp payload less line same held payloads) = ap (λ (xs : List Bool). length xs) held ∙ length-set old.held n false

checking-after : (blocks : ℕ) (before after : List Event) (old new : LogLines) → MakesRoom blocks before after old new → IsChecking 0 (history before) → IsChecking 0 (history after)
checking-after blocks before after old new (MakesRoom.nothing same held payloads) checking = subst (λ (t : List Event). IsChecking 0 (history t)) (sym same) checking
checking-after blocks before after old new (MakesRoom.written n stamp payload less line same held payloads) checking =
    subst (λ (h : History). IsChecking 0 h) (sym (history-appended before after (BlockWrite (Log n) (stamped payload stamp)) same))
    (record {
      under_way = checking.under_way;
      started = list_any-append is_check_start (open_epoch (history before)) (BlockWrite (Log n) (stamped payload stamp) ∷ [])
          ∙ ap (λ (b : Bool). b || list_any is_check_start (BlockWrite (Log n) (stamped payload stamp) ∷ [])) checking.started;
      counted = ap (λ (xs : List LogEntry). length xs) (reads-push (history before) (BlockWrite (Log n) (stamped payload stamp)) refl checking.started
          ∙ append-nil (check_reads (history before))) ∙ checking.counted;
      each = λ m below. let no_such : ⊥ = omega (arith, below) in absurd no_such;
    })

pub writes-keep : (value : LogEntry → ℕ) (blocks : ℕ) (start : History) (before after : List Event) (old new : LogLines) → WritesBack blocks before after old new
    → InWrites value blocks old start (history before) → InWrites value blocks new start (history after)
writes-keep value blocks start before after old new (WritesBack.none trace lines) stands = stands
writes-keep value blocks start before after old new (WritesBack.more first middle last one between other writes makes) stands =
    let earlier : InWrites value blocks between start (history middle) = writes-keep value blocks start before middle old between writes stands in
    let keeps : RoomKeeps value blocks (history middle) (history after) new = room-keeps value blocks middle after between new makes earlier.size earlier.lines earlier.trace in
    record {
      lines = keeps.lines;
      trace = keeps.trace;
      checking = checking-after blocks middle after between new makes earlier.checking;
      reads = keeps.reads ∙ earlier.reads;
      size = held-after blocks middle after between new makes ∙ earlier.size;
    }

-- with no line left, the reads can begin
pub reads-begin : (value : LogEntry → ℕ) (blocks : ℕ) (lines : LogLines) (start older : History) → InWrites value blocks lines start older → HoldsNothing lines
    → IsReading value blocks 0 older older
reads-begin value blocks lines start older stands nothing = record {
  trace = stands.trace;
  checking = stands.checking;
  out = λ n less. let no_such : ⊥ = omega (arith, less) in absurd no_such;
  inside = λ n from less. sym (stands.lines.out n less) ∙ ap is_some (line-none lines n (nothing.nothing n));
  resident = λ n. refl;
  writes = refl;
}

-- ---- the end

pub check-passes : (log : LogState) (last : ℕ) (start older : History) → IsReading (value_under log.key) log.blocks log.blocks start older → StampsFit last older
    → ((n : ℕ) → n < log.blocks → is_resident (Log n) start ≡ false) → HoldsNothing log.lines → length log.lines.held ≡ log.blocks
    → sum_of (value_under log.key) (open_writes older) ≡ sum_of (value_under log.key) (open_reads older)
    → entry_sum log.read ≡ no_entries → entry_sum log.written ≡ sum_of (value_under log.key) (check_reads older)
    → StandsOn log (Note CheckPassed ◂ older)
check-passes log last start older reading fits resident nothing size sums read written = record {
  read = read;
  written = written ∙ ap (λ (xs : List LogEntry). sum_of (value_under log.key) xs) (sym (append-nil (check_reads older)));
  lines = record {
    resident = λ n less. ap is_some (line-none log.lines n (nothing.nothing n)) ∙ sym (reading.resident n ∙ resident n less);
    out = λ n less. ap is_some (line-none log.lines n (nothing.nothing n));
  };
  trace = trace-passed (value_under log.key) log.blocks last older reading.trace fits reading.out reading.checking sums;
  no_check = refl;
  size = size;
}

-- ---- in order

pub mark-fits : (last : ℕ) (mark : Mark) (before after : List Event) → after ≡ before ++ Note mark ∷ [] → StampsFit last (history before) → StampsFit last (history after)
mark-fits last mark before after appended fits =
    subst (λ (h : History). StampsFit last h) (sym (history-appended before after (Note mark) appended)) (StampsFit-other last (history before) (Note mark) fits refl)

pub start-sum : (value : LogEntry → ℕ) (sum : EntrySum) (before after : List Event) → after ≡ before ++ Note CheckStart ∷ [] → sum ≡ sum_of value (open_writes (history before))
    → sum ≡ sum_of value (open_writes (history after))
start-sum value sum before after appended is =
    is ∙ ap (λ (xs : List LogEntry). sum_of value xs) (sym (writes-at-start (history before)))
    ∙ ap (λ (h : History). sum_of value (open_writes h)) (sym (history-appended before after (Note CheckStart) appended))

-- all lines were written back after the start of a check
pub all-written : (log : LogState) (before middle after : List Event) (new : LogLines) → StandsOn log (history before) → middle ≡ before ++ Note CheckStart ∷ []
    → WritesBack log.blocks middle after log.lines new → InWrites (value_under log.key) log.blocks new (history before) (history after)
all-written log before middle after new stands appended writes =
    writes-keep (value_under log.key) log.blocks (history before) middle after log.lines new writes
    (subst (λ (h : History). InWrites (value_under log.key) log.blocks log.lines (history before) h) (sym (history-appended before middle (Note CheckStart) appended))
    (check-starts (value_under log.key) log.blocks log.lines (history before) stands.lines stands.trace stands.no_check stands.size))

nothing-long : (xs : List LogEntry) → length xs ≡ 0 → xs ≡ []
nothing-long [] none = refl
nothing-long (x ∷ xs) none = let no_such : ⊥ = omega (arith, none) in absurd no_such

pub none-checked : (value : LogEntry → ℕ) (sum : MultisetSum) (older : History) → IsChecking 0 older → sum.count ≡ 0 → sum.sum ≡ 0 → entry_sum sum ≡ sum_of value (check_reads older)
none-checked value sum older checking count total =
    ap (λ (n : ℕ). record { number = n; total = sum.sum }) count ∙ ap (λ (n : ℕ). record { number = 0; total = n }) total
    ∙ ap (λ (xs : List LogEntry). sum_of value xs) (sym (nothing-long (check_reads older) checking.counted))

pub empty-sum : (sum : MultisetSum) → sum.count ≡ 0 → sum.sum ≡ 0 → entry_sum sum ≡ no_entries
empty-sum sum count total = ap (λ (n : ℕ). record { number = n; total = sum.sum }) count ∙ ap (λ (n : ℕ). record { number = 0; total = n }) total

pub check-stands : (log : LogState) (last : ℕ) (before middle second third after : List Event) (old : LogState) → log.key ≡ old.key → log.blocks ≡ old.blocks
    → InWrites (value_under old.key) old.blocks log.lines (history before) (history second) → HoldsNothing log.lines
    → IsReading (value_under old.key) old.blocks old.blocks (history second) (history third) → StampsFit last (history third)
    → sum_of (value_under old.key) (open_writes (history third)) ≡ sum_of (value_under old.key) (open_reads (history third))
    → entry_sum log.read ≡ no_entries → entry_sum log.written ≡ sum_of (value_under old.key) (check_reads (history third))
    → after ≡ third ++ Note CheckPassed ∷ [] → StandsOn log (history after)
check-stands log last before middle second third after old key blocks stands nothing reading fits sums read written appended =
    subst (λ (h : History). StandsOn log h) (sym (history-appended third after (Note CheckPassed) appended))
    (check-passes log last (history second) (history third)
    (subst (λ (k : Key). IsReading (value_under k) log.blocks log.blocks (history second) (history third)) (sym key)
    (subst (λ (n : ℕ). IsReading (value_under old.key) n n (history second) (history third)) (sym blocks) reading))
    fits
    (λ n less. sym (stands.lines.resident n (omega (arith, less, blocks))) ∙ ap is_some (line-none log.lines n (nothing.nothing n)))
    nothing
    (stands.size ∙ sym blocks)
    (subst (λ (k : Key). sum_of (value_under k) (open_writes (history third)) ≡ sum_of (value_under k) (open_reads (history third))) (sym key) sums)
    read
    (written ∙ ap (λ (k : Key). sum_of (value_under k) (check_reads (history third))) (sym key)))

-- two sums that compare as equal are one sum
pub same-sum : (sum other : MultisetSum) → false ≡ not (eqb sum.count other.count && eqb sum.sum other.sum) → entry_sum sum ≡ entry_sum other
same-sum sum other compared =
    let both = and_parts (eqb sum.count other.count) (eqb sum.sum other.sum) (by (eqb sum.count other.count && eqb sum.sum other.sum) compared) in
    ap (λ (n : ℕ). record { number = n; total = sum.sum }) (eqb-true sum.count other.count both.0)
    ∙ ap (λ (n : ℕ). record { number = other.count; total = n }) (eqb-true sum.sum other.sum both.1)
  where
    by : (b : Bool) → false ≡ not b → b ≡ true
    by true same = refl
    by false same = cc

each-since : (test : Event → Bool) (P : Event → History → Type 0) (older : History) → Each P older → EachSince test P older
each-since test P no_event each = tt
each-since test P (event ◂ older) each = OnFalse_from (test event) (EachSince test P older × P event older) (λ fails. (each-since test P older each.0, each.1))

-- after a check that passed, the epoch that it ended is faithful, or there is a collision
pub passed-faithful : (value : LogEntry → ℕ) (blocks : ℕ) (before after : List Event) → after ≡ before ++ Note CheckPassed ∷ [] → TraceStands value blocks (history after)
    → PassedFaithful value after
passed-faithful value blocks before after appended stands =
    let e : history after ≡ Note CheckPassed ◂ history before = history-appended before after (Note CheckPassed) appended in
    record {
      before = before;
      last = appended;
      faithful = elim stands.ended [
        | inl well ↦ inl (λ image.
            let ended : LogFaithful image (until is_passed (history after)) = (well.faithful image).ended in
            let all : LogFaithful image (history before) = subst (λ (h : History). LogFaithful image (until is_passed h)) e ended in
            record { each = each-since is_passed (λ event older. OnTrue (is_log_read event) (IsTrue (is_faithful image event older))) (history before) all.each })
        | inr holds ↦ inr (subst (λ (t : List Event). HoldsLogCollision value t) (in_order-history after) holds)
      ];
    }

-- no entry was read exactly where none is counted
pub quiet-count : (log : LogState) (older : History) → StandsOn log older → (log.read.count ≡ 0) ↔ IsQuiet older
quiet-count log older stands =
    let same : log.read.count ≡ length (open_reads older) = ap (λ (s : EntrySum). s.number) stands.read in (
      λ none. record { nothing = nothing-long (open_reads older) (sym same ∙ none) },
      λ quiet. same ∙ ap (λ (xs : List LogEntry). length xs) quiet.nothing,
    )

-- two sums that compare as different differ
pub differ-sum : (sum other : MultisetSum) → true ≡ not (eqb sum.count other.count && eqb sum.sum other.sum) → entry_sum sum ≢ entry_sum other
differ-sum sum other compared same =
    let counts : eqb sum.count other.count ≡ true = eq-eqb sum.count other.count (ap (λ (s : EntrySum). s.number) same) in
    let totals : eqb sum.sum other.sum ≡ true = eq-eqb sum.sum other.sum (ap (λ (s : EntrySum). s.total) same) in
    let both : (eqb sum.count other.count && eqb sum.sum other.sum) ≡ true = and_from (eqb sum.count other.count) (eqb sum.sum other.sum) counts totals in
    let bad : true ≡ false = compared ∙ ap not both in cc
