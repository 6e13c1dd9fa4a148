-- Why a check of the log did not pass.
use Rattle.std.proofs.Common.{◌≡◌, ℕ, zero, suc, ◌+◌, ◌<◌, arith, Bool, true, false, cond, Result, Ok, Err, List, [], ◌∷◌, ◌++◌, length, Option, Some, None, refl, sym, ap, ◌∙◌, subst}
use Rattle.std.specs.Prelude.{IfErr, option_to_list}
use Rattle.std.specs.List.{cons_option}
use Rattle.std.proofs.lemmas.List.{append-nil, append_assoc}
use Rattle.aegis_num.specs.declared.Block.{Block}
use Rattle.aegis_num.specs.declared.Place.TheVariants.{Log, Tree}
use Rattle.off_chip.specs.declared.Event.{Event}
use Rattle.off_chip.specs.declared.Event.TheVariants.{BlockRead, BlockWrite, Note, WordRead, WordWrite}
use Rattle.off_chip.specs.declared.Mark.TheVariants as mark
use Rattle.off_chip.specs.Collisions.{sum_of}
use Rattle.off_chip.specs.Epochs.{LogEntry, check_of, is_check_start, is_passed, log_read, log_written, open_epoch, open_reads, open_writes, reads_of}
use Rattle.off_chip.specs.Histories.{History, no_event, ◌◂◌, history, Each}
use Rattle.off_chip.proofs.HistoryLemmas.{history-push}
use Rattle.off_chip.proofs.MoreLemmas.{open_reads-more, open_writes-more}
use Rattle.stamp_log.specs.declared.LogCause.{LogCause}
use Rattle.stamp_log.specs.declared.LogCause.TheVariants.{Future, Sums}
use Rattle.stamp_log.specs.LogCalls.{MakesRoom, WritesBack}
use Rattle.stamp_log.specs.LogEvents.{EndsCheck, ReadsInOrder, RunsCheck, SumsAgree, reads_from}
use Rattle.stamp_log.specs.LogState.{LogLines}
use Rattle.stamp_log.specs.LogTurns.{TakesTurn}
use Rattle.aegis_machine.specs.Causes.{EndsByCause, IsLastRead}

-- ---- a log without blocks is neither read nor written

-- an entry that is none, before others
none-first : {T : Type 0} (first : Option T) (rest : List T) → cons_option first rest ≡ [] → rest ≡ []
none-first None rest none = none
none-first (Some entry) rest none = cc

check-blank : (events : List Event) → reads_of events ≡ [] → reads_of (check_of events) ≡ []
check-blank [] none = refl
check-blank (event ∷ events) none = by (is_check_start event) rest (check-blank events rest)
  where
    rest : reads_of events ≡ []
    rest = none-first (log_read event) (reads_of events) none

    by : (b : Bool) → reads_of events ≡ [] → reads_of (check_of events) ≡ [] → reads_of (cond b events (check_of events)) ≡ []
    by true whole checked = whole
    by false whole checked = checked

record IsBlank (older : History) : Type 0 where
  reads : open_reads older ≡ []
  writes : open_writes older ≡ []

-- an event that is none of the log
blank-more : (event : Event) (older : History) → log_read event ≡ None → log_written event ≡ None → IsBlank older → IsBlank (event ◂ older)
blank-more event older read written blank = record {
  reads = open_reads-more event older ∙ reads-by (is_passed event);
  writes = open_writes-more event older ∙ writes-by (is_passed event);
}
  where
    reads-by : (b : Bool) → cond b [] (open_reads older ++ option_to_list (log_read event)) ≡ []
    reads-by true = refl
    reads-by false =
        ap (λ (o : Option LogEntry). open_reads older ++ option_to_list o) read ∙ append-nil (open_reads older) ∙ blank.reads

    writes-by : (b : Bool) → cond b (reads_of (check_of (open_epoch older))) (open_writes older ++ option_to_list (log_written event)) ≡ []
    writes-by true = check-blank (open_epoch older) blank.reads
    writes-by false =
        ap (λ (o : Option LogEntry). open_writes older ++ option_to_list o) written ∙ append-nil (open_writes older) ∙ blank.writes

none-less : (n : ℕ) → n < 0 → ⊥
none-less n less = omega (arith, less)

blank-turns : (older : History) → Each (TakesTurn 0) older → IsBlank older
blank-turns no_event each = record { reads = refl; writes = refl }
blank-turns (BlockRead (Log n) block ◂ older) each = absurd (none-less n each.1.0)
blank-turns (BlockWrite (Log n) block ◂ older) each = absurd (none-less n each.1.0)
blank-turns (BlockRead (Tree n) block ◂ older) each = blank-more (BlockRead (Tree n) block) older refl refl (blank-turns older each.0)
blank-turns (BlockWrite (Tree n) block ◂ older) each = blank-more (BlockWrite (Tree n) block) older refl refl (blank-turns older each.0)
blank-turns (WordRead by at word ◂ older) each = blank-more (WordRead by at word) older refl refl (blank-turns older each.0)
blank-turns (WordWrite by at word ◂ older) each = blank-more (WordWrite by at word) older refl refl (blank-turns older each.0)
blank-turns (Note mark ◂ older) each = blank-more (Note mark) older refl refl (blank-turns older each.0)

-- none of its blocks is written back, and none is read
room-none : (before after : List Event) (old new : LogLines) → MakesRoom 0 before after old new → after ≡ before
room-none before after old new (MakesRoom.nothing same held payloads) = same
room-none before after old new (MakesRoom.written n stamp payload less line same held payloads) = absurd (none-less n less)

writes-none : (before after : List Event) (old new : LogLines) → WritesBack 0 before after old new → after ≡ before
writes-none before after old new (WritesBack.none trace lines) = refl
writes-none before after old new (WritesBack.more start middle end older between newer writes room) =
    room-none middle after between new room ∙ writes-none before middle old between writes

reads-none : (before after : List Event) → ReadsInOrder 0 before after → after ≡ before
reads-none before after reads = reads.events ∙ ap (λ (xs : List Event). before ++ xs) (by reads.read reads.counted) ∙ append-nil before
  where
    by : (read : List Block) → length read ≡ 0 → reads_from 0 read ≡ []
    by [] none = refl
    by (block ∷ read) none = absurd (omega (arith, none))

-- so its sums agree
sums-agree : (value : LogEntry → ℕ) (before after : List Event) (old new : LogLines) → Each (TakesTurn 0) (history before)
    → (middle : List Event) → WritesBack 0 (before ++ Note mark.CheckStart ∷ []) middle old new → ReadsInOrder 0 middle after → SumsAgree value after
sums-agree value before after old new turns middle writes reads =
    let same : after ≡ before ++ Note mark.CheckStart ∷ [] = reads-none middle after reads ∙ writes-none (before ++ Note mark.CheckStart ∷ []) middle old new writes in
    let blank : IsBlank (Note mark.CheckStart ◂ history before) = blank-more (Note mark.CheckStart) (history before) refl refl (blank-turns (history before) turns) in
    let P : History → Type 0 = λ h. sum_of value (open_reads h) ≡ sum_of value (open_writes h) in
    let at_start : P (Note mark.CheckStart ◂ history before) = ap (λ (xs : List LogEntry). sum_of value xs) (blank.reads ∙ sym blank.writes) in
    subst P (sym (ap (λ (t : List Event). history t) same ∙ history-push before (Note mark.CheckStart))) at_start

-- ---- the last read of a check

-- the last one of these reads
record EndsReads (n : ℕ) (first : Block) (rest : List Block) : Type 0 where
  front : List Event
  block : Block
  reads : reads_from n (first ∷ rest) ≡ front ++ BlockRead (Log (n + length rest)) block ∷ []

ends-reads : (n : ℕ) (first : Block) (rest : List Block) → EndsReads n first rest
ends-reads n first [] = record {
  front = [];
  block = first;
  reads = ap (λ (m : ℕ). BlockRead (Log m) first ∷ []) (let e : n ≡ n + 0 = omega arith in e);
}
ends-reads n first (second ∷ rest) =
    let later = ends-reads (suc n) second rest in
    let e : suc n + length rest ≡ n + suc (length rest) = omega arith in
    record {
      front = BlockRead (Log n) first ∷ later.front;
      block = later.block;
      reads = ap (λ (xs : List Event). BlockRead (Log n) first ∷ xs) later.reads
          ∙ ap (λ (m : ℕ). BlockRead (Log n) first ∷ (later.front ++ BlockRead (Log m) later.block ∷ [])) e;
    }

last-read : (blocks : ℕ) (before after : List Event) → ReadsInOrder (suc blocks) before after → IsLastRead (suc blocks) after
last-read blocks before after reads = by reads.read reads.events reads.counted
  where
    by : (read : List Block) → after ≡ before ++ reads_from 0 read → length read ≡ suc blocks → IsLastRead (suc blocks) after
    by [] same counted = absurd (omega (arith, counted))
    by (first ∷ rest) same counted =
        let ends = ends-reads 0 first rest in
        record {
          before = before ++ ends.front;
          n = 0 + length rest;
          block = ends.block;
          last = same ∙ ap (λ (xs : List Event). before ++ xs) ends.reads ∙ sym (append_assoc before ends.front (BlockRead (Log (0 + length rest)) ends.block ∷ []));
          all = omega (arith, counted);
        }

differs-last : (value : LogEntry → ℕ) (blocks : ℕ) (before middle after : List Event) (old new : LogLines) → Each (TakesTurn blocks) (history before)
    → WritesBack blocks (before ++ Note mark.CheckStart ∷ []) middle old new → ReadsInOrder blocks middle after → (SumsAgree value after → ⊥) → IsLastRead blocks after
differs-last value zero before middle after old new turns writes reads differ = absurd (differ (sums-agree value before after old new turns middle writes reads))
differs-last value (suc blocks) before middle after old new turns writes reads differ = last-read blocks middle after reads

pub ends-by-cause : (value : LogEntry → ℕ) (blocks : ℕ) (result : Result (Unit {0}) LogCause) (before after : List Event) (old new : LogLines) → Each (TakesTurn blocks) (history before)
    → RunsCheck value blocks result before after old new → IfErr result (EndsByCause blocks after)
ends-by-cause value blocks (Ok nothing) before after old new turns runs = tt
ends-by-cause value blocks (Err (Future event)) before after old new turns runs = tt
ends-by-cause value blocks (Err (Sums read written)) before after old new turns runs = by runs.ends
  where
    by : EndsCheck value blocks runs.middle after (Err (Sums read written)) → IsLastRead blocks after
    by (EndsCheck.passes compared reads agree same is) = cc
    by (EndsCheck.differs other more reads differ is) = differs-last value blocks before runs.middle after old new turns runs.writes reads differ
    by (EndsCheck.stops event stopped is) = cc

pub both-err : (result : Result (Unit {0}) LogCause) (P Q : LogCause → Type 0) → IfErr result P → IfErr result Q → IfErr result (λ cause. P cause × Q cause)
both-err (Ok nothing) P Q one other = tt
both-err (Err cause) P Q one other = (one, other)
