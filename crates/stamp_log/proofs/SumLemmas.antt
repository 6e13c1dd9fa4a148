-- What follows of the counts and the sums of the log's entries.
use Rattle.std.proofs.Common.{◌≡◌, ℕ, suc, ◌+◌, ◌<◌, ◌≤◌, ◌%◌, Bool, true, false, List, [], ◌∷◌, ◌++◌, length, Option, Some, None, refl, sym, ap, ◌∙◌, subst, arith, length-append}
use Rattle.std.specs.Prelude.{◌^◌, sum_by, filter_map}
use Rattle.std.proofs.lemmas.List.{append-nil}
use Rattle.std.proofs.lemmas.List.Sums.{sum_by_push}
use Rattle.off_chip.specs.declared.event.Event.{Event}
use Rattle.aegis_num.specs.declared.storage.Block.{Block}
use Rattle.aegis_num.specs.declared.storage.Place.TheVariants.{Log}
use Rattle.off_chip.specs.declared.event.Event.TheVariants.{BlockRead, BlockWrite, Note}
use Rattle.off_chip.specs.declared.event.Mark.TheVariants.{CheckPassed}
use Rattle.off_chip.specs.Histories.{History, no_event, ◌◂◌, history, in_order}
use Rattle.off_chip.specs.WriteBacks.{StampsFit, block_writes, stamp_written}
use Rattle.off_chip.specs.Epochs.{LogEntry, log_entry, log_read, is_check_start, reads_of, check_of, open_epoch, open_reads, open_writes}
use Rattle.off_chip.specs.Collisions.{EntrySum, sum_of}
use Rattle.off_chip.proofs.HistoryLemmas.{in_order-history, history-appended}
use Rattle.off_chip.proofs.WriteLemmas.{StampsFit-write}
use Rattle.off_chip.proofs.MoreLemmas.{open_reads-more, open_writes-more}
use Rattle.stamp_log.specs.declared.sums.MultisetSum.{MultisetSum}
use Rattle.stamp_log.specs.LogState.{entry_sum}

mod-sum : (s v : ℕ) → (s % (2 ^ 128) + v) % (2 ^ 128) ≡ (s + v) % (2 ^ 128)
mod-sum s v = omega arith

-- a sum with one entry more
pub sum_of-push : (value : LogEntry → ℕ) (entries : List LogEntry) (entry : LogEntry) (before after : MultisetSum) → entry_sum before ≡ sum_of value entries
    → after.count ≡ before.count + 1 → after.sum ≡ (before.sum + value entry) % (2 ^ 128) → entry_sum after ≡ sum_of value (entries ++ entry ∷ [])
sum_of-push value entries entry before after is count total =
    let a : before.count ≡ length entries = ap (λ (s : EntrySum). s.number) is in
    let b : before.sum ≡ sum_by value entries % (2 ^ 128) = ap (λ (s : EntrySum). s.total) is in
    let c : after.count ≡ length (entries ++ entry ∷ []) = omega (arith, a, count, length-append entries (entry ∷ [])) in
    let d : after.sum ≡ sum_by value (entries ++ entry ∷ []) % (2 ^ 128) =
    total ∙ ap (λ (n : ℕ). (n + value entry) % (2 ^ 128)) b ∙ mod-sum (sum_by value entries) (value entry) ∙ ap (λ (n : ℕ). n % (2 ^ 128)) (sym (sum_by_push value entries entry)) in
    ap (λ (n : ℕ). record { number = n; total = after.sum }) c ∙ ap (λ (n : ℕ). record { number = length (entries ++ entry ∷ []); total = n }) d

few-more : {X : Type 0} (f : Event → Option X) (event : Event) (trace : List Event) (o : Option X) → f event ≡ o → length (filter_map f trace) ≤ length trace
    → length (filter_map f (event ∷ trace)) ≤ suc (length trace)
few-more f event trace None is less = rw is (omega (arith, less))
few-more f event trace (Some x) is less = rw is (omega (arith, less))

few-filtered : {X : Type 0} (f : Event → Option X) (trace : List Event) → length (filter_map f trace) ≤ length trace
few-filtered f [] = omega arith
few-filtered f (event ∷ trace) = few-more f event trace (f event) refl (few-filtered f trace)

-- the last stamp is not above the number of events
pub stamp-bound : (last : ℕ) (trace : List Event) → StampsFit last (history trace) → last ≤ length trace
stamp-bound last trace fit =
    let same : block_writes (in_order (history trace)) ≡ block_writes trace = ap (λ (t : List Event). block_writes t) (in_order-history trace) in
    omega (arith, fit.count, same, few-filtered stamp_written trace)

fewer-more : (event : Event) (trace : List Event) (b : Bool) (o : Option LogEntry) → is_check_start event ≡ b → log_read event ≡ o
    → length (reads_of (check_of trace)) ≤ length (reads_of trace) → length (reads_of (check_of (event ∷ trace))) ≤ length (reads_of (event ∷ trace))
fewer-more event trace true None starts is less = rw (starts, is) (omega arith)
fewer-more event trace true (Some entry) starts is less = rw (starts, is) (omega arith)
fewer-more event trace false None starts is less = rw (starts, is) (omega (arith, less))
fewer-more event trace false (Some entry) starts is less = rw (starts, is) (omega (arith, less))

fewer-checked : (trace : List Event) → length (reads_of (check_of trace)) ≤ length (reads_of trace)
fewer-checked [] = omega arith
fewer-checked (event ∷ trace) = fewer-more event trace (is_check_start event) (log_read event) refl refl (fewer-checked trace)

-- together the reads and the writes of the open epoch are not more than the events
pub few-entries : (older : History) → length (open_writes older) + length (open_reads older) ≤ length (in_order older)
few-entries no_event = omega arith
few-entries (Note CheckPassed ◂ older) =
    let a : length (open_writes (Note CheckPassed ◂ older)) ≡ length (reads_of (check_of (open_epoch older))) =
    ap (λ (xs : List LogEntry). length xs) (open_writes-more (Note CheckPassed) older) in
    let b = length-append (in_order older) (Note CheckPassed ∷ []) in
    omega (arith, a, b, fewer-checked (open_epoch older), few-entries older)
few-entries (BlockRead (Log n) block ◂ older) =
    let w : length (open_writes (BlockRead (Log n) block ◂ older)) ≡ length (open_writes older) = ap (λ (xs : List LogEntry). length xs) (open_writes-more (BlockRead (Log n) block) older ∙ append-nil (open_writes older)) in
    let r : length (open_reads (BlockRead (Log n) block ◂ older)) ≡ length (open_reads older ++ log_entry n block ∷ []) = ap (λ (xs : List LogEntry). length xs) (open_reads-more (BlockRead (Log n) block) older) in
    omega (arith, w, r, length-append (open_reads older) (log_entry n block ∷ []), length-append (in_order older) (BlockRead (Log n) block ∷ []), few-entries older)
few-entries (BlockWrite (Log n) block ◂ older) =
    let w : length (open_writes (BlockWrite (Log n) block ◂ older)) ≡ length (open_writes older ++ log_entry n block ∷ []) = ap (λ (xs : List LogEntry). length xs) (open_writes-more (BlockWrite (Log n) block) older) in
    let r : length (open_reads (BlockWrite (Log n) block ◂ older)) ≡ length (open_reads older) = ap (λ (xs : List LogEntry). length xs) (open_reads-more (BlockWrite (Log n) block) older ∙ append-nil (open_reads older)) in
    omega (arith, w, r, length-append (open_writes older) (log_entry n block ∷ []), length-append (in_order older) (BlockWrite (Log n) block ∷ []), few-entries older)
few-entries (event ◂ older) =
    let w : length (open_writes (event ◂ older)) ≡ length (open_writes older) = ap (λ (xs : List LogEntry). length xs) (open_writes-more event older ∙ append-nil (open_writes older)) in
    let r : length (open_reads (event ◂ older)) ≡ length (open_reads older) = ap (λ (xs : List LogEntry). length xs) (open_reads-more event older ∙ append-nil (open_reads older)) in
    omega (arith, w, r, length-append (in_order older) (event ∷ []), few-entries older)

-- a sum of the writes, and one of the reads, has room for one entry more where the trace has room for one event more
pub writes-room : (value : LogEntry → ℕ) (sum : MultisetSum) (trace : List Event) (room : ℕ) → entry_sum sum ≡ sum_of value (open_writes (history trace))
    → length trace + room < 2 ^ 64 → 0 < room → sum.count + 1 < 2 ^ 64
writes-room value sum trace room is limit some =
    let a : sum.count ≡ length (open_writes (history trace)) = ap (λ (s : EntrySum). s.number) is in
    let b : length (in_order (history trace)) ≡ length trace = ap (λ (t : List Event). length t) (in_order-history trace) in
    omega (arith, a, b, few-entries (history trace), limit, some)

pub reads-room : (value : LogEntry → ℕ) (sum : MultisetSum) (trace : List Event) (room : ℕ) → entry_sum sum ≡ sum_of value (open_reads (history trace))
    → length trace + room < 2 ^ 64 → 0 < room → sum.count + 1 < 2 ^ 64
reads-room value sum trace room is limit some =
    let a : sum.count ≡ length (open_reads (history trace)) = ap (λ (s : EntrySum). s.number) is in
    let b : length (in_order (history trace)) ≡ length trace = ap (λ (t : List Event). length t) (in_order-history trace) in
    omega (arith, a, b, few-entries (history trace), limit, some)

-- after a write: its stamp fits, and the sum of the writes has its entry
pub fits-written : (last after_last : ℕ) (n : ℕ) (block : Block) (before after : List Event) → after ≡ before ++ BlockWrite (Log n) block ∷ []
    → StampsFit last (history before) → block.stamp ≡ last + 1 → after_last ≡ last + 1 → StampsFit after_last (history after)
fits-written last after_last n block before after appended fit stamp next =
    subst (λ (h : History). StampsFit after_last h) (sym (history-appended before after (BlockWrite (Log n) block) appended))
    (subst (λ (k : ℕ). StampsFit k (BlockWrite (Log n) block ◂ history before)) (sym next) (StampsFit-write last (history before) (Log n) block fit stamp))

pub sum-written : (value : LogEntry → ℕ) (n : ℕ) (block : Block) (before after : List Event) (old new : MultisetSum) → after ≡ before ++ BlockWrite (Log n) block ∷ []
    → entry_sum old ≡ sum_of value (open_writes (history before)) → new.count ≡ old.count + 1 → new.sum ≡ (old.sum + value (log_entry n block)) % (2 ^ 128)
    → entry_sum new ≡ sum_of value (open_writes (history after))
sum-written value n block before after old new appended is count total =
    sum_of-push value (open_writes (history before)) (log_entry n block) old new is count total
    ∙ ap (λ (xs : List LogEntry). sum_of value xs) (sym (open_writes-more (BlockWrite (Log n) block) (history before)))
    ∙ ap (λ (h : History). sum_of value (open_writes h)) (sym (history-appended before after (BlockWrite (Log n) block) appended))

-- after a read: the sum of the reads has its entry
pub sum-read : (value : LogEntry → ℕ) (n : ℕ) (block : Block) (before after : List Event) (old new : MultisetSum) → after ≡ before ++ BlockRead (Log n) block ∷ []
    → entry_sum old ≡ sum_of value (open_reads (history before)) → new.count ≡ old.count + 1 → new.sum ≡ (old.sum + value (log_entry n block)) % (2 ^ 128)
    → entry_sum new ≡ sum_of value (open_reads (history after))
sum-read value n block before after old new appended is count total =
    sum_of-push value (open_reads (history before)) (log_entry n block) old new is count total
    ∙ ap (λ (xs : List LogEntry). sum_of value xs) (sym (open_reads-more (BlockRead (Log n) block) (history before)))
    ∙ ap (λ (h : History). sum_of value (open_reads h)) (sym (history-appended before after (BlockRead (Log n) block) appended))
