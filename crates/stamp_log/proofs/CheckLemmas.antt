-- What a check keeps, from its start to its end.
use Rattle.std.proofs.Common.{◌≡◌, ◌≢◌, ℕ, zero, suc, ◌+◌, ◌<◌, ◌≤◌, Bool, true, eqb, ◌||◌, List, [], ◌∷◌, ◌++◌, length, Some, refl, sym, ap, ◌∙◌, subst, inl, inr, arith, length-append}
use Rattle.std.specs.Prelude.{◌%◌, ◌^◌, nat_lt, slice_get}
use Rattle.std.specs.List.{list_any}
use Rattle.std.proofs.lemmas.Bool.{cases_Bool, eqb-true, eqb-false, ltb-true, ltb-false}
use Rattle.std.proofs.lemmas.List.Folds.{list_any-append}
use Rattle.aegis_num.specs.declared.storage.Block.{Block}
use Rattle.aegis_num.specs.declared.storage.Place.TheVariants.{Log}
use Rattle.off_chip.specs.declared.event.Event.{Event}
use Rattle.off_chip.specs.declared.event.Event.TheVariants.{BlockRead}
use Rattle.off_chip.specs.Histories.{History, ◌◂◌, history, in_order}
use Rattle.off_chip.specs.WriteBacks.{block_writes, StampsFit}
use Rattle.off_chip.specs.Epochs.{LogEntry, log_entry, is_check_start, open_epoch}
use Rattle.off_chip.specs.Collisions.{EntrySum, sum_of}
use Rattle.stamp_log.specs.declared.sums.MultisetSum.{MultisetSum}
use Rattle.stamp_log.specs.LogState.{entry_sum}
use Rattle.stamp_log.proofs.SumLemmas.{sum_of-push}
use Rattle.off_chip.proofs.HistoryLemmas.{history-appended}
use Rattle.off_chip.proofs.ResidencyLemmas.{is_resident-check_read}
use Rattle.off_chip.proofs.FaithfulLemmas.{is_faithful-written}
use Rattle.stamp_log.specs.LogTurns.{is_out}
use Rattle.stamp_log.specs.Checking.{check_reads, no_image, HasRead, IsChecking, IsReading}
use Rattle.stamp_log.proofs.Offline.{out-read, out-read-apart, writes-read}
use Rattle.stamp_log.proofs.TraceLemmas.{trace-read, reads-push}

pub get-front : (xs ys : List LogEntry) (k : ℕ) (y : LogEntry) → slice_get xs k ≡ Some y → slice_get (xs ++ ys) k ≡ Some y
get-front [] ys k y found = cc
get-front (z ∷ xs) ys zero y found = found
get-front (z ∷ xs) ys (suc k) y found = get-front xs ys k y found

pub get-last : (xs : List LogEntry) (x : LogEntry) (k : ℕ) → k ≡ length xs → slice_get (xs ++ x ∷ []) k ≡ Some x
get-last [] x k is = ap (λ (n : ℕ). slice_get (x ∷ []) n) is
get-last (z ∷ xs) x k is = ap (λ (n : ℕ). slice_get (z ∷ xs ++ x ∷ []) n) is ∙ get-last xs x (length xs) refl

-- one read more of a check
pub reading-more : (value : LogEntry → ℕ) (blocks n : ℕ) (block : Block) (start older : History) → IsReading value blocks n start older → n < blocks
    → block.stamp ≤ block_writes (in_order older) → IsReading value blocks (n + 1) start (BlockRead (Log n) block ◂ older)
reading-more value blocks n block start older reading less stamp =
    let h : History = BlockRead (Log n) block ◂ older in
    let more : check_reads h ≡ check_reads older ++ log_entry n block ∷ [] = reads-push older (BlockRead (Log n) block) refl reading.checking.started in
    let last = reading.trace.written n less in
    record {
      trace = trace-read value blocks n block older reading.trace less (reading.inside n (omega arith) less) stamp;
      checking = record {
        under_way = reading.checking.under_way;
        started = list_any-append is_check_start (open_epoch older) (BlockRead (Log n) block ∷ [])
            ∙ ap (λ (b : Bool). b || list_any is_check_start (BlockRead (Log n) block ∷ [])) reading.checking.started;
        counted = ap (λ (xs : List LogEntry). length xs) more ∙ length-append (check_reads older) (log_entry n block ∷ []) ∙ ap (λ (k : ℕ). k + 1) reading.checking.counted;
        each = λ m below. elim (cases_Bool (nat_lt m n)) [
          | inl earlier ↦
              let there = reading.checking.each m (ltb-true m n earlier) in
              record {
                block = there.block;
                at = ap (λ (xs : List LogEntry). slice_get xs m) more ∙ get-front (check_reads older) (log_entry n block ∷ []) m (log_entry m there.block) there.at;
                last = λ faithful. there.last (record { each = faithful.each.0 });
              }
          | inr later ↦
              let same : m ≡ n = omega (arith, below, ltb-false m n later) in
              subst (λ (k : ℕ). HasRead h k) (sym same) (record {
                block = block;
                at = ap (λ (xs : List LogEntry). slice_get xs n) more ∙ get-last (check_reads older) (log_entry n block) n (sym reading.checking.counted);
                last = λ faithful.
                    let one : block ≡ last.block = (is_faithful-written no_image (Log n) block last.block older last.last).0 faithful.each.1 in
                    last.last ∙ ap (λ (b : Block). Some b) (sym one);
              })
        ];
      };
      out = λ m below. elim (cases_Bool (eqb m n)) [
        | inl equal ↦ subst (λ (k : ℕ). is_out k h ≡ true) (sym (eqb-true m n equal)) (out-read n block older)
        | inr other ↦
            let differ : m ≢ n = λ equal. eqb-false m n other equal in
            out-read-apart m n block older differ ∙ reading.out m (smaller m n below differ)
      ];
      inside = λ m from below. out-read-apart m n block older (λ equal. let bad : ⊥ = omega (arith, from, equal) in bad) ∙ reading.inside m (omega (arith, from)) below;
      resident = λ m. is_resident-check_read (Log m) n block older reading.checking.under_way ∙ reading.resident m;
      writes = writes-read n block older ∙ reading.writes;
    }
  where
    smaller : (m n : ℕ) → m < n + 1 → m ≢ n → m < n
    smaller m n below differ = elim (cases_Bool (nat_lt m n)) [
      | inl less ↦ ltb-true m n less
      | inr more ↦ let equal : m ≡ n = omega (arith, below, ltb-false m n more) in absurd (differ equal)
    ]

-- the sum of what the check has read, with one read more
pub sum-checked : (value : LogEntry → ℕ) (n : ℕ) (block : Block) (before after : List Event) (old new : MultisetSum) → after ≡ before ++ BlockRead (Log n) block ∷ []
    → list_any is_check_start (open_epoch (history before)) ≡ true
    → entry_sum old ≡ sum_of value (check_reads (history before)) → new.count ≡ old.count + 1 → new.sum ≡ (old.sum + value (log_entry n block)) % (2 ^ 128)
    → entry_sum new ≡ sum_of value (check_reads (history after))
sum-checked value n block before after old new appended started is count total =
    sum_of-push value (check_reads (history before)) (log_entry n block) old new is count total
    ∙ ap (λ (xs : List LogEntry). sum_of value xs) (sym (reads-push (history before) (BlockRead (Log n) block) refl started))
    ∙ ap (λ (h : History). sum_of value (check_reads h)) (sym (history-appended before after (BlockRead (Log n) block) appended))

pub reading-appended : (value : LogEntry → ℕ) (blocks n last : ℕ) (block : Block) (start : History) (before after : List Event) → after ≡ before ++ BlockRead (Log n) block ∷ []
    → IsReading value blocks n start (history before) → n < blocks → StampsFit last (history before) → block.stamp ≤ last → IsReading value blocks (n + 1) start (history after)
reading-appended value blocks n last block start before after appended reading less fits stamp =
    subst (λ (h : History). IsReading value blocks (n + 1) start h) (sym (history-appended before after (BlockRead (Log n) block) appended))
    (reading-more value blocks n block start (history before) reading less (omega (arith, stamp, fits.count)))

-- the sum of what the check has read has room for one entry more
pub checked-room : (value : LogEntry → ℕ) (n : ℕ) (sum : MultisetSum) (older : History) → IsChecking n older → entry_sum sum ≡ sum_of value (check_reads older) → n < 2 ^ 32
    → sum.count + 1 < 2 ^ 64
checked-room value n sum older checking is few =
    let a : sum.count ≡ length (check_reads older) = ap (λ (s : EntrySum). s.number) is in
    omega (arith, a, checking.counted, few)
