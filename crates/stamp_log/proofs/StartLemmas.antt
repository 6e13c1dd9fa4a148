-- How a log is started.
use Rattle.std.proofs.Common.{◌≡◌, ◌≢◌, ℕ, zero, suc, ◌+◌, ◌<◌, Bool, true, false, eqb, List, [], ◌∷◌, ◌++◌, length, Some, refl, sym, ap, ◌∙◌, subst, inl, inr, arith, replicate}
use Rattle.std.specs.Prelude.{nat_lt, is_some, slice_index_or}
use Rattle.std.proofs.lemmas.Bool.{cases_Bool, eqb-true, eqb-false, ltb-true, ltb-false, both_ways}
use Rattle.std.proofs.lemmas.List.{append-nil}
use Rattle.aegis_num.specs.declared.storage.Block.{Block}
use Rattle.aegis_num.specs.declared.storage.Place.TheVariants.{Log}
use Rattle.off_chip.specs.declared.event.Event.{Event}
use Rattle.off_chip.specs.declared.event.Event.TheVariants.{BlockRead, BlockWrite, Note}
use Rattle.off_chip.specs.declared.event.Mark.TheVariants.{CheckPassed, CheckStart, Drop}
use Rattle.off_chip.specs.Histories.{History, no_event, ◌◂◌, history}
use Rattle.off_chip.specs.FaithfulReads.{LogFaithful}
use Rattle.off_chip.specs.Residency.{is_resident}
use Rattle.off_chip.specs.Epochs.{LogEntry, open_reads, open_writes}
use Rattle.off_chip.specs.Collisions.{sum_of}
use Rattle.off_chip.proofs.HistoryLemmas.{history-appended}
use Rattle.off_chip.proofs.MoreLemmas.{open_reads-more, open_writes-more}
use Rattle.off_chip.proofs.WriteLemmas.{last_write-here, last_write-elsewhere}
use Rattle.off_chip.proofs.ResidencyLemmas.{is_resident-write, is_resident-elsewhere}
use Rattle.stamp_log.specs.LogTurns.{is_out}
use Rattle.stamp_log.specs.LogStands.{IsWritten, some_passed}
use Rattle.stamp_log.specs.LogState.{LogState, value_under, entry_sum, line_of}
use Rattle.stamp_log.specs.StandsOn.{StandsOn, no_entries}
use Rattle.stamp_log.specs.Starting.{HasNoLog, IsStarting}
use Rattle.stamp_log.proofs.Offline.{out-write, out-write-apart, reads-write}
use Rattle.stamp_log.proofs.LogLemmas.{line-none}

-- before the start
pub not-started : (blocks : ℕ) (older : History) → HasNoLog older → IsStarting blocks 0 older × (open_writes older ≡ [])
not-started blocks no_event clean = (
  record {
    written = λ n less. let no_such : ⊥ = omega (arith, less) in absurd no_such;
    turns = record { each = tt };
    not_above = record { each = tt };
    first = refl;
    not_passed = refl;
    inside = λ n less. let no_such : ⊥ = omega (arith, less) in absurd no_such;
    out = λ n from. refl;
    resident = λ n. refl;
    no_check = refl;
    reads = refl;
  },
  refl,
)
not-started blocks (BlockRead (Log n) block ◂ older) clean = let bad : false ≡ true = clean.each.1 in cc
not-started blocks (BlockWrite (Log n) block ◂ older) clean = let bad : false ≡ true = clean.each.1 in cc
not-started blocks (Note (Drop (Log n)) ◂ older) clean = let bad : false ≡ true = clean.each.1 in cc
not-started blocks (Note CheckStart ◂ older) clean = let bad : false ≡ true = clean.each.1 in cc
not-started blocks (Note CheckPassed ◂ older) clean = let bad : false ≡ true = clean.each.1 in cc
not-started blocks (event ◂ older) clean =
    let before = not-started blocks older (record { each = clean.each.0 }) in (
      record {
        written = λ n less. let no_such : ⊥ = omega (arith, less) in absurd no_such;
        turns = record { each = (before.0.turns.each, tt) };
        not_above = record { each = (before.0.not_above.each, tt) };
        first = before.0.first;
        not_passed = before.0.not_passed;
        inside = λ n less. let no_such : ⊥ = omega (arith, less) in absurd no_such;
        out = before.0.out;
        resident = before.0.resident;
        no_check = before.0.no_check;
        reads = open_reads-more event older ∙ append-nil (open_reads older) ∙ before.0.reads;
      },
      open_writes-more event older ∙ append-nil (open_writes older) ∙ before.1,
    )

log-apart : (m n : ℕ) → m ≢ n → Log m ≢ Log n
log-apart m n differ same = let e : m ≡ n = cc in differ e

elsewhere : (m n : ℕ) → m ≢ n → Some (Log n) ≢ Some (Log m)
elsewhere m n differ same = let e : m ≡ n = cc in differ e

smaller : (m n : ℕ) → m < n + 1 → m ≢ n → m < n
smaller m n below differ = elim (cases_Bool (nat_lt m n)) [
  | inl less ↦ ltb-true m n less
  | inr more ↦ let equal : m ≡ n = omega (arith, below, ltb-false m n more) in absurd (differ equal)
]

-- one block more is written
pub starting-more : (blocks n : ℕ) (block : Block) (older : History) → IsStarting blocks n older → n < blocks → IsStarting blocks (n + 1) (BlockWrite (Log n) block ◂ older)
starting-more blocks n block older starting less =
    let h : History = BlockWrite (Log n) block ◂ older in
    record {
      written = λ m below. elim (cases_Bool (eqb m n)) [
        | inl equal ↦ subst (λ (k : ℕ). IsWritten h k) (sym (eqb-true m n equal)) (record { block = block; last = last_write-here (Log n) block older })
        | inr other ↦
            let differ : m ≢ n = λ equal. eqb-false m n other equal in
            let there = starting.written m (smaller m n below differ) in
            record { block = there.block; last = last_write-elsewhere (Log m) (Log n) block older (log-apart m n differ) ∙ there.last }
      ];
      turns = record { each = (starting.turns.each, (less, starting.out n (omega arith))) };
      not_above = record { each = (starting.not_above.each, tt) };
      first = starting.first;
      not_passed = starting.not_passed;
      inside = λ m below. elim (cases_Bool (eqb m n)) [
        | inl equal ↦ subst (λ (k : ℕ). is_out k h ≡ false) (sym (eqb-true m n equal)) (out-write n block older)
        | inr other ↦
            let differ : m ≢ n = λ equal. eqb-false m n other equal in
            out-write-apart m n block older differ ∙ starting.inside m (smaller m n below differ)
      ];
      out = λ m from. out-write-apart m n block older (λ equal. let bad : ⊥ = omega (arith, from, equal) in bad) ∙ starting.out m (omega (arith, from));
      resident = λ m. elim (cases_Bool (eqb m n)) [
        | inl equal ↦ subst (λ (k : ℕ). is_resident (Log k) h ≡ false) (sym (eqb-true m n equal)) (is_resident-write (Log n) block older)
        | inr other ↦ is_resident-elsewhere (Log m) (BlockWrite (Log n) block) older (elsewhere m n (λ equal. eqb-false m n other equal)) ∙ starting.resident m
      ];
      no_check = starting.no_check;
      reads = reads-write n block older ∙ starting.reads;
    }

pub starting-appended : (blocks n : ℕ) (block : Block) (before after : List Event) → after ≡ before ++ BlockWrite (Log n) block ∷ [] → IsStarting blocks n (history before) → n < blocks
    → IsStarting blocks (n + 1) (history after)
starting-appended blocks n block before after appended starting less =
    subst (λ (h : History). IsStarting blocks (n + 1) h) (sym (history-appended before after (BlockWrite (Log n) block) appended)) (starting-more blocks n block (history before) starting less)

pub none-held : (count n : ℕ) → slice_index_or (replicate count false) n false ≡ false
none-held zero n = refl
none-held (suc count) zero = refl
none-held (suc count) (suc n) = none-held count n

long : (count : ℕ) → length (replicate count false) ≡ count
long zero = refl
long (suc count) = ap (λ (k : ℕ). suc k) (long count)

-- after all blocks were written the log stands
pub started-stands : (log : LogState) (older : History) → IsStarting log.blocks log.blocks older → log.lines.held ≡ replicate log.blocks false → entry_sum log.read ≡ no_entries
    → entry_sum log.written ≡ sum_of (value_under log.key) (open_writes older) → StandsOn log older
started-stands log older starting held read written =
    let none : (n : ℕ) → is_some (line_of log.lines n) ≡ false =
    λ n. ap is_some (line-none log.lines n (ap (λ (xs : List Bool). slice_index_or xs n false) held ∙ none-held log.blocks n)) in
    record {
      read = read ∙ ap (λ (xs : List LogEntry). sum_of (value_under log.key) xs) (sym starting.reads);
      written = written;
      lines = record { resident = λ n less. none n ∙ sym (starting.resident n); out = λ n less. none n ∙ sym (starting.inside n less) };
      trace = record {
        written = starting.written;
        turns = starting.turns;
        not_above = starting.not_above;
        ended = inl (record {
          faithful = λ image. record { ended = subst (λ (h : History). LogFaithful image h) (sym starting.first) (record { each = tt }) };
          entries = λ passed. absurd (both_ways (some_passed older) starting.not_passed passed);
        });
      };
      no_check = starting.no_check;
      size = ap (λ (xs : List Bool). length xs) held ∙ long log.blocks;
    }
