-- Laws of what a log keeps on its trace.
use Rattle.std.proofs.Common.{◌≡◌, ◌≢◌, ℕ, zero, suc, ◌<◌, Bool, true, false, cond, List, [], ◌∷◌, length, Some, None, refl, sym, ap, ◌∙◌, arith}
use Rattle.std.specs.Prelude.{is_some, slice_index_or}
use Rattle.std.proofs.lemmas.List.{append-nil, get_or-set_same, get_or-set_other}
use Rattle.aegis_num.specs.declared.storage.Place.TheVariants.{Log}
use Rattle.off_chip.specs.declared.event.Event.{Event}
use Rattle.off_chip.specs.declared.event.Event.TheVariants.{BlockRead, BlockWrite, Note}
use Rattle.off_chip.specs.declared.event.Mark.TheVariants.{CheckPassed, CheckStart, Drop}
use Rattle.off_chip.specs.Histories.{History, ◌◂◌}
use Rattle.off_chip.specs.Epochs.{LogEntry, open_reads, open_writes}
use Rattle.off_chip.specs.Collisions.{sum_of}
use Rattle.off_chip.proofs.MoreLemmas.{open_reads-more, open_writes-more}
use Rattle.stamp_log.specs.LogState.{LogState, LogLines, line_of, value_under, with_line, with_payload}
use Rattle.stamp_log.specs.StandsOn.{StandsOn, contents_in}
use Rattle.stamp_log.specs.Starting.{is_foreign}
use Rattle.stamp_log.specs.LogLaws.{ForeignEventsKeep, LendingChangesContents}
use Rattle.stamp_log.proofs.TraceLemmas.{trace-other}
use Rattle.stamp_log.proofs.LogLemmas.{line-some, some-line}
use Rattle.stamp_log.proofs.ContentLemmas.{contents-from, contents-line}

-- ---- events that are foreign to the log

foreign-stands : (log : LogState) (event : Event) (older : History) → is_foreign event ≡ true → StandsOn log older → StandsOn log (event ◂ older)
foreign-stands log (BlockRead (Log n) block) older foreign stands = cc
foreign-stands log (BlockWrite (Log n) block) older foreign stands = cc
foreign-stands log (Note (Drop (Log n))) older foreign stands = cc
foreign-stands log (Note CheckStart) older foreign stands = cc
foreign-stands log (Note CheckPassed) older foreign stands = cc
foreign-stands log event older foreign stands =
    let reads : open_reads (event ◂ older) ≡ open_reads older = open_reads-more event older ∙ append-nil (open_reads older) in
    let writes : open_writes (event ◂ older) ≡ open_writes older = open_writes-more event older ∙ append-nil (open_writes older) in
    record {
      read = stands.read ∙ ap (λ (xs : List LogEntry). sum_of (value_under log.key) xs) (sym reads);
      written = stands.written ∙ ap (λ (xs : List LogEntry). sum_of (value_under log.key) xs) (sym writes);
      lines = record { resident = stands.lines.resident; out = stands.lines.out };
      trace = trace-other (value_under log.key) log.blocks event older refl (λ n. refl) tt tt stands.trace;
      no_check = stands.no_check;
      size = stands.size;
    }

foreign-contents : (lines : LogLines) (event : Event) (older : History) → is_foreign event ≡ true → (n : ℕ) → contents_in lines (event ◂ older) n ≡ contents_in lines older n
foreign-contents lines (BlockRead (Log n) block) older foreign m = cc
foreign-contents lines (BlockWrite (Log n) block) older foreign m = cc
foreign-contents lines (Note (Drop (Log n))) older foreign m = cc
foreign-contents lines (Note CheckStart) older foreign m = cc
foreign-contents lines (Note CheckPassed) older foreign m = cc
foreign-contents lines event older foreign m = refl

pub foreign-law : ForeignEventsKeep
foreign-law log event older foreign stands = (foreign-stands log event older foreign stands, record { each = foreign-contents log.lines event older foreign })

-- ---- loans

within : (xs : List (List ℕ)) (n : ℕ) → 0 < length (slice_index_or xs n []) → n < length xs
within [] n some = let no_such : ⊥ = omega (arith, some) in absurd no_such
within (x ∷ xs) zero some = omega arith
within (x ∷ xs) (suc n) some = omega (arith, within xs n some)

some-held : (b : Bool) (x : List ℕ) → is_some (cond b (Some x) None) ≡ b
some-held true x = refl
some-held false x = refl

some-same : (b : Bool) (x y : List ℕ) → cond b (Some x) None ≡ Some y → x ≡ y
some-same true x y same = cc
some-same false x y same = cc

pub lending-law : LendingChangesContents
lending-law log older n payload left stands line long =
    let lines : LogLines = with_payload log.lines n left in
    let held : slice_index_or log.lines.held n false ≡ true = some-line (slice_index_or log.lines.held n false) (slice_index_or log.lines.payloads n []) payload line in
    let here : slice_index_or log.lines.payloads n [] ≡ payload = some-same (slice_index_or log.lines.held n false) (slice_index_or log.lines.payloads n []) payload line in
    let whole : length (slice_index_or log.lines.payloads n []) ≡ 64 = ap (λ (p : List ℕ). length p) here ∙ long in
    let less : n < length log.lines.payloads = within log.lines.payloads n (omega (arith, whole)) in
    let same : (m : ℕ) → is_some (line_of lines m) ≡ is_some (line_of log.lines m) =
    λ m. some-held (slice_index_or log.lines.held m false) (slice_index_or lines.payloads m [])
    ∙ sym (some-held (slice_index_or log.lines.held m false) (slice_index_or log.lines.payloads m [])) in
    record {
      stands = record {
        read = stands.read;
        written = stands.written;
        lines = record { resident = λ m below. same m ∙ stands.lines.resident m below; out = λ m below. same m ∙ stands.lines.out m below };
        trace = stands.trace;
        no_check = stands.no_check;
        size = stands.size;
      };
      here = contents-line lines older n left (line-some lines n held ∙ ap (λ (p : List ℕ). Some p) (get_or-set_same log.lines.payloads n left [] less));
      others = λ m differ. contents-from log.lines lines older older m
          (ap (λ (p : List ℕ). cond (slice_index_or log.lines.held m false) (Some p) None) (get_or-set_other log.lines.payloads n m left [] differ)) refl;
    }
