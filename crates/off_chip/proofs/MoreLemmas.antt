-- What one more event changes, where it takes more than computing.
use Rattle.std.proofs.Common.{◌≡◌, ℕ, ◌+◌, Bool, true, false, cond, List, [], ◌∷◌, ◌++◌, Option, Some, None, refl, sym, ap, ◌∙◌, arith}
use Rattle.std.specs.Prelude.{◌↔◌, option_to_list, unwrap_or, filter_map, sum, IsTrue, if◌then◌else◌}
use Rattle.std.proofs.lemmas.List.{append-nil, append_assoc}
use Rattle.std.proofs.lemmas.List.Sums.{sum_by_push}
use Rattle.aegis_num.specs.declared.storage.Place.{Place}
use Rattle.off_chip.specs.declared.event.Event.{Event}
use Rattle.off_chip.specs.Histories.{History, ◌◂◌, first_told, newest, until}
use Rattle.off_chip.specs.FaithfulReads.{is_faithful, AllFaithful}
use Rattle.off_chip.specs.Residency.{check_told, in_check, concerning, is_resident}
use Rattle.off_chip.specs.Epochs.{log_read, log_written, is_passed, reads_of, check_of, writes_of, open_epoch, ended_epoch, open_reads, open_writes}
use Rattle.off_chip.specs.ExchangedWords.{sent, bytes_sent, pieces_sent}
use Rattle.off_chip.proofs.HistoryLemmas.{filter_map-push}

unwrap_or-or_else : {X : Type 0} (first second : Option X) (x : X) → unwrap_or (first_told first second) x ≡ unwrap_or first (unwrap_or second x)
unwrap_or-or_else None second x = refl
unwrap_or-or_else (Some y) second x = refl

pub is_resident-more : (place : Place) (event : Event) (older : History)
    → is_resident place (event ◂ older) ≡ unwrap_or (concerning place event older) (is_resident place older)
is_resident-more place event older = unwrap_or-or_else (concerning place event older) (newest (concerning place) older) false

pub in_check-more : (event : Event) (older : History) → in_check (event ◂ older) ≡ unwrap_or (check_told event) (in_check older)
in_check-more event older = unwrap_or-or_else (check_told event) (newest (λ event _. check_told event) older) false

pub AllFaithful-more : (image : Place → Option (List ℕ)) (event : Event) (older : History)
    → AllFaithful image (event ◂ older) ↔ (AllFaithful image older × IsTrue (is_faithful image event older))
AllFaithful-more image event older = (λ all. (record { each = all.each.0 }, all.each.1), λ both. record { each = (both.0.each, both.1) })

pub open_reads-more : (event : Event) (older : History)
    → open_reads (event ◂ older) ≡ (if is_passed event then [] else open_reads older ++ option_to_list (log_read event))
open_reads-more event older = by (is_passed event)
  where
    by : (b : Bool) → reads_of (cond b [] (open_epoch older ++ event ∷ [])) ≡ cond b [] (open_reads older ++ option_to_list (log_read event))
    by true = refl
    by false = filter_map-push log_read (open_epoch older) event

writes-by : (event : Event) (b : Bool) (older : History)
    → writes_of (open_epoch (cond b older (until is_passed older))) (cond b [] (open_epoch older ++ event ∷ []))
    ≡ cond b (reads_of (check_of (open_epoch older))) (open_writes older ++ option_to_list (log_written event))
writes-by event true older = append-nil (reads_of (check_of (open_epoch older)))
writes-by event false older =
    ap (λ (xs : List _). reads_of (check_of (ended_epoch older)) ++ xs) (filter_map-push log_written (open_epoch older) event)
    ∙ sym (append_assoc (reads_of (check_of (ended_epoch older))) (filter_map log_written (open_epoch older)) (option_to_list (log_written event)))

pub open_writes-more : (event : Event) (older : History)
    → open_writes (event ◂ older) ≡ (if is_passed event then reads_of (check_of (open_epoch older)) else open_writes older ++ option_to_list (log_written event))
open_writes-more event older = writes-by event (is_passed event) older

pub bytes_sent-more : (trace : List Event) (event : Event) → bytes_sent (trace ++ event ∷ []) ≡ bytes_sent trace + unwrap_or (sent event) 0
bytes_sent-more trace event = ap (λ (xs : List ℕ). sum xs) (filter_map-push sent trace event) ∙ by (sent event)
  where
    by : (o : Option ℕ) → sum (pieces_sent trace ++ option_to_list o) ≡ sum (pieces_sent trace) + unwrap_or o 0
    by None = ap (λ (ys : List ℕ). sum ys) (append-nil (pieces_sent trace)) ∙ omega arith
    by (Some n) = sum_by_push (λ x. x) (pieces_sent trace) n
