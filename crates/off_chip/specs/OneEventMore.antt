-- Promise: what one more event changes of what is said of a history or of a trace.
use Rattle.std.specs.Prelude.{◌≡◌, ℕ, ◌+◌, ◌↔◌, List, [], ◌∷◌, ◌++◌, Option, None, option_to_list, unwrap_or, IsTrue, if◌then◌else◌}
use Rattle.aegis_num.specs.declared.storage.Block.{Block}
use Rattle.aegis_num.specs.declared.storage.Place.{Place}
use Rattle.off_chip.specs.declared.event.Event.{Event}
use Rattle.off_chip.specs.declared.event.Event.TheVariants.{BlockWrite}
use Rattle.off_chip.specs.Histories.{History, ◌◂◌, first_told}
use Rattle.off_chip.specs.Boundaries.{is_retire, retired, is_suspend, suspensions}
use Rattle.off_chip.specs.WriteBacks.{written_at, last_write, stamp_written, StampsFit}
use Rattle.off_chip.specs.FaithfulReads.{is_faithful, AllFaithful}
use Rattle.off_chip.specs.Residency.{check_told, in_check, concerning, is_resident}
use Rattle.off_chip.specs.ExpectedDigests.{Digests, digest_told, expected_digest}
use Rattle.off_chip.specs.Epochs.{log_read, log_written, is_passed, reads_of, check_of, open_epoch, open_reads, open_writes}
use Rattle.off_chip.specs.ExchangedWords.{secure_read, secure_write, sent, words_read, words_written, bytes_sent}

pub record OneEventMore : Type 0 where
  pub retirements : (trace : List Event) (event : Event) → retired (trace ++ event ∷ []) ≡ retired trace + (if is_retire event then 1 else 0)
  pub suspends : (trace : List Event) (event : Event) → suspensions (trace ++ event ∷ []) ≡ suspensions trace + (if is_suspend event then 1 else 0)
  pub words_in : (trace : List Event) (event : Event) → words_read (trace ++ event ∷ []) ≡ words_read trace ++ option_to_list (secure_read event)
  pub words_out : (trace : List Event) (event : Event) → words_written (trace ++ event ∷ []) ≡ words_written trace ++ option_to_list (secure_write event)
  pub bytes : (trace : List Event) (event : Event) → bytes_sent (trace ++ event ∷ []) ≡ bytes_sent trace + unwrap_or (sent event) 0
  pub write_back : (place : Place) (event : Event) (older : History) → last_write place (event ◂ older) ≡ first_told (written_at place event) (last_write place older)
  pub stamps_write : (last : ℕ) (older : History) (place : Place) (block : Block) → StampsFit last older → block.stamp ≡ last + 1
      → StampsFit (last + 1) (BlockWrite place block ◂ older)
  pub stamps_other : (last : ℕ) (older : History) (event : Event) → StampsFit last older → stamp_written event ≡ None → StampsFit last (event ◂ older)
  pub faithful : (image : Place → Option (List ℕ)) (event : Event) (older : History)
      → AllFaithful image (event ◂ older) ↔ (AllFaithful image older × IsTrue (is_faithful image event older))
  pub check : (event : Event) (older : History) → in_check (event ◂ older) ≡ unwrap_or (check_told event) (in_check older)
  pub resident : (place : Place) (event : Event) (older : History)
      → is_resident place (event ◂ older) ≡ unwrap_or (concerning place event older) (is_resident place older)
  pub expected : (tree : Digests) (n : ℕ) (event : Event) (older : History)
      → expected_digest tree n (event ◂ older) ≡ first_told (digest_told tree n event) (expected_digest tree n older)
  pub reads : (event : Event) (older : History) → open_reads (event ◂ older) ≡ (if is_passed event then [] else open_reads older ++ option_to_list (log_read event))
  pub writes : (event : Event) (older : History)
      → open_writes (event ◂ older) ≡ (if is_passed event then reads_of (check_of (open_epoch older)) else open_writes older ++ option_to_list (log_written event))
