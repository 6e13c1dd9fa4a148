-- Promise: traces on which a log can be started, and how far its start is.
use Rattle.std.specs.Prelude.{◌≡◌, ℕ, ◌<◌, ◌≤◌, Bool, true, false, [], IsTrue}
use Rattle.aegis_num.specs.declared.storage.Place.TheVariants.{Log}
use Rattle.off_chip.specs.declared.event.Event.{Event}
use Rattle.off_chip.specs.declared.event.Event.TheVariants.{BlockRead, BlockWrite, Note}
use Rattle.off_chip.specs.declared.event.Mark.TheVariants.{CheckStart, CheckPassed, Drop}
use Rattle.off_chip.specs.Histories.{History, no_event, Each, until}
use Rattle.off_chip.specs.Residency.{in_check, is_resident}
use Rattle.off_chip.specs.Epochs.{is_passed, open_reads, NoReadAbove}
use Rattle.stamp_log.specs.LogTurns.{is_out, TurnsAreTaken}
use Rattle.stamp_log.specs.LogStands.{IsWritten, some_passed}

-- whether an event is at no place of the log and no mark of a check
abbrev pub is_foreign : Event → Bool
is_foreign (BlockRead (Log n) block) = false
is_foreign (BlockWrite (Log n) block) = false
is_foreign (Note (Drop (Log n))) = false
is_foreign (Note CheckStart) = false
is_foreign (Note CheckPassed) = false
is_foreign event = true

-- no event is at a place of the log or a mark of a check
pub record HasNoLog (older : History) : Type 0 where
  pub each : Each (λ event older. IsTrue (is_foreign event)) older

-- the first blocks of the log were written, so many of them, and nothing else was done with it
pub record IsStarting (blocks count : ℕ) (older : History) : Type 0 where
  pub written : (n : ℕ) → n < count → IsWritten older n
  pub turns : TurnsAreTaken blocks older
  pub not_above : NoReadAbove older
  pub first : until is_passed older ≡ no_event
  pub not_passed : some_passed older ≡ false
  pub inside : (n : ℕ) → n < count → is_out n older ≡ false
  pub out : (n : ℕ) → count ≤ n → is_out n older ≡ true
  pub resident : (n : ℕ) → is_resident (Log n) older ≡ false
  pub no_check : in_check older ≡ false
  pub reads : open_reads older ≡ []
