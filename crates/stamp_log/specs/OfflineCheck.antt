-- Promise: the theorem of offline checks, after Suh et al., "Efficient Memory Integrity Verification and Encryption for Secure
-- Processors", MICRO 2003: where as much was read as was written, each read gave what was written last.
use Rattle.std.specs.Prelude.{◌≡◌, ◌≢◌, ℕ, ◌<◌, length, true, List, [], ◌∷◌, ◌++◌, Option, ◌⊎◌}
use Rattle.aegis_num.specs.declared.storage.Block.{Block}
use Rattle.aegis_num.specs.declared.storage.Place.{Place}
use Rattle.aegis_num.specs.declared.storage.Place.TheVariants.{Log}
use Rattle.off_chip.specs.declared.event.Event.{Event}
use Rattle.off_chip.specs.declared.event.Event.TheVariants.{BlockRead, Note}
use Rattle.off_chip.specs.declared.event.Mark.TheVariants.{CheckPassed}
use Rattle.off_chip.specs.Histories.{History, history, until}
use Rattle.off_chip.specs.WriteBacks.{StampsFit, block_writes}
use Rattle.off_chip.specs.Epochs.{LogEntry, is_passed, open_reads, open_writes, EpochFaithful, NoReadAbove}
use Rattle.off_chip.specs.Collisions.{SameEntries, sum_of}
use Rattle.stamp_log.specs.declared.causes.LogCause.{LogCause}
use Rattle.stamp_log.specs.declared.causes.LogCause.TheVariants.{Future, Sums}
use Rattle.stamp_log.specs.declared.sums.MultisetSum.{MultisetSum}
use Rattle.stamp_log.specs.LogState.{entry_sum}
use Rattle.stamp_log.specs.LogTurns.{TurnsAreTaken, is_out}
use Rattle.stamp_log.specs.LogStands.{AreLastWrites, HoldsLogCollision, carried_over, some_passed}

-- where stamps fit, reads and writes take turns, no read has a stamp above the count, the latest passed check read the last write-backs,
-- and each block was read after its last write, an epoch is faithful whose reads and writes are one multiset
abbrev pub OfflineChecksSuffice : Type 0
OfflineChecksSuffice = (blocks last : ℕ) (older : History) → StampsFit last older → TurnsAreTaken blocks older → NoReadAbove older
    → (some_passed older ≡ true → AreLastWrites blocks (carried_over older) (until is_passed older))
    → ((n : ℕ) → n < blocks → is_out n older ≡ true)
    → SameEntries (open_writes older) (open_reads older)
    → (image : Place → Option (List ℕ)) → EpochFaithful image older

-- the trace ends with a check that passed, and each log read of the epoch that it ended is faithful, or the trace holds a collision at an
-- event that is named
pub record PassedFaithful (value : LogEntry → ℕ) (trace : List Event) : Type 0 where
  pub before : List Event
  pub last : trace ≡ before ++ Note CheckPassed ∷ []
  pub faithful : ((image : Place → Option (List ℕ)) → EpochFaithful image (history before)) ⊎ HoldsLogCollision value trace

-- the trace ends with a log read whose stamp is above the number of block writes before it, at this event
pub record FutureRead (trace : List Event) (event : ℕ) : Type 0 where
  pub before : List Event
  pub n : ℕ
  pub block : Block
  pub last : trace ≡ before ++ BlockRead (Log n) block ∷ []
  pub number : event ≡ length before
  pub above : block_writes before < block.stamp

-- these are the sums of the reads and the writes of the open epoch, and they differ
pub record SumsDiffer (value : LogEntry → ℕ) (trace : List Event) (read written : MultisetSum) : Type 0 where
  pub reads : entry_sum read ≡ sum_of value (open_reads (history trace))
  pub writes : entry_sum written ≡ sum_of value (open_writes (history trace))
  pub differ : entry_sum read ≢ entry_sum written

-- why a check did not pass
abbrev pub IsCause : (LogEntry → ℕ) → List Event → LogCause → Type 0
IsCause value trace (Future event) = FutureRead trace event
IsCause value trace (Sums read written) = SumsDiffer value trace read written
