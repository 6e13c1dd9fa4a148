-- Promise: the epochs of the log, what was read and what was written of it between one passed check and the next, after the offline checks
-- of Suh et al., "Efficient Memory Integrity Verification and Encryption for Secure Processors", MICRO 2003.
use Rattle.std.specs.Prelude.{◌≡◌, ℕ, ◌≤◌, Bool, true, false, ⊤, List, [], ◌∷◌, ◌++◌, filter_map, Option, Some, None, IsTrue, ◌↔◌, if◌then◌else◌}
use Rattle.std.specs.Bool.{OnTrue}
use Rattle.std.specs.List.{slice_split, list_any}
use Rattle.aegis_num.specs.declared.storage.Block.{Block}
use Rattle.aegis_num.specs.declared.storage.Place.{Place}
use Rattle.aegis_num.specs.declared.storage.Place.TheVariants.{Log}
use Rattle.off_chip.specs.declared.event.Event.{Event}
use Rattle.off_chip.specs.declared.event.Event.TheVariants.{BlockRead, BlockWrite, Note}
use Rattle.off_chip.specs.declared.event.Mark.TheVariants.{CheckStart, CheckPassed, Sent}
use Rattle.off_chip.specs.Histories.{History, in_order, history, Each, EachSince, since, until}
use Rattle.off_chip.specs.WriteBacks.{block_writes}
use Rattle.off_chip.specs.FaithfulReads.{is_faithful, is_log_read, IsFaithfulRead, LogFaithful, LogReadsFaithful}

-- an entry of the log: the number of a block, its payload and its stamp
pub record LogEntry : Type 0 where
  pub number : ℕ
  pub payload : List ℕ
  pub stamp : ℕ

-- the entry of a block of the log
abbrev pub log_entry : ℕ → Block → LogEntry
log_entry n block = record { number = n; payload = block.payload; stamp = block.stamp }

-- the entry of a log read, and of a log write
abbrev pub log_read : Event → Option LogEntry
log_read (BlockRead (Log n) block) = Some (log_entry n block)
log_read event = None

abbrev pub log_written : Event → Option LogEntry
log_written (BlockWrite (Log n) block) = Some (log_entry n block)
log_written event = None

-- a check passed: it ends an epoch, and the next one begins
abbrev pub is_passed : Event → Bool
is_passed (Note CheckPassed) = true
is_passed event = false

-- a check began
abbrev pub is_check_start : Event → Bool
is_check_start (Note CheckStart) = true
is_check_start event = false

-- in order: the epochs of a trace, without the marks that end them. The last one is the open epoch
abbrev pub epochs : List Event → List (List Event)
epochs trace = slice_split is_passed trace

-- the events of an epoch after the start of its check
abbrev pub check_of : List Event → List Event
check_of [] = []
check_of (event ∷ rest) = if is_check_start event then rest else check_of rest

-- the reads of an epoch: its log reads, with those of its check
abbrev pub reads_of : List Event → List LogEntry
reads_of epoch = filter_map log_read epoch

-- the writes of an epoch: the entries that the check before it read, and then its log writes
abbrev pub writes_of : List Event → List Event → List LogEntry
writes_of previous epoch = reads_of (check_of previous) ++ filter_map log_written epoch

-- the events of the open epoch, and of the epoch before it, of which there are none before the first
abbrev pub open_epoch : History → List Event
open_epoch older = since is_passed older

abbrev pub ended_epoch : History → List Event
ended_epoch older = since is_passed (until is_passed older)

-- the reads of the open epoch, and its writes
abbrev pub open_reads : History → List LogEntry
open_reads older = reads_of (open_epoch older)

abbrev pub open_writes : History → List LogEntry
open_writes older = writes_of (ended_epoch older) (open_epoch older)

-- the open epoch holds no log read
pub record IsQuiet (older : History) : Type 0 where
  pub nothing : open_reads older ≡ []

-- the open epoch is faithful: each of its log reads is
pub record EpochFaithful (image : Place → Option (List ℕ)) (older : History) : Type 0 where
  pub each : EachSince is_passed (λ event older. OnTrue (is_log_read event) (IsTrue (is_faithful image event older))) older

-- each epoch that has ended is faithful: each log read before the latest passed check is
pub record EndedFaithful (image : Place → Option (List ℕ)) (older : History) : Type 0 where
  pub ended : LogFaithful image (until is_passed older)

-- in order: each log read is faithful after which no check passed
pub record OpenReadsFaithful (image : Place → Option (List ℕ)) (trace : List Event) : Type 0 where
  pub each : (before : List Event) (n : ℕ) (block : Block) (rest : List Event)
      → trace ≡ before ++ BlockRead (Log n) block ∷ rest → list_any is_passed rest ≡ false → IsFaithfulRead image before (Log n) block

-- in order: each log read is faithful after which a check passed
pub record EndedReadsFaithful (image : Place → Option (List ℕ)) (trace : List Event) : Type 0 where
  pub each : (before : List Event) (n : ℕ) (block : Block) (rest : List Event)
      → trace ≡ before ++ BlockRead (Log n) block ∷ rest → list_any is_passed rest ≡ true → IsFaithfulRead image before (Log n) block

-- no log read has a stamp above the number of block writes before it
abbrev pub ReadNotAbove : Event → History → Type 0
ReadNotAbove (BlockRead (Log n) block) older = block.stamp ≤ block_writes (in_order older)
ReadNotAbove event older = ⊤

pub record NoReadAbove (older : History) : Type 0 where
  pub each : Each ReadNotAbove older

-- in order
pub record ReadsNotAbove (trace : List Event) : Type 0 where
  pub each : (before : List Event) (n : ℕ) (block : Block) (rest : List Event)
      → trace ≡ before ++ BlockRead (Log n) block ∷ rest → block.stamp ≤ block_writes before

-- bytes are sent in quiet epochs only
abbrev pub SentInQuiet : Event → History → Type 0
SentInQuiet (Note (Sent n)) older = IsQuiet older
SentInQuiet event older = ⊤

pub record AllSentInQuiet (older : History) : Type 0 where
  pub each : Each SentInQuiet older

-- in order: before each Sent mark the open epoch has no read
pub record SentAfterQuiet (trace : List Event) : Type 0 where
  pub each : (before : List Event) (n : ℕ) (rest : List Event) → trace ≡ before ++ Note (Sent n) ∷ rest
      → (earlier : List (List Event)) (epoch : List Event) → epochs before ≡ earlier ++ epoch ∷ [] → reads_of epoch ≡ []

-- epochs of the log, of histories and in order
pub record EpochsInOrder : Type 0 where
  -- an epoch that has ended is the open one before the mark that ended it
  pub cut : (before rest : List Event) → epochs (before ++ Note CheckPassed ∷ rest) ≡ epochs before ++ epochs rest
  pub reads : (trace : List Event) (earlier : List (List Event)) (epoch : List Event) → epochs trace ≡ earlier ++ epoch ∷ [] → open_reads (history trace) ≡ reads_of epoch
  pub first_writes : (trace : List Event) (epoch : List Event) → epochs trace ≡ epoch ∷ [] → open_writes (history trace) ≡ writes_of [] epoch
  pub later_writes : (trace : List Event) (earlier : List (List Event)) (previous epoch : List Event) → epochs trace ≡ earlier ++ previous ∷ epoch ∷ []
      → open_writes (history trace) ≡ writes_of previous epoch
  pub quiet : (trace : List Event) (earlier : List (List Event)) (epoch : List Event) → epochs trace ≡ earlier ++ epoch ∷ []
      → IsQuiet (history trace) ↔ (reads_of epoch ≡ [])
  pub not_above : (trace : List Event) → NoReadAbove (history trace) ↔ ReadsNotAbove trace
  pub sent : (trace : List Event) → AllSentInQuiet (history trace) ↔ SentAfterQuiet trace
  pub open_faithful : (image : Place → Option (List ℕ)) (trace : List Event) → EpochFaithful image (history trace) ↔ OpenReadsFaithful image trace
  pub ended_faithful : (image : Place → Option (List ℕ)) (trace : List Event) → EndedFaithful image (history trace) ↔ EndedReadsFaithful image trace
  -- all log reads are faithful where those of each epoch are
  pub log : (image : Place → Option (List ℕ)) (trace : List Event) → LogReadsFaithful image trace ↔ (EndedReadsFaithful image trace × OpenReadsFaithful image trace)
