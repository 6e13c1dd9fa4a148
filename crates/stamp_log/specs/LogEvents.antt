-- Promise: which events the calls of a log make, in order.
use Rattle.std.specs.Prelude.{◌≡◌, ℕ, zero, suc, ◌+◌, ◌<◌, ◌≤◌, Bool, false, List, [], ◌∷◌, ◌++◌, length, replicate, nat_lt, Result, Ok, Err}
use Rattle.std.specs.List.{list_any}
use Rattle.aegis_num.specs.declared.storage.Block.{Block}
use Rattle.aegis_num.specs.declared.storage.Place.TheVariants.{Log}
use Rattle.regions.specs.declared.addresses.TheConstants.{BLOCK_BYTES}
use Rattle.off_chip.specs.declared.event.Event.{Event}
use Rattle.off_chip.specs.declared.event.Event.TheVariants.{BlockRead, BlockWrite, Note}
use Rattle.off_chip.specs.declared.event.Mark.TheVariants.{CheckStart, CheckPassed}
use Rattle.off_chip.specs.Histories.{history}
use Rattle.off_chip.specs.WriteBacks.{block_writes}
use Rattle.off_chip.specs.Epochs.{LogEntry, open_reads, open_writes}
use Rattle.off_chip.specs.Collisions.{sum_of}
use Rattle.stamp_log.specs.declared.causes.LogCause.{LogCause}
use Rattle.stamp_log.specs.declared.causes.LogCause.TheVariants.{Future, Sums}
use Rattle.stamp_log.specs.declared.sums.MultisetSum.{MultisetSum}
use Rattle.stamp_log.specs.LogState.{LogLines, stamped}
use Rattle.stamp_log.specs.LogCalls.{WritesBack, HoldsNothing}

abbrev pub zero_payload : List ℕ
zero_payload = replicate BLOCK_BYTES 0

-- the first blocks of the log are written with zeros, so many of them, in order, with the stamps that follow on a last one
abbrev pub zeros_written : ℕ → ℕ → List Event
zeros_written last zero = []
zeros_written last (suc n) = zeros_written last n ++ BlockWrite (Log n) (stamped zero_payload (last + suc n)) ∷ []

-- blocks of the log are read in order, from this one on, and the reads give these
abbrev pub reads_from : ℕ → List Block → List Event
reads_from n [] = []
reads_from n (block ∷ rest) = BlockRead (Log n) block ∷ reads_from (suc n) rest

-- whether one of the blocks that were read has a stamp above this number
abbrev pub some_above : ℕ → List Block → Bool
some_above writes read = list_any (λ (block : Block). nat_lt writes block.stamp) read

-- the first blocks of the log are read, so many of them, in order, and nothing else is done. No stamp is above the number of block writes
pub record ReadsInOrder (count : ℕ) (before after : List Event) : Type 0 where
  pub read : List Block
  pub events : after ≡ before ++ reads_from 0 read
  pub counted : length read ≡ count
  pub fit : some_above (block_writes before) read ≡ false

-- the blocks of the log are read in order, up to the first one whose stamp is above the number of block writes. Its read is the last event
pub record StopsReading (blocks : ℕ) (before after : List Event) : Type 0 where
  pub n : ℕ
  pub less : n < blocks
  pub middle : List Event
  pub earlier : ReadsInOrder n before middle
  pub block : Block
  pub last : after ≡ middle ++ BlockRead (Log n) block ∷ []
  pub above : block_writes before < block.stamp

-- the reads and the writes of the open epoch have one sum
abbrev pub SumsAgree : (LogEntry → ℕ) → List Event → Type 0
SumsAgree value trace = sum_of value (open_reads (history trace)) ≡ sum_of value (open_writes (history trace))

-- how the reads of a check end, and the answer that follows. It passes, with its mark as the last event, where all blocks were read, no
-- stamp is above the number of block writes, and the sums agree; where they do not, the last of these reads is the last event. Else it
-- stops at the first read of a stamp above that number
pub data EndsCheck (value : LogEntry → ℕ) (blocks : ℕ) (before after : List Event) (result : Result (Unit {0}) LogCause) : Type 0 where
  passes : (compared : List Event) → ReadsInOrder blocks before compared → SumsAgree value compared → after ≡ compared ++ Note CheckPassed ∷ [] → result ≡ Ok tt
      → EndsCheck value blocks before after result
  differs : (read written : MultisetSum) → ReadsInOrder blocks before after → (SumsAgree value after → ⊥) → result ≡ Err (Sums read written)
      → EndsCheck value blocks before after result
  stops : (event : ℕ) → StopsReading blocks before after → result ≡ Err (Future event) → EndsCheck value blocks before after result

-- a check: its mark comes first, then lines are removed and written back one after another until none is left, and then the blocks are read
pub record RunsCheck (value : LogEntry → ℕ) (blocks : ℕ) (result : Result (Unit {0}) LogCause) (before after : List Event) (old new : LogLines) : Type 0 where
  pub middle : List Event
  pub writes : WritesBack blocks (before ++ Note CheckStart ∷ []) middle old new
  pub nothing : HoldsNothing new
  pub few : length middle ≤ length before + 33
  pub ends : EndsCheck value blocks middle after result
