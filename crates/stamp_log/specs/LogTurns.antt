-- Promise: the turns that reads and writes of the log's blocks take.
use Rattle.std.specs.Prelude.{◌≡◌, ℕ, ◌<◌, ◌==◌, Bool, true, false, ⊤, Option, Some, None, unwrap_or, if◌then◌else◌}
use Rattle.aegis_num.specs.declared.storage.Place.TheVariants.{Log}
use Rattle.off_chip.specs.declared.event.Event.{Event}
use Rattle.off_chip.specs.declared.event.Event.TheVariants.{BlockRead, BlockWrite, Note}
use Rattle.off_chip.specs.declared.event.Mark.TheVariants.{CheckPassed}
use Rattle.off_chip.specs.Histories.{History, Each, newest}

-- whether a block of the log is out after an event, where the event tells it: its read takes it out, its write and each passed check put
-- it back
abbrev pub out_told : ℕ → Event → Option Bool
out_told n (BlockRead (Log m) block) = if n == m then Some true else None
out_told n (BlockWrite (Log m) block) = if n == m then Some false else None
out_told n (Note CheckPassed) = Some false
out_told n event = None

-- whether a block of the log is out. Before it was written, and before a check passed, it is
abbrev pub is_out : ℕ → History → Bool
is_out n older = unwrap_or (newest (λ event _. out_told n event) older) true

-- a read is of a block of the log that is not out, and a write of one that is
abbrev pub TakesTurn : ℕ → Event → History → Type 0
TakesTurn blocks (BlockRead (Log n) block) older = (n < blocks) × (is_out n older ≡ false)
TakesTurn blocks (BlockWrite (Log n) block) older = (n < blocks) × (is_out n older ≡ true)
TakesTurn blocks event older = ⊤

-- the reads and the writes of each block of the log take turns
pub record TurnsAreTaken (blocks : ℕ) (older : History) : Type 0 where
  pub each : Each (TakesTurn blocks) older
