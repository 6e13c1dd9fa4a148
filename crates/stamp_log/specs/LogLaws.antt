-- Promise: laws of what a log keeps on its trace.
use Rattle.std.specs.Prelude.{◌≡◌, ◌≢◌, ℕ, true, List, length, Some}
use Rattle.regions.specs.declared.addresses.TheConstants.{BLOCK_BYTES}
use Rattle.off_chip.specs.declared.event.Event.{Event}
use Rattle.off_chip.specs.Histories.{History, ◌◂◌}
use Rattle.stamp_log.specs.LogState.{LogState, line_of, with_line}
use Rattle.stamp_log.specs.StandsOn.{StandsOn, contents_of}
use Rattle.stamp_log.specs.Starting.{is_foreign}
use Rattle.stamp_log.specs.LogContents.{KeepsContents}

-- an event at no place of the log, which is no mark of a check, keeps a log standing, and its contents
abbrev pub ForeignEventsKeep : Type 0
ForeignEventsKeep = (log : LogState) (event : Event) (older : History) → is_foreign event ≡ true → StandsOn log older
    → StandsOn log (event ◂ older) × KeepsContents log.lines log.lines older (event ◂ older)

-- a log whose line of a block was lent stands as before, with what was left there as the contents of that block, and all others as before
pub record LendsContents (log : LogState) (older : History) (n : ℕ) (left : List ℕ) : Type 0 where
  pub stands : StandsOn (with_line log n left) older
  pub here : contents_of (with_line log n left) older n ≡ Some left
  pub others : (m : ℕ) → m ≢ n → contents_of (with_line log n left) older m ≡ contents_of log older m

abbrev pub LendingChangesContents : Type 0
LendingChangesContents = (log : LogState) (older : History) (n : ℕ) (payload left : List ℕ) → StandsOn log older → line_of log.lines n ≡ Some payload
    → length payload ≡ BLOCK_BYTES → LendsContents log older n left
