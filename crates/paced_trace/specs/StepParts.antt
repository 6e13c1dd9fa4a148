-- Promise: the form in which a machine tells the events of a step, in order: its accesses, and what comes after them. A step of this form fits.
use Rattle.std.specs.Prelude.{◌≡◌, ◌+◌, ◌*◌, ◌≤◌, Bool, true, false, List, [], ◌∷◌, ◌++◌, length, count_by, Option}
use Rattle.std.specs.List.{list_all}
use Rattle.aegis_num.specs.declared.Place.TheVariants.{Log}
use Rattle.regions.specs.declared.Layout.{Layout}
use Rattle.regions.specs.Modes.{SecureInstruction}
use Rattle.regions.specs.Tree.{height_of}
use Rattle.off_chip.specs.declared.Event.{Event}
use Rattle.off_chip.specs.declared.Event.TheVariants.{BlockRead, BlockWrite, WordRead, WordWrite, Note}
use Rattle.off_chip.specs.declared.Mark.TheVariants.{CheckPassed, CheckStart, Resume, Retire, Sent, Suspend}
use Rattle.off_chip.specs.declared.Who.TheVariants.{Secure, Untrusted}
use Rattle.off_chip.specs.Histories.{History, followed}
use Rattle.off_chip.specs.Boundaries.{enter_events, is_step}
use Rattle.off_chip.specs.Residency.{in_check}
use Rattle.bus_machine.specs.BusAccesses.{is_access_event}
use Rattle.paced_trace.specs.PacedSteps.{FitsStep, may_check, suspends}

-- whether an event reads a block
abbrev pub is_read : Event → Bool
is_read (BlockRead at block) = true
is_read event = false

-- whether the secure program reads or writes an open word
abbrev pub is_exchange : Event → Bool
is_exchange (WordRead Secure at word) = true
is_exchange (WordWrite Secure at word) = true
is_exchange event = false

-- whether an event reads or writes a block of the log
abbrev pub is_log_move : Event → Bool
is_log_move (BlockRead (Log n) block) = true
is_log_move (BlockWrite (Log n) block) = true
is_log_move event = false

-- whether an event is one of untrusted code
abbrev pub is_foreign : Event → Bool
is_foreign (WordRead Untrusted at word) = true
is_foreign (WordWrite Untrusted at word) = true
is_foreign (Note (Retire Untrusted)) = true
is_foreign event = false

-- whether it tells that bytes were sent
abbrev pub is_sent : Event → Bool
is_sent (Note (Sent n)) = true
is_sent event = false

-- the accesses of a step: at most the blocks of two paths are read, where an open word is worth half a block
pub record AreAccesses (layout : Layout) (events : List Event) : Type 0 where
  pub each : list_all is_access_event events ≡ true
  pub few : 2 * count_by is_read events + count_by is_exchange events ≤ 4 * (height_of layout + 1)

-- bytes are sent once, or not at all
pub record SendOnce (events : List Event) : Type 0 where
  pub each : list_all is_sent events ≡ true
  pub once : length events ≤ 1

-- what comes after them, where this is the secure instruction of the step: nothing, or bytes are sent; a check passes, with at most one read for
-- each block of the log, and bytes are sent; or a suspension
pub data ComesAfter (layout : Layout) (asked : Option SecureInstruction) (events : List Event) : Type 0 where
  nothing : events ≡ [] → ComesAfter layout asked events
  sends : may_check asked ≡ true → SendOnce events → ComesAfter layout asked events
  checks : (moves sent : List Event) → may_check asked ≡ true → list_all is_log_move moves ≡ true → count_by is_read moves ≤ layout.log → SendOnce sent
      → events ≡ Note CheckStart ∷ (moves ++ Note CheckPassed ∷ sent) → ComesAfter layout asked events
  suspension : (phase : List Event) → suspends asked ≡ true → list_all is_foreign phase ≡ true → length phase ≤ 16384
      → events ≡ Note Suspend ∷ (phase ++ Note Resume ∷ []) → ComesAfter layout asked events

-- From a boundary at which no check is under way, such a step fits, and no check is under way after it.
abbrev pub PartsFit : Type 0
PartsFit =
    (layout : Layout) (asked : Option SecureInstruction) (older : History) (accesses more : List Event) → is_step (enter_events layout) older ≡ true
    → in_check older ≡ false → AreAccesses layout accesses → ComesAfter layout asked more
    → FitsStep layout asked (followed older (accesses ++ more)) × (in_check (followed older (accesses ++ more)) ≡ false)
