-- Promise: of which kind an event is after entering, and how many events of a kind there are. Each event is of one kind.
use Rattle.std.specs.Prelude.{ℕ, ◌+◌, nat_lt, List, [], ◌∷◌, length, ◌&&◌, if◌then◌else◌}
use Rattle.off_chip.specs.declared.Event.{Event}
use Rattle.off_chip.specs.declared.Event.TheVariants.{BlockRead, BlockWrite, WordRead, WordWrite, Note}
use Rattle.off_chip.specs.declared.Mark.TheVariants.{CheckPassed, CheckStart, Drop, Enter, Resume, Retire, Sent, Suspend}
use Rattle.off_chip.specs.declared.Who.TheVariants.{Secure, Untrusted}
use Rattle.off_chip.specs.Histories.{History, no_event, ◌◂◌, in_order}
use Rattle.off_chip.specs.Boundaries.{is_step}
use Rattle.off_chip.specs.Residency.{in_check, is_log}

-- a kind: 1 for an event that is of it, by the history before the event, and 0 for each other one
abbrev pub Kind : Type 0
Kind = Event → History → ℕ

-- a block comes onto the chip: it is read, and not by a check of the log
abbrev pub load : Kind
load (BlockRead at block) older = if is_log at && in_check older then 0 else 1
load event older = 0

-- a block leaves the chip: it is written, or it leaves without a write
abbrev pub removal : Kind
removal (BlockWrite at block) older = 1
removal (Note (Drop at)) older = 1
removal event older = 0

-- the secure program reads or writes an open word
abbrev pub exchange : Kind
exchange (WordRead Secure at word) older = 1
exchange (WordWrite Secure at word) older = 1
exchange event older = 0

-- a check of the log reads a block
abbrev pub check_read : Kind
check_read (BlockRead at block) older = if is_log at && in_check older then 1 else 0
check_read event older = 0

-- a check begins, it passes, or bytes are sent
abbrev pub check_mark : Kind
check_mark (Note CheckStart) older = 1
check_mark (Note CheckPassed) older = 1
check_mark (Note (Sent n)) older = 1
check_mark event older = 0

-- the program is suspended, untrusted code runs, or the program goes on
abbrev pub suspended : Kind
suspended (WordRead Untrusted at word) older = 1
suspended (WordWrite Untrusted at word) older = 1
suspended (Note (Retire Untrusted)) older = 1
suspended (Note Suspend) older = 1
suspended (Note Resume) older = 1
suspended event older = 0

-- an instruction of the secure program was done
abbrev pub retirement : Kind
retirement (Note (Retire Secure)) older = 1
retirement event older = 0

-- the program is entered
abbrev pub entering : Kind
entering (Note Enter) older = 1
entering event older = 0

-- how many events of a kind there are in the step that is under way, where entering takes so many events
abbrev pub in_step : Kind → ℕ → History → ℕ
in_step kind entry no_event = 0
in_step kind entry (event ◂ older) = if is_step entry (event ◂ older) then 0 else in_step kind entry older + kind event older

-- and how many there are after entering
abbrev pub after_entering : Kind → ℕ → History → ℕ
after_entering kind entry no_event = 0
after_entering kind entry (event ◂ older) =
    if nat_lt (length (in_order older)) entry then 0 else after_entering kind entry older + kind event older

-- and how many further events, in order, after a history
abbrev pub among : Kind → History → List Event → ℕ
among kind older [] = 0
among kind older (event ∷ rest) = kind event older + among kind (event ◂ older) rest
