-- Promise: what the machine needs of a memory on a bus beside its five accesses.
use Rattle.std.specs.Prelude.{◌≡◌, ℕ, ◌<◌, Bool, true, false, if◌then◌else◌, List, [], ◌++◌}
use Rattle.regions.specs.declared.addresses.TheConstants.{LOG_START}
use Rattle.regions.specs.declared.Mode.{Mode}
use Rattle.regions.specs.declared.Mode.TheVariants.{Te, Ptr}
use Rattle.off_chip.specs.declared.Event.{Event}
use Rattle.off_chip.specs.declared.Mark.{Mark}
use Rattle.off_chip.specs.declared.Mark.TheVariants.{Retire, Sent}
use Rattle.off_chip.specs.declared.Who.TheVariants.{Secure}
use Rattle.orbis_core.specs.declared.StepEnd.{StepEnd}
use Rattle.orbis_core.specs.declared.StepEnd.TheVariants as end
use Rattle.stamp_log.specs.declared.LogCause.{LogCause}
use Rattle.bus_machine.specs.BusAccesses.{Makes, Sight}
use Rattle.bus_machine.specs.BusMachine.{blocks_taken}
use Rattle.aegis_machine.specs.InstructionsDone.{IsCheck, IsFailedCheck, IsSuspension}

-- a mark that the machine itself makes: an instruction of the secure program is done, or bytes are sent
abbrev pub is_own_mark : Mark → Bool
is_own_mark (Retire Secure) = true
is_own_mark (Sent n) = true
is_own_mark mark = false

-- exactly these events were made. They read no data block, and the lines agree with what the reads leave
pub record Leads {M : Type 0} (sight : Sight M) (events : List Event) (old new : M) : Type 0 where
  pub trace : sight.trace new ≡ sight.trace old ++ events
  pub layout : sight.layout new ≡ sight.layout old
  pub veil : sight.veil new ≡ sight.veil old
  pub data_stays : (memory : ℕ → ℕ) (at : ℕ) → at < LOG_START → blocks_taken (sight.layout old) (sight.veil old) events memory at ≡ memory at
  pub agrees : (memory : ℕ → ℕ) → sight.Agrees old memory → sight.Agrees new (blocks_taken (sight.layout old) (sight.veil old) events memory)

-- and the mode stays
pub record LeadsOn {M : Type 0} (sight : Sight M) (events : List Event) (old new : M) : Type 0 where
  pub leads : Leads sight events old new
  pub mode : sight.mode new ≡ sight.mode old

-- a check passed
pub record PassesCheck {M : Type 0} (sight : Sight M) (old new : M) : Type 0 where
  pub events : List Event
  pub check : IsCheck events
  pub leads_on : LeadsOn sight events old new

-- a check did not pass, for this cause
pub record MissesCheck {M : Type 0} (sight : Sight M) (Caused : LogCause → M → Type 0) (cause : LogCause) (old new : M) : Type 0 where
  pub events : List Event
  pub check : IsFailedCheck events
  pub makes : Makes sight events old new
  pub caused : Caused cause new

-- the program was suspended, and goes on
pub record Suspends {M : Type 0} (sight : Sight M) (old new : M) : Type 0 where
  pub events : List Event
  pub suspension : IsSuspension events
  pub leads_on : LeadsOn sight events old new

-- the mode from which private data is opened, or closed
abbrev pub set_from : Bool → Mode
set_from on = if on then Te else Ptr

-- private data can be used from now on, or no longer, and no event was made
pub record SetsPrivate {M : Type 0} (sight : Sight M) (on : Bool) (old new : M) : Type 0 where
  pub leads : Leads sight [] old new
  pub mode : sight.mode new ≡ (if on then Ptr else Te)

-- the room that a memory needs for what may come after a step: 16,386 events for a suspension, 1,058 for a check, a piece that is sent, and the mark
abbrev pub room_after : StepEnd → ℕ
room_after end.Suspend = 16387
room_after ended = 1060
