-- Promise: how many events a run makes at most: each step adds at most so many, and what leaves the chip came onto it before.
use Rattle.std.specs.Prelude.{◌≡◌, ℕ, zero, suc, ◌+◌, ◌*◌, ◌≤◌, Bool, true, false, ⊤, length, ◌==◌, Option, Some, if◌then◌else◌}
use Rattle.aegis_num.specs.declared.Place.{Place}
use Rattle.regions.specs.declared.Layout.{Layout}
use Rattle.regions.specs.Modes.{SecureInstruction, Exit, IndexTrap, DivideTrap, Suspend, Release, Check}
use Rattle.regions.specs.Tree.{height_of}
use Rattle.off_chip.specs.declared.Event.{Event}
use Rattle.off_chip.specs.declared.Event.TheVariants.{BlockWrite, Note}
use Rattle.off_chip.specs.declared.Mark.TheVariants.{Drop}
use Rattle.off_chip.specs.Histories.{History, in_order, AtEach, Each}
use Rattle.off_chip.specs.Boundaries.{enter_events, is_boundary, is_retire, retired}
use Rattle.off_chip.specs.Residency.{is_resident}
use Rattle.bus_machine.specs.EventBounds.{pace}
use Rattle.paced_trace.specs.EventKinds.{after_entering, check_mark, check_read, entering, exchange, in_step, load, removal, suspended}

-- ---- what leaves

-- after entering a block leaves only where it is resident just before
abbrev pub LeavesResident : ℕ → Event → History → Type 0
LeavesResident entry (BlockWrite at block) older = entry ≤ length (in_order older) → is_resident at older ≡ true
LeavesResident entry (Note (Drop at)) older = entry ≤ length (in_order older) → is_resident at older ≡ true
LeavesResident entry event older = ⊤

-- and no block is resident where entering is over
pub record OnlyResidentLeave (entry : ℕ) (older : History) : Type 0 where
  pub each : Each (LeavesResident entry) older
  pub none : AtEach (λ before. length (in_order before) == entry) (λ before. (place : Place) → is_resident place before ≡ false) older

-- at most as many blocks left after entering as came
pub record LeavesNoMore (entry : ℕ) (older : History) : Type 0 where
  pub counts : after_entering removal entry older ≤ after_entering load entry older

-- ---- what a step adds

-- whether an instruction may have a check, or send bytes: it is a release, a check, the exit or a trap
abbrev pub may_check : Option SecureInstruction → Bool
may_check (Some Release) = true
may_check (Some Check) = true
may_check (Some Exit) = true
may_check (Some IndexTrap) = true
may_check (Some DivideTrap) = true
may_check asked = false

-- whether it is a suspension
abbrev pub suspends : Option SecureInstruction → Bool
suspends (Some Suspend) = true
suspends asked = false

-- what the events of a step are that was done, where this is the secure instruction of the step, if it is one
pub record FitsStep (layout : Layout) (asked : Option SecureInstruction) (older : History) : Type 0 where
  -- At most the blocks of two paths come, or those of one and two open words are exchanged. A block counts twice, since it leaves again.
  pub accesses : 2 * in_step load (enter_events layout) older + in_step exchange (enter_events layout) older ≤ 4 * (height_of layout + 1)
  -- a check has its two marks and a read of each block of the log, and bytes are sent at most once
  pub marks : in_step check_mark (enter_events layout) older ≤ (if may_check asked then 3 else 0)
  pub reads : in_step check_read (enter_events layout) older ≤ (if may_check asked then layout.log else 0)
  -- untrusted code makes at most four events in each of 4,096 instructions, between two marks
  pub suspension : in_step suspended (enter_events layout) older ≤ (if suspends asked then 16386 else 0)
  pub entered : in_step entering (enter_events layout) older ≡ 0

-- and so it is of each step that was done after entering. The steps are counted from 0, and each has a secure instruction or none
abbrev pub StepFits : Layout → (ℕ → Option SecureInstruction) → Event → History → Type 0
StepFits layout asked event older =
    is_retire event ≡ true → enter_events layout ≤ length (in_order older) → FitsStep layout (asked (retired (in_order older))) older

pub record AllStepsFit (layout : Layout) (asked : ℕ → Option SecureInstruction) (older : History) : Type 0 where
  pub each : Each (StepFits layout asked) older

-- ---- the bound

-- of how many of the first steps, so many of them, the secure instruction is such a one
abbrev pub asked_among : (Option SecureInstruction → Bool) → (ℕ → Option SecureInstruction) → ℕ → ℕ
asked_among test asked zero = 0
asked_among test asked (suc k) = asked_among test asked k + (if test (asked k) then 1 else 0)

-- the pace of so many steps
abbrev pub pace_of : Layout → (ℕ → Option SecureInstruction) → ℕ → ℕ
pace_of layout asked k = pace layout k (asked_among may_check asked k) (asked_among suspends asked k)

-- a history is at most as long as the pace of the steps that were done
pub record IsPaced (layout : Layout) (asked : ℕ → Option SecureInstruction) (older : History) : Type 0 where
  pub bound : length (in_order older) ≤ pace_of layout asked (retired (in_order older))

-- ---- laws

-- where only resident blocks leave, at most as many leave as came
abbrev pub LeavingIsPaid : Type 0
LeavingIsPaid = (entry : ℕ) (older : History) → OnlyResidentLeave entry older → AtEach (λ before. true) (LeavesNoMore entry) older

-- where at each boundary no more left than came, and each step fits, the history is paced at each boundary
abbrev pub StepsArePaced : Type 0
StepsArePaced =
    (layout : Layout) (asked : ℕ → Option SecureInstruction) (older : History)
    → AtEach (is_boundary (enter_events layout)) (LeavesNoMore (enter_events layout)) older → AllStepsFit layout asked older
    → AtEach (is_boundary (enter_events layout)) (IsPaced layout asked) older

-- by both
abbrev pub ResidentStepsArePaced : Type 0
ResidentStepsArePaced =
    (layout : Layout) (asked : ℕ → Option SecureInstruction) (older : History) → OnlyResidentLeave (enter_events layout) older
    → AllStepsFit layout asked older → AtEach (is_boundary (enter_events layout)) (IsPaced layout asked) older
