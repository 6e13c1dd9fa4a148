-- Promise: what leaves the chip came onto it, told by how many lines are held, in place of which blocks are resident.
use Rattle.std.specs.Prelude.{◌≡◌, ℕ, ◌+◌, ◌≤◌, List, length}
use Rattle.off_chip.specs.declared.Event.{Event}
use Rattle.off_chip.specs.Histories.{History, followed, in_order}
use Rattle.paced_trace.specs.EventKinds.{after_entering, among, load, removal}
use Rattle.paced_trace.specs.PacedSteps.{LeavesNoMore}

-- so many lines are held at most as blocks came more than left after entering
pub record HoldsLines (entry lines : ℕ) (older : History) : Type 0 where
  pub counts : after_entering removal entry older + lines ≤ after_entering load entry older

-- the laws
pub record LinesAreCounted : Type 0 where
  -- none is held where entering is over
  pub none : (entry : ℕ) (older : History) → length (in_order older) ≡ entry → HoldsLines entry 0 older
  -- further events, in which no more blocks leave, with the lines that are held after them, than come, with those that were held before
  pub more : (entry lines now : ℕ) (older : History) (events : List Event) → entry ≤ length (in_order older) → HoldsLines entry lines older
      → among removal older events + now ≤ among load older events + lines → HoldsLines entry now (followed older events)
  -- so at most as many leave as came
  pub paid : (entry lines : ℕ) (older : History) → HoldsLines entry lines older → LeavesNoMore entry older
