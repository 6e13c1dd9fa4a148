-- Promise: which fuel suffices for the ideal machine, that fuel which suffices by the counts of a source does, and that with it no run whose
-- history is paced is out of fuel.
use Rattle.std.specs.Prelude.{◌≡◌, ℕ, ◌+◌, ◌*◌, ◌≤◌, Bool, List, length, Option, None}
use Rattle.execution.specs.Run.{EndsIn, Goes, Next, Stops, run}
use Rattle.execution.specs.Traffic.{Entry}
use Rattle.regions.specs.declared.Class.{Class}
use Rattle.regions.specs.declared.Layout.{Layout}
use Rattle.regions.specs.Modes.{SecureInstruction}
use Rattle.off_chip.specs.Histories.{History, in_order}
use Rattle.off_chip.specs.Boundaries.{retired}
use Rattle.off_chip.specs.OffChipBytes.{static_blocks}
use Rattle.orbis_core.specs.declared.Why.{Why}
use Rattle.orbis_core.specs.Ideal.{Ideal, IdealEnd, Refused, ideal_run, ideal_start, ideal_step, secure_at}
use Rattle.bus_machine.specs.EventBounds.{enough, pace, worst}
use Rattle.paced_trace.specs.PacedSteps.{IsPaced, asked_among, may_check, pace_of, suspends}

-- ---- the secure instructions of the ideal machine

-- the one of the next step, if the machine goes on and the step has one
abbrev pub asked_next : Next Ideal IdealEnd → Option SecureInstruction
asked_next (Goes state) = secure_at state
asked_next (Stops end state) = None

-- the one of each step from a start on, which are counted from 0
abbrev pub asked_from : Layout → (Class → Bool) → Ideal → ℕ → Option SecureInstruction
asked_from layout loose start k = asked_next (run (ideal_step layout loose) k start)

-- the machine was refused
abbrev pub IsRefusal : IdealEnd → Type 0
IsRefusal end = (why : Why) × (end ≡ Refused why)

-- What is counted of the steps is what the traffic notes: releases with checks, and suspensions. Where a run has ended and was not refused, its
-- last instruction may be the exit or a trap, which the traffic does not note.
pub record CountsAreNoted (layout : Layout) (loose : Class → Bool) (statics : List ℕ) (entry : ℕ) (input : List ℕ) (words : List (Entry ℕ)) (k : ℕ) : Type 0 where
  pub checks : (state : Ideal) → ideal_run layout loose statics entry input words k ≡ Goes state
      → asked_among may_check (asked_from layout loose (ideal_start layout statics entry input words)) k ≡ state.traffic.releases + state.traffic.checks
  pub suspensions : (state : Ideal) → ideal_run layout loose statics entry input words k ≡ Goes state
      → asked_among suspends (asked_from layout loose (ideal_start layout statics entry input words)) k ≡ state.traffic.suspensions
  pub checks_ended : (end : IdealEnd) (at : Ideal) → EndsIn (ideal_step layout loose) k (ideal_start layout statics entry input words) end at → (IsRefusal end → ⊥)
      → asked_among may_check (asked_from layout loose (ideal_start layout statics entry input words)) k ≤ at.traffic.releases + at.traffic.checks + 1
  pub suspensions_ended : (end : IdealEnd) (at : Ideal) → EndsIn (ideal_step layout loose) k (ideal_start layout statics entry input words) end at → (IsRefusal end → ⊥)
      → asked_among suspends (asked_from layout loose (ideal_start layout statics entry input words)) k ≡ at.traffic.suspensions

-- ---- fuel

-- fuel suffices for the ideal machine from a start on: it ends, in so many steps, and their pace leaves as much as one more instruction can use
pub record FuelSuffices (layout : Layout) (loose : Class → Bool) (start : Ideal) (fuel : ℕ) : Type 0 where
  pub steps : ℕ
  pub end : IdealEnd
  pub at : Ideal
  pub ends : EndsIn (ideal_step layout loose) steps start end at
  pub covers : worst layout + pace_of layout (asked_from layout loose start) steps ≤ fuel

-- ---- laws

abbrev pub InstructionsAreCounted : Type 0
InstructionsAreCounted =
    (layout : Layout) (loose : Class → Bool) (statics : List ℕ) (entry : ℕ) (input : List ℕ) (words : List (Entry ℕ)) (k : ℕ)
    → CountsAreNoted layout loose statics entry input words k

-- what is enough for a source is enough for the pace of so many steps, in a layout that has a static block
abbrev pub EnoughCoversPace : Type 0
EnoughCoversPace =
    (layout : Layout) (work releases checks suspensions k c s : ℕ) → 1 ≤ static_blocks layout → k ≤ 32 * work → c ≤ releases + checks + 1 → s ≤ suspensions
    → worst layout + pace layout k c s ≤ enough layout work releases checks suspensions

-- so fuel that is enough by the counts of a source suffices, where the machine comes to an end in at most 32 steps for each unit of its work,
-- has the counts of the source there, and was not refused
abbrev pub EnoughSuffices : Type 0
EnoughSuffices =
    (layout : Layout) (loose : Class → Bool) (statics : List ℕ) (entry : ℕ) (input : List ℕ) (words : List (Entry ℕ)) (work steps fuel : ℕ)
    (end : IdealEnd) (at : Ideal) → 1 ≤ static_blocks layout → ideal_run layout loose statics entry input words steps ≡ Stops end at → (IsRefusal end → ⊥)
    → steps ≤ 32 * work → enough layout work at.traffic.releases at.traffic.checks at.traffic.suspensions ≤ fuel
    → FuelSuffices layout loose (ideal_start layout statics entry input words) fuel

-- where fuel suffices, a history that is paced, with no more steps done than the ideal machine makes, leaves as much as one more instruction can use
abbrev pub FuelLasts : Type 0
FuelLasts =
    (layout : Layout) (loose : Class → Bool) (start : Ideal) (fuel : ℕ) (older : History) (suffices : FuelSuffices layout loose start fuel)
    → IsPaced layout (asked_from layout loose start) older → retired (in_order older) ≤ suffices.steps → worst layout + length (in_order older) ≤ fuel
