-- Promise: machines that are the same but for memory where no word starts ask for the same and step alike.
use Rattle.std.specs.Prelude.{◌≡◌, ℕ, None}
use Rattle.execution.specs.Run.{Next, Goes, Stops}
use Rattle.regions.specs.declared.Layout.{Layout}
use Rattle.regions.specs.declared.Access.TheVariants.{Fetch}
use Rattle.orbis_core.specs.Ideal.{Ideal, IdealEnd, Outside, effect_at, machine_step}
use Rattle.orbis_core.specs.Refusals.{word_refusal}
use Rattle.bus_machine.specs.BusData.{needs_check}
use Rattle.ideal_trace.specs.IdealRuns.{IsSameMachine}

-- both go on or end so, at machines that are the same
abbrev pub ComesSame : Next Ideal IdealEnd → Next Ideal IdealEnd → Type 0
ComesSame (Goes state) (Goes other) = IsSameMachine state other
ComesSame (Stops end state) (Stops final other) = (final ≡ end) × IsSameMachine state other
ComesSame (Goes state) (Stops final other) = ⊥
ComesSame (Stops end state) (Goes other) = ⊥

pub record SameMachinesStepAlike : Type 0 where
  -- where the fetch is not refused they ask for the same
  pub asks : (layout : Layout) (state other : Ideal) → IsSameMachine state other → word_refusal layout state.mode Fetch state.core.pc ≡ None → effect_at other ≡ effect_at state
  -- a check belongs to the step of both or of none
  pub checks : (layout : Layout) (state other : Ideal) (sent : ℕ) → IsSameMachine state other → needs_check layout (Goes other) sent ≡ needs_check layout (Goes state) sent
  -- and they stay the same
  pub steps : (layout : Layout) (outside : Outside) (state other : Ideal) → IsSameMachine state other → ComesSame (machine_step layout outside state) (machine_step layout outside other)
