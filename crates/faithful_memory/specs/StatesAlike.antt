-- Promise: the ideal machine does the same on two memories that have the same words.
use Rattle.std.specs.Prelude.{◌≡◌}
use Rattle.execution.specs.Run.{Next, Goes, Stops}
use Rattle.regions.specs.declared.Layout.{Layout}
use Rattle.orbis_core.specs.Ideal.{Ideal, IdealEnd, Outside, machine_step}
use Rattle.faithful_memory.specs.KnownWords.{HasSameWords}

-- two states of the machine differ in nothing but what their memories have at addresses of no word
pub record IsAlike (one other : Ideal) : Type 0 where
  pub core : other.core ≡ one.core
  pub mode : other.mode ≡ one.mode
  pub words : HasSameWords one.memory other.memory
  pub traffic : other.traffic ≡ one.traffic

-- both go on, or both have ended alike
abbrev pub GoAlike : Next Ideal IdealEnd → Next Ideal IdealEnd → Type 0
GoAlike (Goes one) (Goes other) = IsAlike one other
GoAlike (Stops end one) (Stops other_end other) = (other_end ≡ end) × IsAlike one other
GoAlike one other = ⊥

-- a step from the one leads where a step from the other leads
abbrev pub StepsGoAlike : Type 0
StepsGoAlike = (layout : Layout) (outside : Outside) (one other : Ideal) → IsAlike one other → GoAlike (machine_step layout outside one) (machine_step layout outside other)
