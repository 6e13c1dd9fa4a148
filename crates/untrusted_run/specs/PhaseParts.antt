-- Device: what one instruction of untrusted code does to a phase.
use Rattle.std.specs.Prelude.{◌≡◌, ℕ, ◌≤◌, List, ◌++◌, length, Option, Some, None}
use Rattle.execution.specs.Run.{Goes, Stops}
use Rattle.off_chip.specs.declared.event.Event.{Event}
use Rattle.orbis_core.specs.Processor.{Processor}
use Rattle.untrusted_run.specs.declared.phase.UntrustedEnd.{UntrustedEnd}
use Rattle.untrusted_run.specs.declared.phase.UntrustedEnd.TheVariants as ends
use Rattle.untrusted_run.specs.Phases.{Phase, PhaseNext, Resumed, Refused, phase_step, untrusted_reads}

abbrev pub phase_at : Processor → List ℕ → List Event → Phase
phase_at core words events = record { core = core; words = words; events = events }

-- how an instruction leaves a phase, by its answer: it goes on with this core, has resumed, or was refused
abbrev pub LeavesPhase : Option UntrustedEnd → PhaseNext → Processor → List ℕ → List Event → Type 0
LeavesPhase None next core words events = next ≡ Goes (phase_at core words events)
LeavesPhase (Some ends.Resumed) next core words events = (last : Processor) × (next ≡ Stops Resumed (phase_at last words events))
LeavesPhase (Some ends.Refused) next core words events = (last : Processor) × (next ≡ Stops Refused (phase_at last words events))
LeavesPhase (Some ends.Watchdog) next core words events = ⊥

-- these are the events of one instruction
pub record DoesInstruction (old new : Processor) (end : Option UntrustedEnd) (events : List Event) : Type 0 where
  pub few : length events ≤ 4
  pub leaves : (rest : List ℕ) (before : List Event) →
      LeavesPhase end (phase_step (phase_at old (untrusted_reads events ++ rest) before)) new rest (before ++ events)
