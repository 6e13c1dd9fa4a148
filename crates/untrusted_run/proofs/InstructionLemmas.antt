-- The step of an instruction and the mark after it, as an instruction of a phase.
use Rattle.std.proofs.Common.{◌≡◌, ℕ, ◌+◌, ◌≤◌, List, [], ◌∷◌, ◌++◌, length, length-append, Some, None, refl, ◌∙◌, ap, subst, arith, append_assoc, append-nil}
use Rattle.std.proofs.lemmas.List.Elements.{filter_map-append}
use Rattle.execution.specs.Run.{Goes, Stops}
use Rattle.off_chip.specs.declared.event.Event.{Event}
use Rattle.off_chip.specs.declared.event.Event.TheVariants.{Note}
use Rattle.off_chip.specs.declared.event.Mark.TheVariants.{Retire}
use Rattle.off_chip.specs.declared.event.Who.TheVariants.{Untrusted}
use Rattle.off_chip.specs.BusCalls.{AppendsOne}
use Rattle.orbis_core.specs.declared.stepping.StepEnd.{StepEnd}
use Rattle.orbis_core.specs.declared.stepping.StepEnd.TheVariants as end
use Rattle.orbis_core.specs.Processor.{Processor}
use Rattle.untrusted_run.specs.declared.phase.UntrustedEnd.TheVariants as ends
use Rattle.untrusted_run.specs.OpenAccesses.{Sight, Made}
use Rattle.untrusted_run.specs.PhaseParts.{DoesInstruction, phase_at}
use Rattle.untrusted_run.specs.Phases.{Phase, PhaseNext, Resumed, Refused, phase_step, untrusted_read, untrusted_reads}
use Rattle.untrusted_run.proofs.StepLemmas.{AfterStep, Part}

abbrev retired : Event
retired = Note (Retire Untrusted)

reads-then : (events : List Event) → untrusted_reads (events ++ retired ∷ []) ≡ untrusted_reads events
reads-then events = filter_map-append untrusted_read events (retired ∷ []) ∙ append-nil (untrusted_reads events)

-- how many events there are and how much room is left stays the same sum
pub total : (events : List Event) (from to : Sight) → Made events from to → length to.trace + to.room ≡ length from.trace + from.room
total events from to made = rw (made.trace, length-append from.trace events) (omega (arith, made.room))

pub total-then : (event : Event) (events : List Event) (from to : Sight) (trace : List Event) (room : ℕ) → Made events from to → AppendsOne event to.trace to.room trace room
    → length trace + room ≡ length from.trace + from.room
total-then event events from to trace room made one =
    let before : length to.trace + to.room ≡ length from.trace + from.room = total events from to made in
    rw (one.trace, length-append to.trace (event ∷ [])) (omega (arith, one.room, before))

module _ (old new : Processor) (ended : StepEnd) (from to : Sight) (part : Part phase_step old new ended from to 3) where
  -- the end of the step is known
  at-end : (last : StepEnd) → ended ≡ last → (rest : List ℕ) (before : List Event)
      → AfterStep last (phase_step (phase_at old (untrusted_reads part.events ++ rest) before)) new (phase_at old rest (before ++ part.events))
  at-end last is rest before =
      let P : StepEnd → Type 0 = λ e. AfterStep e (phase_step (phase_at old (untrusted_reads part.events ++ rest) before)) new (phase_at old rest (before ++ part.events)) in
      subst P is (part.does rest before)

  module _ (trace : List Event) (room : ℕ) (one : AppendsOne retired to.trace to.room trace room) where
    trace-then : trace ≡ from.trace ++ (part.events ++ retired ∷ [])
    trace-then = one.trace ∙ ap (λ (t : List Event). t ++ retired ∷ []) part.made.trace ∙ append_assoc from.trace part.events (retired ∷ [])

    few-then : length (part.events ++ retired ∷ []) ≤ 4
    few-then = rw (length-append part.events (retired ∷ [])) (omega (arith, part.few))

    -- a step over the words of all events is one over those before the mark
    step-then : (rest : List ℕ) (before : List Event) → phase_step (phase_at old (untrusted_reads (part.events ++ retired ∷ []) ++ rest) before) ≡ phase_step (phase_at old (untrusted_reads part.events ++ rest) before)
    step-then rest before = ap (λ (words : List ℕ). phase_step (phase_at old (words ++ rest) before)) (reads-then part.events)

    pub next-does : ended ≡ end.Next → (events : List Event) × (trace ≡ from.trace ++ events) × DoesInstruction old new None events
    next-does is = (
      part.events ++ retired ∷ [],
      trace-then,
      record {
        few = few-then;
        leaves = λ rest before. step-then rest before ∙ at-end end.Next is rest before
            ∙ ap (λ (events : List Event). Goes (phase_at new rest events)) (append_assoc before part.events (retired ∷ []));
      },
    )

    pub resume-does : ended ≡ end.Resume → (events : List Event) × (trace ≡ from.trace ++ events) × DoesInstruction old new (Some ends.Resumed) events
    resume-does is = (
      part.events ++ retired ∷ [],
      trace-then,
      record {
        few = few-then;
        leaves = λ rest before. (
          new,
          step-then rest before ∙ at-end end.Resume is rest before
              ∙ ap (λ (events : List Event). Stops Resumed (phase_at new rest events)) (append_assoc before part.events (retired ∷ [])),
        );
      },
    )

-- any other end is a refusal
abbrev refusal-of : (ended : StepEnd) → Type 0
refusal-of ended = (ended ≡ end.Next → ⊥) → (ended ≡ end.Resume → ⊥) → (next : PhaseNext) (core : Processor) (phase : Phase) → AfterStep ended next core phase → next ≡ Stops Refused phase

is-refusal : (ended : StepEnd) → refusal-of ended
is-refusal end.Next = λ goes resumes next core phase after. absurd (goes refl)
is-refusal end.Input = λ goes resumes next core phase after. after
is-refusal (end.Released byte) = λ goes resumes next core phase after. after
is-refusal end.Check = λ goes resumes next core phase after. after
is-refusal end.Suspend = λ goes resumes next core phase after. after
is-refusal end.Resume = λ goes resumes next core phase after. absurd (resumes refl)
is-refusal end.Enter = λ goes resumes next core phase after. after
is-refusal (end.Private private) = λ goes resumes next core phase after. after
is-refusal end.Exit = λ goes resumes next core phase after. after
is-refusal (end.Index place) = λ goes resumes next core phase after. after
is-refusal (end.Divide place) = λ goes resumes next core phase after. after
is-refusal (end.Stopped why) = λ goes resumes next core phase after. after

pub refused-does : (old new : Processor) (ended : StepEnd) (from to : Sight) → Part phase_step old new ended from to 3 → (ended ≡ end.Next → ⊥) → (ended ≡ end.Resume → ⊥)
    → (events : List Event) × (to.trace ≡ from.trace ++ events) × DoesInstruction old new (Some ends.Refused) events
refused-does old new ended from to part goes resumes = (
  part.events,
  part.made.trace,
  record {
    few = omega (arith, part.few);
    leaves = λ rest before. (old, is-refusal ended goes resumes (phase_step (phase_at old (untrusted_reads part.events ++ rest) before)) new (phase_at old rest (before ++ part.events)) (part.does rest before));
  },
)
