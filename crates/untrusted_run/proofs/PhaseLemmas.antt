-- Instructions one after another are a phase.
use Rattle.std.proofs.Common.{◌≡◌, ℕ, ◌+◌, ◌-◌, ◌<◌, List, [], ◌++◌, Some, None, refl, ◌∙◌, ap, subst, arith, append_assoc, append-nil}
use Rattle.std.proofs.lemmas.List.Elements.{filter_map-append}
use Rattle.execution.specs.Run.{Goes, Stops, and_then, run}
use Rattle.execution.proofs.RunLemmas.{run-+, run-ended}
use Rattle.regions.specs.declared.addresses.TheConstants.{UNTRUSTED_START}
use Rattle.off_chip.specs.declared.event.Event.{Event}
use Rattle.orbis_core.specs.Processor.{Processor, reset_core}
use Rattle.untrusted_run.specs.declared.phase.TheConstants.{MAX_INSTRUCTIONS}
use Rattle.untrusted_run.specs.declared.phase.UntrustedEnd.{UntrustedEnd}
use Rattle.untrusted_run.specs.declared.phase.UntrustedEnd.TheVariants as ends
use Rattle.untrusted_run.specs.PhaseParts.{DoesInstruction, phase_at}
use Rattle.untrusted_run.specs.Phases.{IsPhase, PhaseEnd, PhaseNext, Refused, Resumed, phase_start, phase_step, untrusted_read, untrusted_reads}

-- after so many instructions a phase has come to this core by these events
pub record SoFar (events : List Event) (core : Processor) (count : ℕ) : Type 0 where
  pub comes : (rest : List ℕ) → run phase_step count (phase_start (untrusted_reads events ++ rest)) ≡ Goes (phase_at core rest events)

pub so-far-start : SoFar [] (reset_core UNTRUSTED_START) 0
so-far-start = record { comes = λ rest. refl }

reads-join : (events more : List Event) (rest : List ℕ) → untrusted_reads (events ++ more) ++ rest ≡ untrusted_reads events ++ (untrusted_reads more ++ rest)
reads-join events more rest = ap (λ (words : List ℕ). words ++ rest) (filter_map-append untrusted_read events more) ∙ append_assoc (untrusted_reads events) (untrusted_reads more) rest

-- one instruction more, whatever it comes to
one-more : (events more : List Event) (core : Processor) (count : ℕ) (next : PhaseNext) (rest : List ℕ) → SoFar events core count
    → phase_step (phase_at core (untrusted_reads more ++ rest) events) ≡ next
    → run phase_step (count + 1) (phase_start (untrusted_reads (events ++ more) ++ rest)) ≡ and_then next (run phase_step 0)
one-more events more core count next rest so_far is =
    ap (λ (words : List ℕ). run phase_step (count + 1) (phase_start words)) (reads-join events more rest)
    ∙ run-+ phase_step count 1 (phase_start (untrusted_reads events ++ (untrusted_reads more ++ rest)))
    ∙ ap (λ (n : PhaseNext). and_then n (run phase_step 1)) (so_far.comes (untrusted_reads more ++ rest))
    ∙ ap (λ (n : PhaseNext). and_then n (run phase_step 0)) is

pub so-far-more : (events more : List Event) (core new : Processor) (count : ℕ) → SoFar events core count → DoesInstruction core new None more → SoFar (events ++ more) new (count + 1)
so-far-more events more core new count so_far does = record {
  comes = λ rest. one-more events more core count (Goes (phase_at new rest (events ++ more))) rest so_far (does.leaves rest events);
}

-- it has ended with this instruction, and is over from then on
ended-at : (events more : List Event) (core last : Processor) (count : ℕ) (end : PhaseEnd) → SoFar events core count → count < MAX_INSTRUCTIONS
    → phase_step (phase_at core (untrusted_reads more ++ []) events) ≡ Stops end (phase_at last [] (events ++ more))
    → run phase_step MAX_INSTRUCTIONS (phase_start (untrusted_reads (events ++ more))) ≡ Stops end (phase_at last [] (events ++ more))
ended-at events more core last count end so_far below is =
    let ended : run phase_step (count + 1) (phase_start (untrusted_reads (events ++ more) ++ [])) ≡ Stops end (phase_at last [] (events ++ more)) =
    one-more events more core count (Stops end (phase_at last [] (events ++ more))) [] so_far is in
    let here : run phase_step (count + 1) (phase_start (untrusted_reads (events ++ more))) ≡ Stops end (phase_at last [] (events ++ more)) =
    subst (λ (words : List ℕ). run phase_step (count + 1) (phase_start words) ≡ Stops end (phase_at last [] (events ++ more))) (append-nil (untrusted_reads (events ++ more))) ended in
    let left : count + 1 + (MAX_INSTRUCTIONS - (count + 1)) ≡ MAX_INSTRUCTIONS = omega (arith, below) in
    subst (λ (n : ℕ). run phase_step n (phase_start (untrusted_reads (events ++ more))) ≡ Stops end (phase_at last [] (events ++ more))) left
    (run-ended phase_step (count + 1) (MAX_INSTRUCTIONS - (count + 1)) (phase_start (untrusted_reads (events ++ more))) (phase_at last [] (events ++ more)) end here)

pub phase-ended : (events more : List Event) (core new : Processor) (count : ℕ) (end : UntrustedEnd) → SoFar events core count → count < MAX_INSTRUCTIONS
    → DoesInstruction core new (Some end) more → IsPhase (events ++ more) end
phase-ended events more core new count ends.Resumed so_far below does =
    let left = does.leaves [] events in
    record { at = phase_at left.0 [] (events ++ more); ends = ended-at events more core left.0 count Resumed so_far below left.1; events_are = refl; all_read = refl }
phase-ended events more core new count ends.Refused so_far below does =
    let left = does.leaves [] events in
    record { at = phase_at left.0 [] (events ++ more); ends = ended-at events more core left.0 count Refused so_far below left.1; events_are = refl; all_read = refl }
phase-ended events more core new count ends.Watchdog so_far below does = absurd (does.leaves [] events)

pub phase-cut : (events : List Event) (core : Processor) (count : ℕ) → SoFar events core count → count ≡ MAX_INSTRUCTIONS → IsPhase events ends.Watchdog
phase-cut events core count so_far full =
    let cut : run phase_step count (phase_start (untrusted_reads events ++ [])) ≡ Goes (phase_at core [] events) = so_far.comes [] in
    let here : run phase_step count (phase_start (untrusted_reads events)) ≡ Goes (phase_at core [] events) =
    subst (λ (words : List ℕ). run phase_step count (phase_start words) ≡ Goes (phase_at core [] events)) (append-nil (untrusted_reads events)) cut in
    record {
      at = phase_at core [] events;
      ends = subst (λ (n : ℕ). run phase_step n (phase_start (untrusted_reads events)) ≡ Goes (phase_at core [] events)) full here;
      events_are = refl;
      all_read = refl;
    }
