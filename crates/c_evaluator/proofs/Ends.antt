-- An evaluation that is over stays over.
use Rattle.std.proofs.Common.{◌≡◌, ◌∙◌, ℕ, List, [], sym, ap, Err, Ok, arith}
use Rattle.std.specs.declared.result.Result.{Result}
use Rattle.aegis_num.specs.declared.memory.OutOfMemory.{OutOfMemory}
use Rattle.c_semantics.specs.ResolvedTree as Tree
use Rattle.c_semantics.specs.States.{State, Outcome, GoesOn, then}
use Rattle.c_semantics.specs.Meaning.{meaning_of, outcome_of, mean, mean_alone}
use Rattle.regions.specs.LooseClasses.{nothing_loose}
use Rattle.c_semantics.specs.MeaningLaws.{IsSameButNotes}
use Rattle.c_semantics.proofs.LawProofs.{noting_changes_nothing_else}
use Rattle.c_evaluator.specs.declared.mean_end.MeanEnd.{MeanEnd}
use Rattle.c_evaluator.specs.declared.fault.Fault.{Fault}
use Rattle.c_evaluator.specs.declared.fault.Fault.TheVariants as fault
use Rattle.c_evaluator.specs.declared.fault.Stopped.{Stopped}
use Rattle.c_evaluator.specs.declared.machine.Machine.{Machine}
use Rattle.c_evaluator.specs.MachineStates.{bare, seen, end_of, Does, StopsAs, EndsSo}

pub stays-over : {A B : Type 0} (o : Outcome A) (h : A → State → Outcome B) (f : Fault) (s : State) → StopsAs o f s → StopsAs (then o h) f s
stays-over o h (fault.Index at) s d = ap (λ p. then p h) d
stays-over o h (fault.Divide at) s d = ap (λ p. then p h) d
stays-over o h fault.Turns s d = ap (λ p. then p h) d
stays-over o h fault.OutOfMemory s d = tt

-- How main's answer tells the end and the bytes of the meaning, in which all is noted.
pub told : (p : Tree.Program) (input : List ℕ) (turns : ℕ) (value : Result ℕ Stopped) (end : MeanEnd) (m : Machine) → Does (outcome_of bare p input [] turns) value m → EndsSo value m.fault (Ok end) →
    (end_of end ≡ (mean_alone p input turns).end) × ((mean_alone p input turns).traffic.bytes ≡ (seen m).traffic.bytes)
told p input turns value end m d e =
    let same : IsSameButNotes (mean_alone p input turns) (mean bare p input [] turns) = noting_changes_nothing_else nothing_loose p input [] turns in
    go value m.fault (seen m) (started value d) e same
  where
    end_or : Result MeanEnd OutOfMemory → MeanEnd
    end_or (Ok end') = end'
    end_or (Err o) = end

    done : Result ℕ Stopped → Fault → State → Type 0
    done (Ok v) f s = outcome_of bare p input [] turns ≡ GoesOn v s
    done (Err o) f s = StopsAs (outcome_of bare p input [] turns) f s

    started : (v : Result ℕ Stopped) → Does (outcome_of bare p input [] turns) v m → done v m.fault (seen m)
    started (Ok v) d = d
    started (Err o) d = d

    go : (v : Result ℕ Stopped) (f : Fault) (s : State) → done v f s → EndsSo v f (Ok end) → IsSameButNotes (mean_alone p input turns) (mean bare p input [] turns) →
        (end_of end ≡ (mean_alone p input turns).end) × ((mean_alone p input turns).traffic.bytes ≡ s.traffic.bytes)
    go (Ok v) f s d e same = (ap (λ r. end_of (end_or r)) e ∙ sym (ap (λ o. (meaning_of o).end) d) ∙ sym same.end, same.bytes ∙ ap (λ o. (meaning_of o).traffic.bytes) d)
    go (Err o) (fault.Index at) s d e same = (ap (λ r. end_of (end_or r)) e ∙ sym (ap (λ o. (meaning_of o).end) d) ∙ sym same.end, same.bytes ∙ ap (λ o. (meaning_of o).traffic.bytes) d)
    go (Err o) (fault.Divide at) s d e same = (ap (λ r. end_of (end_or r)) e ∙ sym (ap (λ o. (meaning_of o).end) d) ∙ sym same.end, same.bytes ∙ ap (λ o. (meaning_of o).traffic.bytes) d)
    go (Err o) fault.Turns s d e same = (ap (λ r. end_of (end_or r)) e ∙ sym (ap (λ o. (meaning_of o).end) d) ∙ sym same.end, same.bytes ∙ ap (λ o. (meaning_of o).traffic.bytes) d)
    go (Err o) fault.OutOfMemory s d e same = absurd (grind (arith, e))
