-- Promise: what the evaluator keeps, as a state of the meaning in which nothing is noted.
use Rattle.std.specs.Prelude.{ℕ, ◌≡◌, false, List, [], length, slice_index, slice_index_or, drop, cond, ◌==◌, Ok, Err, IsErr}
use Rattle.std.specs.declared.result.Result.{Result}
use Rattle.aegis_num.specs.declared.memory.OutOfMemory.{OutOfMemory}
use Rattle.c_semantics.specs.States.{State, Setting, Outcome, GoesOn, EndsAs, End, Ended, Index, Divide, Turns}
use Rattle.c_evaluator.specs.declared.machine.Machine.{Machine}
use Rattle.execution.specs.Traffic.{traffic_from}
use Rattle.c_semantics.specs.ResolvedTree as Tree
use Rattle.c_semantics.specs.Meaning
use Rattle.c_semantics.specs.Meaning.{first_memory}
use Rattle.regions.specs.LooseClasses.{nothing_loose}
use Rattle.std.proofs.Common.{Vec, Global}
use Rattle.c_evaluator.specs.declared.flow.Flow.{Flow}
use Rattle.c_evaluator.specs.declared.flow.Flow.TheVariants as flow
use Rattle.c_evaluator.specs.declared.flow.Turn.{Turn}
use Rattle.c_evaluator.specs.declared.flow.Turn.TheVariants as turn
use Rattle.c_evaluator.specs.declared.mean_end.MeanEnd.{MeanEnd}
use Rattle.c_evaluator.specs.declared.mean_end.MeanEnd.TheVariants as mean
use Rattle.c_evaluator.specs.declared.fault.Fault.{Fault}
use Rattle.c_evaluator.specs.declared.fault.Fault.TheVariants as fault
use Rattle.c_evaluator.specs.declared.fault.Stopped.{Stopped}

-- the word of an element, where each variable has a list of words by its token: zero where none was written
abbrev pub memory_of : List (List ℕ) → ℕ → ℕ → ℕ
memory_of variables x i = slice_index (slice_index_or variables x []) i

-- nothing is loose, and nothing is noted
abbrev pub bare : Setting
bare = record { is_loose = nothing_loose; is_noted = false }

-- what a machine keeps, as a state
abbrev pub seen : Machine → State
seen m = record {
  memory = memory_of m.variables.items;
  turns = m.turns;
  work = 0;
  traffic = record {
    input = drop m.next m.input.items;
    loose = [];
    taken = 0;
    bytes = m.released.items;
    writes = [];
    releases = length m.released.items;
    checks = 0;
    suspensions = 0;
  };
}

-- before the first step
abbrev pub started : List Tree.Object → List ℕ → ℕ → State
started objects input turns = record { memory = first_memory objects; turns = turns; work = 0; traffic = traffic_from input [] }

-- the state with other words of one variable
abbrev pub placed : ℕ → List ℕ → State → State
placed token words s = record s { memory = λ x i. cond (token == x) (slice_index words i) (s.memory x i) }

-- The evaluation is over as the meaning is, by this fault. Where memory ran out nothing is said.
abbrev pub StopsAs : {A : Type 0} → Outcome A → Fault → State → Type 0
StopsAs outcome (fault.Index at) state = outcome ≡ EndsAs (Index at) state
StopsAs outcome (fault.Divide at) state = outcome ≡ EndsAs (Divide at) state
StopsAs outcome fault.Turns state = outcome ≡ EndsAs Turns state
StopsAs outcome fault.OutOfMemory state = Unit {0}

-- The evaluator does what the meaning says: it goes on with the value, as it is seen, or stops by the fault that the machine keeps.
abbrev pub DoesAs : {A B : Type 0} → (B → A) → Outcome A → Result B Stopped → Machine → Type 0
DoesAs view outcome (Ok value) m = outcome ≡ GoesOn (view value) (seen m)
DoesAs view outcome (Err stopped) m = StopsAs outcome m.fault (seen m)

-- of a word
abbrev pub Does : Outcome ℕ → Result ℕ Stopped → Machine → Type 0
Does outcome result m = DoesAs (λ word. word) outcome result m

-- of words
abbrev pub DoesWords : Outcome (List ℕ) → Result (Vec ℕ Global) Stopped → Machine → Type 0
DoesWords outcome result m = DoesAs (λ (words : Vec ℕ Global). words.items) outcome result m

-- how a statement is left, where the last `return` gave this value
abbrev pub flow_of : ℕ → Flow → Meaning.Flow
flow_of returned flow.Completed = Meaning.Completed
flow_of returned flow.Broke = Meaning.Broke
flow_of returned flow.Continued = Meaning.Continued
flow_of returned flow.Returned = Meaning.Returned returned

abbrev pub turn_of : ℕ → Turn → Meaning.Turn
turn_of returned turn.Again = Meaning.Again
turn_of returned (turn.Leaves flow) = Meaning.Leaves (flow_of returned flow)

-- of a statement
abbrev pub DoesFlow : Outcome Meaning.Flow → Result Flow Stopped → Machine → Type 0
DoesFlow outcome result m = DoesAs (flow_of m.returned) outcome result m

-- of a turn
abbrev pub DoesTurn : Outcome Meaning.Turn → Result Turn Stopped → Machine → Type 0
DoesTurn outcome result m = DoesAs (turn_of m.returned) outcome result m

-- how a run ends
abbrev pub end_of : MeanEnd → End
end_of mean.Ended = Ended
end_of (mean.Index at) = Index at
end_of (mean.Divide at) = Divide at
end_of mean.Turns = Turns

-- how the answer of main, and the fault where it is over, tell the end of the run
abbrev pub EndsSo : Result ℕ Stopped → Fault → Result MeanEnd OutOfMemory → Type 0
EndsSo (Ok value) fault answer = answer ≡ Ok mean.Ended
EndsSo (Err stopped) (fault.Index at) answer = answer ≡ Ok (mean.Index at)
EndsSo (Err stopped) (fault.Divide at) answer = answer ≡ Ok (mean.Divide at)
EndsSo (Err stopped) fault.Turns answer = answer ≡ Ok mean.Turns
EndsSo (Err stopped) fault.OutOfMemory answer = IsErr answer
