-- Promise: what a program does, by its structure, over variables and arrays of words.
use Rattle.std.specs.Prelude.{ℕ, zero, suc, ◌+◌, Bool, true, cond, not, ◌==◌, List, [], ◌∷◌, Option, Some, None, slice_index}
use Rattle.execution.specs.Traffic.{Element, Entry, Traffic, traffic_from, after_check, after_suspension}
use Rattle.aegis_num.specs.Operators.{truth, unary}
use Rattle.c_semantics.specs.declared.tree.Variable.{Variable}
use Rattle.c_semantics.specs.ResolvedTree.{Expr, Number, Scalar, Indexed, Called, Input, Unary, Binary, Both, Either, Arguments, NoArguments, Argument, Stmt, Nothing, Then, Empty, Block, Local, Assign, Store, Call, Suspend, Release, Check, Return, Break, Continue, If, While, For, Function, Object, Program}
use Rattle.regions.specs.declared.rights.Class.{Class}
use Rattle.regions.specs.LooseClasses.{nothing_loose, shared_loose, shared_and_logged_loose}
use Rattle.c_semantics.specs.States.{Setting, State, End, Ended, Turns, Outcome, GoesOn, EndsAs, then, then_run, choose, tick, noting, reading, writing, within, applied, taking_input, releasing, begin_turn}

-- how a statement is left: for the next one, by `break`, by `continue`, or by `return` with a value
pub data Flow : Type 0 where
  Completed : Flow
  Broke : Flow
  Continued : Flow
  Returned : (value : ℕ) → Flow

-- after a turn of a loop: it goes on, or it is left
pub data Turn : Type 0 where
  Again : Turn
  Leaves : Flow → Turn

-- what a call of a function does, by its number and its arguments
abbrev pub Calls : Type 0
Calls = ℕ → List ℕ → State → Outcome ℕ

-- a word other than zero holds, as a condition
abbrev pub holds : ℕ → Bool
holds word = not (word == 0)

-- the value of an operand of `&&` or `||`
abbrev pub truth_of : ℕ → State → Outcome ℕ
truth_of word = GoesOn (truth (holds word))

-- Operands and arguments are evaluated from left to right, each expression for one unit of work. An index is tested before
-- anything to its right is evaluated. The right side of `&&` and `||` is evaluated only where it decides.
abbrev mutual
  pub value : Setting → Calls → Expr → State → Outcome ℕ
  value setting calls (Number word) state = GoesOn word (tick setting state)
  value setting calls (Scalar x) state = reading setting x 0 (tick setting state)
  value setting calls (Indexed at x length index) state =
      then (value setting calls index (tick setting state)) (λ i s. then (within at length i s) (reading setting x))
  value setting calls (Called function arguments) state =
      then (values setting calls arguments (tick setting state)) (calls function)
  value setting calls Input state = taking_input (tick setting state)
  value setting calls (Unary op inner) state =
      then (value setting calls inner (tick setting state)) (λ v. GoesOn (unary op v))
  value setting calls (Binary at op left right) state =
      then (value setting calls left (tick setting state)) (λ v s. then (value setting calls right s) (applied at op v))
  value setting calls (Both left right) state =
      then (value setting calls left (tick setting state)) (λ v. choose (holds v) (λ s. then (value setting calls right s) truth_of) (GoesOn 0))
  value setting calls (Either left right) state =
      then (value setting calls left (tick setting state)) (λ v. choose (holds v) (GoesOn 1) (λ s. then (value setting calls right s) truth_of))

  pub values : Setting → Calls → Arguments → State → Outcome (List ℕ)
  values setting calls NoArguments state = GoesOn [] state
  values setting calls (Argument first later) state =
      then (value setting calls first state) (λ v s. then (values setting calls later s) (λ vs. GoesOn (v ∷ vs)))

-- the value, or zero where there is none
abbrev pub value_or_zero : Setting → Calls → Option Expr → State → Outcome ℕ
value_or_zero setting calls None state = GoesOn 0 state
value_or_zero setting calls (Some e) state = value setting calls e state

-- a condition that does not stand holds
abbrev pub condition : Setting → Calls → Option Expr → State → Outcome ℕ
condition setting calls None state = GoesOn 1 state
condition setting calls (Some e) state = value setting calls e state

-- the statement after another one runs where that one was completed
abbrev pub after_statement : (State → Outcome Flow) → Flow → State → Outcome Flow
after_statement second Completed = second
after_statement second flow = GoesOn flow

-- after the body of a loop: `break` and `return` leave the loop, and else the step is made
abbrev pub after_body : (State → Outcome Flow) → Flow → State → Outcome Turn
after_body step Broke state = GoesOn (Leaves Completed) state
after_body step (Returned v) state = GoesOn (Leaves (Returned v)) state
after_body step flow state = then_run (step state) (GoesOn Again)

-- a turn is begun; then the body, then the step
abbrev pub made_turn : Setting → (State → Outcome Flow) → (State → Outcome Flow) → State → Outcome Turn
made_turn setting body step state = then_run (begin_turn setting state) (λ s. then (body s) (after_body step))

-- the condition, and a turn where it holds
abbrev pub turn : Setting → (State → Outcome ℕ) → (State → Outcome Flow) → (State → Outcome Flow) → State → Outcome Turn
turn setting test body step state =
    then (test state) (λ v. choose (holds v) (made_turn setting body step) (GoesOn (Leaves Completed)))

-- after a turn
abbrev pub after_turn : (State → Outcome Flow) → Turn → State → Outcome Flow
after_turn again Again = again
after_turn again (Leaves flow) = GoesOn flow

-- Turn after turn. There is one round more than turns that may begin, so a turn beyond the bound ends the run by itself, and
-- the first case does not come.
abbrev pub iterate : ℕ → (State → Outcome Turn) → State → Outcome Flow
iterate zero one_turn state = EndsAs Turns state
iterate (suc rounds) one_turn state = then (one_turn state) (after_turn (iterate rounds one_turn))

abbrev pub loop : (State → Outcome Turn) → State → Outcome Flow
loop one_turn state = iterate (suc state.turns) one_turn state

-- a statement that goes on to the next one
abbrev pub completes : State → Outcome Flow
completes = GoesOn Completed

-- each statement for one unit of work
abbrev pub meaning : Setting → Calls → Stmt → State → Outcome Flow
meaning setting calls Nothing state = completes state
meaning setting calls (Then first second) state = then (meaning setting calls first state) (after_statement (meaning setting calls second))
meaning setting calls Empty state = completes (tick setting state)
meaning setting calls (Block body) state = meaning setting calls body (tick setting state)
meaning setting calls (Local x e) state =
    then (value_or_zero setting calls e (tick setting state)) (λ v s. completes (writing setting x 0 v s))
meaning setting calls (Assign x e) state =
    then (value setting calls e (tick setting state)) (λ v s. completes (writing setting x 0 v s))
meaning setting calls (Store at x length index e) state =
    then (value setting calls index (tick setting state)) (λ i s. then (within at length i s) (λ place s'. then (value setting calls e s') (λ v s''. completes (writing setting x place v s''))))
meaning setting calls (Call function arguments) state =
    then (values setting calls arguments (tick setting state)) (λ vs s. then_run (calls function vs s) completes)
meaning setting calls Suspend state = completes (noting setting after_suspension (tick setting state))
meaning setting calls (Release e) state =
    then (value setting calls e (tick setting state)) (λ v s. completes (releasing v s))
meaning setting calls Check state = completes (noting setting after_check (tick setting state))
meaning setting calls (Return e) state =
    then (value_or_zero setting calls e (tick setting state)) (λ v. GoesOn (Returned v))
meaning setting calls Break state = GoesOn Broke (tick setting state)
meaning setting calls Continue state = GoesOn Continued (tick setting state)
meaning setting calls (If test body other) state =
    then (value setting calls test (tick setting state)) (λ v. choose (holds v) (meaning setting calls body) (meaning setting calls other))
meaning setting calls (While test body) state =
    loop (turn setting (value setting calls test) (meaning setting calls body) completes) (tick setting state)
meaning setting calls (For first test step body) state =
    then_run (meaning setting calls first (tick setting state)) (loop (turn setting (condition setting calls test) (meaning setting calls body) (meaning setting calls step)))

-- the value of a call: what was returned, and 0 where the function runs to its end
abbrev pub result_of : Flow → ℕ
result_of (Returned v) = v
result_of flow = 0

-- The parameters get the arguments. A call in a checked program has as many arguments as its function has parameters, so that none
-- is missing: the clause shape of `c_meaning::resolved_is_well_shaped` says so.
abbrev pub given : Setting → List Variable → List ℕ → State → State
given setting [] words state = state
given setting (x ∷ xs) [] state = state
given setting (x ∷ xs) (word ∷ words) state = given setting xs words (writing setting x 0 word state)

-- a function is called, for one unit of work
abbrev pub function_meaning : Setting → Calls → Function → List ℕ → State → Outcome ℕ
function_meaning setting calls f words state =
    then (meaning setting calls f.body (given setting f.parameters words (tick setting state))) (λ flow. GoesOn (result_of flow))

-- one function more, with this number, can be called; its body calls those that could be called before
abbrev pub with_function : Setting → Calls → ℕ → Function → Calls
with_function setting calls number f function words = choose (number == function) (function_meaning setting calls f words) (calls function words)

-- There is no function yet. A call in a checked program goes to a function before its own, so that this is never asked: the clause
-- shape of `c_meaning::resolved_is_well_shaped` says so.
abbrev pub no_calls : Calls
no_calls function words = GoesOn 0

-- the calls of these functions, each after those that it can call, where the first has this number
abbrev pub calls_from : Setting → Calls → ℕ → List Function → Calls
calls_from setting calls number [] = calls
calls_from setting calls number (f ∷ functions) = calls_from setting (with_function setting calls number f) (number + 1) functions

-- the calls of the functions of a program
abbrev pub calls_of : Setting → List Function → Calls
calls_of setting functions = calls_from setting no_calls 0 functions

-- the words that the objects start with, and zeros
abbrev pub first_memory : List Object → ℕ → ℕ → ℕ
first_memory [] variable index = 0
first_memory (object ∷ objects) variable index = cond (object.variable.token == variable) (slice_index object.first index) (first_memory objects variable index)

-- how a run ends, for how much work, and what has come and gone: the released bytes, the writes to shared variables, the counts of
-- releases, checks and suspensions, and how many loose words were taken
pub record Meaning : Type 0 where
  pub end : End
  pub work : ℕ
  pub traffic : Traffic Element

abbrev pub meaning_of : Outcome ℕ → Meaning
meaning_of (GoesOn value state) = record { end = Ended; work = state.work; traffic = state.traffic }
meaning_of (EndsAs end state) = record { end = end; work = state.work; traffic = state.traffic }

abbrev pub first_state : Program → List ℕ → List (Entry Element) → ℕ → State
first_state program input loose turns = record {
  memory = first_memory program.objects;
  turns = turns;
  work = 0;
  traffic = traffic_from input loose;
}

-- what main comes to on this input and these loose words, with at most so many loop turns in all
abbrev pub outcome_of : Setting → Program → List ℕ → List (Entry Element) → ℕ → Outcome ℕ
outcome_of setting program input loose turns =
    calls_of setting program.functions program.main [] (first_state program input loose turns)

-- the meaning of a program
abbrev pub mean : Setting → Program → List ℕ → List (Entry Element) → ℕ → Meaning
mean setting program input loose turns = meaning_of (outcome_of setting program input loose turns)

-- with work, checks, suspensions and shared writes noted, these classes are loose
abbrev pub noting_all : (Class → Bool) → Setting
noting_all is_loose = record { is_loose = is_loose; is_noted = true }

-- The meaning where nothing is loose: shared variables are ordinary variables that start at zero. Work and shared writes are noted.
abbrev pub mean_alone : Program → List ℕ → ℕ → Meaning
mean_alone program input turns = mean (noting_all nothing_loose) program input [] turns

-- The meaning where the words of shared variables come from outside. Work and shared writes are noted.
abbrev pub mean_shared : Program → List ℕ → List (Entry Element) → ℕ → Meaning
mean_shared = mean (noting_all shared_loose)

-- The meaning where those of logged variables do too, as before they are checked. Work and shared writes are noted.
abbrev pub mean_unchecked : Program → List ℕ → List (Entry Element) → ℕ → Meaning
mean_unchecked = mean (noting_all shared_and_logged_loose)
