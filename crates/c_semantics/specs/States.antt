-- Promise: what a run of a program goes through, and the single things that it does.
use Rattle.std.specs.Prelude.{ℕ, zero, suc, ◌+◌, Bool, true, false, cond, ◌==◌, ◌&&◌, nat_lt, Option, Some, None}
use Rattle.execution.specs.Traffic.{Element, is_same_element, Traffic, input_word, after_input, loose_word, after_loose, after_release, after_write}
use Rattle.regions.specs.declared.rights.Class.{Class}
use Rattle.regions.specs.declared.rights.Class.TheVariants.{Open}
use Rattle.aegis_num.specs.declared.operators.BinaryOp.{BinaryOp}
use Rattle.aegis_num.specs.Operators.{binary, traps}
use Rattle.c_semantics.specs.declared.tree.Variable.{Variable}

-- which classes are loose, and whether work, checks, suspensions and shared writes are noted
pub record Setting : Type 0 where
  pub is_loose : Class → Bool
  pub is_noted : Bool

pub record State : Type 0 where
  -- the word of each element of each variable
  pub memory : ℕ → ℕ → ℕ
  -- how many loop turns may still begin
  pub turns : ℕ
  -- how many nodes were evaluated, run, begun or called
  pub work : ℕ
  pub traffic : Traffic Element

-- why a run is over: main has returned, an index is out of range at this token, a divisor is zero at this token, a loose read
-- finds no entry of its own, or a loop turn would begin beyond the bound
pub data End : Type 0 where
  Ended : End
  Index : (at : ℕ) → End
  Divide : (at : ℕ) → End
  Starved : End
  Turns : End

-- a value to go on with, or an end
pub data Outcome (A : Type 0) : Type 0 where
  GoesOn : A → State → Outcome A
  EndsAs : End → State → Outcome A

-- goes on with the value, unless the run is over
abbrev pub then : {A B : Type 0} → Outcome A → (A → State → Outcome B) → Outcome B
then (GoesOn value state) go = go value state
then (EndsAs end state) go = EndsAs end state

-- goes on whatever the value is
abbrev pub then_run : {A B : Type 0} → Outcome A → (State → Outcome B) → Outcome B
then_run outcome go = then outcome (λ value. go)

-- the state come to
abbrev pub last_state : {A : Type 0} → Outcome A → State
last_state (GoesOn value state) = state
last_state (EndsAs end state) = state

-- the test of the class; a local has none
abbrev pub is_in : (Class → Bool) → Option Class → Bool
is_in test None = false
is_in test (Some class) = test class

abbrev pub is_open : Class → Bool
is_open Open = true
is_open class = false

-- the first where the test holds, and else the second
abbrev pub choose : {A : Type 0} → Bool → (State → Outcome A) → (State → Outcome A) → State → Outcome A
choose true one other state = one state
choose false one other state = other state

-- one unit of work
abbrev pub tick : Setting → State → State
tick setting state = record state { work = cond setting.is_noted (state.work + 1) state.work }

-- the state with what has come and gone
abbrev pub with_traffic : Traffic Element → State → State
with_traffic traffic state = record state { traffic = traffic }

-- a change of what has come and gone, where it is noted
abbrev pub noting : Setting → (Traffic Element → Traffic Element) → State → State
noting setting change state = with_traffic (cond setting.is_noted (change state.traffic) state.traffic) state

-- memory with one word changed
abbrev pub changed : (ℕ → ℕ → ℕ) → ℕ → ℕ → ℕ → ℕ → ℕ → ℕ
changed memory variable index word variable' index' = cond (variable == variable' && index == index') word (memory variable' index')

-- the word of an element that is not loose
abbrev pub kept_word : Variable → ℕ → State → Outcome ℕ
kept_word x index state = GoesOn (state.memory x.token index) state

-- a loose word where there is one; else the run is starved
abbrev pub loosely : Option ℕ → State → Outcome ℕ
loosely None state = EndsAs Starved state
loosely (Some word) state = GoesOn word (with_traffic (after_loose state.traffic) state)

abbrev pub element_of : Variable → ℕ → Element
element_of x index = record { variable = x.token; index = index }

-- the word of a loose element: that of the next entry, if it names this element
abbrev pub taken_word : Variable → ℕ → State → Outcome ℕ
taken_word x index state = loosely (loose_word is_same_element (element_of x index) state.traffic) state

-- the word of an element
abbrev pub reading : Setting → Variable → ℕ → State → Outcome ℕ
reading setting x index = choose (is_in setting.is_loose x.class) (taken_word x index) (kept_word x index)

-- an element gets a word; a write to a shared variable is noted
abbrev pub writing : Setting → Variable → ℕ → ℕ → State → State
writing setting x index word state = record state {
  memory = changed state.memory x.token index word;
  traffic = cond (setting.is_noted && is_in is_open x.class) (after_write (element_of x index) word state.traffic) state.traffic;
}

-- the index has to be below the length
abbrev pub within : (at length index : ℕ) → State → Outcome ℕ
within at length index = choose (nat_lt index length) (GoesOn index) (EndsAs (Index at))

-- the divisor of an operator that divides has to be other than zero
abbrev pub applied : (at : ℕ) → BinaryOp → ℕ → ℕ → State → Outcome ℕ
applied at op left right = choose (traps op right) (EndsAs (Divide at)) (GoesOn (binary op left right))

abbrev pub taking_input : State → Outcome ℕ
taking_input state = GoesOn (input_word state.traffic) (with_traffic (after_input state.traffic) state)

abbrev pub releasing : ℕ → State → State
releasing word state = with_traffic (after_release word state.traffic) state

-- a loop turn begins where one is left, for one unit of work
abbrev pub turn_from : Setting → (turns : ℕ) → State → Outcome ℕ
turn_from setting zero state = EndsAs Turns state
turn_from setting (suc left) state = GoesOn left (tick setting (record state { turns = left }))

abbrev pub begin_turn : Setting → State → Outcome ℕ
begin_turn setting state = turn_from setting state.turns state
