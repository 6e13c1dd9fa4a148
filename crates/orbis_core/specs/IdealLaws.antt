-- Promise: what holds of each step and of each run of the ideal machine.
use Rattle.std.specs.Prelude.{◌≡◌, ℕ, ◌+◌, ◌*◌, ◌^◌, ◌<◌, IsTrue, Bool, List, length, Some, None, IfSome}
use Rattle.std.specs.List.{AllByRecursion}
use Rattle.execution.specs.Run.{Stops, and_then, run, state_of}
use Rattle.execution.specs.Traffic.{Entry, Traffic, Extends}
use Rattle.orbis_word.specs.declared.Instr.{Instr}
use Rattle.regions.specs.declared.Layout.{Layout}
use Rattle.regions.specs.declared.Class.{Class}
use Rattle.regions.specs.declared.Class.TheVariants.{Code}
use Rattle.regions.specs.declared.Access.TheVariants.{Fetch}
use Rattle.regions.specs.Addresses.{class_at}
use Rattle.regions.specs.Modes.{is_secure}
use Rattle.orbis_core.specs.ByteOrder.{word_start}
use Rattle.orbis_core.specs.Effects.{effect_of}
use Rattle.orbis_core.specs.Ideal.{Ideal, IdealEnd, Outside, carried, ideal_run, ideal_step, instruction_at, machine_step}
use Rattle.orbis_core.specs.Processor.{register}
use Rattle.orbis_core.specs.Refusals.{word_refusal}

-- ---- runs

-- the state after m + n steps is the one after n steps from the one after m
abbrev pub IdealRunsJoin : Type 0
IdealRunsJoin =
    (layout : Layout) (outside : Outside) (m n : ℕ) (state : Ideal) →
    run (machine_step layout outside) (m + n) state ≡ and_then (run (machine_step layout outside) m state) (run (machine_step layout outside) n)

-- after an end more steps change nothing
abbrev pub IdealEndsStay : Type 0
IdealEndsStay =
    (layout : Layout) (outside : Outside) (steps more : ℕ) (state at : Ideal) (end : IdealEnd) →
    run (machine_step layout outside) steps state ≡ Stops end at → run (machine_step layout outside) (steps + more) state ≡ Stops end at

-- more steps only add to what has gone out, and take from the front of what is to come in
abbrev pub IdealRunsExtend : Type 0
IdealRunsExtend =
    (layout : Layout) (loose : Class → Bool) (steps more : ℕ) (state : Ideal) →
    Extends (state_of (run (ideal_step layout loose) steps state)).traffic (state_of (run (ideal_step layout loose) (steps + more) state)).traffic

-- ---- steps

-- a step whose fetch is not refused does what the instruction there asks for
abbrev pub StepIsCarried : Type 0
StepIsCarried =
    (layout : Layout) (outside : Outside) (state : Ideal) (instruction : Instr) → word_refusal layout state.mode Fetch state.core.pc ≡ None →
    instruction_at state ≡ Some instruction → machine_step layout outside state ≡ carried layout outside (effect_of instruction state.core) state

-- no step changes a word of the code, in any mode
abbrev pub CodeStays : Type 0
CodeStays =
    (layout : Layout) (outside : Outside) (state : Ideal) (at : ℕ) → class_at layout at ≡ Some Code →
    (state_of (machine_step layout outside state)).memory at ≡ state.memory at

-- the secure program fetches code alone
abbrev pub CodeIsFetched : Type 0
CodeIsFetched = (layout : Layout) (state : Ideal) → IsTrue (is_secure state.mode) → word_refusal layout state.mode Fetch state.core.pc ≡ None → class_at layout state.core.pc ≡ Some Code

-- and stays in a secure mode
abbrev pub ModeStaysSecure : Type 0
ModeStaysSecure = (layout : Layout) (outside : Outside) (state : Ideal) → IsTrue (is_secure state.mode) → IsTrue (is_secure (state_of (machine_step layout outside state)).mode)

-- an address has the class of the word that it lies in
abbrev pub ClassIsOfWord : Type 0
ClassIsOfWord = (layout : Layout) (at : ℕ) → class_at layout (word_start at) ≡ class_at layout at

-- ---- states

-- there are 32 registers, of which register 0 is zero, and the registers, the program counter and the words are below 2 ^ 32
pub record IsWholeState (state : Ideal) : Type 0 where
  pub registers : length state.core.registers ≡ 32
  pub zero : register state.core 0 ≡ 0
  pub small : (n : ℕ) → register state.core n < 2 ^ 32
  pub pc : state.core.pc < 2 ^ 32
  pub words : (at : ℕ) → state.memory at < 2 ^ 32

-- what comes from outside is a word
pub record GivesWords (outside : Outside) : Type 0 where
  pub word : (at : ℕ) (traffic : Traffic ℕ) → IfSome (outside.word at traffic) (λ word. word < 2 ^ 32)
  pub byte : (at : ℕ) (traffic : Traffic ℕ) → IfSome (outside.byte at traffic) (λ byte. byte < 2 ^ 32)

-- each step keeps that
abbrev pub StepsKeepWhole : Type 0
StepsKeepWhole = (layout : Layout) (outside : Outside) (state : Ideal) → GivesWords outside → IsWholeState state → IsWholeState (state_of (machine_step layout outside state))

-- so that each state of a run on bytes is so
abbrev pub StatesAreWhole : Type 0
StatesAreWhole =
    (layout : Layout) (loose : Class → Bool) (statics : List ℕ) (entry : ℕ) (input : List ℕ) (words : List (Entry ℕ)) (steps : ℕ) →
    AllByRecursion (λ byte. byte < 2 ^ 8) statics → entry < 16 * layout.code → IsWholeState (state_of (ideal_run layout loose statics entry input words steps))
