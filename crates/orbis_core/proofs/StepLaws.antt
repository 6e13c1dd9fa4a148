-- What follows for steps, for proofs here and in the crates above.
use Rattle.std.proofs.Common.{◌≡◌, ℕ, Option, Some, None, option_map, Result, Ok, ap, ◌∙◌, arith, subst}
use Rattle.orbis_word.specs.declared.Instr.{Instr}
use Rattle.orbis_word.specs.Table.{IsInRange, encoding}
use Rattle.orbis_word.proofs.WordLaws.{instruction_in-encoding}
use Rattle.orbis_core.specs.declared.memory.Stop.{Stop}
use Rattle.orbis_core.specs.declared.stepping.StepEnd.{StepEnd}
use Rattle.regions.specs.declared.Layout.{Layout}
use Rattle.regions.specs.declared.Access.TheVariants.{Fetch}
use Rattle.orbis_core.specs.declared.effect.Effect.{Effect}
use Rattle.orbis_core.specs.Accesses.{Accesses}
use Rattle.orbis_core.specs.Ideal.{Ideal, Outside, carried, effect_at, executed, instruction_at, machine_step, unless}
use Rattle.orbis_core.specs.Refusals.{word_refusal}
use Rattle.orbis_core.specs.Effects.{effect_of}
use Rattle.orbis_core.specs.Rows.{Machine, Carries, Executes, GoesOnAfter, Steps}

-- a step whose fetch answers the word of an instruction, and changes nothing, does what this instruction asks for
pub Carries-fetched : {M : Type 0} (accesses : Accesses M) (instruction : Instr) (old new : Machine M) (end : StepEnd) → IsInRange instruction
    → ((answer : Result ℕ Stop) (middle : M) → accesses.fetch old.memory old.core.pc answer middle → (answer ≡ Ok (encoding instruction)) × (middle ≡ old.memory))
    → Steps accesses old end new → Carries accesses (effect_of instruction old.core) old end new
Carries-fetched {M} accesses instruction old new end in_range fetches steps =
    let facts : (steps.answer ≡ Ok (encoding instruction)) × (steps.middle ≡ old.memory) = fetches steps.answer steps.middle steps.fetched in
    let P : Result ℕ Stop → Type 0 = λ answer. GoesOnAfter accesses answer (record old { memory = steps.middle }) end new in
    let Q : M → Type 0 = λ middle. GoesOnAfter accesses (Ok (encoding instruction)) (record old { memory = middle }) end new in
    let R : Option Instr → Type 0 = λ found. Executes accesses found old end new in
    subst R (instruction_in-encoding instruction in_range) (subst Q facts.1 (subst P facts.0 steps.goes_on))

some-is : (x y : Effect) → Some x ≡ Some y → x ≡ y
some-is x y same = cc

-- a step whose fetch is not refused does what its instruction asks for
pub step-effect : (layout : Layout) (outside : Outside) (state : Ideal) (asked : Effect) → word_refusal layout state.mode Fetch state.core.pc ≡ None → effect_at state ≡ Some asked
    → machine_step layout outside state ≡ carried layout outside asked state
step-effect layout outside state asked none is =
    ap (λ r. unless r state (executed layout outside (instruction_at state) state)) none ∙ go (instruction_at state) is
  where
    go : (found : Option Instr) → option_map (λ instruction. effect_of instruction state.core) found ≡ Some asked → executed layout outside found state ≡ carried layout outside asked state
    go None e = absurd (grind (arith, e))
    go (Some instruction) e = ap (λ (a : Effect). carried layout outside a state) (some-is (effect_of instruction state.core) asked e)
