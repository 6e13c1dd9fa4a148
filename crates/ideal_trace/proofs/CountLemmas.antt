-- The counts of a machine are those of its steps.
use Rattle.std.proofs.Common.{◌≡◌, ℕ, zero, suc, ◌+◌, ◌≤◌, Bool, true, false, cond, if◌then◌else◌, List, ◌++◌, Option, Some, None, option_and_then, option_map, refl, sym, ap, ◌∙◌, subst, arith}
use Rattle.execution.specs.Run.{Next, Goes, Stops, and_then, run, state_of}
use Rattle.execution.specs.Traffic.{Entry, Traffic, after_write}
use Rattle.orbis_word.specs.declared.Instr.{Instr}
use Rattle.regions.specs.declared.Layout.{Layout}
use Rattle.regions.specs.declared.Class.{Class}
use Rattle.regions.specs.declared.Access.TheVariants.{Read, Write, Fetch}
use Rattle.regions.specs.LooseClasses.{shared_loose}
use Rattle.regions.specs.Modes.{SecureInstruction, Enter, Exit, IndexTrap, DivideTrap, Suspend, Resume, PrivateOn, PrivateOff, Release, Input, Check, allowed_in}
use Rattle.off_chip.specs.Histories.{History, in_order}
use Rattle.off_chip.specs.Boundaries.{retired}
use Rattle.off_chip.specs.ExchangedWords.{words_read}
use Rattle.orbis_core.specs.declared.Effect.{Effect}
use Rattle.orbis_core.specs.declared.Effect.TheVariants as effect
use Rattle.orbis_core.specs.declared.Why.{Why}
use Rattle.orbis_core.specs.declared.Why.TheVariants as why
use Rattle.orbis_core.specs.ByteOrder.{byte_in, with_byte, word_start}
use Rattle.orbis_core.specs.Effects.{effect_of}
use Rattle.orbis_core.specs.Ideal.{Ideal, IdealEnd, Outside, Refused, carried, executed, from_entries, ideal_start, ideal_step, instruction_at, is_among, loaded, machine_step, memory_stored, secure_at, secure_by, secured, stores, taken, traffic_stored, unless}
use Rattle.orbis_core.specs.Processor.{Processor, advanced}
use Rattle.orbis_core.specs.Refusals.{word_refusal, byte_refusal}
use Rattle.orbis_core.specs.Secure.{secure_of}
use Rattle.bus_machine.specs.BusMachine.{LoadedProgram}
use Rattle.ideal_trace.specs.IdealRuns.{IsIdealAt}
use Rattle.ideal_trace.specs.Counts.{CountsAreOfSteps, checks_of, from_there, is_checked, is_suspension, steps_that}
use Rattle.ideal_trace.proofs.RefusalLemmas.{none-unrefused, refusal-stops, refusal_of}
use Rattle.ideal_trace.proofs.StepLemmas.{IsUnrefused}

-- the instructions that asked for a suspension, where a machine has come to
abbrev suspensions_of : Next Ideal IdealEnd → ℕ
suspensions_of next = (state_of next).traffic.suspensions

-- a step counts one instruction that passes the test, and no other
module _ (layout : Layout) (outside : Outside) (state : Ideal) where
  abbrev Counts : Option SecureInstruction → Next Ideal IdealEnd → Type 0
  Counts asked next =
      (checks_of next ≡ checks_of (Goes state) + cond (is_checked asked) 1 0) × (suspensions_of next ≡ suspensions_of (Goes state) + cond (is_suspension asked) 1 0)

  -- the store of a value, by what it notes
  stored-counts : (core : Processor) (memory : ℕ → ℕ) (traffic : Traffic ℕ) → traffic.releases + traffic.checks ≡ state.traffic.releases + state.traffic.checks
      → traffic.suspensions ≡ state.traffic.suspensions → Counts None (Goes (record state { core = core; memory = memory; traffic = traffic }))
  stored-counts core memory traffic same also = (omega (arith, same), omega (arith, also))

  unless-counts : (asked : Option SecureInstruction) (r : Option Why) (next : Next Ideal IdealEnd) → IsUnrefused (unless r state next) → (IsUnrefused next → Counts asked next) → Counts asked (unless r state next)
  unless-counts asked None next un later = later un
  unless-counts asked (Some reason) next un later = absurd un

  load-counts : (b : Bool) (d word : ℕ) (came : Option ℕ) → Counts None (if b then taken d came state else loaded d word state)
  load-counts true d word None = (omega arith, omega arith)
  load-counts true d word (Some came) = (omega arith, omega arith)
  load-counts false d word came = (omega arith, omega arith)

  store-counts : (b : Bool) (at value : ℕ)
      → ((if b then after_write at value state.traffic else state.traffic).releases + (if b then after_write at value state.traffic else state.traffic).checks ≡ state.traffic.releases + state.traffic.checks)
      × ((if b then after_write at value state.traffic else state.traffic).suspensions ≡ state.traffic.suspensions)
  store-counts true at value = (refl, refl)
  store-counts false at value = (refl, refl)

  stores-counts : (at value word : ℕ) → Counts None (stores layout outside.is_loose at value word state)
  stores-counts at value word =
      let both = store-counts (is_among shared_loose layout at) at value in
      stored-counts (advanced state.core) (memory_stored layout outside.is_loose at word state.memory) (traffic_stored layout at value state.traffic) both.0 both.1

  secured-counts : (asked : SecureInstruction) → Counts (Some asked) (secured asked state)
  secured-counts Enter = (omega arith, omega arith)
  secured-counts Exit = (omega arith, omega arith)
  secured-counts IndexTrap = (omega arith, omega arith)
  secured-counts DivideTrap = (omega arith, omega arith)
  secured-counts Suspend = (omega arith, omega arith)
  secured-counts Resume = (omega arith, omega arith)
  secured-counts PrivateOn = (omega arith, omega arith)
  secured-counts PrivateOff = (omega arith, omega arith)
  secured-counts Release = (omega arith, omega arith)
  secured-counts Input = (omega arith, omega arith)
  secured-counts Check = (omega arith, omega arith)

  tested-counts : (allowed : Bool) (asked : SecureInstruction) → IsUnrefused (if allowed then secured asked state else Stops (Refused why.Mode) state)
      → Counts (Some asked) (if allowed then secured asked state else Stops (Refused why.Mode) state)
  tested-counts true asked un = secured-counts asked
  tested-counts false asked un = absurd un

  carried-counts : (asked : Effect) → IsUnrefused (carried layout outside asked state) → Counts (secure_by asked) (carried layout outside asked state)
  carried-counts (effect.LoadWord d at) un =
      unless-counts None (word_refusal layout state.mode Read at) _ un (λ _. load-counts (is_among outside.is_loose layout at) d (state.memory at) (outside.word at state.traffic))
  carried-counts (effect.LoadByte d at) un =
      unless-counts None (byte_refusal layout state.mode Read at) _ un
      (λ _. load-counts (is_among outside.is_loose layout at) d (byte_in (state.memory (word_start at)) at) (outside.byte at state.traffic))
  carried-counts (effect.StoreWord at word) un =
      unless-counts None (word_refusal layout state.mode Write at) _ un (λ _. stores-counts at word word)
  carried-counts (effect.StoreByte at byte) un =
      unless-counts None (byte_refusal layout state.mode Write at) _ un (λ _. stores-counts at byte (with_byte (state.memory (word_start at)) at byte))
  carried-counts (effect.Secure f) un = tested-counts (allowed_in (secure_of f) state.mode) (secure_of f) un
  carried-counts effect.DivideByZero un = absurd un
  carried-counts effect.Proceed un = (omega arith, omega arith)
  carried-counts (effect.Write d value) un = (omega arith, omega arith)
  carried-counts (effect.Compare flag) un = (omega arith, omega arith)
  carried-counts (effect.Jump target) un = (omega arith, omega arith)
  carried-counts (effect.Link target) un = (omega arith, omega arith)

  executed-counts : (found : Option Instr) → IsUnrefused (executed layout outside found state) → Counts (option_and_then secure_by (option_map (λ instruction. effect_of instruction state.core) found)) (executed layout outside found state)
  executed-counts None un = absurd un
  executed-counts (Some instruction) un = carried-counts (effect_of instruction state.core) un

  step-counts : IsUnrefused (machine_step layout outside state) → Counts (secure_at state) (machine_step layout outside state)
  step-counts un = unless-counts (secure_at state) (word_refusal layout state.mode Fetch state.core.pc) _ un (λ later. executed-counts (instruction_at state) later)

-- ---- runs

module _ (layout : Layout) (loose : Class → Bool) where
  abbrev step : Ideal → Next Ideal IdealEnd
  step = ideal_step layout loose

  run-counts : (steps : ℕ) (state : Ideal) → IsUnrefused (run step steps state)
      → (checks_of (run step steps state) ≡ checks_of (Goes state) + steps_that is_checked step steps state)
      × (suspensions_of (run step steps state) ≡ suspensions_of (Goes state) + steps_that is_suspension step steps state)
  run-counts zero state un = (omega arith, omega arith)
  run-counts (suc steps) state un = by (step state) refl un (run-counts steps)
    where
      by : (next : Next Ideal IdealEnd) → step state ≡ next → IsUnrefused (and_then next (run step steps))
          → ((s : Ideal) → IsUnrefused (run step steps s)
          → (checks_of (run step steps s) ≡ checks_of (Goes s) + steps_that is_checked step steps s)
          × (suspensions_of (run step steps s) ≡ suspensions_of (Goes s) + steps_that is_suspension step steps s))
          → (checks_of (and_then next (run step steps)) ≡ checks_of (Goes state) + (cond (is_checked (secure_at state)) 1 0 + from_there (steps_that is_checked step steps) next))
          × (suspensions_of (and_then next (run step steps)) ≡ suspensions_of (Goes state) + (cond (is_suspension (secure_at state)) 1 0 + from_there (steps_that is_suspension step steps) next))
      by (Goes s) is un ih =
          let here = subst (λ (n : Next Ideal IdealEnd). IsUnrefused n → Counts layout (from_entries loose) state (secure_at state) n) is (step-counts layout (from_entries loose) state) tt in
          let later = ih s un in
          let checks : checks_of (Goes s) ≡ checks_of (Goes state) + cond (is_checked (secure_at state)) 1 0 = here.0 in
          let suspensions : s.traffic.suspensions ≡ state.traffic.suspensions + cond (is_suspension (secure_at state)) 1 0 = here.1 in (
            later.0 ∙ sum (checks_of (Goes s)) (checks_of (Goes state)) (cond (is_checked (secure_at state)) 1 0) (steps_that is_checked step steps s) checks,
            later.1 ∙ sum s.traffic.suspensions state.traffic.suspensions (cond (is_suspension (secure_at state)) 1 0) (steps_that is_suspension step steps s) suspensions,
          )
        where
          sum : (now before here later : ℕ) → now ≡ before + here → now + later ≡ before + (here + later)
          sum now before here later same = omega (arith, same)
      by (Stops end s) is un ih =
          let here = subst (λ (n : Next Ideal IdealEnd). IsUnrefused n → Counts layout (from_entries loose) state (secure_at state) n) is (step-counts layout (from_entries loose) state) un in (
            here.0 ∙ nothing-later (checks_of (Goes state)) (cond (is_checked (secure_at state)) 1 0),
            here.1 ∙ nothing-later state.traffic.suspensions (cond (is_suspension (secure_at state)) 1 0),
          )
        where
          nothing-later : (before here : ℕ) → before + here ≡ before + (here + 0)
          nothing-later before here = omega arith

  unrefused-run : (steps : ℕ) (state : Ideal) → ((reason : Why) (at : Ideal) → run step steps state ≡ Stops (Refused reason) at → ⊥) → IsUnrefused (run step steps state)
  unrefused-run steps state never = by (refusal_of (run step steps state)) refl
    where
      by : (o : Option Why) → refusal_of (run step steps state) ≡ o → IsUnrefused (run step steps state)
      by None none = none-unrefused (run step steps state) none
      by (Some reason) some = let at = refusal-stops (run step steps state) reason some in absurd (never reason at.0 at.1)

abbrev start : LoadedProgram → List (Entry ℕ) → Ideal
start program words = ideal_start program.layout program.statics program.entry program.input words

at-ideal : (program : LoadedProgram) (older : History) (state : Ideal) (more : List (Entry ℕ)) → IsIdealAt program older state
    → (steps_that is_checked (ideal_step program.layout shared_loose) (retired (in_order older)) (start program (words_read (in_order older) ++ more)) ≡ state.traffic.releases + state.traffic.checks)
    × (steps_that is_suspension (ideal_step program.layout shared_loose) (retired (in_order older)) (start program (words_read (in_order older) ++ more)) ≡ state.traffic.suspensions)
at-ideal program older state more at =
    let from : Ideal = start program (words_read (in_order older) ++ more) in
    let un : IsUnrefused (run (ideal_step program.layout shared_loose) (retired (in_order older)) from) = subst IsUnrefused (sym (at.stands more)) tt in
    let both = run-counts program.layout shared_loose (retired (in_order older)) from un in
    let traffic : at.ideal.traffic ≡ state.traffic = ap (λ (o : Ideal). o.traffic) at.same.is in (
      none-before _ _ (sym both.0 ∙ ap checks_of (at.stands more)) ∙ ap (λ (t : Traffic ℕ). t.releases + t.checks) traffic,
      none-before _ _ (sym both.1 ∙ ap suspensions_of (at.stands more)) ∙ ap (λ (t : Traffic ℕ). t.suspensions) traffic,
    )
  where
    none-before : (n count : ℕ) → 0 + n ≡ count → n ≡ count
    none-before n count same = omega (arith, same)

count-grows : (test : Option SecureInstruction → Bool) (go : Ideal → Next Ideal IdealEnd) (steps more : ℕ) (state : Ideal) → steps_that test go steps state ≤ steps_that test go (steps + more) state
count-grows test go zero more state = omega arith
count-grows test go (suc steps) more state =
    let e : suc steps + more ≡ suc (steps + more) = omega arith in
    subst (λ (n : ℕ). steps_that test go (suc steps) state ≤ steps_that test go n state) (sym e) (by (go state) (count-grows test go steps more))
  where
    add : (here fewer later : ℕ) → fewer ≤ later → here + fewer ≤ here + later
    add here fewer later below = omega (arith, below)

    by : (next : Next Ideal IdealEnd) → ((s : Ideal) → steps_that test go steps s ≤ steps_that test go (steps + more) s)
        → cond (test (secure_at state)) 1 0 + from_there (steps_that test go steps) next ≤ cond (test (secure_at state)) 1 0 + from_there (steps_that test go (steps + more)) next
    by (Goes s) ih = add (cond (test (secure_at state)) 1 0) (steps_that test go steps s) (steps_that test go (steps + more) s) (ih s)
    by (Stops end s) ih = add (cond (test (secure_at state)) 1 0) 0 0 (omega arith)

pub counts-of-steps : CountsAreOfSteps
counts-of-steps = record {
  checks = λ layout loose steps state never. (run-counts layout loose steps state (unrefused-run layout loose steps state never)).0;
  suspensions = λ layout loose steps state never. (run-counts layout loose steps state (unrefused-run layout loose steps state never)).1;
  grow = count-grows;
  at_boundary = λ program older state more at. at-ideal program older state more at;
}
