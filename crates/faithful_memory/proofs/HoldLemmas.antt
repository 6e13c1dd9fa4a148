-- A step after which something holds is a step over accesses after which it holds, where it held before each of them.
use Rattle.std.proofs.Common.{ℕ, Option, Some, None, Result, Ok, Err, subst}
use Rattle.orbis_word.specs.declared.Instr.{Instr}
use Rattle.orbis_word.specs.Reading.{instruction_in}
use Rattle.orbis_core.specs.declared.effect.Effect.{Effect}
use Rattle.orbis_core.specs.declared.effect.Effect.TheVariants.{Proceed, Write, Compare, Jump, Link, LoadWord, LoadByte, StoreWord, StoreByte, DivideByZero, Secure}
use Rattle.orbis_core.specs.declared.memory.Stop.{Stop}
use Rattle.orbis_core.specs.declared.port.Port.{Port}
use Rattle.orbis_core.specs.declared.stepping.StepEnd.{StepEnd}
use Rattle.orbis_core.specs.Accesses.{Accesses}
use Rattle.orbis_core.specs.Effects.{effect_of}
use Rattle.orbis_core.specs.Processor.{Processor}
use Rattle.orbis_core.specs.Rows.{Machine, Carries, Executes, GoesOnAfter, Leaves}
use Rattle.faithful_memory.specs.AskedOnBus.{HeldBefore, StepsHold, after_which}

module _ {M : Type 0} (accesses : Accesses M) (Holds : M → Type 0) (before : HeldBefore accesses Holds) (new : Machine M) (ended : StepEnd) (holds : Holds new.memory) where
  -- nothing is accessed
  leaves : (old : Machine M) (end : StepEnd) (core : Processor) (port : Port) → Leaves end core port old ended new → Leaves end core port old ended new × Holds old.memory
  leaves old end core port left = (left, subst Holds left.memory holds)

  effects : (old : Machine M) (asked : Effect) → Carries accesses asked old ended new → Carries (after_which Holds accesses) asked old ended new × Holds old.memory
  effects old (LoadWord d at) row = (
    record { answer = row.answer; loaded = (row.loaded, holds); ends = row.ends; core = row.core; port = row.port },
    before.load_word old.memory new.memory at row.answer row.loaded holds,
  )
  effects old (LoadByte d at) row = (
    record { answer = row.answer; loaded = (row.loaded, holds); ends = row.ends; core = row.core; port = row.port },
    before.load_byte old.memory new.memory at row.answer row.loaded holds,
  )
  effects old (StoreWord at word) row = (
    record { answer = row.answer; stored = (row.stored, holds); ends = row.ends; core = row.core; port = row.port },
    before.store_word old.memory new.memory at word row.answer row.stored holds,
  )
  effects old (StoreByte at byte) row = (
    record { answer = row.answer; stored = (row.stored, holds); ends = row.ends; core = row.core; port = row.port },
    before.store_byte old.memory new.memory at byte row.answer row.stored holds,
  )
  effects old Proceed row = leaves old _ _ _ row
  effects old (Write d value) row = leaves old _ _ _ row
  effects old (Compare flag) row = leaves old _ _ _ row
  effects old (Jump target) row = leaves old _ _ _ row
  effects old (Link target) row = leaves old _ _ _ row
  effects old DivideByZero row = leaves old _ _ _ row
  effects old (Secure f) row = leaves old _ _ _ row

  executes : (old : Machine M) (found : Option Instr) → Executes accesses found old ended new → Executes (after_which Holds accesses) found old ended new × Holds old.memory
  executes old None row = leaves old _ _ _ row
  executes old (Some instruction) row = effects old (effect_of instruction old.core) row

  goes-on : (old : Machine M) (answer : Result ℕ Stop) → GoesOnAfter accesses answer old ended new → GoesOnAfter (after_which Holds accesses) answer old ended new × Holds old.memory
  goes-on old (Err stop) row = leaves old _ _ _ row
  goes-on old (Ok word) row = executes old (instruction_in word) row

pub steps-hold : {M : Type 0} (accesses : Accesses M) (Holds : M → Type 0) → HeldBefore accesses Holds → StepsHold accesses Holds
steps-hold accesses Holds before old new ended step holds =
    let rest = goes-on accesses Holds before new ended holds (record old { memory = step.middle }) step.answer step.goes_on in
    record { answer = step.answer; middle = step.middle; fetched = (step.fetched, rest.1); goes_on = rest.0 }
