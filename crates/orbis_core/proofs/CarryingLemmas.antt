-- A step carries over where each call does.
use Rattle.std.proofs.Common.{ℕ, Option, Some, None, Result, Ok, Err, refl, sym, subst}
use Rattle.orbis_word.specs.declared.Instr.{Instr}
use Rattle.orbis_word.specs.Reading.{instruction_in}
use Rattle.orbis_core.specs.declared.effect.Effect.{Effect}
use Rattle.orbis_core.specs.declared.effect.Effect.TheVariants.{Proceed, Write, Compare, Jump, Link, LoadWord, LoadByte, StoreWord, StoreByte, DivideByZero, Secure}
use Rattle.orbis_core.specs.declared.memory.Stop.{Stop}
use Rattle.orbis_core.specs.declared.port.Port.{Port}
use Rattle.orbis_core.specs.declared.stepping.StepEnd.{StepEnd}
use Rattle.orbis_core.specs.Accesses.{Accesses}
use Rattle.orbis_core.specs.Carrying.{CarriedTo, CarriesOver, StepsCarry}
use Rattle.orbis_core.specs.Effects.{effect_of}
use Rattle.orbis_core.specs.Processor.{Processor}
use Rattle.orbis_core.specs.Rows.{Machine, Carries, Executes, GoesOnAfter, Leaves, over}

module _ {M N : Type 0} (from : Accesses M) (to : Accesses N) (related_to : M → N → Type 0) (carries : CarriesOver from to related_to) (new : Machine M) (ended : StepEnd) where
  -- nothing is accessed
  leaves : (old : Machine M) (other : N) (end : StepEnd) (core : Processor) (port : Port) → related_to old.memory other → Leaves end core port old ended new
      → CarriedTo related_to new.memory (λ (after : N). Leaves end core port (over other old) ended (over after new))
  leaves old other end core port related left = record {
    after = other;
    done = record { ends = left.ends; core = left.core; memory = refl; port = left.port };
    related = subst (λ (memory : M). related_to memory other) (sym left.memory) related;
  }

  effects : (old : Machine M) (other : N) (asked : Effect) → related_to old.memory other → Carries from asked old ended new
      → CarriedTo related_to new.memory (λ (after : N). Carries to asked (over other old) ended (over after new))
  effects old other (LoadWord d at) related row =
      let moved = carries.load_word old.memory new.memory at row.answer other related row.loaded in
      record {
        after = moved.after;
        done = record { answer = row.answer; loaded = moved.done; ends = row.ends; core = row.core; port = row.port };
        related = moved.related;
      }
  effects old other (LoadByte d at) related row =
      let moved = carries.load_byte old.memory new.memory at row.answer other related row.loaded in
      record {
        after = moved.after;
        done = record { answer = row.answer; loaded = moved.done; ends = row.ends; core = row.core; port = row.port };
        related = moved.related;
      }
  effects old other (StoreWord at word) related row =
      let moved = carries.store_word old.memory new.memory at word row.answer other related row.stored in
      record {
        after = moved.after;
        done = record { answer = row.answer; stored = moved.done; ends = row.ends; core = row.core; port = row.port };
        related = moved.related;
      }
  effects old other (StoreByte at byte) related row =
      let moved = carries.store_byte old.memory new.memory at byte row.answer other related row.stored in
      record {
        after = moved.after;
        done = record { answer = row.answer; stored = moved.done; ends = row.ends; core = row.core; port = row.port };
        related = moved.related;
      }
  effects old other Proceed related row = leaves old other _ _ _ related row
  effects old other (Write d value) related row = leaves old other _ _ _ related row
  effects old other (Compare flag) related row = leaves old other _ _ _ related row
  effects old other (Jump target) related row = leaves old other _ _ _ related row
  effects old other (Link target) related row = leaves old other _ _ _ related row
  effects old other DivideByZero related row = leaves old other _ _ _ related row
  effects old other (Secure f) related row = leaves old other _ _ _ related row

  executes : (old : Machine M) (other : N) (found : Option Instr) → related_to old.memory other → Executes from found old ended new
      → CarriedTo related_to new.memory (λ (after : N). Executes to found (over other old) ended (over after new))
  executes old other None related row = leaves old other _ _ _ related row
  executes old other (Some instruction) related row = effects old other (effect_of instruction old.core) related row

  goes-on : (old : Machine M) (other : N) (answer : Result ℕ Stop) → related_to old.memory other → GoesOnAfter from answer old ended new
      → CarriedTo related_to new.memory (λ (after : N). GoesOnAfter to answer (over other old) ended (over after new))
  goes-on old other (Err stop) related row = leaves old other _ _ _ related row
  goes-on old other (Ok word) related row = executes old other (instruction_in word) related row

pub steps-carry : {M N : Type 0} (from : Accesses M) (to : Accesses N) (related_to : M → N → Type 0) → CarriesOver from to related_to → StepsCarry from to related_to
steps-carry from to related_to carries old new ended other related step =
    let first = carries.fetch old.memory step.middle old.core.pc step.answer other related step.fetched in
    let second = goes-on from to related_to carries new ended (record old { memory = step.middle }) first.after step.answer first.related step.goes_on in
    record {
      after = second.after;
      done = record { answer = step.answer; middle = first.after; fetched = first.done; goes_on = second.done };
      related = second.related;
    }
