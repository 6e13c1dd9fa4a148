-- What a step releases is a byte.
use Rattle.std.proofs.Common.{◌≡◌, ℕ, ◌%◌, ◌^◌, ◌<◌, Option, Some, None, Result, Ok, Err, refl, sym, ◌∙◌, arith}
use Rattle.orbis_word.specs.declared.Instr.{Instr}
use Rattle.orbis_word.specs.Reading.{instruction_in}
use Rattle.regions.specs.Modes.{SecureInstruction, Enter, Exit, IndexTrap, DivideTrap, Suspend, Resume, PrivateOn, PrivateOff, Release, Input, Check}
use Rattle.orbis_core.specs.declared.Effect.{Effect}
use Rattle.orbis_core.specs.declared.Effect.TheVariants.{Proceed, Write, Compare, Jump, Link, LoadWord, LoadByte, StoreWord, StoreByte, DivideByZero, Secure}
use Rattle.orbis_core.specs.declared.Stop.{Stop}
use Rattle.orbis_core.specs.declared.StepEnd.{StepEnd}
use Rattle.orbis_core.specs.declared.StepEnd.TheVariants.{Released}
use Rattle.orbis_core.specs.Accesses.{Accesses}
use Rattle.orbis_core.specs.Effects.{effect_of}
use Rattle.orbis_core.specs.Processor.{Processor, register}
use Rattle.orbis_core.specs.Rows.{Machine, Carries, Executes, GoesOnAfter, Steps, end_after}
use Rattle.orbis_core.specs.Secure.{secure_end, secure_of}

secure-small : (asked : SecureInstruction) (core : Processor) (byte : ℕ) → secure_end asked core ≡ Released byte → byte < 2 ^ 8
secure-small Release core byte is = let same : register core 3 % 2 ^ 8 ≡ byte = cc in omega arith
secure-small Enter core byte is = absurd (cc)
secure-small Exit core byte is = absurd (cc)
secure-small IndexTrap core byte is = absurd (cc)
secure-small DivideTrap core byte is = absurd (cc)
secure-small Suspend core byte is = absurd (cc)
secure-small Resume core byte is = absurd (cc)
secure-small PrivateOn core byte is = absurd (cc)
secure-small PrivateOff core byte is = absurd (cc)
secure-small Input core byte is = absurd (cc)
secure-small Check core byte is = absurd (cc)

no-release : {T : Type 0} (answer : Result T Stop) (byte : ℕ) → end_after answer ≡ Released byte → ⊥
no-release (Ok value) byte is = absurd (cc)
no-release (Err stop) byte is = absurd (cc)

module _ {M : Type 0} (accesses : Accesses M) where
  carried-small : (effect : Effect) (old new : Machine M) (end : StepEnd) (byte : ℕ) → Carries accesses effect old end new → end ≡ Released byte → byte < 2 ^ 8
  carried-small (LoadWord d at) old new end byte row is = absurd (no-release row.answer byte (sym row.ends ∙ is))
  carried-small (LoadByte d at) old new end byte row is = absurd (no-release row.answer byte (sym row.ends ∙ is))
  carried-small (StoreWord at word) old new end byte row is = absurd (no-release row.answer byte (sym row.ends ∙ is))
  carried-small (StoreByte at value) old new end byte row is = absurd (no-release row.answer byte (sym row.ends ∙ is))
  carried-small (Secure f) old new end byte row is = secure-small (secure_of f) old.core byte (sym row.ends ∙ is)
  carried-small DivideByZero old new end byte row is = let wrong = sym row.ends ∙ is in absurd (cc)
  carried-small Proceed old new end byte row is = let wrong = sym row.ends ∙ is in absurd (cc)
  carried-small (Write d value) old new end byte row is = let wrong = sym row.ends ∙ is in absurd (cc)
  carried-small (Compare flag) old new end byte row is = let wrong = sym row.ends ∙ is in absurd (cc)
  carried-small (Jump to) old new end byte row is = let wrong = sym row.ends ∙ is in absurd (cc)
  carried-small (Link to) old new end byte row is = let wrong = sym row.ends ∙ is in absurd (cc)

  executed-small : (found : Option Instr) (old new : Machine M) (end : StepEnd) (byte : ℕ) → Executes accesses found old end new → end ≡ Released byte → byte < 2 ^ 8
  executed-small None old new end byte row is = let wrong = sym row.ends ∙ is in absurd (cc)
  executed-small (Some instruction) old new end byte row is = carried-small (effect_of instruction old.core) old new end byte row is

  went-on-small : (answer : Result ℕ Stop) (old new : Machine M) (end : StepEnd) (byte : ℕ) → GoesOnAfter accesses answer old end new → end ≡ Released byte → byte < 2 ^ 8
  went-on-small (Ok word) old new end byte row is = executed-small (instruction_in word) old new end byte row is
  went-on-small (Err stop) old new end byte row is = let wrong = sym row.ends ∙ is in absurd (cc)

  pub released-small : (old new : Machine M) (byte : ℕ) → Steps accesses old (Released byte) new → byte < 2 ^ 8
  released-small old new byte step = went-on-small step.answer (record old { memory = step.middle }) new (Released byte) byte step.goes_on refl
