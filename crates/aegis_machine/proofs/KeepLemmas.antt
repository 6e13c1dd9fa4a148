-- A step keeps what each access of its memory keeps.
use Rattle.std.proofs.Common.{◌≡◌, ℕ, ◌+◌, Bool, true, false, Result, Ok, Err, Option, Some, None, nat_lt, length, refl, sym, ap, ◌∙◌, subst}
use Rattle.std.specs.Prelude.{if◌then◌else◌}
use Rattle.regions.specs.Modes.{SecureInstruction, Enter, Exit, IndexTrap, DivideTrap, Suspend, Resume, PrivateOn, PrivateOff, Release, Input, Check}
use Rattle.orbis_word.specs.declared.Instr.{Instr}
use Rattle.orbis_word.specs.Reading.{instruction_in}
use Rattle.orbis_core.specs.declared.Effect.{Effect}
use Rattle.orbis_core.specs.declared.Effect.TheVariants as effect
use Rattle.orbis_core.specs.declared.Port.{Port}
use Rattle.orbis_core.specs.declared.StepEnd.{StepEnd}
use Rattle.orbis_core.specs.declared.Stop.{Stop}
use Rattle.orbis_core.specs.Accesses.{Accesses}
use Rattle.orbis_core.specs.Effects.{effect_of}
use Rattle.orbis_core.specs.Secure.{secure_of, secure_port}
use Rattle.orbis_core.specs.Rows.{Carries, Executes, GoesOnAfter, Machine, Steps}
use Rattle.aegis_machine.specs.Keeping.{KeepEach}

module _ {M : Type 0} (accesses : Accesses M) (Keeps : M → M → Type 0) (itself : (a : M) → Keeps a a) (both : (a b c : M) → Keeps a b → Keeps b c → Keeps a c)
    (each : KeepEach accesses Keeps) (old new : Machine M) (ended : StepEnd) where
  same-keeps : (a b : M) → b ≡ a → Keeps a b
  same-keeps a b same = let P : M → Type 0 = λ m. Keeps a m in subst P (sym same) (itself a)

  row-keeps : (middle : M) (asked : Effect) → Carries accesses asked (record old { memory = middle }) ended new → Keeps middle new.memory
  row-keeps middle (effect.LoadWord d at) row = each.load_word middle new.memory at row.answer row.loaded
  row-keeps middle (effect.LoadByte d at) row = each.load_byte middle new.memory at row.answer row.loaded
  row-keeps middle (effect.StoreWord at value) row = each.store_word middle new.memory at value row.answer row.stored
  row-keeps middle (effect.StoreByte at byte) row = each.store_byte middle new.memory at byte row.answer row.stored
  row-keeps middle effect.Proceed row = same-keeps middle new.memory row.memory
  row-keeps middle (effect.Write d value) row = same-keeps middle new.memory row.memory
  row-keeps middle (effect.Compare flag) row = same-keeps middle new.memory row.memory
  row-keeps middle (effect.Jump target) row = same-keeps middle new.memory row.memory
  row-keeps middle (effect.Link target) row = same-keeps middle new.memory row.memory
  row-keeps middle effect.DivideByZero row = same-keeps middle new.memory row.memory
  row-keeps middle (effect.Secure f) row = same-keeps middle new.memory row.memory

  word-keeps : (middle : M) (found : Option Instr) → Executes accesses found (record old { memory = middle }) ended new → Keeps middle new.memory
  word-keeps middle None row = same-keeps middle new.memory row.memory
  word-keeps middle (Some instruction) row = row-keeps middle (effect_of instruction old.core) row

  answer-keeps : (middle : M) (answer : Result ℕ Stop) → GoesOnAfter accesses answer (record old { memory = middle }) ended new → Keeps middle new.memory
  answer-keeps middle (Ok word) row = word-keeps middle (instruction_in word) row
  answer-keeps middle (Err reason) row = same-keeps middle new.memory row.memory

  pub steps-keep : Steps accesses old ended new → Keeps old.memory new.memory
  steps-keep step =
      both old.memory step.middle new.memory (each.fetch old.memory step.middle old.core.pc step.answer step.fetched) (answer-keeps step.middle step.answer step.goes_on)

-- ---- the input stays

read-input : (port : Port) (b : Bool) → (if b then record port { next = port.next + 1 } else port).input ≡ port.input
read-input port true = refl
read-input port false = refl

secure-input : (s : SecureInstruction) (port : Port) → (secure_port s port).input ≡ port.input
secure-input Input port = read-input port (nat_lt port.next (length port.input.now))
secure-input Enter port = refl
secure-input Exit port = refl
secure-input Suspend port = refl
secure-input Resume port = refl
secure-input PrivateOn port = refl
secure-input PrivateOff port = refl
secure-input Release port = refl
secure-input Check port = refl
secure-input IndexTrap port = refl
secure-input DivideTrap port = refl

module _ {M : Type 0} (accesses : Accesses M) (old new : Machine M) (ended : StepEnd) where
  abbrev Stays : Type 0
  Stays = new.port.input ≡ old.port.input

  row-input : (middle : M) (asked : Effect) → Carries accesses asked (record old { memory = middle }) ended new → Stays
  row-input middle (effect.Secure f) row = ap (λ (p : Port). p.input) row.port ∙ secure-input (secure_of f) old.port
  row-input middle (effect.LoadWord d at) row = ap (λ (p : Port). p.input) row.port
  row-input middle (effect.LoadByte d at) row = ap (λ (p : Port). p.input) row.port
  row-input middle (effect.StoreWord at value) row = ap (λ (p : Port). p.input) row.port
  row-input middle (effect.StoreByte at byte) row = ap (λ (p : Port). p.input) row.port
  row-input middle effect.Proceed row = ap (λ (p : Port). p.input) row.port
  row-input middle (effect.Write d value) row = ap (λ (p : Port). p.input) row.port
  row-input middle (effect.Compare flag) row = ap (λ (p : Port). p.input) row.port
  row-input middle (effect.Jump target) row = ap (λ (p : Port). p.input) row.port
  row-input middle (effect.Link target) row = ap (λ (p : Port). p.input) row.port
  row-input middle effect.DivideByZero row = ap (λ (p : Port). p.input) row.port

  word-input : (middle : M) (found : Option Instr) → Executes accesses found (record old { memory = middle }) ended new → Stays
  word-input middle None row = ap (λ (p : Port). p.input) row.port
  word-input middle (Some instruction) row = row-input middle (effect_of instruction old.core) row

  answer-input : (middle : M) (answer : Result ℕ Stop) → GoesOnAfter accesses answer (record old { memory = middle }) ended new → Stays
  answer-input middle (Ok word) row = word-input middle (instruction_in word) row
  answer-input middle (Err reason) row = ap (λ (p : Port). p.input) row.port

  pub steps-input : Steps accesses old ended new → Stays
  steps-input step = answer-input step.middle step.answer step.goes_on
