-- A step over flat memory keeps its layout.
use Rattle.std.proofs.Common.{◌≡◌, ℕ, Option, Some, None, Result, Ok, Err, ◌∙◌, ap}
use Rattle.orbis_word.specs.declared.Instr.{Instr}
use Rattle.orbis_core.specs.declared.Effect.{Effect}
use Rattle.orbis_core.specs.declared.Effect.TheVariants.{Proceed, Write, Compare, Jump, Link, LoadWord, LoadByte, StoreWord, StoreByte, DivideByZero, Secure}
use Rattle.orbis_core.specs.declared.Stop.{Stop}
use Rattle.orbis_core.specs.declared.Why.{Why}
use Rattle.orbis_core.specs.declared.StepEnd.{StepEnd}
use Rattle.orbis_word.specs.Reading.{instruction_in}
use Rattle.orbis_core.specs.Effects.{effect_of}
use Rattle.orbis_core.specs.FlatMemory.{Flat, flat_accesses, put}
use Rattle.orbis_core.specs.Refusals.{unless_refused}
use Rattle.orbis_core.specs.Rows.{Machine, Carries, Executes, GoesOnAfter, Steps}

-- a store, refused or not, leaves the layout
stored-layout : (refusal : Option Why) (old new : Flat) (at word : ℕ) → new ≡ unless_refused refusal old (put old at word) → new.layout ≡ old.layout
stored-layout None old new at word is = ap (λ m. m.layout) is
stored-layout (Some why) old new at word is = ap (λ m. m.layout) is

carried-layout : (effect : Effect) (old new : Machine Flat) (end : StepEnd) → Carries flat_accesses effect old end new → new.memory.layout ≡ old.memory.layout
carried-layout (LoadWord d at) old new end row = ap (λ m. m.layout) row.loaded.1
carried-layout (LoadByte d at) old new end row = ap (λ m. m.layout) row.loaded.1
carried-layout (StoreWord at word) old new end row = stored-layout _ old.memory new.memory at _ row.stored.1
carried-layout (StoreByte at byte) old new end row = stored-layout _ old.memory new.memory at _ row.stored.1
carried-layout DivideByZero old new end row = ap (λ m. m.layout) row.memory
carried-layout (Secure f) old new end row = ap (λ m. m.layout) row.memory
carried-layout Proceed old new end row = ap (λ m. m.layout) row.memory
carried-layout (Write d value) old new end row = ap (λ m. m.layout) row.memory
carried-layout (Compare flag) old new end row = ap (λ m. m.layout) row.memory
carried-layout (Jump to) old new end row = ap (λ m. m.layout) row.memory
carried-layout (Link to) old new end row = ap (λ m. m.layout) row.memory

executed-layout : (found : Option Instr) (old new : Machine Flat) (end : StepEnd) → Executes flat_accesses found old end new → new.memory.layout ≡ old.memory.layout
executed-layout None old new end row = ap (λ m. m.layout) row.memory
executed-layout (Some instruction) old new end row = carried-layout (effect_of instruction old.core) old new end row

went-on-layout : (answer : Result ℕ Stop) (old new : Machine Flat) (end : StepEnd) → GoesOnAfter flat_accesses answer old end new → new.memory.layout ≡ old.memory.layout
went-on-layout (Ok word) old new end row = executed-layout (instruction_in word) old new end row
went-on-layout (Err stop) old new end row = ap (λ m. m.layout) row.memory

pub step-layout : (old new : Machine Flat) (end : StepEnd) → Steps flat_accesses old end new → new.memory.layout ≡ old.memory.layout
step-layout old new end step = went-on-layout step.answer (record old { memory = step.middle }) new end step.goes_on ∙ ap (λ m. m.layout) step.fetched.1
