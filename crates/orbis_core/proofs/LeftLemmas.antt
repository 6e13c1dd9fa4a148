-- A step uses at most two accesses.
use Rattle.std.proofs.Common.{◌≡◌, ℕ, ◌+◌, Option, Some, None, Result, Ok, Err, sym, ◌∙◌, ap, subst, arith}
use Rattle.orbis_word.specs.declared.Instr.{Instr}
use Rattle.orbis_word.specs.Reading.{instruction_in}
use Rattle.orbis_core.specs.declared.effect.Effect.{Effect}
use Rattle.orbis_core.specs.declared.effect.Effect.TheVariants.{Proceed, Write, Compare, Jump, Link, LoadWord, LoadByte, StoreWord, StoreByte, DivideByZero, Secure}
use Rattle.orbis_core.specs.declared.memory.Stop.{Stop}
use Rattle.orbis_core.specs.declared.memory.Stop.TheVariants.{Refused, Tree, Log}
use Rattle.orbis_core.specs.declared.port.Port.{Port}
use Rattle.orbis_core.specs.declared.stepping.StepEnd.{StepEnd}
use Rattle.orbis_core.specs.declared.stepping.StepEnd.TheVariants.{Stopped}
use Rattle.orbis_core.specs.Accesses.{Accesses, IsSettled, LeaveOneFewer, LeavesOneFewer}
use Rattle.orbis_core.specs.Effects.{effect_of}
use Rattle.orbis_core.specs.Processor.{Processor}
use Rattle.orbis_core.specs.Rows.{Machine, Carries, Executes, GoesOnAfter, IsSettledEnd, Leaves, LeavesFewer, Steps, StepsLeaveFewer, end_after}

settled : {T : Type 0} (answer : Result T Stop) → IsSettledEnd (end_after answer) → IsSettled answer
settled (Ok value) is = tt
settled (Err (Refused reason)) is = tt
settled (Err (Tree event)) is = is
settled (Err (Log event)) is = is

module _ {M : Type 0} (accesses : Accesses M) (has_left : M → ℕ → Type 0) (fewer : (memory : M) (n : ℕ) → has_left memory (n + 1) → has_left memory n) (leave : LeaveOneFewer accesses has_left)
    (new : Machine M) (ended : StepEnd) where
  leaves-all : (old : Machine M) (end : StepEnd) (core : Processor) (port : Port) → Leaves end core port old ended new → LeavesFewer 1 has_left old.memory ended new.memory
  leaves-all old end core port left is n has = subst (λ (m : M). has_left m n) (sym left.memory) (fewer old.memory n has)

  effects : (old : Machine M) (asked : Effect) → Carries accesses asked old ended new → LeavesFewer 1 has_left old.memory ended new.memory
  effects old (LoadWord d at) row is n has = leave.load_word old.memory new.memory at row.answer row.loaded (settled row.answer (subst IsSettledEnd row.ends is)) n has
  effects old (LoadByte d at) row is n has = leave.load_byte old.memory new.memory at row.answer row.loaded (settled row.answer (subst IsSettledEnd row.ends is)) n has
  effects old (StoreWord at word) row is n has = leave.store_word old.memory new.memory at word row.answer row.stored (settled row.answer (subst IsSettledEnd row.ends is)) n has
  effects old (StoreByte at byte) row is n has = leave.store_byte old.memory new.memory at byte row.answer row.stored (settled row.answer (subst IsSettledEnd row.ends is)) n has
  effects old Proceed row is n has = leaves-all old _ _ _ row is n has
  effects old (Write d value) row is n has = leaves-all old _ _ _ row is n has
  effects old (Compare flag) row is n has = leaves-all old _ _ _ row is n has
  effects old (Jump target) row is n has = leaves-all old _ _ _ row is n has
  effects old (Link target) row is n has = leaves-all old _ _ _ row is n has
  effects old DivideByZero row is n has = leaves-all old _ _ _ row is n has
  effects old (Secure f) row is n has = leaves-all old _ _ _ row is n has

  executes : (old : Machine M) (found : Option Instr) → Executes accesses found old ended new → LeavesFewer 1 has_left old.memory ended new.memory
  executes old None row is n has = leaves-all old _ _ _ row is n has
  executes old (Some instruction) row is n has = effects old (effect_of instruction old.core) row is n has

  goes-on : (old : Machine M) (middle : M) (answer : Result ℕ Stop) → LeavesOneFewer has_left old.memory answer middle → GoesOnAfter accesses answer (record old { memory = middle }) ended new
      → LeavesFewer 2 has_left old.memory ended new.memory
  goes-on old middle (Ok word) left row is n has =
      let e : n + 2 ≡ n + 1 + 1 = omega arith in
      executes (record old { memory = middle }) (instruction_in word) row is n (left tt (n + 1) (subst (λ (k : ℕ). has_left old.memory k) e has))
  goes-on old middle (Err stop) left row is n has =
      let e : n + 2 ≡ n + 1 + 1 = omega arith in
      leaves-all (record old { memory = middle }) _ _ _ row is n (left (settled {T = ℕ} (Err stop) (subst IsSettledEnd row.ends is)) (n + 1) (subst (λ (k : ℕ). has_left old.memory k) e has))

pub steps-leave-fewer : {M : Type 0} (accesses : Accesses M) (has_left : M → ℕ → Type 0) → ((memory : M) (n : ℕ) → has_left memory (n + 1) → has_left memory n) → LeaveOneFewer accesses has_left
    → StepsLeaveFewer accesses has_left
steps-leave-fewer accesses has_left fewer leave old new ended step =
    goes-on accesses has_left fewer leave new ended old step.middle step.answer (leave.fetch old.memory step.middle old.core.pc step.answer step.fetched) step.goes_on
