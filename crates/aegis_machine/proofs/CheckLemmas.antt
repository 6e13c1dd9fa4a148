-- Which secure instruction a step did, and whether the step of the bus machine is one in which a check is made.
use Rattle.std.proofs.Common.{◌≡◌, ℕ, ◌+◌, ◌-◌, ◌==◌, ◌&&◌, arith, Result, Ok, Err, Bool, true, false, length, Option, Some, None, is_some, option_map, refl, sym, ap, ◌∙◌, subst}
use Rattle.std.specs.Prelude.{IsTrue, is_none, if◌then◌else◌, option_and_then}
use Rattle.execution.specs.Run.{Next, Goes, Stops}
use Rattle.execution.specs.Traffic.{Traffic}
use Rattle.regions.specs.declared.Layout.{Layout}
use Rattle.regions.specs.declared.Access.TheVariants.{Fetch}
use Rattle.regions.specs.Modes.{SecureInstruction, Enter, Exit, IndexTrap, DivideTrap, Suspend, Resume, PrivateOn, PrivateOff, Release, Input, Check, allowed_in, is_secure}
use Rattle.orbis_word.specs.declared.Instr.{Instr}
use Rattle.orbis_word.specs.Reading.{instruction_in}
use Rattle.orbis_core.specs.declared.Effect.{Effect}
use Rattle.orbis_core.specs.declared.Effect.TheVariants as effect
use Rattle.orbis_core.specs.declared.StepEnd.{StepEnd}
use Rattle.orbis_core.specs.declared.StepEnd.TheVariants as end
use Rattle.orbis_core.specs.declared.Stop.{Stop}
use Rattle.orbis_core.specs.declared.Stop.TheVariants as stop
use Rattle.orbis_core.specs.declared.Why.{Why}
use Rattle.orbis_core.specs.declared.Why.TheVariants as why
use Rattle.orbis_core.specs.Accesses.{Accesses}
use Rattle.orbis_core.specs.Effects.{effect_of}
use Rattle.orbis_core.specs.Ideal.{Ideal, IdealEnd, Outside, Refused, carried, executed, machine_step, secure_at, secure_by, secured, unless}
use Rattle.orbis_core.specs.OwnMemory.{secure_of_end}
use Rattle.orbis_core.specs.Processor.{Processor}
use Rattle.orbis_core.specs.Refusals.{word_refusal}
use Rattle.orbis_core.specs.Rows.{Carries, Executes, GoesOnAfter, IsNoStop, IsStopped, Machine, Steps, end_after}
use Rattle.orbis_core.specs.Secure.{secure_end, secure_of}
use Rattle.bus_machine.specs.BusAccesses.{MeetsBus, ReadsBlock, Sight, UnlessRefused}
use Rattle.bus_machine.specs.BusData.{asks_check, most_held, needs_check}
use Rattle.bus_machine.specs.BusSteps.{SameButWords}
use Rattle.aegis_machine.specs.InstructionsDone.{makes_check}

-- ---- the secure instruction of a step

pub secure-of : (s : SecureInstruction) (core : Processor) → secure_of_end (secure_end s core) ≡ Some s
secure-of Enter core = refl
secure-of Exit core = refl
secure-of Suspend core = refl
secure-of Resume core = refl
secure-of PrivateOn core = refl
secure-of PrivateOff core = refl
secure-of Release core = refl
secure-of Input core = refl
secure-of Check core = refl
secure-of IndexTrap core = refl
secure-of DivideTrap core = refl

-- what a word asks for, if that is a secure instruction
abbrev pub secure_in : Processor → ℕ → Option SecureInstruction
secure_in core word = option_and_then secure_by (option_map (λ instruction. effect_of instruction core) (instruction_in word))

module _ {M : Type 0} (accesses : Accesses M) (old new : Machine M) (ended : StepEnd) (secured : is_some (secure_of_end ended) ≡ true) where
  not-next : ended ≡ end.Next → ⊥
  not-next is = let e : false ≡ true = ap (λ (x : StepEnd). is_some (secure_of_end x)) (sym is) ∙ secured in cc

  not-stopped : (reason : Stop) → ended ≡ end.Stopped reason → ⊥
  not-stopped reason is = let e : false ≡ true = ap (λ (x : StepEnd). is_some (secure_of_end x)) (sym is) ∙ secured in cc

  not-after : {T : Type 0} (answer : Result T Stop) → ended ≡ end_after answer → ⊥
  not-after (Ok value) is = not-next is
  not-after (Err reason) is = not-stopped reason is

  asked-row : (middle : M) (asked : Effect) → Carries accesses asked (record old { memory = middle }) ended new → (new.memory ≡ middle) × (secure_by asked ≡ secure_of_end ended)
  asked-row middle effect.Proceed row = absurd (not-next row.ends)
  asked-row middle (effect.Write d value) row = absurd (not-next row.ends)
  asked-row middle (effect.Compare flag) row = absurd (not-next row.ends)
  asked-row middle (effect.Jump target) row = absurd (not-next row.ends)
  asked-row middle (effect.Link target) row = absurd (not-next row.ends)
  asked-row middle effect.DivideByZero row = absurd (not-stopped (stop.Refused why.Divide) row.ends)
  asked-row middle (effect.LoadWord d at) row = absurd (not-after row.answer row.ends)
  asked-row middle (effect.LoadByte d at) row = absurd (not-after row.answer row.ends)
  asked-row middle (effect.StoreWord at value) row = absurd (not-after row.answer row.ends)
  asked-row middle (effect.StoreByte at byte) row = absurd (not-after row.answer row.ends)
  asked-row middle (effect.Secure f) row = (row.memory, sym (ap secure_of_end row.ends ∙ secure-of (secure_of f) old.core))

  asked-word : (middle : M) (found : Option Instr) → Executes accesses found (record old { memory = middle }) ended new
      → (new.memory ≡ middle) × (option_and_then secure_by (option_map (λ instruction. effect_of instruction old.core) found) ≡ secure_of_end ended)
  asked-word middle None row = absurd (not-stopped (stop.Refused why.Illegal) row.ends)
  asked-word middle (Some instruction) row = asked-row middle (effect_of instruction old.core) row

-- ---- the word that it fetched

module _ {M : Type 0} (sight : Sight M) (accesses : Accesses M) (meets : MeetsBus sight accesses) (old new : Machine M) (ended : StepEnd)
    (secure : IsTrue (is_secure (sight.mode old.memory))) (step : Steps accesses old ended new) where
  abbrev refusal : Option Why
  refusal = word_refusal (sight.layout old.memory) (sight.mode old.memory) Fetch old.core.pc

  abbrev Fetched : Option Why → Result ℕ Stop → Type 0
  Fetched r answer = UnlessRefused sight r answer old.memory step.middle (ReadsBlock sight (λ memory. memory old.core.pc) answer old.memory step.middle)

  abbrev GoesOn : Result ℕ Stop → Type 0
  GoesOn answer = GoesOnAfter accesses answer (record old { memory = step.middle }) ended new

  fetch-granted : (r : Option Why) → IsNoStop ended → Fetched r step.answer → r ≡ None
  fetch-granted None none row = refl
  fetch-granted (Some reason) none row =
      let stopped : IsStopped (stop.Refused reason) (record old { memory = step.middle }) ended new = subst GoesOn row.0 step.goes_on in
      absurd (none (stop.Refused reason) stopped.ends)

  -- a step that was not stopped fetched where the mode grants it
  pub granted : IsNoStop ended → refusal ≡ None
  granted none = fetch-granted refusal none (meets.fetch old.memory step.middle old.core.pc step.answer secure step.fetched)

  abbrev Asks : Type 0
  Asks = (memory : ℕ → ℕ) → sight.Agrees new.memory memory → secure_in old.core (memory old.core.pc) ≡ secure_of_end ended

  asked-answer : (answer : Result ℕ Stop) → is_some (secure_of_end ended) ≡ true → Fetched None answer → GoesOn answer → Asks
  asked-answer (Ok word) secured row goes_on =
      let asked = asked-word accesses old new ended secured step.middle (instruction_in word) goes_on in
      let P : M → Type 0 = λ m. (memory : ℕ → ℕ) → sight.Agrees m memory → memory old.core.pc ≡ word in
      let value : P new.memory = subst P (sym asked.0) row.2 in
      λ memory agrees. ap (λ (w : ℕ). secure_in old.core w) (value memory agrees) ∙ asked.1
  asked-answer (Err reason) secured row goes_on = absurd (not-stopped accesses old new ended secured reason goes_on.ends)

  -- a memory that the lines agree with after it has the word of its secure instruction at the program counter
  pub asks-secure : is_some (secure_of_end ended) ≡ true → IsNoStop ended → Asks
  asks-secure secured none =
      let row = meets.fetch old.memory step.middle old.core.pc step.answer secure step.fetched in
      let P : Option Why → Type 0 = λ r. Fetched r step.answer in
      asked-answer step.answer secured (subst P (granted none) row) step.goes_on

-- ---- whether a check is due

asks-due : (ended : StepEnd) (released sent held : ℕ) → IsNoStop ended → released ≡ sent + held → asks_check (secure_of_end ended) released sent ≡ makes_check ended held
asks-due (end.Stopped reason) released sent held none is = absurd (none reason refl)
asks-due end.Next released sent held none is = refl
asks-due end.Input released sent held none is = refl
asks-due (end.Released byte) released sent held none is =
    let same : released + 1 - sent ≡ held + 1 = omega (arith, is) in ap (λ (n : ℕ). n == most_held) same
asks-due end.Check released sent held none is = refl
asks-due end.Suspend released sent held none is = refl
asks-due end.Resume released sent held none is = refl
asks-due end.Enter released sent held none is = refl
asks-due (end.Private true) released sent held none is = refl
asks-due (end.Private false) released sent held none is = refl
asks-due end.Exit released sent held none is = refl
asks-due (end.Index place) released sent held none is = refl
asks-due (end.Divide place) released sent held none is = refl

-- a step with which nothing is checked or released asks for no check
module _ (state after : Ideal) (same : SameButWords state.traffic after.traffic) (released sent : ℕ) where
  abbrev Quiet : Option SecureInstruction → Type 0
  Quiet asked = asks_check asked released sent ≡ false

  abbrev traffic_in : Next Ideal IdealEnd → Traffic ℕ
  traffic_in (Goes state) = state.traffic
  traffic_in (Stops end state) = state.traffic

  abbrev goes : Next Ideal IdealEnd → Bool
  goes (Goes state) = true
  goes (Stops end state) = false

  quiet-secured : (s : SecureInstruction) → secured s state ≡ Goes after → Quiet (Some s)
  quiet-secured Enter is = refl
  quiet-secured Suspend is = refl
  quiet-secured Resume is = refl
  quiet-secured PrivateOn is = refl
  quiet-secured PrivateOff is = refl
  quiet-secured Input is = refl
  quiet-secured Exit is = let e : false ≡ true = ap goes is in cc
  quiet-secured IndexTrap is = let e : false ≡ true = ap goes is in cc
  quiet-secured DivideTrap is = let e : false ≡ true = ap goes is in cc
  quiet-secured Check is =
      let e : state.traffic.checks + 1 ≡ after.traffic.checks = ap (λ (n : Next Ideal IdealEnd). (traffic_in n).checks) is in
      let f : after.traffic.checks ≡ state.traffic.checks = same.checks in absurd (omega (arith, e, f))
  quiet-secured Release is =
      let e : state.traffic.releases + 1 ≡ after.traffic.releases = ap (λ (n : Next Ideal IdealEnd). (traffic_in n).releases) is in
      let f : after.traffic.releases ≡ state.traffic.releases = same.releases in absurd (omega (arith, e, f))

  quiet-permitted : (s : SecureInstruction) (b : Bool) → (if b then secured s state else Stops (Refused why.Mode) state) ≡ Goes after → Quiet (Some s)
  quiet-permitted s true is = quiet-secured s is
  quiet-permitted s false is = let e : false ≡ true = ap goes is in cc

  quiet-effect : (layout : Layout) (outside : Outside) (asked : Effect) → carried layout outside asked state ≡ Goes after → Quiet (secure_by asked)
  quiet-effect layout outside (effect.Secure f) is = quiet-permitted (secure_of f) (allowed_in (secure_of f) state.mode) is
  quiet-effect layout outside (effect.LoadWord d at) is = refl
  quiet-effect layout outside (effect.LoadByte d at) is = refl
  quiet-effect layout outside (effect.StoreWord at word) is = refl
  quiet-effect layout outside (effect.StoreByte at byte) is = refl
  quiet-effect layout outside effect.DivideByZero is = refl
  quiet-effect layout outside effect.Proceed is = refl
  quiet-effect layout outside (effect.Write d value) is = refl
  quiet-effect layout outside (effect.Compare flag) is = refl
  quiet-effect layout outside (effect.Jump target) is = refl
  quiet-effect layout outside (effect.Link target) is = refl

  quiet-word : (layout : Layout) (outside : Outside) (found : Option Instr) → executed layout outside found state ≡ Goes after
      → Quiet (option_and_then secure_by (option_map (λ instruction. effect_of instruction state.core) found))
  quiet-word layout outside None is = refl
  quiet-word layout outside (Some instruction) is = quiet-effect layout outside (effect_of instruction state.core) is

  quiet-unless : (layout : Layout) (outside : Outside) (r : Option Why) → unless r state (executed layout outside (instruction_in (state.memory state.core.pc)) state) ≡ Goes after → Quiet (secure_at state)
  quiet-unless layout outside None is = quiet-word layout outside (instruction_in (state.memory state.core.pc)) is
  quiet-unless layout outside (Some reason) is = let e : false ≡ true = ap goes is in cc

  pub quiet-step : (layout : Layout) (outside : Outside) → machine_step layout outside state ≡ Goes after → Quiet (secure_at state)
  quiet-step layout outside is = quiet-unless layout outside (word_refusal layout state.mode Fetch state.core.pc) is

-- by what the state asks for, where so many bytes were released and are held
pub needs-due : (layout : Layout) (state : Ideal) (ended : StepEnd) (sent held : ℕ) → IsNoStop ended → word_refusal layout state.mode Fetch state.core.pc ≡ None
    → length state.traffic.bytes ≡ sent + held → secure_at state ≡ secure_of_end ended → needs_check layout (Goes state) sent ≡ makes_check ended held
needs-due layout state ended sent held none granted long asked =
    ap (λ (r : Option Why). is_none r && asks_check (secure_at state) (length state.traffic.bytes) sent) granted
    ∙ ap (λ (s : Option SecureInstruction). asks_check s (length state.traffic.bytes) sent) asked
    ∙ asks-due ended (length state.traffic.bytes) sent held none long

pub needs-none : (layout : Layout) (state : Ideal) (sent : ℕ) → asks_check (secure_at state) (length state.traffic.bytes) sent ≡ false → needs_check layout (Goes state) sent ≡ false
needs-none layout state sent quiet = by (is_none (word_refusal layout state.mode Fetch state.core.pc))
  where
    by : (b : Bool) → (b && asks_check (secure_at state) (length state.traffic.bytes) sent) ≡ false
    by true = quiet
    by false = refl
