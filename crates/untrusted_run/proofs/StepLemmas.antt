-- A step over the open words at a bus is an instruction of a phase.
use Rattle.std.proofs.Common.{◌≡◌, ℕ, ◌≤◌, ◌⊎◌, Bool, List, [], ◌∷◌, ◌++◌, length, Option, Some, None, Result, Ok, Err, refl, sym, ◌∙◌, ap, subst, arith, append_assoc, append-nil, inl, inr}
use Rattle.execution.specs.Run.{Stops}
use Rattle.regions.specs.declared.rights.Mode.TheVariants.{Ssp}
use Rattle.regions.specs.Modes.{SecureInstruction, Enter, Exit, IndexTrap, DivideTrap, Suspend, Resume, PrivateOn, PrivateOff, Release, Input, Check, allowed_in}
use Rattle.off_chip.specs.declared.event.Event.{Event}
use Rattle.off_chip.specs.declared.event.Event.TheVariants.{WordRead, WordWrite}
use Rattle.off_chip.specs.declared.event.Who.TheVariants.{Untrusted}
use Rattle.orbis_word.specs.declared.Instr.{Instr}
use Rattle.orbis_word.specs.Reading.{instruction_in}
use Rattle.orbis_core.specs.declared.effect.Effect.{Effect}
use Rattle.orbis_core.specs.declared.effect.Effect.TheVariants as effect
use Rattle.orbis_core.specs.declared.memory.Stop.{Stop}
use Rattle.orbis_core.specs.declared.memory.Stop.TheVariants as stop
use Rattle.orbis_core.specs.declared.port.Port.{Port}
use Rattle.orbis_core.specs.declared.stepping.StepEnd.{StepEnd}
use Rattle.orbis_core.specs.declared.stepping.StepEnd.TheVariants as end
use Rattle.orbis_core.specs.ByteOrder.{byte_in, with_byte, word_start}
use Rattle.orbis_core.specs.Effects.{effect_of}
use Rattle.orbis_core.specs.Processor.{Processor, advanced, written}
use Rattle.orbis_core.specs.Accesses.{Accesses}
use Rattle.orbis_core.specs.Rows.{Machine, Carries, Executes, GoesOnAfter, Leaves, Steps, core_loaded, core_stored, end_after}
use Rattle.orbis_core.specs.Secure.{secure_of, secure_end, secure_core}
use Rattle.untrusted_run.specs.OpenAccesses.{Sight, Made, Unless, Reads, Writes, WritesByte, open_accesses, refusal_of_word, refusal_of_byte}
use Rattle.untrusted_run.specs.PhaseParts.{phase_at}
use Rattle.untrusted_run.specs.Phases.{Phase, PhaseNext, Rest, Resumed, Refused, carrying, done, executing, granted, may_access_byte, may_access_word, phase_step, reading, resuming, retiring, untrusted_reads, writing}
use Rattle.untrusted_run.proofs.AccessCases.{Open, Shut, byte-case, word-case}

-- what the end of a step says of a phase, before the mark that the instruction is done
abbrev pub AfterStep : StepEnd → PhaseNext → Processor → Phase → Type 0
AfterStep end.Next next core phase = next ≡ retiring core phase
AfterStep end.Resume next core phase = next ≡ Stops Resumed (done core phase)
AfterStep end next core phase = next ≡ Stops Refused phase

-- The rest of a step, from a core: these events were made, and the phase is so after them.
pub record Part (run : Rest) (old new : Processor) (ended : StepEnd) (from to : Sight) (most : ℕ) : Type 0 where
  pub events : List Event
  pub made : Made events from to
  pub few : length events ≤ most
  pub does : (rest : List ℕ) (before : List Event) → AfterStep ended (run (phase_at old (untrusted_reads events ++ rest) before)) new (phase_at old rest (before ++ events))

-- a part that has come so far as the end and the core say that are handed in
module _ (run : Rest) (old new : Processor) (ended : StepEnd) (from to : Sight) where
  pack : (most : ℕ) (events : List Event) → Made events from to → length events ≤ most → (last : StepEnd) (core : Processor) → ended ≡ last → new ≡ core
      → ((rest : List ℕ) (before : List Event) → AfterStep last (run (phase_at old (untrusted_reads events ++ rest) before)) core (phase_at old rest (before ++ events)))
      → Part run old new ended from to most
  pack most events made few last core ends is does = record {
    events = events;
    made = made;
    few = few;
    does = λ rest before.
        let P : StepEnd → Type 0 = λ e. AfterStep e (run (phase_at old (untrusted_reads events ++ rest) before)) new (phase_at old rest (before ++ events)) in
        let Q : Processor → Type 0 = λ c. AfterStep last (run (phase_at old (untrusted_reads events ++ rest) before)) c (phase_at old rest (before ++ events)) in
        subst P (sym ends) (subst Q (sym is) (does rest before));
  }

  -- nothing was done on the bus
  pack-none : (most : ℕ) → Made [] from to → (last : StepEnd) (core : Processor) → ended ≡ last → new ≡ core
      → ((rest : List ℕ) (before : List Event) → AfterStep last (run (phase_at old rest before)) core (phase_at old rest before))
      → Part run old new ended from to most
  pack-none most made last core ends is does = pack most [] made (omega arith) last core ends is
      (λ rest before.
      let P : List Event → Type 0 = λ events. AfterStep last (run (phase_at old rest before)) core (phase_at old rest events) in
      subst P (sym (append-nil before)) (does rest before))

-- a load, of a word or of a byte
load-part : (may : Bool) (refusal : Result (Unit {0}) Stop) → Open may refusal ⊎ Shut may refusal → (at d : ℕ) (value : ℕ → ℕ) (answer : Result ℕ Stop) (old new : Processor) (ended : StepEnd) (from to : Sight)
    → Unless refusal answer from to (Reads at value answer from to) → ended ≡ end_after answer → new ≡ core_loaded d answer old
    → Part (granted may (reading at (λ word phase. retiring (written phase.core d (value word)) phase))) old new ended from to 2
load-part may refusal (inl granted_so) at d value answer old new ended from to does ends is =
    let P : Result (Unit {0}) Stop → Type 0 = λ r. Unless r answer from to (Reads at value answer from to) in
    let read : Reads at value answer from to = subst P granted_so.refusal_is does in
    let run : Bool → Rest = λ b. granted b (reading at (λ word phase. retiring (written phase.core d (value word)) phase)) in
    pack (run may) old new ended from to 2 (WordRead Untrusted at read.0 ∷ []) read.2 (omega arith) end.Next (written old d (value read.0))
    (ends ∙ ap (λ (a : Result ℕ Stop). end_after a) read.1) (is ∙ ap (λ (a : Result ℕ Stop). core_loaded d a old) read.1)
    (λ rest before. ap (λ (b : Bool). run b (phase_at old (read.0 ∷ rest) before)) granted_so.may_is)
load-part may refusal (inr shut) at d value answer old new ended from to does ends is =
    let P : Result (Unit {0}) Stop → Type 0 = λ r. Unless r answer from to (Reads at value answer from to) in
    let refused : (answer ≡ Err (stop.Refused shut.why)) × Made [] from to = subst P shut.refusal_is does in
    let run : Bool → Rest = λ b. granted b (reading at (λ word phase. retiring (written phase.core d (value word)) phase)) in
    pack-none (run may) old new ended from to 2 refused.1 (end.Stopped (stop.Refused shut.why)) old
    (ends ∙ ap (λ (a : Result ℕ Stop). end_after a) refused.0) (is ∙ ap (λ (a : Result ℕ Stop). core_loaded d a old) refused.0)
    (λ rest before. ap (λ (b : Bool). run b (phase_at old rest before)) shut.may_is)

-- a store of a word
store-part : (may : Bool) (refusal : Result (Unit {0}) Stop) → Open may refusal ⊎ Shut may refusal → (at word : ℕ) (answer : Result (Unit {0}) Stop) (old new : Processor) (ended : StepEnd) (from to : Sight)
    → Unless refusal answer from to (Writes at word answer from to) → ended ≡ end_after answer → new ≡ core_stored answer old
    → Part (granted may (writing at word)) old new ended from to 2
store-part may refusal (inl granted_so) at word answer old new ended from to does ends is =
    let P : Result (Unit {0}) Stop → Type 0 = λ r. Unless r answer from to (Writes at word answer from to) in
    let wrote : Writes at word answer from to = subst P granted_so.refusal_is does in
    pack (granted may (writing at word)) old new ended from to 2 (WordWrite Untrusted at word ∷ []) wrote.1 (omega arith) end.Next (advanced old)
    (ends ∙ ap (λ (a : Result (Unit {0}) Stop). end_after a) wrote.0) (is ∙ ap (λ (a : Result (Unit {0}) Stop). core_stored a old) wrote.0)
    (λ rest before. ap (λ (b : Bool). granted b (writing at word) (phase_at old rest before)) granted_so.may_is)
store-part may refusal (inr shut) at word answer old new ended from to does ends is =
    let P : Result (Unit {0}) Stop → Type 0 = λ r. Unless r answer from to (Writes at word answer from to) in
    let refused : (answer ≡ Err (stop.Refused shut.why)) × Made [] from to = subst P shut.refusal_is does in
    pack-none (granted may (writing at word)) old new ended from to 2 refused.1 (end.Stopped (stop.Refused shut.why)) old
    (ends ∙ ap (λ (a : Result (Unit {0}) Stop). end_after a) refused.0) (is ∙ ap (λ (a : Result (Unit {0}) Stop). core_stored a old) refused.0)
    (λ rest before. ap (λ (b : Bool). granted b (writing at word) (phase_at old rest before)) shut.may_is)

-- a store of a byte
byte-part : (may : Bool) (refusal : Result (Unit {0}) Stop) → Open may refusal ⊎ Shut may refusal → (at byte : ℕ) (answer : Result (Unit {0}) Stop) (old new : Processor) (ended : StepEnd) (from to : Sight)
    → Unless refusal answer from to (WritesByte at byte answer from to) → ended ≡ end_after answer → new ≡ core_stored answer old
    → Part (granted may (reading (word_start at) (λ word. writing (word_start at) (with_byte word at byte)))) old new ended from to 2
byte-part may refusal (inl granted_so) at byte answer old new ended from to does ends is =
    let P : Result (Unit {0}) Stop → Type 0 = λ r. Unless r answer from to (WritesByte at byte answer from to) in
    let wrote : WritesByte at byte answer from to = subst P granted_so.refusal_is does in
    let run : Bool → Rest = λ b. granted b (reading (word_start at) (λ word. writing (word_start at) (with_byte word at byte))) in
    let read : Event = WordRead Untrusted (word_start at) wrote.0 in
    let write : Event = WordWrite Untrusted (word_start at) (with_byte wrote.0 at byte) in
    pack (run may) old new ended from to 2 (read ∷ write ∷ []) wrote.2 (omega arith) end.Next (advanced old)
    (ends ∙ ap (λ (a : Result (Unit {0}) Stop). end_after a) wrote.1) (is ∙ ap (λ (a : Result (Unit {0}) Stop). core_stored a old) wrote.1)
    (λ rest before. ap (λ (b : Bool). run b (phase_at old (wrote.0 ∷ rest) before)) granted_so.may_is
    ∙ ap (λ (events : List Event). retiring (advanced old) (phase_at old rest events)) (append_assoc before (read ∷ []) (write ∷ [])))
byte-part may refusal (inr shut) at byte answer old new ended from to does ends is =
    let P : Result (Unit {0}) Stop → Type 0 = λ r. Unless r answer from to (WritesByte at byte answer from to) in
    let refused : (answer ≡ Err (stop.Refused shut.why)) × Made [] from to = subst P shut.refusal_is does in
    let run : Bool → Rest = λ b. granted b (reading (word_start at) (λ word. writing (word_start at) (with_byte word at byte))) in
    pack-none (run may) old new ended from to 2 refused.1 (end.Stopped (stop.Refused shut.why)) old
    (ends ∙ ap (λ (a : Result (Unit {0}) Stop). end_after a) refused.0) (is ∙ ap (λ (a : Result (Unit {0}) Stop). core_stored a old) refused.0)
    (λ rest before. ap (λ (b : Bool). run b (phase_at old rest before)) shut.may_is)

-- a secure instruction: one alone is allowed
secure-after : (instruction : SecureInstruction) (port : Port) (core : Processor) (rest : List ℕ) (before : List Event)
    → AfterStep (secure_end instruction core) (granted (allowed_in instruction Ssp) resuming (phase_at core rest before)) (secure_core instruction port core) (phase_at core rest before)
secure-after Enter port core rest before = refl
secure-after Exit port core rest before = refl
secure-after IndexTrap port core rest before = refl
secure-after DivideTrap port core rest before = refl
secure-after Suspend port core rest before = refl
secure-after Resume port core rest before = refl
secure-after PrivateOn port core rest before = refl
secure-after PrivateOff port core rest before = refl
secure-after Release port core rest before = refl
secure-after Input port core rest before = refl
secure-after Check port core rest before = refl

module _ {M : Type 0} (seen : M → Sight) (Keeps : M → M → Type 0) (new : Machine M) (ended : StepEnd) where
  abbrev words : Accesses M
  words = open_accesses seen Keeps

  made-none : (old : M) → new.memory ≡ old → Made [] (seen old) (seen new.memory)
  made-none old same =
      let P : M → Type 0 = λ m. Made [] (seen old) (seen m) in
      subst P (sym same) (record { trace = sym (append-nil (seen old).trace); room = omega arith })

  leaves-part : (run : Rest) (old : Machine M) (last : StepEnd) (core : Processor) (port : Port) → Leaves last core port old ended new
      → ((rest : List ℕ) (before : List Event) → AfterStep last (run (phase_at old.core rest before)) core (phase_at old.core rest before))
      → Part run old.core new.core ended (seen old.memory) (seen new.memory) 2
  leaves-part run old last core port left does = pack-none run old.core new.core ended (seen old.memory) (seen new.memory) 2 (made-none old.memory left.memory) last core left.ends left.core does

  carried-part : (asked : Effect) (old : Machine M) → Carries words asked old ended new → Part (carrying asked) old.core new.core ended (seen old.memory) (seen new.memory) 2
  carried-part (effect.LoadWord d at) old row =
      load-part (may_access_word at) (refusal_of_word at) (word-case at) at d (λ word. word) row.answer old.core new.core ended (seen old.memory) (seen new.memory) row.loaded.0 row.ends row.core
  carried-part (effect.LoadByte d at) old row =
      load-part (may_access_byte at) (refusal_of_byte at) (byte-case at) (word_start at) d (λ word. byte_in word at) row.answer old.core new.core ended (seen old.memory) (seen new.memory) row.loaded.0 row.ends row.core
  carried-part (effect.StoreWord at word) old row =
      store-part (may_access_word at) (refusal_of_word at) (word-case at) at word row.answer old.core new.core ended (seen old.memory) (seen new.memory) row.stored.0 row.ends row.core
  carried-part (effect.StoreByte at byte) old row =
      byte-part (may_access_byte at) (refusal_of_byte at) (byte-case at) at byte row.answer old.core new.core ended (seen old.memory) (seen new.memory) row.stored.0 row.ends row.core
  carried-part (effect.Secure f) old row = leaves-part (carrying (effect.Secure f)) old _ _ _ row (λ rest before. secure-after (secure_of f) old.port old.core rest before)
  carried-part effect.DivideByZero old row = leaves-part (carrying effect.DivideByZero) old _ _ _ row (λ rest before. refl)
  carried-part effect.Proceed old row = leaves-part (carrying effect.Proceed) old _ _ _ row (λ rest before. refl)
  carried-part (effect.Write d value) old row = leaves-part (carrying (effect.Write d value)) old _ _ _ row (λ rest before. refl)
  carried-part (effect.Compare flag) old row = leaves-part (carrying (effect.Compare flag)) old _ _ _ row (λ rest before. refl)
  carried-part (effect.Jump target) old row = leaves-part (carrying (effect.Jump target)) old _ _ _ row (λ rest before. refl)
  carried-part (effect.Link target) old row = leaves-part (carrying (effect.Link target)) old _ _ _ row (λ rest before. refl)

  executed-part : (found : Option Instr) (old : Machine M) → Executes words found old ended new → Part (executing found) old.core new.core ended (seen old.memory) (seen new.memory) 2
  executed-part None old row = leaves-part (executing None) old _ _ _ row (λ rest before. refl)
  executed-part (Some instruction) old row =
      let part = carried-part (effect_of instruction old.core) old row in
      record { events = part.events; made = part.made; few = part.few; does = part.does }

  -- a fetch, and what its word asks for
  fetched-part : (old : Machine M) (middle : M) (answer : Result ℕ Stop) (may : Bool) (refusal : Result (Unit {0}) Stop) → Open may refusal ⊎ Shut may refusal
      → Unless refusal answer (seen old.memory) (seen middle) (Reads old.core.pc (λ word. word) answer (seen old.memory) (seen middle))
      → GoesOnAfter words answer (record old { memory = middle }) ended new
      → Part (granted may (reading old.core.pc (λ word. executing (instruction_in word)))) old.core new.core ended (seen old.memory) (seen new.memory) 3
  fetched-part old middle answer may refusal (inl granted_so) fetched row =
      let P : Result (Unit {0}) Stop → Type 0 = λ r. Unless r answer (seen old.memory) (seen middle) (Reads old.core.pc (λ word. word) answer (seen old.memory) (seen middle)) in
      let read : Reads old.core.pc (λ word. word) answer (seen old.memory) (seen middle) = subst P granted_so.refusal_is fetched in
      let Q : Result ℕ Stop → Type 0 = λ a. GoesOnAfter words a (record old { memory = middle }) ended new in
      let part : Part (executing (instruction_in read.0)) old.core new.core ended (seen middle) (seen new.memory) 2 = executed-part (instruction_in read.0) (record old { memory = middle }) (subst Q read.1 row) in
      let first : Event = WordRead Untrusted old.core.pc read.0 in
      let run : Bool → Rest = λ b. granted b (reading old.core.pc (λ word. executing (instruction_in word))) in
      record {
        events = first ∷ part.events;
        made = record {
          trace = part.made.trace ∙ ap (λ (t : List Event). t ++ part.events) read.2.trace ∙ append_assoc (seen old.memory).trace (first ∷ []) part.events;
          room = omega (arith, part.made.room, read.2.room);
        };
        few = omega (arith, part.few);
        does = λ rest before.
            let R : PhaseNext → Type 0 = λ next. AfterStep ended next new.core (phase_at old.core rest (before ++ first ∷ part.events)) in
            let S : List Event → Type 0 = λ events.
            AfterStep ended (executing (instruction_in read.0) (phase_at old.core (untrusted_reads part.events ++ rest) (before ++ first ∷ []))) new.core (phase_at old.core rest events) in
            subst R (sym (ap (λ (b : Bool). run b (phase_at old.core (read.0 ∷ (untrusted_reads part.events ++ rest)) before)) granted_so.may_is))
            (subst S (append_assoc before (first ∷ []) part.events) (part.does rest (before ++ first ∷ [])));
      }
  fetched-part old middle answer may refusal (inr shut) fetched row =
      let P : Result (Unit {0}) Stop → Type 0 = λ r. Unless r answer (seen old.memory) (seen middle) (Reads old.core.pc (λ word. word) answer (seen old.memory) (seen middle)) in
      let refused : (answer ≡ Err (stop.Refused shut.why)) × Made [] (seen old.memory) (seen middle) = subst P shut.refusal_is fetched in
      let Q : Result ℕ Stop → Type 0 = λ a. GoesOnAfter words a (record old { memory = middle }) ended new in
      let stopped : Leaves (end.Stopped (stop.Refused shut.why)) old.core old.port (record old { memory = middle }) ended new = subst Q refused.0 row in
      let run : Bool → Rest = λ b. granted b (reading old.core.pc (λ word. executing (instruction_in word))) in
      let S : M → Type 0 = λ m. Made [] (seen old.memory) (seen m) in
      pack-none (run may) old.core new.core ended (seen old.memory) (seen new.memory) 3 (subst S (sym stopped.memory) refused.1) (end.Stopped (stop.Refused shut.why)) old.core stopped.ends stopped.core
      (λ rest before. ap (λ (b : Bool). run b (phase_at old.core rest before)) shut.may_is)

  pub step-part : (old : Machine M) → Steps words old ended new → Part phase_step old.core new.core ended (seen old.memory) (seen new.memory) 3
  step-part old step =
      let part = fetched-part old step.middle step.answer (may_access_word old.core.pc) (refusal_of_word old.core.pc) (word-case old.core.pc) step.fetched.0 step.goes_on in
      record { events = part.events; made = part.made; few = part.few; does = part.does }

  -- what is kept from access to access
  module _ (trans : (a b c : M) → Keeps a b → Keeps b c → Keeps a c) where
    kept-by : (a b c : M) → Keeps a b → c ≡ b → Keeps a c
    kept-by a b c kept same = let P : M → Type 0 = λ m. Keeps a m in subst P (sym same) kept

    carried-kept : (asked : Effect) (first : M) (old : Machine M) → Keeps first old.memory → Carries words asked old ended new → Keeps first new.memory
    carried-kept (effect.LoadWord d at) first old kept row = trans first old.memory new.memory kept row.loaded.1
    carried-kept (effect.LoadByte d at) first old kept row = trans first old.memory new.memory kept row.loaded.1
    carried-kept (effect.StoreWord at word) first old kept row = trans first old.memory new.memory kept row.stored.1
    carried-kept (effect.StoreByte at byte) first old kept row = trans first old.memory new.memory kept row.stored.1
    carried-kept (effect.Secure f) first old kept row = kept-by first old.memory new.memory kept row.memory
    carried-kept effect.DivideByZero first old kept row = kept-by first old.memory new.memory kept row.memory
    carried-kept effect.Proceed first old kept row = kept-by first old.memory new.memory kept row.memory
    carried-kept (effect.Write d value) first old kept row = kept-by first old.memory new.memory kept row.memory
    carried-kept (effect.Compare flag) first old kept row = kept-by first old.memory new.memory kept row.memory
    carried-kept (effect.Jump target) first old kept row = kept-by first old.memory new.memory kept row.memory
    carried-kept (effect.Link target) first old kept row = kept-by first old.memory new.memory kept row.memory

    executed-kept : (found : Option Instr) (first : M) (old : Machine M) → Keeps first old.memory → Executes words found old ended new → Keeps first new.memory
    executed-kept None first old kept row = kept-by first old.memory new.memory kept row.memory
    executed-kept (Some instruction) first old kept row = carried-kept (effect_of instruction old.core) first old kept row

    after-kept : (answer : Result ℕ Stop) (first : M) (old : Machine M) → Keeps first old.memory → GoesOnAfter words answer old ended new → Keeps first new.memory
    after-kept (Ok word) first old kept row = executed-kept (instruction_in word) first old kept row
    after-kept (Err why) first old kept row = kept-by first old.memory new.memory kept row.memory

    pub step-kept : (old : Machine M) → Steps words old ended new → Keeps old.memory new.memory
    step-kept old step = after-kept step.answer old.memory (record old { memory = step.middle }) step.fetched.1 step.goes_on
