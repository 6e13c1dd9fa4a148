-- A step over the machine's own memory, with the test of the mode, is the machine's step.
use Rattle.std.proofs.Common.{◌≡◌, ℕ, ◌+◌, ◌-◌, ◌++◌, ◌%◌, ◌^◌, ◌<◌, ◌≤◌, Bool, true, false, if◌then◌else◌, List, [], ◌∷◌, length, get_or, drop, nat_lt, Option, Some, None, option_map, Result, Ok, Err, refl, sym, ◌∙◌, ap, subst, arith, add-one, drop-cons, inl, inr}
use Rattle.std.proofs.lemmas.Bool.Decides.{nat_tests}
use Rattle.std.proofs.lemmas.Bool.{cases_lt}
use Rattle.std.proofs.lemmas.Grind.{common_steps}
use Rattle.execution.specs.Run.{Next, Goes, Stops}
use Rattle.execution.specs.Traffic.{Traffic, input_word, after_input, next_of, without_first, after_write, after_loose}
use Rattle.orbis_word.specs.declared.Instr.{Instr}
use Rattle.orbis_word.specs.Reading.{instruction_in}
use Rattle.regions.specs.declared.Layout.{Layout}
use Rattle.regions.specs.declared.Access.TheVariants.{Read, Write, Fetch}
use Rattle.regions.specs.LooseClasses.{shared_loose}
use Rattle.regions.specs.Modes.{SecureInstruction, Enter, Exit, IndexTrap, DivideTrap, Suspend, Resume, PrivateOn, PrivateOff, Release, Input, Check, allowed_in}
use Rattle.orbis_core.specs.declared.effect.Effect.{Effect}
use Rattle.orbis_core.specs.declared.effect.Effect.TheVariants as effect
use Rattle.orbis_core.specs.declared.memory.Stop.{Stop}
use Rattle.orbis_core.specs.declared.memory.Stop.TheVariants as stop
use Rattle.orbis_core.specs.declared.memory.Why.{Why}
use Rattle.orbis_core.specs.declared.memory.Why.TheVariants as why
use Rattle.orbis_core.specs.declared.port.Port.{Port}
use Rattle.orbis_core.specs.declared.stepping.StepEnd.{StepEnd}
use Rattle.orbis_core.specs.declared.stepping.StepEnd.TheVariants as end
use Rattle.orbis_core.specs.ByteOrder.{byte_in, with_byte, word_start}
use Rattle.orbis_core.specs.Effects.{effect_of}
use Rattle.orbis_core.specs.FlatIsIdeal.{noted, traffic_read}
use Rattle.orbis_core.specs.Ideal.{Ideal, IdealEnd, Refused, carried, effect_at, executed, is_among, loaded, machine_step, memory_stored, permitted, taken, traffic_stored, unless}
use Rattle.orbis_core.specs.OwnMemory.{Answers, HasInput, Own, OwnLoad, OwnStore, OwnStepIsIdeal, comes_to, ideal_of, own_accesses}
use Rattle.orbis_core.specs.Processor.{Processor, advanced, register, written}
use Rattle.orbis_core.specs.Refusals.{answered, word_refusal, byte_refusal}
use Rattle.orbis_core.specs.Rows.{Machine, Carries, Executes, GoesOnAfter, IsNoStop, Leaves, Steps, core_loaded, core_stored, end_after}
use Rattle.orbis_core.specs.Secure.{secure_of, secure_end, secure_core, secure_port, port_read}
use Rattle.orbis_core.specs.Secure.{port_word}

-- ---- input

next-word : (xs : List ℕ) (i : ℕ) → i < length xs → get_or xs i 0 < 2 ^ 8 → next_of (drop i xs) ≡ get_or xs i 0
next-word xs i below fits = rw (drop-cons xs i 0) (omega arith)

next-rest : (xs : List ℕ) (i : ℕ) → i < length xs → without_first (drop i xs) ≡ drop (i + 1) xs
next-rest xs i below = rw (add-one, drop-cons xs i 0) refl

drop-all : (xs : List ℕ) (i : ℕ) → length xs ≤ i → drop i xs ≡ []
drop-all xs i above = grind (arith, common_steps)

record ReadsAlike (port : Port) (traffic : Traffic ℕ) : Type 0 where
  word : input_word traffic ≡ port_word port
  input : HasInput (port_read port) (after_input traffic)

reads_alike : (port : Port) (traffic : Traffic ℕ) → HasInput port traffic → ReadsAlike port traffic
reads_alike port traffic has =
    elim (cases_lt port.next (length port.input.now)) [
      | inl below ↦
          let test : nat_lt port.next (length port.input.now) ≡ true = grind (arith, nat_tests) in
          let word : next_of (drop port.next port.input.now) ≡ get_or port.input.now port.next 0 = next-word port.input.now port.next below (has.bytes port.next) in
          let P : Bool → Type 0 = λ b. input_word traffic ≡ (if b then get_or port.input.now port.next 0 else 2 ^ 32 - 1) in
          let Q : Bool → Type 0 = λ b. HasInput (if b then record port { next = port.next + 1 } else port) (after_input traffic) in
          record {
            word = subst P (sym test) (ap next_of has.rest ∙ word);
            input = subst Q (sym test) (record {
              within = omega arith;
              bytes = has.bytes;
              rest = ap without_first has.rest ∙ next-rest port.input.now port.next below;
            });
          }
      | inr above ↦
          let test : nat_lt port.next (length port.input.now) ≡ false = grind (arith, nat_tests) in
          let none : drop port.next port.input.now ≡ [] = drop-all port.input.now port.next above in
          let P : Bool → Type 0 = λ b. input_word traffic ≡ (if b then get_or port.input.now port.next 0 else 2 ^ 32 - 1) in
          let Q : Bool → Type 0 = λ b. HasInput (if b then record port { next = port.next + 1 } else port) (after_input traffic) in
          record {
            word = subst P (sym test) (ap next_of (has.rest ∙ none));
            input = subst Q (sym test) (record {
              within = has.within;
              bytes = has.bytes;
              rest = ap without_first (has.rest ∙ none) ∙ sym none;
            });
          }
    ]

-- ---- steps

abbrev ideal_at : Processor → Own → Ideal
ideal_at core own = record { core = core; mode = own.mode; memory = own.memory; traffic = own.traffic }

low-low : (n : ℕ) → n % 2 ^ 8 % 2 ^ 8 ≡ n % 2 ^ 8
low-low n = omega arith

module _ (old new : Machine Own) (ended : StepEnd) (input : HasInput old.port old.memory.traffic) where
  abbrev from : Ideal
  from = ideal_of old

  abbrev to : Ideal
  to = ideal_of new

  abbrev layout : Layout
  layout = old.memory.layout

  -- no class is loose
  abbrev IsFree : Type 0
  IsFree = (at : ℕ) → is_among old.memory.outside.is_loose layout at ≡ false

  -- what a step that asks for this says of what comes next
  pub record Facts (asked : Option Effect) (next : Next Ideal IdealEnd) : Type 0 where
    pub answers : Answers ended from to next
    pub out : IsNoStop ended → IsFree → new.memory.traffic ≡ noted layout asked old.memory.traffic
    pub port : HasInput new.port (traffic_read ended new.memory.traffic)

  answers-at : (end : StepEnd) (next : Next Ideal IdealEnd) → ended ≡ end → Answers end from to next → Answers ended from to next
  answers-at end next is answers = let P : StepEnd → Type 0 = λ e. Answers e from to next in subst P (sym is) answers

  kept-port : (end : StepEnd) → ended ≡ end → traffic_read end new.memory.traffic ≡ new.memory.traffic → new.port ≡ old.port → new.memory.traffic.input ≡ old.memory.traffic.input
      → HasInput new.port (traffic_read ended new.memory.traffic)
  kept-port end is plain same left =
      let P : StepEnd → Type 0 = λ e. HasInput new.port (traffic_read e new.memory.traffic) in
      let Q : Traffic ℕ → Type 0 = λ t. HasInput new.port t in
      let R : Port → Type 0 = λ p. HasInput p new.memory.traffic in
      subst P (sym is) (subst Q (sym plain) (subst R (sym same) (record { within = input.within; bytes = input.bytes; rest = left ∙ input.rest })))

  moved : (core : Processor) (own : Own) → new.core ≡ core → new.memory ≡ own → ideal_at core own ≡ to
  moved core own p q = ap (λ c. ideal_at c own) (sym p) ∙ ap (λ m. ideal_at new.core m) (sym q)

  stopped : (asked : Option Effect) (reason : Why) → ended ≡ end.Stopped (stop.Refused reason) → new.memory ≡ old.memory → new.port ≡ old.port → Facts asked (Stops (Refused reason) from)
  stopped asked reason is memory port = record {
    answers = answers-at (end.Stopped (stop.Refused reason)) _ is refl;
    out = λ no_stop free. absurd (no_stop (stop.Refused reason) is);
    port = kept-port (end.Stopped (stop.Refused reason)) is refl port (ap (λ (m : Own). m.traffic.input) memory);
  }

  -- an effect on registers alone
  registers-case : (asked : Option Effect) (core : Processor) → noted layout asked old.memory.traffic ≡ old.memory.traffic → Leaves end.Next core old.port old ended new
      → Facts asked (Goes (record from { core = core }))
  registers-case asked core plain left = record {
    answers = answers-at end.Next _ left.ends (ap (λ (s : Ideal). Goes s) (moved core old.memory left.core left.memory));
    out = λ no_stop free. ap (λ (m : Own). m.traffic) left.memory ∙ sym plain;
    port = kept-port end.Next left.ends refl left.port (ap (λ (m : Own). m.traffic.input) left.memory);
  }

  load-case : (asked : Option Effect) (r : Option Why) (loose : Bool) (came : Option ℕ) (d word : ℕ) (answer : Result ℕ Stop) → noted layout asked old.memory.traffic ≡ old.memory.traffic
      → (IsFree → loose ≡ false) → OwnLoad r loose came word old.memory answer new.memory → ended ≡ end_after answer → new.core ≡ core_loaded d answer old.core → new.port ≡ old.port
      → Facts asked (unless r from (if loose then taken d came from else loaded d word from))
  load-case asked (Some reason) loose came d word answer plain none row ends core port = stopped asked reason (ends ∙ ap (λ (a : Result ℕ Stop). end_after a) row.0) row.1 port
  load-case asked None false came d word answer plain none row ends core port =
      let is : ended ≡ end.Next = ends ∙ ap (λ (a : Result ℕ Stop). end_after a) row.0 in
      record {
        answers = answers-at end.Next _ is (ap (λ (s : Ideal). Goes s) (moved (written old.core d word) old.memory (core ∙ ap (λ (a : Result ℕ Stop). core_loaded d a old.core) row.0) row.1));
        out = λ no_stop free. ap (λ (m : Own). m.traffic) row.1 ∙ sym plain;
        port = kept-port end.Next is refl port (ap (λ (m : Own). m.traffic.input) row.1);
      }
  load-case asked None true None d word answer plain none row ends core port = absurd row
  load-case asked None true (Some came) d word answer plain none row ends core port =
      let is : ended ≡ end.Next = ends ∙ ap (λ (a : Result ℕ Stop). end_after a) row.0 in
      let own : Own = record old.memory { traffic = after_loose old.memory.traffic } in
      record {
        answers = answers-at end.Next _ is (ap (λ (s : Ideal). Goes s) (moved (written old.core d came) own (core ∙ ap (λ (a : Result ℕ Stop). core_loaded d a old.core) row.0) row.1));
        out = λ no_stop free. let e : true ≡ false = none free in absurd (grind (arith, e));
        port = kept-port end.Next is refl port (ap (λ (m : Own). m.traffic.input) row.1);
      }

  stored-input : (shared : Bool) (at value : ℕ) (t : Traffic ℕ) → (if shared then after_write at value t else t).input ≡ t.input
  stored-input true at value t = refl
  stored-input false at value t = refl

  store-case : (asked : Option Effect) (r : Option Why) (at value word : ℕ) (answer : Result (Unit {0}) Stop) → noted layout asked old.memory.traffic ≡ traffic_stored layout at value old.memory.traffic
      → OwnStore r at value word old.memory answer new.memory → ended ≡ end_after answer → new.core ≡ core_stored answer old.core → new.port ≡ old.port
      → Facts asked (unless r from (Goes (record from {
        core = advanced old.core;
        memory = memory_stored layout old.memory.outside.is_loose at word old.memory.memory;
        traffic = traffic_stored layout at value old.memory.traffic;
      })))
  store-case asked (Some reason) at value word answer plain row ends core port = stopped asked reason (ends ∙ ap (λ (a : Result (Unit {0}) Stop). end_after a) row.0) row.1 port
  store-case asked None at value word answer plain row ends core port =
      let is : ended ≡ end.Next = ends ∙ ap (λ (a : Result (Unit {0}) Stop). end_after a) row.0 in
      let own : Own = record old.memory { memory = memory_stored layout old.memory.outside.is_loose at word old.memory.memory; traffic = traffic_stored layout at value old.memory.traffic } in
      record {
        answers = answers-at end.Next _ is (ap (λ (s : Ideal). Goes s) (moved (advanced old.core) own (core ∙ ap (λ (a : Result (Unit {0}) Stop). core_stored a old.core) row.0) row.1));
        out = λ no_stop free. ap (λ (m : Own). m.traffic) row.1 ∙ sym plain;
        port = kept-port end.Next is refl port (ap (λ (m : Own). m.traffic.input) row.1 ∙ stored-input (is_among shared_loose layout at) at value old.memory.traffic);
      }

  -- a secure instruction that the mode allows, and one that it forbids
  abbrev tested : SecureInstruction → Next Ideal IdealEnd → Next Ideal IdealEnd
  tested asked next = if allowed_in asked old.memory.mode then next else Stops (Refused why.Mode) from

  plain-secure : (f : ℕ) (asked : SecureInstruction) (end : StepEnd) (core : Processor) → Leaves end core old.port old ended new → traffic_read end new.memory.traffic ≡ new.memory.traffic
      → Answers end from to (permitted asked from) → Facts (Some (effect.Secure f)) (permitted asked from)
  plain-secure f asked end core left plain answers = record {
    answers = answers-at end _ left.ends answers;
    out = λ no_stop free. ap (λ (m : Own). m.traffic) left.memory;
    port = kept-port end left.ends plain left.port (ap (λ (m : Own). m.traffic.input) left.memory);
  }

  secure-case : (f : ℕ) (asked : SecureInstruction) → Leaves (secure_end asked old.core) (secure_core asked old.port old.core) (secure_port asked old.port) old ended new
      → Facts (Some (effect.Secure f)) (permitted asked from)
  secure-case f Enter left = plain-secure f Enter end.Enter _ left refl
      (ap (λ (s : Ideal). tested Enter (comes_to end.Enter s)) (moved (advanced old.core) old.memory left.core left.memory))
  secure-case f Resume left = plain-secure f Resume end.Resume _ left refl
      (ap (λ (s : Ideal). tested Resume (comes_to end.Resume s)) (moved (advanced old.core) old.memory left.core left.memory))
  secure-case f PrivateOn left = plain-secure f PrivateOn (end.Private true) _ left refl
      (ap (λ (s : Ideal). tested PrivateOn (comes_to (end.Private true) s)) (moved (advanced old.core) old.memory left.core left.memory))
  secure-case f PrivateOff left = plain-secure f PrivateOff (end.Private false) _ left refl
      (ap (λ (s : Ideal). tested PrivateOff (comes_to (end.Private false) s)) (moved (advanced old.core) old.memory left.core left.memory))
  secure-case f Exit left = plain-secure f Exit end.Exit _ left refl
      (ap (λ (s : Ideal). tested Exit (comes_to end.Exit s)) (moved (advanced old.core) old.memory left.core left.memory))
  secure-case f IndexTrap left = plain-secure f IndexTrap (end.Index (register old.core 3)) _ left refl
      (ap (λ (s : Ideal). tested IndexTrap (comes_to (end.Index (register old.core 3)) s)) (moved (advanced old.core) old.memory left.core left.memory))
  secure-case f DivideTrap left = plain-secure f DivideTrap (end.Divide (register old.core 3)) _ left refl
      (ap (λ (s : Ideal). tested DivideTrap (comes_to (end.Divide (register old.core 3)) s)) (moved (advanced old.core) old.memory left.core left.memory))
  secure-case f Suspend left = plain-secure f Suspend end.Suspend _ left refl
      (ap (λ (s : Ideal). tested Suspend (comes_to end.Suspend s)) (moved (advanced old.core) old.memory left.core left.memory))
  secure-case f Check left = plain-secure f Check end.Check _ left refl
      (ap (λ (s : Ideal). tested Check (comes_to end.Check s)) (moved (advanced old.core) old.memory left.core left.memory))
  secure-case f Release left =
      let byte : ℕ = register old.core 3 % 2 ^ 8 in
      let t : Traffic ℕ = old.memory.traffic in
      let now : Ideal = ideal_at (advanced old.core) old.memory in
      plain-secure f Release (end.Released byte) _ left refl
      (ap (λ (b : ℕ). tested Release (Goes (record now { traffic = record t { bytes = t.bytes ++ (b ∷ []); releases = t.releases + 1 } }))) (sym (low-low (register old.core 3)))
      ∙ ap (λ (s : Ideal). tested Release (comes_to (end.Released byte) s)) (moved (advanced old.core) old.memory left.core left.memory))
  secure-case f Input left =
      let alike : ReadsAlike old.port old.memory.traffic = reads_alike old.port old.memory.traffic input in
      let P : StepEnd → Type 0 = λ e. HasInput new.port (traffic_read e new.memory.traffic) in
      let Q : Port → Type 0 = λ p. HasInput p (after_input new.memory.traffic) in
      let R : Own → Type 0 = λ m. HasInput (port_read old.port) (after_input m.traffic) in
      record {
        answers = answers-at end.Input _ left.ends
            (ap (λ (s : Ideal). tested Input (comes_to end.Input s))
            (moved (written old.core 11 (input_word old.memory.traffic)) old.memory (left.core ∙ ap (λ word. written old.core 11 word) (sym alike.word)) left.memory));
        out = λ no_stop free. ap (λ (m : Own). m.traffic) left.memory;
        port = subst P (sym left.ends) (subst Q (sym left.port) (subst R (sym left.memory) alike.input));
      }

  -- each effect
  effect-case : (asked : Effect) → Carries own_accesses asked old ended new → Facts (Some asked) (carried layout old.memory.outside asked from)
  effect-case effect.Proceed row = registers-case (Some effect.Proceed) _ refl row
  effect-case (effect.Write d value) row = registers-case (Some (effect.Write d value)) _ refl row
  effect-case (effect.Compare flag) row = registers-case (Some (effect.Compare flag)) _ refl row
  effect-case (effect.Jump target) row = registers-case (Some (effect.Jump target)) _ refl row
  effect-case (effect.Link target) row = registers-case (Some (effect.Link target)) _ refl row
  effect-case effect.DivideByZero row = stopped (Some effect.DivideByZero) why.Divide row.ends row.memory row.port
  effect-case (effect.Secure f) row = secure-case f (secure_of f) row
  effect-case (effect.LoadWord d at) row =
      load-case (Some (effect.LoadWord d at)) (word_refusal layout old.memory.mode Read at) (is_among old.memory.outside.is_loose layout at) (old.memory.outside.word at old.memory.traffic) d
      (old.memory.memory at) row.answer refl (λ free. free at) row.loaded row.ends row.core row.port
  effect-case (effect.LoadByte d at) row =
      load-case (Some (effect.LoadByte d at)) (byte_refusal layout old.memory.mode Read at) (is_among old.memory.outside.is_loose layout at) (old.memory.outside.byte at old.memory.traffic) d
      (byte_in (old.memory.memory (word_start at)) at) row.answer refl (λ free. free at) row.loaded row.ends row.core row.port
  effect-case (effect.StoreWord at word) row =
      store-case (Some (effect.StoreWord at word)) (word_refusal layout old.memory.mode Write at) at word word row.answer refl row.stored row.ends row.core row.port
  effect-case (effect.StoreByte at byte) row =
      store-case (Some (effect.StoreByte at byte)) (byte_refusal layout old.memory.mode Write at) at byte (with_byte (old.memory.memory (word_start at)) at byte) row.answer refl
      row.stored row.ends row.core row.port

  -- a word that is an instruction or not
  word-case : (found : Option Instr) → Executes own_accesses found old ended new
      → Facts (option_map (λ instruction. effect_of instruction old.core) found) (executed layout old.memory.outside found from)
  word-case None row = stopped None why.Illegal row.ends row.memory row.port
  word-case (Some instruction) row = effect-case (effect_of instruction old.core) row

  step-case : (r : Option Why) → r ≡ word_refusal layout old.memory.mode Fetch old.core.pc → Steps own_accesses old ended new
      → Facts (effect_at from) (unless r from (executed layout old.memory.outside (instruction_in (old.memory.memory old.core.pc)) from))
  step-case (Some reason) is step =
      let answer : step.answer ≡ Err (stop.Refused reason) = step.fetched.0 ∙ ap (λ r. answered r (old.memory.memory old.core.pc)) (sym is) in
      let P : Result ℕ Stop → Type 0 = λ answer. GoesOnAfter own_accesses answer (record old { memory = step.middle }) ended new in
      let row = subst P answer step.goes_on in
      stopped (effect_at from) reason row.ends (row.memory ∙ step.fetched.1) row.port
  step-case None is step =
      let answer : step.answer ≡ Ok (old.memory.memory old.core.pc) = step.fetched.0 ∙ ap (λ r. answered r (old.memory.memory old.core.pc)) (sym is) in
      let P : Result ℕ Stop → Type 0 = λ answer. GoesOnAfter own_accesses answer (record old { memory = step.middle }) ended new in
      let Q : Own → Type 0 = λ m. GoesOnAfter own_accesses (Ok (old.memory.memory old.core.pc)) (record old { memory = m }) ended new in
      word-case (instruction_in (old.memory.memory old.core.pc)) (subst Q step.fetched.1 (subst P answer step.goes_on))

  pub step-facts : Steps own_accesses old ended new → Facts (effect_at from) (machine_step layout old.memory.outside from)
  step-facts step = step-case (word_refusal layout old.memory.mode Fetch old.core.pc) refl step

pub own-ideal : OwnStepIsIdeal
own-ideal old new ended input step = (step-facts old new ended input step).answers
