-- What follows of phases.
use Rattle.std.proofs.Common.{◌≡◌, ℕ, zero, suc, ◌+◌, ◌*◌, ◌%◌, ◌<◌, ◌≤◌, ◌↔◌, Bool, true, false, ◌&&◌, ◌==◌, nat_lt, if◌then◌else◌, option_map, unwrap_or, List, [], ◌∷◌, ◌++◌, length, length-append, Option, Some, None, refl, sym, ◌∙◌, ap, subst, arith, append_assoc, append-nil, true≢false, inl, inr}
use Rattle.std.proofs.lemmas.Bool.{cases_lt}
use Rattle.std.proofs.lemmas.Bool.Decides.{nat_tests}
use Rattle.std.specs.List.{All}
use Rattle.std.proofs.lemmas.List.Elements.{All-append, All-cons, All-nil}
use Rattle.execution.specs.Run.{Goes, Stops, and_then, run, state_of}
use Rattle.regions.proofs.AddressLaws.{class_at-LiesIn, LiesIn-class_at}
use Rattle.regions.specs.Addresses.{LiesIn, class_at}
use Rattle.regions.specs.Rights.{rights}
use Rattle.regions.specs.declared.addresses.TheConstants.{OPEN_END}
use Rattle.regions.specs.declared.layout.Layout.{Layout}
use Rattle.regions.specs.declared.rights.Access.{Access}
use Rattle.regions.specs.declared.rights.Class.{Class}
use Rattle.regions.specs.declared.rights.Class.TheVariants.{Open, Verified, Private, Constant, Code, Logged}
use Rattle.regions.specs.declared.rights.Mode.TheVariants.{Ssp}
use Rattle.regions.specs.Modes.{allowed_in}
use Rattle.off_chip.specs.declared.event.Event.{Event}
use Rattle.off_chip.specs.declared.event.Event.TheVariants.{WordRead, WordWrite, Note}
use Rattle.off_chip.specs.declared.event.Mark.TheVariants.{Retire}
use Rattle.off_chip.specs.declared.event.Who.TheVariants.{Untrusted}
use Rattle.off_chip.specs.OffChipBytes.{IsWordAddress}
use Rattle.orbis_word.specs.declared.Instr.{Instr}
use Rattle.orbis_word.specs.Reading.{instruction_in}
use Rattle.orbis_core.specs.declared.effect.Effect.{Effect}
use Rattle.orbis_core.specs.declared.effect.Effect.TheVariants as effect
use Rattle.orbis_core.specs.ByteOrder.{byte_in, with_byte, word_start}
use Rattle.orbis_core.specs.Effects.{effect_of}
use Rattle.orbis_core.specs.declared.memory.Why.{Why}
use Rattle.orbis_core.specs.declared.memory.Why.TheVariants.{Rights, Misaligned}
use Rattle.orbis_core.specs.Refusals.{byte_refusal, is_allowed, word_refusal}
use Rattle.orbis_core.specs.Processor.{Processor, written}
use Rattle.orbis_core.specs.Secure.{secure_of}
use Rattle.untrusted_run.specs.declared.phase.TheConstants.{MAX_INSTRUCTIONS}
use Rattle.untrusted_run.specs.declared.phase.UntrustedEnd.{UntrustedEnd}
use Rattle.untrusted_run.specs.declared.phase.UntrustedEnd.TheVariants as ends
use Rattle.untrusted_run.specs.PhaseLaws.{IsOpenEvent, PhasesAreOpen}
use Rattle.untrusted_run.specs.Phases.{EndsSo, IsPhase, Phase, PhaseEnd, PhaseNext, Rest, Resumed, carrying, executing, granted, may_access_byte, may_access_word, phase_start, phase_step, reading, resuming, retiring, taking, untrusted_reads, writing}

-- ---- one end

abbrev is-going : PhaseNext → Bool
is-going (Goes phase) = true
is-going (Stops end phase) = false

abbrev is-resumed : PhaseNext → Bool
is-resumed (Stops Resumed phase) = true
is-resumed next = false

one-end : (next : PhaseNext) (end other : UntrustedEnd) (at last : Phase) → EndsSo next end at → EndsSo next other last → end ≡ other
one-end next ends.Resumed ends.Resumed at last e f = refl
one-end next ends.Resumed ends.Refused at last e f = absurd (true≢false (ap is-resumed (sym e ∙ f)))
one-end next ends.Resumed ends.Watchdog at last e f = absurd (true≢false (ap is-resumed (sym e ∙ f)))
one-end next ends.Refused ends.Resumed at last e f = absurd (true≢false (ap is-resumed (sym f ∙ e)))
one-end next ends.Refused ends.Refused at last e f = refl
one-end next ends.Refused ends.Watchdog at last e f = absurd (true≢false (ap is-going (sym f ∙ e)))
one-end next ends.Watchdog ends.Resumed at last e f = absurd (true≢false (ap is-going (sym e ∙ f)))
one-end next ends.Watchdog ends.Refused at last e f = absurd (true≢false (ap is-going (sym e ∙ f)))
one-end next ends.Watchdog ends.Watchdog at last e f = refl

one-phase : (events : List Event) (end other : UntrustedEnd) → IsPhase events end → IsPhase events other → end ≡ other
one-phase events end other one two = one-end _ end other one.at two.at one.ends two.ends

-- ---- open events

-- to these events at most so many open ones were added
record Adds (most : ℕ) (before after : List Event) : Type 0 where
  more : List Event
  parts : after ≡ before ++ more
  opens : All IsOpenEvent more
  few : length more ≤ most

-- whatever is still to be done adds at most so many
record Added (most : ℕ) (rest : Rest) : Type 0 where
  adds : (phase : Phase) → Adds most phase.events (state_of (rest phase)).events

adds-none : (most : ℕ) (events : List Event) → Adds most events events
adds-none most events = record { more = []; parts = sym (append-nil events); opens = All-nil IsOpenEvent; few = omega arith }

All-one : (event : Event) → IsOpenEvent event → All IsOpenEvent (event ∷ [])
All-one event holds = All-cons IsOpenEvent event [] holds (All-nil IsOpenEvent)

adds-one : (event : Event) (events : List Event) → IsOpenEvent event → Adds 1 events (events ++ event ∷ [])
adds-one event events holds = record { more = event ∷ []; parts = refl; opens = All-one event holds; few = omega arith }

adds-join : (m n : ℕ) (a b c : List Event) → Adds m a b → Adds n b c → Adds (m + n) a c
adds-join m n a b c first second = record {
  more = first.more ++ second.more;
  parts = second.parts ∙ ap (λ (t : List Event). t ++ second.more) first.parts ∙ append_assoc a first.more second.more;
  opens = All-append IsOpenEvent first.more second.more first.opens second.opens;
  few = rw (length-append first.more second.more) (omega (arith, first.few, second.few));
}

adds-more : (m n : ℕ) (a b : List Event) → m ≤ n → Adds m a b → Adds n a b
adds-more m n a b below adds = record { more = adds.more; parts = adds.parts; opens = adds.opens; few = omega (arith, below, adds.few) }

word-address : (at : ℕ) → may_access_word at ≡ true → IsWordAddress at
word-address at may = record { is_open = grind (arith, nat_tests, may); aligned = grind (arith, nat_tests, may) }

start-address : (at : ℕ) → may_access_byte at ≡ true → IsWordAddress (word_start at)
start-address at may =
    let below : at < OPEN_END = grind (arith, nat_tests, may) in
    record { is_open = omega (arith, below); aligned = omega arith }

retire-adds : (core : Phase → Processor) → Added 1 (λ phase. retiring (core phase) phase)
retire-adds core = record { adds = λ phase. adds-one (Note (Retire Untrusted)) phase.events tt }

grant-adds : (most : ℕ) (may : Bool) (rest : Rest) → (may ≡ true → Added most rest) → Added most (granted may rest)
grant-adds most true rest added = record { adds = (added refl).adds }
grant-adds most false rest added = record { adds = λ phase. adds-none most phase.events }

read-adds : (most at : ℕ) (rest : ℕ → Rest) → IsWordAddress at → ((word : ℕ) → Added most (rest word)) → Added (1 + most) (reading at rest)
read-adds most at rest address added = record { adds = λ phase. go phase.words phase }
  where
    go : (words : List ℕ) (phase : Phase) → Adds (1 + most) phase.events (state_of (taking words at rest phase)).events
    go [] phase = adds-none (1 + most) phase.events
    go (word ∷ words) phase =
        adds-join 1 most phase.events (phase.events ++ WordRead Untrusted at word ∷ []) _ (adds-one (WordRead Untrusted at word) phase.events address)
        ((added word).adds (record phase { words = words; events = phase.events ++ WordRead Untrusted at word ∷ [] }))

write-adds : (at word : ℕ) → IsWordAddress at → Added 2 (writing at word)
write-adds at word address = record {
  adds = λ phase. adds-join 1 1 phase.events (phase.events ++ WordWrite Untrusted at word ∷ []) _ (adds-one (WordWrite Untrusted at word) phase.events address)
      (adds-one (Note (Retire Untrusted)) (phase.events ++ WordWrite Untrusted at word ∷ []) tt);
}

stop-adds : (most : ℕ) (end : PhaseEnd) → Added most (λ phase. Stops end phase)
stop-adds most end = record { adds = λ phase. adds-none most phase.events }

more-adds : (m n : ℕ) (rest : Rest) → m ≤ n → Added m rest → Added n rest
more-adds m n rest below added = record { adds = λ phase. adds-more m n phase.events _ below (added.adds phase) }

resume-adds : Added 1 resuming
resume-adds = record { adds = λ phase. adds-one (Note (Retire Untrusted)) phase.events tt }

carry-adds : (asked : Effect) → Added 3 (carrying asked)
carry-adds (effect.LoadWord d at) = grant-adds 3 (may_access_word at) _ (λ may. more-adds 2 3 _ (omega arith) (read-adds 1 at _ (word-address at may) (λ word. retire-adds (λ phase. written phase.core d word))))
carry-adds (effect.LoadByte d at) =
    grant-adds 3 (may_access_byte at) _ (λ may. more-adds 2 3 _ (omega arith) (read-adds 1 (word_start at) _ (start-address at may) (λ word. retire-adds (λ phase. written phase.core d (byte_in word at)))))
carry-adds (effect.StoreWord at word) = grant-adds 3 (may_access_word at) _ (λ may. more-adds 2 3 _ (omega arith) (write-adds at word (word-address at may)))
carry-adds (effect.StoreByte at byte) =
    grant-adds 3 (may_access_byte at) _ (λ may. read-adds 2 (word_start at) _ (start-address at may) (λ word. write-adds (word_start at) (with_byte word at byte) (start-address at may)))
carry-adds (effect.Secure f) = grant-adds 3 (allowed_in (secure_of f) Ssp) resuming (λ may. more-adds 1 3 _ (omega arith) resume-adds)
carry-adds effect.DivideByZero = record { adds = λ phase. adds-none 3 phase.events }
carry-adds effect.Proceed = record { adds = λ phase. adds-more 1 3 _ _ (omega arith) (adds-one (Note (Retire Untrusted)) phase.events tt) }
carry-adds (effect.Write d value) = record { adds = λ phase. adds-more 1 3 _ _ (omega arith) (adds-one (Note (Retire Untrusted)) phase.events tt) }
carry-adds (effect.Compare flag) = record { adds = λ phase. adds-more 1 3 _ _ (omega arith) (adds-one (Note (Retire Untrusted)) phase.events tt) }
carry-adds (effect.Jump target) = record { adds = λ phase. adds-more 1 3 _ _ (omega arith) (adds-one (Note (Retire Untrusted)) phase.events tt) }
carry-adds (effect.Link target) = record { adds = λ phase. adds-more 1 3 _ _ (omega arith) (adds-one (Note (Retire Untrusted)) phase.events tt) }

execute-adds : (found : Option Instr) → Added 3 (executing found)
execute-adds None = record { adds = λ phase. adds-none 3 phase.events }
execute-adds (Some instruction) = record { adds = λ phase. (carry-adds (effect_of instruction phase.core)).adds phase }

step-adds : (phase : Phase) → Adds 4 phase.events (state_of (phase_step phase)).events
step-adds phase =
    (grant-adds 4 (may_access_word phase.core.pc) (reading phase.core.pc (λ word. executing (instruction_in word)))
    (λ may. read-adds 3 phase.core.pc _ (word-address phase.core.pc may) (λ word. execute-adds (instruction_in word)))).adds phase

run-adds : (count : ℕ) (phase : Phase) → Adds (4 * count) phase.events (state_of (run phase_step count phase)).events
run-adds zero phase = adds-none 0 phase.events
run-adds (suc count) phase =
    let far : 4 + 4 * count ≤ 4 * suc count = omega arith in
    adds-more (4 + 4 * count) (4 * suc count) _ _ far (go (phase_step phase) (step-adds phase) (run-adds count))
  where
    go : (next : PhaseNext) → Adds 4 phase.events (state_of next).events → ((s : Phase) → Adds (4 * count) s.events (state_of (run phase_step count s)).events)
        → Adds (4 + 4 * count) phase.events (state_of (and_then next (run phase_step count))).events
    go (Goes s) adds later = adds-join 4 (4 * count) phase.events s.events _ adds (later s)
    go (Stops end s) adds later = adds-more 4 (4 + 4 * count) _ _ (omega arith) adds

state-at : (next : PhaseNext) (end : UntrustedEnd) (at : Phase) → EndsSo next end at → state_of next ≡ at
state-at next ends.Resumed at e = ap (λ (n : PhaseNext). state_of n) e
state-at next ends.Refused at e = ap (λ (n : PhaseNext). state_of n) e
state-at next ends.Watchdog at e = ap (λ (n : PhaseNext). state_of n) e

phase-adds : (events : List Event) (end : UntrustedEnd) → IsPhase events end → Adds (4 * MAX_INSTRUCTIONS) [] events
phase-adds events end is =
    let same : (state_of (run phase_step MAX_INSTRUCTIONS (phase_start (untrusted_reads events)))).events ≡ events = ap (λ (p : Phase). p.events) (state-at _ end is.at is.ends) ∙ is.events_are in
    subst (λ (l : List Event). Adds (4 * MAX_INSTRUCTIONS) [] l) same (run-adds MAX_INSTRUCTIONS (phase_start (untrusted_reads events)))

phase-open : (events : List Event) (end : UntrustedEnd) → IsPhase events end → All IsOpenEvent events
phase-open events end is = let adds = phase-adds events end is in subst (λ (l : List Event). All IsOpenEvent l) (sym adds.parts) adds.opens

phase-few : (events : List Event) (end : UntrustedEnd) → IsPhase events end → length events ≤ 4 * MAX_INSTRUCTIONS
phase-few events end is = let adds = phase-adds events end is in subst (λ (l : List Event). length l ≤ 4 * MAX_INSTRUCTIONS) (sym adds.parts) adds.few

-- ---- what the mode grants

module _ (layout : Layout) (access : Access) (at : ℕ) where
  abbrev allows : Option Class → Bool
  allows found = unwrap_or (option_map (λ class. rights Ssp class access) found) false

  closed : (found : Option Class) → class_at layout at ≡ found → OPEN_END ≤ at → allows found ≡ false
  closed None is above = refl
  closed (Some Open) is above = let lies : LiesIn layout Open at = LiesIn-class_at layout at Open is in absurd (omega (arith, lies.1, above))
  closed (Some Verified) is above = refl
  closed (Some Private) is above = refl
  closed (Some Constant) is above = refl
  closed (Some Code) is above = refl
  closed (Some Logged) is above = refl

  ssp-allows : is_allowed layout Ssp access at ≡ nat_lt at OPEN_END
  ssp-allows =
      elim (cases_lt at OPEN_END) [
        | inl below ↦
            let test : nat_lt at OPEN_END ≡ true = grind (arith, nat_tests) in
            ap allows (class_at-LiesIn layout at Open (omega arith, below)) ∙ sym test
        | inr above ↦
            let test : nat_lt at OPEN_END ≡ false = grind (arith, nat_tests) in
            closed (class_at layout at) refl above ∙ sym test
      ]

  abbrev is-none : Option Why → Bool
  is-none None = true
  is-none (Some why) = false

  by-bits : (inside aligned : Bool) → ((inside && aligned) ≡ true) ↔ ((if inside then (if aligned then None else Some Misaligned) else Some Rights) ≡ None)
  by-bits true true = (λ may. refl, λ none. refl)
  by-bits true false = (λ may. absurd (true≢false (sym may)), λ none. absurd (true≢false (sym (ap is-none none))))
  by-bits false aligned = (λ may. absurd (true≢false (sym may)), λ none. absurd (true≢false (sym (ap is-none none))))

  by-bit : (inside : Bool) → (inside ≡ true) ↔ ((if inside then None else Some Rights) ≡ None)
  by-bit true = (λ may. refl, λ none. refl)
  by-bit false = (λ may. absurd (true≢false (sym may)), λ none. absurd (true≢false (sym (ap is-none none))))

  word-grants : (may_access_word at ≡ true) ↔ (word_refusal layout Ssp access at ≡ None)
  word-grants =
      let P : Bool → Type 0 = λ b. (may_access_word at ≡ true) ↔ ((if b then (if at % 4 == 0 then None else Some Misaligned) else Some Rights) ≡ None) in
      subst P (sym ssp-allows) (by-bits (nat_lt at OPEN_END) (at % 4 == 0))

  byte-grants : (may_access_byte at ≡ true) ↔ (byte_refusal layout Ssp access at ≡ None)
  byte-grants =
      let P : Bool → Type 0 = λ b. (may_access_byte at ≡ true) ↔ ((if b then None else Some Rights) ≡ None) in
      subst P (sym ssp-allows) (by-bit (nat_lt at OPEN_END))

pub phases-open : PhasesAreOpen
phases-open = record { one = one-phase; events = phase-open; few = phase-few; word = word-grants; byte = byte-grants }
