-- Worked runs: the bus machine of a trace beside the ideal machine, and runs of which one part is wrong.
use Rattle.std.proofs.Common.{◌≡◌, ℕ, zero, suc, ◌^◌, ◌<◌, true, false, List, [], ◌∷◌, ◌++◌, replicate, refl, ap, ◌∙◌, subst, lit≤, arith}
use Rattle.std.specs.List.{AllByRecursion}
use Rattle.execution.specs.Run.{Next, Goes, Stops, state_of}
use Rattle.execution.specs.Traffic.{Entry}
use Rattle.orbis_word.specs.Reading.{instruction_in, signed}
use Rattle.regions.specs.Addresses.{class_at}
use Rattle.regions.specs.LooseClasses.{shared_loose}
use Rattle.regions.specs.Tree.{height_of}
use Rattle.off_chip.specs.declared.Event.{Event}
use Rattle.off_chip.specs.declared.Event.TheVariants.{WordRead, WordWrite, Note}
use Rattle.off_chip.specs.declared.Mark.TheVariants as marks
use Rattle.off_chip.specs.declared.Who.TheVariants.{Secure}
use Rattle.orbis_core.specs.ByteOrder.{bytes_of}
use Rattle.orbis_core.specs.Ideal.{Ideal, IdealEnd, Ended, Index, effect_at}
use Rattle.orbis_core.specs.Soundness.{small_layout}
use Rattle.orbis_core.proofs.SoundnessLemmas.{logged-unsound, release-sound}
use Rattle.bus_machine.specs.BusMachine.{LoadedProgram, bus_machine}
use Rattle.ideal_trace.specs.FaithfulRuns.{ExchangesFor, IsSoundProgram, RunsFaithfully}
use Rattle.ideal_trace.specs.IdealRuns.{EndsIdeally, IsIdealAt, IsIdealSoFar, IsSameMachine, ideal_steps, with_words}
use Rattle.ideal_trace.specs.SameSteps.{ComesSame}
use Rattle.ideal_trace.proofs.MoreWordsLemmas.{small-byte}
use Rattle.ideal_trace.proofs.Worked.{after, code_read, done, first_word, hello, image, layout, other, program, shared, veil}

-- ---- sound programs

abbrev of_words : List ℕ → ℕ → LoadedProgram
of_words words start = record { layout = small_layout; statics = bytes_of words; entry = start; input = [] }

are-bytes : (words : List ℕ) → AllByRecursion (λ byte. byte < 2 ^ 8) (bytes_of words)
are-bytes [] = tt
are-bytes (word ∷ words) = (small-byte word 0, (small-byte word 1, (small-byte word 2, (small-byte word 3, are-bytes words))))

abbrev releasing : List ℕ
releasing = 0x70000006 ∷ 0x70000001 ∷ replicate 14 0x15000000

-- to release and to exit
sound : IsSoundProgram (of_words releasing 0)
sound = record { statics = are-bytes releasing; entry = lit≤ tt; sound = release-sound }

-- it does not begin in its code, a block is not of bytes, and a logged word is used as an address
sound_not : (IsSoundProgram (of_words releasing 16) → ⊥) × (IsSoundProgram (record { layout = small_layout; statics = 256 ∷ []; entry = 0; input = [] }) → ⊥)
    × (IsSoundProgram (of_words (0x18802000 ∷ 0x84a40000 ∷ 0x84650000 ∷ 0x70000001 ∷ replicate 12 0x15000000) 0) → ⊥)
sound_not = (
  λ so. let e : 16 < 16 = so.entry in omega (arith, e),
  λ so. let e : 256 < 2 ^ 8 = so.statics.0 in omega (arith, e),
  λ so. logged-unsound so.sound,
)

-- ---- machines

abbrev bus_at : List ℕ → List Event → Ideal
bus_at words events = state_of (bus_machine veil (program words) (after words events))

-- memory where no word starts is no part of a machine; the processor is
same : IsSameMachine (bus_at hello []) (bus_at hello []) × (IsSameMachine (bus_at hello (done ∷ [])) (bus_at hello []) → ⊥)
    × (IsSameMachine (bus_at hello []) (record (bus_at hello []) { memory = λ at. 0 }) → ⊥)
unfolding instruction_in signed class_at height_of
same = (
  record { words = record { word = λ at aligned. refl }; is = refl },
  λ so. let e : 0x10000080 ≡ 0x10000084 = ap (λ (s : Ideal). s.core.pc) so.is in omega (arith, e),
  λ so. let e : 0 ≡ 0x9c600048 = so.words.word 0x10000080 refl in omega (arith, e),
)

-- ---- boundaries

-- a word is read from an open address, and written to another
abbrev exchanging : List Event
exchanging = done ∷ WordRead Secure 0x8000 65 ∷ done ∷ WordWrite Secure 0x8004 65 ∷ done ∷ []

ideal : IsIdealAt (program shared) (after shared exchanging) (bus_at shared exchanging) × IsIdealAt (program shared) (after shared []) (bus_at shared [])
unfolding instruction_in signed class_at height_of
ideal = (
  record { ideal = bus_at shared exchanging; same = record { words = record { word = λ at aligned. refl }; is = refl }; stands = λ more. refl; written = refl },
  record { ideal = bus_at shared []; same = record { words = record { word = λ at aligned. refl }; is = refl }; stands = λ more. refl; written = refl },
)

-- at the state of an earlier step; of another word; and where another word was written than it wrote
ideal_not : (IsIdealAt (program shared) (after shared exchanging) (bus_at shared (done ∷ [])) → ⊥)
    × (IsIdealAt (program shared) (after shared exchanging) (bus_at shared (done ∷ WordRead Secure 0x8000 66 ∷ done ∷ WordWrite Secure 0x8004 66 ∷ done ∷ [])) → ⊥)
    × (IsIdealAt (program shared) (after shared (done ∷ WordRead Secure 0x8000 65 ∷ done ∷ WordWrite Secure 0x8004 66 ∷ done ∷ [])) (bus_at shared exchanging) → ⊥)
unfolding instruction_in signed class_at height_of
ideal_not = (
  λ so. let e : 0x1000008c ≡ 0x10000084 = ap (λ (n : Next Ideal IdealEnd). (state_of n).core.pc) (so.stands []) ∙ ap (λ (s : Ideal). s.core.pc) so.same.is in omega (arith, e),
  λ so. let e : 65 ≡ 66 = ap (λ (n : Next Ideal IdealEnd). first_word (state_of n).traffic.writes) (so.stands []) ∙ ap (λ (s : Ideal). first_word s.traffic.writes) so.same.is in omega (arith, e),
  λ so. let e : 65 ≡ 66 = ap (λ (n : Next Ideal IdealEnd). first_word (state_of n).traffic.writes) (so.stands []) ∙ ap first_word so.written in omega (arith, e),
)

-- within the step of the load its word is still to come, and within that of the store the word comes after what was written
abbrev within : List Event
within = done ∷ WordRead Secure 0x8000 65 ∷ []

abbrev storing : List Event
storing = done ∷ WordRead Secure 0x8000 65 ∷ done ∷ WordWrite Secure 0x8004 65 ∷ []

so_far : IsIdealSoFar (program shared) (after shared within) (bus_at shared within) × IsIdealSoFar (program shared) (after shared storing) (bus_at shared storing)
unfolding instruction_in signed class_at height_of
so_far = (
  record { ideal = bus_at shared within; same = record { words = record { word = λ at aligned. refl }; is = refl }; stands = λ more. refl; written = refl },
  record { ideal = bus_at shared storing; same = record { words = record { word = λ at aligned. refl }; is = refl }; stands = λ more. refl; written = refl },
)

-- the step is not done; and the word is not yet written by the machine
so_far_not : (IsIdealSoFar (program shared) (after shared within) (bus_at shared (done ∷ WordRead Secure 0x8000 65 ∷ done ∷ [])) → ⊥)
    × (IsIdealSoFar (program shared) (after shared storing) (bus_at shared exchanging) → ⊥)
unfolding instruction_in signed class_at height_of
so_far_not = (
  λ so. let e : 0x10000084 ≡ 0x10000088 = ap (λ (n : Next Ideal IdealEnd). (state_of n).core.pc) (so.stands []) ∙ ap (λ (s : Ideal). s.core.pc) so.same.is in omega (arith, e),
  λ so. let e : 0x10000088 ≡ 0x1000008c = ap (λ (n : Next Ideal IdealEnd). (state_of n).core.pc) (so.stands []) ∙ ap (λ (s : Ideal). s.core.pc) so.same.is in omega (arith, e),
)

-- one end, or none, at the same machine
comes : ComesSame (Goes (bus_at hello [])) (Goes (bus_at hello [])) × ComesSame (Stops Ended (bus_at hello [])) (Stops Ended (bus_at hello []))
    × (ComesSame (Stops Ended (bus_at hello [])) (Stops (Index 0) (bus_at hello [])) → ⊥) × (ComesSame (Goes (bus_at hello [])) (Stops Ended (bus_at hello [])) → ⊥)
    × (ComesSame (Stops Ended (bus_at hello [])) (Goes (bus_at hello [])) → ⊥) × (ComesSame (Goes (bus_at hello [])) (Goes (bus_at hello (done ∷ []))) → ⊥)
unfolding instruction_in signed class_at height_of
comes = (
  same.0,
  (refl, same.0),
  λ so. let e : Index 0 ≡ Ended = so.0 in cc,
  λ so. so,
  λ so. so,
  λ so. let e : 0x10000084 ≡ 0x10000080 = ap (λ (s : Ideal). s.core.pc) so.is in omega (arith, e),
)

-- ---- ends

abbrev greeting : List Event
greeting = done ∷ Note (marks.Sent 1) ∷ done ∷ Note marks.CheckStart ∷ Note marks.CheckPassed ∷ done ∷ []

-- it went on before
before : (more : List (Entry ℕ)) (fewer : ℕ) → fewer < 3 → (state : Ideal) × (ideal_steps (program hello) shared_loose more fewer ≡ Goes state)
unfolding instruction_in signed class_at height_of
before more zero below = (_, refl)
before more (suc zero) below = (_, refl)
before more (suc (suc zero)) below = (_, refl)
before more (suc (suc (suc fewer))) below = absurd (omega (arith, below))

ended : EndsIdeally (program hello) (after hello greeting) Ended (bus_at hello greeting)
unfolding instruction_in signed class_at height_of
ended = record {
  ideal = bus_at hello greeting;
  same = record { words = record { word = λ at aligned. refl }; is = refl };
  ends = λ more. record { ended = refl; not_before = λ fewer below. before more fewer below };
  written = refl;
}

ended_not : (EndsIdeally (program hello) (after hello greeting) (Index 0) (bus_at hello greeting) → ⊥) × (EndsIdeally (program hello) (after hello (done ∷ done ∷ [])) Ended (bus_at hello greeting) → ⊥)
    × (EndsIdeally (program hello) (after hello (done ∷ done ∷ done ∷ done ∷ [])) Ended (bus_at hello greeting) → ⊥)
unfolding instruction_in signed class_at height_of
ended_not = (
  λ so. let e : Stops Ended _ ≡ Stops (Index 0) (with_words [] so.ideal) = (so.ends []).ended in cc,
  λ so. let e : Goes _ ≡ Stops Ended (with_words [] so.ideal) = (so.ends []).ended in cc,
  λ so. let goes = (so.ends []).not_before 3 (lit≤ tt) in let e : Stops Ended _ ≡ Goes goes.0 = goes.1 in cc,
)

-- ---- what is told of a whole trace

abbrev Exchanged : List (Entry ℕ) → List (Entry ℕ) → Ideal → Type 0
Exchanged read wrote state = ExchangesFor layout (effect_at state) read wrote

runs : RunsFaithfully (image hello) veil (program hello) (after hello (done ∷ []))
unfolding instruction_in signed class_at height_of
runs = record {
  entering = ((((((((tt, λ below. refl), λ below. refl), λ below. refl), λ below. refl), λ below. refl), λ below. refl), λ below. refl), λ below. absurd (omega (arith, below)));
  bytes = ((((((((tt, tt), tt), tt), are-bytes (hello ++ replicate 12 0x15000000)), tt), tt), tt), tt);
  memory = ((((((((tt, tt), tt), tt), λ state entered goes faithful. absurd (omega (arith, entered))), tt), tt), tt), tt);
  words = ((
    (
      (
        (((((tt, λ s retires e g. absurd (cc)), λ s retires e g. absurd (cc)), λ s retires e g. absurd (cc)), λ s retires e g. absurd (cc)), λ s retires e g. absurd (cc)),
        λ s retires e g. absurd (cc),
      ),
      λ s retires e g. absurd (cc),
    ),
    λ state retires entered goes. subst (Exchanged [] []) (ap state_of goes) (refl, refl),
  )
      );
  faithful = record { each = ((((((((tt, refl), refl), refl), refl), refl), refl), refl), refl) };
}

-- a block is read that was not there
runs_not : RunsFaithfully (image hello) veil (program hello) (after hello (code_read other ∷ [])) → ⊥
unfolding instruction_in signed class_at height_of
runs_not so = let e : false ≡ true = so.faithful.each.1 in cc
