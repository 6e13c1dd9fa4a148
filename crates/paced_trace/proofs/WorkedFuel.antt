-- Worked fuel: a program of three instructions, of which a release and the exit may have a check. The numbers were counted by hand.
use Rattle.std.proofs.Common.{◌≡◌, ℕ, ◌+◌, ◌≤◌, ◌<◌, List, [], ◌∷◌, ◌++◌, replicate, Option, Some, None, refl, subst, inl, inr, arith, lit≤}
use Rattle.std.proofs.lemmas.Bool.{cases_lt}
use Rattle.execution.specs.Run.{EndsIn, Goes, Next, Stops, run}
use Rattle.execution.proofs.RunLemmas.{ends-in-one}
use Rattle.orbis_word.specs.Reading.{instruction_in, signed}
use Rattle.regions.specs.declared.Layout.{Layout}
use Rattle.regions.specs.Addresses.{class_at}
use Rattle.regions.specs.LooseClasses.{nothing_loose}
use Rattle.regions.specs.Modes.{SecureInstruction, Exit, Release, Suspend, Check}
use Rattle.regions.specs.Tree.{height_of}
use Rattle.off_chip.specs.OffChipBytes.{static_blocks}
use Rattle.orbis_core.specs.declared.Why.{Why}
use Rattle.orbis_core.specs.declared.Why.TheVariants as why
use Rattle.orbis_core.specs.ByteOrder.{bytes_of}
use Rattle.orbis_core.specs.Ideal.{Ideal, IdealEnd, Ended, Refused, ideal_start, ideal_step}
use Rattle.bus_machine.specs.EventBounds.{enough, pace, worst}
use Rattle.paced_trace.specs.PacedSteps.{asked_among, may_check, pace_of, suspends}
use Rattle.paced_trace.specs.SufficientFuel.{FuelSuffices, IsRefusal, asked_from}

-- a verified block, one of code and one of the log
abbrev pub one_static : Layout
one_static = record { verified = 1; private = 0; constants = 0; code = 1; log = 1; shared = 4; data_fits = lit≤ tt; log_fits = lit≤ tt; shared_fits = lit≤ tt }

abbrev start_of_words : List ℕ → Ideal
start_of_words words = ideal_start one_static (bytes_of (words ++ replicate 12 0x15000000)) 0 [] []

abbrev pub asked : List ℕ → ℕ → Option SecureInstruction
asked words k = asked_from one_static nothing_loose (start_of_words words) k

-- l.addi r3,r0,72; release; exit
abbrev pub hello : List ℕ
hello = 0x9c600048 ∷ 0x70000006 ∷ 0x70000001 ∷ 0x15000000 ∷ []

-- suspend; check; the trap of an index
abbrev others : List ℕ
others = 0x70000002 ∷ 0x70000008 ∷ 0x70000009 ∷ 0x15000000 ∷ []

-- each step's own secure instruction, and none after the end
of_steps : (asked hello 0 ≡ None) × (asked hello 1 ≡ Some Release) × (asked hello 2 ≡ Some Exit) × (asked hello 3 ≡ None)
    × (asked others 0 ≡ Some Suspend) × (asked others 1 ≡ Some Check)
unfolding instruction_in signed class_at height_of
of_steps = (refl, refl, refl, refl, refl, refl)

-- hello makes three steps, of which two may have a check; the other one makes a check, a trap and a suspension
counted : (asked_among may_check (asked hello) 3 ≡ 2) × (asked_among suspends (asked hello) 3 ≡ 0) × (asked_among may_check (asked others) 3 ≡ 2)
    × (asked_among suspends (asked others) 3 ≡ 1)
unfolding instruction_in signed class_at height_of
counted = (refl, refl, refl, refl)

-- 1 + 1 + 4 + 1 events of entering, 9 for each of three steps, and 41 for each of two checks
of_hello : (pace_of one_static (asked hello) 3 ≡ 116) × (worst one_static ≡ 16642)
unfolding instruction_in signed class_at height_of
of_hello = (refl, refl)

-- with one static block nothing is to spare: enough is as much as the pace of 32 steps for each unit of work, of each release and check, and one more
nothing_spared : (enough one_static 2 3 4 5 ≡ worst one_static + pace one_static 64 8 5) × (static_blocks one_static ≡ 1)
unfolding height_of
nothing_spared = (refl, refl)

-- with none it is too little, so the law asks for one
abbrev no_static : Layout
no_static = record { verified = 1; private = 0; constants = 0; code = 0; log = 1; shared = 4; data_fits = lit≤ tt; log_fits = lit≤ tt; shared_fits = lit≤ tt }

too_little : enough no_static 2 3 4 5 + 1 ≡ worst no_static + pace no_static 64 8 5
unfolding height_of
too_little = refl

-- ---- fuel for it

abbrev step : Ideal → Next Ideal IdealEnd
step = ideal_step one_static nothing_loose

abbrev after : ℕ → Next Ideal IdealEnd
after k = run step k (start_of_words hello)

abbrev state_in : Next Ideal IdealEnd → Ideal
state_in (Goes state) = state
state_in (Stops end state) = state

abbrev HasGone : ℕ → Type 0
HasGone k = (state : Ideal) × (after k ≡ Goes state)

goes-on : (k : ℕ) → k < 3 → HasGone k
unfolding instruction_in signed class_at height_of
goes-on k below =
    elim (cases_lt k 1) [
      | inl none ↦ let e : 0 ≡ k = omega (arith, none) in subst HasGone e (state_in (after 0), refl)
      | inr some ↦ elim (cases_lt k 2) [
        | inl one ↦ let e : 1 ≡ k = omega (arith, some, one) in subst HasGone e (state_in (after 1), refl)
        | inr two ↦ let e : 2 ≡ k = omega (arith, two, below) in subst HasGone e (state_in (after 2), refl)
      ]
    ]

ends : EndsIn step 3 (start_of_words hello) Ended (state_in (after 3))
unfolding instruction_in signed class_at height_of
ends = record { ended = refl; not_before = goes-on }

-- the three steps and one more instruction use 16,758 events, and with one event of fuel less they do not suffice
suffices : FuelSuffices one_static nothing_loose (start_of_words hello) 16758
unfolding instruction_in signed class_at height_of
suffices = record { steps = 3; end = Ended; at = state_in (after 3); ends = ends; covers = lit≤ tt }

one_less : FuelSuffices one_static nothing_loose (start_of_words hello) 16757 → ⊥
one_less fuel =
    let one = ends-in-one step fuel.steps 3 (start_of_words hello) fuel.at (state_in (after 3)) fuel.end Ended fuel.ends ends in
    let covers : worst one_static + pace_of one_static (asked hello) 3 ≤ 16757 = subst (λ (k : ℕ). worst one_static + pace_of one_static (asked hello) k ≤ 16757) one.0 fuel.covers in
    omega (arith, covers, of_hello.0, of_hello.1)

-- a refusal is one, and no other end is
refusals : IsRefusal (Refused why.Mode) × (IsRefusal Ended → ⊥)
refusals = ((why.Mode, refl), λ refused. ended-not refused.0 refused.1)
  where
    ended-not : (reason : Why) → Ended ≡ Refused reason → ⊥
    ended-not reason same = cc
