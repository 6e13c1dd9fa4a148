-- Worked phases, by an assembler and by hand.
use Rattle.std.proofs.Common.{◌≡◌, ℕ, refl, List, [], ◌∷◌}
use Rattle.execution.specs.Run.{Goes, Stops, run, state_of}
use Rattle.off_chip.specs.declared.event.Event.{Event}
use Rattle.off_chip.specs.declared.event.Event.TheVariants.{WordRead, WordWrite, Note}
use Rattle.off_chip.specs.declared.event.Mark.TheVariants.{Retire}
use Rattle.off_chip.specs.declared.event.Who.TheVariants.{Secure, Untrusted}
use Rattle.orbis_word.specs.Reading.{instruction_in, signed}
use Rattle.untrusted_run.specs.declared.phase.UntrustedEnd.TheVariants as ends
use Rattle.untrusted_run.specs.Phases.{IsPhase, PhaseEnd, PhaseNext, Refused, Resumed, Wanting, phase_start, phase_step, untrusted_reads}

abbrev retired : Event
retired = Note (Retire Untrusted)

abbrev fetched : ℕ → ℕ → Event
fetched at word = WordRead Untrusted at word

-- what a phase comes to in so many instructions over these words: its end, if it has one, and the events
data Shown : Type 0 where
  Going : List Event → Shown
  Over : PhaseEnd → List Event → Shown

abbrev shown : PhaseNext → Shown
shown (Goes phase) = Going phase.events
shown (Stops end phase) = Over end phase.events

abbrev phase_over : ℕ → List ℕ → Shown
phase_over count words = shown (run phase_step count (phase_start words))

-- resume alone, which the loader puts where untrusted code starts
resumes : phase_over 4096 (0x70000003 ∷ []) ≡ Over Resumed (fetched 0x2000 0x70000003 ∷ retired ∷ [])
unfolding instruction_in signed
resumes = refl

resumes-is-phase : IsPhase (fetched 0x2000 0x70000003 ∷ retired ∷ []) ends.Resumed
unfolding instruction_in signed
resumes-is-phase = record { at = state_of (run phase_step 4096 (phase_start (0x70000003 ∷ []))); ends = refl; events_are = refl; all_read = refl }

-- l.movhi r3,0x1000; l.sw 0(r3),r0: an address of the tree, which is refused before any event
refuses : phase_over 4096 (0x18601000 ∷ 0xd4030000 ∷ []) ≡ Over Refused (fetched 0x2000 0x18601000 ∷ retired ∷ fetched 0x2004 0xd4030000 ∷ [])
unfolding instruction_in signed
refuses = refl

-- l.ori r4,r0,0x8001; l.addi r5,r0,0x41; l.sb 0(r4),r5; l.lbz r6,1(r4); l.lwz r7,-1(r4); l.sw 3(r4),r6; l.cust1 resume
works : phase_over 4096 (0xa8808001 ∷ 0x9ca00041 ∷ 0xd8042800 ∷ 0x01020304 ∷ 0x8cc40001 ∷ 0x01410304 ∷ 0x84e4ffff ∷ 0x11223344 ∷ 0xd4043003 ∷ 0x70000003 ∷ [])
    ≡ Over Resumed (
    fetched 0x2000 0xa8808001 ∷ retired
    ∷ fetched 0x2004 0x9ca00041 ∷ retired
    ∷ fetched 0x2008 0xd8042800 ∷ fetched 0x8000 0x01020304 ∷ WordWrite Untrusted 0x8000 0x01410304 ∷ retired
    ∷ fetched 0x200c 0x8cc40001 ∷ fetched 0x8000 0x01410304 ∷ retired
    ∷ fetched 0x2010 0x84e4ffff ∷ fetched 0x8000 0x11223344 ∷ retired
    ∷ fetched 0x2014 0xd4043003 ∷ WordWrite Untrusted 0x8004 3 ∷ retired
    ∷ fetched 0x2018 0x70000003 ∷ retired ∷ [])
unfolding instruction_in signed
works = refl

-- a jump to itself goes on and on; each instruction counts
goes-on : phase_over 3 (0 ∷ 0 ∷ 0 ∷ 0 ∷ []) ≡ Going (fetched 0x2000 0 ∷ retired ∷ fetched 0x2000 0 ∷ retired ∷ fetched 0x2000 0 ∷ retired ∷ [])
unfolding instruction_in signed
goes-on = refl

-- no instruction; a word that does not begin where words do; a secure instruction other than resume; a zero divisor
refuses-no-word : phase_over 4096 (0xffffffff ∷ []) ≡ Over Refused (fetched 0x2000 0xffffffff ∷ [])
unfolding instruction_in signed
refuses-no-word = refl

refuses-misaligned : phase_over 4096 (0x84600001 ∷ []) ≡ Over Refused (fetched 0x2000 0x84600001 ∷ [])
unfolding instruction_in signed
refuses-misaligned = refl

refuses-release : phase_over 4096 (0x70000006 ∷ []) ≡ Over Refused (fetched 0x2000 0x70000006 ∷ [])
unfolding instruction_in signed
refuses-release = refl

refuses-divide : phase_over 4096 (0xe0630309 ∷ []) ≡ Over Refused (fetched 0x2000 0xe0630309 ∷ [])
unfolding instruction_in signed
refuses-divide = refl

-- a jump to where nothing is open: l.movhi r3,0x1000; l.jr r3
refuses-fetch : phase_over 4096 (0x18601000 ∷ 0x44001800 ∷ []) ≡ Over Refused (fetched 0x2000 0x18601000 ∷ retired ∷ fetched 0x2004 0x44001800 ∷ retired ∷ [])
unfolding instruction_in signed
refuses-fetch = refl

-- without words it is wanting
wants : phase_over 4096 [] ≡ Over Wanting []
unfolding instruction_in signed
wants = refl

-- the words that count are those that untrusted code read
reads : untrusted_reads (fetched 0x2000 1 ∷ WordRead Secure 0x2000 2 ∷ WordWrite Untrusted 0x2000 3 ∷ retired ∷ fetched 0x2004 4 ∷ []) ≡ 1 ∷ 4 ∷ []
reads = refl
