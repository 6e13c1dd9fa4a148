-- The ideal machine on small images, step by step.
use Rattle.std.proofs.Common.{◌≡◌, ℕ, false, List, [], ◌∷◌, ◌++◌, get_or, length, nat_eq, if◌then◌else◌, replicate, Option, None, Some, refl, lit≤}
use Rattle.execution.specs.Run.{Next, Goes, Stops}
use Rattle.execution.specs.Traffic.{Entry, Traffic}
use Rattle.orbis_word.specs.Reading.{instruction_in, signed}
use Rattle.regions.specs.declared.Layout.{Layout}
use Rattle.regions.specs.declared.Class.{Class}
use Rattle.regions.specs.declared.Mode.TheVariants.{Te}
use Rattle.regions.specs.Modes.{Suspend, Check, Exit, Release, IndexTrap}
use Rattle.regions.specs.Addresses.{class_at}
use Rattle.orbis_core.specs.declared.memory.Why.TheVariants as why
use Rattle.orbis_core.specs.ByteOrder.{block_at, bytes_of, with_block}
use Rattle.orbis_core.specs.Ideal.{Ideal, IdealEnd, Ended, Index, Divide, Starved, Refused, accessed_at, fetched_at, from_reads, ideal_run, ideal_start, machine_step, secure_at, static_memory}
use Rattle.regions.specs.LooseClasses.{nothing_loose, shared_loose, shared_and_logged_loose}
use Rattle.std.specs.Prelude.{Bool}

-- a verified block, a private one, a code block and a log block
abbrev layout : Layout
layout = record {
  verified = 1;
  private = 1;
  constants = 0;
  code = 1;
  log = 1;
  shared = 4;
  data_fits = lit≤ tt;
  log_fits = lit≤ tt;
  shared_fits = lit≤ tt;
}

-- how a run ended, if it did
abbrev end_of : Next Ideal IdealEnd → Option IdealEnd
end_of (Goes state) = None
end_of (Stops end state) = Some end

-- what has come and gone
abbrev traffic_of : Next Ideal IdealEnd → Traffic ℕ
traffic_of (Goes state) = state.traffic
traffic_of (Stops end state) = state.traffic

-- a run of some words of code
abbrev run_of : (Class → Bool) → List ℕ → List ℕ → List (Entry ℕ) → ℕ → Next Ideal IdealEnd
run_of loose words input entries steps =
    ideal_run layout loose (bytes_of (words ++ replicate 12 0x15000000)) 0 input entries steps

-- a word at an address
abbrev entry : ℕ → ℕ → Entry ℕ
entry at word = record { place = at; word = word }

-- how a run of these words ends in so many steps
abbrev ends : (Class → Bool) → List ℕ → List (Entry ℕ) → ℕ → Option IdealEnd
ends loose words entries steps = end_of (run_of loose words [] entries steps)

-- l.addi r3,r0,72; release; exit; after an end more steps change nothing
abbrev hello : List ℕ
hello = 0x9c600048 ∷ 0x70000006 ∷ 0x70000001 ∷ 0x15000000 ∷ []

releases : (ends nothing_loose hello [] 2 ≡ None) × (ends nothing_loose hello [] 3 ≡ Some Ended) × ((traffic_of (run_of nothing_loose hello [] [] 9)).bytes ≡ 72 ∷ [])
unfolding instruction_in signed class_at
releases = (refl, refl, refl)

-- input; l.addi r3,r11,1; release; exit; after the last byte the input is -1
abbrev echo : List ℕ
echo = 0x70000007 ∷ 0x9c6b0001 ∷ 0x70000006 ∷ 0x70000001 ∷ []

reads_input : ((traffic_of (run_of nothing_loose echo (9 ∷ 8 ∷ []) [] 4)).bytes ≡ 10 ∷ []) × ((traffic_of (run_of nothing_loose echo (9 ∷ 8 ∷ []) [] 4)).input ≡ 8 ∷ [])
    × ((traffic_of (run_of nothing_loose echo [] [] 4)).bytes ≡ 0 ∷ [])
unfolding instruction_in signed class_at
reads_input = (refl, refl, refl)

-- l.ori r4,r0,0x8000; l.lwz r3,0(r4); release; exit: a shared word comes from outside, if it names this address
abbrev shared : List ℕ
shared = 0xa8808000 ∷ 0x84640000 ∷ 0x70000006 ∷ 0x70000001 ∷ []

takes : ((traffic_of (run_of shared_loose shared [] (entry 0x8000 65 ∷ []) 4)).bytes ≡ 65 ∷ []) × (ends shared_loose shared (entry 0x8000 65 ∷ []) 4 ≡ Some Ended)
    × (ends shared_loose shared (entry 0x8004 65 ∷ []) 4 ≡ Some Starved) × (ends shared_loose shared [] 4 ≡ Some Starved) × (ends nothing_loose shared [] 4 ≡ Some Ended)
unfolding instruction_in signed class_at
takes = (refl, refl, refl, refl, refl)

-- l.ori r4,r0,0x8000; l.sw 0(r4),r4; l.lwz r3,0(r4); index trap: a shared store goes out, and is read again only where shared words are not loose
abbrev tells : List ℕ
tells = 0xa8808000 ∷ 0xd4042000 ∷ 0x84640000 ∷ 0x70000009 ∷ []

stores_shared : (ends nothing_loose tells [] 4 ≡ Some (Index 0x8000)) × (ends shared_loose tells (entry 0x8000 7 ∷ []) 4 ≡ Some (Index 7))
    × ((traffic_of (run_of shared_loose tells [] (entry 0x8000 7 ∷ []) 4)).writes ≡ entry 0x8000 0x8000 ∷ []) × ((traffic_of (run_of shared_loose tells [] (entry 0x8000 7 ∷ []) 4)).taken ≡ 1)
unfolding instruction_in signed class_at
stores_shared = (refl, refl, refl, refl)

-- l.movhi r4,0x2000; l.sw 0(r4),r4; l.lwz r3,0(r4); divide trap: a logged word is kept, or comes from outside where it is loose
abbrev logged : List ℕ
logged = 0x18802000 ∷ 0xd4042000 ∷ 0x84640000 ∷ 0x7000000a ∷ []

stores_logged : (ends shared_loose logged [] 4 ≡ Some (Divide 0x20000000)) × (ends shared_and_logged_loose logged (entry 0x20000000 3 ∷ []) 4 ≡ Some (Divide 3))
unfolding instruction_in signed class_at
stores_logged = (refl, refl)

-- l.movhi r4,0x1000; l.sw 64(r4),r4; exit: a private word in TE; and after private on
guards : (ends nothing_loose (0x18801000 ∷ 0xd4042040 ∷ 0x70000001 ∷ 0x15000000 ∷ []) [] 9 ≡ Some (Refused why.Rights))
    × (ends nothing_loose (0x18801000 ∷ 0x70000004 ∷ 0xd4042040 ∷ 0x70000001 ∷ []) [] 9 ≡ Some Ended)
unfolding instruction_in signed class_at
guards = (refl, refl)

-- l.movhi r4,0x1000; l.sb 1(r4),r4; l.lwz r3,2(r4): a byte may stand anywhere, and a word may not
misaligned : ends nothing_loose (0x18801000 ∷ 0xd8042001 ∷ 0x84640002 ∷ 0x15000000 ∷ []) [] 9 ≡ Some (Refused why.Misaligned)
unfolding instruction_in signed class_at
misaligned = refl

-- suspend, check and resume, which the mode forbids
suspends : (ends nothing_loose (0x70000002 ∷ 0x70000008 ∷ 0x70000003 ∷ 0x15000000 ∷ []) [] 9 ≡ Some (Refused why.Mode))
    × ((traffic_of (run_of nothing_loose (0x70000002 ∷ 0x70000008 ∷ 0x70000003 ∷ 0x15000000 ∷ []) [] [] 9)).suspensions ≡ 1)
unfolding instruction_in signed class_at
suspends = (refl, refl)

-- l.divu r3,r0,r0; and a word that is no instruction
stopped : (ends nothing_loose (0xe060030a ∷ 0x15000000 ∷ 0x15000000 ∷ 0x15000000 ∷ []) [] 9 ≡ Some (Refused why.Divide))
    × (ends nothing_loose (0x15010000 ∷ 0x15000000 ∷ 0x15000000 ∷ 0x15000000 ∷ []) [] 9 ≡ Some (Refused why.Illegal))
unfolding instruction_in signed class_at
stopped = (refl, refl)

-- the start: 32 registers of 0, the flag clear, in TE, at a word of the code; nothing came or went
abbrev at_start : Ideal
at_start = ideal_start layout (bytes_of (replicate 16 0x70000001)) 3 (7 ∷ []) (entry 0x8000 5 ∷ [])

starts : (at_start.core ≡ record { pc = 0x1000008c; flag = false; registers = 0 ∷ 0 ∷ 0 ∷ 0 ∷ 0 ∷ 0 ∷ 0 ∷ 0 ∷ 0 ∷ 0 ∷ 0 ∷ 0 ∷ 0 ∷ 0 ∷ 0 ∷ 0 ∷ 0 ∷ 0 ∷ 0 ∷ 0 ∷ 0 ∷ 0 ∷ 0 ∷ 0 ∷ 0 ∷ 0 ∷ 0 ∷ 0 ∷ 0 ∷ 0 ∷ 0 ∷ 0 ∷ [] })
    × (at_start.mode ≡ Te) × (at_start.memory 0x1000008c ≡ 0x70000001) × (at_start.memory 0x10000040 ≡ 0)
    × (at_start.traffic ≡ record { input = 7 ∷ []; loose = entry 0x8000 5 ∷ []; taken = 0; bytes = []; writes = []; releases = 0; checks = 0; suspensions = 0 })
starts = (refl, refl, refl, refl, refl)

-- l.ori r4,r0,0x8001; l.lbz r3,0(r4); index trap: a loose byte is the next word modulo 256, and is counted
abbrev byte_load : List ℕ
byte_load = 0xa8808001 ∷ 0x8c640000 ∷ 0x70000009 ∷ []

loads_byte : (ends shared_loose byte_load (entry 0x8001 0x1234 ∷ []) 3 ≡ Some (Index 0x34)) × ((traffic_of (run_of shared_loose byte_load [] (entry 0x8001 0x1234 ∷ []) 3)).taken ≡ 1)
    × (ends shared_loose byte_load (entry 0x8000 0x1234 ∷ []) 3 ≡ Some Starved)
unfolding instruction_in signed class_at
loads_byte = (refl, refl, refl)

-- with words as they were read, it is the second byte of the word at 0x8000, and a word there is itself; without such a read the machine is starved
abbrev read_at : ℕ → ℕ → Option ℕ
read_at at asked = if nat_eq asked at then Some 0x12345678 else None

abbrev after_ori : List ℕ → Ideal
after_ori words = record (ideal_start layout (bytes_of (words ++ replicate 12 0x15000000)) 1 [] []) { core = record { pc = 0x10000084; flag = false; registers = 0 ∷ 0 ∷ 0 ∷ 0 ∷ 0x8001 ∷ replicate 27 0 } }

abbrev register_3 : Next Ideal IdealEnd → Option ℕ
register_3 (Goes state) = Some (get_or state.core.registers 3 0)
register_3 (Stops end state) = None

reads : (register_3 (machine_step layout (from_reads (read_at 0x8000)) (after_ori byte_load)) ≡ Some 0x34) × (end_of (machine_step layout (from_reads (read_at 0x8001)) (after_ori byte_load)) ≡ Some Starved)
    × (register_3 (machine_step layout (from_reads (read_at 0x8000)) (after_ori (0 ∷ 0x8464ffff ∷ 0 ∷ []))) ≡ Some 0x12345678)
    × ((traffic_of (machine_step layout (from_reads (read_at 0x8000)) (after_ori byte_load))).taken ≡ 1)
unfolding instruction_in signed class_at
reads = (refl, refl, refl, refl)

-- l.ori r4,r0,0x8001; l.ori r5,r0,0x1234; l.sb 0(r4),r5: a byte that goes out
stores_byte : (traffic_of (run_of shared_loose (0xa8808001 ∷ 0xa8a01234 ∷ 0xd8042800 ∷ []) [] [] 3)).writes ≡ entry 0x8001 0x34 ∷ []
unfolding instruction_in signed class_at
stores_byte = refl

-- a logged store does not go out, and a check releases nothing
stays_in : ((traffic_of (run_of shared_and_logged_loose logged [] [] 2)).writes ≡ []) × ((traffic_of (run_of nothing_loose (0x70000008 ∷ 0x70000002 ∷ []) [] [] 2)).bytes ≡ [])
    × ((traffic_of (run_of nothing_loose (0x70000008 ∷ 0x70000002 ∷ []) [] [] 2)).checks ≡ 1) × ((traffic_of (run_of nothing_loose (0x70000008 ∷ 0x70000002 ∷ []) [] [] 2)).releases ≡ 0)
unfolding instruction_in signed class_at
stays_in = (refl, refl, refl, refl)

-- what a step does
abbrev with_word : ℕ → Ideal
with_word word = record (ideal_start layout (bytes_of (word ∷ replicate 15 0x15000000)) 0 [] []) { core = record { pc = 0x10000080; flag = false; registers = 0 ∷ 0 ∷ 0 ∷ 0 ∷ 0x8001 ∷ replicate 27 0 } }

does : (fetched_at (with_word 0x8464ffff) ≡ 0x10000080) × (accessed_at (with_word 0x8464ffff) ≡ Some 0x8000) × (accessed_at (with_word 0x8c640001) ≡ Some 0x8002)
    × (accessed_at (with_word 0xd4042000) ≡ Some 0x8001) × (accessed_at (with_word 0xd8042001) ≡ Some 0x8002) × (accessed_at (with_word 0x70000008) ≡ None)
unfolding instruction_in signed
does = (refl, refl, refl, refl, refl, refl)

asks : (secure_at (with_word 0x70000008) ≡ Some Check) × (secure_at (with_word 0x70000001) ≡ Some Exit) × (secure_at (with_word 0x70000002) ≡ Some Suspend)
    × (secure_at (with_word 0x70000006) ≡ Some Release) × (secure_at (with_word 0x70000009) ≡ Some IndexTrap) × (secure_at (with_word 0x8464ffff) ≡ None) × (secure_at (with_word 0) ≡ None)
unfolding instruction_in signed
asks = (refl, refl, refl, refl, refl, refl, refl)

-- a block as bytes, and other bytes in its place
abbrev counting : List ℕ
counting = 0 ∷ 1 ∷ 2 ∷ 3 ∷ 4 ∷ 5 ∷ 6 ∷ 7 ∷ 8 ∷ 9 ∷ 10 ∷ 11 ∷ 12 ∷ 13 ∷ 14 ∷ 15 ∷ []

blocks : (block_at (static_memory layout (bytes_of counting)) 0x10000080 ≡ bytes_of counting) × (length (bytes_of counting) ≡ 64)
    × (block_at (with_block (λ at. 5) 0x10000040 (bytes_of counting)) 0x10000040 ≡ bytes_of counting) × (with_block (λ at. 5) 0x10000040 (bytes_of counting) 0x1000003c ≡ 5)
    × (with_block (λ at. 5) 0x10000040 (bytes_of counting) 0x10000044 ≡ 1) × (with_block (λ at. 5) 0x10000040 (bytes_of counting) 0x10000080 ≡ 5)
blocks = (refl, refl, refl, refl, refl, refl)
