-- Images of small flat programs, and definitions at work, each of which computes.
use Rattle.std.proofs.Common.{◌≡◌, ℕ, ◌*◌, ◌^◌, ◌<◌, Bool, List, [], ◌∷◌, ◌++◌, length, map, replicate, Option, Some, None, lit<, lit≤, refl, arith, sym, ◌∙◌, ap}
use Rattle.execution.specs.Run.{Next, Goes, Stops}
use Rattle.execution.specs.Traffic.{Element, Entry, Traffic}
use Rattle.execution.specs.Naming.{Addressed}
use Rattle.orbis_word.specs.Reading.{instruction_in, signed}
use Rattle.orbis_word.specs.Table.{encoding}
use Rattle.orbis_word.specs.declared.Instr.{Instr}
use Rattle.orbis_word.specs.declared.Instr.TheVariants.{Cust1, Ori}
use Rattle.orbis_core.specs.declared.memory.Why.TheVariants as why
use Rattle.execution.proofs.RunLemmas.{ends-one}
use Rattle.ir_code.specs.FlatMeaning.{flat_step}
use Rattle.ir_code.specs.FlatStates.{FlatState, first_flat}
use Rattle.regions.specs.declared.Class.{Class}
use Rattle.regions.specs.declared.Class.TheVariants.{Verified, Constant}
use Rattle.regions.specs.declared.Layout.{Layout}
use Rattle.regions.specs.Addresses.{class_at}
use Rattle.regions.specs.LooseClasses.{nothing_loose, shared_loose}
use Rattle.orbis_core.specs.Ideal as ideal
use Rattle.orbis_core.specs.Ideal.{Ideal, IdealEnd, ideal_run}
use Rattle.orbis_core.specs.ByteOrder.{bytes_of}
use Rattle.ir_code.specs.declared.Ir.{Ir}
use Rattle.ir_code.specs.declared.Op.TheVariants as op
use Rattle.ir_code.specs.FlatStates as flat
use Rattle.ir_code.proofs.Worked.{straight, looping, cell, cells, having}
use Rattle.image_file.specs.declared.Image.{Image}
use Rattle.region_plan.specs.Homes.{home_address}
use Rattle.codegen.specs.OpInstructions.{start_code}
use Rattle.codegen.specs.ImageCode.{size_of, offset_of, offset_found, sites_of, code_of, code_blocks, entry_of, constant_words, constant_bytes}
use Rattle.codegen.specs.EmittedImage.{IsImageOf, elements_at, elements_from, address_name, machine_end, HasFirstWords, MeansCode}

-- ---- numbers of instructions

sizes : (size_of (op.Label 3) ≡ 0) × (size_of (op.Jump 3) ≡ 1) × (size_of (op.Test 1 2 3) ≡ 8) × (size_of (op.Load 1 2 3) ≡ 5)
sizes = (refl, refl, refl, refl)

-- the loop's label stands at the fourth instruction, and a label that is not there at the first
offsets : (offset_of looping.ops 0 ≡ 0) × (offset_of looping.ops 1 ≡ 3) × (offset_of looping.ops 2 ≡ 3) × (offset_of looping.ops 3 ≡ 11) × (offset_of looping.ops 99 ≡ 28) × (offset_found looping.ops None ≡ 0)
    × ((sites_of (λ c. 0) looping).label 9 ≡ 3) × ((sites_of (λ c. 0) looping).label 8 ≡ 0)
offsets = (refl, refl, refl, refl, refl, refl, refl, refl)

-- so many operations of one instruction each, with the entry at the fourth
abbrev exits : ℕ → Ir
exits count = record { cells = []; ops = replicate count op.Exit; entry = 3 }

-- a whole block more only where an instruction is over; the start comes last
blocks : (code_blocks (exits 5) ≡ 1) × (code_blocks (exits 6) ≡ 2) × (code_of (λ c. 0) (exits 5) ≡ replicate 5 (Cust1 1) ++ start_code 5 3) × (entry_of (exits 5) ≡ 5)
blocks = (refl, refl, refl, refl)

-- ---- constants: those of the cells in order, and then zeros

constants : (constant_words cells ≡ 5 ∷ 6 ∷ 7 ∷ []) × (constant_words (cell Verified 1 ∷ []) ≡ [])
    × (constant_bytes 1 (having []) ≡ (0 ∷ 0 ∷ 0 ∷ 5 ∷ 0 ∷ 0 ∷ 0 ∷ 6 ∷ 0 ∷ 0 ∷ 0 ∷ 7 ∷ []) ++ replicate 52 0) × (constant_bytes 0 straight ≡ [])
constants = (refl, refl, refl, refl)

first-words : HasFirstWords cells
first-words = (tt, (tt, ((lit< tt, (lit< tt, (lit< tt, tt))), (tt, (tt, (tt, tt))))))

large-word : HasFirstWords (record { class = Constant; words = 1; first = 2 ^ 32 ∷ [] } ∷ []) → ⊥
large-word h = let e : 2 ^ 32 < 2 ^ 32 = h.0.0 in omega (arith, e)

-- ---- names

abbrev element : ℕ → ℕ → Element
element c i = record { variable = c; index = i }

elements : (elements_at 3 100 0 2 ≡ record { element = element 3 0; address = 100 } ∷ record { element = element 3 1; address = 104 } ∷ [])
    × (map (λ (a : Addressed). a.address) (elements_from (λ c. 1000 * c) 1 (cell Verified 1 ∷ cell Verified 2 ∷ [])) ≡ 1000 ∷ 2000 ∷ 2004 ∷ [])
elements = (refl, refl)

-- one block of each class, and two of code
abbrev large : Layout
large = record { verified = 1; private = 1; constants = 1; code = 3; log = 1; shared = 8; data_fits = lit≤ tt; log_fits = lit≤ tt; shared_fits = lit≤ tt }

names : (address_name large (having []) (element 0 0) ≡ 0x10000000) × (address_name large (having []) (element 1 0) ≡ 0x10000004) × (address_name large (having []) (element 2 2) ≡ 0x10000088)
    × (address_name large (having []) (element 3 1) ≡ 0x8004) × (address_name large (having []) (element 4 1) ≡ 0x20000004) × (address_name large (having []) (element 5 0) ≡ 0x10000040)
names = (refl, refl, refl, refl, refl, refl)

-- ---- ends

ends : (machine_end flat.Ended ≡ Some ideal.Ended) × (machine_end (flat.Index 7) ≡ Some (ideal.Index 7)) × (machine_end (flat.Divide 8) ≡ Some (ideal.Divide 8)) × (machine_end flat.Starved ≡ Some ideal.Starved)
    × (machine_end flat.Stuck ≡ None)
ends = (refl, refl, refl, refl, refl)

-- ---- whole images on the ideal machine

pub record Seen : Type 0 where
  pub end : Option IdealEnd
  pub traffic : Traffic ℕ

abbrev seen : Next Ideal IdealEnd → Seen
seen (Goes state) = record { end = None; traffic = state.traffic }
seen (Stops end state) = record { end = Some end; traffic = state.traffic }

abbrev released : List ℕ → ℕ → Traffic ℕ
released bytes releases = record { input = []; loose = []; taken = 0; bytes = bytes; writes = []; releases = releases; checks = 0; suspensions = 0 }

abbrev entry : ℕ → ℕ → Entry ℕ
entry at word = record { place = at; word = word }

abbrev runs : (Class → Bool) → Layout → Ir → List (Entry ℕ) → ℕ → Seen
runs loose layout ir words steps =
    seen (ideal_run layout loose (constant_bytes layout.constants ir ++ bytes_of (map encoding (code_of (home_address layout ir) ir))) (entry_of ir) [] words steps)

-- an element of a constant
constant-run : runs nothing_loose large (having (op.Const 1 2 ∷ op.Load 0 2 1 ∷ op.Release 0 ∷ op.Exit ∷ [])) [] 99 ≡ record { end = Some ideal.Ended; traffic = released (7 ∷ []) 1 }
unfolding instruction_in signed class_at
constant-run = refl

-- a shared element is written, and read from outside, or not where nothing is loose; starved where the next entry has another address
abbrev sharing : Ir
sharing = having (op.Const 0 1 ∷ op.Const 1 9 ∷ op.Store 3 0 1 ∷ op.Load 1 3 0 ∷ op.Release 1 ∷ op.Exit ∷ [])

shared-run : (runs shared_loose large sharing (entry 0x8004 2 ∷ []) 99 ≡ record { end = Some ideal.Ended; traffic = record (released (2 ∷ []) 1) { taken = 1; writes = entry 0x8004 9 ∷ [] } })
    × (runs nothing_loose large sharing (entry 0x8004 2 ∷ []) 99 ≡ record { end = Some ideal.Ended; traffic = record (released (9 ∷ []) 1) { loose = entry 0x8004 2 ∷ []; writes = entry 0x8004 9 ∷ [] } })
    × (runs shared_loose large sharing (entry 0x8000 2 ∷ []) 99 ≡ record { end = Some ideal.Starved; traffic = record (released [] 0) { loose = entry 0x8000 2 ∷ []; writes = entry 0x8004 9 ∷ [] } })
unfolding instruction_in signed class_at
shared-run = (refl, refl, refl)

-- arguments in two slots; a zero divisor
slots-run : runs nothing_loose large (having (op.Const 0 3 ∷ op.Const 1 4 ∷ op.Arg 0 0 ∷ op.Arg 5 1 ∷ op.Param 0 5 ∷ op.Release 0 ∷ op.Exit ∷ [])) [] 99 ≡ record { end = Some ideal.Ended; traffic = released (4 ∷ []) 1 }
unfolding instruction_in signed class_at
slots-run = refl

divide-run : runs nothing_loose large (having (op.NonZero 0 8 ∷ op.Exit ∷ [])) [] 99 ≡ record { end = Some (ideal.Divide 8); traffic = released [] 0 }
unfolding instruction_in signed class_at
divide-run = refl

-- ---- an image of code, and what is none

-- the words of the straight line, by hand
abbrev words : List ℕ
words = 0x19a00000 ∷ 0xa9ad0048 ∷ 0xd4106800 ∷ 0x84700000 ∷ 0x70000006 ∷ 0x19a00000 ∷ 0xa9ad0169 ∷ 0xd4106800 ∷ 0x84700000 ∷ 0x70000006 ∷ 0x70000001 ∷ 0x1a001000 ∷ 0x1a201001 ∷ 0x1a401002 ∷ 0x1a601003 ∷ 0x1a801004 ∷ 0x1aa01005 ∷ 0x1ac01006 ∷ 0x1ae02000 ∷ 0x1b002001 ∷ 0x1b200001 ∷ 0x03ffffeb ∷ replicate 10 0x15000000

abbrev small : Layout
small = record { verified = 1; private = 0; constants = 0; code = 2; log = 0; shared = 0; data_fits = lit≤ tt; log_fits = lit≤ tt; shared_fits = lit≤ tt }

abbrev image_with : (entry : ℕ) → entry < 32 → (code : List ℕ) → length code ≡ 32 → Image
image_with entry inside code whole = record { layout = small; entry = entry; constants = []; code = code; shared_words = refl; entry_inside = inside; constants_whole = refl; code_whole = whole }

straight-image : IsImageOf straight (image_with 11 (lit< tt) words refl)
unfolding instruction_in signed
straight-image = record { sizes = record { verified = refl; private = refl; constants = refl; code = refl; log = refl; shared = refl }; entry = refl; constants = refl; code = refl }

-- not with another entry, nor with another word
other-entry : IsImageOf straight (image_with 0 (lit< tt) words refl) → ⊥
other-entry is = let e : 0 ≡ 11 = is.entry in omega (arith, e)

-- the second word of the code is another one
abbrev other-words : List ℕ
other-words = 0x19a00000 ∷ 0xa9ad0049 ∷ 0xd4106800 ∷ 0x84700000 ∷ 0x70000006 ∷ 0x19a00000 ∷ 0xa9ad0169 ∷ 0xd4106800 ∷ 0x84700000 ∷ 0x70000006 ∷ 0x70000001 ∷ 0x1a001000 ∷ 0x1a201001 ∷ 0x1a401002 ∷ 0x1a601003 ∷ 0x1a801004 ∷ 0x1aa01005 ∷ 0x1ac01006 ∷ 0x1ae02000 ∷ 0x1b002001 ∷ 0x1b200001 ∷ 0x03ffffeb ∷ replicate 10 0x15000000

other-code : IsImageOf straight (image_with 11 (lit< tt) other-words refl) → ⊥
unfolding instruction_in signed
other-code is = let e : 0x49 ≡ 0x48 = ap (λ (l : List (Option Instr)). constant_in l) is.code in omega (arith, e)
  where
    constant_in : List (Option Instr) → ℕ
    constant_in (a ∷ Some (Ori d r k) ∷ l) = k
    constant_in l = 0

-- ---- images that do not mean the straight line

abbrev filled : ℕ → Image
filled word = image_with 0 (lit< tt) (word ∷ replicate 31 0x15000000) refl

-- a word that is no instruction is refused
illegal : MeansCode nothing_loose straight (filled 0xffffffff) → ⊥
unfolding instruction_in signed class_at
illegal means = means.never_refused [] [] 1 why.Illegal _ refl

-- an exit at once releases nothing
silent : MeansCode nothing_loose straight (filled 0x70000001) → ⊥
unfolding instruction_in signed class_at
silent means =
    let r = means.ended [] [] 1 ideal.Ended _ refl in
    let both = ends-one (flat_step nothing_loose straight) 5 r.0 (first_flat straight [] []) _ r.2 flat.Ended r.1 refl r.3 in
    let bytes : [] ≡ r.2.traffic.bytes = ap (λ (t : Traffic ℕ). t.bytes) r.4.traffic in
    let all : 0x48 ∷ 0x69 ∷ [] ≡ r.2.traffic.bytes = ap (λ (f : FlatState). f.traffic.bytes) both.1 in
    let none : 0 ≡ 2 = ap length (bytes ∙ sym all) in
    omega (arith, none)
