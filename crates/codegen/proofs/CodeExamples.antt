-- Code of small flat programs, and where the ideal machine comes to on it, each of which computes.
use Rattle.std.proofs.Common.{◌≡◌, ℕ, ◌+◌, ◌*◌, nat_eq, if◌then◌else◌, List, [], ◌∷◌, length, map, Option, Some, None, lit≤, refl}
use Rattle.std.specs.Prelude.{true, false, pos, negsuc}
use Rattle.execution.specs.Run.{Next, Goes, Stops}
use Rattle.execution.specs.Traffic.{Traffic}
use Rattle.aegis_num.specs.declared.UnaryOp.TheVariants.{Neg, Inv, Not}
use Rattle.aegis_num.specs.declared.BinaryOp.TheVariants as on
use Rattle.orbis_word.specs.Reading.{instruction_in, signed}
use Rattle.orbis_word.specs.Table.{encoding}
use Rattle.orbis_word.specs.declared.Instr.{Instr}
use Rattle.orbis_word.specs.declared.Instr.TheVariants.{J, Jal, Bf, Movhi, Jr, Cust1, Lwz, Addi, Ori, Slli, Sw, Add, Sub, Sfeq, Sfne, Sfltu}
use Rattle.regions.specs.declared.Layout.{Layout}
use Rattle.regions.specs.LooseClasses.{nothing_loose}
use Rattle.regions.specs.Addresses.{class_at}
use Rattle.orbis_core.specs.ByteOrder.{bytes_of}
use Rattle.orbis_core.specs.Ideal.{Ideal, IdealEnd, Ended, Index, ideal_run}
use Rattle.ir_code.specs.declared.Ir.{Ir}
use Rattle.ir_code.specs.declared.Op.{Op}
use Rattle.ir_code.specs.declared.Op.TheVariants as op
use Rattle.ir_code.proofs.Worked.{straight, looping, calling}
use Rattle.codegen.specs.OpInstructions.{Sites, base, upper, lower, distance, instructions_of, start_code}
use Rattle.codegen.specs.ImageCode.{code_size, code_blocks, code_of, entry_of, offset_of, start_size}

-- ---- parts

parts : (upper 0x10000040 ≡ 0x1000) × (lower 0x10000040 ≡ pos 0x40) × (upper 0x10008000 ≡ 0x1001) × (lower 0x10008000 ≡ negsuc 0x7fff) × (lower 0x1000fffc ≡ negsuc 3)
parts = (refl, refl, refl, refl, refl)

-- the first and the last words of shared cells, of data and of logged cells, and those at which the upper part changes
bases : (base 0x8000 ≡ 25) × (base 0xfffc ≡ 25) × (base 0x10000000 ≡ 16) × (base 0x10007ffc ≡ 16) × (base 0x10008000 ≡ 17) × (base 0x10017ffc ≡ 17) × (base 0x10057ffc ≡ 21) × (base 0x1006683c ≡ 22)
    × (base 0x20000000 ≡ 23) × (base 0x20007ffc ≡ 23) × (base 0x20008000 ≡ 24) × (base 0x2000fffc ≡ 24)
bases = (refl, refl, refl, refl, refl, refl, refl, refl, refl, refl, refl, refl)

start : (start_code 100 90
    ≡ Movhi 16 0x1000 ∷ Movhi 17 0x1001 ∷ Movhi 18 0x1002 ∷ Movhi 19 0x1003 ∷ Movhi 20 0x1004 ∷ Movhi 21 0x1005 ∷ Movhi 22 0x1006 ∷ Movhi 23 0x2000 ∷ Movhi 24 0x2001 ∷ Movhi 25 1 ∷ J (negsuc 19) ∷ [])
    × (length (start_code 100 90) ≡ start_size)
start = (refl, refl)

distances : (distance 3 7 ≡ pos 4) × (distance 7 3 ≡ negsuc 3) × (distance 5 5 ≡ pos 0)
distances = (refl, refl, refl)

-- ---- each operation, the first instruction having the number 100: cell c is at 0x1000fff0 + 4 * c, and label l at l

abbrev here : Sites
here = record { home = λ c. 0x1000fff0 + 4 * c; label = λ l. l }

abbrev made : Op → List Instr → Type 0
made o is = instructions_of here 100 o ≡ is

const : made (op.Const 1 0x12345678) (Movhi 13 0x1234 ∷ Ori 13 13 0x5678 ∷ Sw (negsuc 11) 17 13 ∷ [])
const = refl

copy : made (op.Copy 1 4) (Lwz 13 (pos 0) 17 ∷ Sw (negsuc 11) 17 13 ∷ [])
copy = refl

unary : (made (op.Unary Neg 0 5) (Lwz 13 (pos 4) 17 ∷ Sub 13 0 13 ∷ Sw (negsuc 15) 17 13 ∷ []))
    × (made (op.Unary Inv 0 5) (Lwz 13 (pos 4) 17 ∷ Addi 14 0 (negsuc 0) ∷ Sub 13 14 13 ∷ Sw (negsuc 15) 17 13 ∷ []))
    × (made (op.Unary Not 0 5) (Lwz 13 (pos 4) 17 ∷ Sfeq 13 0 ∷ Addi 13 0 (pos 1) ∷ Bf (pos 2) ∷ Addi 13 0 (pos 0) ∷ Sw (negsuc 15) 17 13 ∷ []))
unary = (refl, refl, refl)

binary : made (op.Binary on.Sub 0 4 5)
    (Lwz 13 (pos 0) 17 ∷ Lwz 14 (pos 4) 17 ∷ Sub 13 13 14 ∷ Sw (negsuc 15) 17 13 ∷ [])
binary = refl

test : made (op.Test 4 0x10002 0x20003)
    (Lwz 13 (pos 0) 17 ∷ Movhi 14 1 ∷ Ori 14 14 2 ∷ Sfltu 13 14 ∷ Bf (pos 4) ∷ Movhi 3 2 ∷ Ori 3 3 3 ∷ Cust1 9 ∷ [])
test = refl

nonzero : made (op.NonZero 4 0x20003) (Lwz 13 (pos 0) 17 ∷ Sfne 13 0 ∷ Bf (pos 4) ∷ Movhi 3 2 ∷ Ori 3 3 3 ∷ Cust1 10 ∷ [])
nonzero = refl

load : made (op.Load 5 6 4)
    (Lwz 13 (pos 0) 17 ∷ Slli 13 13 2 ∷ Add 12 17 13 ∷ Lwz 13 (pos 8) 12 ∷ Sw (pos 4) 17 13 ∷ [])
load = refl

store : made (op.Store 6 4 5)
    (Lwz 13 (pos 0) 17 ∷ Lwz 14 (pos 4) 17 ∷ Slli 13 13 2 ∷ Add 12 17 13 ∷ Sw (pos 8) 12 14 ∷ [])
store = refl

control : (made (op.Label 7) []) × (made (op.Jump 90) (J (negsuc 9) ∷ []))
    × (made (op.JumpZero 4 120) (Lwz 13 (pos 0) 17 ∷ Sfeq 13 0 ∷ Bf (pos 18) ∷ []))
control = (refl, refl, refl)

calls : (made (op.Arg 5 4) (Lwz 8 (pos 0) 17 ∷ [])) × (made (op.Param 4 0) (Sw (pos 0) 17 3 ∷ []))
    × (made (op.Call 100) (Jal (pos 0) ∷ [])) × (made (op.SaveLink 4) (Sw (pos 0) 17 9 ∷ []))
    × (made (op.Return 4) (Lwz 9 (pos 0) 17 ∷ Jr 9 ∷ [])) × (made (op.SetResult 4) (Lwz 11 (pos 0) 17 ∷ []))
    × (made (op.Result 4) (Sw (pos 0) 17 11 ∷ []))
calls = (refl, refl, refl, refl, refl, refl, refl)

edge : (made (op.Input 4) (Cust1 7 ∷ Sw (pos 0) 17 11 ∷ [])) × (made (op.Release 4) (Lwz 3 (pos 0) 17 ∷ Cust1 6 ∷ []))
    × (made op.Check (Cust1 8 ∷ [])) × (made op.Suspend (Cust1 2 ∷ [])) × (made (op.SetMode true) (Cust1 4 ∷ [])) × (made (op.SetMode false) (Cust1 5 ∷ []))
    × (made op.Exit (Cust1 1 ∷ []))
edge = (refl, refl, refl, refl, refl, refl, refl)

-- ---- whole code, on the ideal machine

-- what is to be seen of a run
pub record Seen : Type 0 where
  pub end : Option IdealEnd
  pub traffic : Traffic ℕ

abbrev seen : Next Ideal IdealEnd → Seen
seen (Goes state) = record { end = None; traffic = state.traffic }
seen (Stops end state) = record { end = Some end; traffic = state.traffic }

abbrev released : List ℕ → ℕ → Traffic ℕ
released bytes releases = record { input = []; loose = []; taken = 0; bytes = bytes; writes = []; releases = releases; checks = 0; suspensions = 0 }

-- one verified block and two of code, and one verified and one private block and three of code
abbrev small : Layout
small = record { verified = 1; private = 0; constants = 0; code = 2; log = 0; shared = 4; data_fits = lit≤ tt; log_fits = lit≤ tt; shared_fits = lit≤ tt }

abbrev large : Layout
large = record { verified = 1; private = 1; constants = 0; code = 3; log = 0; shared = 4; data_fits = lit≤ tt; log_fits = lit≤ tt; shared_fits = lit≤ tt }

-- the cells in order, from address 0x10000000 on
abbrev in_order : ℕ → ℕ
in_order c = 0x10000000 + 4 * c

abbrev runs : Layout → (ℕ → ℕ) → Ir → ℕ → Seen
runs layout home ir steps = seen (ideal_run layout nothing_loose (bytes_of (map encoding (code_of home ir))) (entry_of ir) [] [] steps)

straight-sizes : (code_size straight.ops ≡ 11) × (code_blocks straight ≡ 2) × (length (code_of in_order straight) ≡ 32) × (entry_of straight ≡ 11)
straight-sizes = (refl, refl, refl, refl)

straight-runs : (runs small in_order straight 21 ≡ record { end = None; traffic = released (0x48 ∷ 0x69 ∷ []) 2 })
    × (runs small in_order straight 22 ≡ record { end = Some Ended; traffic = released (0x48 ∷ 0x69 ∷ []) 2 })
unfolding instruction_in signed class_at
straight-runs = (refl, refl)

-- a loop that ends by a trap at the token 7
abbrev looping-home : ℕ → ℕ
looping-home c = if nat_eq c 0 then 0x10000000 else 0x10000004 + 4 * c

looping-runs : runs large looping-home looping 99 ≡ record { end = Some (Index 7); traffic = released (0 ∷ 1 ∷ []) 2 }
unfolding instruction_in signed class_at
looping-runs = refl

-- a call of a private function
abbrev calling-home : ℕ → ℕ
calling-home c = if nat_eq c 0 then 0x10000000 else 0x1000003c + 4 * c

calling-sizes : (code_size calling.ops ≡ 23) × (code_blocks calling ≡ 3) × (length (code_of calling-home calling) ≡ 48) × (entry_of calling ≡ 23) × (offset_of calling.ops calling.entry ≡ 12)
calling-sizes = (refl, refl, refl, refl, refl)

calling-runs : runs large calling-home calling 40 ≡ record { end = Some Ended; traffic = released (0x43 ∷ []) 1 }
unfolding instruction_in signed class_at
calling-runs = refl
