-- Promise: the instructions of each operation of flat code, in one table. Register 12 takes addresses, 13 to 15 take words, 3 to 8 are
-- the slots from 0 to 5, 9 is the link and 11 the result. Registers 16 to 25 have the upper parts of addresses from the start on.
use Rattle.std.specs.Prelude.{ℕ, zero, suc, ◌+◌, ◌-◌, ◌/◌, ◌%◌, ◌^◌, true, false, nat_le, nat_lt, cond, List, [], ◌∷◌, ℤ, pos, negsuc}
use Rattle.std.specs.Int.{w16, cast_signed}
use Rattle.aegis_num.specs.declared.UnaryOp.{UnaryOp}
use Rattle.aegis_num.specs.declared.UnaryOp.TheVariants.{Neg, Inv, Not}
use Rattle.aegis_num.specs.declared.BinaryOp.{BinaryOp}
use Rattle.aegis_num.specs.declared.BinaryOp.TheVariants as on
use Rattle.orbis_word.specs.declared.Instr.{Instr}
use Rattle.orbis_word.specs.declared.Instr.TheVariants.{J, Jal, Bf, Movhi, Jr, Cust1, Lwz, Addi, Ori, Slli, Sw, Add, Sub, And, Or, Xor, Mul, Div, Divu, Sll, Srl, Sra, Sfeq, Sfne, Sfgtu, Sfgeu, Sfltu, Sfleu, Sfgts, Sfges, Sflts, Sfles}
use Rattle.ir_code.specs.declared.Op.{Op}
use Rattle.ir_code.specs.declared.Op.TheVariants as op

-- where things are: the address of each cell's first word, and the number of the instruction at each label
pub record Sites : Type 0 where
  pub home : ℕ → ℕ
  pub label : ℕ → ℕ

-- ---- parts. Each takes the instructions that come after it.

-- an address is its upper part, shifted by 16 bits, and its lower part with a sign
abbrev pub upper : ℕ → ℕ
upper address = (address + 2 ^ 15) / 2 ^ 16

abbrev pub lower : ℕ → ℤ
lower address = cast_signed w16 (address % 2 ^ 16)

-- The register that has the upper part of an address: 25 has the part 1, that of shared cells, 16 to 22 have those from 0x1000 to
-- 0x1006, and 23 and 24 those of logged cells, 0x2000 and 0x2001.
abbrev pub base_for : ℕ → ℕ
base_for part = cond (nat_lt part 0x1000) 25 (cond (nat_lt part 0x2000) (16 + part % 8) (23 + part % 2))

abbrev pub base : ℕ → ℕ
base address = base_for (upper address)

-- so many registers from one on get upper parts, from this one on
abbrev pub fill : ℕ → ℕ → ℕ → List Instr → List Instr
fill d part zero rest = rest
fill d part (suc count) rest = Movhi d part ∷ fill (d + 1) (part + 1) count rest

-- a register gets the word at an address
abbrev pub read_into : ℕ → ℕ → List Instr → List Instr
read_into d address rest = Lwz d (lower address) (base address) ∷ rest

-- the word of a register is put at an address
abbrev pub keep : ℕ → ℕ → List Instr → List Instr
keep address b rest = Sw (lower address) (base address) b ∷ rest

-- a register gets a word
abbrev pub number : ℕ → ℕ → List Instr → List Instr
number d word rest = Movhi d (word / 2 ^ 16) ∷ Ori d d (word % 2 ^ 16) ∷ rest

-- register 12 gets the upper part of an address and four times register 13
abbrev pub indexed : ℕ → List Instr → List Instr
indexed address rest = Slli 13 13 2 ∷ Add 12 (base address) 13 ∷ rest

-- register 13 gets 1 where the flag is set, and else 0
abbrev pub flagged : List Instr → List Instr
flagged rest = Addi 13 0 (pos 1) ∷ Bf (pos 2) ∷ Addi 13 0 (pos 0) ∷ rest

-- from one instruction to another by their numbers
abbrev pub distance : ℕ → ℕ → ℤ
distance from to = cond (nat_le from to) (pos (to - from)) (negsuc (from - to - 1))

-- where the flag is not set the run ends by a trap, at this token
abbrev pub trapped : ℕ → ℕ → List Instr
trapped trap token = Bf (pos 4) ∷ number 3 token (Cust1 trap ∷ [])

-- an operator on register 13
abbrev pub on_one : UnaryOp → List Instr → List Instr
on_one Neg rest = Sub 13 0 13 ∷ rest
on_one Inv rest = Addi 14 0 (negsuc 0) ∷ Sub 13 14 13 ∷ rest
on_one Not rest = Sfeq 13 0 ∷ flagged rest

-- an operator on registers 13 and 14
abbrev pub on_two : BinaryOp → List Instr → List Instr
on_two on.Add rest = Add 13 13 14 ∷ rest
on_two on.Sub rest = Sub 13 13 14 ∷ rest
on_two on.Mul rest = Mul 13 13 14 ∷ rest
on_two on.DivS rest = Div 13 13 14 ∷ rest
on_two on.DivU rest = Divu 13 13 14 ∷ rest
on_two on.RemS rest = Div 15 13 14 ∷ Mul 15 15 14 ∷ Sub 13 13 15 ∷ rest
on_two on.RemU rest = Divu 15 13 14 ∷ Mul 15 15 14 ∷ Sub 13 13 15 ∷ rest
on_two on.And rest = And 13 13 14 ∷ rest
on_two on.Or rest = Or 13 13 14 ∷ rest
on_two on.Xor rest = Xor 13 13 14 ∷ rest
on_two on.Shl rest = Sll 13 13 14 ∷ rest
on_two on.ShrS rest = Sra 13 13 14 ∷ rest
on_two on.ShrU rest = Srl 13 13 14 ∷ rest
on_two on.Eq rest = Sfeq 13 14 ∷ flagged rest
on_two on.Ne rest = Sfne 13 14 ∷ flagged rest
on_two on.LtS rest = Sflts 13 14 ∷ flagged rest
on_two on.LtU rest = Sfltu 13 14 ∷ flagged rest
on_two on.LeS rest = Sfles 13 14 ∷ flagged rest
on_two on.LeU rest = Sfleu 13 14 ∷ flagged rest
on_two on.GtS rest = Sfgts 13 14 ∷ flagged rest
on_two on.GtU rest = Sfgtu 13 14 ∷ flagged rest
on_two on.GeS rest = Sfges 13 14 ∷ flagged rest
on_two on.GeU rest = Sfgeu 13 14 ∷ flagged rest

-- ---- the table: the instructions of an operation, the first of which has this number

abbrev pub instructions_of : Sites → ℕ → Op → List Instr
instructions_of at n (op.Const to value) = number 13 value (keep (at.home to) 13 [])
instructions_of at n (op.Copy to from) = read_into 13 (at.home from) (keep (at.home to) 13 [])
instructions_of at n (op.Unary operator to a) = read_into 13 (at.home a) (on_one operator (keep (at.home to) 13 []))
instructions_of at n (op.Binary operator to a b) = read_into 13 (at.home a) (read_into 14 (at.home b) (on_two operator (keep (at.home to) 13 [])))
instructions_of at n (op.Test a length token) = read_into 13 (at.home a) (number 14 length (Sfltu 13 14 ∷ trapped 9 token))
instructions_of at n (op.NonZero a token) = read_into 13 (at.home a) (Sfne 13 0 ∷ trapped 10 token)
instructions_of at n (op.Load to array index) =
    read_into 13 (at.home index) (indexed (at.home array) (Lwz 13 (lower (at.home array)) 12 ∷ keep (at.home to) 13 []))
instructions_of at n (op.Store array index from) =
    read_into 13 (at.home index) (read_into 14 (at.home from) (indexed (at.home array) (Sw (lower (at.home array)) 12 14 ∷ [])))
instructions_of at n (op.Label l) = []
instructions_of at n (op.Jump l) = J (distance n (at.label l)) ∷ []
instructions_of at n (op.JumpZero a l) = read_into 13 (at.home a) (Sfeq 13 0 ∷ Bf (distance (n + 2) (at.label l)) ∷ [])
instructions_of at n (op.Arg slot from) = read_into (3 + slot) (at.home from) []
instructions_of at n (op.Param to slot) = keep (at.home to) (3 + slot) []
instructions_of at n (op.Call l) = Jal (distance n (at.label l)) ∷ []
instructions_of at n (op.SaveLink cell) = keep (at.home cell) 9 []
instructions_of at n (op.Return cell) = read_into 9 (at.home cell) (Jr 9 ∷ [])
instructions_of at n (op.SetResult from) = read_into 11 (at.home from) []
instructions_of at n (op.Result to) = keep (at.home to) 11 []
instructions_of at n (op.Input to) = Cust1 7 ∷ keep (at.home to) 11 []
instructions_of at n (op.Release a) = read_into 3 (at.home a) (Cust1 6 ∷ [])
instructions_of at n op.Check = Cust1 8 ∷ []
instructions_of at n op.Suspend = Cust1 2 ∷ []
instructions_of at n (op.SetMode true) = Cust1 4 ∷ []
instructions_of at n (op.SetMode false) = Cust1 5 ∷ []
instructions_of at n op.Exit = Cust1 1 ∷ []

-- ---- the start: the upper parts come into their registers, and the run goes on at the entry. The first instruction has this number.

abbrev pub start_code : (n entry : ℕ) → List Instr
start_code n entry = fill 16 0x1000 7 (fill 23 0x2000 2 (fill 25 1 1 (J (distance (n + 10) entry) ∷ [])))
