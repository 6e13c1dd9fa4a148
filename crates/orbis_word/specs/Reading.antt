-- Promise: reading a word by the layout of its opcode, and finding the row with the bits that are left.
use Rattle.std.specs.Prelude.{ℕ, ◌+◌, ◌-◌, ◌*◌, ◌/◌, ◌%◌, ◌^◌, ◌==◌, nat_lt, nat_le, cond, List, [], ◌∷◌, Option, None, Some, option_and_then, ℤ, pos, negsuc}
use Rattle.orbis_word.specs.declared.fields.Fields.{Fields}
use Rattle.orbis_word.specs.declared.fields.Fields.TheVariants.{N, K, Dk, B, F, Dia, Dai, Dak, Dal, Iab, Dab, Ab}
use Rattle.orbis_word.specs.declared.instruction.Instr.{Instr}
use Rattle.orbis_word.specs.declared.instruction.Instr.TheVariants.{J, Jal, Bnf, Bf, Nop, Movhi, Jr, Cust1, Lwz, Lbz, Addi, Andi, Ori, Slli, Srli, Srai, Sw, Sb, Add, Sub, And, Or, Xor, Mul, Div, Divu, Sll, Srl, Sra, Sfeq, Sfne, Sfgtu, Sfgeu, Sfltu, Sfleu, Sfgts, Sfges, Sflts, Sfles}
use Rattle.orbis_word.specs.Fields.{placed}
use Rattle.orbis_word.specs.Table.{fixed_of}

-- the number whose two's complement in so many bits this is
unfoldable pub signed : ℕ → ℕ → ℤ
signed width bits = cond (nat_lt bits (2 ^ (width - 1))) (pos bits) (negsuc (2 ^ width - (bits + 1)))

-- the fields next to the first of these opcodes that is the wanted one
abbrev pub at_opcode : ℕ → List (ℕ × Fields) → Option Fields
at_opcode opcode [] = None
at_opcode opcode (row ∷ rows) = cond (row.0 == opcode) (Some row.1) (at_opcode opcode rows)

-- the number of a secure instruction, if it is one
abbrev pub secure : ℕ → Option Fields
secure f = cond (nat_le f 10) (Some (F f)) None

-- the layout of each opcode but that of the secure instructions, with what a word has at the places of the fields
abbrev pub layouts : ℕ → ℕ → ℕ → ℕ → List (ℕ × Fields)
layouts word d a b =
    (0x00, N (signed 26 (word % 2 ^ 26))) ∷ (0x01, N (signed 26 (word % 2 ^ 26))) ∷ (0x03, N (signed 26 (word % 2 ^ 26))) ∷ (0x04, N (signed 26 (word % 2 ^ 26)))
    ∷ (0x05, K (word % 2 ^ 16)) ∷ (0x06, Dk d (word % 2 ^ 16)) ∷ (0x11, B b)
    ∷ (0x21, Dia d (signed 16 (word % 2 ^ 16)) a) ∷ (0x23, Dia d (signed 16 (word % 2 ^ 16)) a) ∷ (0x27, Dai d a (signed 16 (word % 2 ^ 16)))
    ∷ (0x29, Dak d a (word % 2 ^ 16)) ∷ (0x2a, Dak d a (word % 2 ^ 16)) ∷ (0x2e, Dal d a (word % 32))
    ∷ (0x35, Iab (signed 16 (d * 2 ^ 11 + word % 2 ^ 11)) a b) ∷ (0x36, Iab (signed 16 (d * 2 ^ 11 + word % 2 ^ 11)) a b)
    ∷ (0x38, Dab d a b) ∷ (0x39, Ab a b) ∷ []

-- the fields of a word, by its opcode
abbrev pub fields_in : ℕ → ℕ → Option Fields
fields_in opcode word =
    cond (opcode == 0x1c) (secure (word % 32)) (at_opcode opcode (layouts word (word / 2 ^ 21 % 32) (word / 2 ^ 16 % 32) (word / 2 ^ 11 % 32)))

-- the instructions with these fields
abbrev pub instructions_with : Fields → List Instr
instructions_with (N n) = J n ∷ Jal n ∷ Bnf n ∷ Bf n ∷ []
instructions_with (K k) = Nop k ∷ []
instructions_with (Dk d k) = Movhi d k ∷ []
instructions_with (B b) = Jr b ∷ []
instructions_with (F f) = Cust1 f ∷ []
instructions_with (Dia d i a) = Lwz d i a ∷ Lbz d i a ∷ []
instructions_with (Dai d a i) = Addi d a i ∷ []
instructions_with (Dak d a k) = Andi d a k ∷ Ori d a k ∷ []
instructions_with (Dal d a l) = Slli d a l ∷ Srli d a l ∷ Srai d a l ∷ []
instructions_with (Iab i a b) = Sw i a b ∷ Sb i a b ∷ []
instructions_with (Dab d a b) =
    Add d a b ∷ Sub d a b ∷ And d a b ∷ Or d a b ∷ Xor d a b ∷ Mul d a b ∷ Div d a b ∷ Divu d a b ∷ Sll d a b ∷ Srl d a b ∷ Sra d a b ∷ []
instructions_with (Ab a b) =
    Sfeq a b ∷ Sfne a b ∷ Sfgtu a b ∷ Sfgeu a b ∷ Sfltu a b ∷ Sfleu a b ∷ Sfgts a b ∷ Sfges a b ∷ Sflts a b ∷ Sfles a b ∷ []

-- the first of some instructions with these fixed bits
abbrev pub with_fixed : ℕ → List Instr → Option Instr
with_fixed fixed [] = None
with_fixed fixed (i ∷ is) = cond (fixed_of i == fixed) (Some i) (with_fixed fixed is)

-- the instruction that a word is, if it is one
unfoldable pub instruction_in : ℕ → Option Instr
instruction_in word = option_and_then (λ fields. with_fixed (word - placed fields) (instructions_with fields)) (fields_in (word / 2 ^ 26) word)
