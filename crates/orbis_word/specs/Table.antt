-- Promise: the instruction table (OpenRISC 1000 Architecture Manual, section 5), and the one word of each instruction.
use Rattle.std.specs.Prelude.{ℕ, ◌+◌, ◌*◌, ◌^◌, List, codes}
use Rattle.orbis_word.specs.declared.instruction.Instr.{Instr}
use Rattle.orbis_word.specs.declared.instruction.Instr.TheVariants.{J, Jal, Bnf, Bf, Nop, Movhi, Jr, Cust1, Lwz, Lbz, Addi, Andi, Ori, Slli, Srli, Srai, Sw, Sb, Add, Sub, And, Or, Xor, Mul, Div, Divu, Sll, Srl, Sra, Sfeq, Sfne, Sfgtu, Sfgeu, Sfltu, Sfleu, Sfgts, Sfges, Sflts, Sfles}
use Rattle.orbis_word.specs.declared.fields.Fields.{Fields}
use Rattle.orbis_word.specs.declared.fields.Fields.TheVariants.{N, K, Dk, B, F, Dia, Dai, Dak, Dal, Iab, Dab, Ab}
use Rattle.orbis_word.specs.Fields.{placed, AreInRange}

-- a row with the fields of an instruction: the name, the opcode in bits 31 to 26, and the further bits that are fixed
pub record TableRow : Type 0 where
  pub name : List ℕ
  pub opcode : ℕ
  pub further : ℕ
  pub fields : Fields

-- a row by its parts
abbrev pub row : List ℕ → ℕ → ℕ → Fields → TableRow
row name opcode further fields = record { name = name; opcode = opcode; further = further; fields = fields }

-- the table; what is neither fixed nor of a field is zero
abbrev pub table_row : Instr → TableRow
table_row (J n) = row (codes "l.j") 0x00 0 (N n)
table_row (Jal n) = row (codes "l.jal") 0x01 0 (N n)
table_row (Bnf n) = row (codes "l.bnf") 0x03 0 (N n)
table_row (Bf n) = row (codes "l.bf") 0x04 0 (N n)
table_row (Nop k) = row (codes "l.nop") 0x05 (1 * 2 ^ 24) (K k)
table_row (Movhi d k) = row (codes "l.movhi") 0x06 0 (Dk d k)
table_row (Jr b) = row (codes "l.jr") 0x11 0 (B b)
table_row (Cust1 f) = row (codes "l.cust1") 0x1c 0 (F f)
table_row (Lwz d i a) = row (codes "l.lwz") 0x21 0 (Dia d i a)
table_row (Lbz d i a) = row (codes "l.lbz") 0x23 0 (Dia d i a)
table_row (Addi d a i) = row (codes "l.addi") 0x27 0 (Dai d a i)
table_row (Andi d a k) = row (codes "l.andi") 0x29 0 (Dak d a k)
table_row (Ori d a k) = row (codes "l.ori") 0x2a 0 (Dak d a k)
table_row (Slli d a l) = row (codes "l.slli") 0x2e (0 * 2 ^ 6) (Dal d a l)
table_row (Srli d a l) = row (codes "l.srli") 0x2e (1 * 2 ^ 6) (Dal d a l)
table_row (Srai d a l) = row (codes "l.srai") 0x2e (2 * 2 ^ 6) (Dal d a l)
table_row (Sw i a b) = row (codes "l.sw") 0x35 0 (Iab i a b)
table_row (Sb i a b) = row (codes "l.sb") 0x36 0 (Iab i a b)
table_row (Add d a b) = row (codes "l.add") 0x38 0x0 (Dab d a b)
table_row (Sub d a b) = row (codes "l.sub") 0x38 0x2 (Dab d a b)
table_row (And d a b) = row (codes "l.and") 0x38 0x3 (Dab d a b)
table_row (Or d a b) = row (codes "l.or") 0x38 0x4 (Dab d a b)
table_row (Xor d a b) = row (codes "l.xor") 0x38 0x5 (Dab d a b)
table_row (Mul d a b) = row (codes "l.mul") 0x38 (3 * 2 ^ 8 + 0x6) (Dab d a b)
table_row (Div d a b) = row (codes "l.div") 0x38 (3 * 2 ^ 8 + 0x9) (Dab d a b)
table_row (Divu d a b) = row (codes "l.divu") 0x38 (3 * 2 ^ 8 + 0xa) (Dab d a b)
table_row (Sll d a b) = row (codes "l.sll") 0x38 (0 * 2 ^ 6 + 0x8) (Dab d a b)
table_row (Srl d a b) = row (codes "l.srl") 0x38 (1 * 2 ^ 6 + 0x8) (Dab d a b)
table_row (Sra d a b) = row (codes "l.sra") 0x38 (2 * 2 ^ 6 + 0x8) (Dab d a b)
table_row (Sfeq a b) = row (codes "l.sfeq") 0x39 (0x0 * 2 ^ 21) (Ab a b)
table_row (Sfne a b) = row (codes "l.sfne") 0x39 (0x1 * 2 ^ 21) (Ab a b)
table_row (Sfgtu a b) = row (codes "l.sfgtu") 0x39 (0x2 * 2 ^ 21) (Ab a b)
table_row (Sfgeu a b) = row (codes "l.sfgeu") 0x39 (0x3 * 2 ^ 21) (Ab a b)
table_row (Sfltu a b) = row (codes "l.sfltu") 0x39 (0x4 * 2 ^ 21) (Ab a b)
table_row (Sfleu a b) = row (codes "l.sfleu") 0x39 (0x5 * 2 ^ 21) (Ab a b)
table_row (Sfgts a b) = row (codes "l.sfgts") 0x39 (0xa * 2 ^ 21) (Ab a b)
table_row (Sfges a b) = row (codes "l.sfges") 0x39 (0xb * 2 ^ 21) (Ab a b)
table_row (Sflts a b) = row (codes "l.sflts") 0x39 (0xc * 2 ^ 21) (Ab a b)
table_row (Sfles a b) = row (codes "l.sfles") 0x39 (0xd * 2 ^ 21) (Ab a b)

-- the fixed bits of an instruction
abbrev pub fixed_of : Instr → ℕ
fixed_of instruction = (table_row instruction).opcode * 2 ^ 26 + (table_row instruction).further

-- the word of an instruction: the fixed bits of its row, and its fields at their places
abbrev pub encoding : Instr → ℕ
encoding instruction = fixed_of instruction + placed (table_row instruction).fields

-- the fields of an instruction are in their ranges
abbrev pub IsInRange : Instr → Type 0
IsInRange instruction = AreInRange (table_row instruction).fields
