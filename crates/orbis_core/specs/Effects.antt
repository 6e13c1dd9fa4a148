-- Promise: the instruction table: what each instruction asks for (OpenRISC 1000 Architecture Manual, section 5.3; there is no delay slot).
use Rattle.std.specs.Prelude.{ℕ, ◌*◌, ◌+◌, ◌%◌, ◌^◌, ◌<◌, ◌≤◌, Bool, not, ◌==◌, if◌then◌else◌, ℤ, pos, ◌*ℤ◌}
use Rattle.aegis_num.specs.declared.BinaryOp.{BinaryOp}
use Rattle.aegis_num.specs.declared.BinaryOp.TheVariants as on
use Rattle.aegis_num.specs.Operators.{wrapped, word_of_int, binary, traps}
use Rattle.orbis_word.specs.declared.Instr.{Instr}
use Rattle.orbis_word.specs.declared.Instr.TheVariants.{J, Jal, Bnf, Bf, Nop, Movhi, Jr, Cust1, Lwz, Lbz, Addi, Andi, Ori, Slli, Srli, Srai, Sw, Sb, Add, Sub, And, Or, Xor, Mul, Div, Divu, Sll, Srl, Sra, Sfeq, Sfne, Sfgtu, Sfgeu, Sfltu, Sfleu, Sfgts, Sfges, Sflts, Sfles}
use Rattle.orbis_core.specs.declared.effect.Effect.{Effect}
use Rattle.orbis_core.specs.declared.effect.Effect.TheVariants.{Proceed, Write, Compare, Jump, Link, LoadWord, LoadByte, StoreWord, StoreByte, DivideByZero, Secure}
use Rattle.orbis_core.specs.Processor.{Processor, register}

-- the address at a distance from another one, modulo 2 ^ 32
abbrev pub displaced : ℕ → ℤ → ℕ
displaced from distance = wrapped (from + word_of_int distance)

-- the address so many words from the instruction itself
abbrev pub target : Processor → ℤ → ℕ
target core n = displaced core.pc (n *ℤ pos 4)

-- a jump that is made or not
abbrev pub branch : Bool → Processor → ℤ → Effect
branch taken core n = if taken then Jump (target core n) else Proceed

-- the address of a load or a store: a register and an offset
abbrev pub address : Processor → ℕ → ℤ → ℕ
address core a i = displaced (register core a) i

-- the value of an operator goes to a register, if there is one
abbrev pub operate : ℕ → BinaryOp → ℕ → ℕ → Effect
operate d operator left right = if traps operator right then DivideByZero else Write d (binary operator left right)

-- the flag becomes the value of a comparison of two registers
abbrev pub compare : BinaryOp → Processor → ℕ → ℕ → Effect
compare operator core a b = Compare (binary operator (register core a) (register core b) == 1)

-- the table
abbrev pub effect_of : Instr → Processor → Effect
effect_of (J n) core = Jump (target core n)
effect_of (Jal n) core = Link (target core n)
effect_of (Bnf n) core = branch (not core.flag) core n
effect_of (Bf n) core = branch core.flag core n
effect_of (Nop k) core = Proceed
effect_of (Movhi d k) core = Write d (k * 2 ^ 16)
effect_of (Jr b) core = Jump (register core b)
effect_of (Cust1 f) core = Secure f
effect_of (Lwz d i a) core = LoadWord d (address core a i)
effect_of (Lbz d i a) core = LoadByte d (address core a i)
effect_of (Addi d a i) core = operate d on.Add (register core a) (word_of_int i)
effect_of (Andi d a k) core = operate d on.And (register core a) k
effect_of (Ori d a k) core = operate d on.Or (register core a) k
effect_of (Slli d a l) core = operate d on.Shl (register core a) l
effect_of (Srli d a l) core = operate d on.ShrU (register core a) l
effect_of (Srai d a l) core = operate d on.ShrS (register core a) l
effect_of (Sw i a b) core = StoreWord (address core a i) (register core b)
effect_of (Sb i a b) core = StoreByte (address core a i) (register core b % 2 ^ 8)
effect_of (Add d a b) core = operate d on.Add (register core a) (register core b)
effect_of (Sub d a b) core = operate d on.Sub (register core a) (register core b)
effect_of (And d a b) core = operate d on.And (register core a) (register core b)
effect_of (Or d a b) core = operate d on.Or (register core a) (register core b)
effect_of (Xor d a b) core = operate d on.Xor (register core a) (register core b)
effect_of (Mul d a b) core = operate d on.Mul (register core a) (register core b)
effect_of (Div d a b) core = operate d on.DivS (register core a) (register core b)
effect_of (Divu d a b) core = operate d on.DivU (register core a) (register core b)
effect_of (Sll d a b) core = operate d on.Shl (register core a) (register core b)
effect_of (Srl d a b) core = operate d on.ShrU (register core a) (register core b)
effect_of (Sra d a b) core = operate d on.ShrS (register core a) (register core b)
effect_of (Sfeq a b) core = compare on.Eq core a b
effect_of (Sfne a b) core = compare on.Ne core a b
effect_of (Sfgtu a b) core = compare on.GtU core a b
effect_of (Sfgeu a b) core = compare on.GeU core a b
effect_of (Sfltu a b) core = compare on.LtU core a b
effect_of (Sfleu a b) core = compare on.LeU core a b
effect_of (Sfgts a b) core = compare on.GtS core a b
effect_of (Sfges a b) core = compare on.GeS core a b
effect_of (Sflts a b) core = compare on.LtS core a b
effect_of (Sfles a b) core = compare on.LeS core a b

-- registers are below 32, and a secure instruction is one that there is
abbrev pub IsEffectInRange : Effect → Type 0
IsEffectInRange (Write d value) = d < 32
IsEffectInRange (LoadWord d at) = d < 32
IsEffectInRange (LoadByte d at) = d < 32
IsEffectInRange (Secure f) = f ≤ 10
IsEffectInRange effect = Unit {0}
