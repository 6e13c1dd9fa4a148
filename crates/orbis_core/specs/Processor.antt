-- Promise: the processor as a program sees it: program counter, flag and registers.
use Rattle.std.specs.Prelude.{◌≡◌, ℕ, ◌+◌, ◌%◌, ◌^◌, Bool, ◌==◌, if◌then◌else◌, false, List, length, replicate, slice_index, slice_set}
use Rattle.orbis_core.specs.declared.effect.Effect.{Effect}
use Rattle.orbis_core.specs.declared.effect.Effect.TheVariants.{Proceed, Write, Compare, Jump, Link}

-- the program counter, the flag F, and the registers by number
pub record Processor : Type 0 where
  pub pc : ℕ
  pub flag : Bool
  pub registers : List ℕ

-- the processor before its first instruction, which stands at this address
abbrev pub reset_core : ℕ → Processor
reset_core pc = record { pc = pc; flag = false; registers = replicate 32 0 }

-- the value of a register
abbrev pub register : Processor → ℕ → ℕ
register core n = slice_index core.registers n

-- the registers after a write, which register 0 drops
abbrev pub registers_with : List ℕ → ℕ → ℕ → List ℕ
registers_with registers n value = if n == 0 then registers else slice_set registers n value

-- the processor after a write of a register
abbrev pub with_register : Processor → ℕ → ℕ → Processor
with_register core n value = record core { registers = registers_with core.registers n value }

-- the address of the next instruction
abbrev pub next_pc : Processor → ℕ
next_pc core = (core.pc + 4) % 2 ^ 32

-- the processor at the next instruction
abbrev pub advanced : Processor → Processor
advanced core = record core { pc = next_pc core }

-- the processor at the next instruction, with a register written
abbrev pub written : Processor → ℕ → ℕ → Processor
written core d value = advanced (with_register core d value)

-- the processor after an effect that needs neither memory nor port
abbrev pub core_after : Effect → Processor → Processor
core_after Proceed core = advanced core
core_after (Write d value) core = written core d value
core_after (Compare flag) core = advanced (record core { flag = flag })
core_after (Jump to) core = record core { pc = to }
core_after (Link to) core = record (with_register core 9 (next_pc core)) { pc = to }
core_after effect core = core

-- there are 32 registers, and register 0 reads zero
pub record IsProcessor (core : Processor) : Type 0 where
  pub registers : length core.registers ≡ 32
  pub zero : register core 0 ≡ 0
