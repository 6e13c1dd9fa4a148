-- The instruction table on worked examples.
use Rattle.std.proofs.Common.{◌≡◌, [], ◌∷◌, replicate, true, false, refl, pos, negsuc}
use Rattle.orbis_word.specs.declared.Instr.TheVariants.{J, Jal, Bnf, Bf, Movhi, Jr, Lwz, Sb, Addi, Andi, Sra, Div, Sub, Sflts, Sfltu}
use Rattle.orbis_core.specs.declared.effect.Effect.TheVariants.{Proceed, Write, Compare, Jump, Link, LoadWord, StoreByte, DivideByZero}
use Rattle.orbis_core.specs.Effects.{effect_of}
use Rattle.orbis_core.specs.Processor.{Processor, core_after, register}
use Rattle.orbis_core.specs.ByteOrder.{byte_in, with_byte, words_in}

-- at 0x100, with 0, -1, -7 and 0x8000 in the first registers, and the flag set
abbrev core : Processor
core = record { pc = 0x100; flag = true; registers = 0 ∷ 0xffffffff ∷ 0xfffffff9 ∷ 0x8000 ∷ replicate 28 0 }

-- jumps go from the instruction itself
jumps : (effect_of (J (negsuc 1)) core ≡ Jump 0xf8) × (effect_of (Jal (pos 3)) core ≡ Link 0x10c) × (effect_of (Jr 3) core ≡ Jump 0x8000)
jumps = (refl, refl, refl)

branches : (effect_of (Bf (pos 3)) core ≡ Jump 0x10c) × (effect_of (Bnf (pos 3)) core ≡ Proceed)
branches = (refl, refl)

-- the link is the address after the instruction, and register 0 takes no write
links : (register (core_after (Link 0x10c) core) 9 ≡ 0x104) × (register (core_after (Write 0 5) core) 0 ≡ 0) × (register (core_after (Write 4 5) core) 4 ≡ 5)
links = (refl, refl, refl)

-- constants: the upper half, with their sign, and with zeros
constants : (effect_of (Movhi 4 0xffff) core ≡ Write 4 0xffff0000) × (effect_of (Addi 4 0 (negsuc 0)) core ≡ Write 4 0xffffffff) × (effect_of (Andi 4 1 0xffff) core ≡ Write 4 0xffff)
constants = (refl, refl, refl)

-- on registers: 0x8000 - (-1); -7 shifted by the low five bits of -1; -7 by -1; and by zero
values : (effect_of (Sub 4 3 1) core ≡ Write 4 0x8001) × (effect_of (Sra 4 2 1) core ≡ Write 4 0xffffffff) × (effect_of (Div 4 2 1) core ≡ Write 4 7) × (effect_of (Div 4 2 0) core ≡ DivideByZero)
values = (refl, refl, refl, refl)

compares : (effect_of (Sflts 1 3) core ≡ Compare true) × (effect_of (Sfltu 1 3) core ≡ Compare false)
compares = (refl, refl)

-- an offset has a sign
places : (effect_of (Lwz 4 (negsuc 3) 3) core ≡ LoadWord 4 0x7ffc) × (effect_of (Sb (pos 1) 3 2) core ≡ StoreByte 0x8001 0xf9)
places = (refl, refl)

-- the first byte of a word is its highest
bytes : (byte_in 0x12345678 0x8000 ≡ 0x12) × (byte_in 0x12345678 0x8003 ≡ 0x78) × (with_byte 0x12345678 0x8001 0xff ≡ 0x12ff5678) × (words_in (1 ∷ 2 ∷ 3 ∷ 4 ∷ []) ≡ 0x01020304 ∷ [])
bytes = (refl, refl, refl, refl)
