-- Registers after a write.
use Rattle.std.proofs.Common.{◌≡◌, ◌≢◌, ℕ, ◌*◌, ◌<◌, ◌/◌, ◌%◌, length, bit_or, arith}
use Rattle.std.proofs.lemmas.Grind.{common_steps}
use Rattle.std.proofs.lemmas.Nat.{or_shifted}
use Rattle.orbis_core.specs.Processor.{Processor, register, with_register}

-- a register that is written reads the value
pub register-with_register : (core : Processor) (n value : ℕ) → 0 < n → n < length core.registers → register (with_register core n value) n ≡ value
register-with_register core n value positive below = grind (arith, common_steps)

-- each other register reads what it read
pub register-with_register-other : (core : Processor) (n m value : ℕ) → n ≢ m → register (with_register core n value) m ≡ register core m
register-with_register-other core n m value apart = grind (arith, common_steps)

-- a number is its upper half, shifted, or its lower half
pub or-halves : (n : ℕ) → bit_or (n / 65536 * 65536) (n % 65536) ≡ n
or-halves n = rw (or_shifted (n / 65536) 16 (n % 65536) (omega arith)) (omega arith)
