-- Promise: the fields of an instruction: their places in the word and their ranges (OpenRISC 1000 Architecture Manual, section 5).
use Rattle.std.specs.Prelude.{ℕ, ◌+◌, ◌-◌, ◌*◌, ◌/◌, ◌%◌, ◌^◌, ◌<◌, ◌≤◌, ℤ, pos, negsuc}
use Rattle.orbis_word.specs.declared.fields.Fields.{Fields}
use Rattle.orbis_word.specs.declared.fields.Fields.TheVariants.{N, K, Dk, B, F, Dia, Dai, Dak, Dal, Iab, Dab, Ab}

-- the two's complement of a number, in so many bits
abbrev pub complement : ℕ → ℤ → ℕ
complement width (pos n) = n
complement width (negsuc n) = 2 ^ width - (n + 1)

-- the number fits so many bits with a sign
abbrev pub FitsComplement : ℕ → ℤ → Type 0
FitsComplement width (pos n) = n < 2 ^ (width - 1)
FitsComplement width (negsuc n) = n < 2 ^ (width - 1)

-- the bits of the fields: D from bit 21, A from bit 16, B from bit 11, the others from bit 0; before A and B the upper five bits of I from bit 21
abbrev pub placed : Fields → ℕ
placed (N n) = complement 26 n
placed (K k) = k
placed (Dk d k) = d * 2 ^ 21 + k
placed (B b) = b * 2 ^ 11
placed (F f) = f
placed (Dia d i a) = d * 2 ^ 21 + a * 2 ^ 16 + complement 16 i
placed (Dai d a i) = d * 2 ^ 21 + a * 2 ^ 16 + complement 16 i
placed (Dak d a k) = d * 2 ^ 21 + a * 2 ^ 16 + k
placed (Dal d a l) = d * 2 ^ 21 + a * 2 ^ 16 + l
placed (Iab i a b) = complement 16 i / 2 ^ 11 * 2 ^ 21 + a * 2 ^ 16 + b * 2 ^ 11 + complement 16 i % 2 ^ 11
placed (Dab d a b) = d * 2 ^ 21 + a * 2 ^ 16 + b * 2 ^ 11
placed (Ab a b) = a * 2 ^ 16 + b * 2 ^ 11

-- the fields are in their ranges
abbrev pub AreInRange : Fields → Type 0
AreInRange (N n) = FitsComplement 26 n
AreInRange (K k) = k < 2 ^ 16
AreInRange (Dk d k) = (d < 32) × (k < 2 ^ 16)
AreInRange (B b) = b < 32
AreInRange (F f) = f ≤ 10
AreInRange (Dia d i a) = (d < 32) × FitsComplement 16 i × (a < 32)
AreInRange (Dai d a i) = (d < 32) × (a < 32) × FitsComplement 16 i
AreInRange (Dak d a k) = (d < 32) × (a < 32) × (k < 2 ^ 16)
AreInRange (Dal d a l) = (d < 32) × (a < 32) × (l < 32)
AreInRange (Iab i a b) = FitsComplement 16 i × (a < 32) × (b < 32)
AreInRange (Dab d a b) = (d < 32) × (a < 32) × (b < 32)
AreInRange (Ab a b) = (a < 32) × (b < 32)
