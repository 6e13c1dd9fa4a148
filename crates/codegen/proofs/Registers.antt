-- The registers that code uses, by name. Those from 16 on have what the start puts there.
use Rattle.std.proofs.Common.{◌≡◌, ℕ, zero, suc, ◌+◌, ◌*◌, ◌^◌, ◌<◌, List, [], ◌∷◌, arith, refl, subst, sym}
use Rattle.orbis_core.specs.Processor.{registers_with}
use Rattle.std.specs.Prelude.{slice_index}
use Rattle.codegen.specs.OpInstructions.{base_for}

pub record Registers : Type 0 where
  pub r1 : ℕ
  pub r2 : ℕ
  pub r3 : ℕ
  pub r4 : ℕ
  pub r5 : ℕ
  pub r6 : ℕ
  pub r7 : ℕ
  pub r8 : ℕ
  pub r9 : ℕ
  pub r10 : ℕ
  pub r11 : ℕ
  pub r12 : ℕ
  pub r13 : ℕ
  pub r14 : ℕ
  pub r15 : ℕ

-- what the registers from 16 on have after the start
abbrev pub parts : List ℕ
parts =
    0x10000000 ∷ 0x10010000 ∷ 0x10020000 ∷ 0x10030000 ∷ 0x10040000 ∷ 0x10050000 ∷ 0x10060000 ∷ 0x20000000 ∷ 0x20010000 ∷ 0x10000 ∷ 0 ∷ 0 ∷ 0 ∷ 0 ∷ 0 ∷ 0 ∷ []

abbrev pub listed : Registers → List ℕ
listed r =
    0 ∷ r.r1 ∷ r.r2 ∷ r.r3 ∷ r.r4 ∷ r.r5 ∷ r.r6 ∷ r.r7 ∷ r.r8 ∷ r.r9 ∷ r.r10 ∷ r.r11 ∷ r.r12 ∷ r.r13 ∷ r.r14 ∷ r.r15 ∷ parts

-- those that code writes
pub data Name : Type 0 where
  R3 : Name
  R4 : Name
  R5 : Name
  R6 : Name
  R7 : Name
  R8 : Name
  R9 : Name
  R11 : Name
  R12 : Name
  R13 : Name
  R14 : Name
  R15 : Name

abbrev pub number_of : Name → ℕ
number_of R3 = 3
number_of R4 = 4
number_of R5 = 5
number_of R6 = 6
number_of R7 = 7
number_of R8 = 8
number_of R9 = 9
number_of R11 = 11
number_of R12 = 12
number_of R13 = 13
number_of R14 = 14
number_of R15 = 15

abbrev pub get : Name → Registers → ℕ
get R3 r = r.r3
get R4 r = r.r4
get R5 r = r.r5
get R6 r = r.r6
get R7 r = r.r7
get R8 r = r.r8
get R9 r = r.r9
get R11 r = r.r11
get R12 r = r.r12
get R13 r = r.r13
get R14 r = r.r14
get R15 r = r.r15

abbrev pub set : Name → ℕ → Registers → Registers
set R3 word r = record r { r3 = word }
set R4 word r = record r { r4 = word }
set R5 word r = record r { r5 = word }
set R6 word r = record r { r6 = word }
set R7 word r = record r { r7 = word }
set R8 word r = record r { r8 = word }
set R9 word r = record r { r9 = word }
set R11 word r = record r { r11 = word }
set R12 word r = record r { r12 = word }
set R13 word r = record r { r13 = word }
set R14 word r = record r { r14 = word }
set R15 word r = record r { r15 = word }

pub read-named : (d : Name) (r : Registers) → slice_index (listed r) (number_of d) ≡ get d r
read-named R3 r = refl
read-named R4 r = refl
read-named R5 r = refl
read-named R6 r = refl
read-named R7 r = refl
read-named R8 r = refl
read-named R9 r = refl
read-named R11 r = refl
read-named R12 r = refl
read-named R13 r = refl
read-named R14 r = refl
read-named R15 r = refl

pub write-named : (d : Name) (word : ℕ) (r : Registers) → registers_with (listed r) (number_of d) word ≡ listed (set d word r)
write-named R3 word r = refl
write-named R4 word r = refl
write-named R5 word r = refl
write-named R6 word r = refl
write-named R7 word r = refl
write-named R8 word r = refl
write-named R9 word r = refl
write-named R11 word r = refl
write-named R12 word r = refl
write-named R13 word r = refl
write-named R14 word r = refl
write-named R15 word r = refl

-- after the start
abbrev pub zeros : Registers
zeros = record { r1 = 0; r2 = 0; r3 = 0; r4 = 0; r5 = 0; r6 = 0; r7 = 0; r8 = 0; r9 = 0; r10 = 0; r11 = 0; r12 = 0; r13 = 0; r14 = 0; r15 = 0 }

-- ---- upper parts of addresses

-- the upper parts that addresses of cells may have
pub data IsPart (part : ℕ) : Type 0 where
  OfShared : part ≡ 1 → IsPart part
  OfData : (k : ℕ) → k < 7 → part ≡ 0x1000 + k → IsPart part
  OfLogged : (k : ℕ) → k < 2 → part ≡ 0x2000 + k → IsPart part

abbrev Has : Registers → ℕ → Type 0
Has r part = slice_index (listed r) (base_for part) ≡ part * 2 ^ 16

shared-part : (r : Registers) → Has r 1
shared-part r = refl

data-part : (r : Registers) (k : ℕ) → k < 7 → Has r (0x1000 + k)
data-part r zero few = refl
data-part r (suc zero) few = refl
data-part r (suc (suc zero)) few = refl
data-part r (suc (suc (suc zero))) few = refl
data-part r (suc (suc (suc (suc zero)))) few = refl
data-part r (suc (suc (suc (suc (suc zero))))) few = refl
data-part r (suc (suc (suc (suc (suc (suc zero)))))) few = refl
data-part r (suc (suc (suc (suc (suc (suc (suc k))))))) few = absurd (omega (arith, few))

logged-part : (r : Registers) (k : ℕ) → k < 2 → Has r (0x2000 + k)
logged-part r zero few = refl
logged-part r (suc zero) few = refl
logged-part r (suc (suc k)) few = absurd (omega (arith, few))

-- the register of an upper part has it, shifted
pub has-part : (r : Registers) (part : ℕ) → IsPart part → slice_index (listed r) (base_for part) ≡ part * 2 ^ 16
has-part r part (OfShared is) = subst (λ (n : ℕ). Has r n) (sym is) (shared-part r)
has-part r part (OfData k few is) = subst (λ (n : ℕ). Has r n) (sym is) (data-part r k few)
has-part r part (OfLogged k few is) = subst (λ (n : ℕ). Has r n) (sym is) (logged-part r k few)
