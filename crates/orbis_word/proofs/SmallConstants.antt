-- The constants of an instruction that a word is have 16 bits.
use Rattle.std.proofs.Common.{◌≡◌, ℕ, ◌-◌, ◌*◌, ◌/◌, ◌%◌, ◌^◌, ◌<◌, Bool, true, false, ◌==◌, cond, nat_le, List, [], ◌∷◌, Option, Some, None, arith}
use Rattle.std.specs.Prelude.{IfSome, option_and_then}
use Rattle.orbis_word.specs.declared.fields.Fields.{Fields}
use Rattle.orbis_word.specs.declared.fields.Fields.TheVariants.{N, K, Dk, B, F, Dia, Dai, Dak, Dal, Iab, Dab, Ab}
use Rattle.orbis_word.specs.declared.instruction.Instr.{Instr}
use Rattle.orbis_word.specs.declared.instruction.Instr.TheVariants.{Movhi, Andi, Ori}
use Rattle.orbis_word.specs.Fields.{placed}
use Rattle.orbis_word.specs.Reading.{at_opcode, fields_in, instruction_in, instructions_with, layouts, secure, with_fixed}
use Rattle.orbis_word.specs.Table.{fixed_of}

-- constants of 16 bits
abbrev IsSmallField : Fields → Type 0
IsSmallField (Dk d k) = k < 2 ^ 16
IsSmallField (Dak d a k) = k < 2 ^ 16
IsSmallField fields = Unit {0}

abbrev AreSmall : List (ℕ × Fields) → Type 0
AreSmall [] = Unit {0}
AreSmall (row ∷ rows) = IsSmallField row.1 × AreSmall rows

-- what holds of both of two answers holds of the one that is chosen
either : {A : Type 0} (first : Bool) (one other : Option A) (P : A → Type 0) → IfSome one P → IfSome other P → IfSome (cond first one other) P
either true one other P p q = p
either false one other P p q = q

at_opcode-small : (opcode : ℕ) (rows : List (ℕ × Fields)) → AreSmall rows → IfSome (at_opcode opcode rows) IsSmallField
at_opcode-small opcode [] small = tt
at_opcode-small opcode (row ∷ rows) small = either (row.0 == opcode) (Some row.1) (at_opcode opcode rows) IsSmallField small.0 (at_opcode-small opcode rows small.1)

low-16 : (n : ℕ) → n % 2 ^ 16 < 2 ^ 16
low-16 n = omega arith

layouts-small : (word d a b : ℕ) → AreSmall (layouts word d a b)
layouts-small word d a b = (tt, (tt, (tt, (tt, (tt, (low-16 word, (tt, (tt, (tt, (tt, (low-16 word, (low-16 word, (tt, (tt, (tt, (tt, (tt, tt)))))))))))))))))

secure-small : (f : ℕ) → IfSome (secure f) IsSmallField
secure-small f = go (nat_le f 10)
  where
    go : (known : Bool) → IfSome (cond known (Some (F f)) None) IsSmallField
    go true = tt
    go false = tt

fields-small : (opcode word : ℕ) → IfSome (fields_in opcode word) IsSmallField
fields-small opcode word =
    let rows : List (ℕ × Fields) = layouts word (word / 2 ^ 21 % 32) (word / 2 ^ 16 % 32) (word / 2 ^ 11 % 32) in
    either (opcode == 0x1c) (secure (word % 32)) (at_opcode opcode rows) IsSmallField (secure-small (word % 32))
    (at_opcode-small opcode rows (layouts-small word (word / 2 ^ 21 % 32) (word / 2 ^ 16 % 32) (word / 2 ^ 11 % 32)))

-- in an instruction
abbrev pub IsSmallInstruction : Instr → Type 0
IsSmallInstruction (Movhi d k) = k < 2 ^ 16
IsSmallInstruction (Andi d a k) = k < 2 ^ 16
IsSmallInstruction (Ori d a k) = k < 2 ^ 16
IsSmallInstruction instruction = Unit {0}

abbrev AreSmallInstructions : List Instr → Type 0
AreSmallInstructions [] = Unit {0}
AreSmallInstructions (instruction ∷ instructions) = IsSmallInstruction instruction × AreSmallInstructions instructions

with_fixed-small : (fixed : ℕ) (instructions : List Instr) → AreSmallInstructions instructions → IfSome (with_fixed fixed instructions) IsSmallInstruction
with_fixed-small fixed [] small = tt
with_fixed-small fixed (i ∷ is) small = either (fixed_of i == fixed) (Some i) (with_fixed fixed is) IsSmallInstruction small.0 (with_fixed-small fixed is small.1)

instructions_with-small : (fields : Fields) → IsSmallField fields → AreSmallInstructions (instructions_with fields)
instructions_with-small (N n) small = (tt, (tt, (tt, (tt, tt))))
instructions_with-small (K k) small = (tt, tt)
instructions_with-small (Dk d k) small = (small, tt)
instructions_with-small (B b) small = (tt, tt)
instructions_with-small (F f) small = (tt, tt)
instructions_with-small (Dia d i a) small = (tt, (tt, tt))
instructions_with-small (Dai d a i) small = (tt, tt)
instructions_with-small (Dak d a k) small = (small, (small, tt))
instructions_with-small (Dal d a l) small = (tt, (tt, (tt, tt)))
instructions_with-small (Iab i a b) small = (tt, (tt, tt))
instructions_with-small (Dab d a b) small = (tt, (tt, (tt, (tt, (tt, (tt, (tt, (tt, (tt, (tt, (tt, tt)))))))))))
instructions_with-small (Ab a b) small = (tt, (tt, (tt, (tt, (tt, (tt, (tt, (tt, (tt, (tt, tt))))))))))

pub instruction-small : (word : ℕ) → IfSome (instruction_in word) IsSmallInstruction
unfolding instruction_in
instruction-small word = go (fields_in (word / 2 ^ 26) word) (fields-small (word / 2 ^ 26) word)
  where
    go : (found : Option Fields) → IfSome found IsSmallField → IfSome (option_and_then (λ fields. with_fixed (word - placed fields) (instructions_with fields)) found) IsSmallInstruction
    go None small = tt
    go (Some fields) small = with_fixed-small (word - placed fields) (instructions_with fields) (instructions_with-small fields small)
