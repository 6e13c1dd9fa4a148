-- Reading a word by its layout undoes the spelling of each instruction; for proofs here and in the crates above.
-- What holds of each row holds by computation; what holds of each layout is arithmetic, and is proved once a layout.
use Rattle.std.proofs.Common.{◌≡◌, ℕ, ◌+◌, ◌-◌, ◌*◌, ◌/◌, ◌%◌, ◌^◌, ◌<◌, refl, sym, ◌∙◌, ap, Option, Some, None, IfNone, arith, ℤ, pos, negsuc}
use Rattle.orbis_word.specs.declared.fields.Fields.{Fields}
use Rattle.orbis_word.specs.declared.fields.Fields.TheVariants.{N, K, Dk, B, F, Dia, Dai, Dak, Dal, Iab, Dab, Ab}
use Rattle.orbis_word.specs.declared.instruction.Instr.{Instr}
use Rattle.orbis_word.specs.declared.instruction.Instr.TheVariants.{J}
use Rattle.orbis_word.specs.Fields.{complement, FitsComplement, placed, AreInRange}
use Rattle.orbis_word.specs.Table.{encoding, table_row, fixed_of, IsInRange}
use Rattle.orbis_word.specs.Decoding.{IsNoWord}
use Rattle.orbis_word.specs.Reading.{signed, secure, fields_in, instructions_with, with_fixed, instruction_in}

-- the fields that a word has under the layout of some fields
abbrev reading : Fields → ℕ → Option Fields
reading (N n) word = Some (N (signed 26 (word % 2 ^ 26)))
reading (K k) word = Some (K (word % 2 ^ 16))
reading (Dk d k) word = Some (Dk (word / 2 ^ 21 % 32) (word % 2 ^ 16))
reading (B b) word = Some (B (word / 2 ^ 11 % 32))
reading (F f) word = secure (word % 32)
reading (Dia d i a) word = Some (Dia (word / 2 ^ 21 % 32) (signed 16 (word % 2 ^ 16)) (word / 2 ^ 16 % 32))
reading (Dai d a i) word = Some (Dai (word / 2 ^ 21 % 32) (word / 2 ^ 16 % 32) (signed 16 (word % 2 ^ 16)))
reading (Dak d a k) word = Some (Dak (word / 2 ^ 21 % 32) (word / 2 ^ 16 % 32) (word % 2 ^ 16))
reading (Dal d a l) word = Some (Dal (word / 2 ^ 21 % 32) (word / 2 ^ 16 % 32) (word % 32))
reading (Iab i a b) word = Some (Iab (signed 16 (word / 2 ^ 21 % 32 * 2 ^ 11 + word % 2 ^ 11)) (word / 2 ^ 16 % 32) (word / 2 ^ 11 % 32))
reading (Dab d a b) word = Some (Dab (word / 2 ^ 21 % 32) (word / 2 ^ 16 % 32) (word / 2 ^ 11 % 32))
reading (Ab a b) word = Some (Ab (word / 2 ^ 16 % 32) (word / 2 ^ 11 % 32))

-- the fixed bits that stand where the fields stand
abbrev taken : Fields → ℕ → ℕ
taken (N n) fixed = fixed % 2 ^ 26
taken (K k) fixed = fixed % 2 ^ 16
taken (Dk d k) fixed = fixed % 2 ^ 26 / 2 ^ 21 + fixed % 2 ^ 16
taken (B b) fixed = fixed % 2 ^ 16 / 2 ^ 11
taken (F f) fixed = fixed % 2 ^ 5
taken (Dia d i a) fixed = fixed % 2 ^ 26
taken (Dai d a i) fixed = fixed % 2 ^ 26
taken (Dak d a k) fixed = fixed % 2 ^ 26
taken (Dal d a l) fixed = fixed % 2 ^ 26 / 2 ^ 16 + fixed % 2 ^ 5
taken (Iab i a b) fixed = fixed % 2 ^ 26
taken (Dab d a b) fixed = fixed % 2 ^ 26 / 2 ^ 11
taken (Ab a b) fixed = fixed % 2 ^ 21 / 2 ^ 11

-- no row has a fixed bit where a field stands
none_taken : (i : Instr) → taken (table_row i).fields (fixed_of i) ≡ 0
none_taken (J n) = refl
none_taken _ = refl

-- the layout of each row is that of its opcode
same_layout : (i : Instr) (word : ℕ) → fields_in (fixed_of i / 2 ^ 26) word ≡ reading (table_row i).fields word
same_layout (J n) word = refl
same_layout _ word = refl

-- each row is the first with its fixed bits among those of its layout
own_row : (i : Instr) → with_fixed (fixed_of i) (instructions_with (table_row i).fields) ≡ Some i
own_row (J n) = refl
own_row _ = refl

signed-26 : (n : ℤ) → FitsComplement 26 n → signed 26 (complement 26 n) ≡ n
unfolding signed
signed-26 (pos n) h = grind arith
signed-26 (negsuc n) h = grind arith

signed-16 : (n : ℤ) → FitsComplement 16 n → signed 16 (complement 16 n) ≡ n
unfolding signed
signed-16 (pos n) h = grind arith
signed-16 (negsuc n) h = grind arith

complement-26 : (n : ℤ) → FitsComplement 26 n → complement 26 n < 2 ^ 26
complement-26 (pos n) h = omega arith
complement-26 (negsuc n) h = omega arith

complement-16 : (n : ℤ) → FitsComplement 16 n → complement 16 n < 2 ^ 16
complement-16 (pos n) h = omega arith
complement-16 (negsuc n) h = omega arith

-- under its layout, a word has the fields that were placed in it
placed-read : (fixed : ℕ) (fields : Fields) → AreInRange fields → taken fields fixed ≡ 0 → reading fields (fixed + placed fields) ≡ Some fields
placed-read fixed (N n) r free =
    let below : complement 26 n < 2 ^ 26 = complement-26 n r in
    let low : (fixed + complement 26 n) % 2 ^ 26 ≡ complement 26 n = omega arith in
    rw (low, signed-26 n r) refl
placed-read fixed (K k) r free =
    let low : (fixed + k) % 2 ^ 16 ≡ k = omega arith in rw low refl
placed-read fixed (Dk d k) r free =
    let first : (fixed + placed (Dk d k)) / 2 ^ 21 % 32 ≡ d = omega arith in
    let low : (fixed + placed (Dk d k)) % 2 ^ 16 ≡ k = omega arith in
    rw (first, low) refl
placed-read fixed (B b) r free =
    let third : (fixed + placed (B b)) / 2 ^ 11 % 32 ≡ b = omega arith in rw third refl
placed-read fixed (F f) r free =
    let low : (fixed + f) % 32 ≡ f = omega arith in rw low (grind arith)
placed-read fixed (Dia d i a) r free =
    let below : complement 16 i < 2 ^ 16 = complement-16 i r.1 in
    let first : (fixed + placed (Dia d i a)) / 2 ^ 21 % 32 ≡ d = omega arith in
    let second : (fixed + placed (Dia d i a)) / 2 ^ 16 % 32 ≡ a = omega arith in
    let low : (fixed + placed (Dia d i a)) % 2 ^ 16 ≡ complement 16 i = omega arith in
    rw (first, second, low, signed-16 i r.1) refl
placed-read fixed (Dai d a i) r free =
    let below : complement 16 i < 2 ^ 16 = complement-16 i r.2 in
    let first : (fixed + placed (Dai d a i)) / 2 ^ 21 % 32 ≡ d = omega arith in
    let second : (fixed + placed (Dai d a i)) / 2 ^ 16 % 32 ≡ a = omega arith in
    let low : (fixed + placed (Dai d a i)) % 2 ^ 16 ≡ complement 16 i = omega arith in
    rw (first, second, low, signed-16 i r.2) refl
placed-read fixed (Dak d a k) r free =
    let first : (fixed + placed (Dak d a k)) / 2 ^ 21 % 32 ≡ d = omega arith in
    let second : (fixed + placed (Dak d a k)) / 2 ^ 16 % 32 ≡ a = omega arith in
    let low : (fixed + placed (Dak d a k)) % 2 ^ 16 ≡ k = omega arith in
    rw (first, second, low) refl
placed-read fixed (Dal d a l) r free =
    let first : (fixed + placed (Dal d a l)) / 2 ^ 21 % 32 ≡ d = omega arith in
    let second : (fixed + placed (Dal d a l)) / 2 ^ 16 % 32 ≡ a = omega arith in
    let low : (fixed + placed (Dal d a l)) % 32 ≡ l = omega arith in
    rw (first, second, low) refl
placed-read fixed (Iab i a b) r free =
    let below : complement 16 i < 2 ^ 16 = complement-16 i r.0 in
    let first : (fixed + placed (Iab i a b)) / 2 ^ 21 % 32 * 2 ^ 11 + (fixed + placed (Iab i a b)) % 2 ^ 11 ≡ complement 16 i = omega arith in
    let second : (fixed + placed (Iab i a b)) / 2 ^ 16 % 32 ≡ a = omega arith in
    let third : (fixed + placed (Iab i a b)) / 2 ^ 11 % 32 ≡ b = omega arith in
    rw (first, second, third, signed-16 i r.0) refl
placed-read fixed (Dab d a b) r free =
    let first : (fixed + placed (Dab d a b)) / 2 ^ 21 % 32 ≡ d = omega arith in
    let second : (fixed + placed (Dab d a b)) / 2 ^ 16 % 32 ≡ a = omega arith in
    let third : (fixed + placed (Dab d a b)) / 2 ^ 11 % 32 ≡ b = omega arith in
    rw (first, second, third) refl
placed-read fixed (Ab a b) r free =
    let second : (fixed + placed (Ab a b)) / 2 ^ 16 % 32 ≡ a = omega arith in
    let third : (fixed + placed (Ab a b)) / 2 ^ 11 % 32 ≡ b = omega arith in
    rw (second, third) refl

-- the fields stay below the opcode
opcode-placed : (fixed : ℕ) (fields : Fields) → AreInRange fields → taken fields fixed ≡ 0 → (fixed + placed fields) / 2 ^ 26 ≡ fixed / 2 ^ 26
opcode-placed fixed (N n) r free = let below : complement 26 n < 2 ^ 26 = complement-26 n r in omega arith
opcode-placed fixed (Dia d i a) r free = let below : complement 16 i < 2 ^ 16 = complement-16 i r.1 in omega arith
opcode-placed fixed (Dai d a i) r free = let below : complement 16 i < 2 ^ 16 = complement-16 i r.2 in omega arith
opcode-placed fixed (Iab i a b) r free = let below : complement 16 i < 2 ^ 16 = complement-16 i r.0 in omega arith
opcode-placed fixed _ r free = omega arith

-- the word of an instruction has its fields
pub fields_in-encoding : (i : Instr) → IsInRange i → fields_in (encoding i / 2 ^ 26) (encoding i) ≡ Some (table_row i).fields
fields_in-encoding i r =
    let free : taken (table_row i).fields (fixed_of i) ≡ 0 = none_taken i in
    let opcode : encoding i / 2 ^ 26 ≡ fixed_of i / 2 ^ 26 = opcode-placed (fixed_of i) (table_row i).fields r free in
    ap (λ opcode. fields_in opcode (encoding i)) opcode ∙ same_layout i (encoding i) ∙ placed-read (fixed_of i) (table_row i).fields r free

-- a word with these fields is the word of the first row with its other bits, and of no other
pub row-encoding : (word : ℕ) (fields : Fields) → fields_in (word / 2 ^ 26) word ≡ Some fields
    → (i : Instr) → IsInRange i → word ≡ encoding i → with_fixed (word - placed fields) (instructions_with fields) ≡ Some i
row-encoding word fields read i r e =
    let whole : fields_in (word / 2 ^ 26) word ≡ Some (table_row i).fields = ap (λ w. fields_in (w / 2 ^ 26) w) e ∙ fields_in-encoding i r in
    let same : fields ≡ (table_row i).fields = cc in
    let rest : fixed_of i + placed (table_row i).fields - placed (table_row i).fields ≡ fixed_of i = omega arith in
    rw (same, e, rest) (own_row i)

-- the word of an instruction is read as this instruction
pub instruction_in-encoding : (i : Instr) → IsInRange i → instruction_in (encoding i) ≡ Some i
unfolding instruction_in
instruction_in-encoding i r = rw (fields_in-encoding i r) (row-encoding (encoding i) (table_row i).fields (fields_in-encoding i r) i r refl)

-- where that finds no row, the word is that of no instruction
pub no_row : (word bits : ℕ) (fields : Fields) (result : Option Instr) → Some fields ≡ fields_in (word / 2 ^ 26) word → bits ≡ placed fields
    → result ≡ with_fixed (word - bits) (instructions_with fields) → IfNone result (IsNoWord word)
no_row word bits fields None read place none = λ i r e.
    let there : with_fixed (word - placed fields) (instructions_with fields) ≡ Some i = row-encoding word fields (sym read) i r e in
    let none_there : None ≡ with_fixed (word - placed fields) (instructions_with fields) = rw (← place) none in
    cc (none_there ∙ there)
no_row word bits fields (Some i) read place some = tt

-- two instructions with one word are one
pub words-apart : (i j : Instr) → IsInRange i → IsInRange j → encoding i ≡ encoding j → i ≡ j
words-apart i j p q e =
    let one : with_fixed (encoding i - placed (table_row i).fields) (instructions_with (table_row i).fields) ≡ Some i =
    row-encoding (encoding i) (table_row i).fields (fields_in-encoding i p) i p refl in
    let other : with_fixed (encoding i - placed (table_row i).fields) (instructions_with (table_row i).fields) ≡ Some j =
    row-encoding (encoding i) (table_row i).fields (fields_in-encoding i p) j q e in
    cc
