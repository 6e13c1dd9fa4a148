-- The states of the ideal machine are whole.
use Rattle.std.proofs.Common.{◌≡◌, ℕ, zero, suc, ◌+◌, ◌-◌, ◌*◌, ◌/◌, ◌%◌, ◌^◌, ◌<◌, ◌≤◌, Bool, true, false, ◌==◌, ◌&&◌, cond, not, if◌then◌else◌, nat_eq, nat_le, nat_lt, List, [], ◌∷◌, length, get_or, set, replicate, Option, Some, None, option_map, bit_and, ℤ, pos, negsuc, refl, ◌∙◌, arith}
use Rattle.std.proofs.Math.Nat.{div-le_self}
use Rattle.std.proofs.Math.ListN.{length-set}
use Rattle.std.proofs.lemmas.Nat.{or_lt, xor_lt, and_le_l}
use Rattle.std.proofs.lemmas.Bool.Decides.{nat_tests}
use Rattle.std.proofs.lemmas.Grind.{common_steps}
use Rattle.std.specs.Int.{w32, to_be_bytes, from_be_bytes, int_shr}
use Rattle.std.specs.Int.RustNames.{int_div}
use Rattle.std.proofs.Math.IntN.{neg_ℤ}
use Rattle.std.specs.List.{AllByRecursion}
use Rattle.std.specs.Prelude.{IfSome, slice_set}
use Rattle.execution.specs.Run.{Next, Stops, state_of}
use Rattle.execution.proofs.RunLemmas.{run-keeps}
use Rattle.execution.specs.Traffic.{Entry, Traffic, input_word, loose_word, next_of}
use Rattle.aegis_num.specs.declared.BinaryOp.{BinaryOp}
use Rattle.aegis_num.specs.declared.BinaryOp.TheVariants as on
use Rattle.aegis_num.specs.Operators.{binary, int_of, shift_count, traps, word_of_int, wrapped}
use Rattle.orbis_word.specs.declared.Instr.{Instr}
use Rattle.orbis_word.specs.declared.Instr.TheVariants.{J, Jal, Bnf, Bf, Nop, Movhi, Jr, Cust1, Lwz, Lbz, Addi, Andi, Ori, Slli, Srli, Srai, Sw, Sb, Add, Sub, And, Or, Xor, Mul, Div, Divu, Sll, Srl, Sra, Sfeq, Sfne, Sfgtu, Sfgeu, Sfltu, Sfleu, Sfgts, Sfges, Sflts, Sfles}
use Rattle.orbis_word.proofs.SmallConstants.{IsSmallInstruction, instruction-small}
use Rattle.regions.specs.declared.Layout.{Layout}
use Rattle.regions.specs.declared.Class.{Class}
use Rattle.regions.specs.declared.Class.TheVariants.{Constant, Code}
use Rattle.regions.specs.declared.Access.TheVariants.{Read, Write, Fetch}
use Rattle.regions.specs.Addresses.{start_of, end_of}
use Rattle.regions.specs.Modes.{SecureInstruction, Enter, Exit, IndexTrap, DivideTrap, Suspend, Resume, PrivateOn, PrivateOff, Release, Input, Check, allowed_in}
use Rattle.orbis_core.specs.declared.effect.Effect.{Effect}
use Rattle.orbis_core.specs.declared.effect.Effect.TheVariants as effect
use Rattle.orbis_core.specs.declared.memory.Why.{Why}
use Rattle.orbis_core.specs.declared.memory.Why.TheVariants as why
use Rattle.orbis_core.specs.ByteOrder.{byte_in, updated, with_byte, word_start, words_in}
use Rattle.orbis_core.specs.Effects.{branch, effect_of, operate, target}
use Rattle.orbis_core.specs.Ideal.{Ideal, IdealEnd, Outside, Refused, carried, executed, from_entries, ideal_start, instruction_at, is_among, loaded, machine_step, memory_stored, secured, taken, unless}
use Rattle.orbis_core.specs.IdealLaws.{GivesWords, IsWholeState, StatesAreWhole, StepsKeepWhole}
use Rattle.orbis_core.specs.Processor.{Processor, advanced, next_pc, register, registers_with, with_register, written}
use Rattle.orbis_core.specs.Refusals.{word_refusal, byte_refusal}
use Rattle.orbis_core.specs.Secure.{secure_of}

-- ---- values

negated-small : (n : ℕ) → word_of_int (neg_ℤ (pos n)) < 2 ^ 32
negated-small zero = grind arith
negated-small (suc n) = grind arith

-- half of the words are read as numbers below 2 ^ 31, the others as negative ones
abbrev IsHalf : ℤ → Type 0
IsHalf (pos n) = n < 2 ^ 31
IsHalf (negsuc n) = n < 2 ^ 31

half-of : (number : ℤ) (word : ℕ) → number ≡ int_of word → word < 2 ^ 32 → IsHalf number
half-of (pos n) word is fits = grind (arith, is)
half-of (negsuc n) word is fits = grind (arith, is)

-- a shifted word that is read as int
shifted-small : (number : ℤ) (by : ℕ) → IsHalf number → word_of_int (int_shr number by) < 2 ^ 32
shifted-small (pos n) by fits = grind (arith, fits, div-le_self n (2 ^ by))
shifted-small (negsuc n) by fits = grind arith

-- a quotient of words that are read so
divided-small : (number by : ℤ) → IsHalf number → word_of_int (int_div number by) < 2 ^ 32
divided-small (pos n) (pos d) fits = grind (arith, fits, div-le_self n d)
divided-small (pos n) (negsuc d) fits = negated-small (n / suc d)
divided-small (negsuc n) (pos d) fits = negated-small (suc n / d)
divided-small (negsuc n) (negsuc d) fits = grind (arith, fits, div-le_self (suc n) (suc d))

wrapped-small : (n : ℕ) → wrapped n < 2 ^ 32
wrapped-small n = omega arith

-- what an effect writes or jumps to
abbrev IsSmallEffect : Effect → Type 0
IsSmallEffect (effect.Write d value) = value < 2 ^ 32
IsSmallEffect (effect.Jump to) = to < 2 ^ 32
IsSmallEffect (effect.Link to) = to < 2 ^ 32
IsSmallEffect (effect.StoreWord at word) = word < 2 ^ 32
IsSmallEffect (effect.StoreByte at byte) = byte < 2 ^ 8
IsSmallEffect asked = Unit {0}

either-small : (d : ℕ) (divides : Bool) (value : ℕ) → value < 2 ^ 32 → IsSmallEffect (if divides then effect.DivideByZero else effect.Write d value)
either-small d true value small = tt
either-small d false value small = small

operate-small : (d : ℕ) (operator : BinaryOp) (left right : ℕ) → binary operator left right < 2 ^ 32 → IsSmallEffect (operate d operator left right)
operate-small d operator left right small = either-small d (traps operator right) (binary operator left right) small

branch-small : (taken : Bool) (core : Processor) (n : ℤ) → IsSmallEffect (branch taken core n)
branch-small true core n = wrapped-small _
branch-small false core n = tt

-- ---- effects

module _ (core : Processor) (small : (n : ℕ) → register core n < 2 ^ 32) where
  high-small : (k : ℕ) → k < 2 ^ 16 → k * 2 ^ 16 < 2 ^ 32
  high-small k below = omega arith

  below-left : (left value : ℕ) → left < 2 ^ 32 → value ≤ left → value < 2 ^ 32
  below-left left value below at_most = omega arith

  word-of-half : (k : ℕ) → k < 2 ^ 16 → k < 2 ^ 32
  word-of-half k below = omega arith

  count-small : (l : ℕ) → l < 2 ^ 32 → l < 2 ^ 32
  count-small l below = below

  effect-small : (instruction : Instr) → IsSmallInstruction instruction → IsSmallEffect (effect_of instruction core)
  effect-small (J n) fits = wrapped-small _
  effect-small (Jal n) fits = wrapped-small _
  effect-small (Bnf n) fits = branch-small (not core.flag) core n
  effect-small (Bf n) fits = branch-small core.flag core n
  effect-small (Nop k) fits = tt
  effect-small (Movhi d k) fits = high-small k fits
  effect-small (Jr b) fits = small b
  effect-small (Cust1 f) fits = tt
  effect-small (Lwz d i a) fits = tt
  effect-small (Lbz d i a) fits = tt
  effect-small (Addi d a i) fits = operate-small d on.Add (register core a) (word_of_int i) (wrapped-small (register core a + word_of_int i))
  effect-small (Andi d a k) fits = operate-small d on.And (register core a) k (below-left (register core a) (bit_and (register core a) k) (small a) (and_le_l (register core a) k))
  effect-small (Ori d a k) fits = operate-small d on.Or (register core a) k (or_lt 32 (register core a) k (small a) (word-of-half k fits))
  effect-small (Slli d a l) fits = operate-small d on.Shl (register core a) l (wrapped-small (register core a * 2 ^ shift_count l))
  effect-small (Srli d a l) fits = operate-small d on.ShrU (register core a) l (below-left (register core a) (register core a / 2 ^ shift_count l) (small a) (div-le_self (register core a) (2 ^ shift_count l)))
  effect-small (Srai d a l) fits = operate-small d on.ShrS (register core a) l (shifted-small (int_of (register core a)) (shift_count l) (half-of (int_of (register core a)) (register core a) refl (small a)))
  effect-small (Sw i a b) fits = small b
  effect-small (Sb i a b) fits = low-8 (register core b)
    where
      low-8 : (n : ℕ) → n % 2 ^ 8 < 2 ^ 8
      low-8 n = omega arith
  effect-small (Add d a b) fits = operate-small d on.Add (register core a) (register core b) (wrapped-small (register core a + register core b))
  effect-small (Sub d a b) fits = operate-small d on.Sub (register core a) (register core b) (wrapped-small (register core a + (2 ^ 32 - register core b)))
  effect-small (And d a b) fits = operate-small d on.And (register core a) (register core b) (below-left (register core a) (bit_and (register core a) (register core b)) (small a) (and_le_l (register core a) (register core b)))
  effect-small (Or d a b) fits = operate-small d on.Or (register core a) (register core b) (or_lt 32 (register core a) (register core b) (small a) (small b))
  effect-small (Xor d a b) fits = operate-small d on.Xor (register core a) (register core b) (xor_lt 32 (register core a) (register core b) (small a) (small b))
  effect-small (Mul d a b) fits = operate-small d on.Mul (register core a) (register core b) (wrapped-small (register core a * register core b))
  effect-small (Div d a b) fits = operate-small d on.DivS (register core a) (register core b) (divided-small (int_of (register core a)) (int_of (register core b)) (half-of (int_of (register core a)) (register core a) refl (small a)))
  effect-small (Divu d a b) fits = operate-small d on.DivU (register core a) (register core b) (below-left (register core a) (register core a / register core b) (small a) (div-le_self (register core a) (register core b)))
  effect-small (Sll d a b) fits = operate-small d on.Shl (register core a) (register core b) (wrapped-small (register core a * 2 ^ shift_count (register core b)))
  effect-small (Srl d a b) fits = operate-small d on.ShrU (register core a) (register core b) (below-left (register core a) (register core a / 2 ^ shift_count (register core b)) (small a) (div-le_self (register core a) (2 ^ shift_count (register core b))))
  effect-small (Sra d a b) fits = operate-small d on.ShrS (register core a) (register core b) (shifted-small (int_of (register core a)) (shift_count (register core b)) (half-of (int_of (register core a)) (register core a) refl (small a)))
  effect-small (Sfeq a b) fits = tt
  effect-small (Sfne a b) fits = tt
  effect-small (Sfgtu a b) fits = tt
  effect-small (Sfgeu a b) fits = tt
  effect-small (Sfltu a b) fits = tt
  effect-small (Sfleu a b) fits = tt
  effect-small (Sfgts a b) fits = tt
  effect-small (Sfges a b) fits = tt
  effect-small (Sflts a b) fits = tt
  effect-small (Sfles a b) fits = tt

-- ---- registers

set-small : (xs : List ℕ) (i value k : ℕ) → ((n : ℕ) → get_or xs n 0 < 2 ^ 32) → value < 2 ^ 32 → get_or (set xs i value) k 0 < 2 ^ 32
set-small [] i value k small fits = small k
set-small (x ∷ xs) zero value zero small fits = fits
set-small (x ∷ xs) zero value (suc k) small fits = small (suc k)
set-small (x ∷ xs) (suc i) value zero small fits = small zero
set-small (x ∷ xs) (suc i) value (suc k) small fits = set-small xs i value k (λ n. small (suc n)) fits

-- the registers are whole
record HasRegisters (registers : List ℕ) : Type 0 where
  count : length registers ≡ 32
  zero_reads : get_or registers 0 0 ≡ 0
  below : (n : ℕ) → get_or registers n 0 < 2 ^ 32

registers-with : (registers : List ℕ) (n value : ℕ) → HasRegisters registers → value < 2 ^ 32 → HasRegisters (registers_with registers n value)
registers-with registers n value has fits = go (n == 0) refl
  where
    go : (is_zero : Bool) → is_zero ≡ (n == 0) → HasRegisters (if is_zero then registers else slice_set registers n value)
    go true is = has
    go false is =
        let apart : n ≡ 0 → ⊥ = λ e. grind (arith, nat_tests, e) in
        record {
          count = length-set registers n value ∙ has.count;
          zero_reads = let kept : get_or (set registers n value) 0 0 ≡ get_or registers 0 0 = grind (arith, common_steps, apart) in kept ∙ has.zero_reads;
          below = λ k. set-small registers n value k has.below fits;
        }

of-state : (state : Ideal) → IsWholeState state → HasRegisters state.core.registers
of-state state whole = record { count = whole.registers; zero_reads = whole.zero; below = whole.small }

to-state : (state : Ideal) → HasRegisters state.core.registers → state.core.pc < 2 ^ 32 → ((at : ℕ) → state.memory at < 2 ^ 32) → IsWholeState state
to-state state has pc words = record { registers = has.count; zero = has.zero_reads; small = has.below; pc = pc; words = words }

next-small : (core : Processor) → next_pc core < 2 ^ 32
next-small core = omega arith

-- ---- words

with-byte : (word byte k : ℕ) → byte < 2 ^ 8 → k < 4 → from_be_bytes w32 (slice_set (to_be_bytes w32 word) k byte) < 2 ^ 32
with-byte word byte zero fits below = omega arith
with-byte word byte (suc zero) fits below = omega arith
with-byte word byte (suc (suc zero)) fits below = omega arith
with-byte word byte (suc (suc (suc zero))) fits below = omega arith
with-byte word byte (suc (suc (suc (suc k)))) fits below = absurd (omega arith)

at-small : (n : ℕ) → n % 4 < 4
at-small n = omega arith

byte-at : (word k : ℕ) → get_or (to_be_bytes w32 word) k 0 < 2 ^ 32
byte-at word zero = omega arith
byte-at word (suc zero) = omega arith
byte-at word (suc (suc zero)) = omega arith
byte-at word (suc (suc (suc zero))) = omega arith
byte-at word (suc (suc (suc (suc k)))) = omega arith

updated-small : (memory : ℕ → ℕ) (at word : ℕ) → ((a : ℕ) → memory a < 2 ^ 32) → word < 2 ^ 32 → (other : ℕ) → updated memory at word other < 2 ^ 32
updated-small memory at word small fits other = go (other == at)
  where
    go : (is : Bool) → (if is then word else memory other) < 2 ^ 32
    go true = fits
    go false = small other

-- ---- steps

abbrev IsWholeNext : Next Ideal IdealEnd → Type 0
IsWholeNext next = IsWholeState (state_of next)

module _ (layout : Layout) (outside : Outside) (state : Ideal) (gives : GivesWords outside) (whole : IsWholeState state) where
  unless-whole : (r : Option Why) (next : Next Ideal IdealEnd) → IsWholeNext next → IsWholeNext (unless r state next)
  unless-whole None next later = later
  unless-whole (Some reason) next later = whole

  loaded-whole : (d word : ℕ) (t : Traffic ℕ) → word < 2 ^ 32 → IsWholeNext (loaded d word (record state { traffic = t }))
  loaded-whole d word t fits =
      to-state (record state { core = written state.core d word; traffic = t }) (registers-with state.core.registers d word (of-state state whole) fits) (next-small (with_register state.core d word)) whole.words

  loads-whole : (loose : Bool) (d word : ℕ) (came : Option ℕ) → word < 2 ^ 32 → IfSome came (λ w. w < 2 ^ 32) → IsWholeNext (if loose then taken d came state else loaded d word state)
  loads-whole false d word came fits came_fits = loaded-whole d word state.traffic fits
  loads-whole true d word None fits came_fits = whole
  loads-whole true d word (Some w) fits came_fits = loaded-whole d w _ came_fits

  stored-whole : (at value word : ℕ) → word < 2 ^ 32 → (t : Traffic ℕ)
      → IsWholeState (record state { core = advanced state.core; memory = memory_stored layout outside.is_loose at word state.memory; traffic = t })
  stored-whole at value word fits t = to-state _ (of-state state whole) (next-small state.core) (λ other. go (is_among outside.is_loose layout at) other)
    where
      go : (free : Bool) (other : ℕ) → (if free then state.memory else updated state.memory (word_start at) word) other < 2 ^ 32
      go true other = whole.words other
      go false other = updated-small state.memory (word_start at) word whole.words fits other

  input-small : (bytes : List ℕ) → next_of bytes < 2 ^ 32
  input-small [] = omega arith
  input-small (byte ∷ bytes) = omega arith

  advanced-whole : (t : Traffic ℕ) → IsWholeState (record state { core = advanced state.core; traffic = t })
  advanced-whole t = to-state _ (of-state state whole) (next-small state.core) whole.words

  secured-whole : (asked : SecureInstruction) → IsWholeNext (secured asked state)
  secured-whole Enter = to-state _ (of-state state whole) (next-small state.core) whole.words
  secured-whole Exit = advanced-whole state.traffic
  secured-whole IndexTrap = advanced-whole state.traffic
  secured-whole DivideTrap = advanced-whole state.traffic
  secured-whole Suspend = advanced-whole _
  secured-whole Resume = to-state _ (of-state state whole) (next-small state.core) whole.words
  secured-whole PrivateOn = to-state _ (of-state state whole) (next-small state.core) whole.words
  secured-whole PrivateOff = to-state _ (of-state state whole) (next-small state.core) whole.words
  secured-whole Release = advanced-whole _
  secured-whole Input = to-state _ (registers-with state.core.registers 11 (input_word state.traffic) (of-state state whole) (input-small state.traffic.input))
      (next-small (with_register state.core 11 (input_word state.traffic))) whole.words
  secured-whole Check = advanced-whole _

  tested-whole : (allowed : Bool) (asked : SecureInstruction) → IsWholeNext (if allowed then secured asked state else Stops (Refused why.Mode) state)
  tested-whole true asked = secured-whole asked
  tested-whole false asked = whole

  carried-whole : (asked : Effect) → IsSmallEffect asked → IsWholeNext (carried layout outside asked state)
  carried-whole (effect.LoadWord d at) fits =
      unless-whole (word_refusal layout state.mode Read at) _ (loads-whole (is_among outside.is_loose layout at) d (state.memory at) (outside.word at state.traffic) (whole.words at) (gives.word at state.traffic))
  carried-whole (effect.LoadByte d at) fits =
      unless-whole (byte_refusal layout state.mode Read at) _
      (loads-whole (is_among outside.is_loose layout at) d (byte_in (state.memory (word_start at)) at) (outside.byte at state.traffic) (byte-at (state.memory (word_start at)) (at % 4)) (gives.byte at state.traffic))
  carried-whole (effect.StoreWord at word) fits = unless-whole (word_refusal layout state.mode Write at) _ (stored-whole at word word fits _)
  carried-whole (effect.StoreByte at byte) fits =
      unless-whole (byte_refusal layout state.mode Write at) _
      (stored-whole at byte (with_byte (state.memory (word_start at)) at byte) (with-byte (state.memory (word_start at)) byte (at % 4) fits (at-small at)) _)
  carried-whole (effect.Secure f) fits = tested-whole (allowed_in (secure_of f) state.mode) (secure_of f)
  carried-whole effect.DivideByZero fits = whole
  carried-whole effect.Proceed fits = advanced-whole state.traffic
  carried-whole (effect.Write d value) fits = loaded-whole d value state.traffic fits
  carried-whole (effect.Compare flag) fits = to-state _ (of-state state whole) (next-small state.core) whole.words
  carried-whole (effect.Jump target) fits = to-state _ (of-state state whole) fits whole.words
  carried-whole (effect.Link target) fits = to-state _ (registers-with state.core.registers 9 (next_pc state.core) (of-state state whole) (next-small state.core)) fits whole.words

  executed-whole : (found : Option Instr) → IfSome found IsSmallInstruction → IsWholeNext (executed layout outside found state)
  executed-whole None small = whole
  executed-whole (Some instruction) small = carried-whole (effect_of instruction state.core) (effect-small state.core whole.small instruction small)

pub steps-whole : StepsKeepWhole
steps-whole layout outside state gives whole =
    unless-whole layout outside state gives whole (word_refusal layout state.mode Fetch state.core.pc) _
    (executed-whole layout outside state gives whole (instruction_at state) (instruction-small (state.memory state.core.pc)))

-- ---- runs

pub entries-give : (loose : Class → Bool) → GivesWords (from_entries loose)
entries-give loose = record {
  word = λ at traffic. words at traffic.loose;
  byte = λ at traffic. bytes (loose_word nat_eq at traffic);
}
  where
    given : (same : Bool) (word : ℕ) → IfSome (cond same (Some (word % 2 ^ 32)) None) (λ w. w < 2 ^ 32)
    given true word = omega arith
    given false word = tt

    words : (at : ℕ) (entries : List (Entry ℕ)) → IfSome (loose_word nat_eq at (record { input = []; loose = entries; taken = 0; bytes = []; writes = []; releases = 0; checks = 0; suspensions = 0 })) (λ w. w < 2 ^ 32)
    words at [] = tt
    words at (entry ∷ entries) = given (nat_eq at entry.place) entry.word

    bytes : (found : Option ℕ) → IfSome (option_map (λ word. word % 2 ^ 8) found) (λ b. b < 2 ^ 32)
    bytes None = tt
    bytes (Some word) = omega arith

words_in-small : (bytes : List ℕ) (k : ℕ) → AllByRecursion (λ byte. byte < 2 ^ 8) bytes → get_or (words_in bytes) k 0 < 2 ^ 32
words_in-small [] k small = omega arith
words_in-small (a ∷ []) k small = omega arith
words_in-small (a ∷ b ∷ []) k small = omega arith
words_in-small (a ∷ b ∷ c ∷ []) k small = omega arith
words_in-small (a ∷ b ∷ c ∷ d ∷ bytes) zero small = omega (arith, small.0, small.1.0, small.1.1.0, small.1.1.1.0)
words_in-small (a ∷ b ∷ c ∷ d ∷ bytes) (suc k) small = words_in-small bytes k small.1.1.1.1

zeros-small : (count n : ℕ) → (let zeros : List ℕ = replicate count 0 in get_or zeros n 0 < 2 ^ 32)
zeros-small zero n = omega arith
zeros-small (suc count) zero = omega arith
zeros-small (suc count) (suc n) = zeros-small count n

start-whole : (layout : Layout) (statics : List ℕ) (entry : ℕ) (input : List ℕ) (words : List (Entry ℕ)) → AllByRecursion (λ byte. byte < 2 ^ 8) statics → entry < 16 * layout.code
    → IsWholeState (ideal_start layout statics entry input words)
start-whole layout statics entry input words small within = record {
  registers = refl;
  zero = refl;
  small = λ n. zeros-small 32 n;
  pc = let fits = layout.data_fits in omega arith;
  words = λ at. go (nat_le (start_of layout Constant) at && nat_lt at (end_of layout Code)) at;
}
  where
    go : (is_static : Bool) (at : ℕ) → (if is_static then get_or (words_in statics) ((at - start_of layout Constant) / 4) 0 else 0) < 2 ^ 32
    go true at = words_in-small statics ((at - start_of layout Constant) / 4) small
    go false at = omega arith

pub states-whole : StatesAreWhole
states-whole layout loose statics entry input words steps small within =
    run-keeps (machine_step layout (from_entries loose)) IsWholeState (λ state whole. steps-whole layout (from_entries loose) state (entries-give loose) whole) steps (ideal_start layout statics entry input words)
    (start-whole layout statics entry input words small within)
