-- Code of operations has no instruction that loads or stores a byte.
use Rattle.std.proofs.Common.{◌≡◌, ℕ, zero, suc, ◌+◌, ◌-◌, ◌*◌, ◌/◌, ◌%◌, ◌<◌, Bool, true, false, not, ◌==◌, ◌&&◌, if◌then◌else◌, List, [], ◌∷◌, ◌++◌, length, map, replicate, Option, Some, None, option_map, arith, refl, sym, ◌∙◌, ap, subst}
use Rattle.std.proofs.lemmas.Bool.{eqb-true, true≢false}
use Rattle.std.specs.Prelude.{ℤ, slice_index, IsTrue}
use Rattle.execution.specs.Run.{Next, Goes, and_then, run, state_of}
use Rattle.execution.specs.Traffic.{Entry}
use Rattle.execution.proofs.RunLemmas.{run-+, run-keeps}
use Rattle.aegis_num.specs.declared.UnaryOp.TheVariants.{Neg, Inv, Not}
use Rattle.aegis_num.specs.declared.BinaryOp.{BinaryOp}
use Rattle.aegis_num.specs.declared.BinaryOp.TheVariants as on
use Rattle.aegis_num.specs.Operators.{traps, binary, word_of_int}
use Rattle.regions.specs.declared.Class.TheVariants.{Code}
use Rattle.regions.specs.declared.Layout.{Layout}
use Rattle.regions.specs.declared.Access.TheVariants.{Fetch}
use Rattle.regions.specs.Addresses.{class_at, start_of, LiesIn}
use Rattle.regions.specs.LooseClasses.{shared_and_logged_loose}
use Rattle.regions.specs.Modes.{is_secure}
use Rattle.regions.proofs.AddressLaws.{LiesIn-class_at}
use Rattle.orbis_word.specs.declared.Instr.{Instr}
use Rattle.orbis_word.specs.declared.Instr.TheVariants.{J, Jal, Bnf, Bf, Nop, Movhi, Jr, Cust1, Lwz, Lbz, Addi, Andi, Ori, Slli, Srli, Srai, Sw, Sb, Add, Sub, And, Or, Xor, Mul, Div, Divu, Sll, Srl, Sra, Sfeq, Sfne, Sfgtu, Sfgeu, Sfltu, Sfleu, Sfgts, Sfges, Sflts, Sfles}
use Rattle.orbis_word.specs.Reading.{instruction_in}
use Rattle.orbis_core.specs.declared.effect.Effect.TheVariants as effect
use Rattle.orbis_core.specs.Effects.{effect_of, branch, operate}
use Rattle.orbis_core.specs.Ideal.{Ideal, IdealEnd, effect_at, executed, from_entries, ideal_run, ideal_start, ideal_step, instruction_at, static_memory, unless}
use Rattle.orbis_core.specs.Processor.{Processor, register}
use Rattle.orbis_core.specs.Refusals.{word_refusal, is_allowed}
use Rattle.orbis_core.specs.Soundness.{is_open_byte}
use Rattle.orbis_core.specs.declared.memory.Why.{Why}
use Rattle.orbis_core.specs.declared.memory.Why.TheVariants as why
use Rattle.orbis_core.proofs.IdealLemmas.{code-stays, code-fetched, mode-secure}
use Rattle.ir_code.specs.declared.Ir.{Ir}
use Rattle.ir_code.specs.declared.Op.{Op}
use Rattle.ir_code.specs.declared.Op.TheVariants as op
use Rattle.ir_code.specs.Lawful.{IsLawful}
use Rattle.image_file.specs.declared.Image.{Image}
use Rattle.image_file.specs.ImageTable.{static_bytes, HoldsWords}
use Rattle.region_plan.specs.Homes.{home_address}
use Rattle.codegen.specs.OpInstructions.{Sites, instructions_of, start_code}
use Rattle.codegen.specs.ImageCode.{code_from, code_of, size_of, sites_of, code_blocks, code_size, offset_of, start_size}
use Rattle.codegen.specs.EmittedImage.{IsImageOf, HasFirstWords, MeansCode}
use Rattle.codegen.specs.SoundImages.{ImagesAreSound}
use Rattle.codegen.proofs.Imaging.{means, static-code, code-whole}

-- ---- the code

abbrev is_byte : Instr → Bool
is_byte (Lbz d i a) = true
is_byte (Sb i a b) = true
is_byte other = false

abbrev plain : List Instr → Bool
plain [] = true
plain (i ∷ is) = not (is_byte i) && plain is

plain-join : (xs ys : List Instr) → plain xs ≡ true → plain ys ≡ true → plain (xs ++ ys) ≡ true
plain-join [] ys e e' = e'
plain-join (x ∷ xs) ys e e' = go (not (is_byte x)) e (λ h. plain-join xs ys h e')
  where
    go : (t : Bool) → (t && plain xs) ≡ true → (plain xs ≡ true → plain (xs ++ ys) ≡ true) → (t && plain (xs ++ ys)) ≡ true
    go true h later = later h
    go false h later = h

plain-op : (at : Sites) (n : ℕ) (o : Op) → plain (instructions_of at n o) ≡ true
plain-op at n (op.Const to value) = refl
plain-op at n (op.Copy to from) = refl
plain-op at n (op.Unary Neg to a) = refl
plain-op at n (op.Unary Inv to a) = refl
plain-op at n (op.Unary Not to a) = refl
plain-op at n (op.Binary on.Add to a b) = refl
plain-op at n (op.Binary on.Sub to a b) = refl
plain-op at n (op.Binary on.Mul to a b) = refl
plain-op at n (op.Binary on.DivS to a b) = refl
plain-op at n (op.Binary on.DivU to a b) = refl
plain-op at n (op.Binary on.RemS to a b) = refl
plain-op at n (op.Binary on.RemU to a b) = refl
plain-op at n (op.Binary on.And to a b) = refl
plain-op at n (op.Binary on.Or to a b) = refl
plain-op at n (op.Binary on.Xor to a b) = refl
plain-op at n (op.Binary on.Shl to a b) = refl
plain-op at n (op.Binary on.ShrS to a b) = refl
plain-op at n (op.Binary on.ShrU to a b) = refl
plain-op at n (op.Binary on.Eq to a b) = refl
plain-op at n (op.Binary on.Ne to a b) = refl
plain-op at n (op.Binary on.LtS to a b) = refl
plain-op at n (op.Binary on.LtU to a b) = refl
plain-op at n (op.Binary on.LeS to a b) = refl
plain-op at n (op.Binary on.LeU to a b) = refl
plain-op at n (op.Binary on.GtS to a b) = refl
plain-op at n (op.Binary on.GtU to a b) = refl
plain-op at n (op.Binary on.GeS to a b) = refl
plain-op at n (op.Binary on.GeU to a b) = refl
plain-op at n (op.Test a length token) = refl
plain-op at n (op.NonZero a token) = refl
plain-op at n (op.Load to array index) = refl
plain-op at n (op.Store array index from) = refl
plain-op at n (op.Label l) = refl
plain-op at n (op.Jump l) = refl
plain-op at n (op.JumpZero a l) = refl
plain-op at n (op.Arg slot from) = refl
plain-op at n (op.Param to slot) = refl
plain-op at n (op.Call l) = refl
plain-op at n (op.SaveLink cell) = refl
plain-op at n (op.Return cell) = refl
plain-op at n (op.SetResult from) = refl
plain-op at n (op.Result to) = refl
plain-op at n (op.Input to) = refl
plain-op at n (op.Release a) = refl
plain-op at n op.Check = refl
plain-op at n op.Suspend = refl
plain-op at n (op.SetMode true) = refl
plain-op at n (op.SetMode false) = refl
plain-op at n op.Exit = refl

plain-code : (at : Sites) (n : ℕ) (ops : List Op) → plain (code_from at n ops) ≡ true
plain-code at n [] = refl
plain-code at n (o ∷ ops) = plain-join (instructions_of at n o) (code_from at (n + size_of o) ops) (plain-op at n o) (plain-code at (n + size_of o) ops)

plain-start : (n entry : ℕ) → plain (start_code n entry) ≡ true
plain-start n entry = refl

plain-padding : (n : ℕ) → plain (replicate n (Nop 0)) ≡ true
plain-padding zero = refl
plain-padding (suc n) = plain-padding n

-- ---- what a plain instruction asks for

plain-branch : (layout : Layout) (taken : Bool) (core : Processor) (n : ℤ) → is_open_byte layout (Some (branch taken core n)) ≡ false
plain-branch layout true core n = refl
plain-branch layout false core n = refl

plain-operate : (layout : Layout) (d : ℕ) (o : BinaryOp) (left right : ℕ) → is_open_byte layout (Some (operate d o left right)) ≡ false
plain-operate layout d o left right = go (traps o right)
  where
    go : (t : Bool) → is_open_byte layout (Some (if t then effect.DivideByZero else effect.Write d (binary o left right))) ≡ false
    go true = refl
    go false = refl

plain-effect : (layout : Layout) (i : Instr) (core : Processor) → not (is_byte i) ≡ true → is_open_byte layout (Some (effect_of i core)) ≡ false
plain-effect layout (J n) core e = refl
plain-effect layout (Jal n) core e = refl
plain-effect layout (Nop k) core e = refl
plain-effect layout (Movhi d k) core e = refl
plain-effect layout (Jr b) core e = refl
plain-effect layout (Cust1 f) core e = refl
plain-effect layout (Lwz d i a) core e = refl
plain-effect layout (Sw i a b) core e = refl
plain-effect layout (Sfeq a b) core e = refl
plain-effect layout (Sfne a b) core e = refl
plain-effect layout (Sfgtu a b) core e = refl
plain-effect layout (Sfgeu a b) core e = refl
plain-effect layout (Sfltu a b) core e = refl
plain-effect layout (Sfleu a b) core e = refl
plain-effect layout (Sfgts a b) core e = refl
plain-effect layout (Sfges a b) core e = refl
plain-effect layout (Sflts a b) core e = refl
plain-effect layout (Sfles a b) core e = refl
plain-effect layout (Bnf n) core e = plain-branch layout (not core.flag) core n
plain-effect layout (Bf n) core e = plain-branch layout core.flag core n
plain-effect layout (Lbz d i a) core e = absurd (true≢false (sym e))
plain-effect layout (Sb i a b) core e = absurd (true≢false (sym e))
plain-effect layout (Addi d a i) core e = plain-operate layout d on.Add (register core a) (word_of_int i)
plain-effect layout (Andi d a k) core e = plain-operate layout d on.And (register core a) k
plain-effect layout (Ori d a k) core e = plain-operate layout d on.Or (register core a) k
plain-effect layout (Slli d a l) core e = plain-operate layout d on.Shl (register core a) l
plain-effect layout (Srli d a l) core e = plain-operate layout d on.ShrU (register core a) l
plain-effect layout (Srai d a l) core e = plain-operate layout d on.ShrS (register core a) l
plain-effect layout (Add d a b) core e = plain-operate layout d on.Add (register core a) (register core b)
plain-effect layout (Sub d a b) core e = plain-operate layout d on.Sub (register core a) (register core b)
plain-effect layout (And d a b) core e = plain-operate layout d on.And (register core a) (register core b)
plain-effect layout (Or d a b) core e = plain-operate layout d on.Or (register core a) (register core b)
plain-effect layout (Xor d a b) core e = plain-operate layout d on.Xor (register core a) (register core b)
plain-effect layout (Mul d a b) core e = plain-operate layout d on.Mul (register core a) (register core b)
plain-effect layout (Div d a b) core e = plain-operate layout d on.DivS (register core a) (register core b)
plain-effect layout (Divu d a b) core e = plain-operate layout d on.DivU (register core a) (register core b)
plain-effect layout (Sll d a b) core e = plain-operate layout d on.Shl (register core a) (register core b)
plain-effect layout (Srl d a b) core e = plain-operate layout d on.ShrU (register core a) (register core b)
plain-effect layout (Sra d a b) core e = plain-operate layout d on.ShrS (register core a) (register core b)

-- ---- runs

abbrev IsPlainWord : Layout → Processor → Option Instr → Type 0
IsPlainWord layout core found = is_open_byte layout (option_map (λ i. effect_of i core) found) ≡ false

head-same : (a b : Option Instr) (one other : List (Option Instr)) → a ∷ one ≡ b ∷ other → (a ≡ b) × (one ≡ other)
head-same a b one other e = ((cc), (cc))

first-true : (s t : Bool) → (s && t) ≡ true → s ≡ true
first-true true t e = refl
first-true false t e = e

second-true : (s t : Bool) → (s && t) ≡ true → t ≡ true
second-true true t e = e
second-true false t e = absurd (true≢false (sym e))

plain-words : (layout : Layout) (core : Processor) (words : List ℕ) (is : List Instr) → map instruction_in words ≡ map Some is → plain is ≡ true → (k : ℕ) → k < length words → IsPlainWord layout core (instruction_in (slice_index words k))
plain-words layout core [] is e p k below = absurd (omega (arith, below))
plain-words layout core (word ∷ words) [] e p k below = absurd (grind (arith, e))
plain-words layout core (word ∷ words) (i ∷ is) e p zero below =
    subst (λ (found : Option Instr). IsPlainWord layout core found) (sym (head-same (instruction_in word) (Some i) (map instruction_in words) (map Some is) e).0)
    (plain-effect layout i core (first-true (not (is_byte i)) (plain is) p))
plain-words layout core (word ∷ words) (i ∷ is) e p (suc k) below =
    plain-words layout core words is (head-same (instruction_in word) (Some i) (map instruction_in words) (map Some is) e).1 (second-true (not (is_byte i)) (plain is) p) k (omega (arith, below))

-- a word that is not refused lies at an address that four divides
aligned-word : (layout : Layout) (state : Ideal) → word_refusal layout state.mode Fetch state.core.pc ≡ None → state.core.pc % 4 ≡ 0
aligned-word layout state none = go (is_allowed layout state.mode Fetch state.core.pc) (state.core.pc % 4 == 0) refl none
  where
    go : (t u : Bool) → (state.core.pc % 4 == 0) ≡ u → (if t then (if u then None else Some why.Misaligned) else Some why.Rights) ≡ None → state.core.pc % 4 ≡ 0
    go true true e h = eqb-true (state.core.pc % 4) 0 e
    go true false e h = absurd (grind (arith, h))
    go false u e h = absurd (grind (arith, h))

module _ (ir : Ir) (image : Image) (lawful : IsLawful shared_and_logged_loose ir) (first : HasFirstWords ir.cells) (is : IsImageOf ir image) (holds : HoldsWords image) where
  it : MeansCode shared_and_logged_loose ir image
  it = means shared_and_logged_loose ir image lawful first is holds

  abbrev step : Ideal → Next Ideal IdealEnd
  step = ideal_step image.layout shared_and_logged_loose

  code-plain : plain (code_of (home_address image.layout ir) ir) ≡ true
  code-plain =
      let start : List Instr = start_code (code_size ir.ops) (offset_of ir.ops ir.entry) in
      plain-join (code_from (sites_of (home_address image.layout ir) ir) 0 ir.ops) (start ++ replicate (16 * code_blocks ir - (code_size ir.ops + start_size)) (Nop 0))
      (plain-code (sites_of (home_address image.layout ir) ir) 0 ir.ops)
      (plain-join start (replicate (16 * code_blocks ir - (code_size ir.ops + start_size)) (Nop 0))
      (plain-start (code_size ir.ops) (offset_of ir.ops ir.entry)) (plain-padding (16 * code_blocks ir - (code_size ir.ops + start_size))))

  module _ (input : List ℕ) (words : List (Entry ℕ)) (steps : ℕ) (at : Ideal) (ran : ideal_run image.layout shared_and_logged_loose (static_bytes image) image.entry input words steps ≡ Goes at) where
    abbrev start : Ideal
    start = ideal_start image.layout (static_bytes image) image.entry input words

    secure : IsTrue (is_secure at.mode)
    secure =
        subst (λ (n : Next Ideal IdealEnd). IsTrue (is_secure (state_of n).mode)) ran
        (run-keeps step (λ s. IsTrue (is_secure s.mode)) (λ s h. mode-secure image.layout (from_entries shared_and_logged_loose) s h) steps start refl)

    kept : (a : ℕ) → class_at image.layout a ≡ Some Code → at.memory a ≡ static_memory image.layout (static_bytes image) a
    kept a code =
        subst (λ (n : Next Ideal IdealEnd). (state_of n).memory a ≡ static_memory image.layout (static_bytes image) a) ran
        (run-keeps step (λ s. s.memory a ≡ static_memory image.layout (static_bytes image) a) (λ s h. code-stays image.layout (from_entries shared_and_logged_loose) s a code ∙ h) steps start refl)

    not-refused : word_refusal image.layout at.mode Fetch at.core.pc ≡ None
    not-refused = go (word_refusal image.layout at.mode Fetch at.core.pc) refl
      where
        go : (found : Option Why) → word_refusal image.layout at.mode Fetch at.core.pc ≡ found → word_refusal image.layout at.mode Fetch at.core.pc ≡ None
        go None e = e
        go (Some reason) e =
            absurd (it.never_refused input words (steps + 1) reason at
            (run-+ step steps 1 start ∙ ap (λ (n : Next Ideal IdealEnd). and_then n (run step 1)) ran
            ∙ ap (λ (x : Option Why). and_then (unless x at (executed image.layout (from_entries shared_and_logged_loose) (instruction_at at) at)) (run step 0)) e))

    no-byte : is_open_byte image.layout (effect_at at) ≡ false
    no-byte =
        let code : class_at image.layout at.core.pc ≡ Some Code = code-fetched image.layout at secure not-refused in
        let lies : LiesIn image.layout Code at.core.pc = LiesIn-class_at image.layout at.core.pc Code code in
        let even : at.core.pc % 4 ≡ 0 = aligned-word image.layout at not-refused in
        let k : ℕ = (at.core.pc - start_of image.layout Code) / 4 in
        let place : at.core.pc ≡ start_of image.layout Code + 4 * (0 + k) = omega (arith, lies, even) in
        let whole : length image.code ≡ 16 * image.layout.code = code-whole shared_and_logged_loose ir image lawful first is holds in
        let below : k < length image.code = omega (arith, lies, whole) in
        let word : at.memory at.core.pc ≡ slice_index image.code k =
        kept at.core.pc code ∙ ap (λ (a : ℕ). static_memory image.layout (static_bytes image) a) place ∙ static-code shared_and_logged_loose ir image lawful first is holds k below in
        subst (λ (n : ℕ). IsPlainWord image.layout at.core (instruction_in n)) (sym word) (plain-words image.layout at.core image.code (code_of (home_address image.layout ir) ir) is.code code-plain k below)

pub images-are-sound : ImagesAreSound
images-are-sound ir image lawful first is holds = record {
  never_refused = λ input words steps reason at. (means shared_and_logged_loose ir image lawful first is holds).never_refused input words steps reason at;
  no_open_byte = λ input words steps at ran. no-byte ir image lawful first is holds input words steps at ran;
}
