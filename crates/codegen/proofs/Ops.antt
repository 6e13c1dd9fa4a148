-- What the code of each operation does.
use Rattle.std.proofs.Common.{◌≡◌, ℕ, zero, suc, ◌+◌, ◌-◌, ◌*◌, ◌^◌, ◌<◌, Bool, true, false, cond, not, ◌==◌, ◌&&◌, nat_le, nat_lt, if◌then◌else◌, List, [], ◌∷◌, Option, Some, None, arith, refl, sym, ◌∙◌, ap, subst}
use Rattle.std.proofs.lemmas.Bool.Decides.{nat_tests}
use Rattle.std.specs.Prelude.{pos, ◌*ℤ◌, IfSome, slice_index}
use Rattle.execution.specs.Run.{Goes, Stops}
use Rattle.execution.specs.Traffic.{is_same_element, loose_word, input_word, after_input, after_release, after_check, after_suspension, after_write}
use Rattle.aegis_num.specs.declared.limits.TheConstants.{MAX_PARAMETERS}
use Rattle.aegis_num.specs.declared.UnaryOp.{UnaryOp}
use Rattle.aegis_num.specs.declared.UnaryOp.TheVariants.{Neg, Inv, Not}
use Rattle.aegis_num.specs.declared.BinaryOp.{BinaryOp}
use Rattle.aegis_num.specs.declared.BinaryOp.TheVariants as on
use Rattle.std.specs.Int.RustNames.{int_lt, int_le}
use Rattle.aegis_num.specs.Operators.{unary, binary, traps, truth, wrapped, int_of}
use Rattle.regions.specs.declared.Class.TheVariants.{Code}
use Rattle.regions.specs.declared.Access.TheVariants.{Read, Write}
use Rattle.regions.specs.Addresses.{class_at, start_of}
use Rattle.regions.specs.Rights.{rights}
use Rattle.orbis_word.specs.declared.Instr.{Instr}
use Rattle.orbis_word.specs.declared.Instr.TheVariants.{Bf, Jr, Lwz, Sw}
use Rattle.orbis_core.specs.declared.effect.Effect.TheVariants as effect
use Rattle.orbis_core.specs.Effects.{displaced, effect_of}
use Rattle.orbis_core.specs.Ideal.{Ideal, ideal_step, loaded, taken, memory_stored}
use Rattle.orbis_core.specs.Processor.{registers_with}
use Rattle.ir_code.specs.declared.Op.{Op}
use Rattle.ir_code.specs.declared.Op.TheVariants as op
use Rattle.ir_code.specs.OpTable.{weight_of}
use Rattle.ir_code.specs.FlatStates as flat
use Rattle.ir_code.specs.FlatStates.{Held, Word, Link, FlatState, FlatEnd, Step, Later, pick, stuck, with_traffic, words_of, class_of, mode_of, is_shared, changed, filled, fetched, label_place, element_at}
use Rattle.ir_code.specs.FlatMeaning.{effect as effect_on, reading, written, writing, put, jumping, going, with_given, with_link, keeping_link}
use Rattle.codegen.specs.OpInstructions.{base, upper, lower, read_into, keep, flagged, distance, on_one, on_two, instructions_of}
use Rattle.codegen.specs.ImageCode.{offset_of, offset_found}
use Rattle.codegen.proofs.Registers.{Registers, listed, Name, R3, R4, R5, R6, R7, R8, R9, R11, R13, R14, R15, number_of, set}
use Rattle.codegen.proofs.Comes.{World, Fits, HasCode, first-stands, rest-stands, sites, core_at, standing, word_held, Tied, Handed, Has, Comes, steps, stays, address_of}
use Rattle.codegen.proofs.Rules.{to-next, went, among, writes, compares, proceeds, jumps, links, reads, read-step, writes-cell, write-step, tied-new, lt-from, exits, releases, inputs, checks, suspends, turns-private, turns-public}
use Rattle.codegen.proofs.Remainders.{remainder, signed-remainder}
use Rattle.codegen.proofs.Parts.{near, joined, based, at-home, reached, lands, fetches, puts, numbers-13, numbers-14, indexes, flags, index-tests, divide-tests, labelled}

-- ---- operators

truth-test : (b : Bool) → (truth b == 1) ≡ b
truth-test true = refl
truth-test false = refl

truth-twice : (b : Bool) → truth (truth b == 1) ≡ truth b
truth-twice b = ap truth (truth-test b)

module _ (w : World) (h : Fits w) (f : FlatState) {lo : Bool} {pc to : ℕ} {flag : Bool} {r : Registers} {m : ℕ → ℕ} {rest : List Instr} {next : Step} where
  -- an operator on register 13
  pub ones : (o : UnaryOp) (k : ℕ) → r.r13 < 2 ^ 32 → Tied w f.cells m → HasCode w pc (on_one o rest) to →
      ((k pc' : ℕ) (flag' : Bool) (r' : Registers) → r'.r13 ≡ unary o r.r13 → HasCode w pc' rest to → Comes w false (suc (suc k)) (standing w pc' flag' r' f m) next) →
      Comes w lo (suc (suc (suc (suc (suc (suc k)))))) (standing w pc flag r f m) next
  ones Neg k small tied code after =
      writes w h f R13 (wrapped (0 + (2 ^ 32 - r.r13))) tied code refl (λ code'. after (suc (suc (suc k))) _ _ _ (omega arith) code')
  ones Inv k small tied code after =
      writes w h f R14 (2 ^ 32 - 1) tied code refl
      (λ code'. writes w h f R13 (wrapped (2 ^ 32 - 1 + (2 ^ 32 - r.r13))) tied code' refl (λ code''. after (suc (suc k)) _ _ _ (omega (arith, small)) code''))
  ones Not k small tied code after =
      compares w h f (truth (r.r13 == 0) == 1) tied code refl
      (λ code'. flags w h f (truth (r.r13 == 0) == 1) tied code' (λ code''. after k _ _ _ (truth-twice (r.r13 == 0)) code''))

-- what comes after an operator, with its value in register 13
abbrev GoesOn : World → FlatState → (ℕ → ℕ) → List Instr → ℕ → Step → ℕ → Type 0
GoesOn w f m rest to next value =
    (k pc : ℕ) (flag : Bool) (r : Registers) → r.r13 ≡ value → HasCode w pc rest to → Comes w false (suc (suc k)) (standing w pc flag r f m) next

module _ (w : World) (h : Fits w) (f : FlatState) {lo : Bool} {pc to : ℕ} {flag : Bool} {r : Registers} {m : ℕ → ℕ} {rest : List Instr} {next : Step} where
  -- one instruction
  alone : {i : Instr} (value k : ℕ) → effect_of i (core_at pc flag r) ≡ effect.Write 13 value → Tied w f.cells m → HasCode w pc (i ∷ rest) to → GoesOn w f m rest to next value →
      Comes w lo (suc (suc (suc (suc (suc (suc k)))))) (standing w pc flag r f m) next
  alone value k e tied code after = writes w h f R13 value tied code e (λ code'. after (suc (suc (suc k))) _ _ _ refl code')

  -- a comparison
  compared : {i : Instr} (b : Bool) (k : ℕ) → effect_of i (core_at pc flag r) ≡ effect.Compare (truth b == 1) → Tied w f.cells m → HasCode w pc (i ∷ flagged rest) to → GoesOn w f m rest to next (truth b) →
      Comes w lo (suc (suc (suc (suc (suc (suc k)))))) (standing w pc flag r f m) next
  compared b k e tied code after =
      compares w h f (truth b == 1) tied code e (λ code'. flags w h f (truth b == 1) tied code' (λ code''. after k _ _ _ (truth-twice b) code''))

module _ (w : World) (h : Fits w) (f : FlatState) {lo : Bool} {pc to : ℕ} {flag : Bool} {r : Registers} {m : ℕ → ℕ} {rest : List Instr} {next : Step} where
  -- an operator on registers 13 and 14
  pub twos : (o : BinaryOp) (k : ℕ) → traps o r.r14 ≡ false → r.r13 < 2 ^ 32 → r.r14 < 2 ^ 32 → Tied w f.cells m → HasCode w pc (on_two o rest) to → GoesOn w f m rest to next (binary o r.r13 r.r14) →
      Comes w lo (suc (suc (suc (suc (suc (suc k)))))) (standing w pc flag r f m) next
  twos on.DivS k fine small small' tied code after =
      alone w h f (binary on.DivS r.r13 r.r14) k (ap (λ (t : Bool). if t then effect.DivideByZero else effect.Write 13 (binary on.DivS r.r13 r.r14)) fine) tied code after
  twos on.DivU k fine small small' tied code after =
      alone w h f (binary on.DivU r.r13 r.r14) k (ap (λ (t : Bool). if t then effect.DivideByZero else effect.Write 13 (binary on.DivU r.r13 r.r14)) fine) tied code after
  twos on.RemS k fine small small' tied code after =
      writes w h f R15 (binary on.DivS r.r13 r.r14) tied code (ap (λ (t : Bool). if t then effect.DivideByZero else effect.Write 15 (binary on.DivS r.r13 r.r14)) fine)
      (λ code'. writes w h f R15 (wrapped (binary on.DivS r.r13 r.r14 * r.r14)) tied code' refl
      (λ code''. writes w h f R13 (wrapped (r.r13 + (2 ^ 32 - wrapped (binary on.DivS r.r13 r.r14 * r.r14)))) tied code'' refl
      (λ last. after (suc k) _ _ _ (signed-remainder r.r13 r.r14 small small' fine) last)))
  twos on.RemU k fine small small' tied code after =
      writes w h f R15 (binary on.DivU r.r13 r.r14) tied code (ap (λ (t : Bool). if t then effect.DivideByZero else effect.Write 15 (binary on.DivU r.r13 r.r14)) fine)
      (λ code'. writes w h f R15 (wrapped (binary on.DivU r.r13 r.r14 * r.r14)) tied code' refl
      (λ code''. writes w h f R13 (wrapped (r.r13 + (2 ^ 32 - wrapped (binary on.DivU r.r13 r.r14 * r.r14)))) tied code'' refl
      (λ last. after (suc k) _ _ _ (remainder r.r13 r.r14 small small' fine) last)))
  twos on.Add k fine small small' tied code after = alone w h f (binary on.Add r.r13 r.r14) k refl tied code after
  twos on.Sub k fine small small' tied code after = alone w h f (binary on.Sub r.r13 r.r14) k refl tied code after
  twos on.Mul k fine small small' tied code after = alone w h f (binary on.Mul r.r13 r.r14) k refl tied code after
  twos on.And k fine small small' tied code after = alone w h f (binary on.And r.r13 r.r14) k refl tied code after
  twos on.Or k fine small small' tied code after = alone w h f (binary on.Or r.r13 r.r14) k refl tied code after
  twos on.Xor k fine small small' tied code after = alone w h f (binary on.Xor r.r13 r.r14) k refl tied code after
  twos on.Shl k fine small small' tied code after = alone w h f (binary on.Shl r.r13 r.r14) k refl tied code after
  twos on.ShrS k fine small small' tied code after = alone w h f (binary on.ShrS r.r13 r.r14) k refl tied code after
  twos on.ShrU k fine small small' tied code after = alone w h f (binary on.ShrU r.r13 r.r14) k refl tied code after
  twos on.Eq k fine small small' tied code after = compared w h f (r.r13 == r.r14) k refl tied code after
  twos on.Ne k fine small small' tied code after = compared w h f (not (r.r13 == r.r14)) k refl tied code after
  twos on.LtS k fine small small' tied code after = compared w h f (int_lt (int_of r.r13) (int_of r.r14)) k refl tied code after
  twos on.LtU k fine small small' tied code after = compared w h f (nat_lt r.r13 r.r14) k refl tied code after
  twos on.LeS k fine small small' tied code after = compared w h f (int_le (int_of r.r13) (int_of r.r14)) k refl tied code after
  twos on.LeU k fine small small' tied code after = compared w h f (nat_le r.r13 r.r14) k refl tied code after
  twos on.GtS k fine small small' tied code after = compared w h f (int_lt (int_of r.r14) (int_of r.r13)) k refl tied code after
  twos on.GtU k fine small small' tied code after = compared w h f (nat_lt r.r14 r.r13) k refl tied code after
  twos on.GeS k fine small small' tied code after = compared w h f (int_le (int_of r.r14) (int_of r.r13)) k refl tied code after
  twos on.GeU k fine small small' tied code after = compared w h f (nat_le r.r14 r.r13) k refl tied code after

-- ---- operations

-- nothing is handed over any more
pub forgot : (w : World) (r : Registers) → Handed w (λ slot. None) None None r
forgot w r = record { slot_0 = tt; slot_1 = tt; slot_2 = tt; slot_3 = tt; slot_4 = tt; slot_5 = tt; link = tt; result = tt }

pub unlinked : (w : World) (slots : ℕ → Option ℕ) (call answer : Option ℕ) (r : Registers) → Handed w slots call answer r → Handed w slots None answer r
unlinked w slots call answer r h =
    record { slot_0 = h.slot_0; slot_1 = h.slot_1; slot_2 = h.slot_2; slot_3 = h.slot_3; slot_4 = h.slot_4; slot_5 = h.slot_5; link = tt; result = h.result }

-- an operation is to be run, and the machine stands at its code
pub record Here (w : World) (f : FlatState) (o : Op) (r : Registers) (m : ℕ → ℕ) : Type 0 where
  pub tied : Tied w f.cells m
  pub small : (a : ℕ) → m a < 2 ^ 32
  pub handed : Handed w f.slots f.link f.result r
  pub code : HasCode w (address_of w f.place) (instructions_of (sites w) (offset_of w.ir.ops f.place) o) (address_of w (f.place + 1))

-- an operation that has instructions takes a step
abbrev pub takes_step : Op → Bool
takes_step (op.Label l) = false
takes_step other = true

-- its code does what it does
abbrev pub Does : World → FlatState → Op → Type 0
Does w f o =
    (flag : Bool) (r : Registers) (m : ℕ → ℕ) → Here w f o r m →
    Comes w (takes_step o) (weight_of o) (standing w (address_of w f.place) flag r f m) (effect_on w.loose w.ir o f (fetched o f))

module _ (w : World) (h : Fits w) (g : FlatState) {pc to : ℕ} {flag : Bool} {r : Registers} {m : ℕ → ℕ} where
  -- an operator that does not trap, and its value in a cell
  chosen : (o : BinaryOp) (c : ℕ) (b : Bool) → traps o r.r14 ≡ b → r.r13 < 2 ^ 32 → r.r14 < 2 ^ 32 → Tied w g.cells m → HasCode w pc (on_two o (keep (w.home c) 13 [])) to →
      to ≡ address_of w g.place → ((r' : Registers) → Handed w g.slots g.link g.result r') → Comes w false 10 (standing w pc flag r g m) (pick b stuck (put w.ir c (binary o r.r13 r.r14)) g)
  chosen o c true fine small small' tied code there handed = record { comes = tt }
  chosen o c false fine small small' tied code there handed =
      twos w h g o 4 fine small small' tied code (λ k pc' flag' r' is code'. puts w h g c 13 (binary o r.r13 r.r14) tied code' there is (handed _))

-- a jump where a test holds
module _ (w : World) (h : Fits w) (g : FlatState) {pc to : ℕ} {r : Registers} {m : ℕ → ℕ} where
  branches : (b : Bool) (l n : ℕ) → Tied w g.cells m → HasCode w pc (Bf (distance n ((sites w).label l)) ∷ []) to → to ≡ address_of w g.place → pc ≡ start_of w.layout Code + 4 * n →
      Handed w g.slots g.link g.result r → Comes w false 2 (standing w pc b r g m) (pick b (jumping w.ir l) (λ x. Goes x) g)
  branches true l n tied code there at handed = labelled w h g l n tied code refl at handed
  branches false l n tied code there at handed = proceeds w h g tied code refl (λ code'. lands w g code' there tied handed)

pick-not : (b : Bool) (one other : Later) (f : FlatState) → pick (not b) one other f ≡ pick b other one f
pick-not true one other f = refl
pick-not false one other f = refl

applied : (t l : Bool) (one other : Later) (f : FlatState) → one f ≡ other f → pick t (pick l stuck one) stuck f ≡ pick t (pick l stuck other) stuck f
applied true true one other f e = refl
applied true false one other f e = e
applied false l one other f e = refl

-- the address of an element of an array
element-at : (w : World) (h : Fits w) (c i : ℕ) (r : Registers) → i < words_of w.ir c →
    displaced (wrapped (slice_index (listed r) (base (w.home c)) + wrapped (i * 4))) (lower (w.home c)) ≡ w.home c + 4 * i
element-at w h c i r below =
    let far : w.home c + 4 * i < 2 ^ 31 = near w.layout (w.home c + 4 * i) (class_of w.ir c) (h.in_class c i below) in
    let four : wrapped (i * 4) ≡ 4 * i = omega (arith, far) in
    ap (λ (x : ℕ). displaced (wrapped (x + wrapped (i * 4))) (lower (w.home c))) (based w h c r (omega (arith, below)))
    ∙ ap (λ (x : ℕ). displaced (wrapped (upper (w.home c) * 2 ^ 16 + x)) (lower (w.home c))) four ∙ joined (w.home c) (4 * i) far

-- where flat code comes to is the same
onto : {w : World} {lo : Bool} {hi : ℕ} {s : Ideal} {one other : Step} → one ≡ other → Comes w lo hi s one → Comes w lo hi s other
onto {w} {lo} {hi} {s} e x = subst (λ (n : Step). Comes w lo hi s n) e x

-- ---- links

module _ (w : World) (h : Fits w) (g : FlatState) (lo : Bool) (hi pc to : ℕ) (flag : Bool) (r : Registers) (m : ℕ → ℕ) (i : Instr) (rest : List Instr) (c place : ℕ) (tied : Tied w g.cells m)
    (code : HasCode w pc (i ∷ rest) to) (below : 0 < words_of w.ir c) where
  -- a link is kept in a cell that is neither loose nor shared
  keeps-link : rest ≡ [] → (at : ℕ) → effect_of i (core_at pc flag r) ≡ effect.StoreWord at (address_of w place) → at ≡ w.home c + 4 * 0 → rights (mode_of g.private) (class_of w.ir c) Write ≡ true →
      is_shared (class_of w.ir c) ≡ false → to ≡ address_of w g.place → Handed w g.slots g.link g.result r →
      Comes w lo (suc hi) (standing w pc flag r g m) (Goes (record g { cells = changed g.cells c 0 (Link place) }))
  keeps-link last at e there right hidden end handed =
      let word : ℕ = address_of w place in
      let m' : ℕ → ℕ = memory_stored w.layout w.loose at word m in
      let g' : FlatState = record g { cells = changed g.cells c 0 (Link place) } in
      let class : class_at w.layout at ≡ Some (class_of w.ir c) = ap (λ (a : ℕ). class_at w.layout a) there ∙ h.in_class c 0 below in
      let step : ideal_step w.layout w.loose (standing w pc flag r g m) ≡ went (standing w (pc + 4) flag r g' m') =
      write-step w h g lo hi pc to flag r m i rest c 0 at word tied code e below there right
      ∙ ap (λ (b : Bool). went (standing w (pc + 4) flag r (with_traffic (cond b (after_write (element_at c 0) word g.traffic) g.traffic) g) m')) hidden in
      steps w lo hi (standing w pc flag r g m) (standing w (pc + 4) flag r g' m') step (Goes g')
      (lands w g' (subst (λ (x : List Instr). HasCode w (pc + 4) x to) last (rest-stands w code)) end
      (tied-new w h g m c 0 at (Link place) tied below there (standing w pc flag r g m) (standing w (pc + 4) flag r g' m') refl step refl (among w.layout w.loose at (class_of w.ir c) class)) handed)

  -- and read there
  reads-link : (at : ℕ) (next : Step) → effect_of i (core_at pc flag r) ≡ effect.LoadWord 9 at → at ≡ w.home c + 4 * 0 → rights (mode_of g.private) (class_of w.ir c) Read ≡ true →
      w.loose (class_of w.ir c) ≡ false → g.cells c 0 ≡ Link place →
      (HasCode w (pc + 4) rest to → Comes w false hi (standing w (pc + 4) flag (set R9 (address_of w place) r) g m) next) → Comes w lo (suc hi) (standing w pc flag r g m) next
  reads-link at next e there right kept is after =
      let word : m (w.home c + 4 * 0) ≡ address_of w place = tied.held c 0 below kept ∙ ap (word_held w) is in
      steps w lo hi (standing w pc flag r g m) (standing w (pc + 4) flag (set R9 (address_of w place) r) g m)
      (read-step w h g lo hi pc to flag r m i rest c 0 at R9 tied code e below there right
      ∙ ap (λ (b : Bool). if b then taken 9 (loose_word is_same_element (element_at c 0) g.traffic) (standing w pc flag r g m) else loaded 9 (m (w.home c + 4 * 0)) (standing w pc flag r g m)) kept
      ∙ ap (λ (n : ℕ). loaded 9 n (standing w pc flag r g m)) word
      ∙ to-next w h pc i flag (registers_with (listed r) 9 (address_of w place)) (listed (set R9 (address_of w place) r)) g m (first-stands w code) refl)
      next (after (rest-stands w code))

-- ---- slots

-- the register of a slot has what was handed over there
slot-has : (w : World) (slots : ℕ → Option ℕ) (call answer : Option ℕ) (r : Registers) (slot word : ℕ) → Handed w slots call answer r → nat_lt slot MAX_PARAMETERS ≡ true → slots slot ≡ Some word →
    slice_index (listed r) (3 + slot) ≡ word
slot-has w slots call answer r zero word h few is = subst (λ (x : Option ℕ). Has x r.r3) is h.slot_0
slot-has w slots call answer r (suc zero) word h few is = subst (λ (x : Option ℕ). Has x r.r4) is h.slot_1
slot-has w slots call answer r (suc (suc zero)) word h few is = subst (λ (x : Option ℕ). Has x r.r5) is h.slot_2
slot-has w slots call answer r (suc (suc (suc zero))) word h few is = subst (λ (x : Option ℕ). Has x r.r6) is h.slot_3
slot-has w slots call answer r (suc (suc (suc (suc zero)))) word h few is = subst (λ (x : Option ℕ). Has x r.r7) is h.slot_4
slot-has w slots call answer r (suc (suc (suc (suc (suc zero))))) word h few is = subst (λ (x : Option ℕ). Has x r.r8) is h.slot_5
slot-has w slots call answer r (suc (suc (suc (suc (suc (suc slot)))))) word h few is = absurd (grind (arith, nat_tests, few))

-- a register that is the register of a slot
pub record IsSlot (w : World) (slot : ℕ) : Type 0 where
  pub name : Name
  pub number : number_of name ≡ 3 + slot
  pub fills : (slots : ℕ → Option ℕ) (call answer : Option ℕ) (r : Registers) (word : ℕ) → Handed w slots call answer r → Handed w (filled slots slot word) None answer (set name word r)

is-slot : (w : World) (slot : ℕ) → nat_lt slot MAX_PARAMETERS ≡ true → IsSlot w slot
is-slot w zero few = record { name = R3; number = refl; fills = λ slots call answer r word h. record { slot_0 = refl; slot_1 = h.slot_1; slot_2 = h.slot_2; slot_3 = h.slot_3; slot_4 = h.slot_4; slot_5 = h.slot_5; link = tt; result = h.result } }
is-slot w (suc zero) few = record { name = R4; number = refl; fills = λ slots call answer r word h. record { slot_0 = h.slot_0; slot_1 = refl; slot_2 = h.slot_2; slot_3 = h.slot_3; slot_4 = h.slot_4; slot_5 = h.slot_5; link = tt; result = h.result } }
is-slot w (suc (suc zero)) few = record { name = R5; number = refl; fills = λ slots call answer r word h. record { slot_0 = h.slot_0; slot_1 = h.slot_1; slot_2 = refl; slot_3 = h.slot_3; slot_4 = h.slot_4; slot_5 = h.slot_5; link = tt; result = h.result } }
is-slot w (suc (suc (suc zero))) few = record { name = R6; number = refl; fills = λ slots call answer r word h. record { slot_0 = h.slot_0; slot_1 = h.slot_1; slot_2 = h.slot_2; slot_3 = refl; slot_4 = h.slot_4; slot_5 = h.slot_5; link = tt; result = h.result } }
is-slot w (suc (suc (suc (suc zero)))) few = record { name = R7; number = refl; fills = λ slots call answer r word h. record { slot_0 = h.slot_0; slot_1 = h.slot_1; slot_2 = h.slot_2; slot_3 = h.slot_3; slot_4 = refl; slot_5 = h.slot_5; link = tt; result = h.result } }
is-slot w (suc (suc (suc (suc (suc zero))))) few = record { name = R8; number = refl; fills = λ slots call answer r word h. record { slot_0 = h.slot_0; slot_1 = h.slot_1; slot_2 = h.slot_2; slot_3 = h.slot_3; slot_4 = h.slot_4; slot_5 = refl; link = tt; result = h.result } }
is-slot w (suc (suc (suc (suc (suc (suc slot)))))) few = absurd (grind (arith, nat_tests, few))

module _ (w : World) (h : Fits w) (f : FlatState) where
  pub const : (to value : ℕ) → Does w f (op.Const to value)
  const to value flag r m x =
      let g : FlatState = fetched (op.Const to value) f in
      numbers-13 w h g value x.tied x.code (λ code. puts w h g to 13 value x.tied code refl refl (forgot w _))

  pub copy : (to from : ℕ) → Does w f (op.Copy to from)
  copy to from flag r m x =
      let g : FlatState = fetched (op.Copy to from) f in
      fetches w h g from R13 (put w.ir to) x.tied x.small x.code
      (λ word t s code. puts w h (with_traffic t g) to 13 word x.tied code refl refl (forgot w _))

  pub unary-op : (o : UnaryOp) (to a : ℕ) → Does w f (op.Unary o to a)
  unary-op o to a flag r m x =
      let g : FlatState = fetched (op.Unary o to a) f in
      fetches w h g a R13 (λ word. put w.ir to (unary o word)) x.tied x.small x.code
      (λ word t s code. ones w h (with_traffic t g) o 1 s x.tied code
      (λ k pc' flag' r' is code'. puts w h (with_traffic t g) to 13 (unary o word) x.tied code' refl is (forgot w _)))

  pub binary-op : (o : BinaryOp) (to a b : ℕ) → Does w f (op.Binary o to a b)
  binary-op o to a b flag r m x =
      let g : FlatState = fetched (op.Binary o to a b) f in
      let next : ℕ → ℕ → Later = λ left right. pick (traps o right) stuck (put w.ir to (binary o left right)) in
      fetches w h g a R13 (λ left. reading w.loose w.ir b 0 (next left)) x.tied x.small x.code
      (λ left t s code. fetches w h (with_traffic t g) b R14 (next left) x.tied x.small code
      (λ right t' s' code'. chosen w h (with_traffic t' g) o to (traps o right) refl s s' x.tied code' refl (λ r'. forgot w r')))

  pub test : (a length token : ℕ) → Does w f (op.Test a length token)
  test a length token flag r m x =
      let g : FlatState = fetched (op.Test a length token) f in
      fetches w h g a R13 (λ index. pick (nat_lt index length) (λ y. Goes y) (Stops (flat.Index token))) x.tied x.small x.code
      (λ index t s code. numbers-14 w h (with_traffic t g) length x.tied code
      (λ code'. compares w h (with_traffic t g) (nat_lt index length) x.tied code' (ap (λ (b : Bool). effect.Compare b) (truth-test (nat_lt index length)))
      (λ code''. index-tests w h (with_traffic t g) (nat_lt index length) token x.tied code'' refl (forgot w _))))

  pub non-zero : (a token : ℕ) → Does w f (op.NonZero a token)
  non-zero a token flag r m x =
      let g : FlatState = fetched (op.NonZero a token) f in
      fetches w h g a R13 (λ word. pick (word == 0) (Stops (flat.Divide token)) (λ y. Goes y)) x.tied x.small x.code
      (λ word t s code. compares w h (with_traffic t g) (not (word == 0)) x.tied code (ap (λ (b : Bool). effect.Compare b) (truth-test (not (word == 0))))
      (λ code'. onto (pick-not (word == 0) (λ y. Goes y) (Stops (flat.Divide token)) (with_traffic t g))
      (divide-tests w h (with_traffic t g) (not (word == 0)) token x.tied code' refl (forgot w _))))

  pub load : (to array index : ℕ) → Does w f (op.Load to array index)
  load to array index flag r m x =
      let g : FlatState = fetched (op.Load to array index) f in
      fetches w h g index R13 (λ i. reading w.loose w.ir array i (put w.ir to)) x.tied x.small x.code
      (λ i t s code. indexes w h (with_traffic t g) (w.home array) i refl x.tied code
      (λ code'. reads w h (with_traffic t g) array i _ R13 (put w.ir to) x.tied x.small code' refl (element-at w h array i _)
      (λ word t' s' code''. puts w h (with_traffic t' g) to 13 word x.tied code'' refl refl (forgot w _))))

  pub store : (array index from : ℕ) → Does w f (op.Store array index from)
  store array index from flag r m x =
      let g : FlatState = fetched (op.Store array index from) f in
      fetches w h g index R13 (λ i. reading w.loose w.ir from 0 (λ word. writing w.ir array i word (λ y. Goes y))) x.tied x.small x.code
      (λ i t s code. fetches w h (with_traffic t g) from R14 (λ word. writing w.ir array i word (λ y. Goes y)) x.tied x.small code
      (λ word t' s' code'. indexes w h (with_traffic t' g) (w.home array) i refl x.tied code'
      (λ code''. writes-cell w h (with_traffic t' g) array i _ word (λ y. Goes y) x.tied code'' refl (element-at w h array i _)
      (λ m' tied' last. lands w (written w.ir array i word (with_traffic t' g)) last refl tied' (forgot w _)))))

  pub label : (l : ℕ) → Does w f (op.Label l)
  label l flag r m x = lands w (fetched (op.Label l) f) x.code refl x.tied x.handed

  pub jump : (l : ℕ) → Does w f (op.Jump l)
  jump l flag r m x = labelled w h (fetched (op.Jump l) f) l (offset_of w.ir.ops f.place) x.tied x.code refl refl (forgot w _)

  pub jump-zero : (a l : ℕ) → Does w f (op.JumpZero a l)
  jump-zero a l flag r m x =
      let g : FlatState = fetched (op.JumpZero a l) f in
      fetches w h g a R13 (λ word. pick (word == 0) (jumping w.ir l) (λ y. Goes y)) x.tied x.small x.code
      (λ word t s code. compares w h (with_traffic t g) (word == 0) x.tied code (ap (λ (b : Bool). effect.Compare b) (truth-test (word == 0)))
      (λ code'. branches w h (with_traffic t g) (word == 0) l (offset_of w.ir.ops f.place + 2) x.tied code' refl (omega arith) (forgot w _)))

  pub set-result : (from : ℕ) → Does w f (op.SetResult from)
  set-result from flag r m x =
      let g : FlatState = fetched (op.SetResult from) f in
      fetches w h g from R11 (λ word y. Goes (record y { result = Some word })) x.tied x.small x.code
      (λ word t s code. lands w (record (with_traffic t g) { result = Some word }) code refl x.tied
      (record { slot_0 = tt; slot_1 = tt; slot_2 = tt; slot_3 = tt; slot_4 = tt; slot_5 = tt; link = tt; result = refl }))

  pub input : (to : ℕ) → Does w f (op.Input to)
  input to flag r m x =
      let g : FlatState = fetched (op.Input to) f in
      inputs w h g x.tied x.code
      (λ code. puts w h (with_traffic (after_input f.traffic) g) to 11 (input_word f.traffic) x.tied code refl refl (forgot w _))

  pub release : (a : ℕ) → Does w f (op.Release a)
  release a flag r m x =
      let g : FlatState = fetched (op.Release a) f in
      fetches w h g a R3 (λ word y. Goes (with_traffic (after_release word y.traffic) y)) x.tied x.small x.code
      (λ word t s code. releases w h (with_traffic t g) x.tied code
      (λ code'. lands w (with_traffic (after_release word t) g) code' refl x.tied (forgot w _)))

  pub check : Does w f op.Check
  check flag r m x = checks w h (fetched op.Check f) x.tied x.code (λ code. lands w (with_traffic (after_check f.traffic) (fetched op.Check f)) code refl x.tied (forgot w _))

  pub suspend : Does w f op.Suspend
  suspend flag r m x = suspends w h (fetched op.Suspend f) x.tied x.code (λ code. lands w (with_traffic (after_suspension f.traffic) (fetched op.Suspend f)) code refl x.tied (forgot w _))

  pub exit : Does w f op.Exit
  exit flag r m x = exits w h (fetched op.Exit f) x.tied x.code

  -- slots, results and modes
  pub arg : (slot from : ℕ) → nat_lt slot MAX_PARAMETERS ≡ true → Does w f (op.Arg slot from)
  arg slot from few flag r m x =
      let g : FlatState = fetched (op.Arg slot from) f in
      let s : IsSlot w slot = is-slot w slot few in
      let next : ℕ → Later = λ word. pick (nat_lt slot MAX_PARAMETERS) (λ y. Goes (record y { slots = filled y.slots slot word })) stuck in
      fetches w h g from s.name next x.tied x.small (subst (λ (n : ℕ). HasCode w (address_of w f.place) (read_into n (w.home from) []) (address_of w (f.place + 1))) (sym s.number) x.code)
      (λ word t bound code. onto (ap (λ (b : Bool). pick b (λ (y : FlatState). Goes (record y { slots = filled y.slots slot word })) stuck (with_traffic t g)) (sym few))
      (lands w (record (with_traffic t g) { slots = filled f.slots slot word }) code refl x.tied (s.fills f.slots f.link f.result r word x.handed)))

  pub param : (to slot : ℕ) → nat_lt slot MAX_PARAMETERS ≡ true → Does w f (op.Param to slot)
  param to slot few flag r m x = go (f.slots slot) refl
    where
      go : (found : Option ℕ) → f.slots slot ≡ found →
          Comes w true 2 (standing w (address_of w f.place) flag r f m) (with_given found (put w.ir to) (fetched (op.Param to slot) f))
      go None is = record { comes = tt }
      go (Some word) is =
          puts w h (fetched (op.Param to slot) f) to (3 + slot) word x.tied x.code refl
          (slot-has w f.slots f.link f.result r slot word x.handed few is) x.handed

  pub result : (to : ℕ) → Does w f (op.Result to)
  result to flag r m x = go f.result refl
    where
      go : (found : Option ℕ) → f.result ≡ found → Comes w true 2 (standing w (address_of w f.place) flag r f m) (with_given found (put w.ir to) (fetched (op.Result to) f))
      go None is = record { comes = tt }
      go (Some word) is =
          puts w h (fetched (op.Result to) f) to 11 word x.tied x.code refl
          (subst (λ (y : Option ℕ). Has y r.r11) is x.handed.result) (forgot w _)

  pub set-private : Does w f (op.SetMode true)
  set-private flag r m x = go f.private refl
    where
      go : (b : Bool) → f.private ≡ b →
          Comes w true 1 (standing w (address_of w f.place) flag r f m) (pick b stuck (λ g. Goes (record g { private = true })) (fetched (op.SetMode true) f))
      go true is = record { comes = tt }
      go false is =
          turns-private w h (fetched (op.SetMode true) f) is x.tied x.code
          (λ code. lands w (record (fetched (op.SetMode true) f) { private = true }) code refl x.tied (unlinked w f.slots f.link f.result r x.handed))

  pub set-public : Does w f (op.SetMode false)
  set-public flag r m x = go f.private refl
    where
      go : (b : Bool) → f.private ≡ b →
          Comes w true 1 (standing w (address_of w f.place) flag r f m) (pick b (λ g. Goes (record g { private = false })) stuck (fetched (op.SetMode false) f))
      go false is = record { comes = tt }
      go true is =
          turns-public w h (fetched (op.SetMode false) f) is x.tied x.code
          (λ code. lands w (record (fetched (op.SetMode false) f) { private = false }) code refl x.tied (unlinked w f.slots f.link f.result r x.handed))

  -- calls and links
  pub call : (l : ℕ) → Does w f (op.Call l)
  call l flag r m x = go (label_place w.ir l) refl
    where
      go : (found : Option ℕ) → label_place w.ir l ≡ found →
          Comes w true 1 (standing w (address_of w f.place) flag r f m) (with_given found going (record (fetched (op.Call l) f) { link = Some (f.place + 1) }))
      go None is = record { comes = tt }
      go (Some place) is =
          let to_small : address_of w place < 2 ^ 31 = h.small place in
          let near_from : address_of w f.place < 2 ^ 31 = h.small f.place in
          let n : ℕ = offset_of w.ir.ops f.place in
          let target : displaced (address_of w f.place) (distance n ((sites w).label l) *ℤ pos 4) ≡ address_of w place =
          ap (λ (y : Option ℕ). displaced (address_of w f.place) (distance n (offset_found w.ir.ops y) *ℤ pos 4)) is
          ∙ reached (start_of w.layout Code) n (offset_of w.ir.ops place) near_from to_small in
          links w h (fetched (op.Call l) f) (address_of w place) x.tied x.code (ap (λ (y : ℕ). effect.Link y) target)
          (λ code. let next : address_of w f.place + 4 ≡ address_of w (f.place + 1) = code.all in
          stays w 0 (standing w (address_of w place) flag (record r { r9 = address_of w f.place + 4 }) f m) (record (fetched (op.Call l) f) { link = Some (f.place + 1); place = place; jumps = f.jumps + 1 })
          (record {
            flag = flag;
            registers = record r { r9 = address_of w f.place + 4 };
            memory = m;
            is = refl;
            tied = x.tied;
            handed = record { slot_0 = x.handed.slot_0; slot_1 = x.handed.slot_1; slot_2 = x.handed.slot_2; slot_3 = x.handed.slot_3; slot_4 = x.handed.slot_4; slot_5 = x.handed.slot_5; link = next; result = x.handed.result };
          }))

  pub save-link : (c : ℕ) → is_shared (class_of w.ir c) ≡ false → Does w f (op.SaveLink c)
  save-link c hidden flag r m x = go f.link refl
    where
      g : FlatState
      g = fetched (op.SaveLink c) f

      kept : (place : ℕ) → f.link ≡ Some place →
          (t : Bool) → nat_lt 0 (words_of w.ir c) ≡ t → (u : Bool) → rights (mode_of f.private) (class_of w.ir c) Write ≡ u → (l : Bool) → w.loose (class_of w.ir c) ≡ l →
          Comes w true 2 (standing w (address_of w f.place) flag r g m)
          (pick (t && u) (pick l stuck (λ y. Goes (record y { cells = changed y.cells c 0 (Link place) }))) stuck g)
      kept place is false t u right l loose = record { comes = tt }
      kept place is true t false right l loose = record { comes = tt }
      kept place is true t true right true loose = record { comes = tt }
      kept place is true t true right false loose =
          let here : r.r9 ≡ address_of w place = subst (λ (y : Option ℕ). IfSome y (λ p. r.r9 ≡ address_of w p)) is x.handed.link in
          let below : 0 < words_of w.ir c = lt-from 0 (words_of w.ir c) t in
          keeps-link w h g true 1 (address_of w f.place) (address_of w (f.place + 1)) flag r m (Sw (lower (w.home c)) (base (w.home c)) 9) [] c place x.tied x.code below
          refl (displaced (slice_index (listed r) (base (w.home c))) (lower (w.home c)))
          (ap (λ (n : ℕ). effect.StoreWord (displaced (slice_index (listed r) (base (w.home c))) (lower (w.home c))) n) here)
          (at-home w h c r below) right hidden refl (unlinked w f.slots f.link f.result r x.handed)

      go : (found : Option ℕ) → f.link ≡ found → Comes w true 2 (standing w (address_of w f.place) flag r f m) (with_given found (keeping_link w.loose w.ir c) g)
      go None is = record { comes = tt }
      go (Some place) is =
          kept place is (nat_lt 0 (words_of w.ir c)) refl (rights (mode_of f.private) (class_of w.ir c) Write) refl (w.loose (class_of w.ir c)) refl

  pub return : (c : ℕ) → Does w f (op.Return c)
  return c flag r m x =
      onto (applied (nat_lt 0 (words_of w.ir c) && rights (mode_of f.private) (class_of w.ir c) Read) (w.loose (class_of w.ir c)) (λ y. with_link (f.cells c 0) going y) (λ y. with_link (y.cells c 0) going y) g refl)
      (read (nat_lt 0 (words_of w.ir c)) refl (rights (mode_of f.private) (class_of w.ir c) Read) refl (w.loose (class_of w.ir c)) refl (f.cells c 0) refl)
    where
      g : FlatState
      g = fetched (op.Return c) f

      read : (t : Bool) → nat_lt 0 (words_of w.ir c) ≡ t → (u : Bool) → rights (mode_of f.private) (class_of w.ir c) Read ≡ u → (l : Bool) → w.loose (class_of w.ir c) ≡ l → (held : Held) → f.cells c 0 ≡ held →
          Comes w true 3 (standing w (address_of w f.place) flag r g m) (pick (t && u) (pick l stuck (λ y. with_link held going y)) stuck g)
      read false t u right l loose held is = record { comes = tt }
      read true t false right l loose held is = record { comes = tt }
      read true t true right true loose held is = record { comes = tt }
      read true t true right false loose (Word word) is = record { comes = tt }
      read true t true right false loose (Link place) is =
          let below : 0 < words_of w.ir c = lt-from 0 (words_of w.ir c) t in
          reads-link w h g true 2 (address_of w f.place) (address_of w (f.place + 1)) flag r m (Lwz 9 (lower (w.home c)) (base (w.home c))) (Jr 9 ∷ []) c place x.tied x.code below
          (displaced (slice_index (listed r) (base (w.home c))) (lower (w.home c))) _ refl (at-home w h c r below) right loose is
          (λ code'. jumps w h g (address_of w place) x.tied code' refl
          (stays w 1 (standing w (address_of w place) flag (set R9 (address_of w place) r) g m) (record g { place = place; jumps = f.jumps + 1 })
          (record {
            flag = flag;
            registers = set R9 (address_of w place) r;
            memory = m;
            is = refl;
            tied = x.tied;
            handed = record { slot_0 = x.handed.slot_0; slot_1 = x.handed.slot_1; slot_2 = x.handed.slot_2; slot_3 = x.handed.slot_3; slot_4 = x.handed.slot_4; slot_5 = x.handed.slot_5; link = tt; result = x.handed.result };
          })))
