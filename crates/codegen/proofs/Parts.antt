-- What the parts of the code of an operation do.
use Rattle.std.proofs.Common.{◌≡◌, ℕ, zero, suc, ◌+◌, ◌-◌, ◌*◌, ◌/◌, ◌^◌, ◌<◌, ◌≤◌, Bool, true, false, cond, nat_le, List, [], ◌∷◌, Option, Some, None, arith, refl, ◌∙◌, ap, subst}
use Rattle.std.proofs.lemmas.Bool.{leb-true, leb-false}
use Rattle.std.proofs.lemmas.Bool.Decides.{nat_tests}
use Rattle.std.specs.Prelude.{pos, negsuc, neg_ℤ, ◌*ℤ◌, slice_index}
use Rattle.execution.specs.Run.{Goes, Stops}
use Rattle.execution.specs.Traffic.{Element, Traffic}
use Rattle.aegis_num.specs.Operators.{truth, wrapped}
use Rattle.regions.specs.declared.Layout.{Layout}
use Rattle.regions.specs.declared.Class.{Class}
use Rattle.regions.specs.declared.Class.TheVariants.{Open, Verified, Private, Constant, Code, Logged}
use Rattle.regions.specs.Addresses.{class_at, start_of, LiesIn}
use Rattle.regions.proofs.AddressLaws.{LiesIn-class_at}
use Rattle.orbis_word.specs.declared.Instr.{Instr}
use Rattle.orbis_word.specs.declared.Instr.TheVariants.{Cust1}
use Rattle.orbis_core.specs.declared.effect.Effect.TheVariants as effect
use Rattle.orbis_core.specs.Effects.{displaced, effect_of}
use Rattle.orbis_core.proofs.ProcessorLemmas.{or-halves}
use Rattle.orbis_core.specs.Ideal as ideal
use Rattle.orbis_core.specs.Ideal.{Ideal, IdealEnd}
use Rattle.ir_code.specs.FlatStates as flat
use Rattle.ir_code.specs.FlatStates.{Held, Word, FlatState, FlatEnd, Step, Later, pick, with_traffic, words_of, class_of, changed, label_place}
use Rattle.ir_code.specs.FlatMeaning.{reading, written, writing, put, jumping, going, with_given}
use Rattle.codegen.specs.OpInstructions.{base, upper, lower, read_into, keep, number, indexed, flagged, distance, trapped}
use Rattle.codegen.specs.ImageCode.{offset_found, offset_of}
use Rattle.codegen.proofs.Registers.{Registers, listed, Name, R3, R12, R13, R14, number_of, set, IsPart, OfShared, OfData, OfLogged, has-part}
use Rattle.codegen.proofs.Comes.{World, Fits, HasCode, first-stands, rest-stands, sites, core_at, standing, Tied, Handed, Comes, ComesTo, Ends, stays, address_of}
use Rattle.codegen.proofs.Rules.{below-code, writes, proceeds, jumps, reads, writes-cell, index-traps, divide-traps}

-- ---- addresses

pub near : (layout : Layout) (at : ℕ) (class : Class) → class_at layout at ≡ Some class → at < 2 ^ 31
near layout at class is = go class is layout.data_fits layout.log_fits
  where
    go : (class : Class) → class_at layout at ≡ Some class → layout.verified + layout.private + layout.constants + layout.code ≤ 6561 → layout.log ≤ 1024 → at < 2 ^ 31
    go Open is most log = let lies : LiesIn layout Open at = LiesIn-class_at layout at Open is in omega (arith, lies)
    go Verified is most log = let lies : LiesIn layout Verified at = LiesIn-class_at layout at Verified is in omega (arith, lies)
    go Private is most log = let lies : LiesIn layout Private at = LiesIn-class_at layout at Private is in omega (arith, lies)
    go Constant is most log = let lies : LiesIn layout Constant at = LiesIn-class_at layout at Constant is in omega (arith, lies)
    go Code is most log = let lies : LiesIn layout Code at = LiesIn-class_at layout at Code is in omega (arith, lies)
    go Logged is most log = let lies : LiesIn layout Logged at = LiesIn-class_at layout at Logged is in omega (arith, lies)

-- an upper part and what is added, displaced by the lower part, are the address and what is added
pub joined : (a x : ℕ) → a + x < 2 ^ 31 → displaced (wrapped (upper a * 2 ^ 16 + x)) (lower a) ≡ a + x
joined a x small = grind (arith, nat_tests)

pub joined-alone : (a : ℕ) → a < 2 ^ 31 → displaced (upper a * 2 ^ 16) (lower a) ≡ a
joined-alone a small = grind (arith, nat_tests)

-- the upper part of an address of a class
part-of : (layout : Layout) (at : ℕ) (class : Class) → class_at layout at ≡ Some class → (class ≡ Open → 0x8000 ≤ at) → IsPart (upper at)
part-of layout at class is above = go class is above layout.data_fits layout.log_fits
  where
    data-at : 0x10000000 ≤ at → at < 0x10000000 + 64 * 6561 → IsPart (upper at)
    data-at low high = OfData (upper at - 0x1000) (omega (arith, low, high)) (omega (arith, low, high))

    go : (class : Class) → class_at layout at ≡ Some class → (class ≡ Open → 0x8000 ≤ at) → layout.verified + layout.private + layout.constants + layout.code ≤ 6561 → layout.log ≤ 1024 → IsPart (upper at)
    go Open is above most log = let lies : LiesIn layout Open at = LiesIn-class_at layout at Open is in OfShared (omega (arith, lies, above refl))
    go Verified is above most log = let lies : LiesIn layout Verified at = LiesIn-class_at layout at Verified is in data-at (omega (arith, lies)) (omega (arith, lies))
    go Private is above most log = let lies : LiesIn layout Private at = LiesIn-class_at layout at Private is in data-at (omega (arith, lies)) (omega (arith, lies))
    go Constant is above most log = let lies : LiesIn layout Constant at = LiesIn-class_at layout at Constant is in data-at (omega (arith, lies)) (omega (arith, lies))
    go Code is above most log = let lies : LiesIn layout Code at = LiesIn-class_at layout at Code is in data-at (omega (arith, lies)) (omega (arith, lies))
    go Logged is above most log = let lies : LiesIn layout Logged at = LiesIn-class_at layout at Logged is in OfLogged (upper at - 0x2000) (omega (arith, lies)) (omega (arith, lies))

-- a cell of which there are words lies where a register has the upper part
module _ (w : World) (h : Fits w) (c : ℕ) (r : Registers) (below : 0 < words_of w.ir c) where
  pub based : slice_index (listed r) (base (w.home c)) ≡ upper (w.home c) * 2 ^ 16
  based =
      let start : w.home c + 4 * 0 ≡ w.home c = omega arith in
      has-part r (upper (w.home c)) (subst (λ (at : ℕ). IsPart (upper at)) start (part-of w.layout (w.home c + 4 * 0) (class_of w.ir c) (h.in_class c 0 below) (λ is. omega (arith, h.shared c is))))

  pub at-home : displaced (slice_index (listed r) (base (w.home c))) (lower (w.home c)) ≡ w.home c + 4 * 0
  at-home =
      let far : w.home c + 4 * 0 < 2 ^ 31 = near w.layout (w.home c + 4 * 0) (class_of w.ir c) (h.in_class c 0 below) in
      ap (λ (x : ℕ). displaced x (lower (w.home c))) based ∙ joined-alone (w.home c) (omega (arith, far)) ∙ omega arith

-- from one instruction to another
pub reached : (start from to : ℕ) → start + 4 * from < 2 ^ 31 → start + 4 * to < 2 ^ 31 → displaced (start + 4 * from) (distance from to *ℤ pos 4) ≡ start + 4 * to
reached start from to near_from near_to = go (nat_le from to) refl
  where
    go : (t : Bool) → nat_le from to ≡ t → displaced (start + 4 * from) (cond t (pos (to - from)) (negsuc (from - to - 1)) *ℤ pos 4) ≡ start + 4 * to
    go true e = let below : from ≤ to = leb-true from to e in omega arith
    go false e = let above : to < from = leb-false from to e in back (suc (from - to - 1) * 4) (omega arith)
      where
        back : (n : ℕ) → n + 4 * to ≡ 4 * from → displaced (start + 4 * from) (neg_ℤ (pos n)) ≡ start + 4 * to
        back zero is = omega arith
        back (suc n) is = omega arith

-- ---- parts

-- at the end of the code of an operation the machine is where flat code is
pub lands : (w : World) (f : FlatState) {hi pc to : ℕ} {flag : Bool} {r : Registers} {m : ℕ → ℕ} → HasCode w pc [] to → to ≡ address_of w f.place → Tied w f.cells m →
    Handed w f.slots f.link f.result r → Comes w false hi (standing w pc flag r f m) (Goes f)
lands w f {hi} {pc} {to} {flag} {r} {m} code there tied handed =
    stays w hi (standing w pc flag r f m) f
    (record { flag = flag; registers = r; memory = m; is = ap (λ (n : ℕ). standing w n flag r f m) (code.all ∙ there); tied = tied; handed = handed })

-- one step fewer is allowed
pub fewer : (w : World) (lo : Bool) (hi : ℕ) (s : Ideal) (next : Step) → Comes w lo hi s next → Comes w lo (suc hi) s next
fewer w lo hi s next h = record { comes = go next h.comes }
  where
    ends : (end : IdealEnd) (f : FlatState) → Ends w lo hi s end f → Ends w lo (suc hi) s end f
    ends end f e = record { n = e.n; few = (let x : e.n ≤ hi = e.few in omega arith); moved = e.moved; to = e.to; ran = e.ran; traffic = e.traffic }

    go : (next : Step) → ComesTo w lo hi s next → ComesTo w lo (suc hi) s next
    go (Goes f) e = record { n = e.n; few = (let x : e.n ≤ hi = e.few in omega arith); moved = e.moved; to = e.to; ran = e.ran; related = e.related }
    go (Stops flat.Ended f) e = ends ideal.Ended f e
    go (Stops (flat.Index at) f) e = ends (ideal.Index at) f e
    go (Stops (flat.Divide at) f) e = ends (ideal.Divide at) f e
    go (Stops flat.Starved f) e = ends ideal.Starved f e
    go (Stops flat.Stuck f) e = tt

module _ (w : World) (h : Fits w) (f : FlatState) {lo : Bool} {hi pc to : ℕ} {flag : Bool} {r : Registers} {m : ℕ → ℕ} {rest : List Instr} where
  -- the word of a cell comes into a register
  pub fetches : (c : ℕ) (d : Name) (next : ℕ → Later) → Tied w f.cells m → ((a : ℕ) → m a < 2 ^ 32) → HasCode w pc (read_into (number_of d) (w.home c) rest) to →
      ((word : ℕ) (t : Traffic Element) → word < 2 ^ 32 → HasCode w (pc + 4) rest to → Comes w false hi (standing w (pc + 4) flag (set d word r) (with_traffic t f) m) (next word (with_traffic t f))) →
      Comes w lo (suc hi) (standing w pc flag r f m) (reading w.loose w.ir c 0 next f)
  fetches c d next tied small code after =
      reads w h f c 0 (displaced (slice_index (listed r) (base (w.home c))) (lower (w.home c))) d next tied small code refl (λ below. at-home w h c r below) after

  -- the word of a register is put into a cell
  pub keeps : (c n word : ℕ) (next : Later) → Tied w f.cells m → HasCode w pc (keep (w.home c) n rest) to → slice_index (listed r) n ≡ word →
      ((m' : ℕ → ℕ) → Tied w (changed f.cells c 0 (Word word)) m' → HasCode w (pc + 4) rest to →
      Comes w false hi (standing w (pc + 4) flag r (written w.ir c 0 word f) m') (next (written w.ir c 0 word f))) →
      Comes w lo (suc hi) (standing w pc flag r f m) (writing w.ir c 0 word next f)
  keeps c n word next tied code has after =
      writes-cell w h f c 0 (displaced (slice_index (listed r) (base (w.home c))) (lower (w.home c))) word next tied code
      (ap (λ (x : ℕ). effect.StoreWord (displaced (slice_index (listed r) (base (w.home c))) (lower (w.home c))) x) has) (λ below. at-home w h c r below) after

-- as the last thing of an operation
module _ (w : World) (h : Fits w) (f : FlatState) {lo : Bool} {hi pc to : ℕ} {flag : Bool} {r : Registers} {m : ℕ → ℕ} where
  pub puts : (c n word : ℕ) → Tied w f.cells m → HasCode w pc (keep (w.home c) n []) to → to ≡ address_of w f.place → slice_index (listed r) n ≡ word → Handed w f.slots f.link f.result r →
      Comes w lo (suc hi) (standing w pc flag r f m) (put w.ir c word f)
  puts c n word tied code there has handed = keeps w h f c n word (λ g. Goes g) tied code has (λ m' tied' code'. lands w (written w.ir c 0 word f) code' there tied' handed)

module _ (w : World) (h : Fits w) (f : FlatState) {lo : Bool} {hi pc to : ℕ} {flag : Bool} {r : Registers} {m : ℕ → ℕ} {rest : List Instr} {next : Step} where
  -- a word comes into a register
  pub numbers-13 : (word : ℕ) → Tied w f.cells m → HasCode w pc (number 13 word rest) to →
      (HasCode w (pc + 4 + 4) rest to → Comes w false hi (standing w (pc + 4 + 4) flag (set R13 word r) f m) next) → Comes w lo (suc (suc hi)) (standing w pc flag r f m) next
  numbers-13 word tied code after =
      writes w h f R13 (word / 2 ^ 16 * 2 ^ 16) tied code refl (λ code'. writes w h f R13 word tied code' (ap (λ (x : ℕ). effect.Write 13 x) (or-halves word)) after)

  pub numbers-14 : (word : ℕ) → Tied w f.cells m → HasCode w pc (number 14 word rest) to →
      (HasCode w (pc + 4 + 4) rest to → Comes w false hi (standing w (pc + 4 + 4) flag (set R14 word r) f m) next) → Comes w lo (suc (suc hi)) (standing w pc flag r f m) next
  numbers-14 word tied code after =
      writes w h f R14 (word / 2 ^ 16 * 2 ^ 16) tied code refl (λ code'. writes w h f R14 word tied code' (ap (λ (x : ℕ). effect.Write 14 x) (or-halves word)) after)

  pub numbers-3 : (word : ℕ) → Tied w f.cells m → HasCode w pc (number 3 word rest) to →
      (HasCode w (pc + 4 + 4) rest to → Comes w false hi (standing w (pc + 4 + 4) flag (set R3 word r) f m) next) → Comes w lo (suc (suc hi)) (standing w pc flag r f m) next
  numbers-3 word tied code after =
      writes w h f R3 (word / 2 ^ 16 * 2 ^ 16) tied code refl (λ code'. writes w h f R3 word tied code' (ap (λ (x : ℕ). effect.Write 3 x) (or-halves word)) after)

  -- the upper part of an address and an index come into register 12
  pub indexes : (a i : ℕ) → r.r13 ≡ i → Tied w f.cells m → HasCode w pc (indexed a rest) to →
      (HasCode w (pc + 4 + 4) rest to →
      Comes w false hi (standing w (pc + 4 + 4) flag (set R12 (wrapped (slice_index (listed (set R13 (wrapped (i * 4)) r)) (base a) + wrapped (i * 4))) (set R13 (wrapped (i * 4)) r)) f m) next) →
      Comes w lo (suc (suc hi)) (standing w pc flag r f m) next
  indexes a i is tied code after =
      writes w h f R13 (wrapped (i * 4)) tied code (ap (λ (x : ℕ). effect.Write 13 (wrapped (x * 4))) is)
      (λ code'. writes w h f R12 (wrapped (slice_index (listed (set R13 (wrapped (i * 4)) r)) (base a) + wrapped (i * 4))) tied code' refl after)

-- the last of an instruction's successors is in range
after-code : (w : World) (pc : ℕ) (i : Instr) (is : List Instr) (to : ℕ) → HasCode w pc (i ∷ is) to → pc + 4 < 2 ^ 32
after-code w pc i is to code = below-code w.layout pc (first-stands w code).code

module _ (w : World) (h : Fits w) (f : FlatState) {lo : Bool} {hi pc to : ℕ} {r : Registers} {m : ℕ → ℕ} {rest : List Instr} {next : Step} where
  -- the flag comes into register 13
  pub flags : (flag : Bool) → Tied w f.cells m → HasCode w pc (flagged rest) to →
      (HasCode w (pc + 4 + 4 + 4) rest to → Comes w false hi (standing w (pc + 4 + 4 + 4) flag (set R13 (truth flag) r) f m) next) → Comes w lo (suc (suc (suc hi))) (standing w pc flag r f m) next
  flags true tied code after =
      writes w h f R13 1 tied code refl
      (λ code'. let over : pc + 4 + 4 + 4 < 2 ^ 32 = after-code w (pc + 4 + 4) _ _ to (rest-stands w code') in
      jumps w h f (pc + 4 + 4 + 4) tied code' (ap (λ (x : ℕ). effect.Jump x) (omega (arith, over)))
      (fewer w false hi _ next (after (rest-stands w (rest-stands w code')))))
  flags false tied code after =
      writes w h f R13 1 tied code refl (λ code'. proceeds w h f tied code' refl (λ code''. writes w h f R13 0 tied code'' refl after))

-- the run ends by a trap where the flag is not set
module _ (w : World) (h : Fits w) (f : FlatState) {lo : Bool} {hi pc to : ℕ} {r : Registers} {m : ℕ → ℕ} where
  pub index-tests : (flag : Bool) (token : ℕ) → Tied w f.cells m → HasCode w pc (trapped 9 token) to → to ≡ address_of w f.place → Handed w f.slots f.link f.result r →
      Comes w lo (suc (suc (suc (suc hi)))) (standing w pc flag r f m) (pick flag (λ g. Goes g) (Stops (flat.Index token)) f)
  index-tests true token tied code there handed =
      let code' : HasCode w (pc + 4 + 4 + 4) (Cust1 9 ∷ []) to = rest-stands w (rest-stands w (rest-stands w code)) in
      let over : pc + 4 + 4 + 4 + 4 < 2 ^ 32 = after-code w (pc + 4 + 4 + 4) _ _ to code' in
      jumps w h f (pc + 4 + 4 + 4 + 4) tied code (ap (λ (x : ℕ). effect.Jump x) (omega (arith, over))) (lands w f (rest-stands w code') there tied handed)
  index-tests false token tied code there handed = proceeds w h f tied code refl (λ code'. numbers-3 w h f token tied code' (λ code''. index-traps w h f tied code''))

  pub divide-tests : (flag : Bool) (token : ℕ) → Tied w f.cells m → HasCode w pc (trapped 10 token) to → to ≡ address_of w f.place → Handed w f.slots f.link f.result r →
      Comes w lo (suc (suc (suc (suc hi)))) (standing w pc flag r f m) (pick flag (λ g. Goes g) (Stops (flat.Divide token)) f)
  divide-tests true token tied code there handed =
      let code' : HasCode w (pc + 4 + 4 + 4) (Cust1 10 ∷ []) to = rest-stands w (rest-stands w (rest-stands w code)) in
      let over : pc + 4 + 4 + 4 + 4 < 2 ^ 32 = after-code w (pc + 4 + 4 + 4) _ _ to code' in
      jumps w h f (pc + 4 + 4 + 4 + 4) tied code (ap (λ (x : ℕ). effect.Jump x) (omega (arith, over))) (lands w f (rest-stands w code') there tied handed)
  divide-tests false token tied code there handed = proceeds w h f tied code refl (λ code'. numbers-3 w h f token tied code' (λ code''. divide-traps w h f tied code''))

-- to a label
pub labelled : (w : World) (h : Fits w) (f : FlatState) {lo : Bool} {hi pc to : ℕ} {flag : Bool} {r : Registers} {m : ℕ → ℕ} {i : Instr} {rest : List Instr} (l n : ℕ) → Tied w f.cells m → HasCode w pc (i ∷ rest) to →
    effect_of i (core_at pc flag r) ≡ effect.Jump (displaced pc (distance n ((sites w).label l) *ℤ pos 4)) → pc ≡ start_of w.layout Code + 4 * n → Handed w f.slots f.link f.result r →
    Comes w lo (suc hi) (standing w pc flag r f m) (jumping w.ir l f)
labelled w h f {lo} {hi} {pc} {to} {flag} {r} {m} {i} {rest} l n tied code e at handed = go (label_place w.ir l) refl
  where
    go : (found : Option ℕ) → label_place w.ir l ≡ found → Comes w lo (suc hi) (standing w pc flag r f m) (with_given found going f)
    go None is = record { comes = tt }
    go (Some place) is =
        let to_small : address_of w place < 2 ^ 31 = h.small place in
        let near_from : pc < 2 ^ 31 = near w.layout pc Code (first-stands w code).code in
        let target : displaced pc (distance n ((sites w).label l) *ℤ pos 4) ≡ address_of w place =
        ap (λ (x : Option ℕ). displaced pc (distance n (offset_found w.ir.ops x) *ℤ pos 4)) is ∙ ap (λ (x : ℕ). displaced x (distance n (offset_of w.ir.ops place) *ℤ pos 4)) at
        ∙ reached (start_of w.layout Code) n (offset_of w.ir.ops place) (omega (arith, at, near_from)) to_small in
        jumps w h f (address_of w place) tied code (e ∙ ap (λ (x : ℕ). effect.Jump x) target)
        (stays w hi (standing w (address_of w place) flag r f m) (record f { place = place; jumps = f.jumps + 1 })
        (record { flag = flag; registers = r; memory = m; is = refl; tied = tied; handed = handed }))
