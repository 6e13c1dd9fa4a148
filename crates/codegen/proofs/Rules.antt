-- What one instruction does where the machine is tied to flat code: a rule for each kind, with what comes after it.
use Rattle.std.proofs.Common.{◌≡◌, ℕ, suc, ◌+◌, ◌*◌, ◌%◌, ◌^◌, ◌<◌, ◌≤◌, Bool, true, false, cond, ◌==◌, ◌&&◌, nat_eq, nat_lt, if◌then◌else◌, List, [], ◌∷◌, Option, Some, None, option_map, unwrap_or, arith, refl, sym, ◌∙◌, ap}
use Rattle.std.proofs.lemmas.Bool.{eqb-true, eq-eqb, ltb-true, true≢false}
use Rattle.execution.specs.Run.{Next, Goes, Stops, state_of}
use Rattle.execution.specs.Traffic.{Element, Entry, Traffic, word_at, is_same_element, input_word, after_input, loose_word, after_loose, after_release, after_write, after_check, after_suspension}
use Rattle.execution.specs.Naming.{traffic_named}
use Rattle.execution.proofs.NamingLemmas.{named-loose, named-after_loose, named-after_write}
use Rattle.regions.specs.declared.Layout.{Layout}
use Rattle.regions.specs.declared.Mode.{Mode}
use Rattle.regions.specs.declared.Class.{Class}
use Rattle.regions.specs.declared.Class.TheVariants.{Open, Verified, Private, Constant, Code, Logged}
use Rattle.regions.specs.declared.Access.{Access}
use Rattle.regions.specs.declared.Access.TheVariants.{Read, Write, Fetch}
use Rattle.regions.specs.Addresses.{class_at, LiesIn}
use Rattle.regions.proofs.AddressLaws.{LiesIn-class_at}
use Rattle.regions.specs.LooseClasses.{shared_loose}
use Rattle.regions.specs.Rights.{rights}
use Rattle.regions.specs.Modes.{allowed_in, is_secure}
use Rattle.orbis_word.specs.declared.Instr.{Instr}
use Rattle.orbis_word.specs.declared.Instr.TheVariants.{Cust1}
use Rattle.orbis_word.specs.Reading.{instruction_in}
use Rattle.orbis_core.specs.declared.effect.Effect.{Effect}
use Rattle.orbis_core.specs.declared.effect.Effect.TheVariants as effect
use Rattle.orbis_core.specs.declared.memory.Why.{Why}
use Rattle.orbis_core.specs.declared.memory.Why.TheVariants as why
use Rattle.orbis_core.specs.ByteOrder.{updated, word_start}
use Rattle.orbis_core.specs.Effects.{effect_of}
use Rattle.orbis_core.specs.Processor.{registers_with}
use Rattle.orbis_core.specs.Refusals.{word_refusal, is_allowed as may}
use Rattle.orbis_core.specs.Ideal as ideal
use Rattle.orbis_core.specs.Ideal.{Ideal, IdealEnd, ideal_step, carried, from_entries, loads, loaded, taken, stores, unless, is_among, permitted, secured, memory_stored, traffic_stored}
use Rattle.orbis_core.specs.Secure.{secure_of}
use Rattle.orbis_core.proofs.IdealLemmas.{step-carried, code-stays}
use Rattle.ir_code.specs.FlatStates as flat
use Rattle.ir_code.specs.FlatStates.{Held, Word, Link, FlatState, Step, Later, pick, stuck, with_traffic, words_of, class_of, mode_of, is_allowed, is_shared, element_at, changed}
use Rattle.ir_code.specs.FlatMeaning.{with_word, kept_word, loosely, taken_word, reading, written, writing}
use Rattle.codegen.proofs.Registers.{Registers, listed, Name, number_of, set, write-named}
use Rattle.codegen.proofs.Comes.{World, Fits, Stands, HasCode, first-stands, rest-stands, core_at, standing, word_held, Tied, Comes, ComesTo, steps, ends-at}

-- ---- what the machine does there

abbrev pub went : Ideal → Next Ideal IdealEnd
went state = Goes state

pub reads-code : (private : Bool) → rights (mode_of private) Code Fetch ≡ true
reads-code true = refl
reads-code false = refl

-- an access to a word is not refused
pub free : (layout : Layout) (mode : Mode) (access : Access) (at : ℕ) (class : Class) → class_at layout at ≡ Some class → rights mode class access ≡ true → at % 4 ≡ 0 → word_refusal layout mode access at ≡ None
free layout mode access at class is right aligned =
    let allowed : may layout mode access at ≡ true = ap (λ (found : Option Class). unwrap_or (option_map (λ (c : Class). rights mode c access) found) false) is ∙ right in
    let even : (at % 4 == 0) ≡ true = ap (λ (n : ℕ). n == 0) aligned in
    ap (λ (t : Bool). if t then (if at % 4 == 0 then None else Some why.Misaligned) else Some why.Rights) allowed ∙ ap (λ (t : Bool). if t then None else Some why.Misaligned) even

-- the class of an address is tested by that class
pub among : (layout : Layout) (classes : Class → Bool) (at : ℕ) (class : Class) → class_at layout at ≡ Some class → is_among classes layout at ≡ classes class
among layout classes at class is = ap (λ (found : Option Class). unwrap_or (option_map classes found) false) is

pub shared-loose : (class : Class) → shared_loose class ≡ is_shared class
shared-loose Open = refl
shared-loose Verified = refl
shared-loose Private = refl
shared-loose Constant = refl
shared-loose Code = refl
shared-loose Logged = refl

pub below-code : (layout : Layout) (at : ℕ) → class_at layout at ≡ Some Code → at + 4 < 2 ^ 32
below-code layout at is =
    let lies : LiesIn layout Code at = LiesIn-class_at layout at Code is in
    let fits : layout.verified + layout.private + layout.constants + layout.code ≤ 6561 = layout.data_fits in
    omega (arith, lies, fits)

module _ (w : World) (h : Fits w) where
  pub at-code : {cells : ℕ → ℕ → Held} {m : ℕ → ℕ} (pc : ℕ) (flag : Bool) (r : Registers) (f : FlatState) (i : Instr) → Tied w cells m → Stands w pc i →
      ideal_step w.layout w.loose (standing w pc flag r f m) ≡ carried w.layout (from_entries w.loose) (effect_of i (core_at pc flag r)) (standing w pc flag r f m)
  at-code {m = m} pc flag r f i tied stands =
      step-carried w.layout (from_entries w.loose) (standing w pc flag r f m) i
      (free w.layout (mode_of f.private) Fetch pc Code stands.code (reads-code f.private) stands.aligned)
      (ap (λ (word : ℕ). instruction_in word) (tied.code pc stands.code) ∙ stands.is)

  pub next-is : (pc : ℕ) (i : Instr) → Stands w pc i → (pc + 4) % 2 ^ 32 ≡ pc + 4
  next-is pc i stands = let small : pc + 4 < 2 ^ 32 = below-code w.layout pc stands.code in omega (arith, small)

  -- the machine at the next instruction, with what has changed
  pub to-next : (pc : ℕ) (i : Instr) (flag : Bool) (words words' : List ℕ) (f : FlatState) (m : ℕ → ℕ) → Stands w pc i → words ≡ words' →
      went (record { core = record { pc = (pc + 4) % 2 ^ 32; flag = flag; registers = words }; mode = mode_of f.private; memory = m; traffic = traffic_named w.name f.traffic })
      ≡ went (record { core = record { pc = pc + 4; flag = flag; registers = words' }; mode = mode_of f.private; memory = m; traffic = traffic_named w.name f.traffic })
  to-next pc i flag words words' f m stands e = rw (next-is pc i stands, e) refl

  module _ (f : FlatState) {cells : ℕ → ℕ → Held} {lo : Bool} {hi pc to : ℕ} {flag : Bool} {r : Registers} {m : ℕ → ℕ} {i : Instr} {rest : List Instr} {next : Step} where
    -- a register is written
    pub writes : (d : Name) (word : ℕ) → Tied w cells m → HasCode w pc (i ∷ rest) to → effect_of i (core_at pc flag r) ≡ effect.Write (number_of d) word →
        (HasCode w (pc + 4) rest to → Comes w false hi (standing w (pc + 4) flag (set d word r) f m) next) → Comes w lo (suc hi) (standing w pc flag r f m) next
    writes d word tied code e after =
        steps w lo hi (standing w pc flag r f m) (standing w (pc + 4) flag (set d word r) f m)
        (at-code pc flag r f i tied (first-stands w code)
        ∙ ap (λ (asked : Effect). carried w.layout (from_entries w.loose) asked (standing w pc flag r f m)) e
        ∙ to-next pc i flag (registers_with (listed r) (number_of d) word) (listed (set d word r)) f m (first-stands w code) (write-named d word r))
        next (after (rest-stands w code))

    -- the flag is written
    pub compares : (flag' : Bool) → Tied w cells m → HasCode w pc (i ∷ rest) to → effect_of i (core_at pc flag r) ≡ effect.Compare flag' →
        (HasCode w (pc + 4) rest to → Comes w false hi (standing w (pc + 4) flag' r f m) next) → Comes w lo (suc hi) (standing w pc flag r f m) next
    compares flag' tied code e after =
        steps w lo hi (standing w pc flag r f m) (standing w (pc + 4) flag' r f m)
        (at-code pc flag r f i tied (first-stands w code)
        ∙ ap (λ (asked : Effect). carried w.layout (from_entries w.loose) asked (standing w pc flag r f m)) e
        ∙ to-next pc i flag' (listed r) (listed r) f m (first-stands w code) refl)
        next (after (rest-stands w code))

    -- nothing is done
    pub proceeds : Tied w cells m → HasCode w pc (i ∷ rest) to → effect_of i (core_at pc flag r) ≡ effect.Proceed →
        (HasCode w (pc + 4) rest to → Comes w false hi (standing w (pc + 4) flag r f m) next) → Comes w lo (suc hi) (standing w pc flag r f m) next
    proceeds tied code e after =
        steps w lo hi (standing w pc flag r f m) (standing w (pc + 4) flag r f m)
        (at-code pc flag r f i tied (first-stands w code)
        ∙ ap (λ (asked : Effect). carried w.layout (from_entries w.loose) asked (standing w pc flag r f m)) e
        ∙ to-next pc i flag (listed r) (listed r) f m (first-stands w code) refl)
        next (after (rest-stands w code))

    -- a jump
    pub jumps : (target : ℕ) → Tied w cells m → HasCode w pc (i ∷ rest) to → effect_of i (core_at pc flag r) ≡ effect.Jump target →
        Comes w false hi (standing w target flag r f m) next → Comes w lo (suc hi) (standing w pc flag r f m) next
    jumps target tied code e after =
        steps w lo hi (standing w pc flag r f m) (standing w target flag r f m)
        (at-code pc flag r f i tied (first-stands w code) ∙ ap (λ (asked : Effect). carried w.layout (from_entries w.loose) asked (standing w pc flag r f m)) e)
        next after

    -- a jump with a link
    pub links : (target : ℕ) → Tied w cells m → HasCode w pc (i ∷ rest) to → effect_of i (core_at pc flag r) ≡ effect.Link target →
        (HasCode w (pc + 4) rest to → Comes w false hi (standing w target flag (record r { r9 = pc + 4 }) f m) next) → Comes w lo (suc hi) (standing w pc flag r f m) next
    links target tied code e after =
        steps w lo hi (standing w pc flag r f m) (standing w target flag (record r { r9 = pc + 4 }) f m)
        (at-code pc flag r f i tied (first-stands w code)
        ∙ ap (λ (asked : Effect). carried w.layout (from_entries w.loose) asked (standing w pc flag r f m)) e
        ∙ ap (λ (n : ℕ). went (standing w target flag (record r { r9 = n }) f m)) (next-is pc i (first-stands w code)))
        next (after (rest-stands w code))

-- a loose word is a word
pub loose-small : {Place : Type 0} (same : Place → Place → Bool) (place : Place) (entries : List (Entry Place)) (word : ℕ) → word_at same place entries ≡ Some word → word < 2 ^ 32
loose-small same place [] word e = absurd (grind (arith, e))
loose-small {Place} same place (entry ∷ entries) word e = go (same place entry.place) e
  where
    go : (t : Bool) → cond t (Some (entry.word % 2 ^ 32)) None ≡ Some word → word < 2 ^ 32
    go true e = let same : entry.word % 2 ^ 32 ≡ word = cc in omega (arith, same)
    go false e = absurd (grind (arith, e))

pub lt-from : (i n : ℕ) → nat_lt i n ≡ true → i < n
lt-from i n e = ltb-true i n e

-- ---- loads

module _ (w : World) (h : Fits w) (f : FlatState) (lo : Bool) (hi pc to : ℕ) (flag : Bool) (r : Registers) (m : ℕ → ℕ) (ins : Instr) (rest : List Instr) where
  pub read-step : (c i at : ℕ) (d : Name) → Tied w f.cells m → HasCode w pc (ins ∷ rest) to → effect_of ins (core_at pc flag r) ≡ effect.LoadWord (number_of d) at →
      i < words_of w.ir c → at ≡ w.home c + 4 * i → rights (mode_of f.private) (class_of w.ir c) Read ≡ true →
      ideal_step w.layout w.loose (standing w pc flag r f m)
      ≡ (if w.loose (class_of w.ir c) then taken (number_of d) (loose_word is_same_element (element_at c i) f.traffic) (standing w pc flag r f m)
      else loaded (number_of d) (m (w.home c + 4 * i)) (standing w pc flag r f m))
  read-step c i at d tied code e below there right =
      let s : Ideal = standing w pc flag r f m in
      let class : class_at w.layout at ≡ Some (class_of w.ir c) = ap (λ (a : ℕ). class_at w.layout a) there ∙ h.in_class c i below in
      let even : at % 4 ≡ 0 = (let a : w.home c % 4 ≡ 0 = h.aligned c in omega (arith, a, there)) in
      let came : loose_word nat_eq at (traffic_named w.name f.traffic) ≡ loose_word is_same_element (element_at c i) f.traffic =
      ap (λ (a : ℕ). loose_word nat_eq a (traffic_named w.name f.traffic)) (there ∙ sym (h.named c i below))
      ∙ named-loose w.name is_same_element nat_eq (element_at c i) f.traffic (h.tells (element_at c i)) in
      at-code w h pc flag r f ins tied (first-stands w code)
      ∙ ap (λ (asked : Effect). carried w.layout (from_entries w.loose) asked s) e
      ∙ ap (λ (x : Option Why). unless x s (loads w.layout (from_entries w.loose) (number_of d) at (loose_word nat_eq at s.traffic) (m at) s)) (free w.layout (mode_of f.private) Read at (class_of w.ir c) class right even)
      ∙ ap (λ (t : Bool). if t then taken (number_of d) (loose_word nat_eq at s.traffic) s else loaded (number_of d) (m at) s) (among w.layout w.loose at (class_of w.ir c) class)
      ∙ ap (λ (x : Option ℕ). if w.loose (class_of w.ir c) then taken (number_of d) x s else loaded (number_of d) (m at) s) came
      ∙ ap (λ (a : ℕ). if w.loose (class_of w.ir c) then taken (number_of d) (loose_word is_same_element (element_at c i) f.traffic) s else loaded (number_of d) (m a) s) there

  module _ (c i : ℕ) (d : Name) (next : ℕ → Later) (tied : Tied w f.cells m) (small : (a : ℕ) → m a < 2 ^ 32) (code : HasCode w pc (ins ∷ rest) to)
      (below : i < words_of w.ir c)
      (after : (word : ℕ) (t : Traffic Element) → word < 2 ^ 32 → HasCode w (pc + 4) rest to → Comes w false hi (standing w (pc + 4) flag (set d word r) (with_traffic t f) m) (next word (with_traffic t f))) where
    take-loose : (found : Option ℕ) → loose_word is_same_element (element_at c i) f.traffic ≡ found →
        ideal_step w.layout w.loose (standing w pc flag r f m) ≡ taken (number_of d) found (standing w pc flag r f m) → ComesTo w lo (suc hi) (standing w pc flag r f m) (loosely found next f)
    take-loose None is e = ends-at w lo hi _ _ ideal.Starved f e refl
    take-loose (Some word) is e =
        let g : FlatState = with_traffic (after_loose f.traffic) f in
        (steps w lo hi (standing w pc flag r f m) (standing w (pc + 4) flag (set d word r) g m)
        (e ∙ ap (λ (t : Traffic ℕ). went (record {
          core = record { pc = (pc + 4) % 2 ^ 32; flag = flag; registers = registers_with (listed r) (number_of d) word };
          mode = mode_of f.private;
          memory = m;
          traffic = t;
        })) (named-after_loose w.name f.traffic)
        ∙ to-next w h pc ins flag (registers_with (listed r) (number_of d) word) (listed (set d word r)) g m (first-stands w code) (write-named d word r))
        (next word g) (after word (after_loose f.traffic) (loose-small is_same_element (element_at c i) f.traffic.loose word is) (rest-stands w code))).comes

    take-kept : (held : Held) → f.cells c i ≡ held → w.loose (class_of w.ir c) ≡ false →
        ideal_step w.layout w.loose (standing w pc flag r f m) ≡ loaded (number_of d) (m (w.home c + 4 * i)) (standing w pc flag r f m) → ComesTo w lo (suc hi) (standing w pc flag r f m) (with_word held next f)
    take-kept (Link place) is kept e = tt
    take-kept (Word word) is kept e =
        let there : m (w.home c + 4 * i) ≡ word = tied.held c i below kept ∙ ap (word_held w) is in
        let bound : m (w.home c + 4 * i) < 2 ^ 32 = small (w.home c + 4 * i) in
        (steps w lo hi (standing w pc flag r f m) (standing w (pc + 4) flag (set d word r) f m)
        (e ∙ ap (λ (x : ℕ). loaded (number_of d) x (standing w pc flag r f m)) there
        ∙ to-next w h pc ins flag (registers_with (listed r) (number_of d) word) (listed (set d word r)) f m (first-stands w code) (write-named d word r))
        (next word f) (after word f.traffic (omega (arith, bound, there)) (rest-stands w code))).comes

    take : (l : Bool) → w.loose (class_of w.ir c) ≡ l →
        ideal_step w.layout w.loose (standing w pc flag r f m) ≡ (if l then taken (number_of d) (loose_word is_same_element (element_at c i) f.traffic) (standing w pc flag r f m)
        else loaded (number_of d) (m (w.home c + 4 * i)) (standing w pc flag r f m)) →
        ComesTo w lo (suc hi) (standing w pc flag r f m) (pick l (taken_word c i next) (kept_word c i next) f)
    take true is e = take-loose (loose_word is_same_element (element_at c i) f.traffic) refl e
    take false is e = take-kept (f.cells c i) refl is e

  reads-at : (c i at : ℕ) (d : Name) (next : ℕ → Later) → Tied w f.cells m → ((a : ℕ) → m a < 2 ^ 32) → HasCode w pc (ins ∷ rest) to →
      effect_of ins (core_at pc flag r) ≡ effect.LoadWord (number_of d) at → (i < words_of w.ir c → at ≡ w.home c + 4 * i) →
      ((word : ℕ) (t : Traffic Element) → word < 2 ^ 32 → HasCode w (pc + 4) rest to → Comes w false hi (standing w (pc + 4) flag (set d word r) (with_traffic t f) m) (next word (with_traffic t f))) →
      Comes w lo (suc hi) (standing w pc flag r f m) (reading w.loose w.ir c i next f)
  reads-at c i at d next tied small code e there after =
      record { comes = go (nat_lt i (words_of w.ir c)) refl (rights (mode_of f.private) (class_of w.ir c) Read) refl }
    where
      go : (t : Bool) → nat_lt i (words_of w.ir c) ≡ t → (u : Bool) → rights (mode_of f.private) (class_of w.ir c) Read ≡ u →
          ComesTo w lo (suc hi) (standing w pc flag r f m) (pick (t && u) (pick (w.loose (class_of w.ir c)) (taken_word c i next) (kept_word c i next)) stuck f)
      go false is u right = tt
      go true is false right = tt
      go true is true right =
          let below : i < words_of w.ir c = lt-from i (words_of w.ir c) is in
          take c i d next tied small code below after (w.loose (class_of w.ir c)) refl (read-step c i at d tied code e below (there below) right)

-- a load of the word of a cell at an index
pub reads : (w : World) (h : Fits w) (f : FlatState) {lo : Bool} {hi pc to : ℕ} {flag : Bool} {r : Registers} {m : ℕ → ℕ} {ins : Instr} {rest : List Instr} (c i at : ℕ) (d : Name) (next : ℕ → Later) → Tied w f.cells m → ((a : ℕ) → m a < 2 ^ 32) →
    HasCode w pc (ins ∷ rest) to → effect_of ins (core_at pc flag r) ≡ effect.LoadWord (number_of d) at → (i < words_of w.ir c → at ≡ w.home c + 4 * i) →
    ((word : ℕ) (t : Traffic Element) → word < 2 ^ 32 → HasCode w (pc + 4) rest to → Comes w false hi (standing w (pc + 4) flag (set d word r) (with_traffic t f) m) (next word (with_traffic t f))) →
    Comes w lo (suc hi) (standing w pc flag r f m) (reading w.loose w.ir c i next f)
reads w h f {lo} {hi} {pc} {to} {flag} {r} {m} {ins} {rest} = reads-at w h f lo hi pc to flag r m ins rest

-- ---- stores

put-there : (m : ℕ → ℕ) (a word x : ℕ) → x ≡ a → updated m a word x ≡ word
put-there m a word x e = ap (λ (t : Bool). if t then word else m x) (eq-eqb x a e)

put-elsewhere : (m : ℕ → ℕ) (a word x : ℕ) → (x ≡ a → ⊥) → updated m a word x ≡ m x
put-elsewhere m a word x apart = go (x == a) refl
  where
    go : (t : Bool) → (x == a) ≡ t → (if t then word else m x) ≡ m x
    go true e = absurd (apart (eqb-true x a e))
    go false e = refl

same-some : (one other : Class) → Some one ≡ Some other → one ≡ other
same-some one other e = cc

module _ (w : World) (h : Fits w) (f : FlatState) (m : ℕ → ℕ) where
  module _ (c i at : ℕ) (held : Held) (tied : Tied w f.cells m) (below : i < words_of w.ir c) (there : at ≡ w.home c + 4 * i) where
    held-new : (c' i' : ℕ) → i' < words_of w.ir c' → w.loose (class_of w.ir c') ≡ false → (l : Bool) → w.loose (class_of w.ir c) ≡ l → (t u : Bool) → (c == c') ≡ t → (i == i') ≡ u →
        (if l then m else updated m (word_start at) (word_held w held)) (w.home c' + 4 * i') ≡ word_held w (cond (t && u) held (f.cells c' i'))
    held-new c' i' below' kept true loose true u e e' =
        let same : c ≡ c' = eqb-true c c' e in
        let clash : true ≡ false = sym loose ∙ ap (λ (x : ℕ). w.loose (class_of w.ir x)) same ∙ kept in absurd (grind (arith, clash))
    held-new c' i' below' kept true loose false u e e' = tied.held c' i' below' kept
    held-new c' i' below' kept false loose true true e e' =
        let same : c ≡ c' = eqb-true c c' e in
        let same' : i ≡ i' = eqb-true i i' e' in
        let even : w.home c % 4 ≡ 0 = h.aligned c in
        let homes : w.home c' ≡ w.home c = ap w.home (sym same) in
        put-there m (word_start at) (word_held w held) (w.home c' + 4 * i') (omega (arith, there, even, homes, same'))
    held-new c' i' below' kept false loose false u e e' =
        put-elsewhere m (word_start at) (word_held w held) (w.home c' + 4 * i') (λ x. differ x (λ a. true≢false (sym (eq-eqb c c' a) ∙ e))) ∙ tied.held c' i' below' kept
      where
        differ : w.home c' + 4 * i' ≡ word_start at → (c ≡ c' → ⊥) → ⊥
        differ x ne = let even : w.home c % 4 ≡ 0 = h.aligned c in
            ne (h.apart c i c' i' below below' (omega (arith, there, even, x))).0
    held-new c' i' below' kept false loose true false e e' =
        put-elsewhere m (word_start at) (word_held w held) (w.home c' + 4 * i') (λ x. differ x (λ a. true≢false (sym (eq-eqb i i' a) ∙ e'))) ∙ tied.held c' i' below' kept
      where
        differ : w.home c' + 4 * i' ≡ word_start at → (i ≡ i' → ⊥) → ⊥
        differ x ne = let even : w.home c % 4 ≡ 0 = h.aligned c in
            ne (h.apart c i c' i' below below' (omega (arith, there, even, x))).1

    pub tied-new : (s t : Ideal) → s.memory ≡ m → ideal_step w.layout w.loose s ≡ Goes t → t.memory ≡ memory_stored w.layout w.loose at (word_held w held) m → is_among w.loose w.layout at ≡ w.loose (class_of w.ir c) →
        Tied w (changed f.cells c i held) (memory_stored w.layout w.loose at (word_held w held) m)
    tied-new s t old e new loose = record {
      held = λ c' i' below' kept.
          ap (λ (l : Bool). (if l then m else updated m (word_start at) (word_held w held)) (w.home c' + 4 * i')) loose
          ∙ held-new c' i' below' kept (w.loose (class_of w.ir c)) refl (c == c') (i == i') refl refl;
      code = λ a is.
          ap (λ (x : ℕ → ℕ). x a) (sym new) ∙ ap (λ (x : Next Ideal IdealEnd). (state_of x).memory a) (sym e) ∙ code-stays w.layout (from_entries w.loose) s a is
          ∙ ap (λ (x : ℕ → ℕ). x a) old ∙ tied.code a is;
    }

module _ (w : World) (h : Fits w) (f : FlatState) (lo : Bool) (hi pc to : ℕ) (flag : Bool) (r : Registers) (m : ℕ → ℕ) (ins : Instr) (rest : List Instr) where
  pub write-step : (c i at word : ℕ) → Tied w f.cells m → HasCode w pc (ins ∷ rest) to → effect_of ins (core_at pc flag r) ≡ effect.StoreWord at word →
      i < words_of w.ir c → at ≡ w.home c + 4 * i → rights (mode_of f.private) (class_of w.ir c) Write ≡ true →
      ideal_step w.layout w.loose (standing w pc flag r f m) ≡ Goes (standing w (pc + 4) flag r (written w.ir c i word f) (memory_stored w.layout w.loose at word m))
  write-step c i at word tied code e below there right =
      let s : Ideal = standing w pc flag r f m in
      let class : class_at w.layout at ≡ Some (class_of w.ir c) = ap (λ (a : ℕ). class_at w.layout a) there ∙ h.in_class c i below in
      let even : at % 4 ≡ 0 = (let a : w.home c % 4 ≡ 0 = h.aligned c in omega (arith, a, there)) in
      at-code w h pc flag r f ins tied (first-stands w code)
      ∙ ap (λ (asked : Effect). carried w.layout (from_entries w.loose) asked s) e
      ∙ ap (λ (x : Option Why). unless x s (stores w.layout w.loose at word word s)) (free w.layout (mode_of f.private) Write at (class_of w.ir c) class right even)
      ∙ ap (λ (t : Traffic ℕ). went (record {
        core = record { pc = (pc + 4) % 2 ^ 32; flag = flag; registers = listed r };
        mode = mode_of f.private;
        memory = memory_stored w.layout w.loose at word m;
        traffic = t;
      }))
      (noted (is_among shared_loose w.layout at) (is_shared (class_of w.ir c)) (among w.layout shared_loose at (class_of w.ir c) class ∙ shared-loose (class_of w.ir c)))
      ∙ to-next w h pc ins flag (listed r) (listed r) (written w.ir c i word f) (memory_stored w.layout w.loose at word m) (first-stands w code) refl
    where
      noted : (t u : Bool) → t ≡ u → (if t then after_write at word (traffic_named w.name f.traffic) else traffic_named w.name f.traffic)
          ≡ traffic_named w.name (cond u (after_write (element_at c i) word f.traffic) f.traffic)
      noted true true is =
          ap (λ (a : ℕ). after_write a word (traffic_named w.name f.traffic)) (there ∙ sym (h.named c i below)) ∙ named-after_write w.name (element_at c i) word f.traffic
      noted false false is = refl
      noted true false is = absurd (grind (arith, is))
      noted false true is = absurd (grind (arith, is))

  writes-cell-at : (c i at word : ℕ) (next : Later) → Tied w f.cells m → HasCode w pc (ins ∷ rest) to →
      effect_of ins (core_at pc flag r) ≡ effect.StoreWord at word → (i < words_of w.ir c → at ≡ w.home c + 4 * i) →
      ((m' : ℕ → ℕ) → Tied w (changed f.cells c i (Word word)) m' → HasCode w (pc + 4) rest to → Comes w false hi (standing w (pc + 4) flag r (written w.ir c i word f) m') (next (written w.ir c i word f))) →
      Comes w lo (suc hi) (standing w pc flag r f m) (writing w.ir c i word next f)
  writes-cell-at c i at word next tied code e there after =
      record { comes = go (nat_lt i (words_of w.ir c)) refl (rights (mode_of f.private) (class_of w.ir c) Write) refl }
    where
      go : (t : Bool) → nat_lt i (words_of w.ir c) ≡ t → (u : Bool) → rights (mode_of f.private) (class_of w.ir c) Write ≡ u →
          ComesTo w lo (suc hi) (standing w pc flag r f m) (pick (t && u) (λ g. next (written w.ir c i word g)) stuck f)
      go false is u right = tt
      go true is false right = tt
      go true is true right =
          let below : i < words_of w.ir c = lt-from i (words_of w.ir c) is in
          let m' : ℕ → ℕ = memory_stored w.layout w.loose at word m in
          let step = write-step c i at word tied code e below (there below) right in
          let class : class_at w.layout at ≡ Some (class_of w.ir c) = ap (λ (a : ℕ). class_at w.layout a) (there below) ∙ h.in_class c i below in
          (steps w lo hi (standing w pc flag r f m) (standing w (pc + 4) flag r (written w.ir c i word f) m') step (next (written w.ir c i word f))
          (after m' (tied-new w h f m c i at (Word word) tied below (there below) (standing w pc flag r f m) (standing w (pc + 4) flag r (written w.ir c i word f) m') refl step refl
          (among w.layout w.loose at (class_of w.ir c) class)) (rest-stands w code))).comes

-- a store of a word into a cell at an index
pub writes-cell : (w : World) (h : Fits w) (f : FlatState) {lo : Bool} {hi pc to : ℕ} {flag : Bool} {r : Registers} {m : ℕ → ℕ} {ins : Instr} {rest : List Instr} (c i at word : ℕ) (next : Later) → Tied w f.cells m → HasCode w pc (ins ∷ rest) to →
    effect_of ins (core_at pc flag r) ≡ effect.StoreWord at word → (i < words_of w.ir c → at ≡ w.home c + 4 * i) →
    ((m' : ℕ → ℕ) → Tied w (changed f.cells c i (Word word)) m' → HasCode w (pc + 4) rest to → Comes w false hi (standing w (pc + 4) flag r (written w.ir c i word f) m') (next (written w.ir c i word f))) →
    Comes w lo (suc hi) (standing w pc flag r f m) (writing w.ir c i word next f)
writes-cell w h f {lo} {hi} {pc} {to} {flag} {r} {m} {ins} {rest} = writes-cell-at w h f lo hi pc to flag r m ins rest

-- ---- secure instructions

module _ (w : World) (h : Fits w) (f : FlatState) {cells : ℕ → ℕ → Held} {m : ℕ → ℕ} (pc : ℕ) {to : ℕ} (flag : Bool) (r : Registers) {rest : List Instr} where
  pub at-secure : (k : ℕ) → Tied w cells m → HasCode w pc (Cust1 k ∷ rest) to → allowed_in (secure_of k) (mode_of f.private) ≡ true →
      ideal_step w.layout w.loose (standing w pc flag r f m) ≡ secured (secure_of k) (standing w pc flag r f m)
  at-secure k tied code allowed =
      at-code w h pc flag r f (Cust1 k) tied (first-stands w code)
      ∙ ap (λ (t : Bool). if t then secured (secure_of k) (standing w pc flag r f m) else Stops (ideal.Refused why.Mode) (standing w pc flag r f m)) allowed

pub always : (private : Bool) → is_secure (mode_of private) ≡ true
always true = refl
always false = refl

module _ (w : World) (h : Fits w) (f : FlatState) {cells : ℕ → ℕ → Held} {lo : Bool} {hi pc to : ℕ} {flag : Bool} {r : Registers} {m : ℕ → ℕ} {rest : List Instr} where
  pub exits : Tied w cells m → HasCode w pc (Cust1 1 ∷ rest) to → Comes w lo (suc hi) (standing w pc flag r f m) (Stops flat.Ended f)
  exits tied code = record { comes = ends-at w lo hi _ _ ideal.Ended f (at-secure w h f pc flag r 1 tied code (always f.private)) refl }

  pub index-traps : Tied w cells m → HasCode w pc (Cust1 9 ∷ rest) to → Comes w lo (suc hi) (standing w pc flag r f m) (Stops (flat.Index r.r3) f)
  index-traps tied code = record { comes = ends-at w lo hi _ _ (ideal.Index r.r3) f (at-secure w h f pc flag r 9 tied code (always f.private)) refl }

  pub divide-traps : Tied w cells m → HasCode w pc (Cust1 10 ∷ rest) to → Comes w lo (suc hi) (standing w pc flag r f m) (Stops (flat.Divide r.r3) f)
  divide-traps tied code = record { comes = ends-at w lo hi _ _ (ideal.Divide r.r3) f (at-secure w h f pc flag r 10 tied code (always f.private)) refl }

module _ (w : World) (h : Fits w) (f : FlatState) {cells : ℕ → ℕ → Held} {lo : Bool} {hi pc to : ℕ} {flag : Bool} {r : Registers} {m : ℕ → ℕ} {rest : List Instr} where
  -- those after which the machine goes on
  secures : (k : ℕ) (r' : Registers) (g : FlatState) (next : Step) → Tied w cells m → HasCode w pc (Cust1 k ∷ rest) to → allowed_in (secure_of k) (mode_of f.private) ≡ true →
      secured (secure_of k) (standing w pc flag r f m)
      ≡ went (record { core = record { pc = (pc + 4) % 2 ^ 32; flag = flag; registers = listed r' }; mode = mode_of g.private; memory = m; traffic = traffic_named w.name g.traffic }) →
      (HasCode w (pc + 4) rest to → Comes w false hi (standing w (pc + 4) flag r' g m) next) → Comes w lo (suc hi) (standing w pc flag r f m) next
  secures k r' g next tied code allowed does after =
      steps w lo hi (standing w pc flag r f m) (standing w (pc + 4) flag r' g m)
      (at-secure w h f pc flag r k tied code allowed ∙ does ∙ to-next w h pc (Cust1 k) flag (listed r') (listed r') g m (first-stands w code) refl)
      next (after (rest-stands w code))

module _ (w : World) (h : Fits w) (f : FlatState) {cells : ℕ → ℕ → Held} {lo : Bool} {hi pc to : ℕ} {flag : Bool} {r : Registers} {m : ℕ → ℕ} {rest : List Instr} {next : Step} where
  pub releases : Tied w cells m → HasCode w pc (Cust1 6 ∷ rest) to →
      (HasCode w (pc + 4) rest to → Comes w false hi (standing w (pc + 4) flag r (with_traffic (after_release r.r3 f.traffic) f) m) next) → Comes w lo (suc hi) (standing w pc flag r f m) next
  releases tied code after = secures w h f 6 r (with_traffic (after_release r.r3 f.traffic) f) next tied code (always f.private) refl after

  pub inputs : Tied w cells m → HasCode w pc (Cust1 7 ∷ rest) to →
      (HasCode w (pc + 4) rest to → Comes w false hi (standing w (pc + 4) flag (record r { r11 = input_word f.traffic }) (with_traffic (after_input f.traffic) f) m) next) →
      Comes w lo (suc hi) (standing w pc flag r f m) next
  inputs tied code after = secures w h f 7 (record r { r11 = input_word f.traffic }) (with_traffic (after_input f.traffic) f) next tied code (always f.private) refl after

  pub checks : Tied w cells m → HasCode w pc (Cust1 8 ∷ rest) to →
      (HasCode w (pc + 4) rest to → Comes w false hi (standing w (pc + 4) flag r (with_traffic (after_check f.traffic) f) m) next) → Comes w lo (suc hi) (standing w pc flag r f m) next
  checks tied code after = secures w h f 8 r (with_traffic (after_check f.traffic) f) next tied code (always f.private) refl after

  pub suspends : Tied w cells m → HasCode w pc (Cust1 2 ∷ rest) to →
      (HasCode w (pc + 4) rest to → Comes w false hi (standing w (pc + 4) flag r (with_traffic (after_suspension f.traffic) f) m) next) → Comes w lo (suc hi) (standing w pc flag r f m) next
  suspends tied code after = secures w h f 2 r (with_traffic (after_suspension f.traffic) f) next tied code (always f.private) refl after

  pub turns-private : f.private ≡ false → Tied w cells m → HasCode w pc (Cust1 4 ∷ rest) to →
      (HasCode w (pc + 4) rest to → Comes w false hi (standing w (pc + 4) flag r (record f { private = true }) m) next) → Comes w lo (suc hi) (standing w pc flag r f m) next
  turns-private is tied code after = secures w h f 4 r (record f { private = true }) next tied code (ap (λ (b : Bool). allowed_in (secure_of 4) (mode_of b)) is) refl after

  pub turns-public : f.private ≡ true → Tied w cells m → HasCode w pc (Cust1 5 ∷ rest) to →
      (HasCode w (pc + 4) rest to → Comes w false hi (standing w (pc + 4) flag r (record f { private = false }) m) next) → Comes w lo (suc hi) (standing w pc flag r f m) next
  turns-public is tied code after = secures w h f 5 r (record f { private = false }) next tied code (ap (λ (b : Bool). allowed_in (secure_of 5) (mode_of b)) is) refl after
