-- What each operation does to a state that is tied to one of the source: one lemma for each, with what comes after it.
use Rattle.std.proofs.Common.{◌≡◌, ℕ, ◌+◌, ◌*◌, ◌<◌, ◌≤◌, Bool, true, false, cond, ◌==◌, ◌&&◌, nat_lt, Option, Some, None, arith, refl, sym, ◌∙◌, ap, subst}
use Rattle.std.proofs.lemmas.Bool.{eqb-true, eq-eqb, lt-ltb}
use Rattle.std.specs.List.{slice_get}
use Rattle.execution.specs.Run.{Goes, Stops}
use Rattle.execution.specs.Traffic.{Element, Traffic, is_same_element, input_word, after_input, loose_word, after_loose, after_release, after_write, after_check, after_suspension}
use Rattle.execution.specs.Naming.{traffic_named}
use Rattle.execution.proofs.NamingLemmas.{named-loose, named-after_loose, named-after_write}
use Rattle.aegis_num.specs.declared.limits.TheConstants.{MAX_PARAMETERS}
use Rattle.regions.specs.declared.rights.Access.{Access}
use Rattle.regions.specs.declared.rights.Access.TheVariants.{Read, Write}
use Rattle.regions.specs.Rights.{rights}
use Rattle.c_semantics.specs.declared.tree.Variable.{Variable}
use Rattle.c_semantics.specs.States as source
use Rattle.c_semantics.specs.States.{Setting, State, Outcome, GoesOn, EndsAs, then, choose, is_in, is_open, element_of}
use Rattle.ir_code.specs.declared.ops.Op.{Op}
use Rattle.ir_code.specs.declared.ops.Op.TheVariants as op
use Rattle.ir_code.specs.OpTable.{weight_of}
use Rattle.ir_code.specs.FlatStates as flat
use Rattle.ir_code.specs.FlatStates.{Held, Word, Link, FlatState, FlatEnd, Step, Later, pick, stuck, words_of, class_of, mode_of, is_allowed, is_shared, element_at, changed, filled, label_place, fetched}
use Rattle.ir_code.specs.FlatMeaning.{with_word, with_link, with_given, kept_word, loosely, taken_word, reading, written, writing, put, keeping_link, going, jumping, effect, at_op, flat_step}
use Rattle.lowering.proofs.Relation.{World, setting, element_back, Frame, IsTemp, FitsFrame, IsVar, IsWritable, Bounds, At, StopsAs, Final, Sim, goes, one-step, ends, by-choice}

-- ---- cells

pub changed-same : (cells : ℕ → ℕ → Held) (c i : ℕ) (held : Held) → changed cells c i held c i ≡ held
changed-same cells c i held = ap (λ (t : Bool). cond (t && i == i) held (cells c i)) (eq-eqb c c refl) ∙ ap (λ (t : Bool). cond t held (cells c i)) (eq-eqb i i refl)

pub changed-other : (cells : ℕ → ℕ → Held) (c i : ℕ) (held : Held) (c' i' : ℕ) → (c ≡ c' → ⊥) → changed cells c i held c' i' ≡ cells c' i'
changed-other cells c i held c' i' ne = go (c == c') refl
  where
    go : (t : Bool) → (c == c') ≡ t → cond (t && i == i') held (cells c' i') ≡ cells c' i'
    go true e = absurd (ne (eqb-true c c' e))
    go false e = refl

-- a temporary that may be written, which nothing keeps
pub record Own (w : World) (b : Bounds) (r : ℕ) : Type 0 where
  pub temp : IsTemp w b.frame.private r
  pub within : r ≤ b.above
  pub over : b.frame.link < r

module _ (w : World) where
  step-at : (o : Op) (p : ℕ) (f : FlatState) → f.place ≡ p → slice_get w.ir.ops p ≡ Some o → flat_step w.is_loose w.ir f ≡ effect w.is_loose w.ir o f (fetched o f)
  step-at o p f e st =
      ap (λ (q : ℕ). at_op w.is_loose w.ir (slice_get w.ir.ops q) f) e ∙ ap (λ (x : Option Op). at_op w.is_loose w.ir x f) st

  fetched-at : (b : Bounds) (o : Op) (c c' k n p : ℕ) (s : State) (f : FlatState) → c' + weight_of o ≤ c → At w b c k n p s f → At w b c' k n (p + 1) s (fetched o f)
  fetched-at b o c c' k n p s f x h = record {
    at_place = ap (λ (q : ℕ). q + 1) h.at_place;
    traffic = h.traffic;
    memory = h.memory;
    kept = h.kept;
    link_kept = h.link_kept;
    mode = h.mode;
    paid = omega (arith, h.paid, x);
    spared = h.spared;
    turns_left = h.turns_left;
  }

  -- an operation after which the run goes on
  pub moves : {A : Type 0} (P : A → State → FlatState → Type 0) (out : Outcome A) (b : Bounds) (o : Op) (c c' k n p : ℕ) (s : State) (f g : FlatState) →
      slice_get w.ir.ops p ≡ Some o → c' + weight_of o ≤ c → At w b c k n p s f →
      effect w.is_loose w.ir o f (fetched o f) ≡ Goes g →
      (At w b c' k n (p + 1) s (fetched o f) → Sim w b.total out P g) → Sim w b.total out P f
  moves P out b o c c' k n p s f g st x h e later =
      one-step w b.total P out f g (step-at o p f h.at_place st ∙ e) (later (fetched-at b o c c' k n p s f x h))

  -- an operation that ends it
  pub stops : {A : Type 0} (P : A → State → FlatState → Type 0) (b : Bounds) (end : source.End) (final : FlatEnd) (o : Op) (c c' k n p : ℕ) (s : State) (f : FlatState) →
      Final w b.total end s ≡ StopsAs w final s →
      slice_get w.ir.ops p ≡ Some o → c' + weight_of o ≤ c → At w b c k n p s f →
      effect w.is_loose w.ir o f (fetched o f) ≡ Stops final (fetched o f) → Sim w b.total (EndsAs end s) P f
  stops P b end final o c c' k n p s f same st x h e =
      ends w b.total P end s f
      (subst (λ (X : Step → Type 0). X (flat_step w.is_loose w.ir f)) (sym same)
      (record { at = fetched o f; stops = step-at o p f h.at_place st ∙ e; traffic = h.traffic; paid = (let y : f.weight + c ≤ 32 * s.work = h.paid in omega (arith, x, y)) }))

  -- ---- temporaries

  allowed-own : (private mode : Bool) (access : Access) (c : ℕ) → words_of w.ir c ≡ 1 → rights (mode_of private) (class_of w.ir c) access ≡ true → mode ≡ private →
      is_allowed w.ir access c 0 mode ≡ true
  allowed-own private mode access c one right e =
      ap (λ (m : Bool). is_allowed w.ir access c 0 m) e ∙ ap (λ (n : ℕ). nat_lt 0 n && rights (mode_of private) (class_of w.ir c) access) one ∙ right

  pub read-own : (private : Bool) (c v : ℕ) (next : ℕ → Later) (f : FlatState) → IsTemp w private c → f.private ≡ private → f.cells c 0 ≡ Word v →
      reading w.is_loose w.ir c 0 next f ≡ next v f
  read-own private c v next f t mode cell =
      ap (λ (x : Bool). pick x (pick (w.is_loose (class_of w.ir c)) (taken_word c 0 next) (kept_word c 0 next)) stuck f) (allowed-own private f.private Read c t.one t.readable mode)
      ∙ ap (λ (x : Bool). pick x (taken_word c 0 next) (kept_word c 0 next) f) t.held
      ∙ ap (λ (x : Held). with_word x next f) cell

  put-own : (private : Bool) (c v : ℕ) (f : FlatState) → IsTemp w private c → f.private ≡ private → put w.ir c v f ≡ Goes (record f { cells = changed f.cells c 0 (Word v) })
  put-own private c v f t mode =
      ap (λ (x : Bool). pick x (λ (g : FlatState). Goes (written w.ir c 0 v g)) stuck f) (allowed-own private f.private Write c t.one t.writable mode)
      ∙ ap (λ (x : Bool). Goes (record f { cells = changed f.cells c 0 (Word v); traffic = cond x (after_write (element_at c 0) v f.traffic) f.traffic })) t.hidden

  put-at : (b : Bounds) (r : ℕ) (held : Held) (c k n p : ℕ) (s : State) (f : FlatState) → Own w b r → At w b c k n p s f →
      At w b c k n p s (record f { cells = changed f.cells r 0 held })
  put-at b r held c k n p s f own h = record {
    at_place = h.at_place;
    traffic = h.traffic;
    memory = λ t i. changed-other f.cells r 0 held (w.home t) i (λ e. own.temp.apart t (sym e)) ∙ h.memory t i;
    kept = λ x above. changed-other f.cells r 0 held x 0 (λ e. omega (arith, own.within, above, e)) ∙ h.kept x above;
    link_kept = changed-other f.cells r 0 held b.frame.link 0 (λ e. omega (arith, own.over, e)) ∙ h.link_kept;
    mode = h.mode;
    paid = h.paid;
    spared = h.spared;
    turns_left = h.turns_left;
  }

  -- a word comes into a temporary
  pub puts : {A : Type 0} (P : A → State → FlatState → Type 0) (out : Outcome A) (b : Bounds) (o : Op) (r v c c' k n p : ℕ) (s : State) (f : FlatState) →
      slice_get w.ir.ops p ≡ Some o → c' + weight_of o ≤ c → Own w b r → At w b c k n p s f →
      effect w.is_loose w.ir o f (fetched o f) ≡ put w.ir r v (fetched o f) →
      ((g : FlatState) → At w b c' k n (p + 1) s g → g.cells r 0 ≡ Word v → Sim w b.total out P g) → Sim w b.total out P f
  puts P out b o r v c c' k n p s f st x own h e later =
      moves P out b o c c' k n p s f (record (fetched o f) { cells = changed f.cells r 0 (Word v) }) st x h
      (e ∙ put-own b.frame.private r v (fetched o f) own.temp h.mode)
      (λ g. later _ (put-at b r (Word v) c' k n (p + 1) s (fetched o f) own g) (changed-same f.cells r 0 (Word v)))

  -- ---- variables

  allowed-var : (a : Frame) (x : Variable) (access : Access) (m i : ℕ) (mode : Bool) → IsVar w a x m → i < m →
      rights (mode_of a.private) (class_of w.ir (w.home x.token)) access ≡ true → mode ≡ a.private → is_allowed w.ir access (w.home x.token) i mode ≡ true
  allowed-var a x access m i mode var below right e =
      ap (λ (y : Bool). is_allowed w.ir access (w.home x.token) i y) e
      ∙ ap (λ (n : ℕ). nat_lt i n && rights (mode_of a.private) (class_of w.ir (w.home x.token)) access) var.words
      ∙ ap (λ (t : Bool). t && rights (mode_of a.private) (class_of w.ir (w.home x.token)) access) (lt-ltb i m below)
      ∙ right

  -- what has come and gone changes
  pub traffic-at : (b : Bounds) (c k n p : ℕ) (s : State) (f : FlatState) (t : Traffic Element) (u : Traffic Element) → traffic_named (element_back w) t ≡ u →
      At w b c k n p s f → At w b c k n p (source.with_traffic u s) (flat.with_traffic t f)
  traffic-at b c k n p s f t u e h = record {
    at_place = h.at_place;
    traffic = e;
    memory = h.memory;
    kept = h.kept;
    link_kept = h.link_kept;
    mode = h.mode;
    paid = h.paid;
    spared = h.spared;
    turns_left = h.turns_left;
  }

  -- what an expression leaves: its value in the temporary, and all as it was
  pub record Valued (b : Bounds) (c k n p v : ℕ) (s : State) (g : FlatState) : Type 0 where
    pub at : At w b c k n p s g
    pub cell : g.cells b.above 0 ≡ Word v

  -- A variable's element is read into the temporary.
  pub loads : (b : Bounds) (o : Op) (x : Variable) (m i c c' k n p : ℕ) (s : State) (f : FlatState) →
      slice_get w.ir.ops p ≡ Some o → c' + weight_of o ≤ c → Own w b b.above → IsVar w b.frame x m → i < m → At w b c k n p s f →
      effect w.is_loose w.ir o f (fetched o f) ≡ reading w.is_loose w.ir (w.home x.token) i (put w.ir b.above) (fetched o f) →
      Sim w b.total (source.reading (setting w) x i s) (λ v s' g. Valued b c' k n (p + 1) v s' g) f
  loads b o x m i c c' k n p s f st more own var below h e =
      by-choice w b.total P (is_in w.is_loose x.class) (source.taken_word x i) (source.kept_word x i) s f loose kept
    where
      home : ℕ
      home = w.home x.token

      P : ℕ → State → FlatState → Type 0
      P = λ v s' g. Valued b c' k n (p + 1) v s' g

      one : effect w.is_loose w.ir o f (fetched o f) ≡ pick (w.is_loose (class_of w.ir home)) (taken_word home i (put w.ir b.above)) (kept_word home i (put w.ir b.above)) (fetched o f)
      one =
          e
          ∙ ap (λ (t : Bool). pick t (pick (w.is_loose (class_of w.ir home)) (taken_word home i (put w.ir b.above)) (kept_word home i (put w.ir b.above))) stuck (fetched o f))
          (allowed-var b.frame x Read m i f.private var below var.readable h.mode)

      two : (t : Bool) → is_in w.is_loose x.class ≡ t → effect w.is_loose w.ir o f (fetched o f) ≡ pick t (taken_word home i (put w.ir b.above)) (kept_word home i (put w.ir b.above)) (fetched o f)
      two t q = one ∙ ap (λ (y : Bool). pick y (taken_word home i (put w.ir b.above)) (kept_word home i (put w.ir b.above)) (fetched o f)) (var.loose ∙ q)

      kept : is_in w.is_loose x.class ≡ false → Sim w b.total (source.kept_word x i s) P f
      kept q =
          puts P (source.kept_word x i s) b o b.above (s.memory x.token i) c c' k n p s f st more own h
          (two false q ∙ ap (λ (y : Held). with_word y (put w.ir b.above) (fetched o f)) (h.memory x.token i))
          (λ g r cell. goes w b.total P (s.memory x.token i) s g (record { at = r; cell = cell }))

      word : is_in w.is_loose x.class ≡ true → loose_word is_same_element (element_at home i) f.traffic ≡ loose_word is_same_element (element_of x i) s.traffic
      word q =
          sym (named-loose (element_back w) is_same_element is_same_element (element_at home i) f.traffic (λ other. ap (λ (t : Bool). t && i == other.index) (var.known q other.variable)))
          ∙ ap (λ (y : ℕ). loose_word is_same_element (record { variable = y; index = i }) (traffic_named (element_back w) f.traffic)) (w.back-home x.token)
          ∙ ap (λ (t : Traffic Element). loose_word is_same_element (element_of x i) t) h.traffic

      go : (given : Option ℕ) → effect w.is_loose w.ir o f (fetched o f) ≡ loosely given (put w.ir b.above) (fetched o f) → Sim w b.total (source.loosely given s) P f
      go None q = stops P b source.Starved flat.Starved o c c' k n p s f refl st more h q
      go (Some v) q =
          moves P (GoesOn v (source.with_traffic (after_loose s.traffic) s)) b o c c' k n p s f _ st more h
          (q ∙ put-own b.frame.private b.above v (flat.with_traffic (after_loose f.traffic) (fetched o f)) own.temp h.mode)
          (λ g. goes w b.total P v _ _ (record {
            at = put-at b b.above (Word v) c' k n (p + 1) _ (flat.with_traffic (after_loose f.traffic) (fetched o f)) own
                (traffic-at b c' k n (p + 1) s (fetched o f) (after_loose f.traffic) (after_loose s.traffic) (sym (named-after_loose (element_back w) f.traffic) ∙ ap after_loose h.traffic) g);
            cell = changed-same f.cells b.above 0 (Word v);
          }))

      loose : is_in w.is_loose x.class ≡ true → Sim w b.total (source.taken_word x i s) P f
      loose q =
          go (loose_word is_same_element (element_of x i) s.traffic)
          (two true q ∙ ap (λ (y : Option ℕ). loosely y (put w.ir b.above) (fetched o f)) (word q))

  -- ---- what is read of temporaries

  -- an index is tested
  pub tests : {A : Type 0} (P : A → State → FlatState → Type 0) (one : State → Outcome A) (b : Bounds) (r v length token c c' k n p : ℕ) (s : State) (f : FlatState) →
      slice_get w.ir.ops p ≡ Some (op.Test r length token) → c' + 10 ≤ c → IsTemp w b.frame.private r → f.cells r 0 ≡ Word v → At w b c k n p s f →
      (nat_lt v length ≡ true → (g : FlatState) → At w b c' k n (p + 1) s g → ((x : ℕ) → g.cells x 0 ≡ f.cells x 0) → Sim w b.total (one s) P g) →
      Sim w b.total (choose (nat_lt v length) one (EndsAs (source.Index token)) s) P f
  tests P one b r v length token c c' k n p s f st more own cell h later =
      by-choice w b.total P (nat_lt v length) one (EndsAs (source.Index token)) s f
      (λ t. moves P (one s) b (op.Test r length token) c c' k n p s f (fetched (op.Test r length token) f) st more h
      (read ∙ ap (λ (y : Bool). pick y Goes (Stops (flat.Index token)) (fetched (op.Test r length token) f)) t)
      (λ g. later t _ g (λ x. refl)))
      (λ t. stops P b (source.Index token) (flat.Index token) (op.Test r length token) c c' k n p s f refl st more h
      (read ∙ ap (λ (y : Bool). pick y Goes (Stops (flat.Index token)) (fetched (op.Test r length token) f)) t))
    where
      read : effect w.is_loose w.ir (op.Test r length token) f (fetched (op.Test r length token) f) ≡ pick (nat_lt v length) Goes (Stops (flat.Index token)) (fetched (op.Test r length token) f)
      read = read-own b.frame.private r v (λ index. pick (nat_lt index length) Goes (Stops (flat.Index token))) (fetched (op.Test r length token) f) own h.mode cell

  -- a divisor is tested
  pub divides : {A : Type 0} (P : A → State → FlatState → Type 0) (one : State → Outcome A) (b : Bounds) (r v token c c' k n p : ℕ) (s : State) (f : FlatState) →
      slice_get w.ir.ops p ≡ Some (op.NonZero r token) → c' + 8 ≤ c → IsTemp w b.frame.private r → f.cells r 0 ≡ Word v → At w b c k n p s f →
      ((v == 0) ≡ false → (g : FlatState) → At w b c' k n (p + 1) s g → ((x : ℕ) → g.cells x 0 ≡ f.cells x 0) → Sim w b.total (one s) P g) →
      Sim w b.total (choose (v == 0) (EndsAs (source.Divide token)) one s) P f
  divides P one b r v token c c' k n p s f st more own cell h later =
      by-choice w b.total P (v == 0) (EndsAs (source.Divide token)) one s f
      (λ t. stops P b (source.Divide token) (flat.Divide token) (op.NonZero r token) c c' k n p s f refl st more h
      (read ∙ ap (λ (y : Bool). pick y (Stops (flat.Divide token)) Goes (fetched (op.NonZero r token) f)) t))
      (λ t. moves P (one s) b (op.NonZero r token) c c' k n p s f (fetched (op.NonZero r token) f) st more h
      (read ∙ ap (λ (y : Bool). pick y (Stops (flat.Divide token)) Goes (fetched (op.NonZero r token) f)) t)
      (λ g. later t _ g (λ x. refl)))
    where
      read : effect w.is_loose w.ir (op.NonZero r token) f (fetched (op.NonZero r token) f) ≡ pick (v == 0) (Stops (flat.Divide token)) Goes (fetched (op.NonZero r token) f)
      read = read-own b.frame.private r v (λ word. pick (word == 0) (Stops (flat.Divide token)) Goes) (fetched (op.NonZero r token) f) own h.mode cell

  -- ---- jumps

  jumped-at : (b : Bounds) (c k n p q : ℕ) (s : State) (f : FlatState) → At w b c k n p s f → At w b c (k + 64) n q s (record f { place = q; jumps = f.jumps + 1 })
  jumped-at b c k n p q s f h = record {
    at_place = refl;
    traffic = h.traffic;
    memory = h.memory;
    kept = h.kept;
    link_kept = h.link_kept;
    mode = h.mode;
    paid = h.paid;
    spared = omega (arith, h.spared);
    turns_left = h.turns_left;
  }

  to-label : (l q : ℕ) (f : FlatState) → slice_get w.ir.ops q ≡ Some (op.Label l) → jumping w.ir l f ≡ Goes (record f { place = q; jumps = f.jumps + 1 })
  to-label l q f st = ap (λ (place : Option ℕ). with_given place going f) (w.labels l q st)

  -- a jump, which gives 64 turns
  pub jumps : {A : Type 0} (P : A → State → FlatState → Type 0) (out : Outcome A) (b : Bounds) (l q c c' k n p : ℕ) (s : State) (f : FlatState) →
      slice_get w.ir.ops p ≡ Some (op.Jump l) → slice_get w.ir.ops q ≡ Some (op.Label l) → c' + 1 ≤ c → At w b c k n p s f →
      ((g : FlatState) → At w b c' (k + 64) n q s g → ((x : ℕ) → g.cells x 0 ≡ f.cells x 0) → Sim w b.total out P g) → Sim w b.total out P f
  jumps P out b l q c c' k n p s f st there more h later =
      moves P out b (op.Jump l) c c' k n p s f _ st more h (to-label l q (fetched (op.Jump l) f) there)
      (λ g. later _ (jumped-at b c' k n (p + 1) q s (fetched (op.Jump l) f) g) (λ x. refl))

  -- where the word is zero
  pub jumps-at-zero : {A : Type 0} (P : A → State → FlatState → Type 0) (out : Outcome A) (b : Bounds) (l q r v c c' k n p : ℕ) (s : State) (f : FlatState) →
      slice_get w.ir.ops p ≡ Some (op.JumpZero r l) → slice_get w.ir.ops q ≡ Some (op.Label l) → c' + 4 ≤ c →
      IsTemp w b.frame.private r → f.cells r 0 ≡ Word v → At w b c k n p s f →
      ((v == 0) ≡ true → (g : FlatState) → At w b c' (k + 64) n q s g → ((x : ℕ) → g.cells x 0 ≡ f.cells x 0) → Sim w b.total out P g) →
      ((v == 0) ≡ false → (g : FlatState) → At w b c' k n (p + 1) s g → ((x : ℕ) → g.cells x 0 ≡ f.cells x 0) → Sim w b.total out P g) → Sim w b.total out P f
  jumps-at-zero {A} P out b l q r v c c' k n p s f st there more own cell h zeroes others = go (v == 0) refl
    where
      next : FlatState
      next = fetched (op.JumpZero r l) f

      read : effect w.is_loose w.ir (op.JumpZero r l) f next ≡ pick (v == 0) (jumping w.ir l) Goes next
      read = read-own b.frame.private r v (λ word. pick (word == 0) (jumping w.ir l) Goes) next own h.mode cell

      go : (t : Bool) → (v == 0) ≡ t → Sim w b.total out P f
      go true e =
          moves P out b (op.JumpZero r l) c c' k n p s f _ st more h
          (read ∙ ap (λ (y : Bool). pick y (jumping w.ir l) Goes next) e ∙ to-label l q next there)
          (λ g. zeroes e _ (jumped-at b c' k n (p + 1) q s next g) (λ x. refl))
      go false e =
          moves P out b (op.JumpZero r l) c c' k n p s f next st more h
          (read ∙ ap (λ (y : Bool). pick y (jumping w.ir l) Goes next) e)
          (λ g. others e _ g (λ x. refl))

  pub labels : {A : Type 0} (P : A → State → FlatState → Type 0) (out : Outcome A) (b : Bounds) (l c k n p : ℕ) (s : State) (f : FlatState) →
      slice_get w.ir.ops p ≡ Some (op.Label l) → At w b c k n p s f →
      ((g : FlatState) → At w b c k n (p + 1) s g → ((x : ℕ) → g.cells x 0 ≡ f.cells x 0) → Sim w b.total out P g) → Sim w b.total out P f
  labels P out b l c k n p s f st h later =
      moves P out b (op.Label l) c c k n p s f (fetched (op.Label l) f) st (omega arith) h refl (λ g. later _ g (λ x. refl))

  -- ---- what comes and goes

  -- the next byte of the input comes into the temporary
  pub inputs : (b : Bounds) (c c' k n p : ℕ) (s : State) (f : FlatState) → slice_get w.ir.ops p ≡ Some (op.Input b.above) → c' + 3 ≤ c → Own w b b.above → At w b c k n p s f →
      Sim w b.total (source.taking_input s) (λ v s' g. Valued b c' k n (p + 1) v s' g) f
  inputs b c c' k n p s f st more own h =
      moves (λ v s' g. Valued b c' k n (p + 1) v s' g) (source.taking_input s) b (op.Input b.above) c c' k n p s f
      (record (flat.with_traffic (after_input f.traffic) next) { cells = changed f.cells b.above 0 (Word (input_word f.traffic)) }) st more h
      (put-own b.frame.private b.above (input_word f.traffic) (flat.with_traffic (after_input f.traffic) next) own.temp h.mode)
      (λ g. goes w b.total (λ v s' g'. Valued b c' k n (p + 1) v s' g') (input_word s.traffic) (source.with_traffic (after_input s.traffic) s) _ (record {
        at = put-at b b.above (Word (input_word f.traffic)) c' k n (p + 1) _ (flat.with_traffic (after_input f.traffic) next) own
            (traffic-at b c' k n (p + 1) s next (after_input f.traffic) (after_input s.traffic) (ap (λ (t : Traffic Element). after_input t) h.traffic) g);
        cell = changed-same f.cells b.above 0 (Word (input_word f.traffic)) ∙ ap (λ (t : Traffic Element). Word (input_word t)) h.traffic;
      }))
    where
      next : FlatState
      next = fetched (op.Input b.above) f

  -- a release, a check and a suspension
  pub releases : {A : Type 0} (P : A → State → FlatState → Type 0) (out : Outcome A) (b : Bounds) (r v c c' k n p : ℕ) (s : State) (f : FlatState) →
      slice_get w.ir.ops p ≡ Some (op.Release r) → c' + 3 ≤ c → IsTemp w b.frame.private r → f.cells r 0 ≡ Word v → At w b c k n p s f →
      ((g : FlatState) → At w b c' k n (p + 1) (source.releasing v s) g → Sim w b.total out P g) → Sim w b.total out P f
  releases P out b r v c c' k n p s f st more own cell h later =
      moves P out b (op.Release r) c c' k n p s f _ st more h
      (read-own b.frame.private r v (λ word g. Goes (flat.with_traffic (after_release word g.traffic) g)) (fetched (op.Release r) f) own h.mode cell)
      (λ g. later _ (traffic-at b c' k n (p + 1) s (fetched (op.Release r) f) (after_release v f.traffic) (after_release v s.traffic) (ap (λ (t : Traffic Element). after_release v t) h.traffic) g))

  pub checks : {A : Type 0} (P : A → State → FlatState → Type 0) (out : Outcome A) (b : Bounds) (c c' k n p : ℕ) (s : State) (f : FlatState) →
      slice_get w.ir.ops p ≡ Some op.Check → c' + 1 ≤ c → At w b c k n p s f →
      ((g : FlatState) → At w b c' k n (p + 1) (source.noting (setting w) after_check s) g → Sim w b.total out P g) → Sim w b.total out P f
  checks P out b c c' k n p s f st more h later =
      moves P out b op.Check c c' k n p s f _ st more h refl
      (λ g. later _ (traffic-at b c' k n (p + 1) s (fetched op.Check f) (after_check f.traffic) (after_check s.traffic) (ap (λ (t : Traffic Element). after_check t) h.traffic) g))

  pub suspends : {A : Type 0} (P : A → State → FlatState → Type 0) (out : Outcome A) (b : Bounds) (c c' k n p : ℕ) (s : State) (f : FlatState) →
      slice_get w.ir.ops p ≡ Some op.Suspend → c' + 1 ≤ c → At w b c k n p s f →
      ((g : FlatState) → At w b c' k n (p + 1) (source.noting (setting w) after_suspension s) g → Sim w b.total out P g) → Sim w b.total out P f
  suspends P out b c c' k n p s f st more h later =
      moves P out b op.Suspend c c' k n p s f _ st more h refl
      (λ g. later _ (traffic-at b c' k n (p + 1) s (fetched op.Suspend f) (after_suspension f.traffic) (after_suspension s.traffic) (ap (λ (t : Traffic Element). after_suspension t) h.traffic) g))

  -- ---- a variable's element gets a word

  written-at : (b : Bounds) (x : Variable) (m i v c k n p : ℕ) (s : State) (f : FlatState) → IsVar w b.frame x m → w.home x.token ≤ b.above → At w b c k n p s f →
      At w b c k n p (source.writing (setting w) x i v s) (written w.ir (w.home x.token) i v f)
  written-at b x m i v c k n p s f var low h = record {
    at_place = h.at_place;
    traffic = came (is_shared (class_of w.ir (w.home x.token))) (is_in is_open x.class) var.shared;
    memory = λ t j. cells t j (x.token == t) refl;
    kept = λ y above. changed-other f.cells (w.home x.token) i (Word v) y 0 (λ e. omega (arith, above, e, low)) ∙ h.kept y above;
    link_kept = changed-other f.cells (w.home x.token) i (Word v) b.frame.link 0 (λ e. omega (arith, var.below, e)) ∙ h.link_kept;
    mode = h.mode;
    paid = h.paid;
    spared = h.spared;
    turns_left = h.turns_left;
  }
    where
      named : Traffic Element → Traffic Element
      named = traffic_named (element_back w)

      noted : traffic_named (element_back w) (after_write (element_at (w.home x.token) i) v f.traffic) ≡ after_write (element_of x i) v s.traffic
      noted =
          sym (named-after_write (element_back w) (element_at (w.home x.token) i) v f.traffic)
          ∙ ap (λ (t : Traffic Element). after_write (element_back w (element_at (w.home x.token) i)) v t) h.traffic
          ∙ ap (λ (y : ℕ). after_write (record { variable = y; index = i }) v s.traffic) (w.back-home x.token)

      came : (t u : Bool) → t ≡ u →
          traffic_named (element_back w) (cond t (after_write (element_at (w.home x.token) i) v f.traffic) f.traffic)
          ≡ cond u (after_write (element_of x i) v s.traffic) s.traffic
      came true true e = noted
      came false false e = h.traffic
      came true false e = absurd (grind arith)
      came false true e = absurd (grind arith)

      -- homes of two variables are apart
      cells : (t j : ℕ) (same : Bool) → (x.token == t) ≡ same →
          changed f.cells (w.home x.token) i (Word v) (w.home t) j ≡ Word (source.changed s.memory x.token i v t j)
      cells t j false e =
          changed-other f.cells (w.home x.token) i (Word v) (w.home t) j (λ q. grind (arith, e, eq-eqb x.token t (sym (w.back-home x.token) ∙ ap w.back q ∙ w.back-home t)))
          ∙ h.memory t j
          ∙ ap (λ (y : Bool). Word (cond (y && i == j) v (s.memory t j))) (sym e)
      cells t j true e = here (i == j)
        where
          here : (y : Bool) → cond ((w.home x.token == w.home t) && y) (Word v) (f.cells (w.home t) j) ≡ Word (cond ((x.token == t) && y) v (s.memory t j))
          here y =
              ap (λ (z : Bool). cond (z && y) (Word v) (f.cells (w.home t) j)) (eq-eqb (w.home x.token) (w.home t) (ap w.home (eqb-true x.token t e)))
              ∙ there y
              ∙ ap (λ (z : Bool). Word (cond (z && y) v (s.memory t j))) (sym e)
            where
              there : (y' : Bool) → cond y' (Word v) (f.cells (w.home t) j) ≡ Word (cond y' v (s.memory t j))
              there true = refl
              there false = h.memory t j

  -- by an operation that has read all that it reads
  pub writes : {A : Type 0} (P : A → State → FlatState → Type 0) (out : Outcome A) (b : Bounds) (o : Op) (x : Variable) (m i v c c' k n p : ℕ) (s : State) (f : FlatState) →
      slice_get w.ir.ops p ≡ Some o → c' + weight_of o ≤ c → IsVar w b.frame x m → IsWritable w b.frame x → i < m → w.home x.token ≤ b.above → At w b c k n p s f →
      effect w.is_loose w.ir o f (fetched o f) ≡ writing w.ir (w.home x.token) i v Goes (fetched o f) →
      ((g : FlatState) → At w b c' k n (p + 1) (source.writing (setting w) x i v s) g → g.slots ≡ (fetched o f).slots → g.link ≡ (fetched o f).link → Sim w b.total out P g) → Sim w b.total out P f
  writes P out b o x m i v c c' k n p s f st more var writable below low h e later =
      moves P out b o c c' k n p s f (written w.ir (w.home x.token) i v (fetched o f)) st more h
      (e ∙ ap (λ (t : Bool). pick t (λ (g : FlatState). Goes (written w.ir (w.home x.token) i v g)) stuck (fetched o f)) (allowed-var b.frame x Write m i f.private var below writable h.mode))
      (λ g. later _ (written-at b x m i v c' k n (p + 1) s (fetched o f) var low g) refl refl)

  -- ---- calls

  -- an argument goes into its slot
  pub passes : {A : Type 0} (P : A → State → FlatState → Type 0) (out : Outcome A) (b : Bounds) (slot r v c c' k n p : ℕ) (s : State) (f : FlatState) →
      slice_get w.ir.ops p ≡ Some (op.Arg slot r) → c' + 2 ≤ c → slot < MAX_PARAMETERS → IsTemp w b.frame.private r → f.cells r 0 ≡ Word v → At w b c k n p s f →
      ((g : FlatState) → At w b c' k n (p + 1) s g → ((x : ℕ) → g.cells x 0 ≡ f.cells x 0) → g.slots ≡ filled f.slots slot v → Sim w b.total out P g) → Sim w b.total out P f
  passes P out b slot r v c c' k n p s f st more few own cell h later =
      moves P out b (op.Arg slot r) c c' k n p s f (record next { slots = filled f.slots slot v }) st more h
      (read-own b.frame.private r v (λ word. pick (nat_lt slot MAX_PARAMETERS) (λ g. Goes (record g { slots = filled g.slots slot word })) stuck) next own h.mode cell
      ∙ ap (λ (t : Bool). pick t (λ g. Goes (record g { slots = filled g.slots slot v })) stuck next) (lt-ltb slot MAX_PARAMETERS few))
      (λ g. later _ (record {
        at_place = g.at_place;
        traffic = g.traffic;
        memory = g.memory;
        kept = g.kept;
        link_kept = g.link_kept;
        mode = g.mode;
        paid = g.paid;
        spared = g.spared;
        turns_left = g.turns_left;
      }) (λ x. refl) refl)
    where
      next : FlatState
      next = fetched (op.Arg slot r) f

  -- the frame in the other mode
  abbrev pub in_mode : Bool → Bounds → Bounds
  in_mode private b = record b { frame = record b.frame { private = private } }

  -- the mode changes; slots and result stay
  pub enters : {A : Type 0} (P : A → State → FlatState → Type 0) (out : Outcome A) (b : Bounds) (c c' k n p : ℕ) (s : State) (f : FlatState) →
      slice_get w.ir.ops p ≡ Some (op.SetMode true) → c' + 1 ≤ c → b.frame.private ≡ false → At w b c k n p s f →
      ((g : FlatState) → At w (in_mode true b) c' k n (p + 1) s g → ((x : ℕ) → g.cells x 0 ≡ f.cells x 0) → g.slots ≡ f.slots → g.result ≡ f.result → Sim w b.total out P g) → Sim w b.total out P f
  enters P out b c c' k n p s f st more off h later =
      moves P out b (op.SetMode true) c c' k n p s f (record (fetched (op.SetMode true) f) { private = true }) st more h
      (ap (λ (t : Bool). pick t stuck (λ (g : FlatState). Goes (record g { private = true })) (fetched (op.SetMode true) f)) (h.mode ∙ off))
      (λ g. later _ (record {
        at_place = g.at_place;
        traffic = g.traffic;
        memory = g.memory;
        kept = g.kept;
        link_kept = g.link_kept;
        mode = refl;
        paid = g.paid;
        spared = g.spared;
        turns_left = g.turns_left;
      }) (λ x. refl) refl refl)

  pub leaves : {A : Type 0} (P : A → State → FlatState → Type 0) (out : Outcome A) (b : Bounds) (c c' k n p : ℕ) (s : State) (f : FlatState) →
      slice_get w.ir.ops p ≡ Some (op.SetMode false) → c' + 1 ≤ c → b.frame.private ≡ true → At w b c k n p s f →
      ((g : FlatState) → At w (in_mode false b) c' k n (p + 1) s g → ((x : ℕ) → g.cells x 0 ≡ f.cells x 0) → g.slots ≡ f.slots → g.result ≡ f.result → Sim w b.total out P g) → Sim w b.total out P f
  leaves P out b c c' k n p s f st more on h later =
      moves P out b (op.SetMode false) c c' k n p s f (record (fetched (op.SetMode false) f) { private = false }) st more h
      (ap (λ (t : Bool). pick t (λ (g : FlatState). Goes (record g { private = false })) stuck (fetched (op.SetMode false) f)) (h.mode ∙ on))
      (λ g. later _ (record {
        at_place = g.at_place;
        traffic = g.traffic;
        memory = g.memory;
        kept = g.kept;
        link_kept = g.link_kept;
        mode = refl;
        paid = g.paid;
        spared = g.spared;
        turns_left = g.turns_left;
      }) (λ x. refl) refl refl)

  -- a call goes to the label of a function, and leaves a link
  pub calls : {A : Type 0} (P : A → State → FlatState → Type 0) (out : Outcome A) (b : Bounds) (l q c c' k n p : ℕ) (s : State) (f : FlatState) →
      slice_get w.ir.ops p ≡ Some (op.Call l) → slice_get w.ir.ops q ≡ Some (op.Label l) → c' + 1 ≤ c → At w b c k n p s f →
      ((g : FlatState) → At w b c' (k + 64) n q s g → ((x : ℕ) → g.cells x 0 ≡ f.cells x 0) → g.slots ≡ f.slots → g.link ≡ Some (p + 1) → Sim w b.total out P g) → Sim w b.total out P f
  calls P out b l q c c' k n p s f st there more h later =
      moves P out b (op.Call l) c c' k n p s f _ st more h (to-label l q (record (fetched (op.Call l) f) { link = Some (f.place + 1) }) there)
      (λ g. let j : At w b c' (k + 64) n q s (record (fetched (op.Call l) f) { place = q; jumps = f.jumps + 1 }) = jumped-at b c' k n (p + 1) q s (fetched (op.Call l) f) g in
      later _ (record {
        at_place = refl;
        traffic = j.traffic;
        memory = j.memory;
        kept = j.kept;
        link_kept = j.link_kept;
        mode = j.mode;
        paid = j.paid;
        spared = j.spared;
        turns_left = j.turns_left;
      }) (λ x. refl) refl (ap (λ (x : ℕ). Some (x + 1)) h.at_place))

  -- the label of a function, and its parameters, keep the link
  pub begins : {A : Type 0} (P : A → State → FlatState → Type 0) (out : Outcome A) (b : Bounds) (l c k n p : ℕ) (s : State) (f : FlatState) →
      slice_get w.ir.ops p ≡ Some (op.Label l) → At w b c k n p s f →
      ((g : FlatState) → At w b c k n (p + 1) s g → g.slots ≡ f.slots → g.link ≡ f.link → g.result ≡ f.result → ((x : ℕ) → g.cells x 0 ≡ f.cells x 0) → Sim w b.total out P g) → Sim w b.total out P f
  begins P out b l c k n p s f st h later =
      moves P out b (op.Label l) c c k n p s f (fetched (op.Label l) f) st (omega arith) h refl (λ g. later _ g refl refl refl (λ x. refl))

  -- The link of a function is kept. From then on it is to be kept, next to all that the cells above its temporaries hold.
  pub saves : {A : Type 0} (P : A → State → FlatState → Type 0) (out : Outcome A) (b : Bounds) (a : Frame) (ret c c' k n p : ℕ) (s : State) (f : FlatState) →
      slice_get w.ir.ops p ≡ Some (op.SaveLink a.link) → c' + 2 ≤ c → FitsFrame w a → a.link ≤ a.top → b.frame.private ≡ a.private → f.link ≡ Some ret → At w b c k n p s f →
      ((g : FlatState) → At w (record { frame = a; total = b.total; above = a.top; contents = λ x. g.cells x 0 }) c' k n (p + 1) s g → g.cells a.link 0 ≡ Link ret →
      ((x : ℕ) → a.link < x → g.cells x 0 ≡ f.cells x 0) → Sim w b.total out P g) → Sim w b.total out P f
  saves P out b a ret c c' k n p s f st more fits low same link h later =
      moves P out b (op.SaveLink a.link) c c' k n p s f (record next { cells = changed f.cells a.link 0 (Link ret) }) st more h
      (ap (λ (x : Option ℕ). with_given x (keeping_link w.is_loose w.ir a.link) next) link
      ∙ ap (λ (x : Bool). pick x (pick (w.is_loose (class_of w.ir a.link)) stuck keep) stuck next) (allowed-own a.private f.private Write a.link own.one own.writable (h.mode ∙ same))
      ∙ ap (λ (x : Bool). pick x stuck keep next) own.held)
      (λ g. later (record next { cells = changed f.cells a.link 0 (Link ret) }) (record {
        at_place = g.at_place;
        traffic = g.traffic;
        memory = λ t i. changed-other f.cells a.link 0 (Link ret) (w.home t) i (λ e. own.apart t (sym e)) ∙ h.memory t i;
        kept = λ x above. refl;
        link_kept = refl;
        mode = g.mode ∙ same;
        paid = g.paid;
        spared = g.spared;
        turns_left = g.turns_left;
      }) (changed-same f.cells a.link 0 (Link ret)) (λ x above. changed-other f.cells a.link 0 (Link ret) x 0 (λ e. omega (arith, above, e))))
    where
      next : FlatState
      next = fetched (op.SaveLink a.link) f

      own : IsTemp w a.private a.link
      own = fits.temps a.link (omega arith) low

      keep : Later
      keep = λ g. Goes (record g { cells = changed g.cells a.link 0 (Link ret) })

  -- the result is handed over
  pub hands : {A : Type 0} (P : A → State → FlatState → Type 0) (out : Outcome A) (b : Bounds) (r v c c' k n p : ℕ) (s : State) (f : FlatState) →
      slice_get w.ir.ops p ≡ Some (op.SetResult r) → c' + 2 ≤ c → IsTemp w b.frame.private r → f.cells r 0 ≡ Word v → At w b c k n p s f →
      ((g : FlatState) → At w b c' k n (p + 1) s g → ((x : ℕ) → g.cells x 0 ≡ f.cells x 0) → g.result ≡ Some v → Sim w b.total out P g) → Sim w b.total out P f
  hands P out b r v c c' k n p s f st more own cell h later =
      moves P out b (op.SetResult r) c c' k n p s f (record (fetched (op.SetResult r) f) { result = Some v }) st more h
      (read-own b.frame.private r v (λ word g. Goes (record g { result = Some word })) (fetched (op.SetResult r) f) own h.mode cell)
      (λ g. later _ (record {
        at_place = g.at_place;
        traffic = g.traffic;
        memory = g.memory;
        kept = g.kept;
        link_kept = g.link_kept;
        mode = g.mode;
        paid = g.paid;
        spared = g.spared;
        turns_left = g.turns_left;
      }) (λ x. refl) refl)

  -- the run goes back to the link
  pub returns : {A : Type 0} (P : A → State → FlatState → Type 0) (out : Outcome A) (b : Bounds) (ret c c' k n p : ℕ) (s : State) (f : FlatState) →
      slice_get w.ir.ops p ≡ Some (op.Return b.frame.link) → c' + 3 ≤ c → IsTemp w b.frame.private b.frame.link → f.cells b.frame.link 0 ≡ Link ret → At w b c k n p s f →
      ((g : FlatState) → At w b c' (k + 64) n ret s g → ((x : ℕ) → g.cells x 0 ≡ f.cells x 0) → g.result ≡ f.result → Sim w b.total out P g) → Sim w b.total out P f
  returns P out b ret c c' k n p s f st more own cell h later =
      moves P out b (op.Return b.frame.link) c c' k n p s f _ st more h
      (ap (λ (x : Bool). pick x (pick (w.is_loose (class_of w.ir b.frame.link)) stuck back) stuck next) (allowed-own b.frame.private f.private Read b.frame.link own.one own.readable h.mode)
      ∙ ap (λ (x : Bool). pick x stuck back next) own.held
      ∙ ap (λ (x : Held). with_link x going next) cell)
      (λ g. later _ (jumped-at b c' k n (p + 1) ret s next g) (λ x. refl) refl)
    where
      next : FlatState
      next = fetched (op.Return b.frame.link) f

      back : Later
      back = λ g. with_link (g.cells b.frame.link 0) going g
