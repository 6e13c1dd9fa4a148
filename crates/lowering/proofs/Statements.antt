-- The code of a statement does what the statement means, and is left as it is left.
use Rattle.std.proofs.Common.{◌≡◌, ℕ, zero, suc, ◌+◌, ◌-◌, ◌<◌, ◌≤◌, max, Bool, true, not, nat_lt, List, [], ◌∷◌, ◌++◌, length, Option, Some, None, arith, refl, sym, ◌∙◌, ap, subst}
use Rattle.std.proofs.lemmas.Bool.{ltb-true}
use Rattle.std.specs.List.{slice_get}
use Rattle.execution.specs.Traffic.{after_check, after_suspension}
use Rattle.c_semantics.specs.declared.tree.Variable.{Variable}
use Rattle.c_semantics.specs.ResolvedTree.{Expr, Stmt, Nothing, Then, Empty, Block, Local, Assign, Store, Call, Suspend, Release, Check, Return, Break, Continue, If, While, For}
use Rattle.c_semantics.specs.States as source
use Rattle.c_semantics.specs.States.{State, Outcome, GoesOn, EndsAs, then, then_run, choose, tick, within, reading, turn_from, begin_turn}
use Rattle.c_semantics.specs.Meaning.{Flow, Completed, Broke, Continued, Returned, Turn, Again, Leaves, value, values, holds, value_or_zero, condition, after_statement, after_body, made_turn, turn, after_turn, iterate, loop, completes, meaning}
use Rattle.ir_code.specs.declared.ops.Op.{Op}
use Rattle.ir_code.specs.declared.ops.Op.TheVariants as op
use Rattle.ir_code.specs.FlatStates.{Held, Word, FlatState, fetched}
use Rattle.ir_code.specs.FlatMeaning.{reading as reading_cell, writing as writing_cell, put}
use Rattle.execution.specs.Run.{Goes}
use Rattle.lowering.specs.Cells.{room_of, room_of_part, room_in}
use Rattle.lowering.specs.Lowering.{Scope, Exits, labels_in, labels_in_part, labels_within, passing, calling, value_code, values_code, value_or, statement_code}
use Rattle.lowering.proofs.Relation.{World, setting, scope_of, IsTemp, IsVar, IsWritable, Bounds, At, Sim, Spans, Parts, split, goes, bind, follow, after, runs-out, weaken, ticked, now, narrow, widen}
use Rattle.lowering.proofs.Ops.{Own, Valued, puts, read-own, tests, jumps, jumps-at-zero, labels, releases, checks, suspends, writes}
use Rattle.lowering.proofs.Calling as call
use Rattle.lowering.proofs.Calling.{CallableFrom, count_of, room-positive, room-counts, passed, called-by}
use Rattle.lowering.proofs.Expressions.{Env, ExprFits, ArgumentsFit, PartFits, bounds, ValuesAt, own, value-sim, values-sim}

-- a variable that is assigned to
pub record IsTarget (E : Env) (x : Variable) (n : ℕ) : Type 0 where
  pub var : IsVar E.w E.frame x n
  pub writable : IsWritable E.w E.frame x

-- Each variable in a statement has its cell, and each call goes to a function that can be called.
abbrev pub StmtFits : Env → Stmt → Type 0
StmtFits E (Then first second) = StmtFits E first × StmtFits E second
StmtFits E (Block body) = StmtFits E body
StmtFits E (Local x value) = IsTarget E x 1 × PartFits E value
StmtFits E (Assign x value) = IsTarget E x 1 × ExprFits E value
StmtFits E (Store at x length index value) = IsTarget E x length × ExprFits E index × ExprFits E value
StmtFits E (Call function arguments) = CallableFrom E.w E.frame E.calls function (count_of arguments) × ArgumentsFit E arguments
StmtFits E (Release value) = ExprFits E value
StmtFits E (Return value) = PartFits E value
StmtFits E (If test body other) = ExprFits E test × StmtFits E body × StmtFits E other
StmtFits E (While test body) = ExprFits E test × StmtFits E body
StmtFits E (For first test step body) = StmtFits E first × PartFits E test × StmtFits E step × StmtFits E body
StmtFits E other = Unit {0}

-- how many loops stand inside one another
abbrev pub loops_in : Stmt → ℕ
loops_in (Then first second) = max (loops_in first) (loops_in second)
loops_in (Block body) = loops_in body
loops_in (If test body other) = max (loops_in body) (loops_in other)
loops_in (While test body) = 1 + loops_in body
loops_in (For first test step body) = 1 + max (loops_in first) (max (loops_in step) (loops_in body))
loops_in other = 0

-- the labels of the exits, with their places, and how many turns may begin after a return
pub record Ways : Type 0 where
  pub exits : Exits
  pub broken_at : ℕ
  pub continued_at : ℕ
  pub returned_at : ℕ
  pub back : ℕ

pub record WaysStand (w : World) (ways : Ways) : Type 0 where
  pub broken : slice_get w.ir.ops ways.broken_at ≡ Some (op.Label ways.exits.broken)
  pub continued : slice_get w.ir.ops ways.continued_at ≡ Some (op.Label ways.exits.continued)
  pub returned : slice_get w.ir.ops ways.returned_at ≡ Some (op.Label ways.exits.returned)

-- a function is left with its value in its last temporary
pub record Back (w : World) (b : Bounds) (c k n p v : ℕ) (s : State) (g : FlatState) : Type 0 where
  pub at : At w b c k n p s g
  pub cell : g.cells b.above 0 ≡ Word v

-- how a statement is left
abbrev pub Left : World → Bounds → Ways → (c k n q : ℕ) → Flow → State → FlatState → Type 0
Left w b ways c k n q Completed s g = At w b c k n q s g
Left w b ways c k n q Broke s g = At w b c (k + 64) n ways.broken_at s g
Left w b ways c k n q Continued s g = At w b c (k + 64) n ways.continued_at s g
Left w b ways c k n q (Returned v) s g = Back w b c ways.back n ways.returned_at v s g

-- what comes after a turn: the head of the loop, with fewer turns left, or the end of the loop
abbrev pub AfterTurn : World → Bounds → Ways → (h c k n q head n' : ℕ) → Turn → State → FlatState → Type 0
AfterTurn w b ways h c k n q head n' Again s g = (left : ℕ) × (n' ≡ suc left) × At w b h k left head s g
AfterTurn w b ways h c k n q head n' (Leaves flow) s g = Left w b ways c k n q flow s g

module _ (w : World) where
  pub left-less : (b : Bounds) (ways : Ways) (c c' k n n' q : ℕ) (flow : Flow) (s : State) (g : FlatState) → c' ≤ c → n ≤ n' → Left w b ways c k n q flow s g → Left w b ways c' k n' q flow s g
  left-less b ways c c' k n n' q Completed s g x y h = weaken w b c c' k k n n' q s g x (omega arith) y h
  left-less b ways c c' k n n' q Broke s g x y h = weaken w b c c' (k + 64) (k + 64) n n' ways.broken_at s g x (omega arith) y h
  left-less b ways c c' k n n' q Continued s g x y h = weaken w b c c' (k + 64) (k + 64) n n' ways.continued_at s g x (omega arith) y h
  left-less b ways c c' k n n' q (Returned v) s g x y h = record { at = weaken w b c c' ways.back ways.back n n' ways.returned_at s g x (omega arith) y h.at; cell = h.cell }

  -- only the turns that are left are counted
  pub tighten : (b : Bounds) (c k n p : ℕ) (s : State) (f : FlatState) → At w b c k n p s f → At w b c k s.turns p s f
  tighten b c k n p s f h = record {
    at_place = h.at_place;
    traffic = h.traffic;
    memory = h.memory;
    kept = h.kept;
    link_kept = h.link_kept;
    mode = h.mode;
    paid = h.paid;
    spared = h.spared;
    turns_left = omega arith;
  }

  -- ---- loops

  pub iterated : (b : Bounds) (ways : Ways) (h c k n q head : ℕ) (one_turn : State → Outcome Turn) →
      ((n' : ℕ) (s : State) (f : FlatState) → n' ≤ n → At w b h k n' head s f → Sim w b.total (one_turn s) (AfterTurn w b ways h c k n q head n') f) →
      (rounds n' : ℕ) (s : State) (f : FlatState) → n' < rounds → n' ≤ n → At w b h k n' head s f → Sim w b.total (iterate rounds one_turn s) (Left w b ways c k n q) f
  iterated b ways h c k n q head one_turn ok zero n' s f few below at = absurd (omega (arith, few))
  iterated b ways h c k n q head one_turn ok (suc rounds) n' s f few below at =
      bind w b.total (AfterTurn w b ways h c k n q head n') (Left w b ways c k n q) (one_turn s) (after_turn (iterate rounds one_turn)) f (ok n' s f below at)
      (λ t s' g r. next t s' g r (λ left s'' g' x y. iterated b ways h c k n q head one_turn ok rounds left s'' g' x y))
    where
      next : (t : Turn) (s' : State) (g : FlatState) → AfterTurn w b ways h c k n q head n' t s' g →
          ((left : ℕ) (s'' : State) (g' : FlatState) → left < rounds → left ≤ n → At w b h k left head s'' g' → Sim w b.total (iterate rounds one_turn s'') (Left w b ways c k n q) g') →
          Sim w b.total (after_turn (iterate rounds one_turn) t s') (Left w b ways c k n q) g
      next Again s' g r again = again r.0 s' g (omega (arith, few, r.1)) (omega (arith, below, r.1)) r.2
      next (Leaves flow) s' g r again = goes w b.total (Left w b ways c k n q) flow s' g r

  -- a turn begins, or the run ends for want of turns
  pub record Begun (b : Bounds) (c k p : ℕ) (before left : ℕ) (s : State) (g : FlatState) : Type 0 where
    pub at : At w b c k left p s g
    pub fewer : before ≡ suc left

  pub begun : (b : Bounds) (c c' k n p : ℕ) (s : State) (f : FlatState) → c' ≤ c + 32 → 1 ≤ k → At w b c k n p s f →
      Sim w b.total (begin_turn (setting w) s) (Begun b c' (k - 1) p s.turns) f
  begun b c c' k n p s f more some h = go s.turns refl
    where
      go : (t : ℕ) → s.turns ≡ t → Sim w b.total (turn_from (setting w) t s) (Begun b c' (k - 1) p s.turns) f
      go zero e =
          runs-out w b.total (Begun b c' (k - 1) p s.turns) s f
          (record { at = f; goes = refl; traffic = h.traffic; paid = omega (arith, h.paid); spent = omega (arith, h.spared, e, some) })
      go (suc left) e =
          goes w b.total (Begun b c' (k - 1) p s.turns) left (tick (setting w) (record s { turns = left })) f (record {
            at = record {
              at_place = h.at_place;
              traffic = h.traffic;
              memory = h.memory;
              kept = h.kept;
              link_kept = h.link_kept;
              mode = h.mode;
              paid = omega (arith, h.paid, more);
              spared = omega (arith, h.spared, e, some);
              turns_left = omega arith;
            };
            fewer = e;
          })

  -- One turn of a loop: `c + 28` is there at its head, and `c` where it is left.
  pub turned : (b : Bounds) (ways inner : Ways) (c k n q head zero_at leave finish n' : ℕ) (test : State → Outcome ℕ) (body step : State → Outcome Flow) (end : ℕ) (s : State) (f : FlatState) →
      IsTemp w b.frame.private b.above → 1 ≤ k → n' ≤ n →
      slice_get w.ir.ops zero_at ≡ Some (op.JumpZero b.above end) → slice_get w.ir.ops leave ≡ Some (op.Label end) → leave + 1 ≡ q →
      inner.broken_at ≡ leave → inner.returned_at ≡ ways.returned_at → inner.back ≡ ways.back →
      Sim w b.total (test s) (Valued w b (c + 24) k n' zero_at) f →
      ((m : ℕ) (s₁ : State) (g : FlatState) → At w b (c + 52) (k - 1) m (zero_at + 1) s₁ g → Sim w b.total (body s₁) (Left w b inner (c + 52) (k - 1) m finish) g) →
      ((m : ℕ) (s₁ : State) (g : FlatState) → At w b (c + 52) (k - 1) m finish s₁ g → Sim w b.total (step s₁) (λ flow s₂ g'. At w b (c + 28) k m head s₂ g') g) →
      ((m : ℕ) (s₁ : State) (g : FlatState) → At w b (c + 52) (k - 1 + 64) m inner.continued_at s₁ g → Sim w b.total (step s₁) (λ flow s₂ g'. At w b (c + 28) k m head s₂ g') g) →
      Sim w b.total (turn (setting w) test body step s) (AfterTurn w b ways (c + 28) c k n q head n') f
  turned b ways inner c k n q head zero_at leave finish n' test body step end s f temp some below jump label last broken returned back tested bodies completed continued =
      bind w b.total (Valued w b (c + 24) k n' zero_at) P (test s) (λ v. choose (holds v) (made_turn (setting w) body step) (GoesOn (Leaves Completed))) f tested
      (λ v s₁ g r.
      jumps-at-zero w P (choose (holds v) (made_turn (setting w) body step) (GoesOn (Leaves Completed)) s₁) b end leave b.above v (c + 24) (c + 20) k n' zero_at s₁ g jump label (omega arith) temp r.cell r.at
      (λ z g' hg' same.
      subst (λ (t : Bool). Sim w b.total (choose (not t) (made_turn (setting w) body step) (GoesOn (Leaves Completed)) s₁) P g') (sym z)
      (leaving (c + 20) (k + 64) n' s₁ g' (omega arith) (omega arith) below hg'))
      (λ z g' hg' same.
      subst (λ (t : Bool). Sim w b.total (choose (not t) (made_turn (setting w) body step) (GoesOn (Leaves Completed)) s₁) P g') (sym z)
      (bind w b.total (Begun b (c + 52) (k - 1) (zero_at + 1) s₁.turns) P (begin_turn (setting w) s₁) (λ left s₂. then (body s₂) (after_body step)) g'
      (begun b (c + 20) (c + 52) k n' (zero_at + 1) s₁ g' (omega arith) some hg')
      (λ left s₂ g₂ r₂.
      bind w b.total (Left w b inner (c + 52) (k - 1) left finish) P (body s₂) (after_body step) g₂ (bodies left s₂ g₂ r₂.at)
      (λ flow s₃ g₃ r₃. ended left (fewer s₁ left n' hg'.turns_left r₂.fewer) flow s₃ g₃ r₃)))))
    where
      P : Turn → State → FlatState → Type 0
      P = AfterTurn w b ways (c + 28) c k n q head n'

      fewer : (s₁ : State) (left m : ℕ) → s₁.turns ≤ m → s₁.turns ≡ suc left → left < m
      fewer s₁ left m x y = omega (arith, x, y)

      leaving : (c₁ k₁ m : ℕ) (s₁ : State) (g : FlatState) → c ≤ c₁ → k ≤ k₁ → m ≤ n → At w b c₁ k₁ m leave s₁ g → Sim w b.total (GoesOn (Leaves Completed) s₁) P g
      leaving c₁ k₁ m s₁ g x y z h =
          labels w P (GoesOn (Leaves Completed) s₁) b end c₁ k₁ m leave s₁ g label h
          (λ g' hg' same. goes w b.total P (Leaves Completed) s₁ g' (subst (λ (t : ℕ). At w b c k n t s₁ g') last (weaken w b c₁ c k₁ k m n (leave + 1) s₁ g' x y z hg')))

      again : (left : ℕ) (s₁ : State) (g : FlatState) → left < n' → Sim w b.total (step s₁) (λ flow s₂ g'. At w b (c + 28) k left head s₂ g') g → Sim w b.total (then_run (step s₁) (GoesOn Again)) P g
      again left s₁ g few sim =
          bind w b.total (λ flow s₂ g'. At w b (c + 28) k left head s₂ g') P (step s₁) (λ flow. GoesOn Again) g sim
          (λ flow s₂ g' h. goes w b.total P Again s₂ g' (n' - 1, (omega (arith, few)), weaken w b (c + 28) (c + 28) k k left (n' - 1) head s₂ g' (omega arith) (omega arith) (omega (arith, few)) h))

      ended : (left : ℕ) → left < n' → (flow : Flow) (s₃ : State) (g₃ : FlatState) → Left w b inner (c + 52) (k - 1) left finish flow s₃ g₃ → Sim w b.total (after_body step flow s₃) P g₃
      ended left few Completed s₃ g₃ r = again left s₃ g₃ few (completed left s₃ g₃ r)
      ended left few Continued s₃ g₃ r = again left s₃ g₃ few (continued left s₃ g₃ r)
      ended left few Broke s₃ g₃ r = leaving (c + 52) (k - 1 + 64) left s₃ g₃ (omega arith) (omega arith) (omega (arith, few, below)) (subst (λ (t : ℕ). At w b (c + 52) (k - 1 + 64) left t s₃ g₃) broken r)
      ended left few (Returned v) s₃ g₃ r =
          goes w b.total P (Leaves (Returned v)) s₃ g₃ (record {
            at = weaken w b (c + 52) c inner.back ways.back left n ways.returned_at s₃ g₃ (omega arith) (omega (arith, back)) (omega (arith, few, below))
                (subst (λ (t : ℕ). At w b (c + 52) inner.back left t s₃ g₃) returned r.at);
            cell = r.cell;
          })

-- ---- statements

module _ (E : Env) where
  abbrev scope : Scope
  scope = scope_of E.w E.frame

  -- the bounds of all statements of the function
  abbrev pub whole : ℕ → (ℕ → Held) → Bounds
  whole total contents = bounds E total E.frame.top contents

  abbrev pub top : ℕ
  top = E.frame.top

  first : (total : ℕ) (contents : ℕ → Held) → E.frame.link < top → Own E.w (whole total contents) top
  first total contents low = own E total top top contents low (omega arith) (omega arith)

  -- a value that need not be there
  part-sim : (e : Option Expr) (total : ℕ) (contents : ℕ → Held) (label c c' k n p q : ℕ) (s : State) (f : FlatState) → PartFits E e → E.frame.link + room_of_part e ≤ top → 1 ≤ k → c' + 4 ≤ c →
      Spans E.w p (value_or 0 scope top label e) q → At E.w (whole total contents) c k n p s f →
      Sim E.w total (value_or_zero (setting E.w) E.calls e s) (Valued E.w (whole total contents) c' k n q) f
  part-sim None total contents label c c' k n p q s f fit low room more code h =
      puts E.w (Valued E.w b c' k n q) (GoesOn 0 s) b (op.Const top 0) top 0 c c' k n p s f code.0 more (first total contents (omega (arith, low))) h refl
      (λ g hg cell. goes E.w total (Valued E.w b c' k n q) 0 s g (subst (λ (x : ℕ). Valued E.w b c' k n x 0 s g) code.1 (record { at = hg; cell = cell })))
    where
      b : Bounds
      b = whole total contents
  part-sim (Some e) total contents label c c' k n p q s f fit low room more code h =
      after E.w total (Valued E.w b c k n q) (Valued E.w b c' k n q) (value (setting E.w) E.calls e s) f
      (value-sim E e total top contents label c k n p q s f fit low (omega arith) room code h)
      (λ v s' g r. record { at = weaken E.w b c c' k k n n q s' g (omega (arith, more)) (omega arith) (omega arith) r.at; cell = r.cell })
    where
      b : Bounds
      b = whole total contents

  condition-sim : (e : Option Expr) (total : ℕ) (contents : ℕ → Held) (label c c' k n p q : ℕ) (s : State) (f : FlatState) → PartFits E e → E.frame.link + room_of_part e ≤ top → 1 ≤ k → c' + 4 ≤ c →
      Spans E.w p (value_or 1 scope top label e) q → At E.w (whole total contents) c k n p s f →
      Sim E.w total (condition (setting E.w) E.calls e s) (Valued E.w (whole total contents) c' k n q) f
  condition-sim None total contents label c c' k n p q s f fit low room more code h =
      puts E.w (Valued E.w b c' k n q) (GoesOn 1 s) b (op.Const top 1) top 1 c c' k n p s f code.0 more (first total contents (omega (arith, low))) h refl
      (λ g hg cell. goes E.w total (Valued E.w b c' k n q) 1 s g (subst (λ (x : ℕ). Valued E.w b c' k n x 1 s g) code.1 (record { at = hg; cell = cell })))
    where
      b : Bounds
      b = whole total contents
  condition-sim (Some e) total contents label c c' k n p q s f fit low room more code h =
      part-sim (Some e) total contents label c c' k n p q s f fit low room more code h

  -- a variable gets the value
  assigned : (x : Variable) (total : ℕ) (contents : ℕ → Held) (ways : Ways) (v c c' k n p q : ℕ) (s : State) (f : FlatState) → IsTarget E x 1 → E.frame.link < top → c' + 4 ≤ c →
      Spans E.w p (op.Copy (E.w.home x.token) top ∷ []) q → Valued E.w (whole total contents) c k n p v s f →
      Sim E.w total (completes (source.writing (setting E.w) x 0 v s)) (Left E.w (whole total contents) ways c' k n q) f
  assigned x total contents ways v c c' k n p q s f target low more code r =
      writes E.w (Left E.w b ways c' k n q) (completes (source.writing (setting E.w) x 0 v s)) b (op.Copy (E.w.home x.token) top) x 1 0 v c c' k n p s f code.0 more target.var target.writable (omega arith) (omega (arith, low, target.var.below)) r.at
      (read-own E.w E.frame.private top v (put E.w.ir (E.w.home x.token)) (fetched (op.Copy (E.w.home x.token) top) f) (first total contents low).temp (r.at).mode r.cell)
      (λ g hg slots link. goes E.w total (Left E.w b ways c' k n q) Completed (source.writing (setting E.w) x 0 v s) g (subst (λ (y : ℕ). At E.w b c' k n y (source.writing (setting E.w) x 0 v s) g) code.1 hg))
    where
      b : Bounds
      b = whole total contents

  -- what comes after a statement that is completed; else the flow goes on
  completed : (total : ℕ) (contents : ℕ → Held) (ways : Ways) (c' c k n m q : ℕ) (o : Outcome Flow) (f : FlatState) → c ≤ c' → Sim E.w total o (Left E.w (whole total contents) ways c' k n m) f →
      ((s : State) (g : FlatState) → At E.w (whole total contents) c' k n m s g → Sim E.w total (GoesOn Completed s) (Left E.w (whole total contents) ways c k n q) g) →
      Sim E.w total o (Left E.w (whole total contents) ways c k n q) f
  completed total contents ways c' c k n m q o f more sim later =
      follow E.w total (Left E.w b ways c' k n m) (Left E.w b ways c k n q) o f sim go
    where
      b : Bounds
      b = whole total contents

      go : (flow : Flow) (s : State) (g : FlatState) → Left E.w b ways c' k n m flow s g → Sim E.w total (GoesOn flow s) (Left E.w b ways c k n q) g
      go Completed s g r = later s g r
      go Broke s g r = goes E.w total (Left E.w b ways c k n q) Broke s g (left-less E.w b ways c' c k n n q Broke s g more (omega arith) r)
      go Continued s g r = goes E.w total (Left E.w b ways c k n q) Continued s g (left-less E.w b ways c' c k n n q Continued s g more (omega arith) r)
      go (Returned v) s g r = goes E.w total (Left E.w b ways c k n q) (Returned v) s g (left-less E.w b ways c' c k n n q (Returned v) s g more (omega arith) r)

  -- a label on the way, and the end
  labelled : (total : ℕ) (contents : ℕ → Held) (ways : Ways) (l c c' k k' n p q : ℕ) (s : State) (f : FlatState) → slice_get E.w.ir.ops p ≡ Some (op.Label l) → p + 1 ≡ q → c' ≤ c → k' ≤ k →
      At E.w (whole total contents) c k n p s f → Sim E.w total (GoesOn Completed s) (Left E.w (whole total contents) ways c' k' n q) f
  labelled total contents ways l c c' k k' n p q s f st e x y h =
      labels E.w (Left E.w b ways c' k' n q) (GoesOn Completed s) b l c k n p s f st h
      (λ g hg same. goes E.w total (Left E.w b ways c' k' n q) Completed s g (subst (λ (z : ℕ). At E.w b c' k' n z s g) e (weaken E.w b c c' k k' n n (p + 1) s g x y (omega arith) hg)))
    where
      b : Bounds
      b = whole total contents

  pub statement-sim : (st : Stmt) (total : ℕ) (contents : ℕ → Held) (ways : Ways) (label c k n p q : ℕ) (s : State) (f : FlatState) → StmtFits E st → E.frame.link < top → E.frame.link + room_in st ≤ top →
      1 + loops_in st ≤ k → ways.back + loops_in st ≤ 64 + k → loops_in st ≤ 64 → WaysStand E.w ways → Spans E.w p (statement_code scope ways.exits top label st) q → At E.w (whole total contents) c k n p s f →
      Sim E.w total (meaning (setting E.w) E.calls st s) (Left E.w (whole total contents) ways c k n q) f
  statement-sim Nothing total contents ways label c k n p q s f fit wide low room back deep stand code h =
      goes E.w total (Left E.w (whole total contents) ways c k n q) Completed s f (subst (λ (x : ℕ). At E.w (whole total contents) c k n x s f) code h)
  statement-sim (Then one two) total contents ways label c k n p q s f fit wide low room back deep stand code h =
      bind E.w total (Left E.w b ways c k n m.middle) (Left E.w b ways c k n q) (meaning (setting E.w) E.calls one s) (after_statement (meaning (setting E.w) E.calls two)) f
      (statement-sim one total contents ways label c k n p m.middle s f fit.0 wide (omega (arith, low)) (omega (arith, room)) (omega (arith, back)) (omega (arith, deep)) stand m.first h)
      (λ flow s₁ g r. next flow s₁ g r
      (λ h₁. statement-sim two total contents ways (label + labels_within one) c k n m.middle q s₁ g fit.1 wide (omega (arith, low)) (omega (arith, room)) (omega (arith, back)) (omega (arith, deep)) stand m.second h₁))
    where
      b : Bounds
      b = whole total contents

      m : Parts E.w p (statement_code scope ways.exits top label one) (statement_code scope ways.exits top (label + labels_within one) two) q
      m = split E.w p (statement_code scope ways.exits top label one) (statement_code scope ways.exits top (label + labels_within one) two) q code

      next : (flow : Flow) (s₁ : State) (g : FlatState) → Left E.w b ways c k n m.middle flow s₁ g →
          (At E.w b c k n m.middle s₁ g → Sim E.w total (meaning (setting E.w) E.calls two s₁) (Left E.w b ways c k n q) g) →
          Sim E.w total (after_statement (meaning (setting E.w) E.calls two) flow s₁) (Left E.w b ways c k n q) g
      next Completed s₁ g r later = later r
      next Broke s₁ g r later = goes E.w total (Left E.w b ways c k n q) Broke s₁ g r
      next Continued s₁ g r later = goes E.w total (Left E.w b ways c k n q) Continued s₁ g r
      next (Returned v) s₁ g r later = goes E.w total (Left E.w b ways c k n q) (Returned v) s₁ g r
  statement-sim Empty total contents ways label c k n p q s f fit wide low room back deep stand code h =
      goes E.w total (Left E.w b ways c k n q) Completed (tick (setting E.w) s) f
      (subst (λ (x : ℕ). At E.w b c k n x (tick (setting E.w) s) f) code (weaken E.w b (c + 32) c k k n n p (tick (setting E.w) s) f (omega arith) (omega arith) (omega arith) (ticked E.w b c k n p s f h)))
    where
      b : Bounds
      b = whole total contents
  statement-sim (Block body) total contents ways label c k n p q s f fit wide low room back deep stand code h =
      statement-sim body total contents ways label c k n p q (tick (setting E.w) s) f fit wide low room back deep stand code
      (weaken E.w (whole total contents) (c + 32) c k k n n p (tick (setting E.w) s) f (omega arith) (omega arith) (omega arith) (ticked E.w (whole total contents) c k n p s f h))
  statement-sim (Local x e) total contents ways label c k n p q s f fit wide low room back deep stand code h =
      bind E.w total (Valued E.w b (c + 28) k n m.middle) (Left E.w b ways c k n q) (value_or_zero (setting E.w) E.calls e s₁) (λ v s₂. completes (source.writing (setting E.w) x 0 v s₂)) f
      (part-sim e total contents label (c + 32) (c + 28) k n p m.middle s₁ f fit.1 low (omega (arith, room)) (omega arith) m.first (ticked E.w b c k n p s f h))
      (λ v s₂ g r. assigned x total contents ways v (c + 28) c k n m.middle q s₂ g fit.0 wide (omega arith) m.second r)
    where
      b : Bounds
      b = whole total contents

      s₁ : State
      s₁ = tick (setting E.w) s

      m : Parts E.w p (value_or 0 scope top label e) (op.Copy (E.w.home x.token) top ∷ []) q
      m = split E.w p (value_or 0 scope top label e) (op.Copy (E.w.home x.token) top ∷ []) q code
  statement-sim (Assign x e) total contents ways label c k n p q s f fit wide low room back deep stand code h =
      bind E.w total (Valued E.w b (c + 32) k n m.middle) (Left E.w b ways c k n q) (value (setting E.w) E.calls e s₁) (λ v s₂. completes (source.writing (setting E.w) x 0 v s₂)) f
      (value-sim E e total top contents label (c + 32) k n p m.middle s₁ f fit.1 low (omega arith) (omega (arith, room)) m.first (ticked E.w b c k n p s f h))
      (λ v s₂ g r. assigned x total contents ways v (c + 32) c k n m.middle q s₂ g fit.0 wide (omega arith) m.second r)
    where
      b : Bounds
      b = whole total contents

      s₁ : State
      s₁ = tick (setting E.w) s

      m : Parts E.w p (value_code scope top label e) (op.Copy (E.w.home x.token) top ∷ []) q
      m = split E.w p (value_code scope top label e) (op.Copy (E.w.home x.token) top ∷ []) q code
  statement-sim (Store at x length index e) total contents ways label c k n p q s f fit wide low room back deep stand code h =
      bind E.w total (Valued E.w b (c + 32) k n m.middle) P (value (setting E.w) E.calls index s₁)
      (λ i s₂. then (within at length i s₂) (λ place s₃. then (value (setting E.w) E.calls e s₃) (λ v s₄. completes (source.writing (setting E.w) x place v s₄)))) f
      (value-sim E index total top contents label (c + 32) k n p m.middle s₁ f fit.1 (omega (arith, low)) (omega arith) (omega (arith, room)) m.first (ticked E.w b c k n p s f h))
      (λ i s₂ g r.
      bind E.w total (Tested i) P (within at length i s₂) (λ place s₃. then (value (setting E.w) E.calls e s₃) (λ v s₄. completes (source.writing (setting E.w) x place v s₄))) g
      (tests E.w (Tested i) (GoesOn i) b top i length at (c + 32) (c + 20) k n m.middle s₂ g m.second.0 (omega arith) own₁.temp r.cell r.at
      (λ t g' hg' same. goes E.w total (Tested i) i s₂ g' (refl, t, hg', same top ∙ r.cell)))
      (λ i' s₃ g' r'.
      bind E.w total (Valued E.w (now b (top - 1) g') (c + 20) k n m'.middle) P (value (setting E.w) E.calls e s₃) (λ v s₄. completes (source.writing (setting E.w) x i' v s₄)) g'
      (value-sim E e total (top - 1) (λ y. g'.cells y 0) (label + labels_in index) (c + 20) k n (m.middle + 1) m'.middle s₃ g' fit.2 (omega (arith, low)) (omega arith) (omega (arith, room)) m'.first
      (narrow E.w b (top - 1) (c + 20) k n (m.middle + 1) s₃ g' r'.2))
      (λ v s₄ g'' r''.
      writes E.w P (completes (source.writing (setting E.w) x i' v s₄)) b (op.Store (E.w.home x.token) top (top - 1)) x length i' v (c + 20) c k n m'.middle s₄ g'' m'.second.0 (omega arith) fit.0.var fit.0.writable
      (ltb-true i' length (ap (λ (y : ℕ). nat_lt y length) r'.0 ∙ r'.1)) (omega (arith, wide, fit.0.var.below))
      (widen E.w b (top - 1) (c + 20) k n (m.middle + 1) (c + 20) k n m'.middle s₃ s₄ g' g'' (omega arith) r'.2 r''.at)
      (read-own E.w E.frame.private top i' (λ j. reading_cell E.w.is_loose E.w.ir (top - 1) 0 (λ word. writing_cell E.w.ir (E.w.home x.token) j word Goes)) (fetched (op.Store (E.w.home x.token) top (top - 1)) g'') own₁.temp (r''.at).mode
      ((r''.at).kept top (omega (arith, low, some)) ∙ r'.3 ∙ ap (λ (y : ℕ). Word y) (sym r'.0))
      ∙ read-own E.w E.frame.private (top - 1) v (λ word. writing_cell E.w.ir (E.w.home x.token) i' word Goes) (fetched (op.Store (E.w.home x.token) top (top - 1)) g'')
      (E.fits.temps (top - 1) (omega (arith, low, some)) (omega arith)) (r''.at).mode r''.cell)
      (λ g₃ h₃ slots link. goes E.w total P Completed (source.writing (setting E.w) x i' v s₄) g₃ (subst (λ (y : ℕ). At E.w b c k n y (source.writing (setting E.w) x i' v s₄) g₃) m'.second.1 h₃)))))
    where
      b : Bounds
      b = whole total contents

      P : Flow → State → FlatState → Type 0
      P = Left E.w b ways c k n q

      s₁ : State
      s₁ = tick (setting E.w) s

      some : 1 ≤ room_of e
      some = room-positive e

      own₁ : Own E.w b top
      own₁ = first total contents wide

      m : Parts E.w p (value_code scope top label index) (op.Test top length at ∷ (value_code scope (top - 1) (label + labels_in index) e ++ (op.Store (E.w.home x.token) top (top - 1) ∷ []))) q
      m = split E.w p (value_code scope top label index) (op.Test top length at ∷ (value_code scope (top - 1) (label + labels_in index) e ++ (op.Store (E.w.home x.token) top (top - 1) ∷ []))) q code

      m' : Parts E.w (m.middle + 1) (value_code scope (top - 1) (label + labels_in index) e) (op.Store (E.w.home x.token) top (top - 1) ∷ []) q
      m' = split E.w (m.middle + 1) (value_code scope (top - 1) (label + labels_in index) e) (op.Store (E.w.home x.token) top (top - 1) ∷ []) q m.second.1

      Tested : ℕ → ℕ → State → FlatState → Type 0
      Tested i i' s₃ g = (i' ≡ i) × (nat_lt i length ≡ true) × At E.w b (c + 20) k n (m.middle + 1) s₃ g × (g.cells top 0 ≡ Word i)
  statement-sim (Call function arguments) total contents ways label c k n p q s f fit wide low room back deep stand code h =
      bind E.w total (ValuesAt E.w b (count_of arguments) (c + 32) k n one.middle) P (values (setting E.w) E.calls arguments s₁) (λ vs s₂. then_run (E.calls function vs s₂) completes) f
      (values-sim E arguments total top contents label (c + 32) k n p one.middle s₁ f fit.1 low (omega arith) (omega (arith, room)) one.first (ticked E.w b c k n p s f h))
      (λ vs s₂ g r.
      passed E.w P (then_run (E.calls function vs s₂) completes) b arguments vs 0 top (c + 32) (c + 20) k n one.middle two.middle s₂ g E.fits r.many (omega (arith, few)) low (omega arith) (omega (arith, few)) r.cells two.first r.at
      (λ g' hg' same slots kept.
      bind E.w total (call.Returned E.w b c k n q) P (E.calls function vs s₂) (λ v. completes) g'
      (called-by E.w b function (count_of arguments) (c + 20) c k n two.middle q vs s₂ g' E.calls E.frame.private (E.w.is_private function)
      (λ y. record { limit = fit.0.limit; below = fit.0.below; callable = fit.0.callable }) r.many refl refl (omega (arith, wide)) (omega (arith, room)) (omega arith) two.second slots hg')
      (λ v s₃ g'' r''. goes E.w total P Completed s₃ g'' r''.at)))
    where
      b : Bounds
      b = whole total contents

      P : Flow → State → FlatState → Type 0
      P = Left E.w b ways c k n q

      s₁ : State
      s₁ = tick (setting E.w) s

      few : count_of arguments ≤ 6
      few = fit.0.callable.few

      one : Parts E.w p (values_code scope top label arguments) (passing 0 top arguments ++ calling scope function) q
      one = split E.w p (values_code scope top label arguments) (passing 0 top arguments ++ calling scope function) q code

      two : Parts E.w one.middle (passing 0 top arguments) (calling scope function) q
      two = split E.w one.middle (passing 0 top arguments) (calling scope function) q one.second
  statement-sim Suspend total contents ways label c k n p q s f fit wide low room back deep stand code h =
      suspends E.w (Left E.w b ways c k n q) (completes (source.noting (setting E.w) after_suspension (tick (setting E.w) s))) b (c + 32) c k n p (tick (setting E.w) s) f code.0 (omega arith) (ticked E.w b c k n p s f h)
      (λ g hg. goes E.w total (Left E.w b ways c k n q) Completed (source.noting (setting E.w) after_suspension (tick (setting E.w) s)) g (subst (λ (y : ℕ). At E.w b c k n y (source.noting (setting E.w) after_suspension (tick (setting E.w) s)) g) code.1 hg))
    where
      b : Bounds
      b = whole total contents
  statement-sim Check total contents ways label c k n p q s f fit wide low room back deep stand code h =
      checks E.w (Left E.w b ways c k n q) (completes (source.noting (setting E.w) after_check (tick (setting E.w) s))) b (c + 32) c k n p (tick (setting E.w) s) f code.0 (omega arith) (ticked E.w b c k n p s f h)
      (λ g hg. goes E.w total (Left E.w b ways c k n q) Completed (source.noting (setting E.w) after_check (tick (setting E.w) s)) g (subst (λ (y : ℕ). At E.w b c k n y (source.noting (setting E.w) after_check (tick (setting E.w) s)) g) code.1 hg))
    where
      b : Bounds
      b = whole total contents
  statement-sim (Release e) total contents ways label c k n p q s f fit wide low room back deep stand code h =
      bind E.w total (Valued E.w b (c + 32) k n m.middle) (Left E.w b ways c k n q) (value (setting E.w) E.calls e s₁) (λ v s₂. completes (source.releasing v s₂)) f
      (value-sim E e total top contents label (c + 32) k n p m.middle s₁ f fit low (omega arith) (omega (arith, room)) m.first (ticked E.w b c k n p s f h))
      (λ v s₂ g r.
      releases E.w (Left E.w b ways c k n q) (completes (source.releasing v s₂)) b top v (c + 32) c k n m.middle s₂ g m.second.0 (omega arith) (first total contents wide).temp r.cell r.at
      (λ g' hg'. goes E.w total (Left E.w b ways c k n q) Completed (source.releasing v s₂) g' (subst (λ (y : ℕ). At E.w b c k n y (source.releasing v s₂) g') m.second.1 hg')))
    where
      b : Bounds
      b = whole total contents

      s₁ : State
      s₁ = tick (setting E.w) s

      m : Parts E.w p (value_code scope top label e) (op.Release top ∷ []) q
      m = split E.w p (value_code scope top label e) (op.Release top ∷ []) q code
  statement-sim (Return e) total contents ways label c k n p q s f fit wide low room back deep stand code h =
      bind E.w total (Valued E.w b (c + 28) k n m.middle) (Left E.w b ways c k n q) (value_or_zero (setting E.w) E.calls e s₁) (λ v. GoesOn (Returned v)) f
      (part-sim e total contents label (c + 32) (c + 28) k n p m.middle s₁ f fit low (omega (arith, room)) (omega arith) m.first (ticked E.w b c k n p s f h))
      (λ v s₂ g r.
      jumps E.w (Left E.w b ways c k n q) (GoesOn (Returned v) s₂) b ways.exits.returned ways.returned_at (c + 28) c k n m.middle s₂ g m.second.0 stand.returned (omega arith) r.at
      (λ g' hg' same. goes E.w total (Left E.w b ways c k n q) (Returned v) s₂ g'
      (record { at = weaken E.w b c c (k + 64) ways.back n n ways.returned_at s₂ g' (omega arith) (omega (arith, back)) (omega arith) hg'; cell = same top ∙ r.cell })))
    where
      b : Bounds
      b = whole total contents

      s₁ : State
      s₁ = tick (setting E.w) s

      m : Parts E.w p (value_or 0 scope top label e) (op.Jump ways.exits.returned ∷ []) q
      m = split E.w p (value_or 0 scope top label e) (op.Jump ways.exits.returned ∷ []) q code
  statement-sim Break total contents ways label c k n p q s f fit wide low room back deep stand code h =
      jumps E.w (Left E.w b ways c k n q) (GoesOn Broke (tick (setting E.w) s)) b ways.exits.broken ways.broken_at (c + 32) c k n p (tick (setting E.w) s) f code.0 stand.broken (omega arith) (ticked E.w b c k n p s f h)
      (λ g hg same. goes E.w total (Left E.w b ways c k n q) Broke (tick (setting E.w) s) g hg)
    where
      b : Bounds
      b = whole total contents
  statement-sim Continue total contents ways label c k n p q s f fit wide low room back deep stand code h =
      jumps E.w (Left E.w b ways c k n q) (GoesOn Continued (tick (setting E.w) s)) b ways.exits.continued ways.continued_at (c + 32) c k n p (tick (setting E.w) s) f code.0 stand.continued (omega arith) (ticked E.w b c k n p s f h)
      (λ g hg same. goes E.w total (Left E.w b ways c k n q) Continued (tick (setting E.w) s) g hg)
    where
      b : Bounds
      b = whole total contents
  statement-sim (If test body other) total contents ways label c k n p q s f fit wide low room back deep stand code h =
      bind E.w total (Valued E.w b (c + 32) k n one.middle) P (value (setting E.w) E.calls test s₁) (λ v. choose (holds v) (meaning (setting E.w) E.calls body) (meaning (setting E.w) E.calls other)) f
      (value-sim E test total top contents (label + 2) (c + 32) k n p one.middle s₁ f fit.0 (omega (arith, low)) (omega arith) (omega (arith, room)) one.first (ticked E.w b c k n p s f h))
      (λ v s₂ g r.
      jumps-at-zero E.w P (choose (holds v) (meaning (setting E.w) E.calls body) (meaning (setting E.w) E.calls other) s₂) b label (two.middle + 1) top v (c + 32) (c + 28) k n one.middle s₂ g one.second.0 two.second.1.0 (omega arith)
      (first total contents wide).temp r.cell r.at
      (λ z g' hg' same.
      subst (λ (t : Bool). Sim E.w total (choose (not t) (meaning (setting E.w) E.calls body) (meaning (setting E.w) E.calls other) s₂) P g') (sym z)
      (labels E.w P (meaning (setting E.w) E.calls other s₂) b label (c + 28) (k + 64) n (two.middle + 1) s₂ g' two.second.1.0 hg'
      (λ g₂ h₂ same₂.
      completed total contents ways c c k n three.middle q (meaning (setting E.w) E.calls other s₂) g₂ (omega arith)
      (statement-sim other total contents ways (label + 2 + labels_in test + labels_within body) c k n (two.middle + 1 + 1) three.middle s₂ g₂ fit.2 wide (omega (arith, low)) (omega (arith, room)) (omega (arith, back)) (omega (arith, deep)) stand three.first
      (weaken E.w b (c + 28) c (k + 64) k n n (two.middle + 1 + 1) s₂ g₂ (omega arith) (omega arith) (omega arith) h₂))
      (λ s₃ g₃ h₃. labelled total contents ways (label + 1) c c k k n three.middle q s₃ g₃ three.second.0 three.second.1 (omega arith) (omega arith) h₃))))
      (λ z g' hg' same.
      subst (λ (t : Bool). Sim E.w total (choose (not t) (meaning (setting E.w) E.calls body) (meaning (setting E.w) E.calls other) s₂) P g') (sym z)
      (completed total contents ways (c + 28) c k n two.middle q (meaning (setting E.w) E.calls body s₂) g' (omega arith)
      (statement-sim body total contents ways (label + 2 + labels_in test) (c + 28) k n (one.middle + 1) two.middle s₂ g' fit.1 wide (omega (arith, low)) (omega (arith, room)) (omega (arith, back)) (omega (arith, deep)) stand two.first hg')
      (λ s₃ g₃ h₃.
      jumps E.w P (GoesOn Completed s₃) b (label + 1) three.middle (c + 28) c k n two.middle s₃ g₃ two.second.0 three.second.0 (omega arith) h₃
      (λ g₄ h₄ same₄. labelled total contents ways (label + 1) c c (k + 64) k n three.middle q s₃ g₄ three.second.0 three.second.1 (omega arith) (omega arith) h₄)))))
    where
      b : Bounds
      b = whole total contents

      P : Flow → State → FlatState → Type 0
      P = Left E.w b ways c k n q

      s₁ : State
      s₁ = tick (setting E.w) s

      one : Parts E.w p (value_code scope top (label + 2) test) (op.JumpZero top label ∷ (statement_code scope ways.exits top (label + 2 + labels_in test) body ++ (op.Jump (label + 1) ∷ op.Label label ∷ (statement_code scope ways.exits top (label + 2 + labels_in test + labels_within body) other ++ (op.Label (label + 1) ∷ []))))) q
      one = split E.w p (value_code scope top (label + 2) test) (op.JumpZero top label ∷ (statement_code scope ways.exits top (label + 2 + labels_in test) body ++ (op.Jump (label + 1) ∷ op.Label label ∷ (statement_code scope ways.exits top (label + 2 + labels_in test + labels_within body) other ++ (op.Label (label + 1) ∷ []))))) q code

      two : Parts E.w (one.middle + 1) (statement_code scope ways.exits top (label + 2 + labels_in test) body) (op.Jump (label + 1) ∷ op.Label label ∷ (statement_code scope ways.exits top (label + 2 + labels_in test + labels_within body) other ++ (op.Label (label + 1) ∷ []))) q
      two = split E.w (one.middle + 1) (statement_code scope ways.exits top (label + 2 + labels_in test) body) (op.Jump (label + 1) ∷ op.Label label ∷ (statement_code scope ways.exits top (label + 2 + labels_in test + labels_within body) other ++ (op.Label (label + 1) ∷ []))) q one.second.1

      three : Parts E.w (two.middle + 1 + 1) (statement_code scope ways.exits top (label + 2 + labels_in test + labels_within body) other) (op.Label (label + 1) ∷ []) q
      three = split E.w (two.middle + 1 + 1) (statement_code scope ways.exits top (label + 2 + labels_in test + labels_within body) other) (op.Label (label + 1) ∷ []) q two.second.1.1
  statement-sim (While test body) total contents ways label c k n p q s f fit wide low room back deep stand code h =
      after E.w total (Left E.w b ways c k s₁.turns q) (Left E.w b ways c k n q) (meaning (setting E.w) E.calls (While test body) s) f
      (iterated E.w b ways (c + 28) c k s₁.turns q p (turn (setting E.w) (value (setting E.w) E.calls test) (meaning (setting E.w) E.calls body) completes)
      (λ n' s₂ f₂ below at₂.
      labels E.w (AfterTurn E.w b ways (c + 28) c k s₁.turns q p n') (turn (setting E.w) (value (setting E.w) E.calls test) (meaning (setting E.w) E.calls body) completes s₂) b label (c + 28) k n' p s₂ f₂ code.0 at₂
      (λ g hg same.
      turned E.w b ways inner c k s₁.turns q p one.middle (two.middle + 1) two.middle n' (value (setting E.w) E.calls test) (meaning (setting E.w) E.calls body) completes (label + 1) s₂ g
      (first total contents wide).temp (omega (arith, room)) below one.second.0 two.second.1.0 two.second.1.1 refl refl refl
      (value-sim E test total top contents (label + 2) (c + 24) k n' (p + 1) one.middle s₂ g fit.0 (omega (arith, low)) (omega arith) (omega (arith, room)) one.first
      (weaken E.w b (c + 28) (c + 24) k k n' n' (p + 1) s₂ g (omega arith) (omega arith) (omega arith) hg))
      (λ m s₃ g₃ h₃. statement-sim body total contents inner (label + 2 + labels_in test) (c + 52) (k - 1) m (one.middle + 1) two.middle s₃ g₃ fit.1 wide (omega (arith, low)) (omega (arith, room)) (omega (arith, back, room)) (omega (arith, deep)) stands two.first h₃)
      (λ m s₃ g₃ h₃.
      jumps E.w (At₁ m) (completes s₃) b label p (c + 52) (c + 28) (k - 1) m two.middle s₃ g₃ two.second.0 code.0 (omega arith) h₃
      (λ g₄ h₄ same₄. goes E.w total (At₁ m) Completed s₃ g₄ (weaken E.w b (c + 28) (c + 28) (k - 1 + 64) k m m p s₃ g₄ (omega arith) (omega arith) (omega arith) h₄)))
      (λ m s₃ g₃ h₃. goes E.w total (At₁ m) Completed s₃ g₃ (weaken E.w b (c + 52) (c + 28) (k - 1 + 64) k m m p s₃ g₃ (omega arith) (omega arith) (omega arith) h₃))))
      (suc s₁.turns) s₁.turns s₁ f (omega arith) (omega arith)
      (tighten E.w b (c + 28) k n p s₁ f (weaken E.w b (c + 32) (c + 28) k k n n p s₁ f (omega arith) (omega arith) (omega arith) (ticked E.w b c k n p s f h))))
      (λ flow s₂ g r. left-less E.w b ways c c k s₁.turns n q flow s₂ g (omega arith) h.turns_left r)
    where
      b : Bounds
      b = whole total contents

      s₁ : State
      s₁ = tick (setting E.w) s

      exits₁ : Exits
      exits₁ = record ways.exits { broken = label + 1; continued = label }

      one : Parts E.w (p + 1) (value_code scope top (label + 2) test) (op.JumpZero top (label + 1) ∷ (statement_code scope exits₁ top (label + 2 + labels_in test) body ++ (op.Jump label ∷ op.Label (label + 1) ∷ []))) q
      one = split E.w (p + 1) (value_code scope top (label + 2) test) (op.JumpZero top (label + 1) ∷ (statement_code scope exits₁ top (label + 2 + labels_in test) body ++ (op.Jump label ∷ op.Label (label + 1) ∷ []))) q code.1

      two : Parts E.w (one.middle + 1) (statement_code scope exits₁ top (label + 2 + labels_in test) body) (op.Jump label ∷ op.Label (label + 1) ∷ []) q
      two = split E.w (one.middle + 1) (statement_code scope exits₁ top (label + 2 + labels_in test) body) (op.Jump label ∷ op.Label (label + 1) ∷ []) q one.second.1

      inner : Ways
      inner = record { exits = exits₁; broken_at = two.middle + 1; continued_at = p; returned_at = ways.returned_at; back = ways.back }

      stands : WaysStand E.w inner
      stands = record { broken = two.second.1.0; continued = code.0; returned = stand.returned }

      At₁ : ℕ → Flow → State → FlatState → Type 0
      At₁ m flow s₂ g' = At E.w b (c + 28) k m p s₂ g'
  statement-sim (For before test step body) total contents ways label c k n p q s f fit wide low room back deep stand code h =
      bind E.w total (Left E.w b heads (c + 28) k n zero.middle) P (meaning (setting E.w) E.calls before s₁) (λ flow. loop one_turn) f
      (statement-sim before total contents heads (label + 3) (c + 28) k n p zero.middle s₁ f fit.0 wide (omega (arith, low)) (omega (arith, room)) (omega (arith, deep)) (omega (arith, deep)) standing zero.first
      (weaken E.w b (c + 32) (c + 28) k k n n p s₁ f (omega arith) (omega arith) (omega arith) (ticked E.w b c k n p s f h)))
      (λ flow s₂ f₂ r₂.
      after E.w total (Left E.w b ways c k s₂.turns q) P (loop one_turn s₂) f₂
      (iterated E.w b ways (c + 28) c k s₂.turns q zero.middle one_turn
      (λ n' s₃ f₃ below at₃.
      labels E.w (AfterTurn E.w b ways (c + 28) c k s₂.turns q zero.middle n') (one_turn s₃) b label (c + 28) k n' zero.middle s₃ f₃ zero.second.0 at₃
      (λ g hg same.
      turned E.w b ways inner c k s₂.turns q zero.middle one.middle (three.middle + 1) two.middle n' (condition (setting E.w) E.calls test) (meaning (setting E.w) E.calls body) (meaning (setting E.w) E.calls step) (label + 2) s₃ g
      (first total contents wide).temp (omega (arith, room)) below one.second.0 three.second.1.0 three.second.1.1 refl refl refl
      (condition-sim test total contents (label + 3 + labels_within before) (c + 28) (c + 24) k n' (zero.middle + 1) one.middle s₃ g fit.1 (omega (arith, low)) (omega (arith, room)) (omega arith) one.first hg)
      (λ m s₄ g₄ h₄. statement-sim body total contents inner (label + 3 + labels_within before + labels_in_part test) (c + 52) (k - 1) m (one.middle + 1) two.middle s₄ g₄ fit.3 wide (omega (arith, low)) (omega (arith, room)) (omega (arith, back, room))
      (omega (arith, deep)) stands two.first h₄)
      (λ m s₄ g₄ h₄.
      stepped m s₄ g₄ (λ g₅ h₅. statement-sim step total contents heads (label + 3 + labels_within before + labels_in_part test + labels_within body) (c + 52) (k - 1) m (two.middle + 1) three.middle s₄ g₅ fit.2 wide (omega (arith, low)) (omega (arith, room))
      (omega (arith, deep, room)) (omega (arith, deep)) standing three.first h₅) h₄)
      (λ m s₄ g₄ h₄.
      stepped m s₄ g₄ (λ g₅ h₅. statement-sim step total contents heads (label + 3 + labels_within before + labels_in_part test + labels_within body) (c + 52) (k - 1) m (two.middle + 1) three.middle s₄ g₅ fit.2 wide (omega (arith, low)) (omega (arith, room))
      (omega (arith, deep, room)) (omega (arith, deep)) standing three.first h₅)
      (weaken E.w b (c + 52) (c + 52) (k - 1 + 64) (k - 1) m m two.middle s₄ g₄ (omega arith) (omega arith) (omega arith) h₄))))
      (suc s₂.turns) s₂.turns s₂ f₂ (omega arith) (omega arith) (tighten E.w b (c + 28) k n zero.middle s₂ f₂ (arrives (c + 28) k n zero.middle flow s₂ f₂ refl (omega arith) r₂ (omega arith))))
      (λ flow' s₃ g r. left-less E.w b ways c c k s₂.turns n q flow' s₃ g (omega arith) (arrives (c + 28) k n zero.middle flow s₂ f₂ refl (omega arith) r₂ (omega arith)).turns_left r))
    where
      b : Bounds
      b = whole total contents

      P : Flow → State → FlatState → Type 0
      P = Left E.w b ways c k n q

      s₁ : State
      s₁ = tick (setting E.w) s

      exits₀ : Exits
      exits₀ = record { broken = label; continued = label; returned = label }

      exits₁ : Exits
      exits₁ = record ways.exits { broken = label + 2; continued = label + 1 }

      one_turn : State → Outcome Turn
      one_turn = turn (setting E.w) (condition (setting E.w) E.calls test) (meaning (setting E.w) E.calls body) (meaning (setting E.w) E.calls step)

      step_code : List Op
      step_code = statement_code scope exits₀ top (label + 3 + labels_within before + labels_in_part test + labels_within body) step

      after_step : List Op
      after_step = op.Jump label ∷ op.Label (label + 2) ∷ []

      body_code : List Op
      body_code = statement_code scope exits₁ top (label + 3 + labels_within before + labels_in_part test) body

      test_code : List Op
      test_code = value_or 1 scope top (label + 3 + labels_within before) test

      after_body₁ : List Op
      after_body₁ = op.Label (label + 1) ∷ (step_code ++ after_step)

      after_test : List Op
      after_test = op.JumpZero top (label + 2) ∷ (body_code ++ after_body₁)

      zero : Parts E.w p (statement_code scope exits₀ top (label + 3) before) (op.Label label ∷ (test_code ++ after_test)) q
      zero = split E.w p (statement_code scope exits₀ top (label + 3) before) (op.Label label ∷ (test_code ++ after_test)) q code

      one : Parts E.w (zero.middle + 1) test_code after_test q
      one = split E.w (zero.middle + 1) test_code after_test q zero.second.1

      two : Parts E.w (one.middle + 1) body_code after_body₁ q
      two = split E.w (one.middle + 1) body_code after_body₁ q one.second.1

      three : Parts E.w (two.middle + 1) step_code after_step q
      three = split E.w (two.middle + 1) step_code after_step q two.second.1

      heads : Ways
      heads = record { exits = exits₀; broken_at = zero.middle; continued_at = zero.middle; returned_at = zero.middle; back = k }

      standing : WaysStand E.w heads
      standing = record { broken = zero.second.0; continued = zero.second.0; returned = zero.second.0 }

      inner : Ways
      inner = record { exits = exits₁; broken_at = three.middle + 1; continued_at = two.middle; returned_at = ways.returned_at; back = ways.back }

      stands : WaysStand E.w inner
      stands = record { broken = three.second.1.0; continued = two.second.0; returned = stand.returned }

      -- however the first part is left, the head of the loop comes
      arrives : (c₁ k₁ n₁ place : ℕ) (flow : Flow) (s₂ : State) (g : FlatState) → place ≡ zero.middle → k ≤ k₁ + 64 → Left E.w b heads c₁ k₁ n₁ place flow s₂ g → (k ≤ k₁ → At E.w b c₁ k n₁ zero.middle s₂ g)
      arrives c₁ k₁ n₁ place Completed s₂ g e x r y = subst (λ (t : ℕ). At E.w b c₁ k n₁ t s₂ g) e (weaken E.w b c₁ c₁ k₁ k n₁ n₁ place s₂ g (omega arith) y (omega arith) r)
      arrives c₁ k₁ n₁ place Broke s₂ g e x r y = weaken E.w b c₁ c₁ (k₁ + 64) k n₁ n₁ zero.middle s₂ g (omega arith) x (omega arith) r
      arrives c₁ k₁ n₁ place Continued s₂ g e x r y = weaken E.w b c₁ c₁ (k₁ + 64) k n₁ n₁ zero.middle s₂ g (omega arith) x (omega arith) r
      arrives c₁ k₁ n₁ place (Returned v) s₂ g e x r y = r.at

      At₁ : ℕ → Flow → State → FlatState → Type 0
      At₁ m flow s₂ g' = At E.w b (c + 28) k m zero.middle s₂ g'

      -- the step, and back to the head however it is left
      stepped : (m : ℕ) (s₄ : State) (g : FlatState) →
          ((g₅ : FlatState) → At E.w b (c + 52) (k - 1) m (two.middle + 1) s₄ g₅ → Sim E.w total (meaning (setting E.w) E.calls step s₄) (Left E.w b heads (c + 52) (k - 1) m three.middle) g₅) →
          At E.w b (c + 52) (k - 1) m two.middle s₄ g → Sim E.w total (meaning (setting E.w) E.calls step s₄) (At₁ m) g
      stepped m s₄ g sim at =
          labels E.w (At₁ m) (meaning (setting E.w) E.calls step s₄) b (label + 1) (c + 52) (k - 1) m two.middle s₄ g two.second.0 at
          (λ g₅ h₅ same. follow E.w total (Left E.w b heads (c + 52) (k - 1) m three.middle) (At₁ m) (meaning (setting E.w) E.calls step s₄) g₅ (sim g₅ h₅) onward)
        where
          onward : (flow : Flow) (s₅ : State) (g₆ : FlatState) → Left E.w b heads (c + 52) (k - 1) m three.middle flow s₅ g₆ → Sim E.w total (GoesOn flow s₅) (At₁ m) g₆
          onward Completed s₅ g₆ r =
              jumps E.w (At₁ m) (GoesOn Completed s₅) b label zero.middle (c + 52) (c + 28) (k - 1) m three.middle s₅ g₆ three.second.0 zero.second.0 (omega arith) r
              (λ g₇ h₇ same₇. goes E.w total (At₁ m) Completed s₅ g₇ (weaken E.w b (c + 28) (c + 28) (k - 1 + 64) k m m zero.middle s₅ g₇ (omega arith) (omega arith) (omega arith) h₇))
          onward Broke s₅ g₆ r = goes E.w total (At₁ m) Broke s₅ g₆ (weaken E.w b (c + 52) (c + 28) (k - 1 + 64) k m m zero.middle s₅ g₆ (omega arith) (omega arith) (omega arith) r)
          onward Continued s₅ g₆ r = goes E.w total (At₁ m) Continued s₅ g₆ (weaken E.w b (c + 52) (c + 28) (k - 1 + 64) k m m zero.middle s₅ g₆ (omega arith) (omega arith) (omega arith) r)
          onward (Returned v) s₅ g₆ r = goes E.w total (At₁ m) (Returned v) s₅ g₆ (weaken E.w b (c + 52) (c + 28) k k m m zero.middle s₅ g₆ (omega arith) (omega arith) (omega arith) r.at)
