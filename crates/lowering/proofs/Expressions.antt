-- The code of an expression comes to its value, in the temporary that is given.
use Rattle.std.proofs.Common.{◌≡◌, ℕ, suc, ◌+◌, ◌-◌, ◌<◌, ◌≤◌, Bool, true, false, cond, not, ◌==◌, ◌&&◌, nat_lt, List, [], ◌∷◌, ◌++◌, length, Option, Some, None, arith, refl, sym, ◌∙◌, ap, subst}
use Rattle.std.proofs.lemmas.Bool.{eqb-true, ltb-true}
use Rattle.std.specs.List.{slice_get}
use Rattle.aegis_num.specs.declared.operators.BinaryOp.{BinaryOp}
use Rattle.aegis_num.specs.declared.operators.UnaryOp.TheVariants.{Not}
use Rattle.aegis_num.specs.Operators.{truth, unary, binary, traps, is_division}
use Rattle.c_semantics.specs.ResolvedTree.{Arguments, NoArguments, Argument, Expr, Number, Scalar, Indexed, Called, Input, Unary, Binary, Both, Either}
use Rattle.c_semantics.specs.States as source
use Rattle.c_semantics.specs.States.{State, Outcome, GoesOn, EndsAs, then, choose, tick, within, applied, reading}
use Rattle.c_semantics.specs.Meaning.{Calls, value, values, holds, truth_of}
use Rattle.ir_code.specs.declared.ops.Op.TheVariants as op
use Rattle.ir_code.specs.FlatStates.{Held, Word, FlatState, pick, stuck, fetched}
use Rattle.ir_code.specs.FlatMeaning.{with_given, reading as reading_cell, put}
use Rattle.lowering.specs.Cells.{room_of, room_of_all}
use Rattle.lowering.specs.Lowering.{Scope, labels_in, passing, calling, testing_divisor, value_code, values_code}
use Rattle.lowering.proofs.Relation.{World, setting, Frame, scope_of, IsTemp, FitsFrame, IsVar, Bounds, At, Sim, Spans, Parts, split, goes, bind, follow, after, weaken, ticked, now, narrow, widen}
use Rattle.lowering.proofs.Ops.{Own, Valued, puts, read-own, loads, tests, divides, jumps-at-zero, labels, inputs}
use Rattle.lowering.proofs.Calling.{HoldsDown, Returned, CallableFrom, count_of, room-positive, room-counts, passed, called-by}

-- a function whose code stands in flat code, with the calls that it can make
pub record Env : Type 0 where
  pub w : World
  pub frame : Frame
  pub calls : Calls
  pub fits : FitsFrame w frame

-- Each variable in an expression has its cell, and each call goes to a function that can be called.
abbrev mutual
  pub ExprFits : Env → Expr → Type 0
  ExprFits E (Scalar x) = IsVar E.w E.frame x 1
  ExprFits E (Indexed at x length index) = IsVar E.w E.frame x length × ExprFits E index
  ExprFits E (Called function arguments) = CallableFrom E.w E.frame E.calls function (count_of arguments) × ArgumentsFit E arguments
  ExprFits E (Unary operator inner) = ExprFits E inner
  ExprFits E (Binary at operator left right) = ExprFits E left × ExprFits E right
  ExprFits E (Both left right) = ExprFits E left × ExprFits E right
  ExprFits E (Either left right) = ExprFits E left × ExprFits E right
  ExprFits E other = Unit {0}

  pub ArgumentsFit : Env → Arguments → Type 0
  ArgumentsFit E NoArguments = Unit {0}
  ArgumentsFit E (Argument first later) = ExprFits E first × ArgumentsFit E later

abbrev pub PartFits : Env → Option Expr → Type 0
PartFits E None = Unit {0}
PartFits E (Some e) = ExprFits E e

-- what is kept while a part of the function runs, from this temporary downward
abbrev pub bounds : Env → (total above : ℕ) → (ℕ → Held) → Bounds
bounds E total above contents = record { frame = E.frame; total = total; above = above; contents = contents }

-- arguments have come into temporaries
pub record ValuesAt (w : World) (b : Bounds) (count c k n p : ℕ) (vs : List ℕ) (s : State) (g : FlatState) : Type 0 where
  pub at : At w b c k n p s g
  pub cells : HoldsDown g.cells b.above vs
  pub many : length vs ≡ count

module _ (E : Env) where
  abbrev w : World
  w = E.w

  abbrev scope : Scope
  scope = scope_of E.w E.frame

  pub own : (total above r : ℕ) (contents : ℕ → Held) → E.frame.link < r → r ≤ above → above ≤ E.frame.top → Own E.w (bounds E total above contents) r
  own total above r contents low within high = record { temp = E.fits.temps r (omega (arith, low)) (omega (arith, within, high)); within = within; over = low }

  here : (b : Bounds) (c k n p q v : ℕ) (s : State) (g : FlatState) → p ≡ q → Valued E.w b c k n p v s g → Valued E.w b c k n q v s g
  here b c k n p q v s g e h = subst (λ (x : ℕ). Valued E.w b c k n x v s g) e h

  less : (b : Bounds) (c c' k n p v : ℕ) (s : State) (g : FlatState) → c' ≤ c → Valued E.w b c k n p v s g → Valued E.w b c' k n p v s g
  less b c c' k n p v s g x h = record { at = weaken E.w b c c' k k n n p s g x (omega arith) (omega arith) h.at; cell = h.cell }

  -- the operator of two operands, with the test of its divisor
  operated : (at : ℕ) (operator : BinaryOp) (total above : ℕ) (contents : ℕ → Held) (v u c c' k n p q : ℕ) (s : State) (f : FlatState) →
      E.frame.link + 1 < above → above ≤ E.frame.top → c' + 20 ≤ c → f.cells above 0 ≡ Word v → f.cells (above - 1) 0 ≡ Word u →
      Spans E.w p (testing_divisor operator (above - 1) at ++ (op.Binary operator above above (above - 1) ∷ [])) q → At E.w (bounds E total above contents) c k n p s f →
      Sim E.w total (applied at operator v u s) (Valued E.w (bounds E total above contents) c' k n q) f
  operated at operator total above contents v u c c' k n p q s f low high more left right code h = go (is_division operator) refl code
    where
      b : Bounds
      b = bounds E total above contents

      first : Own E.w b above
      first = own total above above contents (omega (arith, low)) (omega arith) high

      second : IsTemp E.w E.frame.private (above - 1)
      second = E.fits.temps (above - 1) (omega (arith, low)) (omega (arith, high))

      -- where it does not trap
      works : (c₁ p₁ : ℕ) (s₁ : State) (f₁ : FlatState) → c' + 12 ≤ c₁ → traps operator u ≡ false → f₁.cells above 0 ≡ Word v → f₁.cells (above - 1) 0 ≡ Word u →
          Spans E.w p₁ (op.Binary operator above above (above - 1) ∷ []) q → At E.w b c₁ k n p₁ s₁ f₁ → Sim E.w total (GoesOn (binary operator v u) s₁) (Valued E.w b c' k n q) f₁
      works c₁ p₁ s₁ f₁ more₁ safe left₁ right₁ code₁ h₁ =
          puts E.w (Valued E.w b c' k n q) (GoesOn (binary operator v u) s₁) b (op.Binary operator above above (above - 1)) above (binary operator v u) c₁ c' k n p₁ s₁ f₁ code₁.0 more₁ first h₁
          (read-own E.w E.frame.private above v (λ x. reading_cell E.w.is_loose E.w.ir (above - 1) 0 (λ y. pick (traps operator y) stuck (put E.w.ir above (binary operator x y)))) (fetched (op.Binary operator above above (above - 1)) f₁) first.temp h₁.mode left₁
          ∙ read-own E.w E.frame.private (above - 1) u (λ y. pick (traps operator y) stuck (put E.w.ir above (binary operator v y))) (fetched (op.Binary operator above above (above - 1)) f₁) second h₁.mode right₁
          ∙ ap (λ (t : Bool). pick t stuck (put E.w.ir above (binary operator v u)) (fetched (op.Binary operator above above (above - 1)) f₁)) safe)
          (λ g hg cell. goes E.w total (Valued E.w b c' k n q) (binary operator v u) s₁ g (here b c' k n (p₁ + 1) q (binary operator v u) s₁ g code₁.1 (record { at = hg; cell = cell })))

      go : (d : Bool) → is_division operator ≡ d → Spans E.w p (cond d (op.NonZero (above - 1) at ∷ []) [] ++ (op.Binary operator above above (above - 1) ∷ [])) q →
          Sim E.w total (applied at operator v u s) (Valued E.w b c' k n q) f
      go false d code' =
          subst (λ (t : Bool). Sim E.w total (choose (t && u == 0) (EndsAs (source.Divide at)) (GoesOn (binary operator v u)) s) (Valued E.w b c' k n q) f) (sym d)
          (works c p s f (omega (arith, more)) (ap (λ (t : Bool). t && u == 0) d) left right code' h)
      go true d code' =
          subst (λ (t : Bool). Sim E.w total (choose (t && u == 0) (EndsAs (source.Divide at)) (GoesOn (binary operator v u)) s) (Valued E.w b c' k n q) f) (sym d)
          (divides E.w (Valued E.w b c' k n q) (GoesOn (binary operator v u)) b (above - 1) u at c (c' + 12) k n p s f code'.0 (omega (arith, more)) second right h
          (λ z g hg same. works (c' + 12) (p + 1) s g (omega arith) (ap (λ (t : Bool). t && u == 0) d ∙ z) (same above ∙ left) (same (above - 1) ∙ right) code'.1 hg))

  -- a word in its own temporary is replaced by an operator's value of it
  negated : {A : Type 0} (P : A → State → FlatState → Type 0) (out : Outcome A) (total above : ℕ) (contents : ℕ → Held) (v c c' k n p : ℕ) (s : State) (f : FlatState) →
      E.frame.link < above → above ≤ E.frame.top → c' + 8 ≤ c → f.cells above 0 ≡ Word v → slice_get E.w.ir.ops p ≡ Some (op.Unary Not above above) → At E.w (bounds E total above contents) c k n p s f →
      ((g : FlatState) → At E.w (bounds E total above contents) c' k n (p + 1) s g → g.cells above 0 ≡ Word (unary Not v) → Sim E.w total out P g) → Sim E.w total out P f
  negated P out total above contents v c c' k n p s f low high more cell st h later =
      puts E.w P out (bounds E total above contents) (op.Unary Not above above) above (unary Not v) c c' k n p s f st more first h
      (read-own E.w E.frame.private above v (λ x. put E.w.ir above (unary Not x)) (fetched (op.Unary Not above above) f) first.temp h.mode cell) later
    where
      first : Own E.w (bounds E total above contents) above
      first = own total above above contents low (omega arith) high

  twice-not : (t : Bool) → truth (truth t == 0) ≡ truth (not t)
  twice-not true = refl
  twice-not false = refl

  mutual
    pub value-sim : (e : Expr) (total above : ℕ) (contents : ℕ → Held) (label c k n p q : ℕ) (s : State) (f : FlatState) → ExprFits E e →
        E.frame.link + room_of e ≤ above → above ≤ E.frame.top → 1 ≤ k → Spans E.w p (value_code scope above label e) q → At E.w (bounds E total above contents) c k n p s f →
        Sim E.w total (value (setting E.w) E.calls e s) (Valued E.w (bounds E total above contents) c k n q) f
    value-sim (Number word) total above contents label c k n p q s f fit low high room code h =
        puts E.w (Valued E.w b c k n q) (GoesOn word (tick (setting E.w) s)) b (op.Const above word) above word (c + 32) c k n p (tick (setting E.w) s) f code.0 (omega arith)
        (own total above above contents (omega (arith, low)) (omega arith) high) (ticked E.w b c k n p s f h) refl
        (λ g hg cell. goes E.w total (Valued E.w b c k n q) word (tick (setting E.w) s) g (here b c k n (p + 1) q word (tick (setting E.w) s) g code.1 (record { at = hg; cell = cell })))
      where
        b : Bounds
        b = bounds E total above contents
    value-sim (Scalar x) total above contents label c k n p q s f fit low high room code h =
        after E.w total (Valued E.w b c k n (p + 1)) (Valued E.w b c k n q) (value (setting E.w) E.calls (Scalar x) s) f
        (loads E.w b (op.Copy above (E.w.home x.token)) x 1 0 (c + 32) c k n p (tick (setting E.w) s) f code.0 (omega arith)
        (own total above above contents (omega (arith, low)) (omega arith) high) fit (omega arith) (ticked E.w b c k n p s f h) refl)
        (λ v s' g r. here b c k n (p + 1) q v s' g code.1 r)
      where
        b : Bounds
        b = bounds E total above contents
    value-sim (Indexed at x length index) total above contents label c k n p q s f fit low high room code h =
        bind E.w total (Valued E.w b (c + 32) k n m.middle) P (value (setting E.w) E.calls index s₁) (λ i s₂. then (within at length i s₂) (reading (setting E.w) x)) f
        (value-sim index total above contents label (c + 32) k n p m.middle s₁ f fit.1 low high room m.first (ticked E.w b c k n p s f h))
        (λ i s₂ g r.
        bind E.w total (Tested i) P (within at length i s₂) (reading (setting E.w) x) g
        (tests E.w (Tested i) (GoesOn i) b above i length at (c + 32) (c + 20) k n m.middle s₂ g m.second.0 (omega arith) first.temp r.cell r.at
        (λ t g' hg' same. goes E.w total (Tested i) i s₂ g' (refl, t, hg', same above ∙ r.cell)))
        (λ i' s₃ g' r'.
        let below : i' < length = ltb-true i' length (ap (λ (y : ℕ). nat_lt y length) r'.0 ∙ r'.1) in
        after E.w total (Valued E.w b c k n (m.middle + 1 + 1)) P (reading (setting E.w) x i' s₃) g'
        (loads E.w b (op.Load above (E.w.home x.token) above) x length i' (c + 20) c k n (m.middle + 1) s₃ g' m.second.1.0 (omega arith) first fit.0 below r'.2
        (read-own E.w E.frame.private above i' (λ j. reading_cell E.w.is_loose E.w.ir (E.w.home x.token) j (put E.w.ir above)) (fetched (op.Load above (E.w.home x.token) above) g') first.temp (r'.2).mode
        (r'.3 ∙ ap (λ (y : ℕ). Word y) (sym r'.0))))
        (λ v s₄ g'' z. here b c k n (m.middle + 1 + 1) q v s₄ g'' m.second.1.1 z)))
      where
        b : Bounds
        b = bounds E total above contents

        P : ℕ → State → FlatState → Type 0
        P = Valued E.w b c k n q

        s₁ : State
        s₁ = tick (setting E.w) s

        m : Parts E.w p (value_code scope above label index) (op.Test above length at ∷ op.Load above (E.w.home x.token) above ∷ []) q
        m = split E.w p (value_code scope above label index) (op.Test above length at ∷ op.Load above (E.w.home x.token) above ∷ []) q code

        first : Own E.w b above
        first = own total above above contents (let y : 1 ≤ room_of index = room-positive index in omega (arith, low, y)) (omega arith) high

        Tested : ℕ → ℕ → State → FlatState → Type 0
        Tested i i' s₃ g = (i' ≡ i) × (nat_lt i length ≡ true) × At E.w b (c + 20) k n (m.middle + 1) s₃ g × (g.cells above 0 ≡ Word i)
    value-sim (Called function arguments) total above contents label c k n p q s f fit low high room code h =
        bind E.w total (ValuesAt E.w b (count_of arguments) (c + 32) k n one.middle) P (values (setting E.w) E.calls arguments s₁) (E.calls function) f
        (values-sim arguments total above contents label (c + 32) k n p one.middle s₁ f fit.1 low high room one.first (ticked E.w b c k n p s f h))
        (λ vs s₂ g r.
        passed E.w P (E.calls function vs s₂) b arguments vs 0 above (c + 32) (c + 20) k n one.middle two.middle s₂ g E.fits r.many (omega (arith, few)) low high (omega (arith, few)) r.cells two.first r.at
        (λ g' hg' same slots kept. follow E.w total (Returned E.w b (c + 2) k n three.middle) P (E.calls function vs s₂) g'
        (called-by E.w b function (count_of arguments) (c + 20) (c + 2) k n two.middle three.middle vs s₂ g' E.calls E.frame.private (E.w.is_private function)
        (λ y. record { limit = fit.0.limit; below = fit.0.below; callable = fit.0.callable }) r.many refl refl (omega (arith, low)) room (omega arith) three.first slots hg') done))
      where
        b : Bounds
        b = bounds E total above contents

        P : ℕ → State → FlatState → Type 0
        P = Valued E.w b c k n q

        s₁ : State
        s₁ = tick (setting E.w) s

        few : count_of arguments ≤ 6
        few = fit.0.callable.few

        one : Parts E.w p (values_code scope above label arguments) (passing 0 above arguments ++ (calling scope function ++ (op.Result above ∷ []))) q
        one = split E.w p (values_code scope above label arguments) (passing 0 above arguments ++ (calling scope function ++ (op.Result above ∷ []))) q code

        two : Parts E.w one.middle (passing 0 above arguments) (calling scope function ++ (op.Result above ∷ [])) q
        two = split E.w one.middle (passing 0 above arguments) (calling scope function ++ (op.Result above ∷ [])) q one.second

        three : Parts E.w two.middle (calling scope function) (op.Result above ∷ []) q
        three = split E.w two.middle (calling scope function) (op.Result above ∷ []) q two.second

        first : Own E.w b above
        first = own total above above contents (let y : count_of arguments + 1 ≤ room_of_all arguments = room-counts arguments in omega (arith, low, y)) (omega arith) high

        done : (v : ℕ) (s₄ : State) (g' : FlatState) → Returned E.w b (c + 2) k n three.middle v s₄ g' → Sim E.w total (GoesOn v s₄) P g'
        done v s₄ g' r =
            puts E.w P (GoesOn v s₄) b (op.Result above) above v (c + 2) c k n three.middle s₄ g' three.second.0 (omega arith) first r.at
            (ap (λ (y : Option ℕ). with_given y (put E.w.ir above) (fetched (op.Result above) g')) r.result)
            (λ g'' hg cell. goes E.w total P v s₄ g'' (here b c k n (three.middle + 1) q v s₄ g'' three.second.1 (record { at = hg; cell = cell })))
    value-sim Input total above contents label c k n p q s f fit low high room code h =
        after E.w total (Valued E.w b c k n (p + 1)) (Valued E.w b c k n q) (value (setting E.w) E.calls Input s) f
        (inputs E.w b (c + 32) c k n p (tick (setting E.w) s) f code.0 (omega arith) (own total above above contents (omega (arith, low)) (omega arith) high) (ticked E.w b c k n p s f h))
        (λ v s' g r. here b c k n (p + 1) q v s' g code.1 r)
      where
        b : Bounds
        b = bounds E total above contents
    value-sim (Unary operator inner) total above contents label c k n p q s f fit low high room code h =
        bind E.w total (Valued E.w b (c + 32) k n m.middle) P (value (setting E.w) E.calls inner s₁) (λ v. GoesOn (unary operator v)) f
        (value-sim inner total above contents label (c + 32) k n p m.middle s₁ f fit low high room m.first (ticked E.w b c k n p s f h))
        (λ v s₂ g r.
        puts E.w P (GoesOn (unary operator v) s₂) b (op.Unary operator above above) above (unary operator v) (c + 32) c k n m.middle s₂ g m.second.0 (omega arith) first r.at
        (read-own E.w E.frame.private above v (λ x. put E.w.ir above (unary operator x)) (fetched (op.Unary operator above above) g) first.temp (r.at).mode r.cell)
        (λ g' hg cell. goes E.w total P (unary operator v) s₂ g' (here b c k n (m.middle + 1) q (unary operator v) s₂ g' m.second.1 (record { at = hg; cell = cell }))))
      where
        b : Bounds
        b = bounds E total above contents

        P : ℕ → State → FlatState → Type 0
        P = Valued E.w b c k n q

        s₁ : State
        s₁ = tick (setting E.w) s

        m : Parts E.w p (value_code scope above label inner) (op.Unary operator above above ∷ []) q
        m = split E.w p (value_code scope above label inner) (op.Unary operator above above ∷ []) q code

        first : Own E.w b above
        first = own total above above contents (let y : 1 ≤ room_of inner = room-positive inner in omega (arith, low, y)) (omega arith) high
    value-sim (Binary at operator left right) total above contents label c k n p q s f fit low high room code h =
        bind E.w total (Valued E.w b (c + 32) k n one.middle) P (value (setting E.w) E.calls left s₁) (λ v s₂. then (value (setting E.w) E.calls right s₂) (applied at operator v)) f
        (value-sim left total above contents label (c + 32) k n p one.middle s₁ f fit.0 (omega (arith, low)) high room one.first (ticked E.w b c k n p s f h))
        (λ v s₂ g r.
        bind E.w total (Valued E.w (now b (above - 1) g) (c + 32) k n two.middle) P (value (setting E.w) E.calls right s₂) (applied at operator v) g
        (value-sim right total (above - 1) (λ x. g.cells x 0) (label + labels_in left) (c + 32) k n one.middle two.middle s₂ g fit.1 (omega (arith, low)) (omega (arith, high)) room two.first
        (narrow E.w b (above - 1) (c + 32) k n one.middle s₂ g r.at))
        (λ u s₃ g' r'.
        operated at operator total above contents v u (c + 32) c k n two.middle q s₃ g' (omega (arith, low, some)) high (omega arith) ((r'.at).kept above (omega (arith, low, some)) ∙ r.cell) r'.cell two.second
        (widen E.w b (above - 1) (c + 32) k n one.middle (c + 32) k n two.middle s₂ s₃ g g' (omega arith) r.at r'.at)))
      where
        b : Bounds
        b = bounds E total above contents

        P : ℕ → State → FlatState → Type 0
        P = Valued E.w b c k n q

        s₁ : State
        s₁ = tick (setting E.w) s

        some : 1 ≤ room_of right
        some = room-positive right

        one : Parts E.w p (value_code scope above label left) (value_code scope (above - 1) (label + labels_in left) right ++ (testing_divisor operator (above - 1) at ++ (op.Binary operator above above (above - 1) ∷ []))) q
        one = split E.w p (value_code scope above label left) (value_code scope (above - 1) (label + labels_in left) right ++ (testing_divisor operator (above - 1) at ++ (op.Binary operator above above (above - 1) ∷ []))) q code

        two : Parts E.w one.middle (value_code scope (above - 1) (label + labels_in left) right) (testing_divisor operator (above - 1) at ++ (op.Binary operator above above (above - 1) ∷ [])) q
        two = split E.w one.middle (value_code scope (above - 1) (label + labels_in left) right) (testing_divisor operator (above - 1) at ++ (op.Binary operator above above (above - 1) ∷ [])) q one.second
    value-sim (Both left right) total above contents label c k n p q s f fit low high room code h =
        bind E.w total (Valued E.w b (c + 32) k n one.middle) P (value (setting E.w) E.calls left s₁) (λ v. choose (holds v) (λ s₂. then (value (setting E.w) E.calls right s₂) truth_of) (GoesOn 0)) f
        (value-sim left total above contents (label + 1) (c + 32) k n p one.middle s₁ f fit.0 (omega (arith, low)) high room one.first (ticked E.w b c k n p s f h))
        (λ v s₂ g r.
        jumps-at-zero E.w P (choose (holds v) (λ s₃. then (value (setting E.w) E.calls right s₃) truth_of) (GoesOn 0) s₂) b label (two.middle + 1 + 1) above v (c + 32) (c + 28) k n one.middle s₂ g one.second.0 two.second.1.1.0 (omega arith)
        first.temp r.cell r.at
        (λ z g' hg' same.
        subst (λ (t : Bool). Sim E.w total (choose (not t) (λ s₃. then (value (setting E.w) E.calls right s₃) truth_of) (GoesOn 0) s₂) P g') (sym z)
        (last 0 s₂ g' (weaken E.w b (c + 28) c (k + 64) k n n (two.middle + 1 + 1) s₂ g' (omega arith) (omega arith) (omega arith) hg') (same above ∙ r.cell ∙ ap (λ (y : ℕ). Word y) (eqb-true v 0 z))))
        (λ z g' hg' same.
        subst (λ (t : Bool). Sim E.w total (choose (not t) (λ s₃. then (value (setting E.w) E.calls right s₃) truth_of) (GoesOn 0) s₂) P g') (sym z)
        (bind E.w total (Valued E.w b (c + 28) k n two.middle) P (value (setting E.w) E.calls right s₂) truth_of g'
        (value-sim right total above contents (label + 1 + labels_in left) (c + 28) k n (one.middle + 1) two.middle s₂ g' fit.1 (omega (arith, low)) high room two.first hg')
        (λ u s₃ g'' r''.
        negated P (truth_of u s₃) total above contents u (c + 28) (c + 20) k n two.middle s₃ g'' (omega (arith, first.over)) high (omega arith) r''.cell two.second.0 r''.at
        (λ h₁ at₁ cell₁. negated P (truth_of u s₃) total above contents (unary Not u) (c + 20) c k n (two.middle + 1) s₃ h₁ (omega (arith, first.over)) high (omega arith) cell₁ two.second.1.0 at₁
        (λ h₂ at₂ cell₂. last (truth (holds u)) s₃ h₂ at₂ (cell₂ ∙ ap (λ (y : ℕ). Word y) (twice-not (u == 0)))))))))
      where
        b : Bounds
        b = bounds E total above contents

        P : ℕ → State → FlatState → Type 0
        P = Valued E.w b c k n q

        s₁ : State
        s₁ = tick (setting E.w) s

        one : Parts E.w p (value_code scope above (label + 1) left) (op.JumpZero above label ∷ (value_code scope above (label + 1 + labels_in left) right ++ (op.Unary Not above above ∷ op.Unary Not above above ∷ op.Label label ∷ []))) q
        one = split E.w p (value_code scope above (label + 1) left) (op.JumpZero above label ∷ (value_code scope above (label + 1 + labels_in left) right ++ (op.Unary Not above above ∷ op.Unary Not above above ∷ op.Label label ∷ []))) q code

        two : Parts E.w (one.middle + 1) (value_code scope above (label + 1 + labels_in left) right) (op.Unary Not above above ∷ op.Unary Not above above ∷ op.Label label ∷ []) q
        two = split E.w (one.middle + 1) (value_code scope above (label + 1 + labels_in left) right) (op.Unary Not above above ∷ op.Unary Not above above ∷ op.Label label ∷ []) q one.second.1

        first : Own E.w b above
        first = own total above above contents (let y : 1 ≤ room_of left = room-positive left in omega (arith, low, y)) (omega arith) high

        last : (v : ℕ) (s₃ : State) (g : FlatState) → At E.w b c k n (two.middle + 1 + 1) s₃ g → g.cells above 0 ≡ Word v → Sim E.w total (GoesOn v s₃) P g
        last v s₃ g at cell =
            labels E.w P (GoesOn v s₃) b label c k n (two.middle + 1 + 1) s₃ g two.second.1.1.0 at
            (λ g' hg' same. goes E.w total P v s₃ g' (here b c k n (two.middle + 1 + 1 + 1) q v s₃ g' two.second.1.1.1 (record { at = hg'; cell = same above ∙ cell })))
    value-sim (Either left right) total above contents label c k n p q s f fit low high room code h =
        bind E.w total (Valued E.w b (c + 32) k n one.middle) P (value (setting E.w) E.calls left s₁) (λ v. choose (holds v) (GoesOn 1) (λ s₂. then (value (setting E.w) E.calls right s₂) truth_of)) f
        (value-sim left total above contents (label + 1) (c + 32) k n p one.middle s₁ f fit.0 (omega (arith, low)) high room one.first (ticked E.w b c k n p s f h))
        (λ v s₂ g r.
        negated P (choose (holds v) (GoesOn 1) (λ s₃. then (value (setting E.w) E.calls right s₃) truth_of) s₂) total above contents v (c + 32) (c + 24) k n one.middle s₂ g first.over high (omega arith) r.cell one.second.0 r.at
        (λ g₁ at₁ cell₁. choosing v s₂ g₁ at₁ (v == 0) cell₁
        (λ g' hg'. value-sim right total above contents (label + 1 + labels_in left) (c + 20) k n (one.middle + 1 + 1) two.middle s₂ g' fit.1 (omega (arith, low)) high room two.first hg')))
      where
        b : Bounds
        b = bounds E total above contents

        P : ℕ → State → FlatState → Type 0
        P = Valued E.w b c k n q

        s₁ : State
        s₁ = tick (setting E.w) s

        one : Parts E.w p (value_code scope above (label + 1) left) (op.Unary Not above above ∷ op.JumpZero above label ∷ (value_code scope above (label + 1 + labels_in left) right ++ (op.Unary Not above above ∷ op.Label label ∷ op.Unary Not above above ∷ []))) q
        one = split E.w p (value_code scope above (label + 1) left) (op.Unary Not above above ∷ op.JumpZero above label ∷ (value_code scope above (label + 1 + labels_in left) right ++ (op.Unary Not above above ∷ op.Label label ∷ op.Unary Not above above ∷ []))) q code

        two : Parts E.w (one.middle + 1 + 1) (value_code scope above (label + 1 + labels_in left) right) (op.Unary Not above above ∷ op.Label label ∷ op.Unary Not above above ∷ []) q
        two = split E.w (one.middle + 1 + 1) (value_code scope above (label + 1 + labels_in left) right) (op.Unary Not above above ∷ op.Label label ∷ op.Unary Not above above ∷ []) q one.second.1.1

        first : Own E.w b above
        first = own total above above contents (let y : 1 ≤ room_of left = room-positive left in omega (arith, low, y)) (omega arith) high

        -- from the label on, where the word is the truth of a test
        last : (t : Bool) (v : ℕ) (s₃ : State) (g : FlatState) → truth (not t) ≡ v → At E.w b (c + 8) k n (two.middle + 1) s₃ g → g.cells above 0 ≡ Word (truth t) → Sim E.w total (GoesOn v s₃) P g
        last t v s₃ g e at cell =
            labels E.w P (GoesOn v s₃) b label (c + 8) k n (two.middle + 1) s₃ g two.second.1.0 at
            (λ g' hg' same. negated P (GoesOn v s₃) total above contents (truth t) (c + 8) c k n (two.middle + 1 + 1) s₃ g' first.over high (omega arith) (same above ∙ cell) two.second.1.1.0 hg'
            (λ g₂ at₂ cell₂. goes E.w total P v s₃ g₂ (here b c k n (two.middle + 1 + 1 + 1) q v s₃ g₂ two.second.1.1.1 (record { at = at₂; cell = cell₂ ∙ ap (λ (y : ℕ). Word y) (twice-not t ∙ e) }))))

        choosing : (v : ℕ) (s₂ : State) (g : FlatState) → At E.w b (c + 24) k n (one.middle + 1) s₂ g → (t : Bool) → g.cells above 0 ≡ Word (truth t) →
            ((g' : FlatState) → At E.w b (c + 20) k n (one.middle + 1 + 1) s₂ g' → Sim E.w total (value (setting E.w) E.calls right s₂) (Valued E.w b (c + 20) k n two.middle) g') →
            Sim E.w total (choose (not t) (GoesOn 1) (λ s₃. then (value (setting E.w) E.calls right s₃) truth_of) s₂) P g
        choosing v s₂ g at true cell later =
            jumps-at-zero E.w P (then (value (setting E.w) E.calls right s₂) truth_of) b label (two.middle + 1) above 1 (c + 24) (c + 20) k n (one.middle + 1) s₂ g one.second.1.0 two.second.1.0 (omega arith) first.temp cell at
            (λ z. absurd (omega (arith, eqb-true 1 0 z)))
            (λ z g' hg' same.
            bind E.w total (Valued E.w b (c + 20) k n two.middle) P (value (setting E.w) E.calls right s₂) truth_of g'
            (later g' hg')
            (λ u s₃ g'' r''. negated P (truth_of u s₃) total above contents u (c + 20) (c + 8) k n two.middle s₃ g'' first.over high (omega arith) r''.cell two.second.0 r''.at
            (λ h₁ at₁ cell₁. last (u == 0) (truth (holds u)) s₃ h₁ refl at₁ cell₁)))
        choosing v s₂ g at false cell later =
            jumps-at-zero E.w P (GoesOn 1 s₂) b label (two.middle + 1) above 0 (c + 24) (c + 20) k n (one.middle + 1) s₂ g one.second.1.0 two.second.1.0 (omega arith) first.temp cell at
            (λ z g' hg' same. last false 1 s₂ g' refl (weaken E.w b (c + 20) (c + 8) (k + 64) k n n (two.middle + 1) s₂ g' (omega arith) (omega arith) (omega arith) hg') (same above ∙ cell))
            (λ z. absurd (grind arith))

    pub values-sim : (arguments : Arguments) (total above : ℕ) (contents : ℕ → Held) (label c k n p q : ℕ) (s : State) (f : FlatState) → ArgumentsFit E arguments →
        E.frame.link + room_of_all arguments ≤ above → above ≤ E.frame.top → 1 ≤ k → Spans E.w p (values_code scope above label arguments) q → At E.w (bounds E total above contents) c k n p s f →
        Sim E.w total (values (setting E.w) E.calls arguments s) (ValuesAt E.w (bounds E total above contents) (count_of arguments) c k n q) f
    values-sim NoArguments total above contents label c k n p q s f fit low high room code h =
        goes E.w total (ValuesAt E.w (bounds E total above contents) 0 c k n q) [] s f
        (record { at = subst (λ (x : ℕ). At E.w (bounds E total above contents) c k n x s f) code h; cells = tt; many = refl })
    values-sim (Argument first later) total above contents label c k n p q s f fit low high room code h =
        bind E.w total (Valued E.w b c k n m.middle) P (value (setting E.w) E.calls first s) (λ v s₁. then (values (setting E.w) E.calls later s₁) (λ vs. GoesOn (v ∷ vs))) f
        (value-sim first total above contents label c k n p m.middle s f fit.0 (omega (arith, low)) high room m.first h)
        (λ v s₁ g r.
        bind E.w total (ValuesAt E.w (now b (above - 1) g) (count_of later) c k n q) P (values (setting E.w) E.calls later s₁) (λ vs. GoesOn (v ∷ vs)) g
        (values-sim later total (above - 1) (λ x. g.cells x 0) (label + labels_in first) c k n m.middle q s₁ g fit.1 (omega (arith, low)) (omega (arith, high)) room m.second
        (narrow E.w b (above - 1) c k n m.middle s₁ g r.at))
        (λ vs s₂ g' r'. goes E.w total P (v ∷ vs) s₂ g' (record {
          at = widen E.w b (above - 1) c k n m.middle c k n q s₁ s₂ g g' (omega arith) r.at r'.at;
          cells = ((r'.at).kept above (omega (arith, low, some)) ∙ r.cell, r'.cells);
          many = ap suc r'.many;
        })))
      where
        b : Bounds
        b = bounds E total above contents

        P : List ℕ → State → FlatState → Type 0
        P = ValuesAt E.w b (suc (count_of later)) c k n q

        some : 1 ≤ room_of first
        some = room-positive first

        m : Parts E.w p (value_code scope above label first) (values_code scope (above - 1) (label + labels_in first) later) q
        m = split E.w p (value_code scope above label first) (values_code scope (above - 1) (label + labels_in first) later) q code
