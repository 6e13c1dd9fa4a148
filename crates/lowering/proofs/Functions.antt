-- The code of a function does what a call of it means, and goes back to where it was called.
use Rattle.std.proofs.Common.{◌≡◌, ℕ, ◌+◌, ◌-◌, ◌*◌, ◌<◌, ◌≤◌, Bool, true, false, ◌==◌, List, [], ◌∷◌, ◌++◌, length, Option, Some, arith, refl, sym, ◌∙◌, ap, subst}
use Rattle.std.proofs.lemmas.Bool.{eqb-true, eq-eqb}
use Rattle.aegis_num.specs.declared.limits.TheConstants.{MAX_PARAMETERS}
use Rattle.regions.specs.declared.rights.Access.TheVariants.{Read, Write}
use Rattle.regions.specs.Rights.{rights}
use Rattle.c_semantics.specs.declared.tree.Variable.{Variable}
use Rattle.c_semantics.specs.ResolvedTree.{Function}
use Rattle.c_semantics.specs.States as source
use Rattle.c_semantics.specs.States.{State, Outcome, GoesOn, EndsAs, then, choose, tick}
use Rattle.c_semantics.specs.Meaning.{Calls, Flow, Completed, Broke, Continued, Returned, meaning, result_of, given, function_meaning, with_function}
use Rattle.ir_code.specs.declared.ops.Op.{Op}
use Rattle.ir_code.specs.declared.ops.Op.TheVariants as op
use Rattle.ir_code.specs.FlatStates.{Held, Word, Link, FlatState, class_of, mode_of, fetched}
use Rattle.ir_code.specs.FlatMeaning.{with_given, put}
use Rattle.lowering.specs.Cells.{room_in}
use Rattle.lowering.specs.Lowering.{Scope, Exits, taking, statement_code, function_code}
use Rattle.lowering.proofs.Relation.{World, setting, scope_of, IsVar, IsWritable, Bounds, At, Sim, Spans, Parts, split, goes, bind, weaken}
use Rattle.lowering.proofs.Ops.{puts, labels, writes, begins, saves, hands, returns}
use Rattle.lowering.proofs.Calling as call
use Rattle.lowering.proofs.Calling.{SlotsHold, Callable}
use Rattle.lowering.proofs.Expressions.{Env, own}
use Rattle.lowering.proofs.Statements.{IsTarget, StmtFits, loops_in, Ways, WaysStand, Left, whole, statement-sim}

abbrev pub ParametersFit : Env → List Variable → Type 0
ParametersFit E [] = Unit {0}
ParametersFit E (x ∷ xs) = IsTarget E x 1 × ParametersFit E xs

-- what is wanted of a function
pub record FunctionFits (E : Env) (f : Function) : Type 0 where
  pub private : E.frame.private ≡ f.private
  pub few : length f.parameters ≤ MAX_PARAMETERS
  pub parameters : ParametersFit E f.parameters
  pub body : StmtFits E f.body
  pub loops : loops_in f.body ≤ 64
  pub top : E.frame.top ≡ E.frame.link + room_in f.body
  pub room : 1 ≤ room_in f.body

module _ (E : Env) where
  abbrev scope : Scope
  scope = scope_of E.w E.frame

  -- a variable of a function, with what its caller has to keep
  lent : (b : Bounds) (x : Variable) → b.frame.private ≡ E.frame.private → E.frame.link ≤ b.frame.link → IsVar E.w E.frame x 1 → IsVar E.w b.frame x 1
  lent b x same low v = record {
    words = v.words;
    loose = v.loose;
    shared = v.shared;
    readable = subst (λ (t : Bool). IsTrueRead t) (sym same) v.readable;
    below = omega (arith, v.below, low);
    known = v.known;
  }
    where
      IsTrueRead : Bool → Type 0
      IsTrueRead t = rights (mode_of t) (class_of E.w.ir (E.w.home x.token)) Read ≡ true

  lent-write : (b : Bounds) (x : Variable) → b.frame.private ≡ E.frame.private → IsWritable E.w E.frame x → IsWritable E.w b.frame x
  lent-write b x same v = subst (λ (t : Bool). IsTrueWrite t) (sym same) v
    where
      IsTrueWrite : Bool → Type 0
      IsTrueWrite t = rights (mode_of t) (class_of E.w.ir (E.w.home x.token)) Write ≡ true

  -- the parameters get their words
  taken : {A : Type 0} (P : A → State → FlatState → Type 0) (out : Outcome A) (b : Bounds) (xs : List Variable) (vs : List ℕ) (i ret c c' k n p q : ℕ) (s : State) (f : FlatState) →
      length vs ≡ length xs → ParametersFit E xs → b.frame.private ≡ E.frame.private → E.frame.link ≤ b.frame.link → E.frame.link ≤ b.above → c' + 2 * length xs ≤ c → SlotsHold f.slots i vs → f.link ≡ Some ret →
      Spans E.w p (taking scope i xs) q → At E.w b c k n p s f →
      ((g : FlatState) → At E.w b c' k n q (given (setting E.w) xs vs s) g → g.link ≡ Some ret → Sim E.w b.total out P g) → Sim E.w b.total out P f
  taken P out b [] vs i ret c c' k n p q s f many fit same low above more slots link code h later =
      later f (subst (λ (x : ℕ). At E.w b c' k n x (given (setting E.w) [] vs s) f) code (weaken E.w b c c' k k n n p s f (omega (arith, more)) (omega arith) (omega arith) h)) link
  taken P out b (x ∷ xs) [] i ret c c' k n p q s f many fit same low above more slots link code h later = absurd (omega (arith, many))
  taken P out b (x ∷ xs) (v ∷ vs) i ret c c' k n p q s f many fit same low above more slots link code h later =
      writes E.w P out b (op.Param (E.w.home x.token) i) x 1 0 v c (c' + 2 * length xs) k n p s f code.0 (omega (arith, more)) (lent b x same low fit.0.var) (lent-write b x same fit.0.writable) (omega arith)
      (omega (arith, fit.0.var.below, above)) h
      (ap (λ (y : Option ℕ). with_given y (put E.w.ir (E.w.home x.token)) (fetched (op.Param (E.w.home x.token) i) f)) slots.0)
      (λ g hg slots' link'. taken P out b xs vs (i + 1) ret (c' + 2 * length xs) c' k n (p + 1) q (source.writing (setting E.w) x 0 v s) g (omega (arith, many)) fit.1 same low above (omega arith)
      (subst (λ (t : ℕ → Option ℕ). SlotsHold t (i + 1) vs) (sym slots') slots.1) (link' ∙ link) code.1 hg later)

  -- a function runs, from its label until it is back
  pub function-sim : (f : Function) (number label entry q : ℕ) (b : Bounds) (c k n ret : ℕ) (words : List ℕ) (s : State) (g : FlatState) → FunctionFits E f →
      Spans E.w entry (function_code scope number E.frame.link label f) q → length words ≡ length f.parameters → b.frame.private ≡ E.frame.private →
      E.frame.top ≤ b.above → E.frame.top < b.frame.link → 65 ≤ k → At E.w b (c + 11 + 2 * length f.parameters) k n entry (tick (setting E.w) s) g → g.link ≡ Some ret → SlotsHold g.slots 0 words →
      Sim E.w b.total (function_meaning (setting E.w) E.calls f words s) (call.Returned E.w b c k n ret) g
  function-sim f number label entry q b c k n ret words s g fit code many same above below room h link slots =
      begins E.w P out b number (c + 11 + 2 * length f.parameters) k n entry s₁ g code.0 h
      (λ g₁ h₁ slots₁ link₁ result₁ cells₁.
      taken P out b f.parameters words 0 ret (c + 11 + 2 * length f.parameters) (c + 11) k n (entry + 1) one.middle s₁ g₁ many fit.parameters same (omega (arith, below, fit.top)) (omega (arith, above, fit.top)) (omega arith)
      (subst (λ (t : ℕ → Option ℕ). SlotsHold t 0 words) (sym slots₁) slots) (link₁ ∙ link) one.first h₁
      (λ g₂ h₂ link₂.
      saves E.w P out b E.frame ret (c + 11) (c + 9) k n one.middle s₂ g₂ one.second.0 (omega arith) E.fits (omega (arith, fit.top)) same link₂ h₂
      (λ g₃ h₃ kept₃ cells₃.
      bind E.w b.total (Left E.w (whole E b.total (λ x. g₃.cells x 0)) ways (c + 9) k n two.middle) P (meaning (setting E.w) E.calls f.body s₂) (λ flow. GoesOn (result_of flow)) g₃
      (statement-sim E f.body b.total (λ x. g₃.cells x 0) ways (label + 2) (c + 9) k n (one.middle + 1) two.middle s₂ g₃ fit.body (omega (arith, fit.top, fit.room)) (omega (arith, fit.top)) (omega (arith, fit.loops, room))
      (omega (arith, fit.loops, room)) fit.loops stands two.first h₃)
      (λ flow s₃ g₄ r. ended (λ x. g₃.cells x 0) kept₃ (restored g₂ g₃ h₂ cells₃) flow s₃ g₄ r))))
    where
      P : ℕ → State → FlatState → Type 0
      P = call.Returned E.w b c k n ret

      out : Outcome ℕ
      out = function_meaning (setting E.w) E.calls f words s

      s₁ : State
      s₁ = tick (setting E.w) s

      s₂ : State
      s₂ = given (setting E.w) f.parameters words s₁

      top : ℕ
      top = E.frame.top

      exits : Exits
      exits = record { broken = label + 1; continued = label + 1; returned = label }

      finish : List Op
      finish = op.Label (label + 1) ∷ op.Const top 0 ∷ op.Label label ∷ op.SetResult top ∷ op.Return E.frame.link ∷ []

      body_code : List Op
      body_code = statement_code scope exits top (label + 2) f.body

      code' : Spans E.w (entry + 1) (taking scope 0 f.parameters ++ (op.SaveLink E.frame.link ∷ (body_code ++ finish))) q
      code' =
          subst (λ (t : ℕ). Spans E.w (entry + 1) (taking scope 0 f.parameters ++ (op.SaveLink E.frame.link ∷ (statement_code scope exits t (label + 2) f.body
          ++ (op.Label (label + 1) ∷ op.Const t 0 ∷ op.Label label ∷ op.SetResult t ∷ op.Return E.frame.link ∷ [])))) q) (sym fit.top) code.1

      one : Parts E.w (entry + 1) (taking scope 0 f.parameters) (op.SaveLink E.frame.link ∷ (body_code ++ finish)) q
      one = split E.w (entry + 1) (taking scope 0 f.parameters) (op.SaveLink E.frame.link ∷ (body_code ++ finish)) q code'

      two : Parts E.w (one.middle + 1) body_code finish q
      two = split E.w (one.middle + 1) body_code finish q one.second.1

      ways : Ways
      ways = record { exits = exits; broken_at = two.middle; continued_at = two.middle; returned_at = two.middle + 1 + 1; back = k - 64 }

      stands : WaysStand E.w ways
      stands = record { broken = two.second.0; continued = two.second.0; returned = two.second.1.1.0 }

      -- what was to be kept for the caller is still there after the link was saved
      restored : (g₂ g₃ : FlatState) → At E.w b (c + 11) k n one.middle s₂ g₂ → ((x : ℕ) → E.frame.link < x → g₃.cells x 0 ≡ g₂.cells x 0) →
          ((x : ℕ) → b.above < x → g₃.cells x 0 ≡ b.contents x) × (g₃.cells b.frame.link 0 ≡ b.contents b.frame.link)
      restored g₂ g₃ h₂ cells =
          ((λ x y. cells x (omega (arith, y, above, fit.top)) ∙ h₂.kept x y), cells b.frame.link (omega (arith, below, fit.top)) ∙ h₂.link_kept)

      -- from the label of the return on
      back : (contents : ℕ → Held) → contents E.frame.link ≡ Link ret → ((x : ℕ) → b.above < x → contents x ≡ b.contents x) × (contents b.frame.link ≡ b.contents b.frame.link) →
          (v : ℕ) (s₃ : State) (g₄ : FlatState) → At E.w (whole E b.total contents) (c + 5) (k - 64) n (two.middle + 1 + 1) s₃ g₄ → g₄.cells top 0 ≡ Word v → Sim E.w b.total (GoesOn v s₃) P g₄
      back contents linked caller v s₃ g₄ at cell =
          labels E.w P (GoesOn v s₃) b' label (c + 5) (k - 64) n (two.middle + 1 + 1) s₃ g₄ two.second.1.1.0 at
          (λ g₅ h₅ cells₅.
          hands E.w P (GoesOn v s₃) b' top v (c + 5) (c + 3) (k - 64) n (two.middle + 1 + 1 + 1) s₃ g₅ two.second.1.1.1.0 (omega arith) (E.fits.temps top (omega (arith, fit.top)) (omega arith)) (cells₅ top ∙ cell) h₅
          (λ g₆ h₆ cells₆ result₆.
          returns E.w P (GoesOn v s₃) b' ret (c + 3) c (k - 64) n (two.middle + 1 + 1 + 1 + 1) s₃ g₆ two.second.1.1.1.1.0 (omega arith) (E.fits.temps E.frame.link (omega arith) (omega (arith, fit.top))) (h₆.link_kept ∙ linked) h₆
          (λ g₇ h₇ cells₇ result₇. goes E.w b.total P v s₃ g₇ (record {
            at = record {
              at_place = h₇.at_place;
              traffic = h₇.traffic;
              memory = h₇.memory;
              kept = λ x y. h₇.kept x (omega (arith, y, above)) ∙ caller.0 x y;
              link_kept = h₇.kept b.frame.link below ∙ caller.1;
              mode = h₇.mode ∙ sym same;
              paid = h₇.paid;
              spared = (let y : b.total + (k - 64 + 64) ≤ s₃.turns + 64 * g₇.jumps + 64 = h₇.spared in omega (arith, y, room));
              turns_left = h₇.turns_left;
            };
            result = result₇ ∙ result₆;
          }))))
        where
          b' : Bounds
          b' = whole E b.total contents

      -- where the body comes to its end, or a jump out of a loop that is not there
      runs_out : (contents : ℕ → Held) → contents E.frame.link ≡ Link ret → ((x : ℕ) → b.above < x → contents x ≡ b.contents x) × (contents b.frame.link ≡ b.contents b.frame.link) →
          (k₁ : ℕ) → k ≤ k₁ → (s₃ : State) (g₄ : FlatState) → At E.w (whole E b.total contents) (c + 9) k₁ n two.middle s₃ g₄ → Sim E.w b.total (GoesOn 0 s₃) P g₄
      runs_out contents linked caller k₁ more s₃ g₄ at =
          labels E.w P (GoesOn 0 s₃) b' (label + 1) (c + 9) k₁ n two.middle s₃ g₄ two.second.0 at
          (λ g₅ h₅ cells₅.
          puts E.w P (GoesOn 0 s₃) b' (op.Const top 0) top 0 (c + 9) (c + 5) k₁ n (two.middle + 1) s₃ g₅ two.second.1.0 (omega arith) (own E b.total top top contents (omega (arith, fit.top, fit.room)) (omega arith) (omega arith)) h₅ refl
          (λ g₆ h₆ cell₆. back contents linked caller 0 s₃ g₆ (weaken E.w b' (c + 5) (c + 5) k₁ (k - 64) n n (two.middle + 1 + 1) s₃ g₆ (omega arith) (omega (arith, more)) (omega arith) h₆) cell₆))
        where
          b' : Bounds
          b' = whole E b.total contents

      ended : (contents : ℕ → Held) → contents E.frame.link ≡ Link ret → ((x : ℕ) → b.above < x → contents x ≡ b.contents x) × (contents b.frame.link ≡ b.contents b.frame.link) →
          (flow : Flow) (s₃ : State) (g₄ : FlatState) → Left E.w (whole E b.total contents) ways (c + 9) k n two.middle flow s₃ g₄ → Sim E.w b.total (GoesOn (result_of flow) s₃) P g₄
      ended contents linked caller Completed s₃ g₄ r = runs_out contents linked caller k (omega arith) s₃ g₄ r
      ended contents linked caller Broke s₃ g₄ r = runs_out contents linked caller (k + 64) (omega arith) s₃ g₄ r
      ended contents linked caller Continued s₃ g₄ r = runs_out contents linked caller (k + 64) (omega arith) s₃ g₄ r
      ended contents linked caller (Returned v) s₃ g₄ r =
          back contents linked caller v s₃ g₄ (weaken E.w (whole E b.total contents) (c + 9) (c + 5) (k - 64) (k - 64) n n (two.middle + 1 + 1) s₃ g₄ (omega arith) (omega arith) (omega arith) r.at) r.cell

  -- so it can be called from then on, next to those before
  pub can-call : (f : Function) (number label entry q : ℕ) → FunctionFits E f → E.w.is_private number ≡ f.private → Spans E.w entry (function_code scope number E.frame.link label f) q →
      Callable E.w (with_function (setting E.w) E.calls number f) number (length f.parameters) E.frame.top
  can-call f number label entry q fit private code = record {
    few = fit.few;
    entry = entry;
    stands = code.0;
    runs = λ b c k n ret words s g many same above below room h link slots.
        subst (λ (t : Bool). Sim E.w b.total (choose t (function_meaning (setting E.w) E.calls f words) (E.calls number words) s) (call.Returned E.w b c k n ret) g) (sym (eq-eqb number number refl))
        (function-sim f number label entry q b c k n ret words s g fit code many (same ∙ private ∙ sym fit.private) above below room h link slots);
  }

-- an earlier function can be called as before
pub can-still : (w : World) (calls : Calls) (number : ℕ) (f : Function) (other count limit : ℕ) → other < number → Callable w calls other count limit → Callable w (with_function (setting w) calls number f) other count limit
can-still w calls number f other count limit before can = record {
  few = can.few;
  entry = can.entry;
  stands = can.stands;
  runs = λ b c k n ret words s g many same above below room h link slots.
      subst (λ (t : Bool). Sim w b.total (choose t (function_meaning (setting w) calls f words) (calls other words) s) (call.Returned w b c k n ret) g) (sym (apart (number == other) refl))
      (can.runs b c k n ret words s g many same above below room h link slots);
}
  where
    apart : (t : Bool) → (number == other) ≡ t → (number == other) ≡ false
    apart true e = absurd (omega (arith, before, eqb-true number other e))
    apart false e = e
