-- A safe program goes on, or ends by no trap: by its structure.
use Rattle.std.proofs.Common.{◌≡◌, ◌<◌, ◌&&◌, ℕ, zero, suc, ◌+◌, Bool, true, false, List, [], ◌∷◌, Option, Some, None, arith, refl, subst, sym}
use Rattle.std.specs.Prelude.{◌==◌}
use Rattle.std.proofs.lemmas.Bool.{lt-ltb}
use Rattle.std.proofs.lemmas.Nat.{and_le_r}
use Rattle.execution.specs.Traffic.{loose_word, is_same_element}
use Rattle.aegis_num.specs.declared.operators.BinaryOp.{BinaryOp}
use Rattle.aegis_num.specs.declared.operators.BinaryOp.TheVariants.{And}
use Rattle.aegis_num.specs.Operators.{is_division, binary, unary}
use Rattle.c_semantics.specs.declared.tree.Variable.{Variable}
use Rattle.c_semantics.specs.ResolvedTree.{Expr, Number, Scalar, Indexed, Called, Input, Unary, Binary, Both, Either, Arguments, NoArguments, Argument, Stmt, Nothing, Then, Empty, Block, Local, Assign, Store, Call, Suspend, Release, Check, Return, Break, Continue, If, While, For, Function}
use Rattle.c_semantics.specs.States.{Setting, State, Index, Divide, Outcome, GoesOn, EndsAs, then, is_in, choose, tick, element_of, loosely, taken_word, kept_word, reading, within, applied, turn_from, begin_turn}
use Rattle.c_semantics.specs.Meaning.{Flow, Completed, Broke, Continued, Returned, Turn, Again, Leaves, Calls, holds, value, values, value_or_zero, condition, after_statement, after_body, made_turn, turn, after_turn, iterate, loop, meaning, function_meaning, given, with_function, no_calls, calls_from, meaning_of, first_state}
use Rattle.trap_free.specs.SafePrograms.{IsBelow, IsMaskBelow, IsSafeExpr, AreSafeArguments, IsSafePart, IsSafe, AreSafe, IsNoTrap, SafeProgramsDoNotTrap}

-- where it goes on the value is such, and it does not end by a trap
abbrev Keeps : {A : Type 0} → (A → Type 0) → Outcome A → Type 0
Keeps P (GoesOn v s) = P v
Keeps P (EndsAs end s) = IsNoTrap end

-- any value
abbrev Any : {A : Type 0} → A → Type 0
Any v = Unit {0}

keeps-then : {A B : Type 0} (P : A → Type 0) (Q : B → Type 0) (o : Outcome A) (go : A → State → Outcome B) → Keeps P o
    → ((v : A) (s : State) → P v → Keeps Q (go v s)) → Keeps Q (then o go)
keeps-then P Q (GoesOn v s) go here more = more v s here
keeps-then P Q (EndsAs end s) go here more = here

keeps-choose : {A : Type 0} (P : A → Type 0) (b : Bool) (one other : State → Outcome A) (s : State) → Keeps P (one s) → Keeps P (other s)
    → Keeps P (choose b one other s)
keeps-choose P true one other s first second = first
keeps-choose P false one other s first second = second

-- the calls that a body may make
abbrev AllKept : Calls → Type 0
AllKept calls = (function : ℕ) (words : List ℕ) (s : State) → Keeps Any (calls function words s)

keeps-loosely : (found : Option ℕ) (s : State) → Keeps Any (loosely found s)
keeps-loosely None s = tt
keeps-loosely (Some word) s = tt

keeps-reading : (setting : Setting) (x : Variable) (index : ℕ) (s : State) → Keeps Any (reading setting x index s)
keeps-reading setting x index s =
    keeps-choose Any (is_in setting.is_loose x.class) (taken_word x index) (kept_word x index) s
    (keeps-loosely (loose_word is_same_element (element_of x index) s.traffic) s) tt

-- an index that is below the length
keeps-within : (at length index : ℕ) (s : State) → index < length → Keeps Any (within at length index s)
keeps-within at length index s below =
    let P : Bool → Type 0 = λ b. Keeps Any (choose b (GoesOn index) (EndsAs (Index at)) s) in
    subst P (sym (lt-ltb index length below)) tt

-- an operator that does not divide
keeps-applied : (at : ℕ) (op : BinaryOp) (left right : ℕ) (s : State) → is_division op ≡ false → Keeps (λ v. v ≡ binary op left right) (applied at op left right s)
keeps-applied at op left right s none =
    let P : Bool → Type 0 = λ b. Keeps (λ v. v ≡ binary op left right) (choose (b && right == 0) (EndsAs (Divide at)) (GoesOn (binary op left right)) s) in
    subst P (sym none) refl

keeps-any : {A : Type 0} (P : A → Type 0) (o : Outcome A) → Keeps P o → Keeps Any o
keeps-any P (GoesOn v s) here = tt
keeps-any P (EndsAs end s) here = here

module _ (setting : Setting) (calls : Calls) (kept : AllKept calls) where
  mutual
    keeps-value : (e : Expr) (s : State) → IsSafeExpr e → Keeps Any (value setting calls e s)
    keeps-value (Number word) s safe = tt
    keeps-value (Scalar x) s safe = keeps-reading setting x 0 (tick setting s)
    keeps-value (Indexed at x length index) s safe =
        keeps-then (λ i. i < length) Any (value setting calls index (tick setting s)) _ (keeps-below length index (tick setting s) safe.0 safe.1)
        (λ i t below. keeps-then Any Any (within at length i t) (reading setting x) (keeps-within at length i t below) (λ j u _. keeps-reading setting x j u))
    keeps-value (Called function arguments) s safe =
        keeps-then Any Any (values setting calls arguments (tick setting s)) (calls function) (keeps-values arguments (tick setting s) safe) (λ vs t _. kept function vs t)
    keeps-value Input s safe = tt
    keeps-value (Unary op inner) s safe =
        keeps-then Any Any (value setting calls inner (tick setting s)) (λ v. GoesOn (unary op v)) (keeps-value inner (tick setting s) safe) (λ v t _. tt)
    keeps-value (Binary at op left right) s safe =
        keeps-then Any Any (value setting calls left (tick setting s)) _ (keeps-value left (tick setting s) safe.1)
        (λ v t _. keeps-then Any Any (value setting calls right t) (applied at op v) (keeps-value right t safe.2)
        (λ w u _. keeps-any _ (applied at op v w u) (keeps-applied at op v w u safe.0)))
    keeps-value (Both left right) s safe =
        keeps-then Any Any (value setting calls left (tick setting s)) _ (keeps-value left (tick setting s) safe.0)
        (λ v t _. keeps-choose Any (holds v) _ (GoesOn 0) t (keeps-then Any Any (value setting calls right t) _ (keeps-value right t safe.1) (λ w u _. tt)) tt)
    keeps-value (Either left right) s safe =
        keeps-then Any Any (value setting calls left (tick setting s)) _ (keeps-value left (tick setting s) safe.0)
        (λ v t _. keeps-choose Any (holds v) (GoesOn 1) _ t tt (keeps-then Any Any (value setting calls right t) _ (keeps-value right t safe.1) (λ w u _. tt)))

    keeps-values : (given : Arguments) (s : State) → AreSafeArguments given → Keeps Any (values setting calls given s)
    keeps-values NoArguments s safe = tt
    keeps-values (Argument first later) s safe =
        keeps-then Any Any (value setting calls first s) _ (keeps-value first s safe.0)
        (λ v t _. keeps-then Any Any (values setting calls later t) _ (keeps-values later t safe.1) (λ vs u _. tt))

    -- the value of an index is below the length
    keeps-below : (length : ℕ) (e : Expr) (s : State) → IsBelow length e → IsSafeExpr e → Keeps (λ i. i < length) (value setting calls e s)
    keeps-below length (Number word) s below safe = below
    keeps-below length (Scalar x) s below safe = absurd below
    keeps-below length (Indexed at x n index) s below safe = absurd below
    keeps-below length (Called function arguments) s below safe = absurd below
    keeps-below length Input s below safe = absurd below
    keeps-below length (Unary op inner) s below safe = absurd below
    keeps-below length (Binary at op left right) s below safe =
        keeps-then Any (λ i. i < length) (value setting calls left (tick setting s)) _ (keeps-value left (tick setting s) safe.1)
        (λ v t _. keeps-masked length at op v right t below)
    keeps-below length (Both left right) s below safe = absurd below
    keeps-below length (Either left right) s below safe = absurd below

    keeps-masked : (length at : ℕ) (op : BinaryOp) (left : ℕ) (right : Expr) (s : State) → IsMaskBelow length op right
        → Keeps (λ i. i < length) (then (value setting calls right s) (applied at op left))
    keeps-masked length at And left (Number word) s below = let small = and_le_r left word in omega (arith, small, below)
    keeps-masked length at And left (Scalar x) s below = absurd below
    keeps-masked length at And left (Indexed at' x n index) s below = absurd below
    keeps-masked length at And left (Called function arguments) s below = absurd below
    keeps-masked length at And left Input s below = absurd below
    keeps-masked length at And left (Unary op inner) s below = absurd below
    keeps-masked length at And left (Binary at' op one other) s below = absurd below
    keeps-masked length at And left (Both one other) s below = absurd below
    keeps-masked length at And left (Either one other) s below = absurd below
    keeps-masked length at op left right s below = absurd below

  keeps-part : (e : Option Expr) (s : State) → IsSafePart e → Keeps Any (value_or_zero setting calls e s)
  keeps-part None s safe = tt
  keeps-part (Some e) s safe = keeps-value e s safe

  keeps-condition : (e : Option Expr) (s : State) → IsSafePart e → Keeps Any (condition setting calls e s)
  keeps-condition None s safe = tt
  keeps-condition (Some e) s safe = keeps-value e s safe

  -- ---- statements

  keeps-after : (second : State → Outcome Flow) (flow : Flow) (s : State) → ((t : State) → Keeps Any (second t)) → Keeps Any (after_statement second flow s)
  keeps-after second Completed s more = more s
  keeps-after second Broke s more = tt
  keeps-after second Continued s more = tt
  keeps-after second (Returned v) s more = tt

  keeps-step : (step : State → Outcome Flow) (flow : Flow) (s : State) → ((t : State) → Keeps Any (step t)) → Keeps Any (after_body step flow s)
  keeps-step step Completed s more = keeps-then Any Any (step s) _ (more s) (λ v t _. tt)
  keeps-step step Broke s more = tt
  keeps-step step Continued s more = keeps-then Any Any (step s) _ (more s) (λ v t _. tt)
  keeps-step step (Returned v) s more = tt

  keeps-turns : (turns : ℕ) (s : State) → Keeps Any (turn_from setting turns s)
  keeps-turns zero s = tt
  keeps-turns (suc left) s = tt

  keeps-turn : (test : State → Outcome ℕ) (body step : State → Outcome Flow) (s : State) → ((t : State) → Keeps Any (test t)) → ((t : State) → Keeps Any (body t))
      → ((t : State) → Keeps Any (step t)) → Keeps Any (turn setting test body step s)
  keeps-turn test body step s tests bodies steps =
      keeps-then Any Any (test s) _ (tests s)
      (λ v t _. keeps-choose Any (holds v) (made_turn setting body step) (GoesOn (Leaves Completed)) t
      (keeps-then Any Any (begin_turn setting t) _ (keeps-turns t.turns t)
      (λ left u _. keeps-then Any Any (body u) (after_body step) (bodies u) (λ flow w _. keeps-step step flow w steps)))
      tt)

  keeps-after_turn : (again : State → Outcome Flow) (how : Turn) (s : State) → ((t : State) → Keeps Any (again t)) → Keeps Any (after_turn again how s)
  keeps-after_turn again Again s more = more s
  keeps-after_turn again (Leaves flow) s more = tt

  keeps-iterate : (rounds : ℕ) (one_turn : State → Outcome Turn) (s : State) → ((t : State) → Keeps Any (one_turn t)) → Keeps Any (iterate rounds one_turn s)
  keeps-iterate zero one_turn s each = tt
  keeps-iterate (suc rounds) one_turn s each =
      keeps-then Any Any (one_turn s) _ (each s) (λ how t _. keeps-after_turn (iterate rounds one_turn) how t (λ u. keeps-iterate rounds one_turn u each))

  keeps-loop : (one_turn : State → Outcome Turn) (s : State) → ((t : State) → Keeps Any (one_turn t)) → Keeps Any (loop one_turn s)
  keeps-loop one_turn s each = keeps-iterate (suc s.turns) one_turn s each

  keeps-meaning : (a : Stmt) (s : State) → IsSafe a → Keeps Any (meaning setting calls a s)
  keeps-meaning Nothing s safe = tt
  keeps-meaning (Then first second) s safe =
      keeps-then Any Any (meaning setting calls first s) _ (keeps-meaning first s safe.0)
      (λ flow t _. keeps-after (meaning setting calls second) flow t (λ u. keeps-meaning second u safe.1))
  keeps-meaning Empty s safe = tt
  keeps-meaning (Block body) s safe = keeps-meaning body (tick setting s) safe
  keeps-meaning (Local x e) s safe = keeps-then Any Any (value_or_zero setting calls e (tick setting s)) _ (keeps-part e (tick setting s) safe) (λ v t _. tt)
  keeps-meaning (Assign x e) s safe = keeps-then Any Any (value setting calls e (tick setting s)) _ (keeps-value e (tick setting s) safe) (λ v t _. tt)
  keeps-meaning (Store at x length index e) s safe =
      keeps-then (λ i. i < length) Any (value setting calls index (tick setting s)) _ (keeps-below length index (tick setting s) safe.0 safe.1)
      (λ i t below. keeps-then Any Any (within at length i t) _ (keeps-within at length i t below)
      (λ place u _. keeps-then Any Any (value setting calls e u) _ (keeps-value e u safe.2) (λ v w _. tt)))
  keeps-meaning (Call function arguments) s safe =
      keeps-then Any Any (values setting calls arguments (tick setting s)) _ (keeps-values arguments (tick setting s) safe)
      (λ vs t _. keeps-then Any Any (calls function vs t) _ (kept function vs t) (λ v u _. tt))
  keeps-meaning Suspend s safe = tt
  keeps-meaning (Release e) s safe = keeps-then Any Any (value setting calls e (tick setting s)) _ (keeps-value e (tick setting s) safe) (λ v t _. tt)
  keeps-meaning Check s safe = tt
  keeps-meaning (Return e) s safe = keeps-then Any Any (value_or_zero setting calls e (tick setting s)) _ (keeps-part e (tick setting s) safe) (λ v t _. tt)
  keeps-meaning Break s safe = tt
  keeps-meaning Continue s safe = tt
  keeps-meaning (If test body other) s safe =
      keeps-then Any Any (value setting calls test (tick setting s)) _ (keeps-value test (tick setting s) safe.0)
      (λ v t _. keeps-choose Any (holds v) (meaning setting calls body) (meaning setting calls other) t (keeps-meaning body t safe.1) (keeps-meaning other t safe.2))
  keeps-meaning (While test body) s safe =
      keeps-loop _ (tick setting s) (λ t. keeps-turn (value setting calls test) (meaning setting calls body) (GoesOn Completed) t
      (λ u. keeps-value test u safe.0) (λ u. keeps-meaning body u safe.1) (λ u. tt))
  keeps-meaning (For first test step body) s safe =
      keeps-then Any Any (meaning setting calls first (tick setting s)) _ (keeps-meaning first (tick setting s) safe.0)
      (λ flow t _. keeps-loop _ t (λ u. keeps-turn (condition setting calls test) (meaning setting calls body) (meaning setting calls step) u
      (λ w. keeps-condition test w safe.1) (λ w. keeps-meaning body w safe.3) (λ w. keeps-meaning step w safe.2)))

-- ---- programs

keeps-function : (setting : Setting) (calls : Calls) → AllKept calls → (f : Function) → IsSafe f.body → (words : List ℕ) (s : State)
    → Keeps Any (function_meaning setting calls f words s)
keeps-function setting calls kept f safe words s =
    keeps-then Any Any (meaning setting calls f.body (given setting f.parameters words (tick setting s))) _
    (keeps-meaning setting calls kept f.body (given setting f.parameters words (tick setting s)) safe) (λ flow t _. tt)

keeps-calls : (setting : Setting) (calls : Calls) → AllKept calls → (number : ℕ) (fs : List Function) → AreSafe fs → AllKept (calls_from setting calls number fs)
keeps-calls setting calls kept number [] safe = kept
keeps-calls setting calls kept number (f ∷ fs) safe =
    keeps-calls setting (with_function setting calls number f)
    (λ function words s. keeps-choose Any (number == function) (function_meaning setting calls f words) (calls function words) s
    (keeps-function setting calls kept f safe.0 words s) (kept function words s))
    (number + 1) fs safe.1

ends-kept : (o : Outcome ℕ) → Keeps Any o → IsNoTrap (meaning_of o).end
ends-kept (GoesOn v s) kept = tt
ends-kept (EndsAs end s) kept = kept

pub safe_programs : SafeProgramsDoNotTrap
safe_programs setting program input loose turns safe =
    ends-kept _ (keeps-calls setting no_calls (λ function words s. tt) 0 program.functions safe program.main [] (first_state program input loose turns))
