-- The program of a made source is safe: none of its operators divides, and each of its indices is below the length by its form.
use Rattle.std.proofs.Common.{◌≡◌, ◌<◌, ◌≤◌, ℕ, zero, suc, ◌+◌, Bool, false, List, [], ◌∷◌, ◌++◌, map, Option, None, Some, refl, sym, ap, ◌∙◌, subst, arith}
use Rattle.std.specs.Prelude.{codes}
use Rattle.std.proofs.lemmas.List.{append-nil}
use Rattle.c_grammar.specs.declared.expr.Expr.{Expr}
use Rattle.c_grammar.specs.declared.expr.Expr.TheVariants as expr
use Rattle.c_grammar.specs.declared.stmt.Stmt.{Stmt}
use Rattle.c_grammar.specs.declared.stmt.Stmt.TheVariants as stmt
use Rattle.c_grammar.specs.declared.stmt.Stmt.TheOpen.{Stmt-F}
use Rattle.c_grammar.specs.declared.stmt.Stmt.TheFolds.{fold-roll-Stmt}
use Rattle.c_scopes.specs.declared.declaration.Binding.{Binding}
use Rattle.c_scopes.specs.declared.declaration.Declaration.{Declaration}
use Rattle.c_scopes.specs.declared.declaration.Entity.TheVariants.{Local}
use Rattle.c_scopes.specs.Scopes.{latest}
use Rattle.c_scopes.specs.Declarations.{declaration_of, declarations_of, local}
use Rattle.c_semantics.specs.ResolvedTree as Tree
use Rattle.c_token.specs.declared.signs.Sign.{Sign}
use Rattle.c_resolver.specs.Resolving.{ResolvedStmt, assignment_to, binary_of, by_binding, call_value, element_value, functions_in, name_value, nothing, variable_of, plain_program, resolved, resolved_in_turn, resolved_step, typed_expr}
use Rattle.c_meaning.proofs.Layers.{called-form, resolved-Assign, resolved-Check, resolved-Local, resolved-Release, resolved-Return, typed-Binary, typed-Call, typed-Index, typed-Name, typed-Number, typed-Paren}
use Rattle.trap_free.specs.SafePrograms.{AreSafe, AreSafeArguments, IsSafe, IsSafeExpr}
use Rattle.made_program.proofs.MadeItems.{after_calls, after_functions, answer, call_of, calls_from, function_item, function_name, functions_from, head_items, later, made_program, main_item, store_a, store_g, turns_of}
use Rattle.made_program.proofs.MadeNames.{Knows, head_known, latest_hit, latest_kept, one_known}
use Rattle.made_program.proofs.MadeTyped.{Inside}

-- ---- forms of expressions and statements, where these are known

module _ (fs : List ℕ) (known : List Declaration) where
  expr-Number : (value : ℕ) (unsigned : Bool) (token : ℕ) → typed_expr fs (expr.Number value unsigned token) known ≡ record { unsigned = unsigned; expr = Tree.Number value }
  expr-Number value unsigned token = ap (λ e. e known) (typed-Number fs value unsigned token)

  expr-Name : (name : List ℕ) (token : ℕ) → typed_expr fs (expr.Name name token) known ≡ by_binding nothing name_value (latest known name)
  expr-Name name token = ap (λ e. e known) (typed-Name fs name token)

  expr-Index : (name : List ℕ) (index : Expr) (token : ℕ) → typed_expr fs (expr.Index name index token) known ≡ by_binding nothing (element_value token (typed_expr fs index known).expr) (latest known name)
  expr-Index name index token = ap (λ e. e known) (typed-Index fs name index token)

  expr-Call : (name : List ℕ) (e : Expr) (token : ℕ) → typed_expr fs (expr.Call name (e ∷ []) token) known
      ≡ by_binding nothing (call_value fs (Tree.Argument (typed_expr fs e known).expr Tree.NoArguments)) (latest known name)
  expr-Call name e token = ap (λ e. e known) (typed-Call fs name (e ∷ []) token)

  expr-Paren : (inner : Expr) (token : ℕ) → typed_expr fs (expr.Paren inner token) known ≡ typed_expr fs inner known
  expr-Paren inner token = ap (λ e. e known) (typed-Paren fs inner token)

  expr-Binary : (op : Sign) (left right : Expr) (token : ℕ) → typed_expr fs (expr.Binary op left right token) known ≡ binary_of op token (typed_expr fs left known) (typed_expr fs right known)
  expr-Binary op left right token = ap (λ e. e known) (typed-Binary fs op left right token)

  at-Local : (name : List ℕ) (token : ℕ) → (resolved fs (stmt.Local false name None token)).at known ≡ Tree.Local (variable_of token None) None
  at-Local name token = ap (λ s. s.at known) (resolved-Local fs false name None token)

  at-Store : (name : List ℕ) (index value : Expr) (token : ℕ) → (resolved fs (stmt.Assign name (Some index) value token)).at known
      ≡ by_binding Tree.Empty (λ declared entity. assignment_to token (typed_expr fs value known).expr declared entity (Some (typed_expr fs index known).expr)) (latest known name)
  at-Store name index value token = ap (λ s. s.at known) (resolved-Assign fs name (Some index) value token)

  at-Assign : (name : List ℕ) (value : Expr) (token : ℕ) → (resolved fs (stmt.Assign name None value token)).at known
      ≡ by_binding Tree.Empty (λ declared entity. assignment_to token (typed_expr fs value known).expr declared entity None) (latest known name)
  at-Assign name value token = ap (λ s. s.at known) (resolved-Assign fs name None value token)

  at-Release : (value : Expr) (token : ℕ) → (resolved fs (stmt.Release value token)).at known ≡ Tree.Release (typed_expr fs value known).expr
  at-Release value token = ap (λ s. s.at known) (resolved-Release fs value token)

  at-Check : (token : ℕ) → (resolved fs (stmt.Check token)).at known ≡ Tree.Check
  at-Check token = ap (λ s. s.at known) (resolved-Check fs token)

  at-Return : (value : Expr) (token : ℕ) → (resolved fs (stmt.Return (Some value) token)).at known ≡ Tree.Return (Some (typed_expr fs value known).expr)
  at-Return value token = ap (λ s. s.at known) (resolved-Return fs (Some value) token)

  at-Block : (body : List Stmt) (token : ℕ) → (resolved fs (stmt.Block body token)).at known ≡ Tree.Block (resolved_in_turn (map (resolved fs) body) known)
  at-Block body token =
      ap (λ s. s.at known) (ap (resolved fs) (sym (stmt.rolls-Block body token)) ∙ fold-roll-Stmt ResolvedStmt (resolved_step fs) (Stmt-F.Block body token))

  at-For : (first : Stmt) (test : Expr) (step body : Stmt) (token : ℕ) → (resolved fs (stmt.For (Some first) (Some test) (Some step) body token)).at known
      ≡ (let around = known ++ (resolved fs first).declared in Tree.For ((resolved fs first).at known) (Some (typed_expr fs test around).expr) ((resolved fs step).at around) ((resolved fs body).at around))
  at-For first test step body token =
      ap (λ s. s.at known) (ap (resolved fs) (sym (stmt.rolls-For (Some first) (Some test) (Some step) body token))
      ∙ fold-roll-Stmt ResolvedStmt (resolved_step fs) (Stmt-F.For (Some first) (Some test) (Some step) body token))

module _ (fs : List ℕ) where
  none-Assign : (name : List ℕ) (index : Option Expr) (value : Expr) (token : ℕ) → (resolved fs (stmt.Assign name index value token)).declared ≡ []
  none-Assign name index value token = ap (λ s. s.declared) (resolved-Assign fs name index value token)

  none-Release : (value : Expr) (token : ℕ) → (resolved fs (stmt.Release value token)).declared ≡ []
  none-Release value token = ap (λ s. s.declared) (resolved-Release fs value token)

  none-Check : (token : ℕ) → (resolved fs (stmt.Check token)).declared ≡ []
  none-Check token = ap (λ s. s.declared) (resolved-Check fs token)

  none-Return : (value : Option Expr) (token : ℕ) → (resolved fs (stmt.Return value token)).declared ≡ []
  none-Return value token = ap (λ s. s.declared) (resolved-Return fs value token)

  none-For : (first : Stmt) (test : Expr) (step body : Stmt) (token : ℕ) → (resolved fs (stmt.For (Some first) (Some test) (Some step) body token)).declared ≡ []
  none-For first test step body token =
      ap (λ s. s.declared) (ap (resolved fs) (sym (stmt.rolls-For (Some first) (Some test) (Some step) body token))
      ∙ fold-roll-Stmt ResolvedStmt (resolved_step fs) (Stmt-F.For (Some first) (Some test) (Some step) body token))

  one-Local : (name : List ℕ) (token : ℕ) → (resolved fs (stmt.Local false name None token)).declared ≡ local false name token ∷ []
  one-Local name token = ap (λ s. s.declared) (resolved-Local fs false name None token)

ruleset forms = (
  expr-Number,
  expr-Name,
  expr-Index,
  expr-Call,
  expr-Paren,
  expr-Binary,
  at-Local,
  at-Store,
  at-Assign,
  at-Release,
  at-Check,
  at-Return,
  at-Block,
  at-For,
  none-Assign,
  none-Release,
  none-Check,
  none-Return,
  none-For,
  one-Local,
)

-- a statement that declares nothing, before others
safe_turn : (s : ResolvedStmt) (ss : List ResolvedStmt) (known : List Declaration) → s.declared ≡ [] → IsSafe (s.at known) → IsSafe (resolved_in_turn ss known) → IsSafe (resolved_in_turn (s ∷ ss) known)
safe_turn s ss known none one more =
    (one, subst (λ ds. IsSafe (resolved_in_turn ss (known ++ ds))) (sym none) (subst (λ known. IsSafe (resolved_in_turn ss known)) (sym (append-nil known)) more))

-- ---- a function

module _ (fs : List ℕ) where
  safe_store_a : (k p token : ℕ) (known : List Declaration) → Inside known token → IsSafe ((resolved fs (store_a k p)).at known)
  safe_store_a k p token known inside =
      simp (forms, inside.a, inside.x) (omega arith, (refl, tt, tt), (refl, (omega arith, (refl, tt, tt)), tt))

  safe_store_g : (k p token : ℕ) (known : List Declaration) → Inside known token → k < 48 → IsSafe ((resolved fs (store_g k p)).at known)
  safe_store_g k p token known inside small =
      let below : k < 64 = omega (arith, small) in
      simp (forms, inside.g, inside.x) (below, tt, (refl, (below, tt), tt))

  safe_answer : (k p token : ℕ) (known : List Declaration) → Inside known token → IsSafe ((resolved fs (answer k p)).at known)
  safe_answer k p token known inside =
      simp (forms, inside.a, inside.x) (omega arith, (refl, (refl, tt, tt), tt))

  safe_body : (k p q r token : ℕ) (known : List Declaration) → Inside known token → k < 48 → IsSafe (resolved_in_turn (map (resolved fs) (store_a k p ∷ store_g k q ∷ answer k r ∷ [])) known)
  safe_body k p q r token known inside small =
      safe_turn (resolved fs (store_a k p)) (resolved fs (store_g k q) ∷ resolved fs (answer k r) ∷ []) known (simp forms) (safe_store_a k p token known inside)
      (safe_turn (resolved fs (store_g k q)) (resolved fs (answer k r) ∷ []) known (simp forms) (safe_store_g k q token known inside small)
      (safe_turn (resolved fs (answer k r)) [] known (simp forms) (safe_answer k r token known inside) tt))

  -- ---- `main`

  -- the locals of `main`
  record Locals (known : List Declaration) (u w : ℕ) : Type 0 where
    pub i : latest known (codes "i") ≡ Some (record { token = u; entity = Local false })
    pub s : latest known (codes "s") ≡ Some (record { token = w; entity = Local false })

  safe_called : (means : Option Binding) (given : Tree.Arguments) → AreSafeArguments given → IsSafeExpr (by_binding nothing (call_value fs given) means).expr
  safe_called means given safe = called-form IsSafeExpr fs means given tt (λ function. safe)

  safe_call : (k p u w : ℕ) (known : List Declaration) → Locals known u w → IsSafe ((resolved fs (call_of k p)).at known)
  safe_call k p u w known locals = simp (forms, locals.i, locals.s) (safe_called (latest known (function_name k)) _ ((refl, tt, tt), tt))

  safe_calls : (k p r m u w : ℕ) (known : List Declaration) → Locals known u w
      → IsSafe (resolved_in_turn (map (resolved fs) (calls_from k p m ++ stmt.Release (expr.Name (codes "s") (later 2 r)) r ∷ [])) known)
  safe_calls k p r zero u w known locals =
      safe_turn (resolved fs (stmt.Release (expr.Name (codes "s") (later 2 r)) r)) [] known (simp forms) (simp (forms, locals.s) tt) tt
  safe_calls k p r (suc m) u w known locals =
      safe_turn (resolved fs (call_of k p)) (map (resolved fs) (calls_from (k + 1) (later 9 p) m ++ stmt.Release (expr.Name (codes "s") (later 2 r)) r ∷ [])) known (simp forms)
      (safe_call k p u w known locals) (safe_calls (k + 1) (later 9 p) r m u w known locals)

  safe_turns : (n p r u w : ℕ) (known : List Declaration) → Locals known u w → IsSafe ((resolved fs (turns_of n p r)).at known)
  safe_turns n p r u w known locals =
      let body : IsSafe (resolved_in_turn (map (resolved fs) (calls_from 0 (later 17 p) n ++ stmt.Release (expr.Name (codes "s") (later 2 r)) r ∷ [])) known) = safe_calls 0 (later 17 p) r n u w known locals in
      simp (forms, append-nil, locals.i, locals.s) (tt, (refl, tt, tt), (refl, tt, tt), body)

  safe_main : (n m : ℕ) (known : List Declaration) → IsSafe (resolved_in_turn (map (resolved fs)
      (stmt.Local false (codes "i") None (later 7 m) ∷ stmt.Local false (codes "s") None (later 10 m) ∷ turns_of n (later 12 m) (after_calls (later 29 m) n)
      ∷ stmt.Check (later 6 (after_calls (later 29 m) n)) ∷ stmt.Return (Some (expr.Number 0 false (later 11 (after_calls (later 29 m) n)))) (later 10 (after_calls (later 29 m) n)) ∷ [])) known)
  safe_main n m known =
      let r : ℕ = after_calls (later 29 m) n in
      let i : Declaration = local false (codes "i") (later 7 m) in
      let t : Declaration = local false (codes "s") (later 10 m) in
      let last : Stmt = stmt.Return (Some (expr.Number 0 false (later 11 r))) (later 10 r) in
      let known2 : List Declaration = (known ++ i ∷ []) ++ t ∷ [] in
      let locals : Locals known2 (later 7 m) (later 10 m) = record { i = latest_kept (known ++ i ∷ []) t (codes "i") refl ∙ latest_hit known i (codes "i") refl; s = latest_hit (known ++ i ∷ []) t (codes "s") refl } in
      let rest : IsSafe (resolved_in_turn (map (resolved fs) (turns_of n (later 12 m) r ∷ stmt.Check (later 6 r) ∷ last ∷ [])) known2) =
      safe_turn (resolved fs (turns_of n (later 12 m) r)) (resolved fs (stmt.Check (later 6 r)) ∷ resolved fs last ∷ []) known2 (simp forms) (safe_turns n (later 12 m) r (later 7 m) (later 10 m) known2 locals)
      (safe_turn (resolved fs (stmt.Check (later 6 r))) (resolved fs last ∷ []) known2 (simp forms) (simp forms tt) (safe_turn (resolved fs last) [] known2 (simp forms) (simp forms tt) tt)) in
      simp (at-Local, one-Local) (tt, (tt, rest))

-- ---- the program

safe_from : (fs : List ℕ) (k p n count m : ℕ) (known : List Declaration) → Knows known p k → k + n ≤ 48 → AreSafe (functions_in fs (functions_from k p n ++ main_item count m ∷ []) known)
safe_from fs k p zero count m known knows most = (safe_main fs count m ((known ++ declaration_of (main_item count m) ∷ []) ++ []), tt)
safe_from fs k p (suc n) count m known knows most =
    let d : Declaration = declaration_of (function_item k p) in
    let x : Declaration = local false (codes "x") (later 4 p) in
    let small : k < 48 = omega (arith, most) in
    let next : suc k ≡ k + 1 = omega arith in
    let inside : Inside ((known ++ d ∷ []) ++ x ∷ []) (later 4 p) = record {
      a = latest_kept (known ++ d ∷ []) x (codes "a") refl ∙ latest_kept known d (codes "a") refl ∙ knows.a;
      g = latest_kept (known ++ d ∷ []) x (codes "g") refl ∙ latest_kept known d (codes "g") refl ∙ knows.g;
      x = latest_hit (known ++ d ∷ []) x (codes "x") refl;
    } in (
      safe_body fs k (later 7 p) (later 23 p) (later 35 p) (later 4 p) ((known ++ d ∷ []) ++ x ∷ []) inside small,
      safe_from fs (k + 1) (later 48 p) n count m (known ++ d ∷ []) (subst (λ k'. Knows (known ++ d ∷ []) (later 48 p) k') next (one_known known p k small knows)) (omega (arith, most)),
    )

pub made_safe : (n : ℕ) → n ≤ 48 → AreSafe (plain_program (made_program n)).functions
made_safe n most = safe_from _ 0 13 n n (after_functions 13 n) (declarations_of head_items) head_known (omega (arith, most))
