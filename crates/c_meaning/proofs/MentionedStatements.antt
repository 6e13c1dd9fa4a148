-- Where no rule is broken, a statement of the grammar mentions once it is resolved what the rules of scope bind.
use Rattle.std.proofs.Common.{◌≡◌, ◌∙◌, ap, sym, subst, ℕ, Bool, true, false, List, [], ◌∷◌, ◌++◌, Option, Some, None, refl}
use Rattle.c_grammar.specs.declared.expr.Expr.{Expr}
use Rattle.c_grammar.specs.declared.stmt.Stmt.{Stmt}
use Rattle.c_grammar.specs.declared.stmt.Stmt.TheVariants as stmt
use Rattle.c_grammar.specs.declared.stmt.Stmt.TheOpen.{Stmt-F}
use Rattle.c_grammar.specs.declared.stmt.Stmt.TheFolds.{fold-roll-Stmt}
use Rattle.c_grammar.specs.BoundedTokens.{Bounded}
use Rattle.c_grammar.specs.StatementGrammar.{Local, Simple, First, Step, Maybe, Statement, Body}
use Rattle.c_scopes.specs.declared.declaration.Binding.{Binding}
use Rattle.c_scopes.specs.declared.declaration.Declaration.{Declaration}
use Rattle.c_scopes.specs.declared.declaration.Entity.{Entity}
use Rattle.c_scopes.specs.declared.declaration.Entity.TheVariants as entity
use Rattle.c_types.specs.declared.site.Home.{Home}
use Rattle.c_types.specs.declared.site.Rule.{Rule}
use Rattle.c_types.specs.declared.site.Rule.TheVariants.{Shape}
use Rattle.c_types.specs.declared.site.Site.TheVariants as site
use Rattle.c_types.specs.TypingRules.{Breaks}
use Rattle.c_types.specs.TypingRules.Breaks.{outside_loop}
use Rattle.c_scopes.specs.Scopes.{latest}
use Rattle.c_types.specs.Sites
use Rattle.c_types.specs.Sites.{ExprSites, Place, StmtSites, place_after, expr_sites, inner_scope, looped, part_sites, stmt_sites, stmts_in_turn}
use Rattle.c_types.specs.Walks.{body_sites}
use Rattle.c_semantics.specs.ResolvedTree as Tree
use Rattle.c_resolver.specs.Resolving
use Rattle.c_resolver.specs.Resolving.{Resolved, ResolvedStmt, part_in, resolved, typed_expr}
use Rattle.c_resolver.specs.ResolvingViews.{body_in, list_in}
use Rattle.c_meaning.specs.Mentions.{Mention, bound, in_expr, in_part, in_stmt}
use Rattle.c_semantics.specs.ProgramShape.{HasSimpleHeads, JumpsInLoops, is_simple}
use Rattle.c_resolver.proofs.Rows.{resolved-Block, declared-Block}
use Rattle.c_meaning.proofs.Uses.{assigned_to, called_by, AllTakeNone, take_none-append, whole-bound, element-bound, call-bound}
use Rattle.c_meaning.proofs.MentionedExpressions.{Clean, clean-back, clean-front, Mentioned, mentioned-append, mentioned-by, Agrees, AgreesAll, expression_agrees, arguments_agree}

-- A statement declares what its resolved form declares, none of it untrusted code with parameters, and mentions what its
-- sites are bound to, wherever it stands.
-- Its jumps stand in loops, and the heads of its loops are simple. `k` tells that it is simple itself.
pub record AgreesStmt (k : Bool) (fs : List ℕ) (r : ResolvedStmt) (s : StmtSites) : Type 0 where
  pub declared : r.declared ≡ s.declared
  pub takes : AllTakeNone s.declared
  pub sites : (place : Place) → AllTakeNone place.scope.known → Mentioned fs (in_stmt (r.at place.scope.known)) (s.sites place)
  pub jumps : (place : Place) (known : List Declaration) → Clean (s.sites place) → JumpsInLoops place.in_loop (r.at known)
  pub heads : (known : List Declaration) → HasSimpleHeads (r.at known)
  pub simple : k ≡ true → (known : List Declaration) → is_simple (r.at known) ≡ true

-- a statement of which it is not said whether it is simple
unsaid : (k : Bool) (fs : List ℕ) (r : ResolvedStmt) (s : StmtSites) → AgreesStmt k fs r s → AgreesStmt false fs r s
unsaid k fs r s agrees = record {
  declared = agrees.declared;
  takes = agrees.takes;
  sites = agrees.sites;
  jumps = agrees.jumps;
  heads = agrees.heads;
  simple = λ not. absurd (cc);
}

abbrev pub JumpsBody : List ℕ → List Stmt → Type 0
JumpsBody fs ss = (place : Place) (known : List Declaration) → Clean (body_sites ss place) → JumpsInLoops place.in_loop (body_in fs ss known)

abbrev pub HeadsBody : List ℕ → List Stmt → Type 0
HeadsBody fs ss = (known : List Declaration) → HasSimpleHeads (body_in fs ss known)

abbrev pub AgreesBody : List ℕ → List Stmt → Type 0
AgreesBody fs ss = (place : Place) → AllTakeNone place.scope.known → Mentioned fs (in_stmt (body_in fs ss place.scope.known)) (body_sites ss place)

abbrev AgreesPart : List ℕ → Option Expr → Type 0
AgreesPart fs e = (known : List Declaration) (home : Home) → Mentioned fs (in_part (part_in fs e known)) (part_sites e known home)

by_layer : {k : Bool} (fs : List ℕ) (x : Stmt) (r : ResolvedStmt) (s : StmtSites) → resolved fs x ≡ r → stmt_sites x ≡ s → AgreesStmt k fs r s → AgreesStmt k fs (resolved fs x) (stmt_sites x)
by_layer {k} fs x r s same also agrees = subst (λ r'. AgreesStmt k fs r' (stmt_sites x)) (sym same) (subst (λ s'. AgreesStmt k fs r s') (sym also) agrees)

abbrev binding : ℕ → Entity → Binding
binding token e = record { token = token; entity = e }

-- an assignment and a call are simple, whatever their names are bound to
assignment-known : (token : ℕ) (e : Entity) (at : ℕ) (index : Option Tree.Expr) (value : Tree.Expr) → is_simple (assigned_to (Some (binding token e)) at index value) ≡ true
assignment-known token (entity.Local unsigned) at None value = refl
assignment-known token (entity.Local unsigned) at (Some i) value = refl
assignment-known token (entity.Object class unsigned length') at None value = refl
assignment-known token (entity.Object class unsigned None) at (Some i) value = refl
assignment-known token (entity.Object class unsigned (Some n)) at (Some i) value = refl
assignment-known token (entity.Function result untrusted parameters) at index value = refl

assignment-simple : (means : Option Binding) (at : ℕ) (index : Option Tree.Expr) (value : Tree.Expr) → is_simple (assigned_to means at index value) ≡ true
assignment-simple None at index value = refl
assignment-simple (Some b) at index value = assignment-known b.token b.entity at index value

call-known-simple : (fs : List ℕ) (token : ℕ) (e : Entity) (given : Tree.Arguments) → is_simple (called_by fs (Some (binding token e)) given) ≡ true
call-known-simple fs token (entity.Local unsigned) given = refl
call-known-simple fs token (entity.Object class unsigned length') given = refl
call-known-simple fs token (entity.Function result true parameters) given = refl
call-known-simple fs token (entity.Function result false parameters) given = refl

call-simple : (fs : List ℕ) (means : Option Binding) (given : Tree.Arguments) → is_simple (called_by fs means given) ≡ true
call-simple fs None given = refl
call-simple fs (Some b) given = call-known-simple fs b.token b.entity given

-- a simple statement has no jump and no loop
simple-jumps : (in_loop : Bool) (s : Tree.Stmt) → is_simple s ≡ true → JumpsInLoops in_loop s
simple-jumps in_loop (Tree.Then first second) is = absurd (cc)
simple-jumps in_loop (Tree.Block body) is = absurd (cc)
simple-jumps in_loop Tree.Break is = absurd (cc)
simple-jumps in_loop Tree.Continue is = absurd (cc)
simple-jumps in_loop (Tree.If test body other) is = absurd (cc)
simple-jumps in_loop (Tree.While test body) is = absurd (cc)
simple-jumps in_loop (Tree.For first test step body) is = absurd (cc)
simple-jumps in_loop other is = tt

simple-heads : (s : Tree.Stmt) → is_simple s ≡ true → HasSimpleHeads s
simple-heads (Tree.Then first second) is = absurd (cc)
simple-heads (Tree.Block body) is = absurd (cc)
simple-heads (Tree.If test body other) is = absurd (cc)
simple-heads (Tree.While test body) is = absurd (cc)
simple-heads (Tree.For first test step body) is = absurd (cc)
simple-heads other is = tt

-- ---- each form without statements in it

empty_agrees : (fs : List ℕ) (token : ℕ) → AgreesStmt true fs (resolved fs (stmt.Empty token)) (stmt_sites (stmt.Empty token))
empty_agrees fs token =
    by_layer fs (stmt.Empty token) _ _
    (ap (resolved fs) (sym (stmt.rolls-Empty token)) ∙ fold-roll-Stmt ResolvedStmt (Resolving.resolved_step fs) (Stmt-F.Empty token))
    (ap stmt_sites (sym (stmt.rolls-Empty token)) ∙ fold-roll-Stmt StmtSites Sites.stmt_sites_step (Stmt-F.Empty token))
    (record { declared = refl; takes = tt; sites = λ place takes clean. refl; jumps = λ place known clean. tt; heads = λ known. tt; simple = λ is known. refl })

local_agrees : (fs : List ℕ) (unsigned : Bool) (name : List ℕ) (value : Option Expr) (token : ℕ) → AgreesPart fs value →
    AgreesStmt true fs (resolved fs (stmt.Local unsigned name value token)) (stmt_sites (stmt.Local unsigned name value token))
local_agrees fs unsigned name value token agrees =
    by_layer fs (stmt.Local unsigned name value token) _ _
    (ap (resolved fs) (sym (stmt.rolls-Local unsigned name value token)) ∙ fold-roll-Stmt ResolvedStmt (Resolving.resolved_step fs) (Stmt-F.Local unsigned name value token))
    (ap stmt_sites (sym (stmt.rolls-Local unsigned name value token)) ∙ fold-roll-Stmt StmtSites Sites.stmt_sites_step (Stmt-F.Local unsigned name value token))
    (record {
      declared = refl;
      takes = (tt, tt);
      sites = λ place takes clean. ap (λ ms. Mention.Declared token ∷ ms) (agrees place.scope.known place.home clean.1);
      jumps = λ place known clean. tt;
      heads = λ known. tt;
      simple = λ is known. refl;
    })

assign_agrees : (fs : List ℕ) (name : List ℕ) (value : Expr) (token : ℕ) → Agrees fs (typed_expr fs value) (expr_sites value) →
    AgreesStmt true fs (resolved fs (stmt.Assign name None value token)) (stmt_sites (stmt.Assign name None value token))
assign_agrees fs name value token agrees =
    by_layer fs (stmt.Assign name None value token) _ _
    (ap (resolved fs) (sym (stmt.rolls-Assign name None value token)) ∙ fold-roll-Stmt ResolvedStmt (Resolving.resolved_step fs) (Stmt-F.Assign name None value token))
    (ap stmt_sites (sym (stmt.rolls-Assign name None value token)) ∙ fold-roll-Stmt StmtSites Sites.stmt_sites_step (Stmt-F.Assign name None value token))
    (record {
      declared = refl;
      takes = tt;
      sites = λ place takes clean.
          whole-bound fs place.home token (latest place.scope.known name) token (typed_expr fs value place.scope.known).expr clean.0
          ∙ ap (λ ms. bound fs (latest place.scope.known name) ++ ms) (agrees place.scope.known place.home clean.1);
      jumps = λ place known clean. simple-jumps place.in_loop (assigned_to (latest known name) token None (typed_expr fs value known).expr) (assignment-simple (latest known name) token None (typed_expr fs value known).expr);
      heads = λ known. simple-heads (assigned_to (latest known name) token None (typed_expr fs value known).expr) (assignment-simple (latest known name) token None (typed_expr fs value known).expr);
      simple = λ is known. assignment-simple (latest known name) token None (typed_expr fs value known).expr;
    })

assign_at_agrees : (fs : List ℕ) (name : List ℕ) (index value : Expr) (token : ℕ) → Agrees fs (typed_expr fs index) (expr_sites index) →
    Agrees fs (typed_expr fs value) (expr_sites value) →
    AgreesStmt true fs (resolved fs (stmt.Assign name (Some index) value token)) (stmt_sites (stmt.Assign name (Some index) value token))
assign_at_agrees fs name index value token first second =
    by_layer fs (stmt.Assign name (Some index) value token) _ _
    (ap (resolved fs) (sym (stmt.rolls-Assign name (Some index) value token)) ∙ fold-roll-Stmt ResolvedStmt (Resolving.resolved_step fs) (Stmt-F.Assign name (Some index) value token))
    (ap stmt_sites (sym (stmt.rolls-Assign name (Some index) value token)) ∙ fold-roll-Stmt StmtSites Sites.stmt_sites_step (Stmt-F.Assign name (Some index) value token))
    (record {
      declared = refl;
      takes = tt;
      sites = λ place takes clean.
          element-bound fs place.home token (latest place.scope.known name) token (typed_expr fs index place.scope.known).expr (typed_expr fs value place.scope.known).expr clean.0
          ∙ ap (λ ms. bound fs (latest place.scope.known name) ++ ms)
          (mentioned-append fs (in_expr (typed_expr fs index place.scope.known).expr) (in_expr (typed_expr fs value place.scope.known).expr)
          (expr_sites index place.scope.known place.home) (expr_sites value place.scope.known place.home)
          (first place.scope.known place.home) (second place.scope.known place.home) clean.1);
      jumps = λ place known clean. simple-jumps place.in_loop (assigned_to (latest known name) token (Some (typed_expr fs index known).expr) (typed_expr fs value known).expr) (assignment-simple (latest known name) token (Some (typed_expr fs index known).expr) (typed_expr fs value known).expr);
      heads = λ known. simple-heads (assigned_to (latest known name) token (Some (typed_expr fs index known).expr) (typed_expr fs value known).expr) (assignment-simple (latest known name) token (Some (typed_expr fs index known).expr) (typed_expr fs value known).expr);
      simple = λ is known. assignment-simple (latest known name) token (Some (typed_expr fs index known).expr) (typed_expr fs value known).expr;
    })

call_agrees : (fs : List ℕ) (name : List ℕ) (es : List Expr) (token : ℕ) → AgreesAll fs es →
    AgreesStmt true fs (resolved fs (stmt.Call name es token)) (stmt_sites (stmt.Call name es token))
call_agrees fs name es token agrees =
    by_layer fs (stmt.Call name es token) _ _
    (ap (resolved fs) (sym (stmt.rolls-Call name es token)) ∙ fold-roll-Stmt ResolvedStmt (Resolving.resolved_step fs) (Stmt-F.Call name es token))
    (ap stmt_sites (sym (stmt.rolls-Call name es token)) ∙ fold-roll-Stmt StmtSites Sites.stmt_sites_step (Stmt-F.Call name es token))
    (record {
      declared = refl;
      takes = tt;
      sites = λ place takes clean.
          call-bound fs place.scope.known place.home token name es takes clean.0
          ∙ ap (λ ms. bound fs (latest place.scope.known name) ++ ms) (agrees place.scope.known place.home clean.1);
      jumps = λ place known clean. simple-jumps place.in_loop (called_by fs (latest known name) (list_in fs es known)) (call-simple fs (latest known name) (list_in fs es known));
      heads = λ known. simple-heads (called_by fs (latest known name) (list_in fs es known)) (call-simple fs (latest known name) (list_in fs es known));
      simple = λ is known. call-simple fs (latest known name) (list_in fs es known);
    })

release_agrees : (fs : List ℕ) (value : Expr) (token : ℕ) → Agrees fs (typed_expr fs value) (expr_sites value) →
    AgreesStmt true fs (resolved fs (stmt.Release value token)) (stmt_sites (stmt.Release value token))
release_agrees fs value token agrees =
    by_layer fs (stmt.Release value token) _ _
    (ap (resolved fs) (sym (stmt.rolls-Release value token)) ∙ fold-roll-Stmt ResolvedStmt (Resolving.resolved_step fs) (Stmt-F.Release value token))
    (ap stmt_sites (sym (stmt.rolls-Release value token)) ∙ fold-roll-Stmt StmtSites Sites.stmt_sites_step (Stmt-F.Release value token))
    (record { declared = refl; takes = tt; sites = λ place takes clean. agrees place.scope.known place.home clean; jumps = λ place known clean. tt; heads = λ known. tt; simple = λ is known. refl })

check_agrees : (fs : List ℕ) (token : ℕ) → AgreesStmt true fs (resolved fs (stmt.Check token)) (stmt_sites (stmt.Check token))
check_agrees fs token =
    by_layer fs (stmt.Check token) _ _
    (ap (resolved fs) (sym (stmt.rolls-Check token)) ∙ fold-roll-Stmt ResolvedStmt (Resolving.resolved_step fs) (Stmt-F.Check token))
    (ap stmt_sites (sym (stmt.rolls-Check token)) ∙ fold-roll-Stmt StmtSites Sites.stmt_sites_step (Stmt-F.Check token))
    (record { declared = refl; takes = tt; sites = λ place takes clean. refl; jumps = λ place known clean. tt; heads = λ known. tt; simple = λ is known. refl })

return_agrees : (fs : List ℕ) (value : Option Expr) (token : ℕ) → AgreesPart fs value →
    AgreesStmt false fs (resolved fs (stmt.Return value token)) (stmt_sites (stmt.Return value token))
return_agrees fs value token agrees =
    by_layer fs (stmt.Return value token) _ _
    (ap (resolved fs) (sym (stmt.rolls-Return value token)) ∙ fold-roll-Stmt ResolvedStmt (Resolving.resolved_step fs) (Stmt-F.Return value token))
    (ap stmt_sites (sym (stmt.rolls-Return value token)) ∙ fold-roll-Stmt StmtSites Sites.stmt_sites_step (Stmt-F.Return value token))
    (record { declared = refl; takes = tt; sites = λ place takes clean. agrees place.scope.known place.home clean.1; jumps = λ place known clean. tt; heads = λ known. tt; simple = λ is known. absurd (cc) })

in-loop : (in_loop : Bool) (token : ℕ) → ((rule : Rule) → Breaks (site.Jump in_loop token) rule → ⊥) → in_loop ≡ true
in-loop true token clean = refl
in-loop false token clean = absurd (clean Shape (outside_loop token))

break_agrees : (fs : List ℕ) (token : ℕ) → AgreesStmt false fs (resolved fs (stmt.Break token)) (stmt_sites (stmt.Break token))
break_agrees fs token =
    by_layer fs (stmt.Break token) _ _
    (ap (resolved fs) (sym (stmt.rolls-Break token)) ∙ fold-roll-Stmt ResolvedStmt (Resolving.resolved_step fs) (Stmt-F.Break token))
    (ap stmt_sites (sym (stmt.rolls-Break token)) ∙ fold-roll-Stmt StmtSites Sites.stmt_sites_step (Stmt-F.Break token))
    (record { declared = refl; takes = tt; sites = λ place takes clean. refl; jumps = λ place known clean. in-loop place.in_loop token clean.0; heads = λ known. tt; simple = λ is known. absurd (cc) })

continue_agrees : (fs : List ℕ) (token : ℕ) → AgreesStmt false fs (resolved fs (stmt.Continue token)) (stmt_sites (stmt.Continue token))
continue_agrees fs token =
    by_layer fs (stmt.Continue token) _ _
    (ap (resolved fs) (sym (stmt.rolls-Continue token)) ∙ fold-roll-Stmt ResolvedStmt (Resolving.resolved_step fs) (Stmt-F.Continue token))
    (ap stmt_sites (sym (stmt.rolls-Continue token)) ∙ fold-roll-Stmt StmtSites Sites.stmt_sites_step (Stmt-F.Continue token))
    (record { declared = refl; takes = tt; sites = λ place takes clean. refl; jumps = λ place known clean. in-loop place.in_loop token clean.0; heads = λ known. tt; simple = λ is known. absurd (cc) })

-- ---- blocks

sites-Block : (body : List Stmt) (token : ℕ) (place : Place) → (stmt_sites (stmt.Block body token)).sites place ≡ body_sites body (inner_scope place)
sites-Block body token place =
    ap (λ s. s.sites place) (ap stmt_sites (sym (stmt.rolls-Block body token)) ∙ fold-roll-Stmt StmtSites Sites.stmt_sites_step (Stmt-F.Block body token))

sites_declared-Block : (body : List Stmt) (token : ℕ) → (stmt_sites (stmt.Block body token)).declared ≡ []
sites_declared-Block body token =
    ap (λ s. s.declared) (ap stmt_sites (sym (stmt.rolls-Block body token)) ∙ fold-roll-Stmt StmtSites Sites.stmt_sites_step (Stmt-F.Block body token))

block_agrees : (fs : List ℕ) (body : List Stmt) (token : ℕ) → AgreesBody fs body → JumpsBody fs body → HeadsBody fs body → AgreesStmt false fs (resolved fs (stmt.Block body token)) (stmt_sites (stmt.Block body token))
block_agrees fs body token agrees jumps heads = record {
  declared = declared-Block fs body token ∙ sym (sites_declared-Block body token);
  takes = subst AllTakeNone (sym (sites_declared-Block body token)) tt;
  sites = λ place takes.
      mentioned-by fs (in_stmt ((resolved fs (stmt.Block body token)).at place.scope.known)) (in_stmt (body_in fs body place.scope.known))
      ((stmt_sites (stmt.Block body token)).sites place) (body_sites body (inner_scope place))
      (ap in_stmt (resolved-Block fs body token place.scope.known)) (sites-Block body token place) (agrees (inner_scope place) takes);
  jumps = λ place known clean.
      subst (JumpsInLoops place.in_loop) (sym (resolved-Block fs body token known)) (jumps (inner_scope place) known (subst Clean (sites-Block body token place) clean));
  heads = λ known. subst HasSimpleHeads (sym (resolved-Block fs body token known)) (heads known);
  simple = λ not. absurd (cc);
}

none_agree : (fs : List ℕ) → AgreesBody fs []
none_agree fs place takes clean = refl

one_agrees : (fs : List ℕ) (s : Stmt) (ss : List Stmt) → AgreesStmt false fs (resolved fs s) (stmt_sites s) → AgreesBody fs ss → AgreesBody fs (s ∷ ss)
one_agrees fs s ss first later place takes =
    mentioned-append fs (in_stmt ((resolved fs s).at place.scope.known)) (in_stmt (body_in fs ss (place.scope.known ++ (resolved fs s).declared)))
    ((stmt_sites s).sites place) (body_sites ss (place_after (stmt_sites s).declared place))
    (first.sites place takes)
    (λ clean. ap (λ ds. in_stmt (body_in fs ss (place.scope.known ++ ds))) first.declared
    ∙ later (place_after (stmt_sites s).declared place) (take_none-append place.scope.known (stmt_sites s).declared takes first.takes) clean)

-- ---- an `if` and loops

nothing_agrees : (fs : List ℕ) → AgreesStmt true fs (Resolving.resolved_if_any None) (Sites.sites_if_any None)
nothing_agrees fs = record { declared = refl; takes = tt; sites = λ place takes clean. refl; jumps = λ place known clean. tt; heads = λ known. tt; simple = λ is known. refl }

if_parts_agree : {k m : Bool} (fs : List ℕ) (test : Expr) (rb ro : ResolvedStmt) (sb so : StmtSites) → Agrees fs (typed_expr fs test) (expr_sites test) →
    AgreesStmt k fs rb sb → AgreesStmt m fs ro so →
    AgreesStmt false fs (Resolving.only_resolved (λ known. Tree.If (typed_expr fs test known).expr (rb.at known) (ro.at known)))
    (Sites.only_sites (λ place. expr_sites test place.scope.known place.home ++ sb.sites (inner_scope place) ++ so.sites (inner_scope place)))
if_parts_agree fs test rb ro sb so first body other = record {
  declared = refl;
  takes = tt;
  sites = λ place takes.
      mentioned-append fs (in_expr (typed_expr fs test place.scope.known).expr ++ in_stmt (rb.at place.scope.known)) (in_stmt (ro.at place.scope.known))
      (expr_sites test place.scope.known place.home ++ sb.sites (inner_scope place)) (so.sites (inner_scope place))
      (mentioned-append fs (in_expr (typed_expr fs test place.scope.known).expr) (in_stmt (rb.at place.scope.known))
      (expr_sites test place.scope.known place.home) (sb.sites (inner_scope place))
      (first place.scope.known place.home) (body.sites (inner_scope place) takes))
      (other.sites (inner_scope place) takes);
  jumps = λ place known clean.
      let sites = expr_sites test place.scope.known place.home in
      let bodies = sb.sites (inner_scope place) in
      let others = so.sites (inner_scope place) in (
        body.jumps (inner_scope place) known (clean-back sites bodies (clean-front (sites ++ bodies) others clean)),
        other.jumps (inner_scope place) known (clean-back (sites ++ bodies) others clean),
      );
  heads = λ known. (body.heads known, other.heads known);
  simple = λ not. absurd (cc);
}

if_agrees : (fs : List ℕ) (test : Expr) (body : Stmt) (token : ℕ) → Agrees fs (typed_expr fs test) (expr_sites test) →
    AgreesStmt false fs (resolved fs body) (stmt_sites body) → AgreesStmt false fs (resolved fs (stmt.If test body None token)) (stmt_sites (stmt.If test body None token))
if_agrees fs test body token first second =
    by_layer fs (stmt.If test body None token) _ _
    (ap (resolved fs) (sym (stmt.rolls-If test body None token)) ∙ fold-roll-Stmt ResolvedStmt (Resolving.resolved_step fs) (Stmt-F.If test body None token))
    (ap stmt_sites (sym (stmt.rolls-If test body None token)) ∙ fold-roll-Stmt StmtSites Sites.stmt_sites_step (Stmt-F.If test body None token))
    (if_parts_agree fs test (resolved fs body) (Resolving.resolved_if_any None) (stmt_sites body) (Sites.sites_if_any None) first second (nothing_agrees fs))

if_else_agrees : (fs : List ℕ) (test : Expr) (body other : Stmt) (token : ℕ) → Agrees fs (typed_expr fs test) (expr_sites test) →
    AgreesStmt false fs (resolved fs body) (stmt_sites body) → AgreesStmt false fs (resolved fs other) (stmt_sites other) →
    AgreesStmt false fs (resolved fs (stmt.If test body (Some other) token)) (stmt_sites (stmt.If test body (Some other) token))
if_else_agrees fs test body other token first second third =
    by_layer fs (stmt.If test body (Some other) token) _ _
    (ap (resolved fs) (sym (stmt.rolls-If test body (Some other) token)) ∙ fold-roll-Stmt ResolvedStmt (Resolving.resolved_step fs) (Stmt-F.If test body (Some other) token))
    (ap stmt_sites (sym (stmt.rolls-If test body (Some other) token)) ∙ fold-roll-Stmt StmtSites Sites.stmt_sites_step (Stmt-F.If test body (Some other) token))
    (if_parts_agree fs test (resolved fs body) (resolved fs other) (stmt_sites body) (stmt_sites other) first second third)

while_agrees : (fs : List ℕ) (test : Expr) (body : Stmt) (token : ℕ) → Agrees fs (typed_expr fs test) (expr_sites test) →
    AgreesStmt false fs (resolved fs body) (stmt_sites body) → AgreesStmt false fs (resolved fs (stmt.While test body token)) (stmt_sites (stmt.While test body token))
while_agrees fs test body token first second =
    by_layer fs (stmt.While test body token) _ _
    (ap (resolved fs) (sym (stmt.rolls-While test body token)) ∙ fold-roll-Stmt ResolvedStmt (Resolving.resolved_step fs) (Stmt-F.While test body token))
    (ap stmt_sites (sym (stmt.rolls-While test body token)) ∙ fold-roll-Stmt StmtSites Sites.stmt_sites_step (Stmt-F.While test body token))
    (record {
      declared = refl;
      takes = tt;
      sites = λ place takes.
          mentioned-append fs (in_expr (typed_expr fs test place.scope.known).expr) (in_stmt ((resolved fs body).at place.scope.known))
          (expr_sites test place.scope.known place.home) ((stmt_sites body).sites (looped place))
          (first place.scope.known place.home) (second.sites (looped place) takes);
      jumps = λ place known clean. second.jumps (looped place) known (clean-back (expr_sites test place.scope.known place.home) ((stmt_sites body).sites (looped place)) clean);
      heads = λ known. second.heads known;
      simple = λ not. absurd (cc);
    })

-- what stands in the head of a `for`, if it stands there
abbrev branch : List ℕ → Option Stmt → ResolvedStmt
branch fs None = Resolving.resolved_if_any None
branch fs (Some s) = resolved fs s

abbrev branch_sites : Option Stmt → StmtSites
branch_sites None = Sites.sites_if_any None
branch_sites (Some s) = stmt_sites s

for_parts_agree : (fs : List ℕ) (rf rs rb : ResolvedStmt) (sf ss sb : StmtSites) (test : Option Expr) →
    AgreesStmt true fs rf sf → AgreesPart fs test → AgreesStmt true fs rs ss → AgreesStmt false fs rb sb →
    AgreesStmt false fs
    (Resolving.only_resolved (λ known.
    let around = known ++ rf.declared in
    Tree.For (rf.at known) (part_in fs test around) (rs.at around) (rb.at around)))
    (Sites.only_sites (λ place.
    let around = place_after sf.declared (inner_scope place) in
    sf.sites (inner_scope place) ++ (part_sites test around.scope.known around.home ++ ss.sites (inner_scope around) ++ sb.sites (looped around))))
for_parts_agree fs rf rs rb sf ss sb test first part step body = record {
  declared = refl;
  takes = tt;
  sites = λ place takes.
      let known = place.scope.known in
      let around = place_after sf.declared (inner_scope place) in
      let inner : AllTakeNone around.scope.known = take_none-append known sf.declared takes first.takes in
      let tested = in_part (part_in fs test (known ++ sf.declared)) in
      let stepped = in_stmt (rs.at (known ++ sf.declared)) in
      let turned = in_stmt (rb.at (known ++ sf.declared)) in
      λ clean.
      ap (λ ds. in_stmt (rf.at known) ++ (in_part (part_in fs test (known ++ ds)) ++ in_stmt (rs.at (known ++ ds)) ++ in_stmt (rb.at (known ++ ds)))) first.declared
      ∙ mentioned-append fs (in_stmt (rf.at known)) (tested ++ stepped ++ turned)
      (sf.sites (inner_scope place)) (part_sites test around.scope.known around.home ++ ss.sites (inner_scope around) ++ sb.sites (looped around))
      (first.sites (inner_scope place) takes)
      (mentioned-append fs (tested ++ stepped) turned
      (part_sites test around.scope.known around.home ++ ss.sites (inner_scope around)) (sb.sites (looped around))
      (mentioned-append fs tested stepped (part_sites test around.scope.known around.home) (ss.sites (inner_scope around))
      (part around.scope.known around.home) (step.sites (inner_scope around) inner))
      (body.sites (looped around) inner)) clean;
  jumps = λ place known clean.
      let around = place_after sf.declared (inner_scope place) in
      let before = part_sites test around.scope.known around.home ++ ss.sites (inner_scope around) in
      body.jumps (looped around) (known ++ rf.declared)
      (clean-back before (sb.sites (looped around)) (clean-back (sf.sites (inner_scope place)) (before ++ sb.sites (looped around)) clean));
  heads = λ known. (first.simple refl known, step.simple refl (known ++ rf.declared), body.heads (known ++ rf.declared));
  simple = λ not. absurd (cc);
}

for_agrees : (fs : List ℕ) (first : Option Stmt) (test : Option Expr) (step : Option Stmt) (body : Stmt) (token : ℕ) →
    AgreesStmt true fs (branch fs first) (branch_sites first) → AgreesPart fs test → AgreesStmt true fs (branch fs step) (branch_sites step) →
    AgreesStmt false fs (resolved fs body) (stmt_sites body) →
    AgreesStmt false fs (resolved fs (stmt.For first test step body token)) (stmt_sites (stmt.For first test step body token))
for_agrees fs None test None body token a b c d =
    by_layer fs (stmt.For None test None body token) _ _
    (ap (resolved fs) (sym (stmt.rolls-For None test None body token)) ∙ fold-roll-Stmt ResolvedStmt (Resolving.resolved_step fs) (Stmt-F.For None test None body token))
    (ap stmt_sites (sym (stmt.rolls-For None test None body token)) ∙ fold-roll-Stmt StmtSites Sites.stmt_sites_step (Stmt-F.For None test None body token))
    (for_parts_agree fs (branch fs None) (branch fs None) (resolved fs body) (branch_sites None) (branch_sites None) (stmt_sites body) test a b c d)
for_agrees fs None test (Some step) body token a b c d =
    by_layer fs (stmt.For None test (Some step) body token) _ _
    (ap (resolved fs) (sym (stmt.rolls-For None test (Some step) body token)) ∙ fold-roll-Stmt ResolvedStmt (Resolving.resolved_step fs) (Stmt-F.For None test (Some step) body token))
    (ap stmt_sites (sym (stmt.rolls-For None test (Some step) body token)) ∙ fold-roll-Stmt StmtSites Sites.stmt_sites_step (Stmt-F.For None test (Some step) body token))
    (for_parts_agree fs (branch fs None) (resolved fs step) (resolved fs body) (branch_sites None) (stmt_sites step) (stmt_sites body) test a b c d)
for_agrees fs (Some first) test None body token a b c d =
    by_layer fs (stmt.For (Some first) test None body token) _ _
    (ap (resolved fs) (sym (stmt.rolls-For (Some first) test None body token)) ∙ fold-roll-Stmt ResolvedStmt (Resolving.resolved_step fs) (Stmt-F.For (Some first) test None body token))
    (ap stmt_sites (sym (stmt.rolls-For (Some first) test None body token)) ∙ fold-roll-Stmt StmtSites Sites.stmt_sites_step (Stmt-F.For (Some first) test None body token))
    (for_parts_agree fs (resolved fs first) (branch fs None) (resolved fs body) (stmt_sites first) (branch_sites None) (stmt_sites body) test a b c d)
for_agrees fs (Some first) test (Some step) body token a b c d =
    by_layer fs (stmt.For (Some first) test (Some step) body token) _ _
    (ap (resolved fs) (sym (stmt.rolls-For (Some first) test (Some step) body token)) ∙ fold-roll-Stmt ResolvedStmt (Resolving.resolved_step fs) (Stmt-F.For (Some first) test (Some step) body token))
    (ap stmt_sites (sym (stmt.rolls-For (Some first) test (Some step) body token)) ∙ fold-roll-Stmt StmtSites Sites.stmt_sites_step (Stmt-F.For (Some first) test (Some step) body token))
    (for_parts_agree fs (resolved fs first) (resolved fs step) (resolved fs body) (stmt_sites first) (stmt_sites step) (stmt_sites body) test a b c d)

-- ---- statements of the grammar

no_part_agrees : (fs : List ℕ) → AgreesPart fs None
no_part_agrees fs known home clean = refl

maybe_agrees : (fs : List ℕ) {l : ℕ} {ts : List Bounded} {x : Option Expr} → Maybe l ts x → AgreesPart fs x
maybe_agrees fs Maybe.nothing = no_part_agrees fs
maybe_agrees fs (Maybe.given d) = expression_agrees fs d

locals_agree : (fs : List ℕ) {l : ℕ} {ts : List Bounded} {x : Stmt} → Local l ts x → AgreesStmt true fs (resolved fs x) (stmt_sites x)
locals_agree fs (Local.plain {is_unsigned = unsigned} first at text room d) = local_agrees fs unsigned text None at.place (no_part_agrees fs)
locals_agree fs (Local.valued {is_unsigned = unsigned} {x = x} first at equals text room d d2) = local_agrees fs unsigned text (Some x) at.place (expression_agrees fs d2)

simple_agrees : (fs : List ℕ) {l : ℕ} {ts : List Bounded} {x : Stmt} → Simple l ts x → AgreesStmt true fs (resolved fs x) (stmt_sites x)
simple_agrees fs (Simple.assign {x = x} text at equals room d) = assign_agrees fs text x at.place (expression_agrees fs d)
simple_agrees fs (Simple.assign_at {x = x} {y = y} text at left right equals room deeper d d2) =
    assign_at_agrees fs text x y at.place (expression_agrees fs d) (expression_agrees fs d2)
simple_agrees fs (Simple.call {xs = xs} text at room d) = call_agrees fs text xs at.place (arguments_agree fs d)
simple_agrees fs (Simple.release {x = x} at left right room d) = release_agrees fs x at.place (expression_agrees fs d)
simple_agrees fs (Simple.check at left right room) = check_agrees fs at.place

first_agrees : (fs : List ℕ) {l : ℕ} {ts : List Bounded} {x : Option Stmt} → First l ts x → AgreesStmt true fs (branch fs x) (branch_sites x)
first_agrees fs First.nothing = nothing_agrees fs
first_agrees fs (First.local d) = locals_agree fs d
first_agrees fs (First.simple d) = simple_agrees fs d

step_agrees : (fs : List ℕ) {l : ℕ} {ts : List Bounded} {x : Option Stmt} → Step l ts x → AgreesStmt true fs (branch fs x) (branch_sites x)
step_agrees fs Step.nothing = nothing_agrees fs
step_agrees fs (Step.simple d) = simple_agrees fs d

mutual
  statement_agrees : (fs : List ℕ) {l : ℕ} {ts : List Bounded} {x : Stmt} {takes : Bool} → Statement l ts x takes → AgreesStmt false fs (resolved fs x) (stmt_sites x)
  statement_agrees fs (Statement.block {xs = xs} left right room d) = block_agrees fs xs left.place (λ place takes clean. body_agrees fs d place takes clean)
      (λ place known clean. body_jumps fs d place known clean) (λ known. body_heads fs d known)
  statement_agrees fs (Statement.empty at room) = unsaid true fs _ _ (empty_agrees fs at.place)
  statement_agrees fs (Statement.simple end d) = unsaid true fs _ _ (simple_agrees fs d)
  statement_agrees fs (Statement.«return» {value = value} at end room d) = return_agrees fs value at.place (maybe_agrees fs d)
  statement_agrees fs (Statement.break at end room) = break_agrees fs at.place
  statement_agrees fs (Statement.continue at end room) = continue_agrees fs at.place
  statement_agrees fs (Statement.if {test = test} {body = body} at left right room d d2) = if_agrees fs test body at.place (expression_agrees fs d) (statement_agrees fs d2)
  statement_agrees fs (Statement.if_else {test = test} {body = body} {other = other} at left right else room d d2 d3) =
      if_else_agrees fs test body other at.place (expression_agrees fs d) (statement_agrees fs d2) (statement_agrees fs d3)
  statement_agrees fs (Statement.while {test = test} {body = body} at left right room d d2) = while_agrees fs test body at.place (expression_agrees fs d) (statement_agrees fs d2)
  statement_agrees fs (Statement.for {first = first} {step = step} {test = test} {body = body} at left second third right room d d2 d3 d4) =
      for_agrees fs first test step body at.place (first_agrees fs d) (maybe_agrees fs d2) (step_agrees fs d3) (statement_agrees fs d4)

  pub body_agrees : (fs : List ℕ) {l : ℕ} {ts : List Bounded} {xs : List Stmt} → Body l ts xs → AgreesBody fs xs
  body_agrees fs Body.nothing = none_agree fs
  body_agrees fs (Body.local {x = x} {xs = xs} end d d2) = one_agrees fs x xs (unsaid true fs _ _ (locals_agree fs d)) (λ place takes clean. body_agrees fs d2 place takes clean)
  body_agrees fs (Body.statement {x = x} {xs = xs} d d2) = one_agrees fs x xs (statement_agrees fs d) (λ place takes clean. body_agrees fs d2 place takes clean)

  pub body_jumps : (fs : List ℕ) {l : ℕ} {ts : List Bounded} {xs : List Stmt} → Body l ts xs → JumpsBody fs xs
  body_jumps fs Body.nothing place known clean = tt
  body_jumps fs (Body.local {x = x} {xs = xs} end d d2) place known clean = (
    (locals_agree fs d).jumps place known (clean-front ((stmt_sites x).sites place) (body_sites xs (place_after (stmt_sites x).declared place)) clean),
    body_jumps fs d2 (place_after (stmt_sites x).declared place) (known ++ (resolved fs x).declared)
        (clean-back ((stmt_sites x).sites place) (body_sites xs (place_after (stmt_sites x).declared place)) clean),
  )
  body_jumps fs (Body.statement {x = x} {xs = xs} d d2) place known clean = (
    (statement_agrees fs d).jumps place known (clean-front ((stmt_sites x).sites place) (body_sites xs (place_after (stmt_sites x).declared place)) clean),
    body_jumps fs d2 (place_after (stmt_sites x).declared place) (known ++ (resolved fs x).declared)
        (clean-back ((stmt_sites x).sites place) (body_sites xs (place_after (stmt_sites x).declared place)) clean),
  )

  pub body_heads : (fs : List ℕ) {l : ℕ} {ts : List Bounded} {xs : List Stmt} → Body l ts xs → HeadsBody fs xs
  body_heads fs Body.nothing known = tt
  body_heads fs (Body.local {x = x} {xs = xs} end d d2) known = ((locals_agree fs d).heads known, body_heads fs d2 (known ++ (resolved fs x).declared))
  body_heads fs (Body.statement {x = x} {xs = xs} d d2) known = ((statement_agrees fs d).heads known, body_heads fs d2 (known ++ (resolved fs x).declared))
