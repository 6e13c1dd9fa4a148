-- Where no rule is broken, each name in a statement of the grammar agrees once it is resolved with its declaration, and the nodes are as
-- many.
use Rattle.std.proofs.Common.{◌≡◌, ◌∙◌, ap, sym, subst, ℕ, suc, ◌+◌, ◌==◌, ◌||◌, Bool, true, false, List, [], ◌∷◌, ◌++◌, length, Option, Some, None, arith, refl}
use Rattle.std.proofs.lemmas.Bool.Decides.{nat_tests}
use Rattle.c_grammar.specs.declared.expr.Expr.{Expr}
use Rattle.c_grammar.specs.declared.stmt.Stmt.{Stmt}
use Rattle.c_grammar.specs.declared.stmt.Stmt.TheVariants as stmt
use Rattle.c_grammar.specs.BoundedTokens.{Bounded}
use Rattle.c_grammar.specs.StatementGrammar.{Local, Simple, First, Step, Maybe, Statement, Body}
use Rattle.c_scopes.specs.declared.declaration.Binding.{Binding}
use Rattle.c_scopes.specs.declared.declaration.Declaration.{Declaration}
use Rattle.c_scopes.specs.declared.declaration.Entity.{Entity}
use Rattle.c_scopes.specs.declared.declaration.Entity.TheVariants as entity
use Rattle.c_scopes.specs.Scopes.{latest}
use Rattle.c_types.specs.declared.site.Home.{Home}
use Rattle.c_types.specs.declared.site.How.TheVariants as how
use Rattle.c_types.specs.declared.site.Rule.TheVariants as rule
use Rattle.c_types.specs.declared.site.Site.{Site}
use Rattle.c_types.specs.TypingRules.Breaks.{unknown, misused, miscounted}
use Rattle.c_types.specs.Sites.{Place, StmtSites, expr_sites, inner_scope, looped, part_sites, place_after, stmt_sites}
use Rattle.c_types.specs.Walks.{body_sites, branch_sites}
use Rattle.c_types.proofs.Equations.{stmt_sites-Empty, stmt_sites-Local, stmt_sites-Assign, stmt_sites-Call, stmt_sites-Release, stmt_sites-Check, stmt_sites-Return, stmt_sites-Break, stmt_sites-Continue, stmt_sites-If, stmt_sites-While, stmt_sites-For, stmt_sites-Block, stmt_declared-Block}
use Rattle.c_semantics.specs.ResolvedTree as Tree
use Rattle.c_semantics.specs.Nodes.{argument_nodes, part_nodes, stmt_nodes}
use Rattle.c_semantics.specs.ProgramShape.{Agrees, Around, PartAgrees, is_among, locals_of}
use Rattle.c_resolver.specs.Resolving.{ResolvedStmt, part_in, resolved, typed_expr}
use Rattle.c_resolver.specs.ResolvingViews.{body_in, branch_declared, branch_in, list_in}
use Rattle.c_resolver.proofs.Rows.{resolved-Block, declared-Block, resolved-If, resolved-For}
use Rattle.c_meaning.specs.SourceNodes.{body_count, expr_count, list_count, part_count, stmt_count}
use Rattle.c_meaning.proofs.Counts.{branch_count, count-Empty, count-Local, count-Assign, count-call, count-Release, count-Check, count-Return, count-Break, count-Continue, count-Block, count-If, count-While, count-For, whole-fits, element-fits}
use Rattle.c_meaning.proofs.Layers.{resolved-Empty, resolved-Local, resolved-Assign, resolved-Call, resolved-Release, resolved-Check, resolved-Return, resolved-Break, resolved-Continue, resolved-While}
use Rattle.c_meaning.proofs.Uses.{Fits, called_by}
use Rattle.c_meaning.proofs.MentionedExpressions.{Clean, clean-front, clean-back}
use Rattle.c_meaning.proofs.NamedExpressions.{AllKept, KeptExpr, arguments_kept, count-list, expression_kept}
use Rattle.c_meaning.proofs.UsesAgree.{AllKnown, IfKnown, KnownAs, call-agrees, element-agrees, known-append, latest-known, whole-agrees}

-- ---- tokens among others

abbrev pub Within : List ℕ → List ℕ → Type 0
Within ts own = (t : ℕ) → is_among ts t ≡ true → is_among own t ≡ true

or-left : (a b : Bool) → a ≡ true → (a || b) ≡ true
or-left true b is = refl
or-left false b is = absurd (cc)

or-further : (a b c : Bool) → (b ≡ true → c ≡ true) → (a || b) ≡ true → (a || c) ≡ true
or-further true b c more is = refl
or-further false b c more is = more is

pub among-front : (ts us : List ℕ) (t : ℕ) → is_among ts t ≡ true → is_among (ts ++ us) t ≡ true
among-front [] us t is = absurd (cc)
among-front (x ∷ ts) us t is = or-further (x == t) (is_among ts t) (is_among (ts ++ us) t) (among-front ts us t) is

or-right : (a b : Bool) → b ≡ true → (a || b) ≡ true
or-right true b is = refl
or-right false b is = is

pub among-back : (ts us : List ℕ) (t : ℕ) → is_among us t ≡ true → is_among (ts ++ us) t ≡ true
among-back [] us t is = is
among-back (x ∷ ts) us t is = or-right (x == t) (is_among (ts ++ us) t) (among-back ts us t is)

pub among-here : (t : ℕ) (ts : List ℕ) → is_among (t ∷ ts) t ≡ true
among-here t ts = or-left (t == t) (is_among ts t) (grind (arith, nat_tests))

pub within-front : (ts us own : List ℕ) → Within (ts ++ us) own → Within ts own
within-front ts us own within t is = within t (among-front ts us t is)

pub within-back : (ts us own : List ℕ) → Within (ts ++ us) own → Within us own
within-back ts us own within t is = within t (among-back ts us t is)

-- ---- what is shown of a statement

-- a statement whose names agree with their declarations, and its nodes
pub record StmtKept (around : Around) (s : Tree.Stmt) (n : ℕ) : Type 0 where
  pub names : Agrees around s
  pub count : stmt_nodes s ≡ n

-- A statement, resolved, declares what its sites declare; that is known once its own locals are; and where what stands before it is known,
-- its names agree with their declarations.
pub record NamedStmt (fs : List ℕ) (at : List Declaration → Tree.Stmt) (declared : List Declaration) (t : StmtSites) (n : ℕ) : Type 0 where
  pub declares : declared ≡ t.declared
  pub knows : (around : Around) (home : Home) (known : List Declaration) → Within (locals_of (at known)) around.own → AllKnown fs around home declared
  pub kept : (around : Around) (place : Place) → AllKnown fs around place.home place.scope.known → place.home.private ≡ around.private →
      Within (locals_of (at place.scope.known)) around.own → Clean (t.sites place) → StmtKept around (at place.scope.known) n

abbrev Named : List ℕ → ResolvedStmt → StmtSites → ℕ → Type 0
Named fs r t n = NamedStmt fs r.at r.declared t n

by_layer : (fs : List ℕ) {r s : ResolvedStmt} {t u : StmtSites} {n m : ℕ} → r ≡ s → t ≡ u → n ≡ m → Named fs s u m → Named fs r t n
by_layer fs {s = s} {t = t} {u = u} {n = n} same sites also named =
    subst (λ r. Named fs r t n) (sym same) (subst (λ t. Named fs s t n) (sym sites) (subst (λ n. Named fs s u n) (sym also) named))

abbrev pub NamedOne : List ℕ → Stmt → Type 0
NamedOne fs x = Named fs (resolved fs x) (stmt_sites x) (stmt_count x)

abbrev pub NamedBranch : List ℕ → Option Stmt → Type 0
NamedBranch fs x = NamedStmt fs (branch_in fs x) (branch_declared fs x) (branch_sites x) (branch_count x)

abbrev pub NamedBody : List ℕ → List Stmt → Type 0
NamedBody fs ss = (around : Around) (place : Place) → AllKnown fs around place.home place.scope.known → place.home.private ≡ around.private →
    Within (locals_of (body_in fs ss place.scope.known)) around.own → Clean (body_sites ss place) → StmtKept around (body_in fs ss place.scope.known) (body_count ss)

pub record PartKept (around : Around) (e : Option Tree.Expr) (n : ℕ) : Type 0 where
  pub names : PartAgrees around e
  pub count : part_nodes e ≡ n

abbrev KeptPart : List ℕ → Option Expr → Type 0
KeptPart fs x = (around : Around) (known : List Declaration) (home : Home) → AllKnown fs around home known → home.private ≡ around.private →
    Clean (part_sites x known home) → PartKept around (part_in fs x known) (part_count x)

no_part : (fs : List ℕ) → KeptPart fs None
no_part fs around known home all same clean = record { names = tt; count = refl }

a_part : (fs : List ℕ) (x : Expr) → KeptExpr fs x → KeptPart fs (Some x)
a_part fs x kept around known home all same clean =
    let part = kept around known home all same clean in
    record { names = part.names; count = part.count }

maybe_kept : (fs : List ℕ) {l : ℕ} {ts : List Bounded} {x : Option Expr} → Maybe l ts x → KeptPart fs x
maybe_kept fs Maybe.nothing = no_part fs
maybe_kept fs (Maybe.given {x = x} d) = a_part fs x (expression_kept fs d)

-- ---- each form without statements in it

empty-named : (fs : List ℕ) (token : ℕ) → NamedOne fs (stmt.Empty token)
empty-named fs token = by_layer fs (resolved-Empty fs token) (stmt_sites-Empty token) (count-Empty token)
    (record { declares = refl; knows = λ around home known within. tt; kept = λ around place all same within clean. record { names = tt; count = refl } })

local-named : (fs : List ℕ) (unsigned : Bool) (name : List ℕ) (value : Option Expr) (token : ℕ) → KeptPart fs value → NamedOne fs (stmt.Local unsigned name value token)
local-named fs unsigned name value token part = by_layer fs (resolved-Local fs unsigned name value token) (stmt_sites-Local unsigned name value token) (count-Local unsigned name value token)
    (record {
      declares = refl;
      knows = λ around home known within. (within token (among-here token []), tt);
      kept = λ around place all same within clean.
          let inner = part around place.scope.known place.home all same clean.1 in
          record { names = (refl, within token (among-here token []), inner.names); count = omega (arith, inner.count) };
    })

assign-named : (fs : List ℕ) (name : List ℕ) (value : Expr) (token : ℕ) → KeptExpr fs value → NamedOne fs (stmt.Assign name None value token)
assign-named fs name value token second = by_layer fs (resolved-Assign fs name None value token) (stmt_sites-Assign name None value token) (count-Assign name None value token)
    (record {
      declares = refl;
      knows = λ around home known within. tt;
      kept = λ around place all same within clean.
          let known = place.scope.known in
          let inner = second around known place.home all same clean.1 in record {
            names = whole-agrees fs around place.home token (latest known name) token (typed_expr fs value known).expr same (latest-known fs around place.home known name all) clean.0 inner.names;
            count = whole-fits (λ s. stmt_nodes s ≡ 1 + (0 + expr_count value)) place.home token (latest known name) token (typed_expr fs value known).expr clean.0 (λ x. omega (arith, inner.count));
          };
    })

store-named : (fs : List ℕ) (name : List ℕ) (index value : Expr) (token : ℕ) → KeptExpr fs index → KeptExpr fs value → NamedOne fs (stmt.Assign name (Some index) value token)
store-named fs name index value token first second = by_layer fs (resolved-Assign fs name (Some index) value token) (stmt_sites-Assign name (Some index) value token) (count-Assign name (Some index) value token)
    (record {
      declares = refl;
      knows = λ around home known within. tt;
      kept = λ around place all same within clean.
          let known = place.scope.known in
          let one = first around known place.home all same (clean-front (expr_sites index known place.home) (expr_sites value known place.home) clean.1) in
          let two = second around known place.home all same (clean-back (expr_sites index known place.home) (expr_sites value known place.home) clean.1) in record {
            names = element-agrees fs around place.home token (latest known name) token (typed_expr fs index known).expr (typed_expr fs value known).expr same
                (latest-known fs around place.home known name all) clean.0 one.names two.names;
            count = element-fits (λ s. stmt_nodes s ≡ 1 + (expr_count index + expr_count value)) place.home token (latest known name) token (typed_expr fs index known).expr (typed_expr fs value known).expr clean.0
                (λ x length'. omega (arith, one.count, two.count));
          };
    })

abbrev binding : ℕ → Entity → Binding
binding token e = record { token = token; entity = e }

not-none : (n parameters : ℕ) → parameters ≡ 0 → (suc n == parameters) ≡ false
not-none n parameters none = grind (arith, nat_tests)

-- untrusted code takes no arguments
call-count : (fs : List ℕ) (around : Around) (home : Home) (at token : ℕ) (e : Entity) (es : List Expr) (given : Tree.Arguments) → KnownAs fs around home token e →
    Fits (how.Call (length es)) (Some (binding token e)) home at → argument_nodes given ≡ list_count es → stmt_nodes (called_by fs (Some (binding token e)) given) ≡ 1 + list_count es
call-count fs around home at token (entity.Local unsigned) es given known fits count =
    absurd (fits rule.Shape (misused (how.Call (length es)) (binding token (entity.Local unsigned)) home at refl))
call-count fs around home at token (entity.Object class unsigned length') es given known fits count =
    absurd (fits rule.Shape (misused (how.Call (length es)) (binding token (entity.Object class unsigned length')) home at refl))
call-count fs around home at token (entity.Function result true parameters) [] given known fits count = refl
call-count fs around home at token (entity.Function result true parameters) (e ∷ es) given known fits count =
    absurd (fits rule.Arity (miscounted (how.Call (length (e ∷ es))) (binding token (entity.Function result true parameters)) home at (not-none (length es) parameters known)))
call-count fs around home at token (entity.Function result false parameters) es given known fits count = omega (arith, count)

call-counted : (fs : List ℕ) (around : Around) (home : Home) (at : ℕ) (means : Option Binding) (es : List Expr) (given : Tree.Arguments) → IfKnown fs around home means →
    Fits (how.Call (length es)) means home at → argument_nodes given ≡ list_count es → stmt_nodes (called_by fs means given) ≡ 1 + list_count es
call-counted fs around home at None es given known fits count = absurd (fits rule.Unknown (unknown (how.Call (length es)) home at))
call-counted fs around home at (Some b) es given known fits count = call-count fs around home at b.token b.entity es given known fits count

call-named : (fs : List ℕ) (name : List ℕ) (es : List Expr) (token : ℕ) → AllKept fs es → NamedOne fs (stmt.Call name es token)
call-named fs name es token part = by_layer fs (resolved-Call fs name es token) (stmt_sites-Call name es token) (count-call name es token)
    (record {
      declares = refl;
      knows = λ around home known within. tt;
      kept = λ around place all same within clean.
          let known = place.scope.known in
          let inner = part around known place.home all same clean.1 in
          let means = latest-known fs around place.home known name all in record {
            names = call-agrees fs around place.home token (length es) (latest known name) (list_in fs es known) means clean.0 (count-list fs es known) inner.names;
            count = call-counted fs around place.home token (latest known name) es (list_in fs es known) means clean.0 inner.count;
          };
    })

release-named : (fs : List ℕ) (value : Expr) (token : ℕ) → KeptExpr fs value → NamedOne fs (stmt.Release value token)
release-named fs value token part = by_layer fs (resolved-Release fs value token) (stmt_sites-Release value token) (count-Release value token)
    (record {
      declares = refl;
      knows = λ around home known within. tt;
      kept = λ around place all same within clean.
          let inner = part around place.scope.known place.home all same clean in
          record { names = inner.names; count = omega (arith, inner.count) };
    })

check-named : (fs : List ℕ) (token : ℕ) → NamedOne fs (stmt.Check token)
check-named fs token = by_layer fs (resolved-Check fs token) (stmt_sites-Check token) (count-Check token)
    (record { declares = refl; knows = λ around home known within. tt; kept = λ around place all same within clean. record { names = tt; count = refl } })

return-named : (fs : List ℕ) (value : Option Expr) (token : ℕ) → KeptPart fs value → NamedOne fs (stmt.Return value token)
return-named fs value token part = by_layer fs (resolved-Return fs value token) (stmt_sites-Return value token) (count-Return value token)
    (record {
      declares = refl;
      knows = λ around home known within. tt;
      kept = λ around place all same within clean.
          let inner = part around place.scope.known place.home all same clean.1 in
          record { names = inner.names; count = omega (arith, inner.count) };
    })

break-named : (fs : List ℕ) (token : ℕ) → NamedOne fs (stmt.Break token)
break-named fs token = by_layer fs (resolved-Break fs token) (stmt_sites-Break token) (count-Break token)
    (record { declares = refl; knows = λ around home known within. tt; kept = λ around place all same within clean. record { names = tt; count = refl } })

continue-named : (fs : List ℕ) (token : ℕ) → NamedOne fs (stmt.Continue token)
continue-named fs token = by_layer fs (resolved-Continue fs token) (stmt_sites-Continue token) (count-Continue token)
    (record { declares = refl; knows = λ around home known within. tt; kept = λ around place all same within clean. record { names = tt; count = refl } })

nothing-named : (fs : List ℕ) → NamedBranch fs None
nothing-named fs = record { declares = refl; knows = λ around home known within. tt; kept = λ around place all same within clean. record { names = tt; count = refl } }

-- ---- blocks, an `if` and loops

block-named : (fs : List ℕ) (body : List Stmt) (token : ℕ) → NamedBody fs body → NamedOne fs (stmt.Block body token)
block-named fs body token inner = record {
  declares = declared-Block fs body token ∙ sym (stmt_declared-Block body token);
  knows = λ around home known within. subst (AllKnown fs around home) (sym (declared-Block fs body token)) tt;
  kept = λ around place all same within clean.
      let known = place.scope.known in
      let part = inner around (inner_scope place) all same (subst (λ s. Within (locals_of s) around.own) (resolved-Block fs body token known) within)
      (subst Clean (stmt_sites-Block body token place) clean) in
      subst (λ s. StmtKept around s (stmt_count (stmt.Block body token))) (sym (resolved-Block fs body token known))
      (record { names = part.names; count = ap (λ n. 1 + n) part.count ∙ sym (count-Block body token) });
}

if-named : (fs : List ℕ) (test : Expr) (body : Stmt) (other : Option Stmt) (token : ℕ) → KeptExpr fs test → NamedOne fs body → NamedBranch fs other → NamedOne fs (stmt.If test body other token)
if-named fs test body other token a b c = by_layer fs (resolved-If fs test body other token) (stmt_sites-If test body other token) (count-If test body other token)
    (record {
      declares = refl;
      knows = λ around home known within. tt;
      kept = λ around place all same within clean.
          let known = place.scope.known in
          let tests = expr_sites test known place.home in
          let bodies = (stmt_sites body).sites (inner_scope place) in
          let others = (branch_sites other).sites (inner_scope place) in
          let mine = locals_of ((resolved fs body).at known) in
          let yours = locals_of (branch_in fs other known) in
          let both = clean-front (tests ++ bodies) others clean in
          let one = a around known place.home all same (clean-front tests bodies both) in
          let two = b.kept around (inner_scope place) all same (within-front mine yours around.own within) (clean-back tests bodies both) in
          let three = c.kept around (inner_scope place) all same (within-back mine yours around.own within) (clean-back (tests ++ bodies) others clean) in
          record { names = (one.names, two.names, three.names); count = omega (arith, one.count, two.count, three.count) };
    })

while-named : (fs : List ℕ) (test : Expr) (body : Stmt) (token : ℕ) → KeptExpr fs test → NamedOne fs body → NamedOne fs (stmt.While test body token)
while-named fs test body token a b = by_layer fs (resolved-While fs test body token) (stmt_sites-While test body token) (count-While test body token)
    (record {
      declares = refl;
      knows = λ around home known within. tt;
      kept = λ around place all same within clean.
          let known = place.scope.known in
          let tests = expr_sites test known place.home in
          let bodies = (stmt_sites body).sites (looped place) in
          let one = a around known place.home all same (clean-front tests bodies clean) in
          let two = b.kept around (looped place) all same within (clean-back tests bodies clean) in
          record { names = (one.names, two.names); count = omega (arith, one.count, two.count) };
    })

-- the sites of a `for` once its first part declared these
abbrev for_sites : Option Stmt → Option Expr → Option Stmt → Stmt → Place → List Declaration → List Site
for_sites first test step body place declared =
    let around = place_after declared (inner_scope place) in
    (branch_sites first).sites (inner_scope place)
    ++ (part_sites test around.scope.known around.home ++ (branch_sites step).sites (inner_scope around) ++ (stmt_sites body).sites (looped around))

for-named : (fs : List ℕ) (first : Option Stmt) (test : Option Expr) (step : Option Stmt) (body : Stmt) (token : ℕ) →
    NamedBranch fs first → KeptPart fs test → NamedBranch fs step → NamedOne fs body → NamedOne fs (stmt.For first test step body token)
for-named fs first test step body token a b c d = by_layer fs (resolved-For fs first test step body token) (stmt_sites-For first test step body token) (count-For first test step body token)
    (record {
      declares = refl;
      knows = λ around home known within. tt;
      kept = λ around place all same within clean.
          let known = place.scope.known in
          let new = branch_declared fs first in
          let inside = place_after new (inner_scope place) in
          let firsts = (branch_sites first).sites (inner_scope place) in
          let tests = part_sites test inside.scope.known inside.home in
          let steps = (branch_sites step).sites (inner_scope inside) in
          let bodies = (stmt_sites body).sites (looped inside) in
          let own1 = locals_of (branch_in fs first known) in
          let own2 = locals_of (branch_in fs step (known ++ new)) in
          let own3 = locals_of ((resolved fs body).at (known ++ new)) in
          let clean' : Clean (for_sites first test step body place new) = subst (λ ds. Clean (for_sites first test step body place ds)) (sym a.declares) clean in
          let later = clean-back firsts (tests ++ steps ++ bodies) clean' in
          let within1 = within-front own1 (own2 ++ own3) around.own within in
          let within23 = within-back own1 (own2 ++ own3) around.own within in
          let known' = known-append fs around place.home known new all (a.knows around place.home known within1) in
          let one = a.kept around (inner_scope place) all same within1 (clean-front firsts (tests ++ steps ++ bodies) clean') in
          let two = b around (known ++ new) place.home known' same (clean-front tests steps (clean-front (tests ++ steps) bodies later)) in
          let three = c.kept around (inner_scope inside) known' same (within-front own2 own3 around.own within23) (clean-back tests steps (clean-front (tests ++ steps) bodies later)) in
          let four = d.kept around (looped inside) known' same (within-back own2 own3 around.own within23) (clean-back (tests ++ steps) bodies later) in
          record { names = (one.names, two.names, three.names, four.names); count = omega (arith, one.count, two.count, three.count, four.count) };
    })

-- ---- statements of the grammar

locals_named : (fs : List ℕ) {l : ℕ} {ts : List Bounded} {x : Stmt} → Local l ts x → NamedOne fs x
locals_named fs (Local.plain {is_unsigned = unsigned} first at text room d) = local-named fs unsigned text None at.place (no_part fs)
locals_named fs (Local.valued {is_unsigned = unsigned} {x = x} first at equals text room d d2) = local-named fs unsigned text (Some x) at.place (a_part fs x (expression_kept fs d2))

simple_named : (fs : List ℕ) {l : ℕ} {ts : List Bounded} {x : Stmt} → Simple l ts x → NamedOne fs x
simple_named fs (Simple.assign {x = x} text at equals room d) = assign-named fs text x at.place (expression_kept fs d)
simple_named fs (Simple.assign_at {x = x} {y = y} text at left right equals room deeper d d2) = store-named fs text x y at.place (expression_kept fs d) (expression_kept fs d2)
simple_named fs (Simple.call {xs = xs} text at room d) = call-named fs text xs at.place (arguments_kept fs d)
simple_named fs (Simple.release {x = x} at left right room d) = release-named fs x at.place (expression_kept fs d)
simple_named fs (Simple.check at left right room) = check-named fs at.place

first_named : (fs : List ℕ) {l : ℕ} {ts : List Bounded} {x : Option Stmt} → First l ts x → NamedBranch fs x
first_named fs First.nothing = nothing-named fs
first_named fs (First.local d) = locals_named fs d
first_named fs (First.simple d) = simple_named fs d

step_named : (fs : List ℕ) {l : ℕ} {ts : List Bounded} {x : Option Stmt} → Step l ts x → NamedBranch fs x
step_named fs Step.nothing = nothing-named fs
step_named fs (Step.simple d) = simple_named fs d

none-named : (fs : List ℕ) → NamedBody fs []
none-named fs around place all same within clean = record { names = tt; count = refl }

one-named : (fs : List ℕ) (s : Stmt) (ss : List Stmt) → NamedOne fs s → NamedBody fs ss → NamedBody fs (s ∷ ss)
one-named fs s ss first later around place all same within clean =
    let known = place.scope.known in
    let new = (resolved fs s).declared in
    let after = place_after new place in
    let own1 = locals_of ((resolved fs s).at known) in
    let own2 = locals_of (body_in fs ss (known ++ new)) in
    let within1 = within-front own1 own2 around.own within in
    let clean' : Clean ((stmt_sites s).sites place ++ body_sites ss after) = subst (λ ds. Clean ((stmt_sites s).sites place ++ body_sites ss (place_after ds place))) (sym first.declares) clean in
    let one = first.kept around place all same within1 (clean-front ((stmt_sites s).sites place) (body_sites ss after) clean') in
    let two = later around after (known-append fs around place.home known new all (first.knows around place.home known within1)) same
    (within-back own1 own2 around.own within) (clean-back ((stmt_sites s).sites place) (body_sites ss after) clean') in
    record { names = (one.names, two.names); count = omega (arith, one.count, two.count) }

mutual
  statement_named : (fs : List ℕ) {l : ℕ} {ts : List Bounded} {x : Stmt} {takes : Bool} → Statement l ts x takes → NamedOne fs x
  statement_named fs (Statement.block {xs = xs} left right room d) = block-named fs xs left.place (λ a p all same within clean. body_named fs d a p all same within clean)
  statement_named fs (Statement.empty at room) = empty-named fs at.place
  statement_named fs (Statement.simple end d) = simple_named fs d
  statement_named fs (Statement.«return» {value = value} at end room d) = return-named fs value at.place (maybe_kept fs d)
  statement_named fs (Statement.break at end room) = break-named fs at.place
  statement_named fs (Statement.continue at end room) = continue-named fs at.place
  statement_named fs (Statement.if {test = test} {body = body} at left right room d d2) =
      if-named fs test body None at.place (expression_kept fs d) (statement_named fs d2) (nothing-named fs)
  statement_named fs (Statement.if_else {test = test} {body = body} {other = other} at left right else room d d2 d3) =
      if-named fs test body (Some other) at.place (expression_kept fs d) (statement_named fs d2) (statement_named fs d3)
  statement_named fs (Statement.while {test = test} {body = body} at left right room d d2) = while-named fs test body at.place (expression_kept fs d) (statement_named fs d2)
  statement_named fs (Statement.for {first = first} {step = step} {test = test} {body = body} at left second third right room d d2 d3 d4) =
      for-named fs first test step body at.place (first_named fs d) (maybe_kept fs d2) (step_named fs d3) (statement_named fs d4)

  pub body_named : (fs : List ℕ) {l : ℕ} {ts : List Bounded} {xs : List Stmt} → Body l ts xs → NamedBody fs xs
  body_named fs Body.nothing around place all same within clean = record { names = tt; count = refl }
  body_named fs (Body.local {x = x} {xs = xs} end d d2) around place all same within clean =
      one-named fs x xs (locals_named fs d) (λ a p all same within clean. body_named fs d2 a p all same within clean) around place all same within clean
  body_named fs (Body.statement {x = x} {xs = xs} d d2) around place all same within clean =
      one-named fs x xs (statement_named fs d) (λ a p all same within clean. body_named fs d2 a p all same within clean) around place all same within clean
