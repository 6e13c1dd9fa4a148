-- A walk over sites in two parts.
use Rattle.std.proofs.Common.{◌≡◌, ◌∙◌, ap, sym, ℕ, ◌+◌, ◌<◌, suc, List, [], ◌∷◌, ◌++◌, length, drop, get_or, Option, refl, add-one, drop-cons, append_assoc, append-nil, take, arith}
use Rattle.std.proofs.lemmas.Grind.{common_steps}
use Rattle.c_grammar.specs.declared.expr.Expr.{Expr}
use Rattle.c_scopes.specs.declared.declaration.Declaration.{Declaration}
use Rattle.c_types.specs.declared.site.Home.{Home}
use Rattle.c_grammar.specs.declared.stmt.Stmt.{Stmt}
use Rattle.c_grammar.specs.declared.stmt.Stmt.TheVariants as stmt
use Rattle.c_types.specs.Sites.{expr_sites, part_sites, Place, inner_scope, looped, place_after, stmt_sites}
use Rattle.c_types.specs.Walks.{declared_in, list_sites, branch_sites, body_sites}
use Rattle.c_types.proofs.Equations.{stmt_sites-If, stmt_sites-While, stmt_sites-For}
use Rattle.c_types.specs.declared.site.Site.{Site}
use Rattle.c_types.specs.declared.verdict.Verdict.{Verdict}
use Rattle.c_types.specs.Verdicts.{note, noted}

pub noted_append : (v : Verdict) (xs ys : List Site) → noted v (xs ++ ys) ≡ noted (noted v xs) ys
noted_append v [] ys = refl
noted_append v (x ∷ xs) ys = noted_append (note v x) xs ys

-- one more expression of a list
pub list_step : (v : Verdict) (es : List Expr) (i : ℕ) (e : Expr) (known : List Declaration) (home : Home) → i < length es → e ≡ get_or es i e →
    noted (noted v (expr_sites e known home)) (list_sites (drop (i + 1) es) known home) ≡ noted v (list_sites (drop i es) known home)
list_step v es i e known home within is =
    let next : drop i es ≡ e ∷ drop (i + 1) es = rw add-one (drop-cons es i e within ∙ ap (λ x. x ∷ drop (suc i) es) (sym is)) in
    sym (ap (λ xs. noted v (list_sites xs known home)) next ∙ noted_append v (expr_sites e known home) (list_sites (drop (i + 1) es) known home))

-- one more statement of a list
pub behind_step : (names : List Declaration) (ss : List Stmt) (i : ℕ) (s : Stmt) → i < length ss → s ≡ get_or ss i s →
    names ++ (stmt_sites s).declared ++ declared_in (drop (i + 1) ss) ≡ names ++ declared_in (drop i ss)
behind_step names ss i s within is =
    let next : drop i ss ≡ s ∷ drop (i + 1) ss = rw add-one (drop-cons ss i s within ∙ ap (λ x. x ∷ drop (suc i) ss) (sym is)) in
    rw next (append_assoc names (stmt_sites s).declared (declared_in (drop (i + 1) ss)))

pub body_step : (v : Verdict) (ss : List Stmt) (i : ℕ) (s : Stmt) (place : Place) → i < length ss → s ≡ get_or ss i s →
    noted (noted v ((stmt_sites s).sites place)) (body_sites (drop (i + 1) ss) (place_after (stmt_sites s).declared place)) ≡ noted v (body_sites (drop i ss) place)
body_step v ss i s place within is =
    let next : drop i ss ≡ s ∷ drop (i + 1) ss = rw add-one (drop-cons ss i s within ∙ ap (λ x. x ∷ drop (suc i) ss) (sym is)) in
    sym (ap (λ xs. noted v (body_sites xs place)) next ∙ noted_append v ((stmt_sites s).sites place) (body_sites (drop (i + 1) ss) (place_after (stmt_sites s).declared place)))

-- the parts of an `if` and of loops
pub if_parts : (v v1 v2 v3 : Verdict) (place : Place) (test : Expr) (body : Stmt) (other : Option Stmt) (token : ℕ) →
    v1 ≡ noted v (expr_sites test place.scope.known place.home) → v2 ≡ noted v1 ((stmt_sites body).sites (inner_scope place)) →
    v3 ≡ noted v2 ((branch_sites other).sites (inner_scope place)) → v3 ≡ noted v ((stmt_sites (stmt.If test body other token)).sites place)
if_parts v v1 v2 v3 place test body other token e1 e2 e3 =
    let a = expr_sites test place.scope.known place.home in
    let b = (stmt_sites body).sites (inner_scope place) in
    let c = (branch_sites other).sites (inner_scope place) in
    e3 ∙ ap (λ x. noted x c) (e2 ∙ ap (λ x. noted x b) e1 ∙ sym (noted_append v a b)) ∙ sym (noted_append v (a ++ b) c)
    ∙ ap (λ s. noted v (s.sites place)) (sym (stmt_sites-If test body other token))

pub while_parts : (v v1 v2 : Verdict) (place : Place) (test : Expr) (body : Stmt) (token : ℕ) →
    v1 ≡ noted v (expr_sites test place.scope.known place.home) → v2 ≡ noted v1 ((stmt_sites body).sites (looped place)) →
    v2 ≡ noted v ((stmt_sites (stmt.While test body token)).sites place)
while_parts v v1 v2 place test body token e1 e2 =
    let a = expr_sites test place.scope.known place.home in
    let b = (stmt_sites body).sites (looped place) in
    e2 ∙ ap (λ x. noted x b) e1 ∙ sym (noted_append v a b) ∙ ap (λ s. noted v (s.sites place)) (sym (stmt_sites-While test body token))

pub for_parts : (v v1 v2 v3 v4 : Verdict) (place around : Place) (first step : Option Stmt) (test : Option Expr) (body : Stmt) (token : ℕ) →
    around ≡ place_after (branch_sites first).declared (inner_scope place) →
    v1 ≡ noted v ((branch_sites first).sites (inner_scope place)) → v2 ≡ noted v1 (part_sites test around.scope.known around.home) →
    v3 ≡ noted v2 ((branch_sites step).sites (inner_scope around)) → v4 ≡ noted v3 ((stmt_sites body).sites (looped around)) →
    v4 ≡ noted v ((stmt_sites (stmt.For first test step body token)).sites place)
for_parts v v1 v2 v3 v4 place around first step test body token is e1 e2 e3 e4 =
    let f = (branch_sites first).sites (inner_scope place) in
    let rest : Place → List Site = λ p. part_sites test p.scope.known p.home ++ (branch_sites step).sites (inner_scope p) ++ (stmt_sites body).sites (looped p) in
    let a = part_sites test around.scope.known around.home in
    let b = (branch_sites step).sites (inner_scope around) in
    let c = (stmt_sites body).sites (looped around) in
    e4 ∙ ap (λ x. noted x c) (e3 ∙ ap (λ x. noted x b) e2 ∙ sym (noted_append v1 a b)) ∙ sym (noted_append v1 (a ++ b) c)
    ∙ ap (λ x. noted x (rest around)) e1 ∙ sym (noted_append v f (rest around))
    ∙ ap (λ p. noted v (f ++ rest p)) is
    ∙ ap (λ s. noted v (s.sites place)) (sym (stmt_sites-For first test step body token))

pub take_front : {A : Type 0} (xs ys : List A) → take (length xs) (xs ++ ys) ≡ xs
take_front xs ys = grind (arith, common_steps)

-- what is known after a `for`
pub for_names : (names after : List Declaration) (first step : Option Stmt) (test : Option Expr) (body : Stmt) (token start : ℕ) →
    start ≡ length names → after ≡ names ++ (branch_sites first).declared →
    take start after ≡ names ++ (stmt_sites (stmt.For first test step body token)).declared
for_names names after first step test body token start long is =
    rw (long, is, stmt_sites-For first test step body token) (take_front names (branch_sites first).declared ∙ sym (append-nil names))
