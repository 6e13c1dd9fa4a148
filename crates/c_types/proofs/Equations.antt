-- The sites of each form of expression and statement, one equation each.
use Rattle.std.proofs.Common.{◌≡◌, ◌∙◌, ap, sym, ℕ, ◌-◌, Bool, List, [], ◌∷◌, ◌++◌, length, map, Option, Some, None, is_some, refl, arith}
use Rattle.c_token.specs.declared.signs.Sign.{Sign}
use Rattle.c_grammar.specs.declared.expr.Expr.{Expr}
use Rattle.c_grammar.specs.declared.expr.Expr.TheVariants as expr
use Rattle.c_grammar.specs.declared.expr.Expr.TheOpen.{Expr-F}
use Rattle.c_grammar.specs.declared.expr.Expr.TheFolds.{fold-roll-Expr}
use Rattle.c_grammar.specs.declared.stmt.Stmt.{Stmt}
use Rattle.c_grammar.specs.declared.stmt.Stmt.TheVariants as stmt
use Rattle.c_grammar.specs.declared.stmt.Stmt.TheOpen.{Stmt-F}
use Rattle.c_grammar.specs.declared.stmt.Stmt.TheFolds.{fold-roll-Stmt}
use Rattle.c_scopes.specs.declared.declaration.Declaration.{Declaration}
use Rattle.c_types.specs.declared.site.Home.{Home}
use Rattle.c_types.specs.declared.site.How.TheVariants.{Value, Element, Call, CallValue}
use Rattle.c_types.specs.declared.site.Site.TheVariants as site
use Rattle.c_scopes.specs.Scopes.{is_again}
use Rattle.c_scopes.specs.Declarations.{local}
use Rattle.c_types.specs.Sites.{ExprSites, expr_sites_step, expr_sites, use_of, exprs_in_turn, part_sites, Place, place_after, inner_scope, looped, StmtSites, assign, stmt_sites_step, stmt_sites}
use Rattle.c_types.specs.Walks.{list_sites, branch_sites, body_sites}

-- ---- lists

length-map_sites : (es : List Expr) → length (map expr_sites es) ≡ length es
length-map_sites [] = refl
length-map_sites (e ∷ es) = omega (arith, length-map_sites es)

-- ---- expressions

pub expr_sites-Number : (value : ℕ) (unsigned : Bool) (token : ℕ) (known : List Declaration) (home : Home) → expr_sites (expr.Number value unsigned token) known home ≡ []
expr_sites-Number value unsigned token known home = ap (λ e. expr_sites e known home) (sym (expr.rolls-Number value unsigned token)) ∙ ap (λ sites. sites known home) (fold-roll-Expr ExprSites expr_sites_step (Expr-F.Number value unsigned token))

pub expr_sites-Name : (name : List ℕ) (token : ℕ) (known : List Declaration) (home : Home) → expr_sites (expr.Name name token) known home ≡ use_of Value known home name token ∷ []
expr_sites-Name name token known home = ap (λ e. expr_sites e known home) (sym (expr.rolls-Name name token)) ∙ ap (λ sites. sites known home) (fold-roll-Expr ExprSites expr_sites_step (Expr-F.Name name token))

pub expr_sites-Index : (name : List ℕ) (index : Expr) (token : ℕ) (known : List Declaration) (home : Home) → expr_sites (expr.Index name index token) known home ≡ use_of Element known home name (token - 1) ∷ expr_sites index known home
expr_sites-Index name index token known home = ap (λ e. expr_sites e known home) (sym (expr.rolls-Index name index token)) ∙ ap (λ sites. sites known home) (fold-roll-Expr ExprSites expr_sites_step (Expr-F.Index name index token))

pub expr_sites-Call : (name : List ℕ) (arguments : List Expr) (token : ℕ) (known : List Declaration) (home : Home) → expr_sites (expr.Call name arguments token) known home ≡ use_of (CallValue (length arguments)) known home name token ∷ list_sites arguments known home
expr_sites-Call name arguments token known home = ap (λ e. expr_sites e known home) (sym (expr.rolls-Call name arguments token)) ∙ ap (λ sites. sites known home) (fold-roll-Expr ExprSites expr_sites_step (Expr-F.Call name arguments token))
    ∙ ap (λ n. use_of (CallValue n) known home name token ∷ exprs_in_turn (map expr_sites arguments) known home) (length-map_sites arguments)

pub expr_sites-Input : (token : ℕ) (known : List Declaration) (home : Home) → expr_sites (expr.Input token) known home ≡ []
expr_sites-Input token known home = ap (λ e. expr_sites e known home) (sym (expr.rolls-Input token)) ∙ ap (λ sites. sites known home) (fold-roll-Expr ExprSites expr_sites_step (Expr-F.Input token))

pub expr_sites-Paren : (inner : Expr) (token : ℕ) (known : List Declaration) (home : Home) → expr_sites (expr.Paren inner token) known home ≡ expr_sites inner known home
expr_sites-Paren inner token known home = ap (λ e. expr_sites e known home) (sym (expr.rolls-Paren inner token)) ∙ ap (λ sites. sites known home) (fold-roll-Expr ExprSites expr_sites_step (Expr-F.Paren inner token))

pub expr_sites-Unary : (op : Sign) (inner : Expr) (token : ℕ) (known : List Declaration) (home : Home) → expr_sites (expr.Unary op inner token) known home ≡ expr_sites inner known home
expr_sites-Unary op inner token known home = ap (λ e. expr_sites e known home) (sym (expr.rolls-Unary op inner token)) ∙ ap (λ sites. sites known home) (fold-roll-Expr ExprSites expr_sites_step (Expr-F.Unary op inner token))

pub expr_sites-Binary : (op : Sign) (left : Expr) (right : Expr) (token : ℕ) (known : List Declaration) (home : Home) → expr_sites (expr.Binary op left right token) known home ≡ expr_sites left known home ++ expr_sites right known home
expr_sites-Binary op left right token known home = ap (λ e. expr_sites e known home) (sym (expr.rolls-Binary op left right token)) ∙ ap (λ sites. sites known home) (fold-roll-Expr ExprSites expr_sites_step (Expr-F.Binary op left right token))

-- ---- statements

pub stmt_sites-Empty : (token : ℕ) → stmt_sites (stmt.Empty token) ≡ record { declared = []; sites = λ place. [] }
stmt_sites-Empty token = ap stmt_sites (sym (stmt.rolls-Empty token)) ∙ fold-roll-Stmt StmtSites stmt_sites_step (Stmt-F.Empty token)

pub stmt_sites-Local : (unsigned : Bool) (name : List ℕ) (value : Option Expr) (token : ℕ) → stmt_sites (stmt.Local unsigned name value token) ≡ record { declared = local unsigned name token ∷ []; sites = λ place. site.Local (is_again place.scope name) token ∷ part_sites value place.scope.known place.home }
stmt_sites-Local unsigned name value token = ap stmt_sites (sym (stmt.rolls-Local unsigned name value token)) ∙ fold-roll-Stmt StmtSites stmt_sites_step (Stmt-F.Local unsigned name value token)

pub stmt_sites-Assign : (name : List ℕ) (index : Option Expr) (value : Expr) (token : ℕ) → stmt_sites (stmt.Assign name index value token) ≡ record { declared = []; sites = λ place. use_of (assign index) place.scope.known place.home name token ∷ (part_sites index place.scope.known place.home ++ expr_sites value place.scope.known place.home) }
stmt_sites-Assign name index value token = ap stmt_sites (sym (stmt.rolls-Assign name index value token)) ∙ fold-roll-Stmt StmtSites stmt_sites_step (Stmt-F.Assign name index value token)

pub stmt_sites-Call : (name : List ℕ) (arguments : List Expr) (token : ℕ) → stmt_sites (stmt.Call name arguments token) ≡ record { declared = []; sites = λ place. use_of (Call (length arguments)) place.scope.known place.home name token ∷ list_sites arguments place.scope.known place.home }
stmt_sites-Call name arguments token = ap stmt_sites (sym (stmt.rolls-Call name arguments token)) ∙ fold-roll-Stmt StmtSites stmt_sites_step (Stmt-F.Call name arguments token)

pub stmt_sites-Release : (value : Expr) (token : ℕ) → stmt_sites (stmt.Release value token) ≡ record { declared = []; sites = λ place. expr_sites value place.scope.known place.home }
stmt_sites-Release value token = ap stmt_sites (sym (stmt.rolls-Release value token)) ∙ fold-roll-Stmt StmtSites stmt_sites_step (Stmt-F.Release value token)

pub stmt_sites-Check : (token : ℕ) → stmt_sites (stmt.Check token) ≡ record { declared = []; sites = λ place. [] }
stmt_sites-Check token = ap stmt_sites (sym (stmt.rolls-Check token)) ∙ fold-roll-Stmt StmtSites stmt_sites_step (Stmt-F.Check token)

pub stmt_sites-Return : (value : Option Expr) (token : ℕ) → stmt_sites (stmt.Return value token) ≡ record { declared = []; sites = λ place. site.Return place.home.result (is_some value) token ∷ part_sites value place.scope.known place.home }
stmt_sites-Return value token = ap stmt_sites (sym (stmt.rolls-Return value token)) ∙ fold-roll-Stmt StmtSites stmt_sites_step (Stmt-F.Return value token)

pub stmt_sites-Break : (token : ℕ) → stmt_sites (stmt.Break token) ≡ record { declared = []; sites = λ place. site.Jump place.in_loop token ∷ [] }
stmt_sites-Break token = ap stmt_sites (sym (stmt.rolls-Break token)) ∙ fold-roll-Stmt StmtSites stmt_sites_step (Stmt-F.Break token)

pub stmt_sites-Continue : (token : ℕ) → stmt_sites (stmt.Continue token) ≡ record { declared = []; sites = λ place. site.Jump place.in_loop token ∷ [] }
stmt_sites-Continue token = ap stmt_sites (sym (stmt.rolls-Continue token)) ∙ fold-roll-Stmt StmtSites stmt_sites_step (Stmt-F.Continue token)

stmt_sites-If-none : (test : Expr) (body : Stmt) (token : ℕ) → stmt_sites (stmt.If test body None token) ≡ record { declared = []; sites = λ place. expr_sites test place.scope.known place.home ++ (stmt_sites body).sites (inner_scope place) ++ (branch_sites None).sites (inner_scope place) }
stmt_sites-If-none test body token = ap stmt_sites (sym (stmt.rolls-If test body None token)) ∙ fold-roll-Stmt StmtSites stmt_sites_step (Stmt-F.If test body None token)

stmt_sites-If-some : (test : Expr) (body : Stmt) (other : Stmt) (token : ℕ) → stmt_sites (stmt.If test body (Some other) token) ≡ record { declared = []; sites = λ place. expr_sites test place.scope.known place.home ++ (stmt_sites body).sites (inner_scope place) ++ (branch_sites (Some other)).sites (inner_scope place) }
stmt_sites-If-some test body other token = ap stmt_sites (sym (stmt.rolls-If test body (Some other) token)) ∙ fold-roll-Stmt StmtSites stmt_sites_step (Stmt-F.If test body (Some other) token)

pub stmt_sites-If : (test : Expr) (body : Stmt) (other : Option Stmt) (token : ℕ) → stmt_sites (stmt.If test body other token) ≡ record { declared = []; sites = λ place. expr_sites test place.scope.known place.home ++ (stmt_sites body).sites (inner_scope place) ++ (branch_sites other).sites (inner_scope place) }
stmt_sites-If test body None token = stmt_sites-If-none test body token
stmt_sites-If test body (Some other) token = stmt_sites-If-some test body other token

pub stmt_sites-While : (test : Expr) (body : Stmt) (token : ℕ) → stmt_sites (stmt.While test body token) ≡ record { declared = []; sites = λ place. expr_sites test place.scope.known place.home ++ (stmt_sites body).sites (looped place) }
stmt_sites-While test body token = ap stmt_sites (sym (stmt.rolls-While test body token)) ∙ fold-roll-Stmt StmtSites stmt_sites_step (Stmt-F.While test body token)

stmt_sites-For-none-none : (test : Option Expr) (body : Stmt) (token : ℕ) → stmt_sites (stmt.For None test None body token) ≡ record {
  declared = [];
  sites = λ place.
      let around = place_after (branch_sites None).declared (inner_scope place) in
      (branch_sites None).sites (inner_scope place) ++ (part_sites test around.scope.known around.home ++ (branch_sites None).sites (inner_scope around) ++ (stmt_sites body).sites (looped around));
}
stmt_sites-For-none-none test body token = ap stmt_sites (sym (stmt.rolls-For None test None body token)) ∙ fold-roll-Stmt StmtSites stmt_sites_step (Stmt-F.For None test None body token)

stmt_sites-For-none-some : (test : Option Expr) (step : Stmt) (body : Stmt) (token : ℕ) → stmt_sites (stmt.For None test (Some step) body token) ≡ record {
  declared = [];
  sites = λ place.
      let around = place_after (branch_sites None).declared (inner_scope place) in
      (branch_sites None).sites (inner_scope place) ++ (part_sites test around.scope.known around.home ++ (branch_sites (Some step)).sites (inner_scope around) ++ (stmt_sites body).sites (looped around));
}
stmt_sites-For-none-some test step body token = ap stmt_sites (sym (stmt.rolls-For None test (Some step) body token)) ∙ fold-roll-Stmt StmtSites stmt_sites_step (Stmt-F.For None test (Some step) body token)

stmt_sites-For-some-none : (first : Stmt) (test : Option Expr) (body : Stmt) (token : ℕ) → stmt_sites (stmt.For (Some first) test None body token) ≡ record {
  declared = [];
  sites = λ place.
      let around = place_after (branch_sites (Some first)).declared (inner_scope place) in
      (branch_sites (Some first)).sites (inner_scope place) ++ (part_sites test around.scope.known around.home ++ (branch_sites None).sites (inner_scope around) ++ (stmt_sites body).sites (looped around));
}
stmt_sites-For-some-none first test body token = ap stmt_sites (sym (stmt.rolls-For (Some first) test None body token)) ∙ fold-roll-Stmt StmtSites stmt_sites_step (Stmt-F.For (Some first) test None body token)

stmt_sites-For-some-some : (first : Stmt) (test : Option Expr) (step : Stmt) (body : Stmt) (token : ℕ) → stmt_sites (stmt.For (Some first) test (Some step) body token) ≡ record {
  declared = [];
  sites = λ place.
      let around = place_after (branch_sites (Some first)).declared (inner_scope place) in
      (branch_sites (Some first)).sites (inner_scope place) ++ (part_sites test around.scope.known around.home ++ (branch_sites (Some step)).sites (inner_scope around) ++ (stmt_sites body).sites (looped around));
}
stmt_sites-For-some-some first test step body token = ap stmt_sites (sym (stmt.rolls-For (Some first) test (Some step) body token)) ∙ fold-roll-Stmt StmtSites stmt_sites_step (Stmt-F.For (Some first) test (Some step) body token)

pub stmt_sites-For : (first : Option Stmt) (test : Option Expr) (step : Option Stmt) (body : Stmt) (token : ℕ) → stmt_sites (stmt.For first test step body token) ≡ record {
  declared = [];
  sites = λ place.
      let around = place_after (branch_sites first).declared (inner_scope place) in
      (branch_sites first).sites (inner_scope place) ++ (part_sites test around.scope.known around.home ++ (branch_sites step).sites (inner_scope around) ++ (stmt_sites body).sites (looped around));
}
stmt_sites-For None test None body token = stmt_sites-For-none-none test body token
stmt_sites-For None test (Some step) body token = stmt_sites-For-none-some test step body token
stmt_sites-For (Some first) test None body token = stmt_sites-For-some-none first test body token
stmt_sites-For (Some first) test (Some step) body token = stmt_sites-For-some-some first test step body token

pub stmt_sites-Block : (body : List Stmt) (token : ℕ) (place : Place) → (stmt_sites (stmt.Block body token)).sites place ≡ body_sites body (inner_scope place)
stmt_sites-Block body token place =
    ap (λ s. s.sites place) (ap stmt_sites (sym (stmt.rolls-Block body token)) ∙ fold-roll-Stmt StmtSites stmt_sites_step (Stmt-F.Block body token))

pub stmt_declared-Block : (body : List Stmt) (token : ℕ) → (stmt_sites (stmt.Block body token)).declared ≡ []
stmt_declared-Block body token =
    ap (λ s. s.declared) (ap stmt_sites (sym (stmt.rolls-Block body token)) ∙ fold-roll-Stmt StmtSites stmt_sites_step (Stmt-F.Block body token))

pub ruleset expr_forms = (expr_sites-Number, expr_sites-Name, expr_sites-Index, expr_sites-Call, expr_sites-Input, expr_sites-Paren, expr_sites-Unary, expr_sites-Binary)

pub ruleset stmt_forms = (stmt_sites-Empty, stmt_sites-Local, stmt_sites-Assign, stmt_sites-Call, stmt_sites-Release, stmt_sites-Check, stmt_sites-Return, stmt_sites-Break, stmt_sites-Continue, stmt_sites-If, stmt_sites-While, stmt_sites-For, stmt_sites-Block, stmt_declared-Block)
