-- What a small program mentions.
use Rattle.std.proofs.Common.{◌≡◌, ◌∙◌, ap, sym, ℕ, ◌-◌, Bool, false, List, [], ◌∷◌, ◌++◌, append-nil, codes, Option, is_some, Some, None}
use Rattle.regions.specs.declared.rights.Class.TheVariants as class
use Rattle.c_token.specs.declared.signs.Sign.{Sign}
use Rattle.c_token.specs.declared.signs.Sign.TheVariants.{LessThan, Plus}
use Rattle.c_grammar.specs.declared.expr.Expr.{Expr}
use Rattle.c_grammar.specs.declared.expr.Expr.TheVariants as expr
use Rattle.c_grammar.specs.declared.expr.Expr.TheOpen.{Expr-F}
use Rattle.c_grammar.specs.declared.expr.Expr.TheFolds.{fold-roll-Expr}
use Rattle.c_grammar.specs.declared.stmt.Stmt.{Stmt}
use Rattle.c_grammar.specs.declared.stmt.Stmt.TheVariants as stmt
use Rattle.c_grammar.specs.declared.stmt.Stmt.TheOpen.{Stmt-F}
use Rattle.c_grammar.specs.declared.stmt.Stmt.TheFolds.{fold-roll-Stmt}
use Rattle.c_grammar.specs.declared.item.Kind3.TheVariants.{Int}
use Rattle.c_grammar.specs.declared.item.Storage.TheVariants as storage
use Rattle.c_grammar.specs.declared.item.Item.TheVariants as item
use Rattle.c_grammar.specs.declared.item.Program.{Program}
use Rattle.c_scopes.specs.declared.declaration.Declaration.{Declaration}
use Rattle.c_types.specs.declared.site.Home.{Home}
use Rattle.c_types.specs.declared.site.How.TheVariants.{Value, Element, CallValue}
use Rattle.c_types.specs.declared.site.Site.TheVariants as site
use Rattle.c_scopes.specs.Scopes.{is_again, latest}
use Rattle.c_types.specs.Sites
use Rattle.c_scopes.specs.Declarations.{local as local_of}
use Rattle.c_types.specs.Sites.{ExprSites, StmtSites, assign, place_after, expr_sites, inner_scope, looped, part_sites, stmt_sites, use_of}
use Rattle.c_semantics.specs.declared.tree.Variable.{Variable}
use Rattle.c_semantics.specs.ResolvedTree as Tree
use Rattle.c_resolver.specs.Resolving
use Rattle.c_resolver.specs.Resolving.{Resolved, ResolvedStmt, binary_of, by_binding, call_value, element_value, function_tokens, functions_in, name_value, nothing, part_in, plain_program, resolved, typed_expr, variable_of}
use Rattle.c_meaning.specs.Mentions.{Mention, Declared, Scalar, Array, Called, at_sites, in_functions, mentions, program_sites}
use Rattle.c_meaning.proofs.Uses.{assigned_to}
use Rattle.c_resolver.proofs.Rows.{resolved-For}

abbrev number : ℕ → ℕ → Expr
number value token = expr.Number value false token

abbrev i : ℕ → Expr
i token = expr.Name (codes "i") token

abbrev first : Stmt
first = stmt.Local false (codes "i") (Some (number 0 38)) 36

abbrev test : Expr
test = expr.Binary LessThan (i 40) (number 2 42) 41

abbrev step : Stmt
step = stmt.Assign (codes "i") None (expr.Binary Plus (i 46) (number 1 48) 47) 44

abbrev body : Stmt
body = stmt.Assign (codes "t") (Some (i 52)) (expr.Call (codes "f") (expr.Name (codes "a") 57 ∷ []) 55) 50

-- for(int i=0;i<2;i=i+1)t[i]=f(a);
abbrev turns : Stmt
turns = stmt.For (Some first) (Some test) (Some step) body 33

-- int a;int t[3];int f(int a){return a;}int main(void){a=1;int a; the loop above; return t[0];}
abbrev small : Program
small = record {
  items = item.Object storage.Verified false (codes "a") None 1
      ∷ item.Object storage.Verified false (codes "t") (Some 3) 4
      ∷ item.Function false Int (codes "f") (record { unsigned = false; name = codes "a"; token = 13 } ∷ [])
      (stmt.Return (Some (expr.Name (codes "a") 17)) 16 ∷ []) 10
      ∷ item.Function false Int (codes "main") []
      (stmt.Assign (codes "a") None (number 1 28) 26
      ∷ stmt.Local false (codes "a") None 31
      ∷ turns
      ∷ stmt.Return (Some (expr.Index (codes "t") (number 0 63) 62)) 60
      ∷ []) 21
      ∷ [];
}

abbrev local : ℕ → Variable
local token = record { token = token; class = None }

abbrev global : ℕ → Variable
global token = record { token = token; class = Some class.Verified }

-- The local hides the global after its declaration, and the parameter hides it in `f`.
abbrev small_mentions : List Mention
small_mentions =
    Declared 13
    ∷ Scalar (local 13)
    ∷ Scalar (global 1)
    ∷ Declared 31
    ∷ Declared 36
    ∷ Scalar (local 36)
    ∷ Scalar (local 36)
    ∷ Scalar (local 36)
    ∷ Array (global 4) 3
    ∷ Scalar (local 36)
    ∷ Called 0
    ∷ Scalar (local 31)
    ∷ Array (global 4) 3
    ∷ []

-- ---- the forms that stand in it

typed-Number : (fs : List ℕ) (value : ℕ) (unsigned : Bool) (token : ℕ) (known : List Declaration) → typed_expr fs (expr.Number value unsigned token) known ≡ record { unsigned = unsigned; expr = Tree.Number value }
typed-Number fs value unsigned token known =
    ap (λ e'. typed_expr fs e' known) (sym (expr.rolls-Number value unsigned token)) ∙ ap (λ r. r known) (fold-roll-Expr Resolved (Resolving.typed_step fs) (Expr-F.Number value unsigned token))

sites-Number : (value : ℕ) (unsigned : Bool) (token : ℕ) (known : List Declaration) (home : Home) → expr_sites (expr.Number value unsigned token) known home ≡ []
sites-Number value unsigned token known home =
    ap (λ e'. expr_sites e' known home) (sym (expr.rolls-Number value unsigned token)) ∙ ap (λ r. r known home) (fold-roll-Expr ExprSites Sites.expr_sites_step (Expr-F.Number value unsigned token))

typed-Name : (fs : List ℕ) (text : List ℕ) (token : ℕ) (known : List Declaration) → typed_expr fs (expr.Name text token) known ≡ by_binding nothing name_value (latest known text)
typed-Name fs text token known =
    ap (λ e'. typed_expr fs e' known) (sym (expr.rolls-Name text token)) ∙ ap (λ r. r known) (fold-roll-Expr Resolved (Resolving.typed_step fs) (Expr-F.Name text token))

sites-Name : (text : List ℕ) (token : ℕ) (known : List Declaration) (home : Home) → expr_sites (expr.Name text token) known home ≡ use_of Value known home text token ∷ []
sites-Name text token known home =
    ap (λ e'. expr_sites e' known home) (sym (expr.rolls-Name text token)) ∙ ap (λ r. r known home) (fold-roll-Expr ExprSites Sites.expr_sites_step (Expr-F.Name text token))

typed-Index : (fs : List ℕ) (text : List ℕ) (index : Expr) (token : ℕ) (known : List Declaration) → typed_expr fs (expr.Index text index token) known ≡ by_binding nothing (element_value token (typed_expr fs index known).expr) (latest known text)
typed-Index fs text index token known =
    ap (λ e'. typed_expr fs e' known) (sym (expr.rolls-Index text index token)) ∙ ap (λ r. r known) (fold-roll-Expr Resolved (Resolving.typed_step fs) (Expr-F.Index text index token))

sites-Index : (text : List ℕ) (index : Expr) (token : ℕ) (known : List Declaration) (home : Home) → expr_sites (expr.Index text index token) known home ≡ use_of Element known home text (token - 1) ∷ expr_sites index known home
sites-Index text index token known home =
    ap (λ e'. expr_sites e' known home) (sym (expr.rolls-Index text index token)) ∙ ap (λ r. r known home) (fold-roll-Expr ExprSites Sites.expr_sites_step (Expr-F.Index text index token))

typed-Call : (fs : List ℕ) (text : List ℕ) (e : Expr) (token : ℕ) (known : List Declaration) → typed_expr fs (expr.Call text (e ∷ []) token) known ≡ by_binding nothing (call_value fs (Tree.Argument (typed_expr fs e known).expr Tree.NoArguments)) (latest known text)
typed-Call fs text e token known =
    ap (λ e'. typed_expr fs e' known) (sym (expr.rolls-Call text (e ∷ []) token)) ∙ ap (λ r. r known) (fold-roll-Expr Resolved (Resolving.typed_step fs) (Expr-F.Call text (e ∷ []) token))

sites-Call : (text : List ℕ) (e : Expr) (token : ℕ) (known : List Declaration) (home : Home) → expr_sites (expr.Call text (e ∷ []) token) known home ≡ use_of (CallValue 1) known home text token ∷ expr_sites e known home
sites-Call text e token known home =
    ap (λ e'. expr_sites e' known home) (sym (expr.rolls-Call text (e ∷ []) token)) ∙ ap (λ r. r known home) (fold-roll-Expr ExprSites Sites.expr_sites_step (Expr-F.Call text (e ∷ []) token))
    ∙ ap (λ later. use_of (CallValue 1) known home text token ∷ later) (append-nil (expr_sites e known home))

typed-Binary : (fs : List ℕ) (op : Sign) (left right : Expr) (token : ℕ) (known : List Declaration) → typed_expr fs (expr.Binary op left right token) known ≡ binary_of op token (typed_expr fs left known) (typed_expr fs right known)
typed-Binary fs op left right token known =
    ap (λ e'. typed_expr fs e' known) (sym (expr.rolls-Binary op left right token)) ∙ ap (λ r. r known) (fold-roll-Expr Resolved (Resolving.typed_step fs) (Expr-F.Binary op left right token))

sites-Binary : (op : Sign) (left right : Expr) (token : ℕ) (known : List Declaration) (home : Home) → expr_sites (expr.Binary op left right token) known home ≡ expr_sites left known home ++ expr_sites right known home
sites-Binary op left right token known home =
    ap (λ e'. expr_sites e' known home) (sym (expr.rolls-Binary op left right token)) ∙ ap (λ r. r known home) (fold-roll-Expr ExprSites Sites.expr_sites_step (Expr-F.Binary op left right token))

at-Local : (fs : List ℕ) (unsigned : Bool) (text : List ℕ) (value : Option Expr) (token : ℕ) (known : List Declaration) → (resolved fs (stmt.Local unsigned text value token)).at known ≡ Tree.Local (variable_of token None) (part_in fs value known)
at-Local fs unsigned text value token known = ap (λ s. s.at known) (ap (resolved fs) (sym (stmt.rolls-Local unsigned text value token)) ∙ fold-roll-Stmt ResolvedStmt (Resolving.resolved_step fs) (Stmt-F.Local unsigned text value token))

declared-Local : (fs : List ℕ) (unsigned : Bool) (text : List ℕ) (value : Option Expr) (token : ℕ) → (resolved fs (stmt.Local unsigned text value token)).declared ≡ local_of unsigned text token ∷ []
declared-Local fs unsigned text value token = ap (λ s. s.declared) (ap (resolved fs) (sym (stmt.rolls-Local unsigned text value token)) ∙ fold-roll-Stmt ResolvedStmt (Resolving.resolved_step fs) (Stmt-F.Local unsigned text value token))

sites-Local : (unsigned : Bool) (text : List ℕ) (value : Option Expr) (token : ℕ) → stmt_sites (stmt.Local unsigned text value token) ≡ record { declared = local_of unsigned text token ∷ []; sites = λ place. site.Local (is_again place.scope text) token ∷ part_sites value place.scope.known place.home }
sites-Local unsigned text value token = ap stmt_sites (sym (stmt.rolls-Local unsigned text value token)) ∙ fold-roll-Stmt StmtSites Sites.stmt_sites_step (Stmt-F.Local unsigned text value token)

at-Assign : (fs : List ℕ) (text : List ℕ) (index : Option Expr) (value : Expr) (token : ℕ) (known : List Declaration) → (resolved fs (stmt.Assign text index value token)).at known ≡ assigned_to (latest known text) token (part_in fs index known) (typed_expr fs value known).expr
at-Assign fs text index value token known = ap (λ s. s.at known) (ap (resolved fs) (sym (stmt.rolls-Assign text index value token)) ∙ fold-roll-Stmt ResolvedStmt (Resolving.resolved_step fs) (Stmt-F.Assign text index value token))

declared-Assign : (fs : List ℕ) (text : List ℕ) (index : Option Expr) (value : Expr) (token : ℕ) → (resolved fs (stmt.Assign text index value token)).declared ≡ []
declared-Assign fs text index value token = ap (λ s. s.declared) (ap (resolved fs) (sym (stmt.rolls-Assign text index value token)) ∙ fold-roll-Stmt ResolvedStmt (Resolving.resolved_step fs) (Stmt-F.Assign text index value token))

sites-Assign : (text : List ℕ) (index : Option Expr) (value : Expr) (token : ℕ) → stmt_sites (stmt.Assign text index value token) ≡ Sites.only_sites (λ place. use_of (assign index) place.scope.known place.home text token ∷ (part_sites index place.scope.known place.home ++ expr_sites value place.scope.known place.home))
sites-Assign text index value token = ap stmt_sites (sym (stmt.rolls-Assign text index value token)) ∙ fold-roll-Stmt StmtSites Sites.stmt_sites_step (Stmt-F.Assign text index value token)

at-Return : (fs : List ℕ) (value : Option Expr) (token : ℕ) (known : List Declaration) → (resolved fs (stmt.Return value token)).at known ≡ Tree.Return (part_in fs value known)
at-Return fs value token known = ap (λ s. s.at known) (ap (resolved fs) (sym (stmt.rolls-Return value token)) ∙ fold-roll-Stmt ResolvedStmt (Resolving.resolved_step fs) (Stmt-F.Return value token))

declared-Return : (fs : List ℕ) (value : Option Expr) (token : ℕ) → (resolved fs (stmt.Return value token)).declared ≡ []
declared-Return fs value token = ap (λ s. s.declared) (ap (resolved fs) (sym (stmt.rolls-Return value token)) ∙ fold-roll-Stmt ResolvedStmt (Resolving.resolved_step fs) (Stmt-F.Return value token))

sites-Return : (value : Option Expr) (token : ℕ) → stmt_sites (stmt.Return value token) ≡ Sites.only_sites (λ place. site.Return place.home.result (is_some value) token ∷ part_sites value place.scope.known place.home)
sites-Return value token = ap stmt_sites (sym (stmt.rolls-Return value token)) ∙ fold-roll-Stmt StmtSites Sites.stmt_sites_step (Stmt-F.Return value token)

at-turns : (fs : List ℕ) (known : List Declaration) → (resolved fs turns).at known
    ≡ Tree.For ((resolved fs first).at known) (Some (typed_expr fs test (known ++ (resolved fs first).declared)).expr)
    ((resolved fs step).at (known ++ (resolved fs first).declared)) ((resolved fs body).at (known ++ (resolved fs first).declared))
at-turns fs known = ap (λ s. s.at known) (resolved-For fs (Some first) (Some test) (Some step) body 33)

declared-turns : (fs : List ℕ) → (resolved fs turns).declared ≡ []
declared-turns fs = ap (λ s. s.declared) (resolved-For fs (Some first) (Some test) (Some step) body 33)

sites-turns : stmt_sites turns ≡ Sites.only_sites (λ place.
    let around = place_after (stmt_sites first).declared (inner_scope place) in
    (stmt_sites first).sites (inner_scope place)
    ++ (expr_sites test around.scope.known around.home ++ (stmt_sites step).sites (inner_scope around) ++ (stmt_sites body).sites (looped around)))
sites-turns =
    ap stmt_sites (sym (stmt.rolls-For (Some first) (Some test) (Some step) body 33))
    ∙ fold-roll-Stmt StmtSites Sites.stmt_sites_step (Stmt-F.For (Some first) (Some test) (Some step) body 33)

ruleset resolved_forms = (typed-Number, typed-Name, typed-Index, typed-Call, typed-Binary, at-Local, declared-Local, at-Assign, declared-Assign, at-Return, declared-Return, at-turns, declared-turns)

ruleset site_forms = (sites-Number, sites-Name, sites-Index, sites-Call, sites-Binary, sites-Local, sites-Assign, sites-Return, sites-turns)

-- ---- both walks give them

functions_mention : in_functions (functions_in (10 ∷ 21 ∷ []) small.items []) ≡ small_mentions
functions_mention = simp resolved_forms

resolved_mentions : mentions (plain_program small) ≡ small_mentions
resolved_mentions = functions_mention

bound_mentions : at_sites (function_tokens small.items) (program_sites small) ≡ small_mentions
bound_mentions = simp site_forms
