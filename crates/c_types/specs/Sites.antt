-- Promise: the sites of a program: its places at which a typing rule may be broken, in the order of the source, each with
-- what is known there. A declaration is known from after it to the end of its scope.
use Rattle.std.specs.Prelude.{◌≡◌, ℕ, ◌+◌, ◌-◌, Bool, true, false, List, [], ◌∷◌, ◌++◌, length, map, Option, Some, None, is_some}
use Rattle.c_grammar.specs.declared.expr.Expr.{Expr}
use Rattle.c_grammar.specs.declared.expr.Expr.TheOpen.{Expr-F}
use Rattle.c_grammar.specs.declared.expr.Expr.TheFolds.{fold-Expr}
use Rattle.c_grammar.specs.declared.stmt.Stmt.{Stmt}
use Rattle.c_grammar.specs.declared.stmt.Stmt.TheOpen.{Stmt-F}
use Rattle.c_grammar.specs.declared.stmt.Stmt.TheFolds.{fold-Stmt}
use Rattle.c_grammar.specs.declared.item.Parameter.{Parameter}
use Rattle.c_grammar.specs.declared.item.Item.{Item}
use Rattle.c_grammar.specs.declared.item.Item.TheVariants as item
use Rattle.c_grammar.specs.declared.item.Program.{Program}
use Rattle.c_scopes.specs.declared.declaration.Declaration.{Declaration}
use Rattle.c_scopes.specs.Declarations.{local, item_name, token_of, declaration_of, declarations_of, parameter, parameters_of}
use Rattle.c_types.specs.declared.site.Home.{Home}
use Rattle.c_types.specs.declared.site.How.{How}
use Rattle.c_types.specs.declared.site.How.TheVariants.{Value, Element, Assign, AssignElement, Call, CallValue}
use Rattle.c_types.specs.declared.site.Site.{Site}
use Rattle.c_types.specs.declared.site.Site.TheVariants as site
use Rattle.c_scopes.specs.Scopes.{latest, declares, Scope, is_again}

-- a use of a name where these are known
abbrev pub use_of : How → List Declaration → Home → List ℕ → ℕ → Site
use_of how known home name at = site.Use how (latest known name) home at

-- the sites of an expression, where these are known
abbrev pub ExprSites : Type 0
ExprSites = List Declaration → Home → List Site

-- one after the other
abbrev pub exprs_in_turn : List ExprSites → ExprSites
exprs_in_turn [] known home = []
exprs_in_turn (e ∷ es) known home = e known home ++ exprs_in_turn es known home

-- the name of an indexed array stands before the sign `[`
abbrev pub expr_sites_step : Expr-F ExprSites → ExprSites
expr_sites_step (Expr-F.Number value unsigned token) known home = []
expr_sites_step (Expr-F.Name name token) known home = use_of Value known home name token ∷ []
expr_sites_step (Expr-F.Index name index token) known home = use_of Element known home name (token - 1) ∷ index known home
expr_sites_step (Expr-F.Call name arguments token) known home =
    use_of (CallValue (length arguments)) known home name token ∷ exprs_in_turn arguments known home
expr_sites_step (Expr-F.Input token) known home = []
expr_sites_step (Expr-F.Paren inner token) known home = inner known home
expr_sites_step (Expr-F.Unary op inner token) known home = inner known home
expr_sites_step (Expr-F.Binary op left right token) known home = left known home ++ right known home

-- the sites of an expression
abbrev pub expr_sites : Expr → ExprSites
expr_sites = fold-Expr ExprSites expr_sites_step

-- the sites of an expression that need not be there
abbrev pub part_sites : Option Expr → ExprSites
part_sites None known home = []
part_sites (Some e) known home = expr_sites e known home

-- where a statement stands: its scope, its function, and whether it is inside a loop
pub record Place : Type 0 where
  pub scope : Scope
  pub home : Home
  pub in_loop : Bool

-- a place, once these are declared in its scope
abbrev pub place_after : List Declaration → Place → Place
place_after ds place = record place { scope = record { known = place.scope.known ++ ds; start = place.scope.start } }

-- a new scope at a place
abbrev pub inner_scope : Place → Place
inner_scope place = record place { scope = record { known = place.scope.known; start = length place.scope.known } }

-- a new scope inside a loop at a place
abbrev pub looped : Place → Place
looped place = record (inner_scope place) { in_loop = true }

-- of a statement: what it declares in its scope, and its sites where it stands
pub record StmtSites : Type 0 where
  pub declared : List Declaration
  pub sites : Place → List Site

-- a statement that declares nothing in its scope
abbrev pub only_sites : (Place → List Site) → StmtSites
only_sites sites = record { declared = []; sites = sites }

-- a part that need not be there
abbrev pub sites_if_any : Option StmtSites → StmtSites
sites_if_any None = only_sites (λ place. [])
sites_if_any (Some s) = s

-- one after the other: what one declares is known to those after it
abbrev pub stmts_in_turn : List StmtSites → Place → List Site
stmts_in_turn [] place = []
stmts_in_turn (s ∷ ss) place = s.sites place ++ stmts_in_turn ss (place_after s.declared place)

-- a name that is assigned to
abbrev pub assign : Option Expr → How
assign None = Assign
assign (Some index) = AssignElement

-- Each part of an `if` or of a loop is a scope of its own, and a `for` is one around its parts.
abbrev pub stmt_sites_step : Stmt-F StmtSites → StmtSites
stmt_sites_step (Stmt-F.Block body token) = only_sites (λ place. stmts_in_turn body (inner_scope place))
stmt_sites_step (Stmt-F.Empty token) = only_sites (λ place. [])
stmt_sites_step (Stmt-F.Local unsigned name value token) = record {
  declared = local unsigned name token ∷ [];
  sites = λ place. site.Local (is_again place.scope name) token ∷ part_sites value place.scope.known place.home;
}
stmt_sites_step (Stmt-F.Assign name index value token) = only_sites (λ place.
    use_of (assign index) place.scope.known place.home name token
    ∷ (part_sites index place.scope.known place.home ++ expr_sites value place.scope.known place.home))
stmt_sites_step (Stmt-F.Call name arguments token) = only_sites (λ place.
    use_of (Call (length arguments)) place.scope.known place.home name token
    ∷ exprs_in_turn (map expr_sites arguments) place.scope.known place.home)
stmt_sites_step (Stmt-F.Release value token) = only_sites (λ place. expr_sites value place.scope.known place.home)
stmt_sites_step (Stmt-F.Check token) = only_sites (λ place. [])
stmt_sites_step (Stmt-F.Return value token) = only_sites (λ place.
    site.Return place.home.result (is_some value) token ∷ part_sites value place.scope.known place.home)
stmt_sites_step (Stmt-F.Break token) = only_sites (λ place. site.Jump place.in_loop token ∷ [])
stmt_sites_step (Stmt-F.Continue token) = only_sites (λ place. site.Jump place.in_loop token ∷ [])
stmt_sites_step (Stmt-F.If test body other token) = only_sites (λ place.
    expr_sites test place.scope.known place.home ++ body.sites (inner_scope place) ++ (sites_if_any other).sites (inner_scope place))
stmt_sites_step (Stmt-F.While test body token) = only_sites (λ place.
    expr_sites test place.scope.known place.home ++ body.sites (looped place))
stmt_sites_step (Stmt-F.For first test step body token) = only_sites (λ place.
    let around = place_after (sites_if_any first).declared (inner_scope place) in
    (sites_if_any first).sites (inner_scope place)
    ++ (part_sites test around.scope.known around.home ++ (sites_if_any step).sites (inner_scope around) ++ body.sites (looped around)))

-- what a statement declares in its scope, and its sites
abbrev pub stmt_sites : Stmt → StmtSites
stmt_sites = fold-Stmt StmtSites stmt_sites_step

-- the length of an array stands after its name and the sign `[`
abbrev pub length_sites : Option ℕ → ℕ → List Site
length_sites None token = []
length_sites (Some length) token = site.Length length (token + 2) ∷ []

-- the sites of parameters, the first of which has so many before it
abbrev pub parameter_sites : ℕ → List Parameter → Place → List Site
parameter_sites number [] place = []
parameter_sites number (p ∷ ps) place =
    site.Parameter number (is_again place.scope p.name) p.token ∷ parameter_sites (number + 1) ps (place_after (parameter p ∷ []) place)

-- Parameters and the outermost block of the body are one scope.
abbrev pub function_sites : List Parameter → List Stmt → Place → List Site
function_sites parameters body place =
    parameter_sites 0 parameters place ++ stmts_in_turn (map stmt_sites body) (place_after (parameters_of parameters) place)

-- a new scope in a function, where these are known
abbrev pub in_function : List Declaration → Home → Place
in_function known home = record { scope = record { known = known; start = length known }; home = home; in_loop = false }

-- the sites of an item besides its name, where these are known
abbrev pub inner_sites : List Declaration → Item → List Site
inner_sites known (item.Object storage unsigned name length token) = length_sites length token
inner_sites known (item.Constant unsigned name length' values braces token) =
    site.Constant length' (length values) braces token ∷ length_sites length' token
inner_sites known (item.Untrusted name token) = []
inner_sites known (item.Function private result name parameters body token) =
    function_sites parameters body (in_function known (record { private = private; result = result; token = token }))

-- the sites of an item, where these are known and so many items stand before it: its own name is known inside it
abbrev pub global_sites : ℕ → List Declaration → Item → List Site
global_sites number known item =
    site.Global number (declares known (item_name item)) (token_of item) ∷ inner_sites (known ++ declaration_of item ∷ []) item

-- the sites of an item after others
abbrev pub item_sites : List Item → Item → List Site
item_sites before item = global_sites (length before) (declarations_of before) item

-- an item of a program, and the items before it
pub record ItemFollows (p : Program) (before : List Item) (item : Item) : Type 0 where
  pub after : List Item
  pub all : p.items ≡ before ++ item ∷ after
