-- Device: where a walk over a program stands, and what a walk over its items finds.
use Rattle.std.specs.Prelude.{ℕ, ◌+◌, ◌<◌, ◌^◌, List, [], ◌∷◌, ◌++◌, map, Option, Some, None}
use Rattle.c_grammar.specs.declared.item.Item.{Item}
use Rattle.c_types.specs.declared.verdict.Fault.{Fault}
use Rattle.c_types.specs.declared.verdict.Verdict.{Verdict}
use Rattle.c_grammar.specs.declared.expr.Expr.{Expr}
use Rattle.c_grammar.specs.declared.stmt.Stmt.{Stmt}
use Rattle.c_scopes.specs.declared.declaration.Declaration.{Declaration}
use Rattle.c_types.specs.declared.site.Site.{Site}
use Rattle.c_types.specs.declared.statements.Context.{Context}
use Rattle.c_types.specs.Verdicts.{noted, afresh}
use Rattle.c_scopes.specs.Declarations.{declaration_of, token_of}
use Rattle.c_types.specs.Sites.{ExprSites, Place, StmtSites, exprs_in_turn, expr_sites, only_sites, stmts_in_turn, stmt_sites, global_sites}

-- the place where these declarations are known
abbrev pub place_of : List Declaration → Context → Place
place_of known context = record {
  scope = record { known = known; start = context.start };
  home = context.home;
  in_loop = context.in_loop;
}

-- the sites of expressions, one after the other
abbrev pub list_sites : List Expr → ExprSites
list_sites es = exprs_in_turn (map expr_sites es)

-- the sites of statements, one after the other
abbrev pub body_sites : List Stmt → Place → List Site
body_sites ss = stmts_in_turn (map stmt_sites ss)

-- what a statement that need not be there declares, and its sites
abbrev pub branch_sites : Option Stmt → StmtSites
branch_sites None = only_sites (λ place. [])
branch_sites (Some s) = stmt_sites s

-- what statements in a row declare in their scope
abbrev pub declared_in : List Stmt → List Declaration
declared_in [] = []
declared_in (s ∷ ss) = (stmt_sites s).declared ++ declared_in ss

-- what is found once items in a row are gone past, where these are known and so many items stand before them
abbrev pub items_noted : ℕ → List Declaration → List Item → Verdict → Verdict
items_noted number known [] v = v
items_noted number known (item ∷ items) v =
    items_noted (number + 1) (known ++ declaration_of item ∷ []) items (noted (afresh v) (global_sites number known item))

-- before any site
abbrev pub start : Verdict
start = record { first = None; locals = 0 }

-- the first violation of items
abbrev pub first_fault_of : List Item → Option Fault
first_fault_of items = (items_noted 0 [] items start).first

-- the number of the token after the sign `[` that may follow the name is one
abbrev pub HasRoom : Item → Type 0
HasRoom item = token_of item + 2 < 2 ^ 32
