-- Promise: how many nodes a program has: its statements, its expressions other than those in parentheses, its functions and their
-- parameters. Untrusted code is none of its functions.
use Rattle.std.specs.Prelude.{◌≡◌, ℕ, ◌+◌, List, [], ◌∷◌, length, Option, Some, None}
use Rattle.c_grammar.specs.declared.expr.Expr.{Expr}
use Rattle.c_grammar.specs.declared.expr.Expr.TheOpen.{Expr-F}
use Rattle.c_grammar.specs.declared.expr.Expr.TheFolds.{fold-Expr}
use Rattle.c_grammar.specs.declared.stmt.Stmt.{Stmt}
use Rattle.c_grammar.specs.declared.stmt.Stmt.TheOpen.{Stmt-F}
use Rattle.c_grammar.specs.declared.stmt.Stmt.TheFolds.{fold-Stmt}
use Rattle.c_grammar.specs.declared.item.Item.{Item}
use Rattle.c_grammar.specs.declared.item.Item.TheVariants as item
use Rattle.c_grammar.specs.declared.item.Program.{Program}
use Rattle.c_semantics.specs.Nodes.{nodes}
use Rattle.c_resolver.specs.Resolving.{plain_program}

abbrev pub sum_of : List ℕ → ℕ
sum_of [] = 0
sum_of (n ∷ ns) = n + sum_of ns

abbrev pub if_any : Option ℕ → ℕ
if_any None = 0
if_any (Some n) = n

abbrev pub expr_count_step : Expr-F ℕ → ℕ
expr_count_step (Expr-F.Number value unsigned token) = 1
expr_count_step (Expr-F.Name name token) = 1
expr_count_step (Expr-F.Index name index token) = 1 + index
expr_count_step (Expr-F.Call name arguments token) = 1 + sum_of arguments
expr_count_step (Expr-F.Input token) = 1
expr_count_step (Expr-F.Paren inner token) = inner
expr_count_step (Expr-F.Unary op inner token) = 1 + inner
expr_count_step (Expr-F.Binary op left right token) = 1 + (left + right)

-- the nodes of an expression
abbrev pub expr_count : Expr → ℕ
expr_count = fold-Expr ℕ expr_count_step

abbrev pub part_count : Option Expr → ℕ
part_count None = 0
part_count (Some e) = expr_count e

abbrev pub list_count : List Expr → ℕ
list_count [] = 0
list_count (e ∷ es) = expr_count e + list_count es

abbrev pub stmt_count_step : Stmt-F ℕ → ℕ
stmt_count_step (Stmt-F.Block body token) = 1 + sum_of body
stmt_count_step (Stmt-F.Empty token) = 1
stmt_count_step (Stmt-F.Local unsigned name value token) = 1 + part_count value
stmt_count_step (Stmt-F.Assign name index value token) = 1 + (part_count index + expr_count value)
stmt_count_step (Stmt-F.Call name arguments token) = 1 + list_count arguments
stmt_count_step (Stmt-F.Release value token) = 1 + expr_count value
stmt_count_step (Stmt-F.Check token) = 1
stmt_count_step (Stmt-F.Return value token) = 1 + part_count value
stmt_count_step (Stmt-F.Break token) = 1
stmt_count_step (Stmt-F.Continue token) = 1
stmt_count_step (Stmt-F.If test body other token) = 1 + (expr_count test + (body + if_any other))
stmt_count_step (Stmt-F.While test body token) = 1 + (expr_count test + body)
stmt_count_step (Stmt-F.For first test step body token) = 1 + (if_any first + (part_count test + (if_any step + body)))

-- the nodes of a statement
abbrev pub stmt_count : Stmt → ℕ
stmt_count = fold-Stmt ℕ stmt_count_step

abbrev pub body_count : List Stmt → ℕ
body_count [] = 0
body_count (s ∷ ss) = stmt_count s + body_count ss

abbrev pub items_count : List Item → ℕ
items_count [] = 0
items_count (item.Object storage unsigned name length token ∷ items) = items_count items
items_count (item.Constant unsigned name length values braces token ∷ items) = items_count items
items_count (item.Untrusted name token ∷ items) = items_count items
items_count (item.Function private result name parameters body token ∷ items) = (1 + (length parameters + body_count body)) + items_count items

-- A program has as many nodes as it has once its names are resolved.
abbrev pub NodesAgree : Program → Type 0
NodesAgree p = nodes (plain_program p) ≡ items_count p.items
