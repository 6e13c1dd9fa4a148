-- Promise: programs without their token numbers. Two programs are the same, but for token numbers, where they are equal without them.
use Rattle.std.specs.Prelude.{map, option_map}
use Rattle.c_grammar.specs.declared.expr.Expr.{Expr}
use Rattle.c_grammar.specs.declared.expr.Expr.TheVariants as e
use Rattle.c_grammar.specs.declared.expr.Expr.TheOpen.{Expr-F}
use Rattle.c_grammar.specs.declared.expr.Expr.TheFolds.{fold-Expr}
use Rattle.c_grammar.specs.declared.stmt.Stmt.{Stmt}
use Rattle.c_grammar.specs.declared.stmt.Stmt.TheVariants as s
use Rattle.c_grammar.specs.declared.stmt.Stmt.TheOpen.{Stmt-F}
use Rattle.c_grammar.specs.declared.stmt.Stmt.TheFolds.{fold-Stmt}
use Rattle.c_grammar.specs.declared.item.Parameter.{Parameter}
use Rattle.c_grammar.specs.declared.item.Item.{Item}
use Rattle.c_grammar.specs.declared.item.Item.TheVariants as i
use Rattle.c_grammar.specs.declared.item.Program.{Program}

-- one layer of an expression whose parts are bare
abbrev pub bare_expr_layer : Expr-F Expr → Expr
bare_expr_layer (Expr-F.Number value unsigned token) = e.Number value unsigned 0
bare_expr_layer (Expr-F.Name name token) = e.Name name 0
bare_expr_layer (Expr-F.Index name index token) = e.Index name index 0
bare_expr_layer (Expr-F.Call name arguments token) = e.Call name arguments 0
bare_expr_layer (Expr-F.Input token) = e.Input 0
bare_expr_layer (Expr-F.Paren inner token) = e.Paren inner 0
bare_expr_layer (Expr-F.Unary op inner token) = e.Unary op inner 0
bare_expr_layer (Expr-F.Binary op left right token) = e.Binary op left right 0

-- an expression, each of whose token numbers is 0
abbrev pub bare_expr : Expr → Expr
bare_expr = fold-Expr Expr bare_expr_layer

-- one layer of a statement whose parts are bare
abbrev pub bare_stmt_layer : Stmt-F Stmt → Stmt
bare_stmt_layer (Stmt-F.Block body token) = s.Block body 0
bare_stmt_layer (Stmt-F.Empty token) = s.Empty 0
bare_stmt_layer (Stmt-F.Local unsigned name value token) = s.Local unsigned name (option_map bare_expr value) 0
bare_stmt_layer (Stmt-F.Assign name index value token) = s.Assign name (option_map bare_expr index) (bare_expr value) 0
bare_stmt_layer (Stmt-F.Call name arguments token) = s.Call name (map bare_expr arguments) 0
bare_stmt_layer (Stmt-F.Release value token) = s.Release (bare_expr value) 0
bare_stmt_layer (Stmt-F.Check token) = s.Check 0
bare_stmt_layer (Stmt-F.Return value token) = s.Return (option_map bare_expr value) 0
bare_stmt_layer (Stmt-F.Break token) = s.Break 0
bare_stmt_layer (Stmt-F.Continue token) = s.Continue 0
bare_stmt_layer (Stmt-F.If test body other token) = s.If (bare_expr test) body other 0
bare_stmt_layer (Stmt-F.While test body token) = s.While (bare_expr test) body 0
bare_stmt_layer (Stmt-F.For first test step body token) = s.For first (option_map bare_expr test) step body 0

-- a statement, so too
abbrev pub bare_stmt : Stmt → Stmt
bare_stmt = fold-Stmt Stmt bare_stmt_layer

-- a parameter
abbrev pub bare_parameter : Parameter → Parameter
bare_parameter p = record { unsigned = p.unsigned; name = p.name; token = 0 }

-- a declaration
abbrev pub bare_item : Item → Item
bare_item (i.Object class unsigned name length token) = i.Object class unsigned name length 0
bare_item (i.Constant unsigned name length values braces token) = i.Constant unsigned name length values braces 0
bare_item (i.Untrusted name token) = i.Untrusted name 0
bare_item (i.Function private result name parameters body token) =
    i.Function private result name (map bare_parameter parameters) (map bare_stmt body) 0

-- a program, each of whose token numbers is 0
abbrev pub bare : Program → Program
bare p = record { items = map bare_item p.items }
