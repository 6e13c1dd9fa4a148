-- What is printed of each variant.
use Rattle.std.proofs.Common.{◌≡◌, ℕ, Bool, List, Option, None, Some, sym, ap, ◌∙◌}
use Rattle.std.specs.Prelude.{map}
use Rattle.std.specs.Option.{option_map}
use Rattle.c_token.specs.declared.kinds.Kind.{Kind}
use Rattle.c_token.specs.declared.signs.Sign.{Sign}
use Rattle.c_grammar.specs.declared.expr.Expr.{Expr}
use Rattle.c_grammar.specs.declared.expr.Expr.TheVariants as exprs
use Rattle.c_grammar.specs.declared.expr.Expr.TheOpen.{Expr-F}
use Rattle.c_grammar.specs.declared.expr.Expr.TheFolds.{fold-roll-Expr}
use Rattle.c_grammar.specs.declared.stmt.Stmt.{Stmt}
use Rattle.c_grammar.specs.declared.stmt.Stmt.TheVariants as stmts
use Rattle.c_grammar.specs.declared.stmt.Stmt.TheOpen.{Stmt-F}
use Rattle.c_grammar.specs.declared.stmt.Stmt.TheFolds.{fold-roll-Stmt}
use Rattle.c_printer.specs.PrintedTokens.{Standing, printed_expr_layer, expr_kinds, printed_stmt_layer, stmt_kinds}

pub expr_kinds-Number : (value : ℕ) (unsigned : Bool) (token : ℕ) → expr_kinds (exprs.Number value unsigned token) ≡ printed_expr_layer (Expr-F.Number value unsigned token)
expr_kinds-Number value unsigned token = ap expr_kinds (sym (exprs.rolls-Number value unsigned token)) ∙ fold-roll-Expr (List Kind) printed_expr_layer (Expr-F.Number value unsigned token)

pub expr_kinds-Name : (name : List ℕ) (token : ℕ) → expr_kinds (exprs.Name name token) ≡ printed_expr_layer (Expr-F.Name name token)
expr_kinds-Name name token = ap expr_kinds (sym (exprs.rolls-Name name token)) ∙ fold-roll-Expr (List Kind) printed_expr_layer (Expr-F.Name name token)

pub expr_kinds-Index : (name : List ℕ) (index : Expr) (token : ℕ) → expr_kinds (exprs.Index name index token) ≡ printed_expr_layer (Expr-F.Index name (expr_kinds index) token)
expr_kinds-Index name index token = ap expr_kinds (sym (exprs.rolls-Index name index token)) ∙ fold-roll-Expr (List Kind) printed_expr_layer (Expr-F.Index name index token)

pub expr_kinds-Call : (name : List ℕ) (arguments : List Expr) (token : ℕ) → expr_kinds (exprs.Call name arguments token) ≡ printed_expr_layer (Expr-F.Call name (map expr_kinds arguments) token)
expr_kinds-Call name arguments token = ap expr_kinds (sym (exprs.rolls-Call name arguments token)) ∙ fold-roll-Expr (List Kind) printed_expr_layer (Expr-F.Call name arguments token)

pub expr_kinds-Input : (token : ℕ) → expr_kinds (exprs.Input token) ≡ printed_expr_layer (Expr-F.Input token)
expr_kinds-Input token = ap expr_kinds (sym (exprs.rolls-Input token)) ∙ fold-roll-Expr (List Kind) printed_expr_layer (Expr-F.Input token)

pub expr_kinds-Paren : (inner : Expr) (token : ℕ) → expr_kinds (exprs.Paren inner token) ≡ printed_expr_layer (Expr-F.Paren (expr_kinds inner) token)
expr_kinds-Paren inner token = ap expr_kinds (sym (exprs.rolls-Paren inner token)) ∙ fold-roll-Expr (List Kind) printed_expr_layer (Expr-F.Paren inner token)

pub expr_kinds-Unary : (op : Sign) (inner : Expr) (token : ℕ) → expr_kinds (exprs.Unary op inner token) ≡ printed_expr_layer (Expr-F.Unary op (expr_kinds inner) token)
expr_kinds-Unary op inner token = ap expr_kinds (sym (exprs.rolls-Unary op inner token)) ∙ fold-roll-Expr (List Kind) printed_expr_layer (Expr-F.Unary op inner token)

pub expr_kinds-Binary : (op : Sign) (left : Expr) (right : Expr) (token : ℕ) → expr_kinds (exprs.Binary op left right token) ≡ printed_expr_layer (Expr-F.Binary op (expr_kinds left) (expr_kinds right) token)
expr_kinds-Binary op left right token = ap expr_kinds (sym (exprs.rolls-Binary op left right token)) ∙ fold-roll-Expr (List Kind) printed_expr_layer (Expr-F.Binary op left right token)

pub stmt_kinds-Block : (body : List Stmt) (token : ℕ) → stmt_kinds (stmts.Block body token) ≡ printed_stmt_layer (Stmt-F.Block (map stmt_kinds body) token)
stmt_kinds-Block body token = ap stmt_kinds (sym (stmts.rolls-Block body token)) ∙ fold-roll-Stmt (Standing → List Kind) printed_stmt_layer (Stmt-F.Block body token)

pub stmt_kinds-Empty : (token : ℕ) → stmt_kinds (stmts.Empty token) ≡ printed_stmt_layer (Stmt-F.Empty token)
stmt_kinds-Empty token = ap stmt_kinds (sym (stmts.rolls-Empty token)) ∙ fold-roll-Stmt (Standing → List Kind) printed_stmt_layer (Stmt-F.Empty token)

pub stmt_kinds-Local : (unsigned : Bool) (name : List ℕ) (value : Option Expr) (token : ℕ) → stmt_kinds (stmts.Local unsigned name value token) ≡ printed_stmt_layer (Stmt-F.Local unsigned name value token)
stmt_kinds-Local unsigned name value token = ap stmt_kinds (sym (stmts.rolls-Local unsigned name value token)) ∙ fold-roll-Stmt (Standing → List Kind) printed_stmt_layer (Stmt-F.Local unsigned name value token)

pub stmt_kinds-Assign : (name : List ℕ) (index : Option Expr) (value : Expr) (token : ℕ) → stmt_kinds (stmts.Assign name index value token) ≡ printed_stmt_layer (Stmt-F.Assign name index value token)
stmt_kinds-Assign name index value token = ap stmt_kinds (sym (stmts.rolls-Assign name index value token)) ∙ fold-roll-Stmt (Standing → List Kind) printed_stmt_layer (Stmt-F.Assign name index value token)

pub stmt_kinds-Call : (name : List ℕ) (arguments : List Expr) (token : ℕ) → stmt_kinds (stmts.Call name arguments token) ≡ printed_stmt_layer (Stmt-F.Call name arguments token)
stmt_kinds-Call name arguments token = ap stmt_kinds (sym (stmts.rolls-Call name arguments token)) ∙ fold-roll-Stmt (Standing → List Kind) printed_stmt_layer (Stmt-F.Call name arguments token)

pub stmt_kinds-Release : (value : Expr) (token : ℕ) → stmt_kinds (stmts.Release value token) ≡ printed_stmt_layer (Stmt-F.Release value token)
stmt_kinds-Release value token = ap stmt_kinds (sym (stmts.rolls-Release value token)) ∙ fold-roll-Stmt (Standing → List Kind) printed_stmt_layer (Stmt-F.Release value token)

pub stmt_kinds-Check : (token : ℕ) → stmt_kinds (stmts.Check token) ≡ printed_stmt_layer (Stmt-F.Check token)
stmt_kinds-Check token = ap stmt_kinds (sym (stmts.rolls-Check token)) ∙ fold-roll-Stmt (Standing → List Kind) printed_stmt_layer (Stmt-F.Check token)

pub stmt_kinds-Return : (value : Option Expr) (token : ℕ) → stmt_kinds (stmts.Return value token) ≡ printed_stmt_layer (Stmt-F.Return value token)
stmt_kinds-Return value token = ap stmt_kinds (sym (stmts.rolls-Return value token)) ∙ fold-roll-Stmt (Standing → List Kind) printed_stmt_layer (Stmt-F.Return value token)

pub stmt_kinds-Break : (token : ℕ) → stmt_kinds (stmts.Break token) ≡ printed_stmt_layer (Stmt-F.Break token)
stmt_kinds-Break token = ap stmt_kinds (sym (stmts.rolls-Break token)) ∙ fold-roll-Stmt (Standing → List Kind) printed_stmt_layer (Stmt-F.Break token)

pub stmt_kinds-Continue : (token : ℕ) → stmt_kinds (stmts.Continue token) ≡ printed_stmt_layer (Stmt-F.Continue token)
stmt_kinds-Continue token = ap stmt_kinds (sym (stmts.rolls-Continue token)) ∙ fold-roll-Stmt (Standing → List Kind) printed_stmt_layer (Stmt-F.Continue token)

pub stmt_kinds-If : (test : Expr) (body : Stmt) (other : Option Stmt) (token : ℕ) → stmt_kinds (stmts.If test body other token) ≡ printed_stmt_layer (Stmt-F.If test (stmt_kinds body) (option_map stmt_kinds other) token)
stmt_kinds-If test body None token = ap stmt_kinds (sym (stmts.rolls-If test body None token)) ∙ fold-roll-Stmt (Standing → List Kind) printed_stmt_layer (Stmt-F.If test body None token)
stmt_kinds-If test body (Some alternative) token = ap stmt_kinds (sym (stmts.rolls-If test body (Some alternative) token)) ∙ fold-roll-Stmt (Standing → List Kind) printed_stmt_layer (Stmt-F.If test body (Some alternative) token)

pub stmt_kinds-While : (test : Expr) (body : Stmt) (token : ℕ) → stmt_kinds (stmts.While test body token) ≡ printed_stmt_layer (Stmt-F.While test (stmt_kinds body) token)
stmt_kinds-While test body token = ap stmt_kinds (sym (stmts.rolls-While test body token)) ∙ fold-roll-Stmt (Standing → List Kind) printed_stmt_layer (Stmt-F.While test body token)

pub stmt_kinds-For : (first : Option Stmt) (test : Option Expr) (step : Option Stmt) (body : Stmt) (token : ℕ) → stmt_kinds (stmts.For first test step body token) ≡ printed_stmt_layer (Stmt-F.For (option_map stmt_kinds first) test (option_map stmt_kinds step) (stmt_kinds body) token)
stmt_kinds-For None test None body token = ap stmt_kinds (sym (stmts.rolls-For None test None body token)) ∙ fold-roll-Stmt (Standing → List Kind) printed_stmt_layer (Stmt-F.For None test None body token)
stmt_kinds-For None test (Some last) body token = ap stmt_kinds (sym (stmts.rolls-For None test (Some last) body token)) ∙ fold-roll-Stmt (Standing → List Kind) printed_stmt_layer (Stmt-F.For None test (Some last) body token)
stmt_kinds-For (Some part) test None body token = ap stmt_kinds (sym (stmts.rolls-For (Some part) test None body token)) ∙ fold-roll-Stmt (Standing → List Kind) printed_stmt_layer (Stmt-F.For (Some part) test None body token)
stmt_kinds-For (Some part) test (Some last) body token = ap stmt_kinds (sym (stmts.rolls-For (Some part) test (Some last) body token)) ∙ fold-roll-Stmt (Standing → List Kind) printed_stmt_layer (Stmt-F.For (Some part) test (Some last) body token)
