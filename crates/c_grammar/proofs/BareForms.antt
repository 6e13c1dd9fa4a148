-- Each form of expression and statement without its token numbers.
use Rattle.std.proofs.Common.{◌≡◌, ◌∙◌, ap, sym, ℕ, Bool, List, Option, None, Some}
use Rattle.std.specs.Prelude.{map, option_map}
use Rattle.c_token.specs.declared.signs.Sign.{Sign}
use Rattle.c_grammar.specs.declared.expr.Expr.{Expr}
use Rattle.c_grammar.specs.declared.expr.Expr.TheVariants as e
use Rattle.c_grammar.specs.declared.expr.Expr.TheOpen.{Expr-F}
use Rattle.c_grammar.specs.declared.expr.Expr.TheFolds.{fold-roll-Expr}
use Rattle.c_grammar.specs.declared.stmt.Stmt.{Stmt}
use Rattle.c_grammar.specs.declared.stmt.Stmt.TheVariants as s
use Rattle.c_grammar.specs.declared.stmt.Stmt.TheOpen.{Stmt-F}
use Rattle.c_grammar.specs.declared.stmt.Stmt.TheFolds.{fold-roll-Stmt}
use Rattle.c_grammar.specs.Bare.{bare_expr_layer, bare_expr, bare_stmt_layer, bare_stmt}

pub bare_expr-Number : (value : ℕ) (unsigned : Bool) (token : ℕ) → bare_expr (e.Number value unsigned token) ≡ e.Number value unsigned 0
bare_expr-Number value unsigned token = ap bare_expr (sym (e.rolls-Number value unsigned token)) ∙ fold-roll-Expr Expr bare_expr_layer (Expr-F.Number value unsigned token)

pub bare_expr-Name : (name : List ℕ) (token : ℕ) → bare_expr (e.Name name token) ≡ e.Name name 0
bare_expr-Name name token = ap bare_expr (sym (e.rolls-Name name token)) ∙ fold-roll-Expr Expr bare_expr_layer (Expr-F.Name name token)

pub bare_expr-Index : (name : List ℕ) (index : Expr) (token : ℕ) → bare_expr (e.Index name index token) ≡ e.Index name (bare_expr index) 0
bare_expr-Index name index token = ap bare_expr (sym (e.rolls-Index name index token)) ∙ fold-roll-Expr Expr bare_expr_layer (Expr-F.Index name index token)

pub bare_expr-Call : (name : List ℕ) (arguments : List Expr) (token : ℕ) → bare_expr (e.Call name arguments token) ≡ e.Call name (map bare_expr arguments) 0
bare_expr-Call name arguments token = ap bare_expr (sym (e.rolls-Call name arguments token)) ∙ fold-roll-Expr Expr bare_expr_layer (Expr-F.Call name arguments token)

pub bare_expr-Input : (token : ℕ) → bare_expr (e.Input token) ≡ e.Input 0
bare_expr-Input token = ap bare_expr (sym (e.rolls-Input token)) ∙ fold-roll-Expr Expr bare_expr_layer (Expr-F.Input token)

pub bare_expr-Paren : (inner : Expr) (token : ℕ) → bare_expr (e.Paren inner token) ≡ e.Paren (bare_expr inner) 0
bare_expr-Paren inner token = ap bare_expr (sym (e.rolls-Paren inner token)) ∙ fold-roll-Expr Expr bare_expr_layer (Expr-F.Paren inner token)

pub bare_expr-Unary : (op : Sign) (inner : Expr) (token : ℕ) → bare_expr (e.Unary op inner token) ≡ e.Unary op (bare_expr inner) 0
bare_expr-Unary op inner token = ap bare_expr (sym (e.rolls-Unary op inner token)) ∙ fold-roll-Expr Expr bare_expr_layer (Expr-F.Unary op inner token)

pub bare_expr-Binary : (op : Sign) (left : Expr) (right : Expr) (token : ℕ) → bare_expr (e.Binary op left right token) ≡ e.Binary op (bare_expr left) (bare_expr right) 0
bare_expr-Binary op left right token = ap bare_expr (sym (e.rolls-Binary op left right token)) ∙ fold-roll-Expr Expr bare_expr_layer (Expr-F.Binary op left right token)

pub bare_stmt-Block : (body : List Stmt) (token : ℕ) → bare_stmt (s.Block body token) ≡ s.Block (map bare_stmt body) 0
bare_stmt-Block body token = ap bare_stmt (sym (s.rolls-Block body token)) ∙ fold-roll-Stmt Stmt bare_stmt_layer (Stmt-F.Block body token)

pub bare_stmt-Empty : (token : ℕ) → bare_stmt (s.Empty token) ≡ s.Empty 0
bare_stmt-Empty token = ap bare_stmt (sym (s.rolls-Empty token)) ∙ fold-roll-Stmt Stmt bare_stmt_layer (Stmt-F.Empty token)

pub bare_stmt-Local : (unsigned : Bool) (name : List ℕ) (value : Option Expr) (token : ℕ) → bare_stmt (s.Local unsigned name value token) ≡ s.Local unsigned name (option_map bare_expr value) 0
bare_stmt-Local unsigned name value token = ap bare_stmt (sym (s.rolls-Local unsigned name value token)) ∙ fold-roll-Stmt Stmt bare_stmt_layer (Stmt-F.Local unsigned name value token)

pub bare_stmt-Assign : (name : List ℕ) (index : Option Expr) (value : Expr) (token : ℕ) → bare_stmt (s.Assign name index value token) ≡ s.Assign name (option_map bare_expr index) (bare_expr value) 0
bare_stmt-Assign name index value token = ap bare_stmt (sym (s.rolls-Assign name index value token)) ∙ fold-roll-Stmt Stmt bare_stmt_layer (Stmt-F.Assign name index value token)

pub bare_stmt-Call : (name : List ℕ) (arguments : List Expr) (token : ℕ) → bare_stmt (s.Call name arguments token) ≡ s.Call name (map bare_expr arguments) 0
bare_stmt-Call name arguments token = ap bare_stmt (sym (s.rolls-Call name arguments token)) ∙ fold-roll-Stmt Stmt bare_stmt_layer (Stmt-F.Call name arguments token)

pub bare_stmt-Release : (value : Expr) (token : ℕ) → bare_stmt (s.Release value token) ≡ s.Release (bare_expr value) 0
bare_stmt-Release value token = ap bare_stmt (sym (s.rolls-Release value token)) ∙ fold-roll-Stmt Stmt bare_stmt_layer (Stmt-F.Release value token)

pub bare_stmt-Check : (token : ℕ) → bare_stmt (s.Check token) ≡ s.Check 0
bare_stmt-Check token = ap bare_stmt (sym (s.rolls-Check token)) ∙ fold-roll-Stmt Stmt bare_stmt_layer (Stmt-F.Check token)

pub bare_stmt-Return : (value : Option Expr) (token : ℕ) → bare_stmt (s.Return value token) ≡ s.Return (option_map bare_expr value) 0
bare_stmt-Return value token = ap bare_stmt (sym (s.rolls-Return value token)) ∙ fold-roll-Stmt Stmt bare_stmt_layer (Stmt-F.Return value token)

pub bare_stmt-Break : (token : ℕ) → bare_stmt (s.Break token) ≡ s.Break 0
bare_stmt-Break token = ap bare_stmt (sym (s.rolls-Break token)) ∙ fold-roll-Stmt Stmt bare_stmt_layer (Stmt-F.Break token)

pub bare_stmt-Continue : (token : ℕ) → bare_stmt (s.Continue token) ≡ s.Continue 0
bare_stmt-Continue token = ap bare_stmt (sym (s.rolls-Continue token)) ∙ fold-roll-Stmt Stmt bare_stmt_layer (Stmt-F.Continue token)

pub bare_stmt-If : (test : Expr) (body : Stmt) (other : Option Stmt) (token : ℕ) → bare_stmt (s.If test body other token) ≡ s.If (bare_expr test) (bare_stmt body) (option_map bare_stmt other) 0
bare_stmt-If test body None token = ap bare_stmt (sym (s.rolls-If test body None token)) ∙ fold-roll-Stmt Stmt bare_stmt_layer (Stmt-F.If test body None token)
bare_stmt-If test body (Some other) token = ap bare_stmt (sym (s.rolls-If test body (Some other) token)) ∙ fold-roll-Stmt Stmt bare_stmt_layer (Stmt-F.If test body (Some other) token)

pub bare_stmt-While : (test : Expr) (body : Stmt) (token : ℕ) → bare_stmt (s.While test body token) ≡ s.While (bare_expr test) (bare_stmt body) 0
bare_stmt-While test body token = ap bare_stmt (sym (s.rolls-While test body token)) ∙ fold-roll-Stmt Stmt bare_stmt_layer (Stmt-F.While test body token)

pub bare_stmt-For : (first : Option Stmt) (test : Option Expr) (step : Option Stmt) (body : Stmt) (token : ℕ) → bare_stmt (s.For first test step body token) ≡ s.For (option_map bare_stmt first) (option_map bare_expr test) (option_map bare_stmt step) (bare_stmt body) 0
bare_stmt-For None test None body token = ap bare_stmt (sym (s.rolls-For None test None body token)) ∙ fold-roll-Stmt Stmt bare_stmt_layer (Stmt-F.For None test None body token)
bare_stmt-For None test (Some step) body token = ap bare_stmt (sym (s.rolls-For None test (Some step) body token)) ∙ fold-roll-Stmt Stmt bare_stmt_layer (Stmt-F.For None test (Some step) body token)
bare_stmt-For (Some first) test None body token = ap bare_stmt (sym (s.rolls-For (Some first) test None body token)) ∙ fold-roll-Stmt Stmt bare_stmt_layer (Stmt-F.For (Some first) test None body token)
bare_stmt-For (Some first) test (Some step) body token = ap bare_stmt (sym (s.rolls-For (Some first) test (Some step) body token)) ∙ fold-roll-Stmt Stmt bare_stmt_layer (Stmt-F.For (Some first) test (Some step) body token)
