-- Each form of expression and statement of the code as the one of the definitions, for proofs here and in the crates above.
use Rattle.std.proofs.Common.{◌≡◌, ◌∙◌, ap, sym, ℕ, List, [], ◌∷◌, map, Option, Some, None, refl}
use Rattle.aegis_num.specs.declared.operators.BinaryOp.{BinaryOp}
use Rattle.aegis_num.specs.declared.operators.UnaryOp.{UnaryOp}
use Rattle.c_semantics.specs.declared.tree.Expr.{Expr}
use Rattle.c_semantics.specs.declared.tree.Expr.TheVariants as expr
use Rattle.c_semantics.specs.declared.tree.Expr.TheOpen.{Expr-F}
use Rattle.c_semantics.specs.declared.tree.Expr.TheFolds.{fold-roll-Expr}
use Rattle.c_semantics.specs.declared.tree.Stmt.{Stmt}
use Rattle.c_semantics.specs.declared.tree.Stmt.TheVariants as stmt
use Rattle.c_semantics.specs.declared.tree.Stmt.TheOpen.{Stmt-F}
use Rattle.c_semantics.specs.declared.tree.Stmt.TheFolds.{fold-roll-Stmt}
use Rattle.c_semantics.specs.declared.tree.Variable.{Variable}
use Rattle.c_semantics.specs.ResolvedTree as Tree
use Rattle.c_semantics.specs.ResolvedViews.{arguments_of, expr_step, expr_of, exprs_of, part_of, in_turn, stmt_step, stmt_of, stmts_of, branch_of}

-- ---- lists

arguments_of-map : (es : List Expr) → arguments_of (map expr_of es) ≡ exprs_of es
arguments_of-map [] = refl
arguments_of-map (e ∷ es) = ap (λ later. Tree.Argument (expr_of e) later) (arguments_of-map es)

in_turn-map : (ss : List Stmt) → in_turn (map stmt_of ss) ≡ stmts_of ss
in_turn-map [] = refl
in_turn-map (s ∷ ss) = ap (λ later. Tree.Then (stmt_of s) later) (in_turn-map ss)

-- ---- expressions

pub expr_of-Number : (value : ℕ) → expr_of (expr.Number value) ≡ Tree.Number value
expr_of-Number value = ap expr_of (sym (expr.rolls-Number value)) ∙ fold-roll-Expr Tree.Expr expr_step (Expr-F.Number value)

pub expr_of-Scalar : (variable : Variable) → expr_of (expr.Scalar variable) ≡ Tree.Scalar variable
expr_of-Scalar variable = ap expr_of (sym (expr.rolls-Scalar variable)) ∙ fold-roll-Expr Tree.Expr expr_step (Expr-F.Scalar variable)

pub expr_of-Indexed : (at : ℕ) (array : Variable) (length : ℕ) (index : Expr) → expr_of (expr.Indexed at array length index) ≡ Tree.Indexed at array length (expr_of index)
expr_of-Indexed at array length index = ap expr_of (sym (expr.rolls-Indexed at array length index)) ∙ fold-roll-Expr Tree.Expr expr_step (Expr-F.Indexed at array length index)

pub expr_of-Input : expr_of expr.Input ≡ Tree.Input
expr_of-Input = ap expr_of (sym expr.rolls-Input) ∙ fold-roll-Expr Tree.Expr expr_step Expr-F.Input

pub expr_of-Unary : (op : UnaryOp) (inner : Expr) → expr_of (expr.Unary op inner) ≡ Tree.Unary op (expr_of inner)
expr_of-Unary op inner = ap expr_of (sym (expr.rolls-Unary op inner)) ∙ fold-roll-Expr Tree.Expr expr_step (Expr-F.Unary op inner)

pub expr_of-Binary : (at : ℕ) (op : BinaryOp) (left : Expr) (right : Expr) → expr_of (expr.Binary at op left right) ≡ Tree.Binary at op (expr_of left) (expr_of right)
expr_of-Binary at op left right = ap expr_of (sym (expr.rolls-Binary at op left right)) ∙ fold-roll-Expr Tree.Expr expr_step (Expr-F.Binary at op left right)

pub expr_of-Both : (left : Expr) (right : Expr) → expr_of (expr.Both left right) ≡ Tree.Both (expr_of left) (expr_of right)
expr_of-Both left right = ap expr_of (sym (expr.rolls-Both left right)) ∙ fold-roll-Expr Tree.Expr expr_step (Expr-F.Both left right)

pub expr_of-Either : (left : Expr) (right : Expr) → expr_of (expr.Either left right) ≡ Tree.Either (expr_of left) (expr_of right)
expr_of-Either left right = ap expr_of (sym (expr.rolls-Either left right)) ∙ fold-roll-Expr Tree.Expr expr_step (Expr-F.Either left right)

pub expr_of-Called : (function : ℕ) (arguments : List Expr) → expr_of (expr.Called function arguments) ≡ Tree.Called function (exprs_of arguments)
expr_of-Called function arguments =
    ap expr_of (sym (expr.rolls-Called function arguments)) ∙ fold-roll-Expr Tree.Expr expr_step (Expr-F.Called function arguments)
    ∙ ap (λ es. Tree.Called function es) (arguments_of-map arguments)

-- ---- statements

pub stmt_of-Empty : stmt_of stmt.Empty ≡ Tree.Empty
stmt_of-Empty = ap stmt_of (sym stmt.rolls-Empty) ∙ fold-roll-Stmt Tree.Stmt stmt_step Stmt-F.Empty

pub stmt_of-Local : (variable : Variable) (value : Option Expr) → stmt_of (stmt.Local variable value) ≡ Tree.Local variable (part_of value)
stmt_of-Local variable value = ap stmt_of (sym (stmt.rolls-Local variable value)) ∙ fold-roll-Stmt Tree.Stmt stmt_step (Stmt-F.Local variable value)

pub stmt_of-Assign : (variable : Variable) (value : Expr) → stmt_of (stmt.Assign variable value) ≡ Tree.Assign variable (expr_of value)
stmt_of-Assign variable value = ap stmt_of (sym (stmt.rolls-Assign variable value)) ∙ fold-roll-Stmt Tree.Stmt stmt_step (Stmt-F.Assign variable value)

pub stmt_of-Store : (at : ℕ) (array : Variable) (length : ℕ) (index : Expr) (value : Expr) → stmt_of (stmt.Store at array length index value) ≡ Tree.Store at array length (expr_of index) (expr_of value)
stmt_of-Store at array length index value = ap stmt_of (sym (stmt.rolls-Store at array length index value)) ∙ fold-roll-Stmt Tree.Stmt stmt_step (Stmt-F.Store at array length index value)

pub stmt_of-Call : (function : ℕ) (arguments : List Expr) → stmt_of (stmt.Call function arguments) ≡ Tree.Call function (exprs_of arguments)
stmt_of-Call function arguments = ap stmt_of (sym (stmt.rolls-Call function arguments)) ∙ fold-roll-Stmt Tree.Stmt stmt_step (Stmt-F.Call function arguments)

pub stmt_of-Suspend : stmt_of stmt.Suspend ≡ Tree.Suspend
stmt_of-Suspend = ap stmt_of (sym stmt.rolls-Suspend) ∙ fold-roll-Stmt Tree.Stmt stmt_step Stmt-F.Suspend

pub stmt_of-Release : (value : Expr) → stmt_of (stmt.Release value) ≡ Tree.Release (expr_of value)
stmt_of-Release value = ap stmt_of (sym (stmt.rolls-Release value)) ∙ fold-roll-Stmt Tree.Stmt stmt_step (Stmt-F.Release value)

pub stmt_of-Check : stmt_of stmt.Check ≡ Tree.Check
stmt_of-Check = ap stmt_of (sym stmt.rolls-Check) ∙ fold-roll-Stmt Tree.Stmt stmt_step Stmt-F.Check

pub stmt_of-Return : (value : Option Expr) → stmt_of (stmt.Return value) ≡ Tree.Return (part_of value)
stmt_of-Return value = ap stmt_of (sym (stmt.rolls-Return value)) ∙ fold-roll-Stmt Tree.Stmt stmt_step (Stmt-F.Return value)

pub stmt_of-Break : stmt_of stmt.Break ≡ Tree.Break
stmt_of-Break = ap stmt_of (sym stmt.rolls-Break) ∙ fold-roll-Stmt Tree.Stmt stmt_step Stmt-F.Break

pub stmt_of-Continue : stmt_of stmt.Continue ≡ Tree.Continue
stmt_of-Continue = ap stmt_of (sym stmt.rolls-Continue) ∙ fold-roll-Stmt Tree.Stmt stmt_step Stmt-F.Continue

pub stmt_of-While : (test : Expr) (body : Stmt) → stmt_of (stmt.While test body) ≡ Tree.While (expr_of test) (stmt_of body)
stmt_of-While test body = ap stmt_of (sym (stmt.rolls-While test body)) ∙ fold-roll-Stmt Tree.Stmt stmt_step (Stmt-F.While test body)

pub stmt_of-Block : (body : List Stmt) → stmt_of (stmt.Block body) ≡ Tree.Block (stmts_of body)
stmt_of-Block body =
    ap stmt_of (sym (stmt.rolls-Block body)) ∙ fold-roll-Stmt Tree.Stmt stmt_step (Stmt-F.Block body) ∙ ap (λ s. Tree.Block s) (in_turn-map body)

pub stmt_of-If : (test : Expr) (body : Stmt) (other : Option Stmt) → stmt_of (stmt.If test body other) ≡ Tree.If (expr_of test) (stmt_of body) (branch_of other)
stmt_of-If test body None = ap stmt_of (sym (stmt.rolls-If test body None)) ∙ fold-roll-Stmt Tree.Stmt stmt_step (Stmt-F.If test body None)
stmt_of-If test body (Some other) =
    ap stmt_of (sym (stmt.rolls-If test body (Some other))) ∙ fold-roll-Stmt Tree.Stmt stmt_step (Stmt-F.If test body (Some other))

stmt_of-For-none-none : (test : Option Expr) (body : Stmt) → stmt_of (stmt.For None test None body) ≡ Tree.For (branch_of None) (part_of test) (branch_of None) (stmt_of body)
stmt_of-For-none-none test body = ap stmt_of (sym (stmt.rolls-For None test None body)) ∙ fold-roll-Stmt Tree.Stmt stmt_step (Stmt-F.For None test None body)

stmt_of-For-none-some : (test : Option Expr) (step : Stmt) (body : Stmt) → stmt_of (stmt.For None test (Some step) body) ≡ Tree.For (branch_of None) (part_of test) (branch_of (Some step)) (stmt_of body)
stmt_of-For-none-some test step body = ap stmt_of (sym (stmt.rolls-For None test (Some step) body)) ∙ fold-roll-Stmt Tree.Stmt stmt_step (Stmt-F.For None test (Some step) body)

stmt_of-For-some-none : (first : Stmt) (test : Option Expr) (body : Stmt) → stmt_of (stmt.For (Some first) test None body) ≡ Tree.For (branch_of (Some first)) (part_of test) (branch_of None) (stmt_of body)
stmt_of-For-some-none first test body = ap stmt_of (sym (stmt.rolls-For (Some first) test None body)) ∙ fold-roll-Stmt Tree.Stmt stmt_step (Stmt-F.For (Some first) test None body)

stmt_of-For-some-some : (first : Stmt) (test : Option Expr) (step : Stmt) (body : Stmt) → stmt_of (stmt.For (Some first) test (Some step) body) ≡ Tree.For (branch_of (Some first)) (part_of test) (branch_of (Some step)) (stmt_of body)
stmt_of-For-some-some first test step body = ap stmt_of (sym (stmt.rolls-For (Some first) test (Some step) body)) ∙ fold-roll-Stmt Tree.Stmt stmt_step (Stmt-F.For (Some first) test (Some step) body)

pub stmt_of-For : (first : Option Stmt) (test : Option Expr) (step : Option Stmt) (body : Stmt) → stmt_of (stmt.For first test step body) ≡ Tree.For (branch_of first) (part_of test) (branch_of step) (stmt_of body)
stmt_of-For None test None body = stmt_of-For-none-none test body
stmt_of-For None test (Some step) body = stmt_of-For-none-some test step body
stmt_of-For (Some first) test None body = stmt_of-For-some-none first test body
stmt_of-For (Some first) test (Some step) body = stmt_of-For-some-some first test step body

pub ruleset expr_views = (expr_of-Number, expr_of-Scalar, expr_of-Indexed, expr_of-Input, expr_of-Unary, expr_of-Binary, expr_of-Both, expr_of-Either, expr_of-Called)

pub ruleset stmt_views = (stmt_of-Empty, stmt_of-Local, stmt_of-Assign, stmt_of-Store, stmt_of-Call, stmt_of-Suspend, stmt_of-Release, stmt_of-Check, stmt_of-Return, stmt_of-Break, stmt_of-Continue, stmt_of-While, stmt_of-Block, stmt_of-If, stmt_of-For)
