-- The nodes of each form of expression and statement, one equation each, and what a use that fits comes to.
use Rattle.std.proofs.Common.{◌≡◌, ◌∙◌, ap, sym, ℕ, ◌+◌, Bool, List, [], ◌∷◌, map, Option, Some, None, refl}
use Rattle.aegis_num.specs.Operators.{wrapped}
use Rattle.c_token.specs.declared.signs.Sign.{Sign}
use Rattle.c_grammar.specs.declared.expr.Expr.{Expr}
use Rattle.c_grammar.specs.declared.expr.Expr.TheVariants as expr
use Rattle.c_grammar.specs.declared.expr.Expr.TheOpen.{Expr-F}
use Rattle.c_grammar.specs.declared.expr.Expr.TheFolds.{fold-roll-Expr}
use Rattle.c_grammar.specs.declared.stmt.Stmt.{Stmt}
use Rattle.c_grammar.specs.declared.stmt.Stmt.TheVariants as stmt
use Rattle.c_grammar.specs.declared.stmt.Stmt.TheOpen.{Stmt-F}
use Rattle.c_grammar.specs.declared.stmt.Stmt.TheFolds.{fold-roll-Stmt}
use Rattle.c_scopes.specs.declared.declaration.Binding.{Binding}
use Rattle.c_scopes.specs.declared.declaration.Entity.{Entity}
use Rattle.c_scopes.specs.declared.declaration.Entity.TheVariants as entity
use Rattle.c_types.specs.declared.site.Home.{Home}
use Rattle.c_types.specs.declared.site.How.TheVariants.{Element, Assign, AssignElement, CallValue}
use Rattle.c_types.specs.declared.site.Rule.TheVariants as rule
use Rattle.c_types.specs.TypingRules.Breaks.{unknown, misused}
use Rattle.c_semantics.specs.declared.tree.Variable.{Variable}
use Rattle.c_semantics.specs.ResolvedTree as Tree
use Rattle.c_meaning.specs.SourceNodes.{expr_count, expr_count_step, part_count, list_count, stmt_count, stmt_count_step, body_count, sum_of}
use Rattle.c_meaning.proofs.Layers.{called, indexed}
use Rattle.c_meaning.proofs.Uses.{Fits, assigned_to}

-- ---- expressions

pub count-Number : (value : ℕ) (unsigned : Bool) (token : ℕ) → expr_count (expr.Number value unsigned token) ≡ 1
count-Number value unsigned token = ap expr_count (sym (expr.rolls-Number value unsigned token)) ∙ fold-roll-Expr ℕ expr_count_step (Expr-F.Number value unsigned token)

pub count-Name : (name : List ℕ) (token : ℕ) → expr_count (expr.Name name token) ≡ 1
count-Name name token = ap expr_count (sym (expr.rolls-Name name token)) ∙ fold-roll-Expr ℕ expr_count_step (Expr-F.Name name token)

pub count-Index : (name : List ℕ) (index : Expr) (token : ℕ) → expr_count (expr.Index name index token) ≡ 1 + expr_count index
count-Index name index token = ap expr_count (sym (expr.rolls-Index name index token)) ∙ fold-roll-Expr ℕ expr_count_step (Expr-F.Index name index token)

sum-map : (es : List Expr) → sum_of (map expr_count es) ≡ list_count es
sum-map [] = refl
sum-map (e ∷ es) = ap (λ n. expr_count e + n) (sum-map es)

pub count-Call : (name : List ℕ) (es : List Expr) (token : ℕ) → expr_count (expr.Call name es token) ≡ 1 + list_count es
count-Call name es token = ap expr_count (sym (expr.rolls-Call name es token)) ∙ fold-roll-Expr ℕ expr_count_step (Expr-F.Call name es token) ∙ ap (λ n. 1 + n) (sum-map es)

pub count-Input : (token : ℕ) → expr_count (expr.Input token) ≡ 1
count-Input token = ap expr_count (sym (expr.rolls-Input token)) ∙ fold-roll-Expr ℕ expr_count_step (Expr-F.Input token)

pub count-Paren : (inner : Expr) (token : ℕ) → expr_count (expr.Paren inner token) ≡ expr_count inner
count-Paren inner token = ap expr_count (sym (expr.rolls-Paren inner token)) ∙ fold-roll-Expr ℕ expr_count_step (Expr-F.Paren inner token)

pub count-Unary : (op : Sign) (inner : Expr) (token : ℕ) → expr_count (expr.Unary op inner token) ≡ 1 + expr_count inner
count-Unary op inner token = ap expr_count (sym (expr.rolls-Unary op inner token)) ∙ fold-roll-Expr ℕ expr_count_step (Expr-F.Unary op inner token)

pub count-Binary : (op : Sign) (left right : Expr) (token : ℕ) → expr_count (expr.Binary op left right token) ≡ 1 + (expr_count left + expr_count right)
count-Binary op left right token = ap expr_count (sym (expr.rolls-Binary op left right token)) ∙ fold-roll-Expr ℕ expr_count_step (Expr-F.Binary op left right token)

-- ---- statements

pub count-Empty : (token : ℕ) → stmt_count (stmt.Empty token) ≡ 1
count-Empty token = ap stmt_count (sym (stmt.rolls-Empty token)) ∙ fold-roll-Stmt ℕ stmt_count_step (Stmt-F.Empty token)

pub count-Local : (unsigned : Bool) (name : List ℕ) (value : Option Expr) (token : ℕ) → stmt_count (stmt.Local unsigned name value token) ≡ 1 + part_count value
count-Local unsigned name value token = ap stmt_count (sym (stmt.rolls-Local unsigned name value token)) ∙ fold-roll-Stmt ℕ stmt_count_step (Stmt-F.Local unsigned name value token)

pub count-Assign : (name : List ℕ) (index : Option Expr) (value : Expr) (token : ℕ) → stmt_count (stmt.Assign name index value token) ≡ 1 + (part_count index + expr_count value)
count-Assign name index value token = ap stmt_count (sym (stmt.rolls-Assign name index value token)) ∙ fold-roll-Stmt ℕ stmt_count_step (Stmt-F.Assign name index value token)

pub count-call : (name : List ℕ) (es : List Expr) (token : ℕ) → stmt_count (stmt.Call name es token) ≡ 1 + list_count es
count-call name es token = ap stmt_count (sym (stmt.rolls-Call name es token)) ∙ fold-roll-Stmt ℕ stmt_count_step (Stmt-F.Call name es token)

pub count-Release : (value : Expr) (token : ℕ) → stmt_count (stmt.Release value token) ≡ 1 + expr_count value
count-Release value token = ap stmt_count (sym (stmt.rolls-Release value token)) ∙ fold-roll-Stmt ℕ stmt_count_step (Stmt-F.Release value token)

pub count-Check : (token : ℕ) → stmt_count (stmt.Check token) ≡ 1
count-Check token = ap stmt_count (sym (stmt.rolls-Check token)) ∙ fold-roll-Stmt ℕ stmt_count_step (Stmt-F.Check token)

pub count-Return : (value : Option Expr) (token : ℕ) → stmt_count (stmt.Return value token) ≡ 1 + part_count value
count-Return value token = ap stmt_count (sym (stmt.rolls-Return value token)) ∙ fold-roll-Stmt ℕ stmt_count_step (Stmt-F.Return value token)

pub count-Break : (token : ℕ) → stmt_count (stmt.Break token) ≡ 1
count-Break token = ap stmt_count (sym (stmt.rolls-Break token)) ∙ fold-roll-Stmt ℕ stmt_count_step (Stmt-F.Break token)

pub count-Continue : (token : ℕ) → stmt_count (stmt.Continue token) ≡ 1
count-Continue token = ap stmt_count (sym (stmt.rolls-Continue token)) ∙ fold-roll-Stmt ℕ stmt_count_step (Stmt-F.Continue token)

sum-stmts : (ss : List Stmt) → sum_of (map stmt_count ss) ≡ body_count ss
sum-stmts [] = refl
sum-stmts (s ∷ ss) = ap (λ n. stmt_count s + n) (sum-stmts ss)

pub count-Block : (body : List Stmt) (token : ℕ) → stmt_count (stmt.Block body token) ≡ 1 + body_count body
count-Block body token = ap stmt_count (sym (stmt.rolls-Block body token)) ∙ fold-roll-Stmt ℕ stmt_count_step (Stmt-F.Block body token) ∙ ap (λ n. 1 + n) (sum-stmts body)

pub count-While : (test : Expr) (body : Stmt) (token : ℕ) → stmt_count (stmt.While test body token) ≡ 1 + (expr_count test + stmt_count body)
count-While test body token = ap stmt_count (sym (stmt.rolls-While test body token)) ∙ fold-roll-Stmt ℕ stmt_count_step (Stmt-F.While test body token)

-- the nodes of a part that need not be there
abbrev pub branch_count : Option Stmt → ℕ
branch_count None = 0
branch_count (Some s) = stmt_count s

pub count-If : (test : Expr) (body : Stmt) (other : Option Stmt) (token : ℕ) → stmt_count (stmt.If test body other token) ≡ 1 + (expr_count test + (stmt_count body + branch_count other))
count-If test body None token = ap stmt_count (sym (stmt.rolls-If test body None token)) ∙ fold-roll-Stmt ℕ stmt_count_step (Stmt-F.If test body None token)
count-If test body (Some other) token = ap stmt_count (sym (stmt.rolls-If test body (Some other) token)) ∙ fold-roll-Stmt ℕ stmt_count_step (Stmt-F.If test body (Some other) token)

pub count-For : (first : Option Stmt) (test : Option Expr) (step : Option Stmt) (body : Stmt) (token : ℕ) →
    stmt_count (stmt.For first test step body token) ≡ 1 + (branch_count first + (part_count test + (branch_count step + stmt_count body)))
count-For None test None body token = ap stmt_count (sym (stmt.rolls-For None test None body token)) ∙ fold-roll-Stmt ℕ stmt_count_step (Stmt-F.For None test None body token)
count-For None test (Some step) body token = ap stmt_count (sym (stmt.rolls-For None test (Some step) body token)) ∙ fold-roll-Stmt ℕ stmt_count_step (Stmt-F.For None test (Some step) body token)
count-For (Some first) test None body token = ap stmt_count (sym (stmt.rolls-For (Some first) test None body token)) ∙ fold-roll-Stmt ℕ stmt_count_step (Stmt-F.For (Some first) test None body token)
count-For (Some first) test (Some step) body token =
    ap stmt_count (sym (stmt.rolls-For (Some first) test (Some step) body token)) ∙ fold-roll-Stmt ℕ stmt_count_step (Stmt-F.For (Some first) test (Some step) body token)

-- ---- a use that fits

abbrev binding : ℕ → Entity → Binding
binding token e = record { token = token; entity = e }

indexed-known : (P : Tree.Expr → Type 0) (home : Home) (at token : ℕ) (e : Entity) (place : ℕ) (index : Tree.Expr) → Fits Element (Some (binding token e)) home at →
    ((x : Variable) (length : ℕ) → P (Tree.Indexed place x length index)) → P (indexed (Some (binding token e)) place index).expr
indexed-known P home at token (entity.Local unsigned) place index fits holds =
    absurd (fits rule.Shape (misused Element (binding token (entity.Local unsigned)) home at refl))
indexed-known P home at token (entity.Object class unsigned None) place index fits holds =
    absurd (fits rule.Shape (misused Element (binding token (entity.Object class unsigned None)) home at refl))
indexed-known P home at token (entity.Object class unsigned (Some length')) place index fits holds = holds _ _
indexed-known P home at token (entity.Function result untrusted parameters) place index fits holds =
    absurd (fits rule.Shape (misused Element (binding token (entity.Function result untrusted parameters)) home at refl))

pub indexed-fits : (P : Tree.Expr → Type 0) (home : Home) (at : ℕ) (means : Option Binding) (place : ℕ) (index : Tree.Expr) → Fits Element means home at →
    ((x : Variable) (length : ℕ) → P (Tree.Indexed place x length index)) → P (indexed means place index).expr
indexed-fits P home at None place index fits holds = absurd (fits rule.Unknown (unknown Element home at))
indexed-fits P home at (Some b) place index fits holds = indexed-known P home at b.token b.entity place index fits holds

called-known : (P : Tree.Expr → Type 0) (fs : List ℕ) (n : ℕ) (home : Home) (at token : ℕ) (e : Entity) (given : Tree.Arguments) → Fits (CallValue n) (Some (binding token e)) home at →
    ((function : ℕ) → P (Tree.Called function given)) → P (called fs (Some (binding token e)) given).expr
called-known P fs n home at token (entity.Local unsigned) given fits holds =
    absurd (fits rule.Shape (misused (CallValue n) (binding token (entity.Local unsigned)) home at refl))
called-known P fs n home at token (entity.Object class unsigned length') given fits holds =
    absurd (fits rule.Shape (misused (CallValue n) (binding token (entity.Object class unsigned length')) home at refl))
called-known P fs n home at token (entity.Function result untrusted parameters) given fits holds = holds _

pub called-fits : (P : Tree.Expr → Type 0) (fs : List ℕ) (n : ℕ) (home : Home) (at : ℕ) (means : Option Binding) (given : Tree.Arguments) → Fits (CallValue n) means home at →
    ((function : ℕ) → P (Tree.Called function given)) → P (called fs means given).expr
called-fits P fs n home at None given fits holds = absurd (fits rule.Unknown (unknown (CallValue n) home at))
called-fits P fs n home at (Some b) given fits holds = called-known P fs n home at b.token b.entity given fits holds

whole-known : (P : Tree.Stmt → Type 0) (home : Home) (at token : ℕ) (e : Entity) (place : ℕ) (value : Tree.Expr) → Fits Assign (Some (binding token e)) home at →
    ((x : Variable) → P (Tree.Assign x value)) → P (assigned_to (Some (binding token e)) place None value)
whole-known P home at token (entity.Local unsigned) place value fits holds = holds _
whole-known P home at token (entity.Object class unsigned length') place value fits holds = holds _
whole-known P home at token (entity.Function result untrusted parameters) place value fits holds =
    absurd (fits rule.Shape (misused Assign (binding token (entity.Function result untrusted parameters)) home at refl))

pub whole-fits : (P : Tree.Stmt → Type 0) (home : Home) (at : ℕ) (means : Option Binding) (place : ℕ) (value : Tree.Expr) → Fits Assign means home at →
    ((x : Variable) → P (Tree.Assign x value)) → P (assigned_to means place None value)
whole-fits P home at None place value fits holds = absurd (fits rule.Unknown (unknown Assign home at))
whole-fits P home at (Some b) place value fits holds = whole-known P home at b.token b.entity place value fits holds

element-known : (P : Tree.Stmt → Type 0) (home : Home) (at token : ℕ) (e : Entity) (place : ℕ) (index value : Tree.Expr) → Fits AssignElement (Some (binding token e)) home at →
    ((x : Variable) (length : ℕ) → P (Tree.Store (wrapped (place + 1)) x length index value)) → P (assigned_to (Some (binding token e)) place (Some index) value)
element-known P home at token (entity.Local unsigned) place index value fits holds =
    absurd (fits rule.Shape (misused AssignElement (binding token (entity.Local unsigned)) home at refl))
element-known P home at token (entity.Object class unsigned None) place index value fits holds =
    absurd (fits rule.Shape (misused AssignElement (binding token (entity.Object class unsigned None)) home at refl))
element-known P home at token (entity.Object class unsigned (Some length')) place index value fits holds = holds _ _
element-known P home at token (entity.Function result untrusted parameters) place index value fits holds =
    absurd (fits rule.Shape (misused AssignElement (binding token (entity.Function result untrusted parameters)) home at refl))

pub element-fits : (P : Tree.Stmt → Type 0) (home : Home) (at : ℕ) (means : Option Binding) (place : ℕ) (index value : Tree.Expr) → Fits AssignElement means home at →
    ((x : Variable) (length : ℕ) → P (Tree.Store (wrapped (place + 1)) x length index value)) → P (assigned_to means place (Some index) value)
element-fits P home at None place index value fits holds = absurd (fits rule.Unknown (unknown AssignElement home at))
element-fits P home at (Some b) place index value fits holds = element-known P home at b.token b.entity place index value fits holds

pub ruleset counts = (count-Number, count-Name, count-Index, count-Call, count-Input, count-Paren, count-Unary, count-Binary, count-Empty, count-Local, count-Assign, count-call, count-Release, count-Check, count-Return, count-Break, count-Continue, count-Block, count-If, count-While, count-For)
