-- Each form of expression and statement with its names resolved, and what a name and a sign can come to.
use Rattle.std.proofs.Common.{◌≡◌, ◌∙◌, ap, sym, subst, ℕ, suc, ◌+◌, Bool, true, false, List, map, Option, Some, None, arith}
use Rattle.aegis_num.specs.declared.operators.BinaryOp.{BinaryOp}
use Rattle.aegis_num.specs.declared.operators.UnaryOp.{UnaryOp}
use Rattle.aegis_num.specs.Operators.{wrapped}
use Rattle.c_token.specs.declared.signs.Sign.{Sign}
use Rattle.c_token.specs.declared.signs.Sign.TheVariants as sign
use Rattle.c_grammar.specs.declared.expr.Expr.{Expr}
use Rattle.c_grammar.specs.declared.expr.Expr.TheVariants as expr
use Rattle.c_grammar.specs.declared.expr.Expr.TheOpen.{Expr-F}
use Rattle.c_grammar.specs.declared.expr.Expr.TheFolds.{fold-roll-Expr}
use Rattle.c_grammar.specs.declared.stmt.Stmt.{Stmt}
use Rattle.c_grammar.specs.declared.stmt.Stmt.TheVariants as stmt
use Rattle.c_grammar.specs.declared.stmt.Stmt.TheOpen.{Stmt-F}
use Rattle.c_grammar.specs.declared.stmt.Stmt.TheFolds.{fold-roll-Stmt}
use Rattle.c_grammar.specs.Precedence.{precedence as rank, is_unary_operator}
use Rattle.c_scopes.specs.declared.declaration.Binding.{Binding}
use Rattle.c_scopes.specs.declared.declaration.Entity.{Entity}
use Rattle.c_scopes.specs.declared.declaration.Entity.TheVariants as entity
use Rattle.c_semantics.specs.declared.tree.Variable.{Variable}
use Rattle.c_semantics.specs.ResolvedTree as Tree
use Rattle.c_resolver.specs.Resolving.{Resolved, ResolvedStmt, Typed, binary_of, by_binding, call_value, element_value, name_value, nothing, resolved, resolved_step, typed_expr, typed_step, unary_value}
use Rattle.c_meaning.proofs.Uses.{assigned_to, called_by}

-- what holds of two things holds of what they are equal to
pub over : {A B : Type 0} (P : A → B → Type 0) {a a' : A} {b b' : B} → a ≡ a' → b ≡ b' → P a' b' → P a b
over P {a' = a'} {b = b} same also holds = subst (λ x. P x b) (sym same) (subst (λ y. P a' y) (sym also) holds)

-- ---- expressions

pub typed-Number : (fs : List ℕ) (value : ℕ) (unsigned : Bool) (token : ℕ) → typed_expr fs (expr.Number value unsigned token) ≡ typed_step fs (Expr-F.Number value unsigned token)
typed-Number fs value unsigned token = ap (typed_expr fs) (sym (expr.rolls-Number value unsigned token)) ∙ fold-roll-Expr Resolved (typed_step fs) (Expr-F.Number value unsigned token)

pub typed-Name : (fs : List ℕ) (name : List ℕ) (token : ℕ) → typed_expr fs (expr.Name name token) ≡ typed_step fs (Expr-F.Name name token)
typed-Name fs name token = ap (typed_expr fs) (sym (expr.rolls-Name name token)) ∙ fold-roll-Expr Resolved (typed_step fs) (Expr-F.Name name token)

pub typed-Index : (fs : List ℕ) (name : List ℕ) (index : Expr) (token : ℕ) → typed_expr fs (expr.Index name index token) ≡ typed_step fs (Expr-F.Index name (typed_expr fs index) token)
typed-Index fs name index token = ap (typed_expr fs) (sym (expr.rolls-Index name index token)) ∙ fold-roll-Expr Resolved (typed_step fs) (Expr-F.Index name index token)

pub typed-Call : (fs : List ℕ) (name : List ℕ) (es : List Expr) (token : ℕ) → typed_expr fs (expr.Call name es token) ≡ typed_step fs (Expr-F.Call name (map (typed_expr fs) es) token)
typed-Call fs name es token = ap (typed_expr fs) (sym (expr.rolls-Call name es token)) ∙ fold-roll-Expr Resolved (typed_step fs) (Expr-F.Call name es token)

pub typed-Input : (fs : List ℕ) (token : ℕ) → typed_expr fs (expr.Input token) ≡ typed_step fs (Expr-F.Input token)
typed-Input fs token = ap (typed_expr fs) (sym (expr.rolls-Input token)) ∙ fold-roll-Expr Resolved (typed_step fs) (Expr-F.Input token)

pub typed-Paren : (fs : List ℕ) (inner : Expr) (token : ℕ) → typed_expr fs (expr.Paren inner token) ≡ typed_expr fs inner
typed-Paren fs inner token = ap (typed_expr fs) (sym (expr.rolls-Paren inner token)) ∙ fold-roll-Expr Resolved (typed_step fs) (Expr-F.Paren inner token)

pub typed-Unary : (fs : List ℕ) (op : Sign) (inner : Expr) (token : ℕ) → typed_expr fs (expr.Unary op inner token) ≡ typed_step fs (Expr-F.Unary op (typed_expr fs inner) token)
typed-Unary fs op inner token = ap (typed_expr fs) (sym (expr.rolls-Unary op inner token)) ∙ fold-roll-Expr Resolved (typed_step fs) (Expr-F.Unary op inner token)

pub typed-Binary : (fs : List ℕ) (op : Sign) (left right : Expr) (token : ℕ) → typed_expr fs (expr.Binary op left right token) ≡ typed_step fs (Expr-F.Binary op (typed_expr fs left) (typed_expr fs right) token)
typed-Binary fs op left right token = ap (typed_expr fs) (sym (expr.rolls-Binary op left right token)) ∙ fold-roll-Expr Resolved (typed_step fs) (Expr-F.Binary op left right token)

-- ---- statements without others in them

pub resolved-Empty : (fs : List ℕ) (token : ℕ) → resolved fs (stmt.Empty token) ≡ resolved_step fs (Stmt-F.Empty token)
resolved-Empty fs token = ap (resolved fs) (sym (stmt.rolls-Empty token)) ∙ fold-roll-Stmt ResolvedStmt (resolved_step fs) (Stmt-F.Empty token)

pub resolved-Local : (fs : List ℕ) (unsigned : Bool) (name : List ℕ) (value : Option Expr) (token : ℕ) → resolved fs (stmt.Local unsigned name value token) ≡ resolved_step fs (Stmt-F.Local unsigned name value token)
resolved-Local fs unsigned name value token = ap (resolved fs) (sym (stmt.rolls-Local unsigned name value token)) ∙ fold-roll-Stmt ResolvedStmt (resolved_step fs) (Stmt-F.Local unsigned name value token)

pub resolved-Assign : (fs : List ℕ) (name : List ℕ) (index : Option Expr) (value : Expr) (token : ℕ) → resolved fs (stmt.Assign name index value token) ≡ resolved_step fs (Stmt-F.Assign name index value token)
resolved-Assign fs name index value token = ap (resolved fs) (sym (stmt.rolls-Assign name index value token)) ∙ fold-roll-Stmt ResolvedStmt (resolved_step fs) (Stmt-F.Assign name index value token)

pub resolved-Call : (fs : List ℕ) (name : List ℕ) (es : List Expr) (token : ℕ) → resolved fs (stmt.Call name es token) ≡ resolved_step fs (Stmt-F.Call name es token)
resolved-Call fs name es token = ap (resolved fs) (sym (stmt.rolls-Call name es token)) ∙ fold-roll-Stmt ResolvedStmt (resolved_step fs) (Stmt-F.Call name es token)

pub resolved-Release : (fs : List ℕ) (value : Expr) (token : ℕ) → resolved fs (stmt.Release value token) ≡ resolved_step fs (Stmt-F.Release value token)
resolved-Release fs value token = ap (resolved fs) (sym (stmt.rolls-Release value token)) ∙ fold-roll-Stmt ResolvedStmt (resolved_step fs) (Stmt-F.Release value token)

pub resolved-Check : (fs : List ℕ) (token : ℕ) → resolved fs (stmt.Check token) ≡ resolved_step fs (Stmt-F.Check token)
resolved-Check fs token = ap (resolved fs) (sym (stmt.rolls-Check token)) ∙ fold-roll-Stmt ResolvedStmt (resolved_step fs) (Stmt-F.Check token)

pub resolved-Return : (fs : List ℕ) (value : Option Expr) (token : ℕ) → resolved fs (stmt.Return value token) ≡ resolved_step fs (Stmt-F.Return value token)
resolved-Return fs value token = ap (resolved fs) (sym (stmt.rolls-Return value token)) ∙ fold-roll-Stmt ResolvedStmt (resolved_step fs) (Stmt-F.Return value token)

pub resolved-Break : (fs : List ℕ) (token : ℕ) → resolved fs (stmt.Break token) ≡ resolved_step fs (Stmt-F.Break token)
resolved-Break fs token = ap (resolved fs) (sym (stmt.rolls-Break token)) ∙ fold-roll-Stmt ResolvedStmt (resolved_step fs) (Stmt-F.Break token)

pub resolved-Continue : (fs : List ℕ) (token : ℕ) → resolved fs (stmt.Continue token) ≡ resolved_step fs (Stmt-F.Continue token)
resolved-Continue fs token = ap (resolved fs) (sym (stmt.rolls-Continue token)) ∙ fold-roll-Stmt ResolvedStmt (resolved_step fs) (Stmt-F.Continue token)

pub resolved-While : (fs : List ℕ) (test : Expr) (body : Stmt) (token : ℕ) → resolved fs (stmt.While test body token) ≡ resolved_step fs (Stmt-F.While test (resolved fs body) token)
resolved-While fs test body token = ap (resolved fs) (sym (stmt.rolls-While test body token)) ∙ fold-roll-Stmt ResolvedStmt (resolved_step fs) (Stmt-F.While test body token)

-- ---- what a sign and a name come to

-- a name for its value, an element and a call, as they are resolved
abbrev pub named : Option Binding → Typed
named means = by_binding nothing name_value means

abbrev pub indexed : Option Binding → ℕ → Tree.Expr → Typed
indexed means at index = by_binding nothing (element_value at index) means

abbrev pub called : List ℕ → Option Binding → Tree.Arguments → Typed
called fs means given = by_binding nothing (call_value fs given) means

pub binary-form : (P : Tree.Expr → Type 0) (op : Sign) (at level : ℕ) (l r : Typed) → rank op ≡ suc level →
    ((o : BinaryOp) → P (Tree.Binary at o l.expr r.expr)) → P (Tree.Both l.expr r.expr) → P (Tree.Either l.expr r.expr) → P (binary_of op at l r).expr
binary-form P sign.Plus at level l r is holds both either = holds _
binary-form P sign.Minus at level l r is holds both either = holds _
binary-form P sign.Star at level l r is holds both either = holds _
binary-form P sign.Slash at level l r is holds both either = holds _
binary-form P sign.Percent at level l r is holds both either = holds _
binary-form P sign.Ampersand at level l r is holds both either = holds _
binary-form P sign.VerticalBar at level l r is holds both either = holds _
binary-form P sign.Caret at level l r is holds both either = holds _
binary-form P sign.ShiftLeft at level l r is holds both either = holds _
binary-form P sign.ShiftRight at level l r is holds both either = holds _
binary-form P sign.EqualTo at level l r is holds both either = holds _
binary-form P sign.NotEqualTo at level l r is holds both either = holds _
binary-form P sign.LessThan at level l r is holds both either = holds _
binary-form P sign.LessOrEqual at level l r is holds both either = holds _
binary-form P sign.GreaterThan at level l r is holds both either = holds _
binary-form P sign.GreaterOrEqual at level l r is holds both either = holds _
binary-form P sign.LogicalAnd at level l r is holds both either = both
binary-form P sign.LogicalOr at level l r is holds both either = either
binary-form P other at level l r is holds both either = absurd (omega (arith, is))

pub unary-form : (P : Tree.Expr → Type 0) (op : Sign) (e : Typed) → is_unary_operator op ≡ true → ((o : UnaryOp) → P (Tree.Unary o e.expr)) → P (unary_value op e).expr
unary-form P sign.Minus e is holds = holds _
unary-form P sign.Tilde e is holds = holds _
unary-form P sign.Exclamation e is holds = holds _
unary-form P other e is holds = absurd (cc)

named-known : (P : Tree.Expr → Type 0) (token : ℕ) (e : Entity) → P (Tree.Number 0) → ((x : Variable) → P (Tree.Scalar x)) → P (named (Some (record { token = token; entity = e }))).expr
named-known P token (entity.Local unsigned) nothing holds = holds _
named-known P token (entity.Object class unsigned length) nothing holds = holds _
named-known P token (entity.Function result untrusted parameters) nothing holds = nothing

pub named-form : (P : Tree.Expr → Type 0) (means : Option Binding) → P (Tree.Number 0) → ((x : Variable) → P (Tree.Scalar x)) → P (named means).expr
named-form P None nothing holds = nothing
named-form P (Some b) nothing holds = named-known P b.token b.entity nothing holds

indexed-known : (P : Tree.Expr → Type 0) (token : ℕ) (e : Entity) (at : ℕ) (index : Tree.Expr) → P (Tree.Number 0) → ((x : Variable) (length : ℕ) → P (Tree.Indexed at x length index)) →
    P (indexed (Some (record { token = token; entity = e })) at index).expr
indexed-known P token (entity.Local unsigned) at index nothing holds = nothing
indexed-known P token (entity.Object class unsigned None) at index nothing holds = nothing
indexed-known P token (entity.Object class unsigned (Some length)) at index nothing holds = holds _ _
indexed-known P token (entity.Function result untrusted parameters) at index nothing holds = nothing

pub indexed-form : (P : Tree.Expr → Type 0) (means : Option Binding) (at : ℕ) (index : Tree.Expr) → P (Tree.Number 0) → ((x : Variable) (length : ℕ) → P (Tree.Indexed at x length index)) →
    P (indexed means at index).expr
indexed-form P None at index nothing holds = nothing
indexed-form P (Some b) at index nothing holds = indexed-known P b.token b.entity at index nothing holds

called-known : (P : Tree.Expr → Type 0) (fs : List ℕ) (token : ℕ) (e : Entity) (given : Tree.Arguments) → P (Tree.Number 0) → ((function : ℕ) → P (Tree.Called function given)) →
    P (called fs (Some (record { token = token; entity = e })) given).expr
called-known P fs token (entity.Local unsigned) given nothing holds = nothing
called-known P fs token (entity.Object class unsigned length) given nothing holds = nothing
called-known P fs token (entity.Function result untrusted parameters) given nothing holds = holds _

pub called-form : (P : Tree.Expr → Type 0) (fs : List ℕ) (means : Option Binding) (given : Tree.Arguments) → P (Tree.Number 0) → ((function : ℕ) → P (Tree.Called function given)) →
    P (called fs means given).expr
called-form P fs None given nothing holds = nothing
called-form P fs (Some b) given nothing holds = called-known P fs b.token b.entity given nothing holds

whole-known : (P : Tree.Stmt → Type 0) (token : ℕ) (e : Entity) (at : ℕ) (value : Tree.Expr) → P Tree.Empty → ((x : Variable) → P (Tree.Assign x value)) →
    P (assigned_to (Some (record { token = token; entity = e })) at None value)
whole-known P token (entity.Local unsigned) at value nothing holds = holds _
whole-known P token (entity.Object class unsigned length) at value nothing holds = holds _
whole-known P token (entity.Function result untrusted parameters) at value nothing holds = nothing

pub whole-form : (P : Tree.Stmt → Type 0) (means : Option Binding) (at : ℕ) (value : Tree.Expr) → P Tree.Empty → ((x : Variable) → P (Tree.Assign x value)) → P (assigned_to means at None value)
whole-form P None at value nothing holds = nothing
whole-form P (Some b) at value nothing holds = whole-known P b.token b.entity at value nothing holds

element-known : (P : Tree.Stmt → Type 0) (token : ℕ) (e : Entity) (at : ℕ) (index value : Tree.Expr) → P Tree.Empty →
    ((x : Variable) (length : ℕ) → P (Tree.Store (wrapped (at + 1)) x length index value)) → P (assigned_to (Some (record { token = token; entity = e })) at (Some index) value)
element-known P token (entity.Local unsigned) at index value nothing holds = nothing
element-known P token (entity.Object class unsigned None) at index value nothing holds = nothing
element-known P token (entity.Object class unsigned (Some length)) at index value nothing holds = holds _ _
element-known P token (entity.Function result untrusted parameters) at index value nothing holds = nothing

pub element-form : (P : Tree.Stmt → Type 0) (means : Option Binding) (at : ℕ) (index value : Tree.Expr) → P Tree.Empty →
    ((x : Variable) (length : ℕ) → P (Tree.Store (wrapped (at + 1)) x length index value)) → P (assigned_to means at (Some index) value)
element-form P None at index value nothing holds = nothing
element-form P (Some b) at index value nothing holds = element-known P b.token b.entity at index value nothing holds

call-known : (P : Tree.Stmt → Type 0) (fs : List ℕ) (token : ℕ) (e : Entity) (given : Tree.Arguments) → P Tree.Empty → P Tree.Suspend → ((function : ℕ) → P (Tree.Call function given)) →
    P (called_by fs (Some (record { token = token; entity = e })) given)
call-known P fs token (entity.Local unsigned) given nothing suspends holds = nothing
call-known P fs token (entity.Object class unsigned length) given nothing suspends holds = nothing
call-known P fs token (entity.Function result true parameters) given nothing suspends holds = suspends
call-known P fs token (entity.Function result false parameters) given nothing suspends holds = holds _

pub call-form : (P : Tree.Stmt → Type 0) (fs : List ℕ) (means : Option Binding) (given : Tree.Arguments) → P Tree.Empty → P Tree.Suspend → ((function : ℕ) → P (Tree.Call function given)) →
    P (called_by fs means given)
call-form P fs None given nothing suspends holds = nothing
call-form P fs (Some b) given nothing suspends holds = call-known P fs b.token b.entity given nothing suspends holds
