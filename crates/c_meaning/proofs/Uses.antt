-- Where no rule is broken, each use of a name mentions once it is resolved what it is bound to.
use Rattle.std.proofs.Common.{◌≡◌, ℕ, suc, ◌==◌, Bool, true, false, cond, List, [], ◌∷◌, ◌++◌, length, Option, Some, None, arith, refl}
use Rattle.std.proofs.lemmas.Bool.Decides.{nat_tests}
use Rattle.c_token.specs.declared.signs.Sign.{Sign}
use Rattle.c_token.specs.declared.signs.Sign.TheVariants as sign
use Rattle.c_grammar.specs.declared.expr.Expr.{Expr}
use Rattle.c_grammar.specs.Precedence.{precedence as rank, is_unary_operator}
use Rattle.c_scopes.specs.declared.declaration.Binding.{Binding}
use Rattle.c_scopes.specs.declared.declaration.Declaration.{Declaration}
use Rattle.c_scopes.specs.declared.declaration.Entity.{Entity}
use Rattle.c_scopes.specs.declared.declaration.Entity.TheVariants as entity
use Rattle.c_types.specs.declared.site.Home.{Home}
use Rattle.c_types.specs.declared.site.How.{How}
use Rattle.c_types.specs.declared.site.How.TheVariants.{Value, Element, Assign, AssignElement, Call, CallValue}
use Rattle.c_types.specs.declared.site.Rule.{Rule}
use Rattle.c_types.specs.declared.site.Rule.TheVariants.{Unknown, Shape, Arity}
use Rattle.c_types.specs.declared.site.Site.TheVariants as site
use Rattle.std.specs.Str.{bytes_eq}
use Rattle.c_scopes.specs.Scopes.{latest, first_some}
use Rattle.c_types.specs.TypingRules.{Breaks}
use Rattle.c_types.specs.TypingRules.Breaks.{unknown, misused, miscounted}
use Rattle.c_semantics.specs.ResolvedTree as Tree
use Rattle.c_resolver.specs.Resolving.{Typed, assignment_to, binary_of, by_binding, call_of, call_value, element_value, name_value, nothing, unary_value}
use Rattle.c_resolver.specs.ResolvingViews.{list_in}
use Rattle.c_meaning.specs.Mentions.{bound, bound_to, in_arguments, in_expr, in_stmt}

-- no rule is broken by a use of a name
abbrev pub Fits : How → Option Binding → Home → ℕ → Type 0
Fits how means home at = (rule : Rule) → Breaks (site.Use how means home at) rule → ⊥

abbrev binding : ℕ → Entity → Binding
binding token e = record { token = token; entity = e }

-- an assignment to a name, and a call that stands as a statement, as they are resolved
abbrev pub assigned_to : Option Binding → ℕ → Option Tree.Expr → Tree.Expr → Tree.Stmt
assigned_to means at index value = by_binding Tree.Empty (λ token e. assignment_to at value token e index) means

abbrev pub called_by : List ℕ → Option Binding → Tree.Arguments → Tree.Stmt
called_by fs means given = by_binding Tree.Empty (call_of fs given) means

-- ---- expressions

named-known : (fs : List ℕ) (home : Home) (at token : ℕ) (e : Entity) → Fits Value (Some (binding token e)) home at →
    in_expr (name_value token e).expr ≡ bound_to fs token e ++ []
named-known fs home at token (entity.Local unsigned) fits = refl
named-known fs home at token (entity.Object class unsigned None) fits = refl
named-known fs home at token (entity.Object class unsigned (Some length)) fits =
    absurd (fits Shape (misused Value (binding token (entity.Object class unsigned (Some length))) home at refl))
named-known fs home at token (entity.Function result untrusted parameters) fits =
    absurd (fits Shape (misused Value (binding token (entity.Function result untrusted parameters)) home at refl))

pub named-bound : (fs : List ℕ) (home : Home) (at : ℕ) (means : Option Binding) → Fits Value means home at →
    in_expr (by_binding nothing name_value means).expr ≡ bound fs means ++ []
named-bound fs home at None fits = absurd (fits Unknown (unknown Value home at))
named-bound fs home at (Some b) fits = named-known fs home at b.token b.entity fits

indexed-known : (fs : List ℕ) (home : Home) (at token : ℕ) (e : Entity) (place : ℕ) (index : Tree.Expr) → Fits Element (Some (binding token e)) home at →
    in_expr (element_value place index token e).expr ≡ bound_to fs token e ++ in_expr index
indexed-known fs home at token (entity.Local unsigned) place index fits =
    absurd (fits Shape (misused Element (binding token (entity.Local unsigned)) home at refl))
indexed-known fs home at token (entity.Object class unsigned None) place index fits =
    absurd (fits Shape (misused Element (binding token (entity.Object class unsigned None)) home at refl))
indexed-known fs home at token (entity.Object class unsigned (Some length)) place index fits = refl
indexed-known fs home at token (entity.Function result untrusted parameters) place index fits =
    absurd (fits Shape (misused Element (binding token (entity.Function result untrusted parameters)) home at refl))

pub indexed-bound : (fs : List ℕ) (home : Home) (at : ℕ) (means : Option Binding) (place : ℕ) (index : Tree.Expr) → Fits Element means home at →
    in_expr (by_binding nothing (element_value place index) means).expr ≡ bound fs means ++ in_expr index
indexed-bound fs home at None place index fits = absurd (fits Unknown (unknown Element home at))
indexed-bound fs home at (Some b) place index fits = indexed-known fs home at b.token b.entity place index fits

called-known : (fs : List ℕ) (n : ℕ) (home : Home) (at token : ℕ) (e : Entity) (given : Tree.Arguments) → Fits (CallValue n) (Some (binding token e)) home at →
    in_expr (call_value fs given token e).expr ≡ bound_to fs token e ++ in_arguments given
called-known fs n home at token (entity.Local unsigned) given fits =
    absurd (fits Shape (misused (CallValue n) (binding token (entity.Local unsigned)) home at refl))
called-known fs n home at token (entity.Object class unsigned length) given fits =
    absurd (fits Shape (misused (CallValue n) (binding token (entity.Object class unsigned length)) home at refl))
called-known fs n home at token (entity.Function result true parameters) given fits =
    absurd (fits Shape (misused (CallValue n) (binding token (entity.Function result true parameters)) home at refl))
called-known fs n home at token (entity.Function result false parameters) given fits = refl

pub called-bound : (fs : List ℕ) (n : ℕ) (home : Home) (at : ℕ) (means : Option Binding) (given : Tree.Arguments) → Fits (CallValue n) means home at →
    in_expr (by_binding nothing (call_value fs given) means).expr ≡ bound fs means ++ in_arguments given
called-bound fs n home at None given fits = absurd (fits Unknown (unknown (CallValue n) home at))
called-bound fs n home at (Some b) given fits = called-known fs n home at b.token b.entity given fits

-- ---- assignments

whole-known : (fs : List ℕ) (home : Home) (at token : ℕ) (e : Entity) (place : ℕ) (value : Tree.Expr) → Fits Assign (Some (binding token e)) home at →
    in_stmt (assignment_to place value token e None) ≡ bound_to fs token e ++ in_expr value
whole-known fs home at token (entity.Local unsigned) place value fits = refl
whole-known fs home at token (entity.Object class unsigned None) place value fits = refl
whole-known fs home at token (entity.Object class unsigned (Some length)) place value fits =
    absurd (fits Shape (misused Assign (binding token (entity.Object class unsigned (Some length))) home at refl))
whole-known fs home at token (entity.Function result untrusted parameters) place value fits =
    absurd (fits Shape (misused Assign (binding token (entity.Function result untrusted parameters)) home at refl))

pub whole-bound : (fs : List ℕ) (home : Home) (at : ℕ) (means : Option Binding) (place : ℕ) (value : Tree.Expr) → Fits Assign means home at →
    in_stmt (assigned_to means place None value) ≡ bound fs means ++ in_expr value
whole-bound fs home at None place value fits = absurd (fits Unknown (unknown Assign home at))
whole-bound fs home at (Some b) place value fits = whole-known fs home at b.token b.entity place value fits

element-known : (fs : List ℕ) (home : Home) (at token : ℕ) (e : Entity) (place : ℕ) (index value : Tree.Expr) → Fits AssignElement (Some (binding token e)) home at →
    in_stmt (assignment_to place value token e (Some index)) ≡ bound_to fs token e ++ (in_expr index ++ in_expr value)
element-known fs home at token (entity.Local unsigned) place index value fits =
    absurd (fits Shape (misused AssignElement (binding token (entity.Local unsigned)) home at refl))
element-known fs home at token (entity.Object class unsigned None) place index value fits =
    absurd (fits Shape (misused AssignElement (binding token (entity.Object class unsigned None)) home at refl))
element-known fs home at token (entity.Object class unsigned (Some length)) place index value fits = refl
element-known fs home at token (entity.Function result untrusted parameters) place index value fits =
    absurd (fits Shape (misused AssignElement (binding token (entity.Function result untrusted parameters)) home at refl))

pub element-bound : (fs : List ℕ) (home : Home) (at : ℕ) (means : Option Binding) (place : ℕ) (index value : Tree.Expr) → Fits AssignElement means home at →
    in_stmt (assigned_to means place (Some index) value) ≡ bound fs means ++ (in_expr index ++ in_expr value)
element-bound fs home at None place index value fits = absurd (fits Unknown (unknown AssignElement home at))
element-bound fs home at (Some b) place index value fits = element-known fs home at b.token b.entity place index value fits

-- ---- calls

-- untrusted code has no parameters
abbrev pub TakesNone : Entity → Type 0
TakesNone (entity.Local unsigned) = Unit {0}
TakesNone (entity.Object class unsigned length) = Unit {0}
TakesNone (entity.Function result true parameters) = parameters ≡ 0
TakesNone (entity.Function result false parameters) = Unit {0}

abbrev pub AllTakeNone : List Declaration → Type 0
AllTakeNone [] = Unit {0}
AllTakeNone (d ∷ ds) = TakesNone d.binding.entity × AllTakeNone ds

pub take_none-append : (ds es : List Declaration) → AllTakeNone ds → AllTakeNone es → AllTakeNone (ds ++ es)
take_none-append [] es left right = right
take_none-append (d ∷ ds) es left right = (left.0, take_none-append ds es left.1 right)

abbrev IfBound : Option Binding → Type 0
IfBound None = Unit {0}
IfBound (Some b) = TakesNone b.entity

bound-or : (a b : Option Binding) → IfBound a → IfBound b → IfBound (first_some a b)
bound-or None b left right = right
bound-or (Some x) b left right = left

bound-if : (test : Bool) (b : Binding) → TakesNone b.entity → IfBound (cond test (Some b) None)
bound-if true b takes = takes
bound-if false b takes = tt

pub latest-takes : (known : List Declaration) (name : List ℕ) → AllTakeNone known → IfBound (latest known name)
latest-takes [] name takes = tt
latest-takes (d ∷ known) name takes =
    bound-or (latest known name) (cond (bytes_eq d.name name) (Some d.binding) None) (latest-takes known name takes.1) (bound-if (bytes_eq d.name name) d.binding takes.0)

unequal : (m n : ℕ) → (m ≡ n → ⊥) → (m == n) ≡ false
unequal m n differ = grind (arith, nat_tests)

call-known : (fs : List ℕ) (known : List Declaration) (home : Home) (at token : ℕ) (e : Entity) (es : List Expr) →
    TakesNone e → Fits (Call (length es)) (Some (binding token e)) home at →
    in_stmt (call_of fs (list_in fs es known) token e) ≡ bound_to fs token e ++ in_arguments (list_in fs es known)
call-known fs known home at token (entity.Local unsigned) es takes fits =
    absurd (fits Shape (misused (Call (length es)) (binding token (entity.Local unsigned)) home at refl))
call-known fs known home at token (entity.Object class unsigned length') es takes fits =
    absurd (fits Shape (misused (Call (length es)) (binding token (entity.Object class unsigned length')) home at refl))
call-known fs known home at token (entity.Function result true parameters) [] takes fits = refl
call-known fs known home at token (entity.Function result true parameters) (e ∷ es) takes fits =
    absurd (fits Arity (miscounted (Call (length (e ∷ es))) (binding token (entity.Function result true parameters)) home at
    (unequal (length (e ∷ es)) parameters (λ same. omega (arith, same, takes)))))
call-known fs known home at token (entity.Function result false parameters) es takes fits = refl

call-means : (fs : List ℕ) (known : List Declaration) (home : Home) (at : ℕ) (means : Option Binding) (es : List Expr) →
    IfBound means → Fits (Call (length es)) means home at →
    in_stmt (called_by fs means (list_in fs es known)) ≡ bound fs means ++ in_arguments (list_in fs es known)
call-means fs known home at None es takes fits = absurd (fits Unknown (unknown (Call (length es)) home at))
call-means fs known home at (Some b) es takes fits = call-known fs known home at b.token b.entity es takes fits

pub call-bound : (fs : List ℕ) (known : List Declaration) (home : Home) (at : ℕ) (name : List ℕ) (es : List Expr) →
    AllTakeNone known → Fits (Call (length es)) (latest known name) home at →
    in_stmt (called_by fs (latest known name) (list_in fs es known)) ≡ bound fs (latest known name) ++ in_arguments (list_in fs es known)
call-bound fs known home at name es takes fits = call-means fs known home at (latest known name) es (latest-takes known name takes) fits

-- ---- operators

pub binary-operands : (op : Sign) (at level : ℕ) (l r : Typed) → rank op ≡ suc level → in_expr (binary_of op at l r).expr ≡ in_expr l.expr ++ in_expr r.expr
binary-operands sign.Plus at level l r is = refl
binary-operands sign.Minus at level l r is = refl
binary-operands sign.Star at level l r is = refl
binary-operands sign.Slash at level l r is = refl
binary-operands sign.Percent at level l r is = refl
binary-operands sign.Ampersand at level l r is = refl
binary-operands sign.VerticalBar at level l r is = refl
binary-operands sign.Caret at level l r is = refl
binary-operands sign.ShiftLeft at level l r is = refl
binary-operands sign.ShiftRight at level l r is = refl
binary-operands sign.EqualTo at level l r is = refl
binary-operands sign.NotEqualTo at level l r is = refl
binary-operands sign.LessThan at level l r is = refl
binary-operands sign.LessOrEqual at level l r is = refl
binary-operands sign.GreaterThan at level l r is = refl
binary-operands sign.GreaterOrEqual at level l r is = refl
binary-operands sign.LogicalAnd at level l r is = refl
binary-operands sign.LogicalOr at level l r is = refl
binary-operands other at level l r is = absurd (omega (arith, is))

pub unary-operand : (op : Sign) (e : Typed) → is_unary_operator op ≡ true → in_expr (unary_value op e).expr ≡ in_expr e.expr
unary-operand sign.Minus e is = refl
unary-operand sign.Tilde e is = refl
unary-operand sign.Exclamation e is = refl
unary-operand other e is = absurd (cc)
