-- Promise: a program with its names resolved: which declaration each name stands for, and which operator each sign is by the types of
-- its operands. What a program without violations never has, as a name that is not known, has the value zero here.
use Rattle.std.specs.Prelude.{ℕ, ◌+◌, ◌-◌, ◌==◌, ◌^◌, ◌||◌, Bool, true, false, cond, List, [], ◌∷◌, ◌++◌, map, codes, Option, Some, None}
use Rattle.aegis_num.specs.declared.operators.BinaryOp.{BinaryOp}
use Rattle.aegis_num.specs.declared.operators.BinaryOp.TheVariants as op
use Rattle.aegis_num.specs.declared.operators.UnaryOp.TheVariants.{Neg, Inv, Not}
use Rattle.aegis_num.specs.Operators.{wrapped}
use Rattle.regions.specs.declared.rights.Class.{Class}
use Rattle.regions.specs.declared.rights.Class.TheVariants.{Constant}
use Rattle.c_token.specs.declared.signs.Sign.{Sign}
use Rattle.c_token.specs.declared.signs.Sign.TheVariants as sign
use Rattle.c_grammar.specs.declared.expr.Expr.{Expr}
use Rattle.c_grammar.specs.declared.expr.Expr.TheOpen.{Expr-F}
use Rattle.c_grammar.specs.declared.expr.Expr.TheFolds.{fold-Expr}
use Rattle.c_grammar.specs.declared.stmt.Stmt.{Stmt}
use Rattle.c_grammar.specs.declared.stmt.Stmt.TheOpen.{Stmt-F}
use Rattle.c_grammar.specs.declared.stmt.Stmt.TheFolds.{fold-Stmt}
use Rattle.c_grammar.specs.declared.item.Kind3.{Kind3}
use Rattle.c_grammar.specs.declared.item.Kind3.TheVariants.{Unsigned}
use Rattle.c_grammar.specs.declared.item.Parameter.{Parameter}
use Rattle.c_grammar.specs.declared.item.Value.{Value}
use Rattle.c_grammar.specs.declared.item.Item.{Item}
use Rattle.c_grammar.specs.declared.item.Item.TheVariants as item
use Rattle.c_grammar.specs.declared.item.Program.{Program}
use Rattle.c_scopes.specs.declared.declaration.Binding.{Binding}
use Rattle.c_scopes.specs.declared.declaration.Declaration.{Declaration}
use Rattle.c_scopes.specs.declared.declaration.Entity.{Entity}
use Rattle.c_scopes.specs.declared.declaration.Entity.TheVariants.{Local, Object, Function}
use Rattle.c_scopes.specs.Scopes.{latest}
use Rattle.c_scopes.specs.Declarations.{local, class_of, declaration_of, declarations_of, parameters_of}
use Rattle.c_semantics.specs.declared.tree.Variable.{Variable}
use Rattle.c_semantics.specs.ResolvedTree as Tree

-- an expression, and whether its type is unsigned
pub record Typed : Type 0 where
  pub unsigned : Bool
  pub expr : Tree.Expr

-- what no program without violations has
abbrev pub nothing : Typed
nothing = record { unsigned = false; expr = Tree.Number 0 }

abbrev pub variable_of : ℕ → Option Class → Variable
variable_of token class = record { token = token; class = class }

-- the type of what a function answers
abbrev pub is_unsigned : Kind3 → Bool
is_unsigned Unsigned = true
is_unsigned other = false

-- the number of a function among all, by the token of its name: how many stand before it
abbrev pub function_number : List ℕ → ℕ → ℕ
function_number [] token = 0
function_number (t ∷ ts) token = cond (t == token) 0 (1 + function_number ts token)

-- ---- operators

-- a value of this type, by an operator that reads its operands as unsigned or as int
abbrev pub operated : Bool → Bool → Typed → Typed → ℕ → BinaryOp → BinaryOp → Typed
operated unsigned reads l r at as_int as_unsigned = record { unsigned = unsigned; expr = Tree.Binary at (cond reads as_unsigned as_int) l.expr r.expr }

-- a value whose type is unsigned where one of the two types is
abbrev pub arithmetic : Typed → Typed → ℕ → BinaryOp → BinaryOp → Typed
arithmetic l r = operated (l.unsigned || r.unsigned) (l.unsigned || r.unsigned) l r

-- a value with the type of the left operand
abbrev pub shift : Typed → Typed → ℕ → BinaryOp → BinaryOp → Typed
shift l r = operated l.unsigned l.unsigned l r

-- a value of type int
abbrev pub comparison : Typed → Typed → ℕ → BinaryOp → BinaryOp → Typed
comparison l r = operated false (l.unsigned || r.unsigned) l r

-- an operator of two operands
abbrev pub binary_of : Sign → ℕ → Typed → Typed → Typed
binary_of sign.Plus at l r = arithmetic l r at op.Add op.Add
binary_of sign.Minus at l r = arithmetic l r at op.Sub op.Sub
binary_of sign.Star at l r = arithmetic l r at op.Mul op.Mul
binary_of sign.Slash at l r = arithmetic l r at op.DivS op.DivU
binary_of sign.Percent at l r = arithmetic l r at op.RemS op.RemU
binary_of sign.Ampersand at l r = arithmetic l r at op.And op.And
binary_of sign.VerticalBar at l r = arithmetic l r at op.Or op.Or
binary_of sign.Caret at l r = arithmetic l r at op.Xor op.Xor
binary_of sign.ShiftLeft at l r = shift l r at op.Shl op.Shl
binary_of sign.ShiftRight at l r = shift l r at op.ShrS op.ShrU
binary_of sign.EqualTo at l r = comparison l r at op.Eq op.Eq
binary_of sign.NotEqualTo at l r = comparison l r at op.Ne op.Ne
binary_of sign.LessThan at l r = comparison l r at op.LtS op.LtU
binary_of sign.LessOrEqual at l r = comparison l r at op.LeS op.LeU
binary_of sign.GreaterThan at l r = comparison l r at op.GtS op.GtU
binary_of sign.GreaterOrEqual at l r = comparison l r at op.GeS op.GeU
binary_of sign.LogicalAnd at l r = record { unsigned = false; expr = Tree.Both l.expr r.expr }
binary_of sign.LogicalOr at l r = record { unsigned = false; expr = Tree.Either l.expr r.expr }
binary_of other at l r = nothing

-- an operator of one operand
abbrev pub unary_value : Sign → Typed → Typed
unary_value sign.Minus e = record { unsigned = e.unsigned; expr = Tree.Unary Neg e.expr }
unary_value sign.Tilde e = record { unsigned = e.unsigned; expr = Tree.Unary Inv e.expr }
unary_value sign.Exclamation e = record { unsigned = false; expr = Tree.Unary Not e.expr }
unary_value other e = nothing

-- ---- names

-- what is made of a name by the token and the kind of its declaration, or this where it is not known
abbrev pub by_binding : {A : Type 0} → A → (ℕ → Entity → A) → Option Binding → A
by_binding unknown made None = unknown
by_binding unknown made (Some b) = made b.token b.entity

-- a name for its value
abbrev pub name_value : ℕ → Entity → Typed
name_value token (Local unsigned) = record { unsigned = unsigned; expr = Tree.Scalar (variable_of token None) }
name_value token (Object class unsigned length) = record { unsigned = unsigned; expr = Tree.Scalar (variable_of token (Some class)) }
name_value token other = nothing

-- an element of an array
abbrev pub element_value : ℕ → Tree.Expr → ℕ → Entity → Typed
element_value at index token (Object class unsigned (Some length)) =
    record { unsigned = unsigned; expr = Tree.Indexed at (variable_of token (Some class)) length index }
element_value at index token other = nothing

-- a call for its value
abbrev pub call_value : List ℕ → Tree.Arguments → ℕ → Entity → Typed
call_value functions given token (Function result untrusted parameters) =
    record { unsigned = is_unsigned result; expr = Tree.Called (function_number functions token) given }
call_value functions given token other = nothing

-- ---- expressions

-- an expression where these declarations are known
abbrev pub Resolved : Type 0
Resolved = List Declaration → Typed

abbrev pub arguments_in : List Resolved → List Declaration → Tree.Arguments
arguments_in [] known = Tree.NoArguments
arguments_in (e ∷ es) known = Tree.Argument (e known).expr (arguments_in es known)

abbrev pub typed_step : List ℕ → Expr-F Resolved → Resolved
typed_step functions (Expr-F.Number value unsigned token) known = record { unsigned = unsigned; expr = Tree.Number value }
typed_step functions (Expr-F.Name name token) known = by_binding nothing name_value (latest known name)
typed_step functions (Expr-F.Index name index token) known = by_binding nothing (element_value token (index known).expr) (latest known name)
typed_step functions (Expr-F.Call name arguments token) known =
    by_binding nothing (call_value functions (arguments_in arguments known)) (latest known name)
typed_step functions (Expr-F.Input token) known = record { unsigned = false; expr = Tree.Input }
typed_step functions (Expr-F.Paren inner token) known = inner known
typed_step functions (Expr-F.Unary op inner token) known = unary_value op (inner known)
typed_step functions (Expr-F.Binary op left right token) known = binary_of op token (left known) (right known)

abbrev pub typed_expr : List ℕ → Expr → Resolved
typed_expr functions = fold-Expr Resolved (typed_step functions)

abbrev pub part_in : List ℕ → Option Expr → List Declaration → Option Tree.Expr
part_in functions None known = None
part_in functions (Some e) known = Some (typed_expr functions e known).expr

-- ---- statements

-- an assignment to a name, which is token `at`; a sign `[` is the token after it, and token numbers are below 2 ^ 32
abbrev pub assignment_to : ℕ → Tree.Expr → ℕ → Entity → Option Tree.Expr → Tree.Stmt
assignment_to at value token (Local unsigned) None = Tree.Assign (variable_of token None) value
assignment_to at value token (Object class unsigned length) None = Tree.Assign (variable_of token (Some class)) value
assignment_to at value token (Object class unsigned (Some length)) (Some index) =
    Tree.Store (wrapped (at + 1)) (variable_of token (Some class)) length index value
assignment_to at value token other index = Tree.Empty

-- a call that stands as a statement
abbrev pub call_of : List ℕ → Tree.Arguments → ℕ → Entity → Tree.Stmt
call_of functions given token (Function result true parameters) = Tree.Suspend
call_of functions given token (Function result false parameters) = Tree.Call (function_number functions token) given
call_of functions given token other = Tree.Empty

-- of a statement: what it declares in its scope, and what it is where these declarations are known
pub record ResolvedStmt : Type 0 where
  pub declared : List Declaration
  pub at : List Declaration → Tree.Stmt

-- a statement that declares nothing in its scope
abbrev pub only_resolved : (List Declaration → Tree.Stmt) → ResolvedStmt
only_resolved at = record { declared = []; at = at }

-- a statement that need not be there
abbrev pub resolved_if_any : Option ResolvedStmt → ResolvedStmt
resolved_if_any None = only_resolved (λ known. Tree.Nothing)
resolved_if_any (Some s) = s

-- one after the other: what one declares is known to those after it
abbrev pub resolved_in_turn : List ResolvedStmt → List Declaration → Tree.Stmt
resolved_in_turn [] known = Tree.Nothing
resolved_in_turn (s ∷ ss) known = Tree.Then (s.at known) (resolved_in_turn ss (known ++ s.declared))

abbrev pub resolved_step : List ℕ → Stmt-F ResolvedStmt → ResolvedStmt
resolved_step functions (Stmt-F.Block body token) = only_resolved (λ known. Tree.Block (resolved_in_turn body known))
resolved_step functions (Stmt-F.Empty token) = only_resolved (λ known. Tree.Empty)
resolved_step functions (Stmt-F.Local unsigned name value token) = record {
  declared = local unsigned name token ∷ [];
  at = λ known. Tree.Local (variable_of token None) (part_in functions value known);
}
resolved_step functions (Stmt-F.Assign name index value token) = only_resolved (λ known.
    by_binding Tree.Empty (λ declared entity. assignment_to token (typed_expr functions value known).expr declared entity (part_in functions index known)) (latest known name))
resolved_step functions (Stmt-F.Call name arguments token) = only_resolved (λ known.
    by_binding Tree.Empty (call_of functions (arguments_in (map (typed_expr functions) arguments) known)) (latest known name))
resolved_step functions (Stmt-F.Release value token) = only_resolved (λ known. Tree.Release (typed_expr functions value known).expr)
resolved_step functions (Stmt-F.Check token) = only_resolved (λ known. Tree.Check)
resolved_step functions (Stmt-F.Return value token) = only_resolved (λ known. Tree.Return (part_in functions value known))
resolved_step functions (Stmt-F.Break token) = only_resolved (λ known. Tree.Break)
resolved_step functions (Stmt-F.Continue token) = only_resolved (λ known. Tree.Continue)
resolved_step functions (Stmt-F.If test body other token) =
    only_resolved (λ known. Tree.If (typed_expr functions test known).expr (body.at known) ((resolved_if_any other).at known))
resolved_step functions (Stmt-F.While test body token) = only_resolved (λ known. Tree.While (typed_expr functions test known).expr (body.at known))
resolved_step functions (Stmt-F.For first test step body token) = only_resolved (λ known.
    let around = known ++ (resolved_if_any first).declared in
    Tree.For ((resolved_if_any first).at known) (part_in functions test around) ((resolved_if_any step).at around) (body.at around))

abbrev pub resolved : List ℕ → Stmt → ResolvedStmt
resolved functions = fold-Stmt ResolvedStmt (resolved_step functions)

-- ---- programs

-- the tokens of the names of the functions, in order
abbrev pub function_tokens : List Item → List ℕ
function_tokens [] = []
function_tokens (item.Function private result name parameters body token ∷ items) = token ∷ function_tokens items
function_tokens (other ∷ items) = function_tokens items

-- the word of a value of a constant
abbrev pub constant_word : Value → ℕ
constant_word v = cond v.negative (wrapped (2 ^ 32 - v.value)) v.value

-- a global variable starts at zero, a constant with its values
abbrev pub objects_in : List Item → List Tree.Object
objects_in [] = []
objects_in (item.Object storage unsigned name length token ∷ items) =
    record { variable = variable_of token (Some (class_of storage)); length = length; first = [] } ∷ objects_in items
objects_in (item.Constant unsigned name length values braces token ∷ items) =
    record { variable = variable_of token (Some Constant); length = length; first = map constant_word values } ∷ objects_in items
objects_in (other ∷ items) = objects_in items

-- a function where these are known: its own name and its parameters are known in its body
abbrev pub function_in : List ℕ → Bool → List Parameter → List Stmt → List Declaration → Tree.Function
function_in functions private parameters body known = record {
  private = private;
  parameters = map (λ p. variable_of p.token None) parameters;
  body = resolved_in_turn (map (resolved functions) body) (known ++ parameters_of parameters);
}

-- functions, after items that declare these
abbrev pub functions_in : List ℕ → List Item → List Declaration → List Tree.Function
functions_in functions [] known = []
functions_in functions (item.Function private result name parameters body token ∷ items) known =
    let after = known ++ declaration_of (item.Function private result name parameters body token) ∷ [] in
    function_in functions private parameters body after ∷ functions_in functions items after
functions_in functions (other ∷ items) known = functions_in functions items (known ++ declaration_of other ∷ [])

-- the token of the function with the name main
abbrev pub main_token : List Declaration → ℕ
main_token declared = by_binding 0 (λ token entity. token) (latest declared (codes "main"))

-- the whole program
abbrev pub plain_program : Program → Tree.Program
plain_program p =
    let functions = function_tokens p.items in
    record {
      objects = objects_in p.items;
      functions = functions_in functions p.items [];
      main = function_number functions (main_token (declarations_of p.items));
    }
