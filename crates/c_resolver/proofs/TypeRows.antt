-- Which operator a sign is, and which type its value has, for each pair of types of its operands.
use Rattle.std.proofs.Common.{◌≡◌, ℕ, Bool, true, false, List, [], ◌∷◌, map, None, refl}
use Rattle.aegis_num.specs.declared.operators.BinaryOp.{BinaryOp}
use Rattle.aegis_num.specs.declared.operators.BinaryOp.TheVariants as op
use Rattle.aegis_num.specs.declared.operators.UnaryOp.TheVariants as unary
use Rattle.c_token.specs.declared.signs.Sign.{Sign}
use Rattle.c_token.specs.declared.signs.Sign.TheVariants as sign
use Rattle.c_grammar.specs.declared.item.Kind3.TheVariants.{Int, Unsigned, Void}
use Rattle.c_scopes.specs.declared.declaration.Entity.TheVariants as entity
use Rattle.c_semantics.specs.ResolvedTree as Tree
use Rattle.c_resolver.specs.Resolving.{Typed, binary_of, call_value, unary_value}

-- operands of type int and of type unsigned
abbrev i : Typed
i = record { unsigned = false; expr = Tree.Number 1 }

abbrev u : Typed
u = record { unsigned = true; expr = Tree.Number 2 }

-- what stands at token 9: the operands in their order, whether the value is unsigned, and the operator
abbrev made : Typed → Typed → Bool → BinaryOp → Typed
made l r unsigned o = record { unsigned = unsigned; expr = Tree.Binary 9 o l.expr r.expr }

-- i and i, i and u, u and i, u and u
abbrev four : Sign → List Typed
four s = binary_of s 9 i i ∷ binary_of s 9 i u ∷ binary_of s 9 u i ∷ binary_of s 9 u u ∷ []

-- unsigned where one of the two is
abbrev usual : BinaryOp → BinaryOp → List Typed
usual signed other = made i i false signed ∷ made i u true other ∷ made u i true other ∷ made u u true other ∷ []

-- as the left operand
abbrev as_left : BinaryOp → BinaryOp → List Typed
as_left signed other = made i i false signed ∷ made i u false signed ∷ made u i true other ∷ made u u true other ∷ []

-- a value of type int, by operands of which one may be unsigned
abbrev compared : BinaryOp → BinaryOp → List Typed
compared signed other = made i i false signed ∷ made i u false other ∷ made u i false other ∷ made u u false other ∷ []

arithmetic_rows : map four (sign.Plus ∷ sign.Minus ∷ sign.Star ∷ sign.Slash ∷ sign.Percent ∷ sign.Ampersand ∷ sign.VerticalBar ∷ sign.Caret ∷ [])
    ≡ usual op.Add op.Add ∷ usual op.Sub op.Sub ∷ usual op.Mul op.Mul ∷ usual op.DivS op.DivU ∷ usual op.RemS op.RemU ∷ usual op.And op.And ∷ usual op.Or op.Or ∷ usual op.Xor op.Xor ∷ []
arithmetic_rows = refl

shift_rows : map four (sign.ShiftLeft ∷ sign.ShiftRight ∷ []) ≡ as_left op.Shl op.Shl ∷ as_left op.ShrS op.ShrU ∷ []
shift_rows = refl

comparison_rows : map four (sign.EqualTo ∷ sign.NotEqualTo ∷ sign.LessThan ∷ sign.LessOrEqual ∷ sign.GreaterThan ∷ sign.GreaterOrEqual ∷ [])
    ≡ compared op.Eq op.Eq ∷ compared op.Ne op.Ne ∷ compared op.LtS op.LtU ∷ compared op.LeS op.LeU ∷ compared op.GtS op.GtU ∷ compared op.GeS op.GeU ∷ []
comparison_rows = refl

abbrev value_of : Tree.Expr → Typed
value_of e = record { unsigned = false; expr = e }

both_rows : four sign.LogicalAnd ≡ map value_of (Tree.Both i.expr i.expr ∷ Tree.Both i.expr u.expr ∷ Tree.Both u.expr i.expr ∷ Tree.Both u.expr u.expr ∷ [])
both_rows = refl

either_rows : four sign.LogicalOr ≡ map value_of (Tree.Either i.expr i.expr ∷ Tree.Either i.expr u.expr ∷ Tree.Either u.expr i.expr ∷ Tree.Either u.expr u.expr ∷ [])
either_rows = refl

-- -i, -u, ~i, ~u, !i, !u
unary_rows : unary_value sign.Minus i ∷ unary_value sign.Minus u ∷ unary_value sign.Tilde i ∷ unary_value sign.Tilde u ∷ unary_value sign.Exclamation i ∷ unary_value sign.Exclamation u ∷ []
    ≡ record { unsigned = false; expr = Tree.Unary unary.Neg i.expr } ∷ record { unsigned = true; expr = Tree.Unary unary.Neg u.expr }
    ∷ record { unsigned = false; expr = Tree.Unary unary.Inv i.expr } ∷ record { unsigned = true; expr = Tree.Unary unary.Inv u.expr }
    ∷ record { unsigned = false; expr = Tree.Unary unary.Not i.expr } ∷ record { unsigned = false; expr = Tree.Unary unary.Not u.expr } ∷ []
unary_rows = refl

-- a call has the type of what its function answers
call_rows : map (call_value (4 ∷ 7 ∷ []) Tree.NoArguments 7) (entity.Function Int false 0 ∷ entity.Function Unsigned false 0 ∷ entity.Function Void false 0 ∷ entity.Local true ∷ [])
    ≡ record { unsigned = false; expr = Tree.Called 1 Tree.NoArguments } ∷ record { unsigned = true; expr = Tree.Called 1 Tree.NoArguments }
    ∷ record { unsigned = false; expr = Tree.Called 1 Tree.NoArguments } ∷ record { unsigned = false; expr = Tree.Number 0 } ∷ []
call_rows = refl
