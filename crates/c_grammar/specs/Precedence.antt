-- Promise: the operators of expressions, and how tightly they bind (ISO/IEC 9899, sections 6.5.3 and 6.5.5 to 6.5.14).
use Rattle.std.specs.Prelude.{ℕ, Bool, true, false}
use Rattle.c_token.specs.declared.signs.Sign.{Sign}
use Rattle.c_token.specs.declared.signs.Sign.TheVariants.{Plus, Minus, Star, Slash, Percent, Ampersand, VerticalBar, Caret, Tilde, Exclamation, LessThan, GreaterThan, LessOrEqual, GreaterOrEqual, EqualTo, NotEqualTo, ShiftLeft, ShiftRight, LogicalAnd, LogicalOr}

-- The operators of two operands bind on ten levels: on the first the most tightly. A sign on level 0 is none of them.
abbrev pub precedence : Sign → ℕ
precedence Star = 1
precedence Slash = 1
precedence Percent = 1
precedence Plus = 2
precedence Minus = 2
precedence ShiftLeft = 3
precedence ShiftRight = 3
precedence LessThan = 4
precedence GreaterThan = 4
precedence LessOrEqual = 4
precedence GreaterOrEqual = 4
precedence EqualTo = 5
precedence NotEqualTo = 5
precedence Ampersand = 6
precedence Caret = 7
precedence VerticalBar = 8
precedence LogicalAnd = 9
precedence LogicalOr = 10
precedence _ = 0

-- the loosest level
abbrev pub loosest : ℕ
loosest = 10

-- the operators of one operand
abbrev pub is_unary_operator : Sign → Bool
is_unary_operator Minus = true
is_unary_operator Tilde = true
is_unary_operator Exclamation = true
is_unary_operator _ = false
