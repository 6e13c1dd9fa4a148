-- Promise: the operators of the source language on words, which are numbers below 2 ^ 32 (ISO/IEC 9899, sections 6.5.3 and 6.5.5 to 6.5.12).
-- The types of the operands choose the row: a name that ends in S reads words as int, and one that ends in U as unsigned.
use Rattle.std.specs.Prelude.{ℕ, ◌+◌, ◌-◌, ◌*◌, ◌/◌, ◌%◌, ◌^◌, Bool, true, false, ◌==◌, ◌&&◌, not, nat_lt, nat_le, cond, bit_and, bit_or, bit_xor, ℤ}
use Rattle.std.specs.Int.{w32, cast_signed, cast_unsigned, int_shr}
use Rattle.std.specs.Int.RustNames.{int_lt, int_le, int_div, int_rem}
use Rattle.aegis_num.specs.declared.operators.UnaryOp.{UnaryOp}
use Rattle.aegis_num.specs.declared.operators.UnaryOp.TheVariants.{Neg, Inv, Not}
use Rattle.aegis_num.specs.declared.operators.BinaryOp.{BinaryOp}
use Rattle.aegis_num.specs.declared.operators.BinaryOp.TheVariants.{Add, Sub, Mul, DivS, DivU, RemS, RemU, And, Or, Xor, Shl, ShrS, ShrU, Eq, Ne, LtS, LtU, LeS, LeU, GtS, GtU, GeS, GeU}

-- a word read as int: below 2 ^ 31 itself, and else less by 2 ^ 32 (two's complement)
abbrev pub int_of : ℕ → ℤ
int_of word = cast_signed w32 word

-- the word that reads so; 2 ^ 31, which no int is, gives the word of the least int
abbrev pub word_of_int : ℤ → ℕ
word_of_int number = cast_unsigned w32 number

-- what is left of a number in a word
abbrev pub wrapped : ℕ → ℕ
wrapped number = number % 2 ^ 32

-- how far a shift goes: the low five bits of its right operand
abbrev pub shift_count : ℕ → ℕ
shift_count right = right % 32

-- the value of a comparison
abbrev pub truth : Bool → ℕ
truth holds = cond holds 1 0

-- the operators of one operand
abbrev pub unary : UnaryOp → ℕ → ℕ
unary Neg word = wrapped (2 ^ 32 - word)
unary Inv word = 2 ^ 32 - 1 - word
unary Not word = truth (word == 0)

-- the operators of two operands, where they do not trap
abbrev pub binary : BinaryOp → ℕ → ℕ → ℕ
binary Add left right = wrapped (left + right)
binary Sub left right = wrapped (left + (2 ^ 32 - right))
binary Mul left right = wrapped (left * right)
binary DivS left right = word_of_int (int_div (int_of left) (int_of right))
binary DivU left right = left / right
binary RemS left right = word_of_int (int_rem (int_of left) (int_of right))
binary RemU left right = left % right
binary And left right = bit_and left right
binary Or left right = bit_or left right
binary Xor left right = bit_xor left right
binary Shl left right = wrapped (left * 2 ^ shift_count right)
binary ShrS left right = word_of_int (int_shr (int_of left) (shift_count right))
binary ShrU left right = left / 2 ^ shift_count right
binary Eq left right = truth (left == right)
binary Ne left right = truth (not (left == right))
binary LtS left right = truth (int_lt (int_of left) (int_of right))
binary LtU left right = truth (nat_lt left right)
binary LeS left right = truth (int_le (int_of left) (int_of right))
binary LeU left right = truth (nat_le left right)
binary GtS left right = truth (int_lt (int_of right) (int_of left))
binary GtU left right = truth (nat_lt right left)
binary GeS left right = truth (int_le (int_of right) (int_of left))
binary GeU left right = truth (nat_le right left)

-- the operators that divide
abbrev pub is_division : BinaryOp → Bool
is_division DivS = true
is_division DivU = true
is_division RemS = true
is_division RemU = true
is_division operator = false

-- there is no value: the operator divides, and its right operand is zero
abbrev pub traps : BinaryOp → ℕ → Bool
traps operator right = is_division operator && right == 0
