-- The operators at their edges.
use Rattle.std.proofs.Common.{◌≡◌, refl, true, false, pos, negsuc}
use Rattle.aegis_num.specs.declared.operators.UnaryOp.TheVariants.{Neg, Inv, Not}
use Rattle.aegis_num.specs.declared.operators.BinaryOp.TheVariants.{Add, Sub, Mul, DivS, DivU, RemS, RemU, And, Or, Xor, Shl, ShrS, ShrU, Eq, Ne, LtS, LtU, LeS, LeU, GtS, GtU, GeS, GeU}
use Rattle.aegis_num.specs.Operators.{int_of, word_of_int, unary, binary, traps}

-- a word and the int that it reads as
readings : (int_of 0x7fffffff ≡ pos 2147483647) × (int_of 0x80000000 ≡ negsuc 2147483647) × (int_of 0xffffffff ≡ negsuc 0)
readings = (refl, refl, refl)

-- and back
words_back : (word_of_int (pos 5) ≡ 5) × (word_of_int (negsuc 0) ≡ 0xffffffff) × (word_of_int (negsuc 2147483647) ≡ 0x80000000)
words_back = (refl, refl, refl)

-- the least int is its own negative
negatives : (unary Neg 0 ≡ 0) × (unary Neg 1 ≡ 0xffffffff) × (unary Neg 0x80000000 ≡ 0x80000000)
negatives = (refl, refl, refl)

complements : (unary Inv 0 ≡ 0xffffffff) × (unary Inv 0xfffffffe ≡ 1) × (unary Not 0 ≡ 1) × (unary Not 0x80000000 ≡ 0)
complements = (refl, refl, refl, refl)

-- sums, differences and products are modulo 2 ^ 32
wraps : (binary Add 0xffffffff 2 ≡ 1) × (binary Sub 0 1 ≡ 0xffffffff) × (binary Sub 5 0 ≡ 5) × (binary Mul 0xffffffff 0xffffffff ≡ 1)
wraps = (refl, refl, refl, refl)

-- a quotient goes towards zero, and the remainder has the sign of the left operand: -7 and 2, 7 and -2, -7 and -2
quotients : (binary DivS 0xfffffff9 2 ≡ 0xfffffffd) × (binary DivS 7 0xfffffffe ≡ 0xfffffffd) × (binary DivS 0xfffffff9 0xfffffffe ≡ 3)
quotients = (refl, refl, refl)

remainders : (binary RemS 0xfffffff9 2 ≡ 0xffffffff) × (binary RemS 7 0xfffffffe ≡ 1) × (binary RemS 0xfffffff9 0xfffffffe ≡ 0xffffffff)
remainders = (refl, refl, refl)

-- the least int by -1 gives itself, with no remainder
least_by_minus_one : (binary DivS 0x80000000 0xffffffff ≡ 0x80000000) × (binary RemS 0x80000000 0xffffffff ≡ 0)
least_by_minus_one = (refl, refl)

unsigned_quotients : (binary DivU 0xfffffff9 2 ≡ 0x7ffffffc) × (binary RemU 0xfffffff9 2 ≡ 1) × (binary DivU 0x80000000 0xffffffff ≡ 0)
unsigned_quotients = (refl, refl, refl)

bitwise : (binary And 0xf0f0 0xff00 ≡ 0xf000) × (binary Or 0xf0f0 0xff00 ≡ 0xfff0) × (binary Xor 0xf0f0 0xff00 ≡ 0x0ff0)
bitwise = (refl, refl, refl)

-- counts have five bits
left_shifts : (binary Shl 1 31 ≡ 0x80000000) × (binary Shl 3 31 ≡ 0x80000000) × (binary Shl 5 32 ≡ 5) × (binary Shl 5 0xffffffe1 ≡ 10)
left_shifts = (refl, refl, refl, refl)

-- a right shift of int keeps the sign
right_shifts : (binary ShrS 0x80000000 31 ≡ 0xffffffff) × (binary ShrS 0xfffffff9 1 ≡ 0xfffffffc) × (binary ShrS 0x7fffffff 30 ≡ 1) × (binary ShrS 0x80000000 32 ≡ 0x80000000)
right_shifts = (refl, refl, refl, refl)

unsigned_right_shifts : (binary ShrU 0x80000000 31 ≡ 1) × (binary ShrU 0xfffffff9 1 ≡ 0x7ffffffc) × (binary ShrU 9 32 ≡ 9)
unsigned_right_shifts = (refl, refl, refl)

equalities : (binary Eq 3 3 ≡ 1) × (binary Eq 3 4 ≡ 0) × (binary Ne 3 4 ≡ 1) × (binary Ne 3 3 ≡ 0)
equalities = (refl, refl, refl, refl)

-- -1 and 1, by both readings
orders : (binary LtS 0xffffffff 1 ≡ 1) × (binary LtU 0xffffffff 1 ≡ 0) × (binary GtS 0xffffffff 1 ≡ 0) × (binary GtU 0xffffffff 1 ≡ 1)
orders = (refl, refl, refl, refl)

orders_or_same : (binary LeS 0xffffffff 1 ≡ 1) × (binary LeU 0xffffffff 1 ≡ 0) × (binary GeS 0xffffffff 1 ≡ 0) × (binary GeU 0xffffffff 1 ≡ 1)
orders_or_same = (refl, refl, refl, refl)

same_operands : (binary LtS 7 7 ≡ 0) × (binary LeS 7 7 ≡ 1) × (binary GtU 7 7 ≡ 0) × (binary GeU 7 7 ≡ 1)
same_operands = (refl, refl, refl, refl)

-- only divisions trap, and only on zero
trapping : (traps DivS 0 ≡ true) × (traps RemU 0 ≡ true) × (traps DivU 1 ≡ false) × (traps Shl 0 ≡ false)
trapping = (refl, refl, refl, refl)
