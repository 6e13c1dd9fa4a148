-- An expression of the grammar keeps once it is resolved its levels and the tokens of its signs.
use Rattle.std.proofs.Common.{◌≡◌, sym, subst, ℕ, suc, ◌+◌, ◌<◌, ◌||◌, Bool, true, false, cond, List, length, Some, arith}
use Rattle.std.specs.List.{slice_get}
use Rattle.aegis_num.specs.declared.operators.BinaryOp.{BinaryOp}
use Rattle.aegis_num.specs.declared.operators.BinaryOp.TheVariants as op
use Rattle.c_token.specs.declared.kinds.Kind.{Kind}
use Rattle.c_token.specs.declared.kinds.Kind.TheVariants as kind
use Rattle.c_token.specs.declared.signs.Sign.{Sign}
use Rattle.c_token.specs.declared.signs.Sign.TheVariants as sign
use Rattle.c_grammar.specs.declared.expr.Expr.{Expr}
use Rattle.c_grammar.specs.declared.expr.Expr.TheVariants as expr
use Rattle.c_grammar.specs.Precedence.{precedence as rank, is_unary_operator}
use Rattle.c_grammar.specs.BoundedTokens.{Bounded}
use Rattle.c_grammar.specs.TokenPrograms.{limit}
use Rattle.c_grammar.specs.ExpressionGrammar.{Expression, Binary, Unary, Primary, Arguments, Listed}
use Rattle.c_grammar.specs.ExpressionGrammar.Expression.{whole}
use Rattle.c_grammar.specs.ExpressionGrammar.Binary.{alone, tighter, both}
use Rattle.c_grammar.specs.ExpressionGrammar.Unary.{primary, operation}
use Rattle.c_grammar.specs.ExpressionGrammar.Primary.{literal, variable, element, call, input, parenthesised}
use Rattle.c_grammar.specs.ExpressionGrammar.Arguments.{nothing, some}
use Rattle.c_grammar.specs.ExpressionGrammar.Listed.{one, further}
use Rattle.c_scopes.specs.declared.declaration.Declaration.{Declaration}
use Rattle.c_scopes.specs.Scopes.{latest}
use Rattle.c_semantics.specs.ResolvedTree as Tree
use Rattle.c_semantics.specs.ProgramShape.{ExprNests, ArgumentsNest}
use Rattle.c_resolver.specs.Resolving.{Resolved, Typed, binary_of, typed_expr}
use Rattle.c_resolver.specs.ResolvingViews.{list_in}
use Rattle.c_meaning.specs.TestTokens.{ExprStands, ArgumentsStand, IsSign, sign_of}
use Rattle.c_meaning.proofs.Layers.{typed-Number, typed-Name, typed-Index, typed-Call, typed-Input, typed-Paren, typed-Unary, typed-Binary, binary-form, unary-form, named-form, indexed-form, called-form}
use Rattle.c_meaning.proofs.Places.{Row, row-front, row-back}

-- what holds of an expression with so many levels open around it, where these are the tokens
pub record ExprPlaced (kinds : List Kind) (l : ℕ) (e : Tree.Expr) : Type 0 where
  pub nests : ExprNests l e
  pub stands : ExprStands kinds e

-- wherever it stands
abbrev pub Placed : List Kind → ℕ → Resolved → Type 0
Placed kinds l r = (known : List Declaration) → ExprPlaced kinds l (r known).expr

pub record ArgumentsPlaced (kinds : List Kind) (l : ℕ) (given : Tree.Arguments) : Type 0 where
  pub nest : ArgumentsNest l given
  pub stand : ArgumentsStand kinds given

abbrev pub AllPlaced : List Kind → ℕ → List ℕ → List Expr → Type 0
AllPlaced kinds l fs es = (known : List Declaration) → ArgumentsPlaced kinds l (list_in fs es known)

pub within : (l bound : ℕ) → l < bound → bound ≡ limit → l < limit
within l bound room is = subst (λ b. l < b) is room

no-node : (kinds : List Kind) (l : ℕ) → ExprPlaced kinds l (Tree.Number 0)
no-node kinds l = record { nests = tt; stands = tt }

number-placed : (kinds : List Kind) (l : ℕ) (fs : List ℕ) (value : ℕ) (unsigned : Bool) (token : ℕ) → Placed kinds l (typed_expr fs (expr.Number value unsigned token))
number-placed kinds l fs value unsigned token = subst (Placed kinds l) (sym (typed-Number fs value unsigned token)) (λ known. record { nests = tt; stands = tt })

name-placed : (kinds : List Kind) (l : ℕ) (fs : List ℕ) (name : List ℕ) (token : ℕ) → Placed kinds l (typed_expr fs (expr.Name name token))
name-placed kinds l fs name token = subst (Placed kinds l) (sym (typed-Name fs name token))
    (λ known. named-form (ExprPlaced kinds l) (latest known name) (no-node kinds l) (λ x. record { nests = tt; stands = tt }))

index-placed : (kinds : List Kind) (l : ℕ) (fs : List ℕ) (name : List ℕ) (index : Expr) (token : ℕ) → l < limit → IsSign kinds token sign.LeftBracket →
    Placed kinds (suc l) (typed_expr fs index) → Placed kinds l (typed_expr fs (expr.Index name index token))
index-placed kinds l fs name index token room is inner = subst (Placed kinds l) (sym (typed-Index fs name index token))
    (λ known. indexed-form (ExprPlaced kinds l) (latest known name) token (typed_expr fs index known).expr (no-node kinds l)
    (λ x length'. record { nests = (room, (inner known).nests); stands = (is, (inner known).stands) }))

call-placed : (kinds : List Kind) (l : ℕ) (fs : List ℕ) (name : List ℕ) (es : List Expr) (token : ℕ) → l < limit →
    AllPlaced kinds (suc l) fs es → Placed kinds l (typed_expr fs (expr.Call name es token))
call-placed kinds l fs name es token room inner = subst (Placed kinds l) (sym (typed-Call fs name es token))
    (λ known. called-form (ExprPlaced kinds l) fs (latest known name) (list_in fs es known) (no-node kinds l)
    (λ function. record { nests = (room, (inner known).nest); stands = (inner known).stand }))

input-placed : (kinds : List Kind) (l : ℕ) (fs : List ℕ) (token : ℕ) → Placed kinds l (typed_expr fs (expr.Input token))
input-placed kinds l fs token = subst (Placed kinds l) (sym (typed-Input fs token)) (λ known. record { nests = tt; stands = tt })

-- with fewer levels open around it
mutual
  nests-less : (l : ℕ) (e : Tree.Expr) → ExprNests (suc l) e → ExprNests l e
  nests-less l (Tree.Number value) nests = tt
  nests-less l (Tree.Scalar x) nests = tt
  nests-less l (Tree.Indexed at array length' index) nests = (omega (arith, nests.0), nests-less (suc l) index nests.1)
  nests-less l (Tree.Called function arguments) nests = (omega (arith, nests.0), nest-less (suc l) arguments nests.1)
  nests-less l Tree.Input nests = tt
  nests-less l (Tree.Unary op inner) nests = (omega (arith, nests.0), nests-less (suc l) inner nests.1)
  nests-less l (Tree.Binary at op left right) nests = (nests-less l left nests.0, nests-less l right nests.1)
  nests-less l (Tree.Both left right) nests = (nests-less l left nests.0, nests-less l right nests.1)
  nests-less l (Tree.Either left right) nests = (nests-less l left nests.0, nests-less l right nests.1)

  nest-less : (l : ℕ) (given : Tree.Arguments) → ArgumentsNest (suc l) given → ArgumentsNest l given
  nest-less l Tree.NoArguments nest = tt
  nest-less l (Tree.Argument value later) nest = (nests-less l value nest.0, nest-less l later nest.1)

paren-placed : (kinds : List Kind) (l : ℕ) (fs : List ℕ) (inner : Expr) (token : ℕ) → Placed kinds (suc l) (typed_expr fs inner) → Placed kinds l (typed_expr fs (expr.Paren inner token))
paren-placed kinds l fs inner token placed = subst (Placed kinds l) (sym (typed-Paren fs inner token))
    (λ known. record { nests = nests-less l (typed_expr fs inner known).expr (placed known).nests; stands = (placed known).stands })

unary-placed : (kinds : List Kind) (l : ℕ) (fs : List ℕ) (op : Sign) (inner : Expr) (token : ℕ) → is_unary_operator op ≡ true → l < limit →
    Placed kinds (suc l) (typed_expr fs inner) → Placed kinds l (typed_expr fs (expr.Unary op inner token))
unary-placed kinds l fs op inner token is room placed = subst (Placed kinds l) (sym (typed-Unary fs op inner token))
    (λ known. unary-form (ExprPlaced kinds l) op (typed_expr fs inner known) is (λ o. record { nests = (room, (placed known).nests); stands = (placed known).stands }))

-- whichever of the two operators the types choose, it has the sign
by-type : (kinds : List Kind) (at : ℕ) (unsigned : Bool) (as_int as_unsigned : BinaryOp) → IsSign kinds at (sign_of as_int) → IsSign kinds at (sign_of as_unsigned) →
    IsSign kinds at (sign_of (cond unsigned as_unsigned as_int))
by-type kinds at true as_int as_unsigned first second = second
by-type kinds at false as_int as_unsigned first second = first

-- the operator of a sign has that sign
binary-stands : (kinds : List Kind) (op : Sign) (at : ℕ) (l r : Typed) → IsSign kinds at op → ExprStands kinds l.expr → ExprStands kinds r.expr → ExprStands kinds (binary_of op at l r).expr
binary-stands kinds sign.Plus at l r is first second = (by-type kinds at (l.unsigned || r.unsigned) op.Add op.Add is is, first, second)
binary-stands kinds sign.Minus at l r is first second = (by-type kinds at (l.unsigned || r.unsigned) op.Sub op.Sub is is, first, second)
binary-stands kinds sign.Star at l r is first second = (by-type kinds at (l.unsigned || r.unsigned) op.Mul op.Mul is is, first, second)
binary-stands kinds sign.Slash at l r is first second = (by-type kinds at (l.unsigned || r.unsigned) op.DivS op.DivU is is, first, second)
binary-stands kinds sign.Percent at l r is first second = (by-type kinds at (l.unsigned || r.unsigned) op.RemS op.RemU is is, first, second)
binary-stands kinds sign.Ampersand at l r is first second = (by-type kinds at (l.unsigned || r.unsigned) op.And op.And is is, first, second)
binary-stands kinds sign.VerticalBar at l r is first second = (by-type kinds at (l.unsigned || r.unsigned) op.Or op.Or is is, first, second)
binary-stands kinds sign.Caret at l r is first second = (by-type kinds at (l.unsigned || r.unsigned) op.Xor op.Xor is is, first, second)
binary-stands kinds sign.ShiftLeft at l r is first second = (by-type kinds at (l.unsigned) op.Shl op.Shl is is, first, second)
binary-stands kinds sign.ShiftRight at l r is first second = (by-type kinds at (l.unsigned) op.ShrS op.ShrU is is, first, second)
binary-stands kinds sign.EqualTo at l r is first second = (by-type kinds at (l.unsigned || r.unsigned) op.Eq op.Eq is is, first, second)
binary-stands kinds sign.NotEqualTo at l r is first second = (by-type kinds at (l.unsigned || r.unsigned) op.Ne op.Ne is is, first, second)
binary-stands kinds sign.LessThan at l r is first second = (by-type kinds at (l.unsigned || r.unsigned) op.LtS op.LtU is is, first, second)
binary-stands kinds sign.LessOrEqual at l r is first second = (by-type kinds at (l.unsigned || r.unsigned) op.LeS op.LeU is is, first, second)
binary-stands kinds sign.GreaterThan at l r is first second = (by-type kinds at (l.unsigned || r.unsigned) op.GtS op.GtU is is, first, second)
binary-stands kinds sign.GreaterOrEqual at l r is first second = (by-type kinds at (l.unsigned || r.unsigned) op.GeS op.GeU is is, first, second)
binary-stands kinds sign.LogicalAnd at l r is first second = (first, second)
binary-stands kinds sign.LogicalOr at l r is first second = (first, second)
binary-stands kinds other at l r is first second = tt

binary-placed : (kinds : List Kind) (l : ℕ) (fs : List ℕ) (op : Sign) (left right : Expr) (token level : ℕ) → rank op ≡ suc level → IsSign kinds token op →
    Placed kinds l (typed_expr fs left) → Placed kinds l (typed_expr fs right) → Placed kinds l (typed_expr fs (expr.Binary op left right token))
binary-placed kinds l fs op left right token level is at first second = subst (Placed kinds l) (sym (typed-Binary fs op left right token))
    (λ known. record {
      nests = binary-form (ExprNests l) op token level (typed_expr fs left known) (typed_expr fs right known) is
          (λ o. ((first known).nests, (second known).nests)) ((first known).nests, (second known).nests) ((first known).nests, (second known).nests);
      stands = binary-stands kinds op token (typed_expr fs left known) (typed_expr fs right known) at (first known).stands (second known).stands;
    })

-- ---- expressions of the grammar

-- the sign at a place
pub sign_at : (kinds : List Kind) (n place : ℕ) (s : Sign) → place ≡ n → slice_get kinds n ≡ Some (kind.Sign s) → IsSign kinds place s
sign_at kinds n place s same is = subst (λ m. IsSign kinds m s) (sym same) is

abbrev pub CallPlaced : List Kind → ℕ → List ℕ → List Expr → Type 0
CallPlaced kinds l fs es = (l < limit) × AllPlaced kinds (suc l) fs es

mutual
  pub expression_placed : (kinds : List Kind) (n : ℕ) (fs : List ℕ) {l : ℕ} {ts : List Bounded} {x : Expr} → Expression l ts x → Row kinds n ts → Placed kinds l (typed_expr fs x)
  expression_placed kinds n fs (whole d) row known = binaries_placed kinds n fs d row known

  binaries_placed : (kinds : List Kind) (n : ℕ) (fs : List ℕ) {l level before used : ℕ} {ts : List Bounded} {x : Expr} → Binary l level before ts x used → Row kinds n ts → Placed kinds l (typed_expr fs x)
  binaries_placed kinds n fs (alone d) row known = unaries_placed kinds n fs d row known
  binaries_placed kinds n fs (tighter d) row known = binaries_placed kinds n fs d row known
  binaries_placed kinds n fs (both {l = l} {level = level} {ts = ts} {us = us} {x = x} {y = y} op at d is room d2) row known =
      let back = row-back kinds n ts _ row in
      binary-placed kinds l fs op x y at.place level is (sign_at kinds (n + length ts) at.place op back.0 back.2.kind)
      (λ known'. binaries_placed kinds n fs d (row-front kinds n ts _ row) known') (λ known'. binaries_placed kinds (suc (n + length ts)) fs d2 back.3 known') known

  unaries_placed : (kinds : List Kind) (n : ℕ) (fs : List ℕ) {l : ℕ} {ts : List Bounded} {x : Expr} → Unary l ts x → Row kinds n ts → Placed kinds l (typed_expr fs x)
  unaries_placed kinds n fs (primary d) row known = primary_placed kinds n fs d row known
  unaries_placed kinds n fs (operation {l = l} {x = x} op at is room d) row known =
      unary-placed kinds l fs op x at.place is (within l at.bound room row.1) (λ known'. unaries_placed kinds (suc n) fs d row.3 known') known

  primary_placed : (kinds : List Kind) (n : ℕ) (fs : List ℕ) {l : ℕ} {ts : List Bounded} {x : Expr} → Primary l ts x → Row kinds n ts → Placed kinds l (typed_expr fs x)
  primary_placed kinds n fs (literal {l = l} value unsigned at) row = number-placed kinds l fs value unsigned at.place
  primary_placed kinds n fs (variable {l = l} text at) row = name-placed kinds l fs text at.place
  primary_placed kinds n fs (element {l = l} {ts = ts} {x = x} text at left right room d) row =
      index-placed kinds l fs text x left.place (within l left.bound room row.3.1) (sign_at kinds (suc n) left.place sign.LeftBracket row.3.0 row.3.2.kind)
      (λ known. expression_placed kinds (suc (suc n)) fs d (row-front kinds (suc (suc n)) ts _ row.3.3) known)
  primary_placed kinds n fs (call {l = l} {xs = xs} text at d) row =
      call-placed kinds l fs text xs at.place (arguments_placed kinds (suc n) fs d row.3).0 (λ known. (arguments_placed kinds (suc n) fs d row.3).1 known)
  primary_placed kinds n fs (input {l = l} at left right) row = input-placed kinds l fs at.place
  primary_placed kinds n fs (parenthesised {l = l} {ts = ts} {x = x} left right room d) row =
      paren-placed kinds l fs x left.place (λ known. expression_placed kinds (suc n) fs d (row-front kinds (suc n) ts _ row.3) known)

  pub arguments_placed : (kinds : List Kind) (n : ℕ) (fs : List ℕ) {l : ℕ} {ts : List Bounded} {xs : List Expr} → Arguments l ts xs → Row kinds n ts → CallPlaced kinds l fs xs
  arguments_placed kinds n fs (nothing {l = l} left right room) row = (within l left.bound room row.1, λ known. record { nest = tt; stand = tt })
  arguments_placed kinds n fs (some {l = l} {ts = ts} left right room d) row =
      (within l left.bound room row.1, λ known. listed_placed kinds (suc n) fs d (row-front kinds (suc n) ts _ row.3) known)

  listed_placed : (kinds : List Kind) (n : ℕ) (fs : List ℕ) {l : ℕ} {ts : List Bounded} {xs : List Expr} → Listed l ts xs → Row kinds n ts → AllPlaced kinds l fs xs
  listed_placed kinds n fs (one d) row known = record {
    nest = ((expression_placed kinds n fs d row known).nests, tt);
    stand = ((expression_placed kinds n fs d row known).stands, tt);
  }
  listed_placed kinds n fs (further {ts = ts} {us = us} comma d d2) row known =
      let first = expression_placed kinds n fs d (row-front kinds n ts _ row) known in
      let later = listed_placed kinds (suc (n + length ts)) fs d2 (row-back kinds n ts _ row).3 known in
      record { nest = (first.nests, later.nest); stand = (first.stands, later.stand) }
