-- A statement of the grammar keeps once it is resolved its levels, the tokens of its signs, and the order of its locals.
use Rattle.std.proofs.Common.{◌≡◌, ◌∙◌, ap, sym, subst, ℕ, suc, ◌+◌, ◌^◌, ◌<◌, ◌≤◌, Bool, List, ◌∷◌, ◌++◌, length, Option, Some, None, arith}
use Rattle.aegis_num.specs.Operators.{wrapped}
use Rattle.c_token.specs.declared.kinds.Kind.{Kind}
use Rattle.c_token.specs.declared.signs.Sign.TheVariants as sign
use Rattle.c_grammar.specs.declared.expr.Expr.{Expr}
use Rattle.c_grammar.specs.declared.stmt.Stmt.{Stmt}
use Rattle.c_grammar.specs.declared.stmt.Stmt.TheVariants as stmt
use Rattle.c_grammar.specs.BoundedTokens.{Spot, Bounded}
use Rattle.c_grammar.specs.TokenPrograms.{limit}
use Rattle.c_grammar.specs.StatementGrammar.{IsType, Local, Simple, First, Step, Maybe, Statement, Body}
use Rattle.c_scopes.specs.declared.declaration.Declaration.{Declaration}
use Rattle.c_scopes.specs.Scopes.{latest}
use Rattle.c_semantics.specs.ResolvedTree as Tree
use Rattle.c_semantics.specs.ProgramShape.{Nests, PartNests, locals_of}
use Rattle.c_resolver.specs.Resolving.{ResolvedStmt, part_in, resolved, typed_expr}
use Rattle.c_resolver.specs.ResolvingViews.{body_in, branch_declared, branch_in, list_in}
use Rattle.c_resolver.proofs.Rows.{resolved-Block, resolved-If, resolved-For}
use Rattle.c_meaning.specs.TestTokens.{IsSign, PartStands, StmtStands}
use Rattle.c_meaning.proofs.Layers.{resolved-Empty, resolved-Local, resolved-Assign, resolved-Call, resolved-Release, resolved-Check, resolved-Return, resolved-Break, resolved-Continue, resolved-While, whole-form, element-form, call-form}
use Rattle.c_meaning.proofs.Places.{Row, row-front, row-back, row-length, Ascending, ascending-append, ascending-further, ascending-wider}
use Rattle.c_meaning.proofs.PlacedExpressions.{AllPlaced, Placed, expression_placed, arguments_placed, within, sign_at}

-- what holds of a statement with so many levels open around it, whose tokens are among these and stand from one number on up to another
pub record StmtPlaced (kinds : List Kind) (l n m : ℕ) (s : Tree.Stmt) : Type 0 where
  pub nests : Nests l s
  pub stands : StmtStands kinds s
  pub locals : Ascending n m (locals_of s)

-- wherever it stands
abbrev pub PlacedStmt : List Kind → ℕ → ℕ → ℕ → (List Declaration → Tree.Stmt) → Type 0
PlacedStmt kinds l n m at = (known : List Declaration) → StmtPlaced kinds l n m (at known)

pub placed-wider : (kinds : List Kind) (l n m k j : ℕ) (s : Tree.Stmt) → k ≤ n → m ≤ j → StmtPlaced kinds l n m s → StmtPlaced kinds l k j s
placed-wider kinds l n m k j s first last placed = record {
  nests = placed.nests;
  stands = placed.stands;
  locals = ascending-further k m j (locals_of s) last (ascending-wider k n m (locals_of s) first placed.locals);
}

then-placed : (kinds : List Kind) (l n m k : ℕ) (a b : Tree.Stmt) → StmtPlaced kinds l n m a → StmtPlaced kinds l m k b → StmtPlaced kinds l n k (Tree.Then a b)
then-placed kinds l n m k a b first second = record {
  nests = (first.nests, second.nests);
  stands = (first.stands, second.stands);
  locals = ascending-append n m k (locals_of a) (locals_of b) first.locals second.locals;
}

-- by the layer of a statement
by_layer : (kinds : List Kind) (l n m : ℕ) {r s : ResolvedStmt} → r ≡ s → PlacedStmt kinds l n m s.at → PlacedStmt kinds l n m r.at
by_layer kinds l n m same placed = subst (λ r. PlacedStmt kinds l n m r.at) (sym same) placed

pub record PartPlaced (kinds : List Kind) (l : ℕ) (e : Option Tree.Expr) : Type 0 where
  pub nests : PartNests l e
  pub stands : PartStands kinds e

abbrev PlacedPart : List Kind → ℕ → List ℕ → Option Expr → Type 0
PlacedPart kinds l fs e = (known : List Declaration) → PartPlaced kinds l (part_in fs e known)

no_part : (kinds : List Kind) (l : ℕ) (fs : List ℕ) → PlacedPart kinds l fs None
no_part kinds l fs known = record { nests = tt; stands = tt }

a_part : (kinds : List Kind) (l : ℕ) (fs : List ℕ) (e : Expr) → Placed kinds l (typed_expr fs e) → PlacedPart kinds l fs (Some e)
a_part kinds l fs e placed known = record { nests = (placed known).nests; stands = (placed known).stands }

maybe_placed : (kinds : List Kind) (n : ℕ) (fs : List ℕ) {l : ℕ} {ts : List Bounded} {x : Option Expr} → Maybe l ts x → Row kinds n ts → PlacedPart kinds l fs x
maybe_placed kinds n fs (Maybe.nothing {l = l}) row = no_part kinds l fs
maybe_placed kinds n fs (Maybe.given {l = l} {x = x} d) row = a_part kinds l fs x (expression_placed kinds n fs d row)

-- the first token of a type
type-bound : (kinds : List Kind) (n : ℕ) {first : Spot} {ts : List Bounded} {is_unsigned : Bool} → IsType first ts is_unsigned → Row kinds n ts → first.bound ≡ limit
type-bound kinds n (IsType.int at) row = row.1
type-bound kinds n (IsType.unsigned at) row = row.1
type-bound kinds n (IsType.unsigned_int at then) row = row.1

-- ---- each form without statements in it

local-placed : (kinds : List Kind) (l n m : ℕ) (fs : List ℕ) (unsigned : Bool) (name : List ℕ) (value : Option Expr) (token : ℕ) → l < limit → n ≤ token → token < m →
    PlacedPart kinds (suc l) fs value → PlacedStmt kinds l n m (resolved fs (stmt.Local unsigned name value token)).at
local-placed kinds l n m fs unsigned name value token room first last part = by_layer kinds l n m (resolved-Local fs unsigned name value token)
    (λ known. record { nests = (room, (part known).nests); stands = (part known).stands; locals = (first, omega (arith, last)) })

pub locals_placed : (kinds : List Kind) (n : ℕ) (fs : List ℕ) {l : ℕ} {ts : List Bounded} {x : Stmt} → Local l ts x → Row kinds n ts → PlacedStmt kinds l n (n + length ts) (resolved fs x).at
locals_placed kinds n fs (Local.plain {l = l} {ts = ts} {is_unsigned = unsigned} first at text room d) row =
    let back = row-back kinds n ts _ row in
    local-placed kinds l n _ fs unsigned text None at.place (within l first.bound room (type-bound kinds n d (row-front kinds n ts _ row)))
    (omega (arith, back.0)) (omega (arith, back.0, row-length kinds n ts _ row)) (no_part kinds (suc l) fs)
locals_placed kinds n fs (Local.valued {l = l} {ts = ts} {is_unsigned = unsigned} {x = x} first at equals text room d d2) row =
    let back = row-back kinds n ts _ row in
    local-placed kinds l n _ fs unsigned text (Some x) at.place (within l first.bound room (type-bound kinds n d (row-front kinds n ts _ row)))
    (omega (arith, back.0)) (omega (arith, back.0, row-length kinds n ts _ row))
    (a_part kinds (suc l) fs x (expression_placed kinds (suc (suc (n + length ts))) fs d2 back.3.3))

no-statement : (kinds : List Kind) (l n m : ℕ) → l < limit → n ≤ m → StmtPlaced kinds l n m Tree.Empty
no-statement kinds l n m room order = record { nests = room; stands = tt; locals = order }

assign-placed : (kinds : List Kind) (l n m : ℕ) (fs : List ℕ) (name : List ℕ) (value : Expr) (token : ℕ) → l < limit → n ≤ m →
    Placed kinds (suc l) (typed_expr fs value) → PlacedStmt kinds l n m (resolved fs (stmt.Assign name None value token)).at
assign-placed kinds l n m fs name value token room order inner = by_layer kinds l n m (resolved-Assign fs name None value token)
    (λ known. whole-form (StmtPlaced kinds l n m) (latest known name) token (typed_expr fs value known).expr (no-statement kinds l n m room order)
    (λ x. record { nests = (room, (inner known).nests); stands = (inner known).stands; locals = order }))

wrapped-small : (n : ℕ) → n < 2 ^ 32 → wrapped n ≡ n
wrapped-small n small = omega (arith, small)

store-placed : (kinds : List Kind) (l n m : ℕ) (fs : List ℕ) (name : List ℕ) (index value : Expr) (token : ℕ) → suc l < limit → n ≤ m →
    IsSign kinds (wrapped (token + 1)) sign.LeftBracket → Placed kinds (suc (suc l)) (typed_expr fs index) → Placed kinds (suc l) (typed_expr fs value) →
    PlacedStmt kinds l n m (resolved fs (stmt.Assign name (Some index) value token)).at
store-placed kinds l n m fs name index value token room order is first second = by_layer kinds l n m (resolved-Assign fs name (Some index) value token)
    (λ known. element-form (StmtPlaced kinds l n m) (latest known name) token (typed_expr fs index known).expr (typed_expr fs value known).expr
    (no-statement kinds l n m (omega (arith, room)) order)
    (λ x length'. record { nests = (room, (first known).nests, (second known).nests); stands = (is, (first known).stands, (second known).stands); locals = order }))

call-placed : (kinds : List Kind) (l n m : ℕ) (fs : List ℕ) (name : List ℕ) (es : List Expr) (token : ℕ) → suc l < limit → n ≤ m →
    AllPlaced kinds (suc (suc l)) fs es → PlacedStmt kinds l n m (resolved fs (stmt.Call name es token)).at
call-placed kinds l n m fs name es token room order inner = by_layer kinds l n m (resolved-Call fs name es token)
    (λ known. call-form (StmtPlaced kinds l n m) fs (latest known name) (list_in fs es known) (no-statement kinds l n m (omega (arith, room)) order)
    (record { nests = omega (arith, room); stands = tt; locals = order })
    (λ function. record { nests = (room, (inner known).nest); stands = (inner known).stand; locals = order }))

release-placed : (kinds : List Kind) (l n m : ℕ) (fs : List ℕ) (value : Expr) (token : ℕ) → l < limit → n ≤ m →
    Placed kinds (suc l) (typed_expr fs value) → PlacedStmt kinds l n m (resolved fs (stmt.Release value token)).at
release-placed kinds l n m fs value token room order inner = by_layer kinds l n m (resolved-Release fs value token)
    (λ known. record { nests = (room, (inner known).nests); stands = (inner known).stands; locals = order })

return-placed : (kinds : List Kind) (l n m : ℕ) (fs : List ℕ) (value : Option Expr) (token : ℕ) → l < limit → n ≤ m →
    PlacedPart kinds (suc l) fs value → PlacedStmt kinds l n m (resolved fs (stmt.Return value token)).at
return-placed kinds l n m fs value token room order inner = by_layer kinds l n m (resolved-Return fs value token)
    (λ known. record { nests = (room, (inner known).nests); stands = (inner known).stands; locals = order })

pub simple_placed : (kinds : List Kind) (n : ℕ) (fs : List ℕ) {l : ℕ} {ts : List Bounded} {x : Stmt} → Simple l ts x → Row kinds n ts → PlacedStmt kinds l n (n + length ts) (resolved fs x).at
simple_placed kinds n fs (Simple.assign {l = l} {x = x} text at equals room d) row =
    assign-placed kinds l n _ fs text x at.place (within l at.bound room row.1) (omega arith) (expression_placed kinds (suc (suc n)) fs d row.3.3)
simple_placed kinds n fs (Simple.assign_at {l = l} {ts = ts} {x = x} {y = y} text at left right equals room deeper d d2) row =
    let back = row-back kinds (suc (suc n)) ts _ row.3.3 in
    let next = row.3.2.small in
    store-placed kinds l n _ fs text x y at.place (within (suc l) left.bound deeper row.3.1) (omega arith)
    (sign_at kinds (suc n) (wrapped (at.place + 1)) sign.LeftBracket (ap (λ place. wrapped (place + 1)) row.0 ∙ wrapped-small (n + 1) (omega (arith, next)) ∙ omega arith) row.3.2.kind)
    (expression_placed kinds (suc (suc n)) fs d (row-front kinds (suc (suc n)) ts _ row.3.3))
    (expression_placed kinds (suc (suc (suc (suc n) + length ts))) fs d2 back.3.3)
simple_placed kinds n fs (Simple.call {l = l} {xs = xs} text at room d) row =
    call-placed kinds l n _ fs text xs at.place (arguments_placed kinds (suc n) fs d row.3).0 (omega arith) (arguments_placed kinds (suc n) fs d row.3).1
simple_placed kinds n fs (Simple.release {l = l} {ts = ts} {x = x} at left right room d) row =
    release-placed kinds l n _ fs x at.place (within l at.bound room row.1) (omega arith) (expression_placed kinds (suc (suc n)) fs d (row-front kinds (suc (suc n)) ts _ row.3.3))
simple_placed kinds n fs (Simple.check {l = l} at left right room) row =
    by_layer kinds l n _ (resolved-Check fs at.place) (λ known. record { nests = within l at.bound room row.1; stands = tt; locals = omega arith })

nothing-placed : (kinds : List Kind) (l n m : ℕ) (fs : List ℕ) → n ≤ m → PlacedStmt kinds l n m (branch_in fs None)
nothing-placed kinds l n m fs order known = record { nests = tt; stands = tt; locals = order }

first_placed : (kinds : List Kind) (n : ℕ) (fs : List ℕ) {l : ℕ} {ts : List Bounded} {x : Option Stmt} → First l ts x → Row kinds n ts → PlacedStmt kinds l n (n + length ts) (branch_in fs x)
first_placed kinds n fs (First.nothing {l = l}) row = nothing-placed kinds l n _ fs (omega arith)
first_placed kinds n fs (First.local d) row = locals_placed kinds n fs d row
first_placed kinds n fs (First.simple d) row = simple_placed kinds n fs d row

step_placed : (kinds : List Kind) (n : ℕ) (fs : List ℕ) {l : ℕ} {ts : List Bounded} {x : Option Stmt} → Step l ts x → Row kinds n ts → PlacedStmt kinds l n (n + length ts) (branch_in fs x)
step_placed kinds n fs (Step.nothing {l = l}) row = nothing-placed kinds l n _ fs (omega arith)
step_placed kinds n fs (Step.simple d) row = simple_placed kinds n fs d row

-- ---- blocks, an `if` and loops

block-placed : (kinds : List Kind) (l n m : ℕ) (fs : List ℕ) (body : List Stmt) (token : ℕ) → l < limit → PlacedStmt kinds (suc l) n m (body_in fs body) →
    PlacedStmt kinds l n m (resolved fs (stmt.Block body token)).at
block-placed kinds l n m fs body token room inner known = subst (StmtPlaced kinds l n m) (sym (resolved-Block fs body token known))
    (record { nests = (room, (inner known).nests); stands = (inner known).stands; locals = (inner known).locals })

if-placed : (kinds : List Kind) (l n m k : ℕ) (fs : List ℕ) (test : Expr) (body : Stmt) (other : Option Stmt) (token : ℕ) → l < limit →
    Placed kinds (suc l) (typed_expr fs test) → PlacedStmt kinds (suc l) n m (resolved fs body).at → PlacedStmt kinds (suc l) m k (branch_in fs other) →
    PlacedStmt kinds l n k (resolved fs (stmt.If test body other token)).at
if-placed kinds l n m k fs test body other token room a b c = by_layer kinds l n k (resolved-If fs test body other token)
    (λ known. record {
      nests = (room, (a known).nests, (b known).nests, (c known).nests);
      stands = ((a known).stands, (b known).stands, (c known).stands);
      locals = ascending-append n m k (locals_of ((resolved fs body).at known)) (locals_of (branch_in fs other known)) (b known).locals (c known).locals;
    })

while-placed : (kinds : List Kind) (l n m : ℕ) (fs : List ℕ) (test : Expr) (body : Stmt) (token : ℕ) → l < limit →
    Placed kinds (suc l) (typed_expr fs test) → PlacedStmt kinds (suc l) n m (resolved fs body).at → PlacedStmt kinds l n m (resolved fs (stmt.While test body token)).at
while-placed kinds l n m fs test body token room a b = by_layer kinds l n m (resolved-While fs test body token)
    (λ known. record { nests = (room, (a known).nests, (b known).nests); stands = ((a known).stands, (b known).stands); locals = (b known).locals })

for-placed : (kinds : List Kind) (l n m k j : ℕ) (fs : List ℕ) (first : Option Stmt) (test : Option Expr) (step : Option Stmt) (body : Stmt) (token : ℕ) → l < limit →
    PlacedStmt kinds (suc l) n m (branch_in fs first) → PlacedPart kinds (suc l) fs test → PlacedStmt kinds (suc l) m k (branch_in fs step) → PlacedStmt kinds (suc l) k j (resolved fs body).at →
    PlacedStmt kinds l n j (resolved fs (stmt.For first test step body token)).at
for-placed kinds l n m k j fs first test step body token room a b c d = by_layer kinds l n j (resolved-For fs first test step body token)
    (λ known.
    let around = known ++ branch_declared fs first in record {
      nests = (room, (a known).nests, (b around).nests, (c around).nests, (d around).nests);
      stands = ((a known).stands, (b around).stands, (c around).stands, (d around).stands);
      locals = ascending-append n m j (locals_of (branch_in fs first known)) (locals_of (branch_in fs step around) ++ locals_of ((resolved fs body).at around)) (a known).locals
          (ascending-append m k j (locals_of (branch_in fs step around)) (locals_of ((resolved fs body).at around)) (c around).locals (d around).locals);
    })

-- ---- statements of the grammar

one-placed : (kinds : List Kind) (l n m k : ℕ) (fs : List ℕ) (x : Stmt) (xs : List Stmt) → PlacedStmt kinds l n m (resolved fs x).at → PlacedStmt kinds l m k (body_in fs xs) →
    PlacedStmt kinds l n k (body_in fs (x ∷ xs))
one-placed kinds l n m k fs x xs first later known =
    let after = known ++ (resolved fs x).declared in
    then-placed kinds l n m k ((resolved fs x).at known) (body_in fs xs after) (first known) (later after)

wider : (kinds : List Kind) (l n m k j : ℕ) (at : List Declaration → Tree.Stmt) → k ≤ n → m ≤ j → PlacedStmt kinds l n m at → PlacedStmt kinds l k j at
wider kinds l n m k j at first last placed known = placed-wider kinds l n m k j (at known) first last (placed known)

mutual
  statement_placed : (kinds : List Kind) (n : ℕ) (fs : List ℕ) {l : ℕ} {ts : List Bounded} {x : Stmt} {takes : Bool} → Statement l ts x takes → Row kinds n ts →
      PlacedStmt kinds l n (n + length ts) (resolved fs x).at
  statement_placed kinds n fs (Statement.block {l = l} {ts = ts} {xs = xs} left right room d) row =
      block-placed kinds l n _ fs xs left.place (within l left.bound room row.1)
      (λ known. placed-wider kinds (suc l) (suc n) (suc n + length ts) n _ (body_in fs xs known) (omega arith) (omega (arith, row-length kinds (suc n) ts _ row.3))
      (body_placed kinds (suc n) fs d (row-front kinds (suc n) ts _ row.3) known))
  statement_placed kinds n fs (Statement.empty {l = l} at room) row =
      by_layer kinds l n _ (resolved-Empty fs at.place) (λ known. no-statement kinds l n _ (within l at.bound room row.1) (omega arith))
  statement_placed kinds n fs (Statement.simple {l = l} {ts = ts} {x = x} end d) row =
      wider kinds l n (n + length ts) n _ (resolved fs x).at (omega arith) (omega (arith, row-length kinds n ts _ row)) (simple_placed kinds n fs d (row-front kinds n ts _ row))
  statement_placed kinds n fs (Statement.«return» {l = l} {ts = ts} {value = value} at end room d) row =
      return-placed kinds l n _ fs value at.place (within l at.bound room row.1) (omega arith) (maybe_placed kinds (suc n) fs d (row-front kinds (suc n) ts _ row.3))
  statement_placed kinds n fs (Statement.break {l = l} at end room) row =
      by_layer kinds l n _ (resolved-Break fs at.place) (λ known. record { nests = within l at.bound room row.1; stands = tt; locals = omega arith })
  statement_placed kinds n fs (Statement.continue {l = l} at end room) row =
      by_layer kinds l n _ (resolved-Continue fs at.place) (λ known. record { nests = within l at.bound room row.1; stands = tt; locals = omega arith })
  statement_placed kinds n fs (Statement.if {l = l} {ts = ts} {us = us} {test = test} {body = body} at left right room d d2) row =
      let after = suc (suc (suc n) + length ts) in
      let back = row-back kinds (suc (suc n)) ts _ row.3.3 in
      if-placed kinds l n (after + length us) _ fs test body None at.place (within l at.bound room row.1)
      (expression_placed kinds (suc (suc n)) fs d (row-front kinds (suc (suc n)) ts _ row.3.3))
      (λ known. placed-wider kinds (suc l) after (after + length us) n (after + length us) ((resolved fs body).at known) (omega arith) (omega arith)
      (statement_placed kinds after fs d2 back.3 known))
      (nothing-placed kinds (suc l) (after + length us) _ fs (omega (arith, row-length kinds (suc (suc n)) ts _ row.3.3)))
  statement_placed kinds n fs (Statement.if_else {l = l} {ts = ts} {us = us} {vs = vs} {test = test} {body = body} {other = other} at left right else room d d2 d3) row =
      let after = suc (suc (suc n) + length ts) in
      let last = suc (after + length us) in
      let back = row-back kinds (suc (suc n)) ts _ row.3.3 in
      let end = row-back kinds after us _ back.3 in
      if-placed kinds l n (after + length us) _ fs test body (Some other) at.place (within l at.bound room row.1)
      (expression_placed kinds (suc (suc n)) fs d (row-front kinds (suc (suc n)) ts _ row.3.3))
      (λ known. placed-wider kinds (suc l) after (after + length us) n (after + length us) ((resolved fs body).at known) (omega arith) (omega arith)
      (statement_placed kinds after fs d2 (row-front kinds after us _ back.3) known))
      (λ known. placed-wider kinds (suc l) last (last + length vs) (after + length us) _ ((resolved fs other).at known) (omega arith) (omega (arith, row-length kinds (suc (suc n)) ts _ row.3.3, row-length kinds after us _ back.3))
      (statement_placed kinds last fs d3 end.3 known))
  statement_placed kinds n fs (Statement.while {l = l} {ts = ts} {us = us} {test = test} {body = body} at left right room d d2) row =
      let after = suc (suc (suc n) + length ts) in
      let back = row-back kinds (suc (suc n)) ts _ row.3.3 in
      while-placed kinds l n _ fs test body at.place (within l at.bound room row.1)
      (expression_placed kinds (suc (suc n)) fs d (row-front kinds (suc (suc n)) ts _ row.3.3))
      (λ known. placed-wider kinds (suc l) after (after + length us) n _ ((resolved fs body).at known) (omega arith) (omega (arith, row-length kinds (suc (suc n)) ts _ row.3.3))
      (statement_placed kinds after fs d2 back.3 known))
  statement_placed kinds n fs (Statement.for {l = l} {ts = ts} {us = us} {vs = vs} {ws = ws} {first = first} {step = step} {test = test} {body = body} at left second third right room d d2 d3 d4) row =
      let one = suc (suc n) in
      let two = suc (one + length ts) in
      let three = suc (two + length us) in
      let four = suc (three + length vs) in
      let back = row-back kinds one ts _ row.3.3 in
      let back2 = row-back kinds two us _ back.3 in
      let back3 = row-back kinds three vs _ back2.3 in
      for-placed kinds l n (one + length ts) (three + length vs) _ fs first test step body at.place (within l at.bound room row.1)
      (λ known. placed-wider kinds (suc l) one (one + length ts) n (one + length ts) (branch_in fs first known) (omega arith) (omega arith)
      (first_placed kinds one fs d (row-front kinds one ts _ row.3.3) known))
      (maybe_placed kinds two fs d2 (row-front kinds two us _ back.3))
      (λ known. placed-wider kinds (suc l) three (three + length vs) (one + length ts) (three + length vs) (branch_in fs step known) (omega arith) (omega arith)
      (step_placed kinds three fs d3 (row-front kinds three vs _ back2.3) known))
      (λ known. placed-wider kinds (suc l) four (four + length ws) (three + length vs) _ ((resolved fs body).at known) (omega arith)
      (omega (arith, row-length kinds one ts _ row.3.3, row-length kinds two us _ back.3, row-length kinds three vs _ back2.3))
      (statement_placed kinds four fs d4 back3.3 known))

  pub body_placed : (kinds : List Kind) (n : ℕ) (fs : List ℕ) {l : ℕ} {ts : List Bounded} {xs : List Stmt} → Body l ts xs → Row kinds n ts →
      PlacedStmt kinds l n (n + length ts) (body_in fs xs)
  body_placed kinds n fs Body.nothing row known = record { nests = tt; stands = tt; locals = omega arith }
  body_placed kinds n fs (Body.local {l = l} {ts = ts} {us = us} {x = x} {xs = xs} end d d2) row known =
      let back = row-back kinds n ts _ row in
      let after = suc (n + length ts) in
      one-placed kinds l n (n + length ts) _ fs x xs (locals_placed kinds n fs d (row-front kinds n ts _ row))
      (λ known'. placed-wider kinds l after (after + length us) (n + length ts) _ (body_in fs xs known') (omega arith) (omega (arith, row-length kinds n ts _ row))
      (body_placed kinds after fs d2 back.3 known')) known
  body_placed kinds n fs (Body.statement {l = l} {ts = ts} {us = us} {x = x} {xs = xs} d d2) row known =
      let back = row-back kinds n ts _ row in
      one-placed kinds l n (n + length ts) _ fs x xs (λ known'. statement_placed kinds n fs d (row-front kinds n ts _ row) known')
      (λ known'. placed-wider kinds l (n + length ts) ((n + length ts) + length us) (n + length ts) _ (body_in fs xs known') (omega arith) (omega (arith, row-length kinds n ts _ row))
      (body_placed kinds (n + length ts) fs d2 back known')) known
