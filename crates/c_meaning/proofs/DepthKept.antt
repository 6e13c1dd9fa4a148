-- An expression of the grammar has once it is resolved few operators inside one another: so many for each level that may open in it.
use Rattle.std.proofs.Common.{◌≡◌, sym, subst, ℕ, zero, suc, ◌+◌, ◌-◌, ◌*◌, ◌<◌, ◌≤◌, max, Bool, true, List, [], ◌∷◌, ◌++◌, Option, Some, None, arith, refl}
use Rattle.c_token.specs.declared.kinds.Kind.{Kind}
use Rattle.c_token.specs.declared.signs.Sign.{Sign}
use Rattle.c_grammar.specs.declared.expr.Expr.{Expr}
use Rattle.c_grammar.specs.declared.expr.Expr.TheVariants as expr
use Rattle.c_grammar.specs.declared.stmt.Stmt.{Stmt}
use Rattle.c_grammar.specs.declared.stmt.Stmt.TheVariants as stmt
use Rattle.c_grammar.specs.declared.item.Item.{Item}
use Rattle.c_grammar.specs.declared.item.Item.TheVariants as item
use Rattle.c_grammar.specs.declared.item.Program.{Program}
use Rattle.c_grammar.specs.Precedence.{precedence, is_unary_operator}
use Rattle.c_grammar.specs.BoundedTokens.{Spot, Bounded, bounded_all, numbered}
use Rattle.c_grammar.specs.TokenPrograms.{limit}
use Rattle.c_grammar.specs.ExpressionGrammar.{Expression, Binary, Unary, Primary, Arguments, Listed}
use Rattle.c_grammar.specs.ExpressionGrammar.Expression.{whole}
use Rattle.c_grammar.specs.ExpressionGrammar.Binary.{alone, tighter, both}
use Rattle.c_grammar.specs.ExpressionGrammar.Unary.{primary, operation}
use Rattle.c_grammar.specs.ExpressionGrammar.Primary.{literal, variable, element, call, input, parenthesised}
use Rattle.c_grammar.specs.ExpressionGrammar.Arguments.{nothing, some}
use Rattle.c_grammar.specs.ExpressionGrammar.Listed.{one, further}
use Rattle.c_grammar.specs.StatementGrammar.{IsType, Local, Simple, First, Step, Maybe, Statement, Body}
use Rattle.c_grammar.specs.ProgramGrammar.{IsItem, AreItems}
use Rattle.c_scopes.specs.declared.declaration.Declaration.{Declaration}
use Rattle.c_scopes.specs.Declarations.{declaration_of, parameters_of}
use Rattle.c_scopes.specs.Scopes.{latest}
use Rattle.c_semantics.specs.ResolvedTree as Tree
use Rattle.c_types.specs.Checked.{IsReadProgram}
use Rattle.c_resolver.specs.Resolving.{Resolved, ResolvedStmt, function_tokens, functions_in, part_in, resolved, typed_expr}
use Rattle.c_resolver.specs.ResolvingViews.{body_in, branch_declared, branch_in, list_in}
use Rattle.c_resolver.proofs.Rows.{resolved-Block, resolved-If, resolved-For}
use Rattle.c_meaning.specs.OperatorDepth.{operator_depth, arguments_depth, part_depth, statement_depth, functions_depth, OperatorsNest}
use Rattle.c_meaning.proofs.Layers.{typed-Number, typed-Name, typed-Index, typed-Call, typed-Input, typed-Paren, typed-Unary, typed-Binary, binary-form, unary-form, named-form, indexed-form, called-form}
use Rattle.c_meaning.proofs.Layers.{resolved-Empty, resolved-Local, resolved-Assign, resolved-Call, resolved-Release, resolved-Check, resolved-Return, resolved-Break, resolved-Continue, resolved-While, whole-form, element-form, call-form}

-- ---- tokens with the limit

abbrev Limited : List Bounded → Type 0
Limited [] = Unit {0}
Limited (t ∷ ts) = (t.spot.bound ≡ limit) × Limited ts

limited-front : (ts us : List Bounded) → Limited (ts ++ us) → Limited ts
limited-front [] us limited = tt
limited-front (t ∷ ts) us limited = (limited.0, limited-front ts us limited.1)

limited-back : (ts us : List Bounded) → Limited (ts ++ us) → Limited us
limited-back [] us limited = limited
limited-back (t ∷ ts) us limited = limited-back ts us limited.1

limited-all : (n : ℕ) (kinds : List Kind) → Limited (bounded_all limit (numbered n kinds))
limited-all n [] = tt
limited-all n (kind ∷ kinds) = (refl, limited-all (suc n) kinds)

within : (l bound : ℕ) → l < bound → bound ≡ limit → l < 64
within l bound room is = subst (λ b. l < b) is room

-- where a level may open, one fewer is left
below : (l m : ℕ) → l + m ≡ 64 → l < 64 → (k : ℕ) × (m ≡ suc k)
below l zero sum room = absurd (omega (arith, sum, room))
below l (suc k) sum room = (k, refl)

-- ---- each form of expression

-- wherever it stands
abbrev Shallow : ℕ → Resolved → Type 0
Shallow n r = (known : List Declaration) → operator_depth (r known).expr ≤ n

abbrev Fits : ℕ → Tree.Expr → Type 0
Fits n e = operator_depth e ≤ n

number-shallow : (n : ℕ) (fs : List ℕ) (value : ℕ) (unsigned : Bool) (token : ℕ) → Shallow n (typed_expr fs (expr.Number value unsigned token))
number-shallow n fs value unsigned token = subst (Shallow n) (sym (typed-Number fs value unsigned token)) (λ known. omega arith)

name-shallow : (n : ℕ) (fs : List ℕ) (name : List ℕ) (token : ℕ) → Shallow n (typed_expr fs (expr.Name name token))
name-shallow n fs name token = subst (Shallow n) (sym (typed-Name fs name token)) (λ known. named-form (Fits n) (latest known name) (omega arith) (λ x. omega arith))

index-shallow : (n : ℕ) (fs : List ℕ) (name : List ℕ) (index : Expr) (token : ℕ) → Shallow n (typed_expr fs index) → Shallow n (typed_expr fs (expr.Index name index token))
index-shallow n fs name index token inner = subst (Shallow n) (sym (typed-Index fs name index token))
    (λ known. indexed-form (Fits n) (latest known name) token (typed_expr fs index known).expr (omega arith) (λ x length. inner known))

abbrev AllShallow : ℕ → List ℕ → List Expr → Type 0
AllShallow n fs es = (known : List Declaration) → arguments_depth (list_in fs es known) ≤ n

call-shallow : (n : ℕ) (fs : List ℕ) (name : List ℕ) (es : List Expr) (token : ℕ) → AllShallow n fs es → Shallow n (typed_expr fs (expr.Call name es token))
call-shallow n fs name es token inner = subst (Shallow n) (sym (typed-Call fs name es token))
    (λ known. called-form (Fits n) fs (latest known name) (list_in fs es known) (omega arith) (λ function. inner known))

input-shallow : (n : ℕ) (fs : List ℕ) (token : ℕ) → Shallow n (typed_expr fs (expr.Input token))
input-shallow n fs token = subst (Shallow n) (sym (typed-Input fs token)) (λ known. omega arith)

paren-shallow : (n : ℕ) (fs : List ℕ) (inner : Expr) (token : ℕ) → Shallow n (typed_expr fs inner) → Shallow n (typed_expr fs (expr.Paren inner token))
paren-shallow n fs inner token shallow = subst (Shallow n) (sym (typed-Paren fs inner token)) shallow

unary-shallow : (n : ℕ) (fs : List ℕ) (op : Sign) (inner : Expr) (token : ℕ) → is_unary_operator op ≡ true → Shallow n (typed_expr fs inner) → Shallow n (typed_expr fs (expr.Unary op inner token))
unary-shallow n fs op inner token is shallow = subst (Shallow n) (sym (typed-Unary fs op inner token)) (λ known. unary-form (Fits n) op (typed_expr fs inner known) is (λ o. shallow known))

-- ---- expressions of the grammar

-- An expression that begins after so many operators and ends after so many, where m more levels may open: so many operators stand
-- inside one another.
record Chain (fs : List ℕ) (m before used : ℕ) (x : Expr) : Type 0 where
  forward : before ≤ used
  few : used ≤ 64
  depth : (known : List Declaration) → operator_depth (typed_expr fs x known).expr + before ≤ 64 * m + used

binary-chained : (fs : List ℕ) (m before between used : ℕ) (op : Sign) (x y : Expr) (token level : ℕ) → precedence op ≡ suc level → Chain fs m before between x → Chain fs m (suc between) used y
    → Chain fs m before used (expr.Binary op x y token)
binary-chained fs m before between used op x y token level is first second = record {
  forward = omega (arith, first.forward, second.forward);
  few = second.few;
  depth = subst (λ r. (known : List Declaration) → operator_depth (r known).expr + before ≤ 64 * m + used) (sym (typed-Binary fs op x y token))
      (λ known. binary-form (λ e. operator_depth e + before ≤ 64 * m + used) op token level (typed_expr fs x known) (typed_expr fs y known) is (λ o. deep known) (deep known) (deep known));
}
  where
    deep : (known : List Declaration) → suc (max (operator_depth (typed_expr fs x known).expr) (operator_depth (typed_expr fs y known).expr)) + before ≤ 64 * m + used
    deep known = omega (arith, first.depth known, second.depth known, first.forward, second.forward)

mutual
  expression_shallow : (fs : List ℕ) {l : ℕ} {ts : List Bounded} {x : Expr} → Expression l ts x → Limited ts → (m : ℕ) → l + m ≡ 64 → Shallow (64 * m + 64) (typed_expr fs x)
  expression_shallow fs (whole d) limited m sum known =
      let chain = binaries_chained fs d limited m sum (omega arith) in
      omega (arith, chain.depth known, chain.few)

  binaries_chained : (fs : List ℕ) {l level before used : ℕ} {ts : List Bounded} {x : Expr} → Binary l level before ts x used → Limited ts → (m : ℕ) → l + m ≡ 64 → before ≤ 64 → Chain fs m before used x
  binaries_chained fs (alone d) limited m sum few = record {
    forward = omega arith;
    few = few;
    depth = λ known. let inner = unaries_shallow fs d limited m sum known in omega (arith, inner);
  }
  binaries_chained fs (tighter d) limited m sum few = binaries_chained fs d limited m sum few
  binaries_chained fs (both {level = level} {before = before} {between = between} {used = used} {ts = ts} {us = us} {x = x} {y = y} op at d is room d2) limited m sum few =
      let back = limited-back ts _ limited in
      binary-chained fs m before between used op x y at.place level is (binaries_chained fs d (limited-front ts _ limited) m sum few)
      (binaries_chained fs d2 back.1 m sum (let inside : between < 64 = within between at.bound room back.0 in omega (arith, inside)))

  unaries_shallow : (fs : List ℕ) {l : ℕ} {ts : List Bounded} {x : Expr} → Unary l ts x → Limited ts → (m : ℕ) → l + m ≡ 64 → Shallow (64 * m) (typed_expr fs x)
  unaries_shallow fs (primary d) limited m sum known = primary_shallow fs d limited m sum known
  unaries_shallow fs (operation {l = l} {x = x} op at is room d) limited m sum known =
      let left = below l m sum (within l at.bound room limited.0) in
      unary-shallow (64 * m) fs op x at.place is
      (λ known. let inner = unaries_shallow fs d limited.1 left.0 (omega (arith, sum, left.1)) known in omega (arith, inner, left.1)) known

  primary_shallow : (fs : List ℕ) {l : ℕ} {ts : List Bounded} {x : Expr} → Primary l ts x → Limited ts → (m : ℕ) → l + m ≡ 64 → Shallow (64 * m) (typed_expr fs x)
  primary_shallow fs (literal value unsigned at) limited m sum = number-shallow (64 * m) fs value unsigned at.place
  primary_shallow fs (variable text at) limited m sum = name-shallow (64 * m) fs text at.place
  primary_shallow fs (element {l = l} {ts = ts} {x = x} text at left right room d) limited m sum =
      let next = below l m sum (within l left.bound room limited.1.0) in
      index-shallow (64 * m) fs text x left.place
      (λ known. let inner = expression_shallow fs d (limited-front ts _ limited.1.1) next.0 (omega (arith, sum, next.1)) known in omega (arith, inner, next.1))
  primary_shallow fs (call {xs = xs} text at d) limited m sum = call-shallow (64 * m) fs text xs at.place (λ known. arguments_shallow fs d limited.1 m sum known)
  primary_shallow fs (input at left right) limited m sum = input-shallow (64 * m) fs at.place
  primary_shallow fs (parenthesised {l = l} {ts = ts} {x = x} left right room d) limited m sum =
      let next = below l m sum (within l left.bound room limited.0) in
      paren-shallow (64 * m) fs x left.place
      (λ known. let inner = expression_shallow fs d (limited-front ts _ limited.1) next.0 (omega (arith, sum, next.1)) known in omega (arith, inner, next.1))

  arguments_shallow : (fs : List ℕ) {l : ℕ} {ts : List Bounded} {xs : List Expr} → Arguments l ts xs → Limited ts → (m : ℕ) → l + m ≡ 64 → AllShallow (64 * m) fs xs
  arguments_shallow fs (nothing left right room) limited m sum known = omega arith
  arguments_shallow fs (some {l = l} {ts = ts} left right room d) limited m sum known =
      let next = below l m sum (within l left.bound room limited.0) in
      let inner = listed_shallow fs d (limited-front ts _ limited.1) next.0 (omega (arith, sum, next.1)) known in
      omega (arith, inner, next.1)

  listed_shallow : (fs : List ℕ) {l : ℕ} {ts : List Bounded} {xs : List Expr} → Listed l ts xs → Limited ts → (m : ℕ) → l + m ≡ 64 → AllShallow (64 * m + 64) fs xs
  listed_shallow fs (one d) limited m sum known = let first = expression_shallow fs d limited m sum known in omega (arith, first)
  listed_shallow fs (further {ts = ts} comma d d2) limited m sum known =
      let first = expression_shallow fs d (limited-front ts _ limited) m sum known in
      let later = listed_shallow fs d2 (limited-back ts _ limited).1 m sum known in
      omega (arith, first, later)

-- ---- statements

-- an expression in a statement, around which a level is open
expression_deep : (fs : List ℕ) {l : ℕ} {ts : List Bounded} {x : Expr} → Expression (suc l) ts x → Limited ts → l < 64 → Shallow 4096 (typed_expr fs x)
expression_deep fs {l = l} d limited room known =
    let inner = expression_shallow fs d limited (63 - l) (omega (arith, room)) known in
    omega (arith, inner, room)

arguments_deep : (fs : List ℕ) {l : ℕ} {ts : List Bounded} {xs : List Expr} → Arguments (suc l) ts xs → Limited ts → l < 64 → AllShallow 4096 fs xs
arguments_deep fs {l = l} d limited room known =
    let inner = arguments_shallow fs d limited (63 - l) (omega (arith, room)) known in
    omega (arith, inner, room)

abbrev PartDeep : List ℕ → Option Expr → Type 0
PartDeep fs x = (known : List Declaration) → part_depth (part_in fs x known) ≤ 4096

maybe_deep : (fs : List ℕ) {l : ℕ} {ts : List Bounded} {x : Option Expr} → Maybe (suc l) ts x → Limited ts → l < 64 → PartDeep fs x
maybe_deep fs Maybe.nothing limited room known = omega arith
maybe_deep fs (Maybe.given d) limited room known = expression_deep fs d limited room known

-- wherever it stands
abbrev Deep : (List Declaration → Tree.Stmt) → Type 0
Deep at = (known : List Declaration) → statement_depth (at known) ≤ 4096

abbrev IsDeep : Tree.Stmt → Type 0
IsDeep s = statement_depth s ≤ 4096

by_layer : {r s : ResolvedStmt} → r ≡ s → Deep s.at → Deep r.at
by_layer same deep = subst (λ r. Deep r.at) (sym same) deep

-- the first token of a type
type-bound : {first : Spot} {ts : List Bounded} {is_unsigned : Bool} → IsType first ts is_unsigned → Limited ts → first.bound ≡ limit
type-bound (IsType.int at) limited = limited.0
type-bound (IsType.unsigned at) limited = limited.0
type-bound (IsType.unsigned_int at then) limited = limited.0

locals_deep : (fs : List ℕ) {l : ℕ} {ts : List Bounded} {x : Stmt} → Local l ts x → Limited ts → Deep (resolved fs x).at
locals_deep fs (Local.plain {is_unsigned = unsigned} first at text room d) limited = by_layer (resolved-Local fs unsigned text None at.place) (λ known. omega arith)
locals_deep fs (Local.valued {l = l} {ts = ts} {is_unsigned = unsigned} {x = x} first at equals text room d d2) limited =
    by_layer (resolved-Local fs unsigned text (Some x) at.place)
    (λ known. expression_deep fs d2 (limited-back ts _ limited).1.1 (within l first.bound room (type-bound d (limited-front ts _ limited))) known)

simple_deep : (fs : List ℕ) {l : ℕ} {ts : List Bounded} {x : Stmt} → Simple l ts x → Limited ts → Deep (resolved fs x).at
simple_deep fs (Simple.assign {l = l} {x = x} text at equals room d) limited = by_layer (resolved-Assign fs text None x at.place)
    (λ known. whole-form IsDeep (latest known text) at.place (typed_expr fs x known).expr (omega arith)
    (λ v. expression_deep fs d limited.1.1 (within l at.bound room limited.0) known))
simple_deep fs (Simple.assign_at {l = l} {ts = ts} {x = x} {y = y} text at left right equals room deeper d d2) limited = by_layer (resolved-Assign fs text (Some x) y at.place)
    (λ known.
    let first : operator_depth (typed_expr fs x known).expr ≤ 4096 = expression_deep fs d (limited-front ts _ limited.1.1) (within (suc l) left.bound deeper limited.1.0) known in
    let second : operator_depth (typed_expr fs y known).expr ≤ 4096 = expression_deep fs d2 (limited-back ts _ limited.1.1).1.1 (within l at.bound room limited.0) known in
    element-form IsDeep (latest known text) at.place (typed_expr fs x known).expr (typed_expr fs y known).expr (omega arith) (λ v length. omega (arith, first, second)))
simple_deep fs (Simple.call {l = l} {xs = xs} text at room d) limited = by_layer (resolved-Call fs text xs at.place)
    (λ known. call-form IsDeep fs (latest known text) (list_in fs xs known) (omega arith) (omega arith)
    (λ function. arguments_deep fs d limited.1 (within l at.bound room limited.0) known))
simple_deep fs (Simple.release {l = l} {ts = ts} {x = x} at left right room d) limited = by_layer (resolved-Release fs x at.place)
    (λ known. expression_deep fs d (limited-front ts _ limited.1.1) (within l at.bound room limited.0) known)
simple_deep fs (Simple.check at left right room) limited = by_layer (resolved-Check fs at.place) (λ known. omega arith)

first_deep : (fs : List ℕ) {l : ℕ} {ts : List Bounded} {x : Option Stmt} → First l ts x → Limited ts → Deep (branch_in fs x)
first_deep fs First.nothing limited known = omega arith
first_deep fs (First.local d) limited known = locals_deep fs d limited known
first_deep fs (First.simple d) limited known = simple_deep fs d limited known

step_deep : (fs : List ℕ) {l : ℕ} {ts : List Bounded} {x : Option Stmt} → Step l ts x → Limited ts → Deep (branch_in fs x)
step_deep fs Step.nothing limited known = omega arith
step_deep fs (Step.simple d) limited known = simple_deep fs d limited known

block-deep : (fs : List ℕ) (body : List Stmt) (token : ℕ) → Deep (body_in fs body) → Deep (resolved fs (stmt.Block body token)).at
block-deep fs body token inner known = subst IsDeep (sym (resolved-Block fs body token known)) (inner known)

if-deep : (fs : List ℕ) (test : Expr) (body : Stmt) (other : Option Stmt) (token : ℕ) → Shallow 4096 (typed_expr fs test) → Deep (resolved fs body).at → Deep (branch_in fs other)
    → Deep (resolved fs (stmt.If test body other token)).at
if-deep fs test body other token a b c = by_layer (resolved-If fs test body other token) (λ known. omega (arith, a known, b known, c known))

while-deep : (fs : List ℕ) (test : Expr) (body : Stmt) (token : ℕ) → Shallow 4096 (typed_expr fs test) → Deep (resolved fs body).at → Deep (resolved fs (stmt.While test body token)).at
while-deep fs test body token a b = by_layer (resolved-While fs test body token) (λ known. omega (arith, a known, b known))

for-deep : (fs : List ℕ) (first : Option Stmt) (test : Option Expr) (step : Option Stmt) (body : Stmt) (token : ℕ) → Deep (branch_in fs first) → PartDeep fs test → Deep (branch_in fs step)
    → Deep (resolved fs body).at → Deep (resolved fs (stmt.For first test step body token)).at
for-deep fs first test step body token a b c d = by_layer (resolved-For fs first test step body token)
    (λ known. let around = known ++ branch_declared fs first in omega (arith, a known, b around, c around, d around))

mutual
  statement_deep : (fs : List ℕ) {l : ℕ} {ts : List Bounded} {x : Stmt} {takes : Bool} → Statement l ts x takes → Limited ts → Deep (resolved fs x).at
  statement_deep fs (Statement.block {ts = ts} {xs = xs} left right room d) limited = block-deep fs xs left.place (λ known. body_deep fs d (limited-front ts _ limited.1) known)
  statement_deep fs (Statement.empty at room) limited = by_layer (resolved-Empty fs at.place) (λ known. omega arith)
  statement_deep fs (Statement.simple {ts = ts} end d) limited = simple_deep fs d (limited-front ts _ limited)
  statement_deep fs (Statement.«return» {l = l} {ts = ts} {value = value} at end room d) limited = by_layer (resolved-Return fs value at.place)
      (maybe_deep fs d (limited-front ts _ limited.1) (within l at.bound room limited.0))
  statement_deep fs (Statement.break at end room) limited = by_layer (resolved-Break fs at.place) (λ known. omega arith)
  statement_deep fs (Statement.continue at end room) limited = by_layer (resolved-Continue fs at.place) (λ known. omega arith)
  statement_deep fs (Statement.if {l = l} {ts = ts} {test = test} {body = body} at left right room d d2) limited =
      let back = limited-back ts _ limited.1.1 in
      if-deep fs test body None at.place (expression_deep fs d (limited-front ts _ limited.1.1) (within l at.bound room limited.0))
      (λ known. statement_deep fs d2 back.1 known) (λ known. omega arith)
  statement_deep fs (Statement.if_else {l = l} {ts = ts} {us = us} {test = test} {body = body} {other = other} at left right else room d d2 d3) limited =
      let back = limited-back ts _ limited.1.1 in
      if-deep fs test body (Some other) at.place (expression_deep fs d (limited-front ts _ limited.1.1) (within l at.bound room limited.0))
      (λ known. statement_deep fs d2 (limited-front us _ back.1) known) (λ known. statement_deep fs d3 (limited-back us _ back.1).1 known)
  statement_deep fs (Statement.while {l = l} {ts = ts} {test = test} {body = body} at left right room d d2) limited =
      while-deep fs test body at.place (expression_deep fs d (limited-front ts _ limited.1.1) (within l at.bound room limited.0))
      (λ known. statement_deep fs d2 (limited-back ts _ limited.1.1).1 known)
  statement_deep fs (Statement.for {l = l} {ts = ts} {us = us} {vs = vs} {first = first} {step = step} {test = test} {body = body} at left second third right room d d2 d3 d4) limited =
      let back = (limited-back ts _ limited.1.1).1 in
      let back2 = (limited-back us _ back).1 in
      for-deep fs first test step body at.place (first_deep fs d (limited-front ts _ limited.1.1)) (maybe_deep fs d2 (limited-front us _ back) (within l at.bound room limited.0))
      (step_deep fs d3 (limited-front vs _ back2)) (λ known. statement_deep fs d4 (limited-back vs _ back2).1 known)

  body_deep : (fs : List ℕ) {l : ℕ} {ts : List Bounded} {xs : List Stmt} → Body l ts xs → Limited ts → Deep (body_in fs xs)
  body_deep fs Body.nothing limited known = omega arith
  body_deep fs (Body.local {ts = ts} {x = x} {xs = xs} end d d2) limited known =
      let first = locals_deep fs d (limited-front ts _ limited) known in
      let later = body_deep fs d2 (limited-back ts _ limited).1 (known ++ (resolved fs x).declared) in
      omega (arith, first, later)
  body_deep fs (Body.statement {ts = ts} {x = x} {xs = xs} d d2) limited known =
      let first = statement_deep fs d (limited-front ts _ limited) known in
      let later = body_deep fs d2 (limited-back ts _ limited) (known ++ (resolved fs x).declared) in
      omega (arith, first, later)

-- ---- programs

items_deep : (fs : List ℕ) {ts : List Bounded} {items : List Item} → AreItems ts items → Limited ts → (known : List Declaration) → functions_depth (functions_in fs items known) ≤ 4096
items_deep fs AreItems.nothing limited known = omega arith
items_deep fs (AreItems.further {ts = ts} (IsItem.object {class = storage} {is_unsigned = unsigned} {length = length} first at end text a b c) d) limited known =
    items_deep fs d (limited-back ts _ limited) (known ++ declaration_of (item.Object storage unsigned text length at.place) ∷ [])
items_deep fs (AreItems.further {ts = ts} (IsItem.constant {is_unsigned = unsigned} {braces = braces} {length = length} {values = values} const first at equals end text a b c) d) limited known =
    items_deep fs d (limited-back ts _ limited) (known ++ declaration_of (item.Constant unsigned text length values braces at.place) ∷ [])
items_deep fs (AreItems.further {ts = ts} (IsItem.untrusted first void at left inner right end text) d) limited known =
    items_deep fs d (limited-back ts _ limited) (known ++ declaration_of (item.Untrusted text at.place) ∷ [])
items_deep fs (AreItems.further {ts = all} (IsItem.function {ts = ts} {us = us} {vs = vs} {ws = ws} {is_private = private} {result = result} {params = ps} {body = body} at left right start end text a b c inside) d) limited known =
    let own = limited-front all _ limited in
    let back = (limited-back us _ (limited-back ts _ own)).1.1 in
    let after = known ++ declaration_of (item.Function private result text ps body at.place) ∷ [] in
    let first = body_deep fs inside (limited-front ws _ (limited-back vs _ back).1.1) (after ++ parameters_of ps) in
    let later = items_deep fs d (limited-back all _ limited) after in
    omega (arith, first, later)

pub operators_nest : (p : Program) → IsReadProgram p → OperatorsNest p
operators_nest p read = items_deep (function_tokens p.items) read.2 (limited-all 0 read.0) []
