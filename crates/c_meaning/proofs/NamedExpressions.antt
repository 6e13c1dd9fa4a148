-- Where no rule is broken, each name in an expression of the grammar agrees once it is resolved with its declaration, and the nodes are
-- as many.
use Rattle.std.proofs.Common.{◌≡◌, ap, sym, subst, ℕ, suc, ◌+◌, ◌-◌, Bool, true, List, [], ◌∷◌, length, arith, refl}
use Rattle.c_token.specs.declared.signs.Sign.{Sign}
use Rattle.c_grammar.specs.declared.expr.Expr.{Expr}
use Rattle.c_grammar.specs.declared.expr.Expr.TheVariants as expr
use Rattle.c_grammar.specs.Precedence.{precedence as rank, is_unary_operator}
use Rattle.c_grammar.specs.BoundedTokens.{Bounded}
use Rattle.c_grammar.specs.ExpressionGrammar.{Expression, Binary, Unary, Primary, Arguments, Listed}
use Rattle.c_grammar.specs.ExpressionGrammar.Expression.{whole}
use Rattle.c_grammar.specs.ExpressionGrammar.Binary.{alone, tighter, both}
use Rattle.c_grammar.specs.ExpressionGrammar.Unary.{primary, operation}
use Rattle.c_grammar.specs.ExpressionGrammar.Primary.{literal, variable, element, call, input, parenthesised}
use Rattle.c_grammar.specs.ExpressionGrammar.Arguments.{nothing, some}
use Rattle.c_grammar.specs.ExpressionGrammar.Listed.{one, further}
use Rattle.c_scopes.specs.declared.declaration.Declaration.{Declaration}
use Rattle.c_scopes.specs.Scopes.{latest}
use Rattle.c_types.specs.declared.site.Home.{Home}
use Rattle.c_types.specs.Sites.{expr_sites}
use Rattle.c_types.specs.Walks.{list_sites}
use Rattle.c_types.proofs.Equations.{expr_sites-Name, expr_sites-Index, expr_sites-Call, expr_sites-Paren, expr_sites-Unary, expr_sites-Binary}
use Rattle.c_semantics.specs.ResolvedTree as Tree
use Rattle.c_semantics.specs.Nodes.{expr_nodes, argument_nodes}
use Rattle.c_semantics.specs.ProgramShape.{Around, ExprAgrees, ArgumentsAgree, argument_count}
use Rattle.c_resolver.specs.Resolving.{Resolved, typed_expr}
use Rattle.c_resolver.specs.ResolvingViews.{list_in}
use Rattle.c_meaning.specs.SourceNodes.{expr_count, list_count}
use Rattle.c_meaning.proofs.Counts.{count-Number, count-Name, count-Index, count-Call, count-Input, count-Paren, count-Unary, count-Binary, indexed-fits, called-fits}
use Rattle.c_meaning.proofs.Layers.{typed-Number, typed-Name, typed-Index, typed-Call, typed-Input, typed-Paren, typed-Unary, typed-Binary, binary-form, unary-form, named-form}
use Rattle.c_meaning.proofs.MentionedExpressions.{Clean, clean-front, clean-back}
use Rattle.c_meaning.proofs.UsesAgree.{AllKnown, latest-known, value-agrees, item-agrees, called-agrees}

-- an expression whose names agree with their declarations, and its nodes
pub record ExprKept (around : Around) (e : Tree.Expr) (n : ℕ) : Type 0 where
  pub names : ExprAgrees around e
  pub count : expr_nodes e ≡ n

pub record ArgumentsKept (around : Around) (given : Tree.Arguments) (n : ℕ) : Type 0 where
  pub names : ArgumentsAgree around given
  pub count : argument_nodes given ≡ n

abbrev pub Kept : List ℕ → Expr → Resolved → ℕ → Type 0
Kept fs x r n = (around : Around) (known : List Declaration) (home : Home) → AllKnown fs around home known → home.private ≡ around.private →
    Clean (expr_sites x known home) → ExprKept around (r known).expr n

abbrev pub AllKept : List ℕ → List Expr → Type 0
AllKept fs es = (around : Around) (known : List Declaration) (home : Home) → AllKnown fs around home known → home.private ≡ around.private →
    Clean (list_sites es known home) → ArgumentsKept around (list_in fs es known) (list_count es)

by_layer : (fs : List ℕ) (x : Expr) {r s : Resolved} {n m : ℕ} → r ≡ s → n ≡ m → Kept fs x s m → Kept fs x r n
by_layer fs x {s = s} {n = n} same also kept = subst (λ r. Kept fs x r n) (sym same) (subst (λ n. Kept fs x s n) (sym also) kept)

number-kept : (fs : List ℕ) (value : ℕ) (unsigned : Bool) (token : ℕ) →
    Kept fs (expr.Number value unsigned token) (typed_expr fs (expr.Number value unsigned token)) (expr_count (expr.Number value unsigned token))
number-kept fs value unsigned token = by_layer fs (expr.Number value unsigned token) (typed-Number fs value unsigned token) (count-Number value unsigned token)
    (λ around known home all same clean. record { names = tt; count = refl })

name-kept : (fs : List ℕ) (name : List ℕ) (token : ℕ) → Kept fs (expr.Name name token) (typed_expr fs (expr.Name name token)) (expr_count (expr.Name name token))
name-kept fs name token = by_layer fs (expr.Name name token) (typed-Name fs name token) (count-Name name token)
    (λ around known home all same clean. record {
      names = value-agrees fs around home token (latest known name) same (latest-known fs around home known name all) (subst Clean (expr_sites-Name name token known home) clean).0;
      count = named-form (λ e. expr_nodes e ≡ 1) (latest known name) refl (λ x. refl);
    })

index-kept : (fs : List ℕ) (name : List ℕ) (index : Expr) (token : ℕ) → Kept fs index (typed_expr fs index) (expr_count index) →
    Kept fs (expr.Index name index token) (typed_expr fs (expr.Index name index token)) (expr_count (expr.Index name index token))
index-kept fs name index token inner = by_layer fs (expr.Index name index token) (typed-Index fs name index token) (count-Index name index token)
    (λ around known home all same clean.
    let own = subst Clean (expr_sites-Index name index token known home) clean in
    let part = inner around known home all same own.1 in record {
      names = item-agrees fs around home (token - 1) (latest known name) token (typed_expr fs index known).expr same (latest-known fs around home known name all) own.0 part.names;
      count = indexed-fits (λ e. expr_nodes e ≡ 1 + expr_count index) home (token - 1) (latest known name) token (typed_expr fs index known).expr own.0
          (λ x length'. omega (arith, part.count));
    })

pub count-list : (fs : List ℕ) (es : List Expr) (known : List Declaration) → argument_count (list_in fs es known) ≡ length es
count-list fs [] known = refl
count-list fs (e ∷ es) known = omega (arith, count-list fs es known)

call-kept : (fs : List ℕ) (name : List ℕ) (es : List Expr) (token : ℕ) → AllKept fs es →
    Kept fs (expr.Call name es token) (typed_expr fs (expr.Call name es token)) (expr_count (expr.Call name es token))
call-kept fs name es token inner = by_layer fs (expr.Call name es token) (typed-Call fs name es token) (count-Call name es token)
    (λ around known home all same clean.
    let own = subst Clean (expr_sites-Call name es token known home) clean in
    let part = inner around known home all same own.1 in record {
      names = called-agrees fs around home token (length es) (latest known name) (list_in fs es known) (latest-known fs around home known name all) own.0 (count-list fs es known) part.names;
      count = called-fits (λ e. expr_nodes e ≡ 1 + list_count es) fs (length es) home token (latest known name) (list_in fs es known) own.0
          (λ function. ap (λ n. 1 + n) part.count);
    })

input-kept : (fs : List ℕ) (token : ℕ) → Kept fs (expr.Input token) (typed_expr fs (expr.Input token)) (expr_count (expr.Input token))
input-kept fs token = by_layer fs (expr.Input token) (typed-Input fs token) (count-Input token) (λ around known home all same clean. record { names = tt; count = refl })

paren-kept : (fs : List ℕ) (inner : Expr) (token : ℕ) → Kept fs inner (typed_expr fs inner) (expr_count inner) →
    Kept fs (expr.Paren inner token) (typed_expr fs (expr.Paren inner token)) (expr_count (expr.Paren inner token))
paren-kept fs inner token kept = by_layer fs (expr.Paren inner token) (typed-Paren fs inner token) (count-Paren inner token)
    (λ around known home all same clean. kept around known home all same (subst Clean (expr_sites-Paren inner token known home) clean))

unary-kept : (fs : List ℕ) (op : Sign) (inner : Expr) (token : ℕ) → is_unary_operator op ≡ true → Kept fs inner (typed_expr fs inner) (expr_count inner) →
    Kept fs (expr.Unary op inner token) (typed_expr fs (expr.Unary op inner token)) (expr_count (expr.Unary op inner token))
unary-kept fs op inner token is kept = by_layer fs (expr.Unary op inner token) (typed-Unary fs op inner token) (count-Unary op inner token)
    (λ around known home all same clean.
    let part = kept around known home all same (subst Clean (expr_sites-Unary op inner token known home) clean) in
    unary-form (λ e. ExprKept around e (1 + expr_count inner)) op (typed_expr fs inner known) is (λ o. record { names = part.names; count = omega (arith, part.count) }))

binary-kept : (fs : List ℕ) (op : Sign) (left right : Expr) (token level : ℕ) → rank op ≡ suc level → Kept fs left (typed_expr fs left) (expr_count left) → Kept fs right (typed_expr fs right) (expr_count right) →
    Kept fs (expr.Binary op left right token) (typed_expr fs (expr.Binary op left right token)) (expr_count (expr.Binary op left right token))
binary-kept fs op left right token level is first second = by_layer fs (expr.Binary op left right token) (typed-Binary fs op left right token) (count-Binary op left right token)
    (λ around known home all same clean.
    let own = subst Clean (expr_sites-Binary op left right token known home) clean in
    let one = first around known home all same (clean-front (expr_sites left known home) (expr_sites right known home) own) in
    let two = second around known home all same (clean-back (expr_sites left known home) (expr_sites right known home) own) in
    binary-form (λ e. ExprKept around e (1 + (expr_count left + expr_count right))) op token level (typed_expr fs left known) (typed_expr fs right known) is
    (λ o. record { names = (one.names, two.names); count = omega (arith, one.count, two.count) })
    (record { names = (one.names, two.names); count = omega (arith, one.count, two.count) })
    (record { names = (one.names, two.names); count = omega (arith, one.count, two.count) }))

none-kept : (fs : List ℕ) → AllKept fs []
none-kept fs around known home all same clean = record { names = tt; count = refl }

one-kept : (fs : List ℕ) (e : Expr) (es : List Expr) → Kept fs e (typed_expr fs e) (expr_count e) → AllKept fs es → AllKept fs (e ∷ es)
one-kept fs e es first later around known home all same clean =
    let one = first around known home all same (clean-front (expr_sites e known home) (list_sites es known home) clean) in
    let two = later around known home all same (clean-back (expr_sites e known home) (list_sites es known home) clean) in
    record { names = (one.names, two.names); count = omega (arith, one.count, two.count) }

-- ---- expressions of the grammar

abbrev pub KeptExpr : List ℕ → Expr → Type 0
KeptExpr fs x = Kept fs x (typed_expr fs x) (expr_count x)

mutual
  pub expression_kept : (fs : List ℕ) {l : ℕ} {ts : List Bounded} {x : Expr} → Expression l ts x → KeptExpr fs x
  expression_kept fs (whole d) around known home all same clean = binaries_kept fs d around known home all same clean

  binaries_kept : (fs : List ℕ) {l level before used : ℕ} {ts : List Bounded} {x : Expr} → Binary l level before ts x used → KeptExpr fs x
  binaries_kept fs (alone d) = unaries_kept fs d
  binaries_kept fs (tighter d) = binaries_kept fs d
  binaries_kept fs (both {level = level} {x = x} {y = y} op at d is room d2) =
      binary-kept fs op x y at.place level is (λ a k h all same clean. binaries_kept fs d a k h all same clean) (λ a k h all same clean. binaries_kept fs d2 a k h all same clean)

  unaries_kept : (fs : List ℕ) {l : ℕ} {ts : List Bounded} {x : Expr} → Unary l ts x → KeptExpr fs x
  unaries_kept fs (primary d) = primary_kept fs d
  unaries_kept fs (operation {x = x} op at is room d) = unary-kept fs op x at.place is (λ a k h all same clean. unaries_kept fs d a k h all same clean)

  primary_kept : (fs : List ℕ) {l : ℕ} {ts : List Bounded} {x : Expr} → Primary l ts x → KeptExpr fs x
  primary_kept fs (literal value unsigned at) = number-kept fs value unsigned at.place
  primary_kept fs (variable text at) = name-kept fs text at.place
  primary_kept fs (element {x = x} text at left right room d) = index-kept fs text x left.place (λ a k h all same clean. expression_kept fs d a k h all same clean)
  primary_kept fs (call {xs = xs} text at d) = call-kept fs text xs at.place (λ a k h all same clean. arguments_kept fs d a k h all same clean)
  primary_kept fs (input at left right) = input-kept fs at.place
  primary_kept fs (parenthesised {x = x} left right room d) = paren-kept fs x left.place (λ a k h all same clean. expression_kept fs d a k h all same clean)

  pub arguments_kept : (fs : List ℕ) {l : ℕ} {ts : List Bounded} {xs : List Expr} → Arguments l ts xs → AllKept fs xs
  arguments_kept fs (nothing left right room) = none-kept fs
  arguments_kept fs (some left right room d) = listed_kept fs d

  listed_kept : (fs : List ℕ) {l : ℕ} {ts : List Bounded} {xs : List Expr} → Listed l ts xs → AllKept fs xs
  listed_kept fs (one {x = x} d) = one-kept fs x [] (λ a k h all same clean. expression_kept fs d a k h all same clean) (none-kept fs)
  listed_kept fs (further {x = x} {xs = xs} comma d d2) =
      one-kept fs x xs (λ a k h all same clean. expression_kept fs d a k h all same clean) (λ a k h all same clean. listed_kept fs d2 a k h all same clean)
