-- Where no rule is broken, an expression of the grammar mentions once it is resolved what the rules of scope bind.
use Rattle.std.proofs.Common.{◌≡◌, ◌∙◌, ap, sym, subst, ℕ, suc, ◌-◌, Bool, true, List, [], ◌∷◌, ◌++◌, length, map, arith, refl, append_assoc}
use Rattle.c_token.specs.declared.signs.Sign.{Sign}
use Rattle.c_grammar.specs.declared.expr.Expr.{Expr}
use Rattle.c_grammar.specs.declared.expr.Expr.TheVariants as expr
use Rattle.c_grammar.specs.declared.expr.Expr.TheOpen.{Expr-F}
use Rattle.c_grammar.specs.declared.expr.Expr.TheFolds.{fold-roll-Expr}
use Rattle.c_grammar.specs.Precedence.{precedence as rank, is_unary_operator}
use Rattle.c_grammar.specs.BoundedTokens.{Bounded}
use Rattle.c_grammar.specs.ExpressionGrammar.{Expression, Binary, Unary, Primary, Arguments, Listed}
use Rattle.c_grammar.specs.ExpressionGrammar.Expression.{whole}
use Rattle.c_grammar.specs.ExpressionGrammar.Binary.{alone, tighter, both}
use Rattle.c_grammar.specs.ExpressionGrammar.Unary.{primary, operation}
use Rattle.c_grammar.specs.ExpressionGrammar.Primary.{literal, variable, element, call, input, parenthesised}
use Rattle.c_grammar.specs.ExpressionGrammar.Arguments.{nothing, some}
use Rattle.c_grammar.specs.ExpressionGrammar.Listed.{one, further}
use Rattle.c_scopes.specs.declared.declaration.Declaration.{Declaration}
use Rattle.c_types.specs.declared.site.Home.{Home}
use Rattle.c_types.specs.declared.site.Rule.{Rule}
use Rattle.c_types.specs.declared.site.Site.{Site}
use Rattle.c_scopes.specs.Scopes.{latest}
use Rattle.c_types.specs.Sites
use Rattle.c_types.specs.Sites.{ExprSites, expr_sites}
use Rattle.c_types.specs.Walks.{list_sites}
use Rattle.c_types.specs.TypingRules.{Breaks}
use Rattle.c_resolver.specs.Resolving
use Rattle.c_resolver.specs.Resolving.{Resolved, arguments_in, typed_expr}
use Rattle.c_resolver.specs.ResolvingViews.{list_in}
use Rattle.c_meaning.specs.Mentions.{Mention, at_site, at_sites, bound, in_arguments, in_expr}
use Rattle.c_meaning.proofs.Uses.{named-bound, indexed-bound, called-bound, binary-operands, unary-operand}

-- ---- sites in a row

-- no rule is broken at any of these sites
abbrev pub Clean : List Site → Type 0
Clean [] = Unit {0}
Clean (s ∷ ss) = ((rule : Rule) → Breaks s rule → ⊥) × Clean ss

pub clean-front : (xs ys : List Site) → Clean (xs ++ ys) → Clean xs
clean-front [] ys clean = tt
clean-front (x ∷ xs) ys clean = (clean.0, clean-front xs ys clean.1)

pub clean-back : (xs ys : List Site) → Clean (xs ++ ys) → Clean ys
clean-back [] ys clean = clean
clean-back (x ∷ xs) ys clean = clean-back xs ys clean.1

pub sites-append : (fs : List ℕ) (xs ys : List Site) → at_sites fs (xs ++ ys) ≡ at_sites fs xs ++ at_sites fs ys
sites-append fs [] ys = refl
sites-append fs (x ∷ xs) ys = ap (λ ms. at_site fs x ++ ms) (sites-append fs xs ys) ∙ sym (append_assoc (at_site fs x) (at_sites fs xs) (at_sites fs ys))

-- these are mentioned at these sites, if no rule is broken there
abbrev pub Mentioned : List ℕ → List Mention → List Site → Type 0
Mentioned fs ms sites = Clean sites → ms ≡ at_sites fs sites

pub mentioned-append : (fs : List ℕ) (ms ns : List Mention) (xs ys : List Site) → Mentioned fs ms xs → Mentioned fs ns ys → Mentioned fs (ms ++ ns) (xs ++ ys)
mentioned-append fs ms ns xs ys first second clean =
    ap (λ l. l ++ ns) (first (clean-front xs ys clean)) ∙ ap (λ l. at_sites fs xs ++ l) (second (clean-back xs ys clean)) ∙ sym (sites-append fs xs ys)

pub mentioned-by : (fs : List ℕ) (ms ns : List Mention) (xs ys : List Site) → ms ≡ ns → xs ≡ ys → Mentioned fs ns ys → Mentioned fs ms xs
mentioned-by fs ms ns xs ys e d mentioned clean = e ∙ mentioned (subst Clean d clean) ∙ sym (ap (at_sites fs) d)

-- ---- each form of expression

-- an expression, resolved, mentions what its sites are bound to, wherever it stands
abbrev pub Agrees : List ℕ → Resolved → ExprSites → Type 0
Agrees fs r s = (known : List Declaration) (home : Home) → Mentioned fs (in_expr (r known).expr) (s known home)

abbrev pub AgreesAll : List ℕ → List Expr → Type 0
AgreesAll fs es = (known : List Declaration) (home : Home) → Mentioned fs (in_arguments (list_in fs es known)) (list_sites es known home)

by_layer : (fs : List ℕ) (e : Expr) (r : Resolved) (s : ExprSites) → typed_expr fs e ≡ r → expr_sites e ≡ s → Agrees fs r s → Agrees fs (typed_expr fs e) (expr_sites e)
by_layer fs e r s same also agrees = subst (λ r'. Agrees fs r' (expr_sites e)) (sym same) (subst (λ s'. Agrees fs r s') (sym also) agrees)

number_agrees : (fs : List ℕ) (value : ℕ) (unsigned : Bool) (token : ℕ) → Agrees fs (typed_expr fs (expr.Number value unsigned token)) (expr_sites (expr.Number value unsigned token))
number_agrees fs value unsigned token =
    by_layer fs (expr.Number value unsigned token) _ _
    (ap (typed_expr fs) (sym (expr.rolls-Number value unsigned token)) ∙ fold-roll-Expr Resolved (Resolving.typed_step fs) (Expr-F.Number value unsigned token))
    (ap expr_sites (sym (expr.rolls-Number value unsigned token)) ∙ fold-roll-Expr ExprSites Sites.expr_sites_step (Expr-F.Number value unsigned token))
    (λ known home clean. refl)

name_agrees : (fs : List ℕ) (name : List ℕ) (token : ℕ) → Agrees fs (typed_expr fs (expr.Name name token)) (expr_sites (expr.Name name token))
name_agrees fs name token =
    by_layer fs (expr.Name name token) _ _
    (ap (typed_expr fs) (sym (expr.rolls-Name name token)) ∙ fold-roll-Expr Resolved (Resolving.typed_step fs) (Expr-F.Name name token))
    (ap expr_sites (sym (expr.rolls-Name name token)) ∙ fold-roll-Expr ExprSites Sites.expr_sites_step (Expr-F.Name name token))
    (λ known home clean. named-bound fs home token (latest known name) clean.0)

index_agrees : (fs : List ℕ) (name : List ℕ) (index : Expr) (token : ℕ) → Agrees fs (typed_expr fs index) (expr_sites index) →
    Agrees fs (typed_expr fs (expr.Index name index token)) (expr_sites (expr.Index name index token))
index_agrees fs name index token agrees =
    by_layer fs (expr.Index name index token) _ _
    (ap (typed_expr fs) (sym (expr.rolls-Index name index token)) ∙ fold-roll-Expr Resolved (Resolving.typed_step fs) (Expr-F.Index name index token))
    (ap expr_sites (sym (expr.rolls-Index name index token)) ∙ fold-roll-Expr ExprSites Sites.expr_sites_step (Expr-F.Index name index token))
    (λ known home clean. indexed-bound fs home (token - 1) (latest known name) token (typed_expr fs index known).expr clean.0
    ∙ ap (λ ms. bound fs (latest known name) ++ ms) (agrees known home clean.1))

length-map_sites : (es : List Expr) → length (map expr_sites es) ≡ length es
length-map_sites [] = refl
length-map_sites (e ∷ es) = omega (arith, length-map_sites es)

call_agrees : (fs : List ℕ) (name : List ℕ) (es : List Expr) (token : ℕ) → AgreesAll fs es →
    Agrees fs (typed_expr fs (expr.Call name es token)) (expr_sites (expr.Call name es token))
call_agrees fs name es token agrees =
    by_layer fs (expr.Call name es token) _ _
    (ap (typed_expr fs) (sym (expr.rolls-Call name es token)) ∙ fold-roll-Expr Resolved (Resolving.typed_step fs) (Expr-F.Call name es token))
    (ap expr_sites (sym (expr.rolls-Call name es token)) ∙ fold-roll-Expr ExprSites Sites.expr_sites_step (Expr-F.Call name es token))
    (λ known home clean. called-bound fs (length (map expr_sites es)) home token (latest known name) (arguments_in (map (typed_expr fs) es) known) clean.0
    ∙ ap (λ ms. bound fs (latest known name) ++ ms) (agrees known home clean.1))

input_agrees : (fs : List ℕ) (token : ℕ) → Agrees fs (typed_expr fs (expr.Input token)) (expr_sites (expr.Input token))
input_agrees fs token =
    by_layer fs (expr.Input token) _ _
    (ap (typed_expr fs) (sym (expr.rolls-Input token)) ∙ fold-roll-Expr Resolved (Resolving.typed_step fs) (Expr-F.Input token))
    (ap expr_sites (sym (expr.rolls-Input token)) ∙ fold-roll-Expr ExprSites Sites.expr_sites_step (Expr-F.Input token))
    (λ known home clean. refl)

paren_agrees : (fs : List ℕ) (inner : Expr) (token : ℕ) → Agrees fs (typed_expr fs inner) (expr_sites inner) →
    Agrees fs (typed_expr fs (expr.Paren inner token)) (expr_sites (expr.Paren inner token))
paren_agrees fs inner token agrees =
    by_layer fs (expr.Paren inner token) _ _
    (ap (typed_expr fs) (sym (expr.rolls-Paren inner token)) ∙ fold-roll-Expr Resolved (Resolving.typed_step fs) (Expr-F.Paren inner token))
    (ap expr_sites (sym (expr.rolls-Paren inner token)) ∙ fold-roll-Expr ExprSites Sites.expr_sites_step (Expr-F.Paren inner token))
    agrees

unary_agrees : (fs : List ℕ) (op : Sign) (inner : Expr) (token : ℕ) → is_unary_operator op ≡ true → Agrees fs (typed_expr fs inner) (expr_sites inner) →
    Agrees fs (typed_expr fs (expr.Unary op inner token)) (expr_sites (expr.Unary op inner token))
unary_agrees fs op inner token is agrees =
    by_layer fs (expr.Unary op inner token) _ _
    (ap (typed_expr fs) (sym (expr.rolls-Unary op inner token)) ∙ fold-roll-Expr Resolved (Resolving.typed_step fs) (Expr-F.Unary op inner token))
    (ap expr_sites (sym (expr.rolls-Unary op inner token)) ∙ fold-roll-Expr ExprSites Sites.expr_sites_step (Expr-F.Unary op inner token))
    (λ known home clean. unary-operand op (typed_expr fs inner known) is ∙ agrees known home clean)

binary_agrees : (fs : List ℕ) (op : Sign) (left right : Expr) (token level : ℕ) → rank op ≡ suc level →
    Agrees fs (typed_expr fs left) (expr_sites left) → Agrees fs (typed_expr fs right) (expr_sites right) →
    Agrees fs (typed_expr fs (expr.Binary op left right token)) (expr_sites (expr.Binary op left right token))
binary_agrees fs op left right token level is first second =
    by_layer fs (expr.Binary op left right token) _ _
    (ap (typed_expr fs) (sym (expr.rolls-Binary op left right token)) ∙ fold-roll-Expr Resolved (Resolving.typed_step fs) (Expr-F.Binary op left right token))
    (ap expr_sites (sym (expr.rolls-Binary op left right token)) ∙ fold-roll-Expr ExprSites Sites.expr_sites_step (Expr-F.Binary op left right token))
    (λ known home clean. binary-operands op token level (typed_expr fs left known) (typed_expr fs right known) is
    ∙ mentioned-append fs (in_expr (typed_expr fs left known).expr) (in_expr (typed_expr fs right known).expr) (expr_sites left known home) (expr_sites right known home)
    (first known home) (second known home) clean)

one_agrees : (fs : List ℕ) (e : Expr) (es : List Expr) → Agrees fs (typed_expr fs e) (expr_sites e) → AgreesAll fs es → AgreesAll fs (e ∷ es)
one_agrees fs e es first later known home =
    mentioned-append fs (in_expr (typed_expr fs e known).expr) (in_arguments (list_in fs es known)) (expr_sites e known home) (list_sites es known home)
    (first known home) (later known home)

none_agree : (fs : List ℕ) → AgreesAll fs []
none_agree fs known home clean = refl

-- ---- expressions of the grammar

mutual
  pub expression_agrees : (fs : List ℕ) {l : ℕ} {ts : List Bounded} {x : Expr} → Expression l ts x → Agrees fs (typed_expr fs x) (expr_sites x)
  expression_agrees fs (whole d) = binary_levels_agree fs d

  binary_levels_agree : (fs : List ℕ) {l level before used : ℕ} {ts : List Bounded} {x : Expr} → Binary l level before ts x used → Agrees fs (typed_expr fs x) (expr_sites x)
  binary_levels_agree fs (alone d) = unary_levels_agree fs d
  binary_levels_agree fs (tighter d) = binary_levels_agree fs d
  binary_levels_agree fs (both {level = level} {x = x} {y = y} op at d is room d2) =
      binary_agrees fs op x y at.place level is (λ known home clean. binary_levels_agree fs d known home clean) (λ known home clean. binary_levels_agree fs d2 known home clean)

  unary_levels_agree : (fs : List ℕ) {l : ℕ} {ts : List Bounded} {x : Expr} → Unary l ts x → Agrees fs (typed_expr fs x) (expr_sites x)
  unary_levels_agree fs (primary d) = primary_agrees fs d
  unary_levels_agree fs (operation {x = x} op at is room d) = unary_agrees fs op x at.place is (λ known home clean. unary_levels_agree fs d known home clean)

  primary_agrees : (fs : List ℕ) {l : ℕ} {ts : List Bounded} {x : Expr} → Primary l ts x → Agrees fs (typed_expr fs x) (expr_sites x)
  primary_agrees fs (literal value unsigned at) = number_agrees fs value unsigned at.place
  primary_agrees fs (variable text at) = name_agrees fs text at.place
  primary_agrees fs (element {x = x} text at left right room d) = index_agrees fs text x left.place (λ known home clean. expression_agrees fs d known home clean)
  primary_agrees fs (call {xs = xs} text at d) = call_agrees fs text xs at.place (λ known home clean. arguments_agree fs d known home clean)
  primary_agrees fs (input at left right) = input_agrees fs at.place
  primary_agrees fs (parenthesised {x = x} left right room d) = paren_agrees fs x left.place (λ known home clean. expression_agrees fs d known home clean)

  pub arguments_agree : (fs : List ℕ) {l : ℕ} {ts : List Bounded} {xs : List Expr} → Arguments l ts xs → AgreesAll fs xs
  arguments_agree fs (nothing left right room) = none_agree fs
  arguments_agree fs (some left right room d) = listed_agree fs d

  listed_agree : (fs : List ℕ) {l : ℕ} {ts : List Bounded} {xs : List Expr} → Listed l ts xs → AgreesAll fs xs
  listed_agree fs (one {x = x} d) = one_agrees fs x [] (λ known home clean. expression_agrees fs d known home clean) (none_agree fs)
  listed_agree fs (further {x = x} {xs = xs} comma d d2) =
      one_agrees fs x xs (λ known home clean. expression_agrees fs d known home clean) (λ known home clean. listed_agree fs d2 known home clean)
