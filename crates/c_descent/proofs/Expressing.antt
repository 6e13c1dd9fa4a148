-- Expressions.
use Rattle.std.proofs.Common.{◌≡◌, ℕ, zero, suc, ◌+◌, ◌<◌, Bool, true, false, cond, List, [], ◌∷◌, ◌++◌, Option, Some, None, refl, sym, ap, ◌∙◌, subst, true≢false, arith}
use Rattle.std.proofs.lemmas.Grind.{common_steps}
use Rattle.c_token.specs.declared.signs.Sign.{Sign}
use Rattle.c_token.specs.declared.signs.Sign.TheVariants as signs
use Rattle.c_token.specs.declared.words.Word.TheVariants as words
use Rattle.c_token.specs.declared.kinds.Kind.{Kind}
use Rattle.c_token.specs.declared.kinds.Kind.TheVariants as kinds
use Rattle.c_grammar.specs.declared.expr.Expr.{Expr}
use Rattle.c_grammar.specs.declared.expr.Expr.TheVariants as expr
use Rattle.c_grammar.specs.BoundedTokens as g
use Rattle.c_grammar.specs.BoundedTokens.{Tok, Spot, Bounded, tok_of, bounded, bounded_all}
use Rattle.c_grammar.specs.Precedence.{is_unary_operator}
use Rattle.c_grammar.specs.ExpressionGrammar as gr
use Rattle.c_grammar.specs.ExpressionGrammar.{Expression, whole, Binary, Unary, primary, operation, Primary, literal, Arguments, Listed}
use Rattle.c_descent.specs.declared.parts.Named.{Named}
use Rattle.c_descent.specs.declared.parts.Bracketed.{Bracketed}
use Rattle.c_descent.specs.declared.parts.Operand.{Operand}
use Rattle.c_descent.specs.declared.parts.Operand.TheVariants as operand
use Rattle.c_descent.proofs.ListParser.{done, Parser, first_kind, is_some_sign, is_at_sign, separated}
use Rattle.c_descent.proofs.ExpressionParser as p
use Rattle.c_descent.proofs.ExpressionParser.{unary_sign, operand_of, Inside, opened}
use Rattle.c_descent.proofs.Holds.{Seq, seq, Mapped, mapped, Alike, Holds, Always, Full, mono, bind, mapping, mapped_at, dispatch, head_kind, Nothing, nothing, giving, free, full_seq, full_mapped, full_sign, OpensSign, opens_sign, above_at, above_ok, opening_sign, deep_first, IsSign, is_sign, signing, IsWord, is_word, wording, IsName, is_name, naming, IsNumber, is_number, numbering, Many, some_sign, refusing}
use Rattle.c_descent.proofs.Lists.{head_sign, Comma, separating, separated_made}
use Rattle.c_descent.proofs.Chains.{zero_token, zero_tree, zero_unary, zero_expression, Operand as Grows, binary_at}

-- what reads unary expressions one level deeper
abbrev pub Inner : ℕ → ℕ → Inside → Type 0
Inner limit l None = Unit {0}
Inner limit l (Some unary) = (l < limit) × Always limit unary (Unary (suc l))

pub unary_known : (o : Option Kind) (op : Sign) → unary_sign o ≡ Some op → (o ≡ Some (kinds.Sign op)) × (is_unary_operator op ≡ true)
unary_known (Some (kinds.Sign x)) op e = grind (arith, common_steps)
unary_known (Some (kinds.Word x)) op e = grind arith
unary_known (Some (kinds.Name x)) op e = grind arith
unary_known (Some (kinds.Number x u)) op e = grind arith
unary_known None op e = grind arith

pub paren_known : (o : Option Kind) → operand_of o ≡ operand.Paren → o ≡ Some (kinds.Sign signs.LeftParenthesis)
paren_known (Some (kinds.Sign x)) e = grind (arith, common_steps)
paren_known (Some (kinds.Word x)) e = grind arith
paren_known (Some (kinds.Name x)) e = grind arith
paren_known (Some (kinds.Number x u)) e = grind arith
paren_known None e = grind arith

pub some_kind : (x : Sign) (o : Option Kind) → is_some_sign x o ≡ true → o ≡ Some (kinds.Sign x)
some_kind x (Some k) e = ap Some (some_sign x k e)
some_kind x None e = absurd (true≢false (sym e))

pub at_sign : (x : Sign) (s : List Tok) → is_at_sign x s ≡ true → first_kind s ≡ Some (kinds.Sign x)
unfolding is_at_sign
at_sign x s e = some_kind x (first_kind s) e

-- a test of the first token's sign
module _ (limit : ℕ) {A : Type 0} (x : Sign) (p q : Parser A) where
  chosen : Bool → Parser A
  chosen b t = cond b (p t) (q t)

  pub if_sign : {R : List Bounded → A → Type 0} (s : List Tok) → (is_at_sign x s ≡ true → Holds limit p R s (p s)) → (is_at_sign x s ≡ false → Holds limit q R s (q s))
      → Holds limit (λ t. cond (is_at_sign x t) (p t) (q t)) R s (cond (is_at_sign x s) (p s) (q s))
  unfolding chosen
  if_sign {R} s here away = dispatch limit (is_at_sign x) chosen (head_sign x) s each
    where
      each : (b : Bool) → is_at_sign x s ≡ b → Holds limit (chosen b) R s (chosen b s)
      each true e = here e
      each false e = away e

-- arguments, or none
pub data Inners : ℕ → List Bounded → List Expr → Type 0 where
  no_inner : {l : ℕ} → Inners l [] []
  inners : {l : ℕ} {ts : List Bounded} {xs : List Expr} → Listed l ts xs → Inners l ts xs

module _ (limit l : ℕ) {unary : Parser Expr} (always : Always limit unary (Unary l)) where
  whole_made : (ts : List Bounded) (x : Expr) → Mapped (Grows l 10 0) (λ grown. grown.tree) ts x → Expression l ts x
  whole_made ts x (mapped grown b e) = subst (λ x. Expression l ts x) (sym e) (whole b)

  pub expressing : Always limit (p.expression limit unary) (Expression l)
  unfolding p.expression
  expressing s = mono limit whole_made (mapping limit _ (binary_at limit l always 10 0) s)

  listed_made : (ts : List Bounded) (xs : List Expr) → Seq (Expression l) (λ x. Mapped (Many (Comma (Expression l))) (λ xs. x ∷ xs)) ts xs → Listed l ts xs
  listed_made ts xs h = separated_made (Listed l) (λ ts x h. gr.one h) (λ ts us x xs comma h k. gr.further comma h k) ts xs h

  no_made : (ts : List Bounded) (xs : List Expr) → Nothing [] ts xs → Inners l ts xs
  no_made _ _ nothing = no_inner

  pub listing_inners : Always limit (p.argument_list limit unary) (Inners l)
  unfolding p.argument_list
  listing_inners s = if_sign limit signs.RightParenthesis (λ s. done [] s) (separated (p.expression limit unary)) s
      (λ e. mono limit no_made (giving limit [] s))
      (λ e. mono limit (λ ts xs h. inners (listed_made ts xs h)) (separating limit expressing (_, _, zero_expression l) s))

-- a level more, where one is left
module _ (limit l : ℕ) where
  pub opened_at : {A : Type 0} {R : List Bounded → A → Type 0} (inside : Inside) → Inner limit l inside → (f : Parser Expr → Parser A)
      → (s : List Tok) (k : Kind) → first_kind s ≡ Some k
      → ((place : ℕ) → (more : List Bounded) × (x : A) × R (record { spot = above_at l place; kind = k } ∷ more) x)
      → ((unary : Parser Expr) → l < limit → Always limit unary (Unary (suc l)) → Holds limit (f unary) R s (f unary s))
      → Holds limit (opened inside f) R s (opened inside f s)
  opened_at None h f s k e deeper reads = deep_first limit s k e (suc l) deeper
  opened_at (Some unary) h f s k e deeper reads = reads unary h.0 h.1

  -- `( expression )`
  Paren : List Bounded → Expr → Type 0
  Paren = Seq (OpensSign l signs.LeftParenthesis) (λ place. Seq (Expression (suc l)) (λ inner. Mapped (IsSign signs.RightParenthesis) (λ _. expr.Paren inner place)))

  paren_made : (ts : List Bounded) (x : Expr) → Paren ts x → Primary l ts x
  unfolding Paren
  paren_made _ x (seq _ _ (opens_sign left h) (seq ts _ y (mapped _ (is_sign right) e))) =
      subst (λ x. Primary l (g.sign left signs.LeftParenthesis ∷ ts ++ g.sign right signs.RightParenthesis ∷ []) x) (sym e) (gr.parenthesised left right h y)

  paren_deep : (place : ℕ) → (more : List Bounded) × (x : Expr) × Paren (record { spot = above_at l place; kind = kinds.Sign signs.LeftParenthesis } ∷ more) x
  unfolding Paren
  paren_deep place = (
    zero_token ∷ g.sign free signs.RightParenthesis ∷ [],
    expr.Paren zero_tree place,
    seq _ _ (opens_sign (above_at l place) (above_ok l place)) (seq (zero_token ∷ []) _ (zero_expression (suc l)) (mapped _ (is_sign free) refl)),
  )

  paren_at : (inside : Inside) → Inner limit l inside → (s : List Tok) → first_kind s ≡ Some (kinds.Sign signs.LeftParenthesis)
      → Holds limit (p.paren limit inside) (Primary l) s (p.paren limit inside s)
  unfolding p.paren Paren
  paren_at inside h s k = mono limit paren_made (opened_at inside h _ s (kinds.Sign signs.LeftParenthesis) k paren_deep
      (λ unary a u. bind limit _ (λ place. full_seq (_, _, zero_expression (suc l)) (λ inner. full_mapped _ (full_sign signs.RightParenthesis)))
      (opening_sign limit l signs.LeftParenthesis a)
      (λ place. bind limit _ (λ inner. full_mapped _ (full_sign signs.RightParenthesis)) (expressing limit (suc l) u)
      (λ inner. mapping limit _ (signing limit signs.RightParenthesis))) s))

  -- `[ expression ]`
  abbrev pub Subscripted : List Bounded → Bracketed → Type 0
  Subscripted = Seq (OpensSign l signs.LeftBracket) (λ place. Seq (Expression (suc l)) (λ inner. Mapped (IsSign signs.RightBracket)
      (λ _. record { index = inner; token = place })))

  subscript_deep : (place : ℕ) → (more : List Bounded) × (x : Bracketed) × Subscripted (record { spot = above_at l place; kind = kinds.Sign signs.LeftBracket } ∷ more) x
  subscript_deep place = (
    zero_token ∷ g.sign free signs.RightBracket ∷ [],
    record { index = zero_tree; token = place },
    seq _ _ (opens_sign (above_at l place) (above_ok l place)) (seq (zero_token ∷ []) _ (zero_expression (suc l)) (mapped _ (is_sign free) refl)),
  )

  pub subscript_at : (inside : Inside) → Inner limit l inside → (s : List Tok) → first_kind s ≡ Some (kinds.Sign signs.LeftBracket)
      → Holds limit (p.subscript limit inside) Subscripted s (p.subscript limit inside s)
  unfolding p.subscript
  subscript_at inside h s k = opened_at inside h _ s (kinds.Sign signs.LeftBracket) k subscript_deep
      (λ unary a u. bind limit _ (λ place. full_seq (_, _, zero_expression (suc l)) (λ inner. full_mapped _ (full_sign signs.RightBracket)))
      (opening_sign limit l signs.LeftBracket a)
      (λ place. bind limit _ (λ inner. full_mapped _ (full_sign signs.RightBracket)) (expressing limit (suc l) u)
      (λ inner. mapping limit _ (signing limit signs.RightBracket))) s)

  -- arguments
  Args : List Bounded → List Expr → Type 0
  Args = Seq (OpensSign l signs.LeftParenthesis) (λ place. Seq (Inners (suc l)) (λ trees. Mapped (IsSign signs.RightParenthesis) (λ _. trees)))

  args_inner : (left right : Spot) → l < left.bound → (ts : List Bounded) (xs : List Expr) → Inners (suc l) ts xs
      → Arguments l (g.sign left signs.LeftParenthesis ∷ ts ++ g.sign right signs.RightParenthesis ∷ []) xs
  args_inner left right h _ _ no_inner = gr.nothing left right h
  args_inner left right h ts xs (inners k) = gr.some left right h k

  args_made : (ts : List Bounded) (xs : List Expr) → Args ts xs → Arguments l ts xs
  unfolding Args
  args_made _ xs (seq _ _ (opens_sign left h) (seq {y = trees} ts _ y (mapped _ (is_sign right) e))) =
      subst (λ xs. Arguments l (g.sign left signs.LeftParenthesis ∷ ts ++ g.sign right signs.RightParenthesis ∷ []) xs) (sym e)
      (args_inner left right h ts trees y)

  args_deep : (place : ℕ) → (more : List Bounded) × (xs : List Expr) × Args (record { spot = above_at l place; kind = kinds.Sign signs.LeftParenthesis } ∷ more) xs
  unfolding Args
  args_deep place = (
    g.sign free signs.RightParenthesis ∷ [],
    [],
    seq _ _ (opens_sign (above_at l place) (above_ok l place)) (seq [] _ no_inner (mapped _ (is_sign free) refl)),
  )

  pub arguments_at : (inside : Inside) → Inner limit l inside → (s : List Tok) → first_kind s ≡ Some (kinds.Sign signs.LeftParenthesis)
      → Holds limit (p.arguments limit inside) (Arguments l) s (p.arguments limit inside s)
  unfolding p.arguments Args
  arguments_at inside h s k = mono limit args_made (opened_at inside h _ s (kinds.Sign signs.LeftParenthesis) k args_deep
      (λ unary a u. bind limit _ (λ place. full_seq ([], [], no_inner) (λ inner. full_mapped _ (full_sign signs.RightParenthesis)))
      (opening_sign limit l signs.LeftParenthesis a)
      (λ place. bind limit _ (λ inner. full_mapped _ (full_sign signs.RightParenthesis)) (listing_inners limit (suc l) u)
      (λ inner. mapping limit _ (signing limit signs.RightParenthesis))) s))

  -- what stands after a name makes an operand of it
  After : Named → List Bounded → Expr → Type 0
  After found ts x = (bound : ℕ) → Primary l (g.name (record { place = found.token; bound = bound }) found.name ∷ ts) x

  after_index : (found : Named) (ts : List Bounded) (x : Expr) → Mapped Subscripted (λ at. expr.Index found.name at.index at.token) ts x → After found ts x
  unfolding After
  after_index found _ x (mapped _ (seq _ _ (opens_sign left h) (seq {y = inner} ts _ y (mapped _ (is_sign right) e))) q) bound =
      subst (λ x. Primary l (g.name (record { place = found.token; bound = bound }) found.name ∷ g.sign left signs.LeftBracket ∷ ts ++ g.sign right signs.RightBracket ∷ []) x)
      (sym (q ∙ ap (λ at. expr.Index found.name at.index at.token) e))
      (gr.element found.name (record { place = found.token; bound = bound }) left right h y)

  after_call : (found : Named) (ts : List Bounded) (x : Expr) → Mapped (Arguments l) (λ trees. expr.Call found.name trees found.token) ts x → After found ts x
  unfolding After
  after_call found ts x (mapped trees y q) bound =
      subst (λ x. Primary l (g.name (record { place = found.token; bound = bound }) found.name ∷ ts) x) (sym q) (gr.call found.name (record { place = found.token; bound = bound }) y)

  after_none : (found : Named) (ts : List Bounded) (x : Expr) → Nothing (expr.Name found.name found.token) ts x → After found ts x
  unfolding After
  after_none found _ _ nothing bound = gr.variable found.name (record { place = found.token; bound = bound })

  after_name_at : (inside : Inside) → Inner limit l inside → (found : Named) → Always limit (p.after_name limit inside found) (After found)
  unfolding p.after_name p.element_expression p.call_expression
  after_name_at inside h found s = if_sign limit signs.LeftBracket _ _ s
      (λ e. mono limit (after_index found) (mapped_at limit _ (subscript_at inside h s (at_sign signs.LeftBracket s e))))
      (λ e. if_sign limit signs.LeftParenthesis _ _ s
      (λ e. mono limit (after_call found) (mapped_at limit _ (arguments_at inside h s (at_sign signs.LeftParenthesis s e))))
      (λ e. mono limit (after_none found) (giving limit _ s)))

  named_made : (ts : List Bounded) (x : Expr) → Seq IsName After ts x → Primary l ts x
  unfolding After
  named_made _ x (seq _ us (is_name at text) r) = r at.bound

  after_full : (found : Named) → Full (After found)
  after_full found = ([], expr.Name found.name found.token, after_none found [] _ nothing)

  named_at : (inside : Inside) → Inner limit l inside → Always limit (p.name_expression limit inside) (Primary l)
  unfolding p.name_expression
  named_at inside h s = mono limit named_made (bind limit _ after_full (naming limit) (after_name_at inside h) s)

  literal_made : (ts : List Bounded) (x : Expr) → Mapped IsNumber (λ found. expr.Number found.value found.unsigned found.token) ts x → Primary l ts x
  literal_made _ x (mapped _ (is_number at value unsigned) e) = subst (λ x. Primary l (g.number at value unsigned ∷ []) x) (sym e) (literal value unsigned at)

  literal_at : Always limit p.literal (Primary l)
  unfolding p.literal
  literal_at s = mono limit literal_made (mapping limit _ (numbering limit) s)

  Input : List Bounded → Expr → Type 0
  Input = Seq (IsWord words.Input) (λ place. Seq (IsSign signs.LeftParenthesis) (λ _. Mapped (IsSign signs.RightParenthesis) (λ _. expr.Input place)))

  input_made : (ts : List Bounded) (x : Expr) → Input ts x → Primary l ts x
  unfolding Input
  input_made _ x (seq _ _ (is_word at) (seq _ _ (is_sign left) (mapped _ (is_sign right) e))) =
      subst (λ x. Primary l (g.word at words.Input ∷ g.sign left signs.LeftParenthesis ∷ g.sign right signs.RightParenthesis ∷ []) x) (sym e) (gr.input at left right)

  input_at : Always limit p.input (Primary l)
  unfolding p.input Input
  input_at s = mono limit input_made (bind limit _ (λ place. full_seq (full_sign signs.LeftParenthesis) (λ _. full_mapped _ (full_sign signs.RightParenthesis)))
      (wording limit words.Input)
      (λ place. bind limit _ (λ _. full_mapped _ (full_sign signs.RightParenthesis)) (signing limit signs.LeftParenthesis)
      (λ _. mapping limit _ (signing limit signs.RightParenthesis))) s)

  primary_full : Full (Primary l)
  primary_full = (_, _, literal 0 false free)

  operand_head : (s t : List Tok) → Alike s t → operand_of (first_kind s) ≡ operand_of (first_kind t)
  operand_head s t a = ap operand_of (head_kind s t a)

  primary_by : (inside : Inside) → Inner limit l inside → (s : List Tok) (o : Operand) → operand_of (first_kind s) ≡ o
      → Holds limit (p.primary_by limit inside o) (Primary l) s (p.primary_by limit inside o s)
  primary_by inside h s operand.Number e = literal_at s
  primary_by inside h s operand.Name e = named_at inside h s
  primary_by inside h s operand.Input e = input_at s
  primary_by inside h s operand.Paren e = paren_at inside h s (paren_known (first_kind s) e)
  primary_by inside h s operand.Other e = refusing limit primary_full s

  primary_at : (inside : Inside) → Inner limit l inside → Always limit (p.primary limit inside) (Primary l)
  unfolding p.primary
  primary_at inside h s = dispatch limit (λ s. operand_of (first_kind s)) (p.primary_by limit inside) operand_head s (primary_by inside h s)

  -- an operator of one operand
  Signed : Sign → List Bounded → Expr → Type 0
  Signed op = Seq (OpensSign l op) (λ place. Mapped (Unary (suc l)) (λ inner. expr.Unary op inner place))

  signed_made : (op : Sign) → is_unary_operator op ≡ true → (ts : List Bounded) (x : Expr) → Signed op ts x → Unary l ts x
  unfolding Signed
  signed_made op u _ x (seq _ ts (opens_sign at h) (mapped inner y e)) = subst (λ x. Unary l (g.sign at op ∷ ts) x) (sym e) (operation op at u h y)

  signed_deep : (op : Sign) (place : ℕ) → (more : List Bounded) × (x : Expr) × Signed op (record { spot = above_at l place; kind = kinds.Sign op } ∷ more) x
  unfolding Signed
  signed_deep op place = (
    zero_token ∷ [],
    expr.Unary op zero_tree place,
    seq _ _ (opens_sign (above_at l place) (above_ok l place)) (mapped zero_tree (zero_unary (suc l)) refl),
  )

  signed_at : (inside : Inside) → Inner limit l inside → (s : List Tok) (op : Sign) → unary_sign (first_kind s) ≡ Some op
      → Holds limit (p.signed_expression inside op) (Unary l) s (p.signed_expression inside op s)
  unfolding p.signed_expression Signed
  signed_at inside h s op e = mono limit (signed_made op (unary_known (first_kind s) op e).1)
      (opened_at inside h _ s (kinds.Sign op) (unary_known (first_kind s) op e).0 (signed_deep op)
      (λ unary a u. bind limit _ (λ place. full_mapped _ (_, _, zero_unary (suc l))) (opening_sign limit l op a) (λ place. mapping limit _ u) s))

  unary_head : (s t : List Tok) → Alike s t → unary_sign (first_kind s) ≡ unary_sign (first_kind t)
  unary_head s t a = ap unary_sign (head_kind s t a)

  unary_by : (inside : Inside) → Inner limit l inside → (s : List Tok) (o : Option Sign) → unary_sign (first_kind s) ≡ o
      → Holds limit (p.unary_by limit inside o) (Unary l) s (p.unary_by limit inside o s)
  unary_by inside h s (Some op) e = signed_at inside h s op e
  unary_by inside h s None e = mono limit (λ ts x h. primary h) (primary_at inside h s)

  pub unary_in_at : (inside : Inside) → Inner limit l inside → Always limit (p.unary_in limit inside) (Unary l)
  unfolding p.unary_in
  unary_in_at inside h s = dispatch limit (λ s. unary_sign (first_kind s)) (p.unary_by limit inside) unary_head s (unary_by inside h s)

-- the reader with so many levels left, where so many are open
pub inside_at : (limit n l : ℕ) → l + n ≡ limit → Inner limit l (p.levels_inside limit n)
unfolding p.levels_inside
inside_at limit zero l e = tt
inside_at limit (suc n) l e = (omega (arith, e), unary_in_at limit (suc l) (p.levels_inside limit n) (inside_at limit n (suc l) (omega (arith, e))))

pub unary_at : (limit n l : ℕ) → l + n ≡ limit → Always limit (p.unary_expression limit n) (Unary l)
unfolding p.unary_expression
unary_at limit n l e = unary_in_at limit l (p.levels_inside limit n) (inside_at limit n l e)

pub expression_at : (limit n l : ℕ) → l + n ≡ limit → Always limit (p.expression_at limit n) (Expression l)
expression_at limit n l e = expressing limit l (unary_at limit n l e)
