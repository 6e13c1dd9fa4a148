-- Every expression of the grammar is read, or nests too deep.
use Rattle.std.proofs.Common.{◌≡◌, ℕ, zero, suc, ◌+◌, ◌<◌, ◌≤◌, Bool, true, false, cond, ltb, List, [], ◌∷◌, ◌++◌, Option, Some, None, refl, sym, ap, ◌∙◌, subst, arith, append-nil}
use Rattle.std.proofs.lemmas.Bool.{ltb-false, eq-eqb, ne_eqb}
use Rattle.c_token.specs.declared.signs.Sign.{Sign}
use Rattle.c_token.specs.declared.signs.Sign.TheVariants as signs
use Rattle.c_token.specs.declared.words.Word.TheVariants as words
use Rattle.c_token.specs.declared.kinds.Kind.{Kind}
use Rattle.c_token.specs.declared.kinds.Kind.TheVariants as kinds
use Rattle.c_grammar.specs.declared.expr.Expr.{Expr}
use Rattle.c_grammar.specs.declared.expr.Expr.TheVariants as expr
use Rattle.c_grammar.specs.BoundedTokens as g
use Rattle.c_grammar.specs.BoundedTokens.{Tok, Spot, Bounded, tok_of, toks_of}
use Rattle.c_grammar.specs.Precedence.{precedence, is_unary_operator}
use Rattle.c_grammar.specs.ExpressionGrammar as gr
use Rattle.c_grammar.specs.ExpressionGrammar.{Expression, whole, Binary, alone, tighter, both, Unary, primary, operation, Primary, literal, variable, element, parenthesised, Arguments, Listed, further}
use Rattle.c_descent.specs.declared.parts.Grown.{Grown}
use Rattle.c_descent.proofs.ListParser.{deep, ParseOutcome, done, stop, Parser, follow, ◌>>=◌, gives, first_kind, is_some_sign, is_at_sign, sign_token, word_token, name_token}
use Rattle.c_descent.proofs.ExpressionParser as p
use Rattle.c_descent.proofs.ExpressionParser.{operator_at, unary_sign, Inside, opened}
use Rattle.c_descent.proofs.Holds.{Always, Seq, seq, Mapped, mapped, Many, none_left, one_more, is_sign}
use Rattle.c_descent.proofs.Lists.{Comma}
use Rattle.c_descent.proofs.ComesLists.{separated_reads}
use Rattle.c_descent.proofs.Expressing.{Inner, expressing, unary_in_at, inside_at}
use Rattle.c_descent.proofs.Chains.{zero_expression, binary_at, chained_turn, turn}
use Rattle.c_descent.proofs.Comes.{To, arrives, late, Goes, linked, followed, put-append, step, map_to, sign_goes, name_goes, number_goes, word_goes}

-- An expression of this precedence ends before what is left.
pub record Ends (k : ℕ) (rest : List Tok) : Type 0 where
  pub operators : (j : ℕ) → j < k → operator_at (suc j) rest ≡ None
  pub bracket : is_at_sign signs.LeftBracket rest ≡ false
  pub parenthesis : is_at_sign signs.LeftParenthesis rest ≡ false

pub ends_tighter : (k : ℕ) (rest : List Tok) → Ends (suc k) rest → Ends k rest
ends_tighter k rest h = record { operators = λ j l. h.operators j (omega (arith, l)); bracket = h.bracket; parenthesis = h.parenthesis }

-- an operator of this precedence at the next token
operator_here : (op : Sign) (at : Spot) (k : ℕ) (rest : List Tok) → precedence op ≡ k → operator_at k (tok_of (g.sign at op) ∷ rest) ≡ Some op
unfolding operator_at
operator_here op at k rest e = subst (λ b. cond b (Some op) None ≡ Some op) (sym (eq-eqb (precedence op) k e)) refl

operator_away : (op : Sign) (at : Spot) (k : ℕ) (rest : List Tok) → (precedence op ≡ k → ⊥) → operator_at k (tok_of (g.sign at op) ∷ rest) ≡ None
unfolding operator_at
operator_away op at k rest e = subst (λ b. cond b (Some op) None ≡ None) (sym (ne_eqb (precedence op) k e)) refl

bracket_away : (op : Sign) (at : Spot) (rest : List Tok) → 0 < precedence op → is_at_sign signs.LeftBracket (tok_of (g.sign at op) ∷ rest) ≡ false
unfolding is_at_sign
bracket_away op at rest h = grind arith

parenthesis_away : (op : Sign) (at : Spot) (rest : List Tok) → 0 < precedence op → is_at_sign signs.LeftParenthesis (tok_of (g.sign at op) ∷ rest) ≡ false
unfolding is_at_sign
parenthesis_away op at rest h = grind arith

-- an expression ends before a looser operator
ends_operator : (op : Sign) (at : Spot) (k : ℕ) (rest : List Tok) → precedence op ≡ suc k → Ends k (tok_of (g.sign at op) ∷ rest)
ends_operator op at k rest e = record {
  operators = λ j l. operator_away op at (suc j) rest (λ q. omega (arith, q, e, l));
  bracket = bracket_away op at rest (omega (arith, e));
  parenthesis = parenthesis_away op at rest (omega (arith, e));
}

module _ (limit l : ℕ) {unary : Parser Expr} (always : Always limit unary (Unary l))
    (reads : (ts : List Bounded) (x : Expr) (rest : List Tok) → Unary l ts x → Ends 0 rest → Goes limit unary ts rest x) where
  abbrev grown : Expr → ℕ → Grown
  grown x used = record { tree = x; used = used }

  Reads : ℕ → Type 0
  Reads k = (before used : ℕ) (ts : List Bounded) (x : Expr) (rest : List Tok) → Binary l k before ts x used → Ends k rest
      → Goes limit (p.binary_expression limit unary k before) ts rest (grown x used)

  -- the operand on the right
  joined_to : (k : ℕ) → Reads k → (left : Grown) (op : Sign) (at : Spot) (us : List Bounded) (y : Expr) (used : ℕ) (rest : List Tok)
      → left.used < at.bound → Binary l k (suc left.used) us y used → Ends k rest
      → Goes limit (p.joined_operand limit (p.binary_expression limit unary k) op left) (g.sign at op ∷ us) rest (grown (expr.Binary op left.tree y at.place) used)
  unfolding Reads p.joined_operand
  joined_to k h left op at us y used rest a b e = go (ltb left.used limit) refl
    where
      f : ℕ → Parser Grown
      f place = p.binary_expression limit unary k (left.used + 1) >>= (λ right. gives (grown (expr.Binary op left.tree right.tree place) right.used))

      go : (t : Bool) → ltb left.used limit ≡ t
          → To limit (g.sign at op ∷ us) rest (done (grown (expr.Binary op left.tree y at.place) used) rest)
          (cond t (follow (sign_token op (toks_of (g.sign at op ∷ us) ++ rest)) f) (stop deep (toks_of (g.sign at op ∷ us) ++ rest)))
      go true q = step limit (sign_token op) f (g.sign at op ∷ []) us (sign_goes limit op at (toks_of us ++ rest))
          (map_to limit (λ right. grown (expr.Binary op left.tree right.tree at.place) right.used)
          (h (left.used + 1) used us y rest (subst (λ n. Binary l k n us y used) (omega arith) b) e))
      go false q = late [] (g.sign at op) us refl (omega (arith, ltb-false left.used limit q, a))

  -- an operator first, and then those after it
  turned : (k : ℕ) → Reads k → (left : Grown) (op : Sign) (at : Spot) (us : List Bounded) (y : Expr) (used : ℕ) (rest : List Tok)
      → precedence op ≡ suc k → left.used < at.bound → Binary l k (suc left.used) us y used → Ends k rest
      → To limit (g.sign at op ∷ us) rest (p.chained limit (p.binary_expression limit unary k) (suc k) (grown (expr.Binary op left.tree y at.place) used) rest)
      (p.chained limit (p.binary_expression limit unary k) (suc k) left (toks_of (g.sign at op ∷ us) ++ rest))
  unfolding turn
  turned k h left op at us y used rest q a b e =
      subst (λ o. To limit (g.sign at op ∷ us) rest (p.chained limit (p.binary_expression limit unary k) (suc k) (grown (expr.Binary op left.tree y at.place) used) rest) o)
      (sym (chained_turn limit l k (binary_at limit l always k) left (toks_of (g.sign at op ∷ us) ++ rest)
      ∙ ap (λ o. turn limit l k (binary_at limit l always k) o left (toks_of (g.sign at op ∷ us) ++ rest)) (operator_here op at (suc k) (toks_of us ++ rest) q)))
      (followed limit (p.chained limit (p.binary_expression limit unary k) (suc k)) (joined_to k h left op at us y used rest a b e))

  -- what the left operand and the operators after it come to
  chained_to : (k : ℕ) → Reads k → (before used : ℕ) (ts : List Bounded) (x : Expr) (rest : List Tok) → Binary l (suc k) before ts x used → Ends k rest
      → To limit ts rest (p.chained limit (p.binary_expression limit unary k) (suc k) (grown x used) rest) (p.binary_expression limit unary (suc k) before (toks_of ts ++ rest))
  unfolding Reads p.binary_expression
  chained_to k h before used ts x rest (tighter b) e = subst (λ us. To limit us rest (p.chained limit (p.binary_expression limit unary k) (suc k) (grown x used) rest)
      (p.binary_expression limit unary (suc k) before (toks_of us ++ rest))) (append-nil ts)
      (step limit (p.binary_expression limit unary k before) (p.chained limit (p.binary_expression limit unary k) (suc k)) ts [] (h before used ts x rest b e) arrives)
  chained_to k h before used _ _ rest (both {between} {ts} {us} {x} {y} op at b q a c) e =
      subst (λ s. To limit (ts ++ g.sign at op ∷ us) rest (p.chained limit (p.binary_expression limit unary k) (suc k) (grown (expr.Binary op x y at.place) used) rest)
      (p.binary_expression limit unary (suc k) before s)) (sym (put-append ts (g.sign at op ∷ us) rest))
      (linked limit (chained_to k h before between ts x (toks_of (g.sign at op ∷ us) ++ rest) b (ends_operator op at k (toks_of us ++ rest) q))
      (turned k h (grown x between) op at us y used rest q a c e))

  -- no operator is left
  closed : (k : ℕ) (left : Grown) (rest : List Tok) → operator_at (suc k) rest ≡ None → p.chained limit (p.binary_expression limit unary k) (suc k) left rest ≡ done left rest
  unfolding turn
  closed k left rest e = chained_turn limit l k (binary_at limit l always k) left rest ∙ ap (λ o. turn limit l k (binary_at limit l always k) o left rest) e

  binary_reads : (k : ℕ) → Reads k
  unfolding Reads p.binary_expression
  binary_reads zero before used ts x rest (alone u) e = map_to limit (λ tree. grown tree before) (reads ts x rest u e)
  binary_reads (suc k) before used ts x rest b e = subst (λ o. To limit ts rest o (p.binary_expression limit unary (suc k) before (toks_of ts ++ rest)))
      (closed k (grown x used) rest (e.operators k (omega arith)))
      (chained_to k (binary_reads k) before used ts x rest b (ends_tighter k rest e))

  pub expression_reads : (ts : List Bounded) (x : Expr) (rest : List Tok) → Expression l ts x → Ends 10 rest → Goes limit (p.expression limit unary) ts rest x
  unfolding Reads p.expression
  expression_reads ts x rest (whole {used} b) e = map_to limit (λ grown. grown.tree) (binary_reads 10 0 used ts x rest b e)

-- a sign that ends each expression
pub ends_sign : (x : Sign) (at : Spot) (rest : List Tok) → precedence x ≡ 0 → is_at_sign signs.LeftBracket (tok_of (g.sign at x) ∷ rest) ≡ false
    → is_at_sign signs.LeftParenthesis (tok_of (g.sign at x) ∷ rest) ≡ false → Ends 10 (tok_of (g.sign at x) ∷ rest)
ends_sign x at rest e b c = record {
  operators = λ j l. operator_away x at (suc j) rest (λ q. omega (arith, q, e));
  bracket = b;
  parenthesis = c;
}

pub ends_right : (at : Spot) (rest : List Tok) → Ends 10 (tok_of (g.sign at signs.RightParenthesis) ∷ rest)
unfolding is_at_sign
ends_right at rest = ends_sign signs.RightParenthesis at rest refl refl refl

pub ends_bracket : (at : Spot) (rest : List Tok) → Ends 10 (tok_of (g.sign at signs.RightBracket) ∷ rest)
unfolding is_at_sign
ends_bracket at rest = ends_sign signs.RightBracket at rest refl refl refl

pub ends_comma : (at : Spot) (rest : List Tok) → Ends 10 (tok_of (g.sign at signs.Comma) ∷ rest)
unfolding is_at_sign
ends_comma at rest = ends_sign signs.Comma at rest refl refl refl

pub ends_semicolon : (at : Spot) (rest : List Tok) → Ends 10 (tok_of (g.sign at signs.Semicolon) ∷ rest)
unfolding is_at_sign
ends_semicolon at rest = ends_sign signs.Semicolon at rest refl refl refl

-- a list of arguments, as its first and the others
listed_front : (l : ℕ) (ts us : List Bounded) (x : Expr) (xs : List Expr) (comma : Spot) → Expression l ts x
    → Seq (Expression l) (λ x. Mapped (Many (Comma (Expression l))) (λ xs. x ∷ xs)) us xs
    → Seq (Expression l) (λ x. Mapped (Many (Comma (Expression l))) (λ xs. x ∷ xs)) (ts ++ g.sign comma signs.Comma ∷ us) (x ∷ xs)
listed_front l ts _ x zs comma h (seq {y} us vs k (mapped ys m q)) =
    seq ts (g.sign comma signs.Comma ∷ us ++ vs) h (mapped (y ∷ ys) (one_more (g.sign comma signs.Comma ∷ us) vs (seq (g.sign comma signs.Comma ∷ []) us (is_sign comma) k) m) (ap (λ zs. x ∷ zs) q))

listed_seq : (l : ℕ) (ts : List Bounded) (xs : List Expr) → Listed l ts xs → Seq (Expression l) (λ x. Mapped (Many (Comma (Expression l))) (λ xs. x ∷ xs)) ts xs
listed_seq l ts _ (gr.one {x} h) = subst (λ us. Seq (Expression l) (λ x. Mapped (Many (Comma (Expression l))) (λ xs. x ∷ xs)) us (x ∷ [])) (append-nil ts)
    (seq ts [] h (mapped [] none_left refl))
listed_seq l _ _ (further {ts} {us} {x} {xs} comma h k) = listed_front l ts us x xs comma h (listed_seq l us xs k)

-- what an expression begins with
starts_sign : Sign → Bool
starts_sign signs.LeftParenthesis = true
starts_sign x = is_unary_operator x

starts : Option Kind → Bool
starts (Some (kinds.Name x)) = true
starts (Some (kinds.Number x u)) = true
starts (Some (kinds.Word x)) = true
starts (Some (kinds.Sign x)) = starts_sign x
starts None = false

starts_operator : (op : Sign) → is_unary_operator op ≡ true → starts_sign op ≡ true
unfolding starts_sign
starts_operator op e = grind arith

primary_starts : (l : ℕ) (ts : List Bounded) (x : Expr) (s : List Tok) → Primary l ts x → starts (first_kind (toks_of ts ++ s)) ≡ true
unfolding starts starts_sign
primary_starts l _ _ s (literal value unsigned at) = refl
primary_starts l _ _ s (variable text at) = refl
primary_starts l _ _ s (element text at left right h e) = refl
primary_starts l _ _ s (gr.call text at h) = refl
primary_starts l _ _ s (gr.input at left right) = refl
primary_starts l _ _ s (parenthesised left right h e) = refl

unary_starts : (l : ℕ) (ts : List Bounded) (x : Expr) (s : List Tok) → Unary l ts x → starts (first_kind (toks_of ts ++ s)) ≡ true
unfolding starts
unary_starts l ts x s (primary h) = primary_starts l ts x s h
unary_starts l _ _ s (operation {ts} op at u h y) = starts_operator op u

binary_starts : (l k before used : ℕ) (ts : List Bounded) (x : Expr) (s : List Tok) → Binary l k before ts x used → starts (first_kind (toks_of ts ++ s)) ≡ true
binary_starts l k before used ts x s (alone h) = unary_starts l ts x s h
binary_starts l k before used ts x s (tighter {level} h) = binary_starts l level before used ts x s h
binary_starts l k before used _ _ s (both {between} {ts} {us} {x} op at h q a r) =
    ap (λ s. starts (first_kind s)) (put-append ts (g.sign at op ∷ us) s) ∙ binary_starts l k before between ts x (toks_of (g.sign at op ∷ us) ++ s) h

expression_starts : (l : ℕ) (ts : List Bounded) (x : Expr) (s : List Tok) → Expression l ts x → starts (first_kind (toks_of ts ++ s)) ≡ true
expression_starts l ts x s (whole {used} h) = binary_starts l 10 0 used ts x s h

starts_right : (o : Option Kind) → starts o ≡ true → is_some_sign signs.RightParenthesis o ≡ false
unfolding starts starts_sign
starts_right (Some (kinds.Name x)) e = refl
starts_right (Some (kinds.Number x u)) e = refl
starts_right (Some (kinds.Word x)) e = refl
starts_right (Some (kinds.Sign x)) e = grind arith
starts_right None e = refl

starts_semicolon : (o : Option Kind) → starts o ≡ true → is_some_sign signs.Semicolon o ≡ false
unfolding starts starts_sign
starts_semicolon (Some (kinds.Name x)) e = refl
starts_semicolon (Some (kinds.Number x u)) e = refl
starts_semicolon (Some (kinds.Word x)) e = refl
starts_semicolon (Some (kinds.Sign x)) e = grind arith
starts_semicolon None e = refl

pub expression_no_right : (l : ℕ) (ts : List Bounded) (x : Expr) (s : List Tok) → Expression l ts x → is_at_sign signs.RightParenthesis (toks_of ts ++ s) ≡ false
unfolding is_at_sign
expression_no_right l ts x s h = starts_right (first_kind (toks_of ts ++ s)) (expression_starts l ts x s h)

pub expression_no_semicolon : (l : ℕ) (ts : List Bounded) (x : Expr) (s : List Tok) → Expression l ts x → is_at_sign signs.Semicolon (toks_of ts ++ s) ≡ false
unfolding is_at_sign
expression_no_semicolon l ts x s h = starts_semicolon (first_kind (toks_of ts ++ s)) (expression_starts l ts x s h)

listed_no_right : (l : ℕ) (ts : List Bounded) (xs : List Expr) (s : List Tok) → Listed l ts xs → is_at_sign signs.RightParenthesis (toks_of ts ++ s) ≡ false
listed_no_right l ts _ s (gr.one {x} h) = expression_no_right l ts x s h
listed_no_right l _ _ s (further {ts} {us} {x} comma h k) =
    ap (is_at_sign signs.RightParenthesis) (put-append ts (g.sign comma signs.Comma ∷ us) s) ∙ expression_no_right l ts x (toks_of (g.sign comma signs.Comma ∷ us) ++ s) h

-- what the unary expressions one level deeper are read by
abbrev pub InnerReads : ℕ → ℕ → Inside → Type 0
InnerReads limit l None = limit ≤ l
InnerReads limit l (Some unary) = (ts : List Bounded) (x : Expr) (rest : List Tok) → Unary (suc l) ts x → Ends 0 rest → Goes limit unary ts rest x

-- a test of the first token's sign
yes_sign : {A : Type 0} (x : Sign) (s : List Tok) (p q : ParseOutcome A) → is_at_sign x s ≡ true → p ≡ cond (is_at_sign x s) p q
yes_sign x s p q e = ap (λ b. cond b p q) (sym e)

no_sign : {A : Type 0} (x : Sign) (s : List Tok) (p q : ParseOutcome A) → is_at_sign x s ≡ false → q ≡ cond (is_at_sign x s) p q
no_sign x s p q e = ap (λ b. cond b p q) (sym e)

ends_unary : (rest : List Tok) (k : ℕ) → Ends k rest → Ends 0 rest
ends_unary rest k h = record { operators = λ j l. absurd (omega (arith, l)); bracket = h.bracket; parenthesis = h.parenthesis }

module _ (limit l : ℕ) {unary : Parser Expr} (always : Always limit unary (Unary l))
    (reads : (ts : List Bounded) (x : Expr) (rest : List Tok) → Unary l ts x → Ends 0 rest → Goes limit unary ts rest x) where
  pub list_reads : (ts : List Bounded) (xs : List Expr) (right : Spot) (rest : List Tok) → Listed l ts xs
      → Goes limit (p.argument_list limit unary) ts (tok_of (g.sign right signs.RightParenthesis) ∷ rest) xs
  unfolding p.argument_list is_at_sign
  list_reads ts xs right rest h = subst (λ o. To limit ts (tok_of (g.sign right signs.RightParenthesis) ∷ rest) (done xs (tok_of (g.sign right signs.RightParenthesis) ∷ rest)) o)
      (no_sign signs.RightParenthesis (toks_of ts ++ (tok_of (g.sign right signs.RightParenthesis) ∷ rest)) _ _ (listed_no_right l ts xs _ h))
      (separated_reads limit (expressing limit l always) (_, _, zero_expression l) (Ends 10) ends_comma
      (λ ts x s h e. expression_reads limit l always reads ts x s h e) ts xs (tok_of (g.sign right signs.RightParenthesis) ∷ rest) (listed_seq l ts xs h) (ends_right right rest) refl)

  pub no_list_reads : (right : Spot) (rest : List Tok) → Goes limit (p.argument_list limit unary) [] (tok_of (g.sign right signs.RightParenthesis) ∷ rest) []
  unfolding p.argument_list is_at_sign
  no_list_reads right rest = arrives

module _ (limit l : ℕ) where
  -- a level more
  pub opened_to : {A : Type 0} (inside : Inside) → Inner limit l inside → InnerReads limit l inside → (f : Parser Expr → Parser A) (t : Bounded) (us : List Bounded)
      (rest : List Tok) (end : ParseOutcome A) → l < t.spot.bound
      → ((unary : Parser Expr) → Always limit unary (Unary (suc l))
      → ((ts : List Bounded) (x : Expr) (rest : List Tok) → Unary (suc l) ts x → Ends 0 rest → Goes limit unary ts rest x)
      → To limit (t ∷ us) rest end (f unary (toks_of (t ∷ us) ++ rest)))
      → To limit (t ∷ us) rest end (opened inside f (toks_of (t ∷ us) ++ rest))
  opened_to None i r f t us rest end h k = late [] t us refl (omega (arith, h, r))
  opened_to (Some unary) i r f t us rest end h k = k unary i.1 r

  module _ (inside : Inside) (i : Inner limit l inside) (r : InnerReads limit l inside) where
    paren_reads : (ts : List Bounded) (x : Expr) (left right : Spot) (rest : List Tok) → l < left.bound → Expression (suc l) ts x
        → Goes limit (p.paren limit inside) (g.sign left signs.LeftParenthesis ∷ ts ++ g.sign right signs.RightParenthesis ∷ []) rest (expr.Paren x left.place)
    unfolding p.paren
    paren_reads ts x left right rest h e = opened_to inside i r _ (g.sign left signs.LeftParenthesis) (ts ++ g.sign right signs.RightParenthesis ∷ []) rest _ h
        (λ unary a u. step limit (sign_token signs.LeftParenthesis) _ (g.sign left signs.LeftParenthesis ∷ []) (ts ++ g.sign right signs.RightParenthesis ∷ []) (sign_goes limit signs.LeftParenthesis left _)
        (step limit (p.expression limit unary) _ ts (g.sign right signs.RightParenthesis ∷ []) (expression_reads limit (suc l) a u ts x _ e (ends_right right rest))
        (map_to limit (λ _. expr.Paren x left.place) (sign_goes limit signs.RightParenthesis right rest))))

    pub subscript_reads : (ts us : List Bounded) (x : Expr) (left right : Spot) (rest : List Tok) → l < left.bound → Expression (suc l) ts x
        → Goes limit (p.subscript limit inside) (g.sign left signs.LeftBracket ∷ ts ++ g.sign right signs.RightBracket ∷ []) rest (record { index = x; token = left.place })
    unfolding p.subscript
    subscript_reads ts us x left right rest h e = opened_to inside i r _ (g.sign left signs.LeftBracket) (ts ++ g.sign right signs.RightBracket ∷ []) rest _ h
        (λ unary a u. step limit (sign_token signs.LeftBracket) _ (g.sign left signs.LeftBracket ∷ []) (ts ++ g.sign right signs.RightBracket ∷ []) (sign_goes limit signs.LeftBracket left _)
        (step limit (p.expression limit unary) _ ts (g.sign right signs.RightBracket ∷ []) (expression_reads limit (suc l) a u ts x _ e (ends_bracket right rest))
        (map_to limit (λ _. record { index = x; token = left.place }) (sign_goes limit signs.RightBracket right rest))))

    pub arguments_reads : (ts : List Bounded) (xs : List Expr) (rest : List Tok) → Arguments l ts xs → Goes limit (p.arguments limit inside) ts rest xs
    unfolding p.arguments
    arguments_reads _ _ rest (gr.nothing left right h) = opened_to inside i r _ (g.sign left signs.LeftParenthesis) (g.sign right signs.RightParenthesis ∷ []) rest _ h
        (λ unary a u. step limit (sign_token signs.LeftParenthesis) _ (g.sign left signs.LeftParenthesis ∷ []) (g.sign right signs.RightParenthesis ∷ []) (sign_goes limit signs.LeftParenthesis left _)
        (step limit (p.argument_list limit unary) _ [] (g.sign right signs.RightParenthesis ∷ []) (no_list_reads limit (suc l) a u right rest)
        (map_to limit (λ _. []) (sign_goes limit signs.RightParenthesis right rest))))
    arguments_reads _ xs rest (gr.some {ts} left right h k) = opened_to inside i r _ (g.sign left signs.LeftParenthesis) (ts ++ g.sign right signs.RightParenthesis ∷ []) rest _ h
        (λ unary a u. step limit (sign_token signs.LeftParenthesis) _ (g.sign left signs.LeftParenthesis ∷ []) (ts ++ g.sign right signs.RightParenthesis ∷ []) (sign_goes limit signs.LeftParenthesis left _)
        (step limit (p.argument_list limit unary) _ ts (g.sign right signs.RightParenthesis ∷ []) (list_reads limit (suc l) a u ts xs right rest k)
        (map_to limit (λ _. xs) (sign_goes limit signs.RightParenthesis right rest))))

    -- what stands after a name
    element_reads : (text : List ℕ) (ts : List Bounded) (x : Expr) (at left right : Spot) (rest : List Tok) → l < left.bound → Expression (suc l) ts x
        → Goes limit (p.name_expression limit inside) (g.name at text ∷ g.sign left signs.LeftBracket ∷ ts ++ g.sign right signs.RightBracket ∷ []) rest (expr.Index text x left.place)
    unfolding p.name_expression p.after_name p.element_expression is_at_sign
    element_reads text ts x at left right rest h e = step limit name_token (p.after_name limit inside) (g.name at text ∷ []) (g.sign left signs.LeftBracket ∷ ts ++ g.sign right signs.RightBracket ∷ [])
        (name_goes limit text at _)
        (map_to limit (λ found. expr.Index text found.index found.token) (subscript_reads ts [] x left right rest h e))

    argument_first : (ts : List Bounded) (xs : List Expr) (s : List Tok) → Arguments l ts xs
        → (is_at_sign signs.LeftParenthesis (toks_of ts ++ s) ≡ true) × (is_at_sign signs.LeftBracket (toks_of ts ++ s) ≡ false)
    unfolding is_at_sign
    argument_first _ _ s (gr.nothing left right h) = (refl, refl)
    argument_first _ _ s (gr.some left right h k) = (refl, refl)

    called_reads : (text : List ℕ) (ts : List Bounded) (xs : List Expr) (at : Spot) (rest : List Tok) → Arguments l ts xs
        → Goes limit (p.name_expression limit inside) (g.name at text ∷ ts) rest (expr.Call text xs at.place)
    unfolding p.name_expression p.after_name p.call_expression
    called_reads text ts xs at rest k = step limit name_token (p.after_name limit inside) (g.name at text ∷ []) ts (name_goes limit text at _)
        (subst (λ o. To limit ts rest (done (expr.Call text xs at.place) rest) o)
        (yes_sign signs.LeftParenthesis (toks_of ts ++ rest) _ _ (argument_first ts xs rest k).0 ∙ no_sign signs.LeftBracket (toks_of ts ++ rest) _ _ (argument_first ts xs rest k).1)
        (map_to limit (λ trees. expr.Call text trees at.place) (arguments_reads ts xs rest k)))

    alone_reads : (text : List ℕ) (at : Spot) (rest : List Tok) → Ends 0 rest → Goes limit (p.name_expression limit inside) (g.name at text ∷ []) rest (expr.Name text at.place)
    unfolding p.name_expression p.after_name
    alone_reads text at rest e = step limit name_token (p.after_name limit inside) (g.name at text ∷ []) [] (name_goes limit text at _)
        (subst (λ o. To limit [] rest (done (expr.Name text at.place) rest) o)
        (no_sign signs.LeftParenthesis rest _ _ e.parenthesis ∙ no_sign signs.LeftBracket rest _ _ e.bracket) arrives)

    input_reads : (at left right : Spot) (rest : List Tok)
        → Goes limit p.input (g.word at words.Input ∷ g.sign left signs.LeftParenthesis ∷ g.sign right signs.RightParenthesis ∷ []) rest (expr.Input at.place)
    unfolding p.input
    input_reads at left right rest = step limit (word_token words.Input) _ (g.word at words.Input ∷ []) (g.sign left signs.LeftParenthesis ∷ g.sign right signs.RightParenthesis ∷ []) (word_goes limit words.Input at _)
        (step limit (sign_token signs.LeftParenthesis) _ (g.sign left signs.LeftParenthesis ∷ []) (g.sign right signs.RightParenthesis ∷ []) (sign_goes limit signs.LeftParenthesis left _)
        (map_to limit (λ _. expr.Input at.place) (sign_goes limit signs.RightParenthesis right rest)))

    primary_reads : (ts : List Bounded) (x : Expr) (rest : List Tok) → Primary l ts x → Ends 0 rest → Goes limit (p.unary_in limit inside) ts rest x
    unfolding p.unary_in p.primary p.literal
    primary_reads _ _ rest (literal value unsigned at) e = map_to limit (λ found. expr.Number found.value found.unsigned found.token) (number_goes limit value unsigned at rest)
    primary_reads _ _ rest (variable text at) e = alone_reads text at rest e
    primary_reads _ _ rest (element {ts} {x} text at left right h k) e = element_reads text ts x at left right rest h k
    primary_reads _ _ rest (gr.call {ts} {xs} text at k) e = called_reads text ts xs at rest k
    primary_reads _ _ rest (gr.input at left right) e = input_reads at left right rest
    primary_reads _ _ rest (parenthesised {ts} {x} left right h k) e = paren_reads ts x left right rest h k

    signed_reads : (op : Sign) (ts : List Bounded) (x : Expr) (at : Spot) (rest : List Tok) → l < at.bound → Unary (suc l) ts x → Ends 0 rest
        → Goes limit (p.signed_expression inside op) (g.sign at op ∷ ts) rest (expr.Unary op x at.place)
    unfolding p.signed_expression
    signed_reads op ts x at rest h k e = opened_to inside i r _ (g.sign at op) ts rest _ h
        (λ unary a u. step limit (sign_token op) _ (g.sign at op ∷ []) ts (sign_goes limit op at _) (map_to limit (λ inner. expr.Unary op inner at.place) (u ts x rest k e)))

    operator_first : (op : Sign) → is_unary_operator op ≡ true → Some op ≡ unary_sign (Some (kinds.Sign op))
    operator_first op e = grind arith

    pub unary_reads : (ts : List Bounded) (x : Expr) (rest : List Tok) → Unary l ts x → Ends 0 rest → Goes limit (p.unary_in limit inside) ts rest x
    unfolding p.unary_in
    unary_reads ts x rest (primary k) e = primary_reads ts x rest k e
    unary_reads _ _ rest (operation {ts} {x} op at u h k) e =
        subst (λ o. To limit (g.sign at op ∷ ts) rest (done (expr.Unary op x at.place) rest) (p.unary_by limit inside o (tok_of (g.sign at op) ∷ (toks_of ts ++ rest))))
        (operator_first op u) (signed_reads op ts x at rest h k e)

-- with so many levels left
pub inside_reads : (limit n l : ℕ) → l + n ≡ limit → InnerReads limit l (p.levels_inside limit n)
unfolding p.levels_inside
inside_reads limit zero l e = omega (arith, e)
inside_reads limit (suc n) l e = λ ts x rest h k. unary_reads limit (suc l) (p.levels_inside limit n) (inside_at limit n (suc l) (omega (arith, e)))
    (inside_reads limit n (suc l) (omega (arith, e))) ts x rest h k

pub whole_reads : (limit n l : ℕ) → l + n ≡ limit → (ts : List Bounded) (x : Expr) (rest : List Tok) → Expression l ts x → Ends 10 rest
    → Goes limit (p.expression_at limit n) ts rest x
unfolding p.unary_expression
whole_reads limit n l e ts x rest h k = expression_reads limit l (unary_in_at limit l (p.levels_inside limit n) (inside_at limit n l e))
    (unary_reads limit l (p.levels_inside limit n) (inside_at limit n l e) (inside_reads limit n l e)) ts x rest h k
