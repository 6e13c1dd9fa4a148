-- Promise: the grammar of expressions (ISO/IEC 9899, section 6.5): which tokens, all of them, are which expression. `l` is the number
-- of levels that are open around them. A unary operator, a parenthesised expression, an index and the arguments of a call each
-- open a level, which ends with them; the token that opens it is the operator, the sign `(` or the sign `[`.
use Rattle.std.specs.Prelude.{◌≡◌, ◌<◌, ℕ, zero, suc, Bool, true, List, [], ◌∷◌, ◌++◌}
use Rattle.c_token.specs.declared.signs.Sign.{Sign}
use Rattle.c_token.specs.declared.signs.Sign.TheVariants.{LeftParenthesis, RightParenthesis, LeftBracket, RightBracket, Comma}
use Rattle.c_token.specs.declared.words.Word.TheVariants.{Input}
use Rattle.c_grammar.specs.declared.expr.Expr.{Expr}
use Rattle.c_grammar.specs.declared.expr.Expr.TheVariants as e
use Rattle.c_grammar.specs.BoundedTokens.{Spot, Bounded, name, number, word, sign}
use Rattle.c_grammar.specs.Precedence.{precedence, loosest, is_unary_operator}

mutual
  -- An expression. Its operators of two operands are counted from its first token on.
  pub data Expression : ℕ → List Bounded → Expr → Type 0 where
    whole : {l used : ℕ} {ts : List Bounded} {x : Expr} → Binary l loosest zero ts x used → Expression l ts x

  -- An expression of operators up to this level. So many operators stand in the whole before it, and so many up to its end.
  pub data Binary : ℕ → ℕ → ℕ → List Bounded → Expr → ℕ → Type 0 where
    alone : {l used : ℕ} {ts : List Bounded} {x : Expr} → Unary l ts x → Binary l zero used ts x used
    tighter : {l level before used : ℕ} {ts : List Bounded} {x : Expr}
        → Binary l level before ts x used → Binary l (suc level) before ts x used
    -- They group to the left: what stands on the right is of tighter levels alone.
    both : {l level before between used : ℕ} {ts us : List Bounded} {x y : Expr} (op : Sign) (at : Spot)
        → Binary l (suc level) before ts x between → precedence op ≡ suc level → between < at.bound
        → Binary l level (suc between) us y used
        → Binary l (suc level) before (ts ++ sign at op ∷ us) (e.Binary op x y at.place) used

  pub data Unary : ℕ → List Bounded → Expr → Type 0 where
    primary : {l : ℕ} {ts : List Bounded} {x : Expr} → Primary l ts x → Unary l ts x
    operation : {l : ℕ} {ts : List Bounded} {x : Expr} (op : Sign) (at : Spot) → is_unary_operator op ≡ true → l < at.bound
        → Unary (suc l) ts x → Unary l (sign at op ∷ ts) (e.Unary op x at.place)

  pub data Primary : ℕ → List Bounded → Expr → Type 0 where
    literal : {l : ℕ} (value : ℕ) (unsigned : Bool) (at : Spot)
        → Primary l (number at value unsigned ∷ []) (e.Number value unsigned at.place)
    variable : {l : ℕ} (text : List ℕ) (at : Spot) → Primary l (name at text ∷ []) (e.Name text at.place)
    element : {l : ℕ} {ts : List Bounded} {x : Expr} (text : List ℕ) (at left right : Spot) → l < left.bound
        → Expression (suc l) ts x
        → Primary l (name at text ∷ sign left LeftBracket ∷ ts ++ sign right RightBracket ∷ []) (e.Index text x left.place)
    call : {l : ℕ} {ts : List Bounded} {xs : List Expr} (text : List ℕ) (at : Spot) → Arguments l ts xs
        → Primary l (name at text ∷ ts) (e.Call text xs at.place)
    input : {l : ℕ} (at left right : Spot)
        → Primary l (word at Input ∷ sign left LeftParenthesis ∷ sign right RightParenthesis ∷ []) (e.Input at.place)
    parenthesised : {l : ℕ} {ts : List Bounded} {x : Expr} (left right : Spot) → l < left.bound → Expression (suc l) ts x
        → Primary l (sign left LeftParenthesis ∷ ts ++ sign right RightParenthesis ∷ []) (e.Paren x left.place)

  -- The arguments of a call, with their parentheses.
  pub data Arguments : ℕ → List Bounded → List Expr → Type 0 where
    nothing : {l : ℕ} (left right : Spot) → l < left.bound
        → Arguments l (sign left LeftParenthesis ∷ sign right RightParenthesis ∷ []) []
    some : {l : ℕ} {ts : List Bounded} {xs : List Expr} (left right : Spot) → l < left.bound → Listed (suc l) ts xs
        → Arguments l (sign left LeftParenthesis ∷ ts ++ sign right RightParenthesis ∷ []) xs

  -- At least one expression, separated by commas.
  pub data Listed : ℕ → List Bounded → List Expr → Type 0 where
    one : {l : ℕ} {ts : List Bounded} {x : Expr} → Expression l ts x → Listed l ts (x ∷ [])
    further : {l : ℕ} {ts us : List Bounded} {x : Expr} {xs : List Expr} (comma : Spot) → Expression l ts x → Listed l us xs
        → Listed l (ts ++ sign comma Comma ∷ us) (x ∷ xs)
