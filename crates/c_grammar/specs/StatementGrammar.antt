-- Promise: the grammar of statements (ISO/IEC 9899, section 6.8): which tokens, all of them, are which statement. `l` is the number of
-- levels that are open around them. Each statement opens a level at its first token, which ends with it. So does each local, and
-- each simple part of the head of a `for`. The block of a function is no statement.
use Rattle.std.specs.Prelude.{◌<◌, ℕ, suc, Bool, true, false, List, [], ◌∷◌, ◌++◌, Option, Some, None}
use Rattle.c_token.specs.declared.signs.Sign.TheVariants.{LeftParenthesis, RightParenthesis, LeftBrace, RightBrace, LeftBracket, RightBracket, Semicolon, Assign}
use Rattle.c_token.specs.declared.words.Word.TheVariants as w
use Rattle.c_grammar.specs.declared.expr.Expr.{Expr}
use Rattle.c_grammar.specs.declared.stmt.Stmt.{Stmt}
use Rattle.c_grammar.specs.declared.stmt.Stmt.TheVariants as s
use Rattle.c_grammar.specs.BoundedTokens.{Spot, Bounded, name, word, sign}
use Rattle.c_grammar.specs.ExpressionGrammar.{Expression, Arguments}

-- `int`, or `unsigned`, or `unsigned int`, and whether it is unsigned. The first word stands at this spot.
pub data IsType : Spot → List Bounded → Bool → Type 0 where
  int : (at : Spot) → IsType at (word at w.Int ∷ []) false
  unsigned : (at : Spot) → IsType at (word at w.Unsigned ∷ []) true
  unsigned_int : (at then : Spot) → IsType at (word at w.Unsigned ∷ word then w.Int ∷ []) true

-- A local without the sign after it: a type and a name, and maybe a value.
pub data Local : ℕ → List Bounded → Stmt → Type 0 where
  plain : {l : ℕ} {ts : List Bounded} {is_unsigned : Bool} (first at : Spot) (text : List ℕ) → l < first.bound
      → IsType first ts is_unsigned
      → Local l (ts ++ name at text ∷ []) (s.Local is_unsigned text None at.place)
  valued : {l : ℕ} {ts us : List Bounded} {is_unsigned : Bool} {x : Expr} (first at equals : Spot) (text : List ℕ)
      → l < first.bound → IsType first ts is_unsigned → Expression (suc l) us x
      → Local l (ts ++ name at text ∷ sign equals Assign ∷ us) (s.Local is_unsigned text (Some x) at.place)

-- An assignment, a call, a release or a check, without the sign after it.
pub data Simple : ℕ → List Bounded → Stmt → Type 0 where
  assign : {l : ℕ} {ts : List Bounded} {x : Expr} (text : List ℕ) (at equals : Spot) → l < at.bound
      → Expression (suc l) ts x
      → Simple l (name at text ∷ sign equals Assign ∷ ts) (s.Assign text None x at.place)
  assign_at : {l : ℕ} {ts us : List Bounded} {x y : Expr} (text : List ℕ) (at left right equals : Spot) → l < at.bound
      → suc l < left.bound → Expression (suc (suc l)) ts x → Expression (suc l) us y
      → Simple l (name at text ∷ sign left LeftBracket ∷ ts ++ sign right RightBracket ∷ sign equals Assign ∷ us)
      (s.Assign text (Some x) y at.place)
  call : {l : ℕ} {ts : List Bounded} {xs : List Expr} (text : List ℕ) (at : Spot) → l < at.bound → Arguments (suc l) ts xs
      → Simple l (name at text ∷ ts) (s.Call text xs at.place)
  release : {l : ℕ} {ts : List Bounded} {x : Expr} (at left right : Spot) → l < at.bound → Expression (suc l) ts x
      → Simple l (word at w.Release ∷ sign left LeftParenthesis ∷ ts ++ sign right RightParenthesis ∷ []) (s.Release x at.place)
  check : {l : ℕ} (at left right : Spot) → l < at.bound
      → Simple l (word at w.Check ∷ sign left LeftParenthesis ∷ sign right RightParenthesis ∷ []) (s.Check at.place)

-- What stands first in the head of a `for`, if anything.
pub data First : ℕ → List Bounded → Option Stmt → Type 0 where
  nothing : {l : ℕ} → First l [] None
  local : {l : ℕ} {ts : List Bounded} {x : Stmt} → Local l ts x → First l ts (Some x)
  simple : {l : ℕ} {ts : List Bounded} {x : Stmt} → Simple l ts x → First l ts (Some x)

-- What stands last in it, if anything.
pub data Step : ℕ → List Bounded → Option Stmt → Type 0 where
  nothing : {l : ℕ} → Step l [] None
  simple : {l : ℕ} {ts : List Bounded} {x : Stmt} → Simple l ts x → Step l ts (Some x)

-- An expression, or none.
pub data Maybe : ℕ → List Bounded → Option Expr → Type 0 where
  nothing : {l : ℕ} → Maybe l [] None
  given : {l : ℕ} {ts : List Bounded} {x : Expr} → Expression l ts x → Maybe l ts (Some x)

mutual
  -- A statement, and whether it ends in an `if` that could take an `else` that followed.
  pub data Statement : ℕ → List Bounded → Stmt → Bool → Type 0 where
    block : {l : ℕ} {ts : List Bounded} {xs : List Stmt} (left right : Spot) → l < left.bound → Body (suc l) ts xs
        → Statement l (sign left LeftBrace ∷ ts ++ sign right RightBrace ∷ []) (s.Block xs left.place) false
    empty : {l : ℕ} (at : Spot) → l < at.bound → Statement l (sign at Semicolon ∷ []) (s.Empty at.place) false
    simple : {l : ℕ} {ts : List Bounded} {x : Stmt} (end : Spot) → Simple l ts x
        → Statement l (ts ++ sign end Semicolon ∷ []) x false
    «return» : {l : ℕ} {ts : List Bounded} {value : Option Expr} (at end : Spot) → l < at.bound → Maybe (suc l) ts value
        → Statement l (word at w.Return ∷ ts ++ sign end Semicolon ∷ []) (s.Return value at.place) false
    break : {l : ℕ} (at end : Spot) → l < at.bound
        → Statement l (word at w.Break ∷ sign end Semicolon ∷ []) (s.Break at.place) false
    continue : {l : ℕ} (at end : Spot) → l < at.bound
        → Statement l (word at w.Continue ∷ sign end Semicolon ∷ []) (s.Continue at.place) false
    if : {l : ℕ} {ts us : List Bounded} {test : Expr} {body : Stmt} {takes : Bool} (at left right : Spot) → l < at.bound
        → Expression (suc l) ts test → Statement (suc l) us body takes
        → Statement l (word at w.If ∷ sign left LeftParenthesis ∷ ts ++ sign right RightParenthesis ∷ us)
        (s.If test body None at.place) true
    -- An `else` belongs to the nearest `if`: none that stands before it in the body could take it.
    if_else : {l : ℕ} {ts us vs : List Bounded} {test : Expr} {body other : Stmt} {takes : Bool} (at left right else : Spot)
        → l < at.bound → Expression (suc l) ts test → Statement (suc l) us body false → Statement (suc l) vs other takes
        → Statement l (word at w.If ∷ sign left LeftParenthesis ∷ ts ++ (sign right RightParenthesis ∷ us ++ word else w.Else ∷ vs))
        (s.If test body (Some other) at.place) takes
    while : {l : ℕ} {ts us : List Bounded} {test : Expr} {body : Stmt} {takes : Bool} (at left right : Spot) → l < at.bound
        → Expression (suc l) ts test → Statement (suc l) us body takes
        → Statement l (word at w.While ∷ sign left LeftParenthesis ∷ ts ++ sign right RightParenthesis ∷ us)
        (s.While test body at.place) takes
    for : {l : ℕ} {ts us vs ws : List Bounded} {first step : Option Stmt} {test : Option Expr} {body : Stmt} {takes : Bool}
        (at left second third right : Spot) → l < at.bound
        → First (suc l) ts first → Maybe (suc l) us test → Step (suc l) vs step → Statement (suc l) ws body takes
        → Statement l (word at w.For ∷ sign left LeftParenthesis ∷ ts
        ++ (sign second Semicolon ∷ us ++ (sign third Semicolon ∷ vs ++ sign right RightParenthesis ∷ ws)))
        (s.For first test step body at.place) takes

  -- The locals and statements of a block, without its braces.
  pub data Body : ℕ → List Bounded → List Stmt → Type 0 where
    nothing : {l : ℕ} → Body l [] []
    local : {l : ℕ} {ts us : List Bounded} {x : Stmt} {xs : List Stmt} (end : Spot) → Local l ts x → Body l us xs
        → Body l (ts ++ sign end Semicolon ∷ us) (x ∷ xs)
    statement : {l : ℕ} {ts us : List Bounded} {x : Stmt} {xs : List Stmt} {takes : Bool} → Statement l ts x takes → Body l us xs
        → Body l (ts ++ us) (x ∷ xs)
