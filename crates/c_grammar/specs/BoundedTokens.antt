-- Promise: tokens with their numbers, and with the bounds of nesting that hold at them.
use Rattle.std.specs.Prelude.{ℕ, suc, Bool, List, [], ◌∷◌, map}
use Rattle.c_token.specs.declared.kinds.Kind.{Kind}
use Rattle.c_token.specs.declared.kinds.Kind.TheVariants as kinds
use Rattle.c_token.specs.declared.words.Word.{Word}
use Rattle.c_token.specs.declared.signs.Sign.{Sign}

-- a token: its number in the text, and what it is
pub record Tok : Type 0 where
  pub place : ℕ
  pub kind : Kind

-- tokens in a row, numbered from this number on
abbrev pub numbered : ℕ → List Kind → List Tok
numbered place [] = []
numbered place (kind ∷ kinds) = record { place = place; kind = kind } ∷ numbered (suc place) kinds

-- Where a token stands: its number, and a bound. At most as many levels may be open at the token with the one that it
-- opens, and at most as many operators may stand in its expression up to it.
pub record Spot : Type 0 where
  pub place : ℕ
  pub bound : ℕ

-- a token at such a spot
pub record Bounded : Type 0 where
  pub spot : Spot
  pub kind : Kind

-- a name, a number, a word and a sign at a spot
abbrev pub name : Spot → List ℕ → Bounded
name spot text = record { spot = spot; kind = kinds.Name text }

abbrev pub number : Spot → ℕ → Bool → Bounded
number spot value unsigned = record { spot = spot; kind = kinds.Number value unsigned }

abbrev pub word : Spot → Word → Bounded
word spot w = record { spot = spot; kind = kinds.Word w }

abbrev pub sign : Spot → Sign → Bounded
sign spot s = record { spot = spot; kind = kinds.Sign s }

-- the token without its bound
abbrev pub tok_of : Bounded → Tok
tok_of token = record { place = token.spot.place; kind = token.kind }

-- the token with this bound
abbrev pub bounded : ℕ → Tok → Bounded
bounded bound token = record { spot = record { place = token.place; bound = bound }; kind = token.kind }

-- tokens in a row without their bounds, and their kinds alone
abbrev pub toks_of : List Bounded → List Tok
toks_of tokens = map tok_of tokens

abbrev pub bounded_kinds : List Bounded → List Kind
bounded_kinds tokens = map (λ token. token.kind) tokens

abbrev pub bounded_all : ℕ → List Tok → List Bounded
bounded_all bound tokens = map (bounded bound) tokens
