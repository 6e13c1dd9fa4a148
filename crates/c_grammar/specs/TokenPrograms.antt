-- Promise: which program tokens are, where they stop being the beginning of one, and where they nest too deep.
use Rattle.std.specs.Prelude.{◌≡◌, ◌<◌, ◌≤◌, ◌⊎◌, ℕ, suc, List, [], ◌∷◌, ◌++◌, length, take, Ok}
use Rattle.c_token.specs.declared.kinds.Kind.{Kind}
use Rattle.c_token.specs.declared.kinds.Token.{Token}
use Rattle.c_token.specs.TextTokens.{tokens_of}
use Rattle.c_token.specs.PlainText.{kinds_of}
use Rattle.aegis_num.specs.declared.limits.TheConstants.{MAX_NESTING}
use Rattle.c_grammar.specs.declared.item.Program.{Program}
use Rattle.c_grammar.specs.BoundedTokens.{numbered, Bounded, bounded_kinds, bounded_all}
use Rattle.c_grammar.specs.ProgramGrammar.{IsProgram}

-- How many levels may be open at one token. One expression may have as many operators of two operands.
abbrev pub limit : ℕ
limit = MAX_NESTING

-- The tokens are this program, within the limits. Its token numbers count them from 0.
abbrev pub AreProgram : List Kind → Program → Type 0
AreProgram kinds program = IsProgram (bounded_all limit (numbered 0 kinds)) program

-- the program of the text is this one: its tokens are; there is at most one
pub record HasProgram (text : List ℕ) (program : Program) : Type 0 where
  pub tokens : List Token
  pub lexed : tokens_of text ≡ Ok tokens
  pub read : AreProgram (kinds_of tokens) program

-- no bound is above the limit
abbrev pub AreLimited : List Bounded → Type 0
AreLimited [] = Unit {0}
AreLimited (token ∷ tokens) = (token.spot.bound ≤ limit) × AreLimited tokens

-- These tokens, with whatever bounds, are a program: so the limits aside.
abbrev pub IsUnlimitedProgram : List Kind → Type 0
IsUnlimitedProgram kinds = (tokens : List Bounded) × (program : Program) × (bounded_kinds tokens ≡ kinds) × IsProgram tokens program

-- Some program begins with these tokens, whatever follows. It keeps the limits at as many first tokens as `kept` says.
abbrev pub BeginsWithin : ℕ → List Kind → Type 0
BeginsWithin kept kinds = (tokens : List Bounded) × (program : Program) × (more : List Kind) × (bounded_kinds tokens ≡ kinds ++ more)
    × AreLimited (take kept tokens) × IsProgram tokens program

-- Some program begins with these tokens, the limits aside.
abbrev pub Begins : List Kind → Type 0
Begins kinds = BeginsWithin 0 kinds

-- The tokens before this one begin some program, and with it they begin none. Or they all begin some and are none.
abbrev pub IsExpectedAt : List Kind → ℕ → Type 0
IsExpectedAt kinds k = ((k < length kinds) × Begins (take k kinds) × (Begins (take (suc k) kinds) → ⊥))
    ⊎ ((k ≡ length kinds) × Begins kinds × (IsUnlimitedProgram kinds → ⊥))

-- The tokens up to this one begin some program, which keeps the limits before it, and none that keeps them at it too: this is
-- the token that opens a level above the limit, or one operator more than the limit.
abbrev pub IsDeepAt : List Kind → ℕ → Type 0
IsDeepAt kinds k = (k < length kinds) × BeginsWithin k (take (suc k) kinds) × (BeginsWithin (suc k) (take (suc k) kinds) → ⊥)

-- No token before this one nests too deep.
abbrev pub IsShallowBefore : List Kind → ℕ → Type 0
IsShallowBefore kinds k = (j : ℕ) → j < k → IsDeepAt kinds j → ⊥
