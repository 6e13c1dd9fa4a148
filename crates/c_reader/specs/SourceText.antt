-- Promise: which program a source text is, and why it is none, or its tokens are none.
use Rattle.std.specs.Prelude.{◌≡◌, ℕ, List, Ok, Err}
use Rattle.c_token.specs.declared.kinds.Kind.{Kind}
use Rattle.c_token.specs.declared.kinds.Token.{Token}
use Rattle.c_token.specs.declared.kinds.TokenError.{TokenError}
use Rattle.c_token.specs.TextTokens.{tokens_of}
use Rattle.c_token.specs.PlainText.{kinds_of}
use Rattle.c_grammar.specs.declared.item.Program.{Program}
use Rattle.c_grammar.specs.TokenPrograms.{AreProgram, HasProgram, IsExpectedAt, IsDeepAt, IsShallowBefore}
use Rattle.c_reader.specs.declared.error.SyntaxError.{SyntaxError}
use Rattle.c_reader.specs.declared.error.SyntaxError.TheVariants.{Expected, Deep, OutOfMemory}

-- the first token with which the tokens up to it begin no program, where no token before it nests too deep; or a token that
-- nests too deep; or want of memory
abbrev pub IsRefusedAs : List Kind → SyntaxError → Type 0
IsRefusedAs kinds (Expected token) = IsExpectedAt kinds token × IsShallowBefore kinds token
IsRefusedAs kinds (Deep token) = IsDeepAt kinds token
IsRefusedAs kinds OutOfMemory = Unit {0}

-- the text has these tokens
abbrev pub HasTokens : List ℕ → List Token → Type 0
HasTokens text tokens = tokens_of text ≡ Ok tokens

-- the text has no tokens, for this fault
abbrev pub HasTokenFault : List ℕ → TokenError → Type 0
HasTokenFault text error = tokens_of text ≡ Err error

-- its tokens are no program, for this fault
pub record HasSyntaxFault (text : List ℕ) (error : SyntaxError) : Type 0 where
  pub tokens : List Token
  pub lexed : HasTokens text tokens
  pub refused : IsRefusedAs (kinds_of tokens) error

-- tokens are one program
abbrev pub OneProgram : Type 0
OneProgram = (kinds : List Kind) (p q : Program) → AreProgram kinds p → AreProgram kinds q → p ≡ q

-- a text is one program
abbrev pub OneProgramOfText : Type 0
OneProgramOfText = (text : List ℕ) (p q : Program) → HasProgram text p → HasProgram text q → p ≡ q
