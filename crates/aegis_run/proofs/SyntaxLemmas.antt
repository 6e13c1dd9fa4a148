-- Tokens that are refused are a fault of their text.
use Rattle.std.proofs.Common.{◌≡◌, ℕ, List, sym, subst}
use Rattle.c_reader.specs.declared.error.SyntaxError.{SyntaxError}
use Rattle.c_reader.specs.declared.error.SyntaxError.TheVariants as syntax
use Rattle.c_reader.specs.SourceText.{HasTokens, IsRefusedAs}
use Rattle.c_token.specs.declared.kinds.Token.{Token}
use Rattle.c_token.specs.PlainText.{kinds_of}
use Rattle.aegis_run.specs.FilesRead.{AcceptCause, end_of_syntax}

pub syntax_refused : (text : List ℕ) (tokens items : List Token) (error : SyntaxError) → HasTokens text items → tokens ≡ items → IsRefusedAs (kinds_of tokens) error
    → AcceptCause text (end_of_syntax error)
syntax_refused text tokens items error lexed same refused =
    let P : List Token → Type 0 = λ tokens. HasTokens text tokens in go error (subst P (sym same) lexed) refused
  where
    go : (error : SyntaxError) → HasTokens text tokens → IsRefusedAs (kinds_of tokens) error → AcceptCause text (end_of_syntax error)
    go (syntax.Expected place) lexed refused = record { tokens = tokens; lexed = lexed; refused = refused }
    go (syntax.Deep place) lexed refused = record { tokens = tokens; lexed = lexed; refused = refused }
    go syntax.OutOfMemory lexed refused = tt
