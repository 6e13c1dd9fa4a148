-- Device: what the reader answers to a whole text, against the parser on lists.
use Rattle.std.specs.Prelude.{◌≡◌, ℕ, List, [], Result, Ok, Err}
use Rattle.c_grammar.specs.declared.item.Program.{Program}
use Rattle.c_grammar.specs.BoundedTokens.{Tok}
use Rattle.c_descent.proofs.ListParser.{expected, deep, ParseOutcome, done, stop, place_or}
use Rattle.c_reader.specs.declared.error.SyntaxError.{SyntaxError}
use Rattle.c_reader.specs.declared.error.SyntaxError.TheVariants as error

-- The answer of a whole text, against the outcome of its parser on all tokens, of which there are so many.
abbrev pub AnswersText : Result Program SyntaxError → ℕ → ParseOutcome Program → Type 0
AnswersText (Ok program) count outcome = outcome ≡ done program []
AnswersText (Err (error.Expected k)) count outcome = (left : List Tok) × (outcome ≡ stop expected left) × (k ≡ place_or count left)
AnswersText (Err (error.Deep k)) count outcome = (left : List Tok) × (outcome ≡ stop deep left) × (k ≡ place_or count left)
AnswersText (Err error.OutOfMemory) count outcome = Unit {0}
