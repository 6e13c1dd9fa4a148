-- What the answer of a whole text says of its tokens, and that a text is one program.
use Rattle.std.proofs.Common.{◌≡◌, ℕ, length, List, Result, Ok, Err, IfOk, IfErr, sym, ap, ◌∙◌, subst}
use Rattle.c_token.specs.declared.kinds.Kind.{Kind}
use Rattle.c_token.specs.declared.kinds.Token.{Token}
use Rattle.c_token.specs.declared.kinds.TokenError.{TokenError}
use Rattle.c_token.specs.PlainText.{kinds_of}
use Rattle.c_token.specs.TextTokens.{tokens_of}
use Rattle.c_grammar.specs.declared.item.Program.{Program}
use Rattle.c_grammar.specs.TokenPrograms.{AreProgram, IsExpectedAt, IsDeepAt, IsShallowBefore}
use Rattle.c_parser.specs.DescentLaws.{parsed}
use Rattle.c_descent.proofs.Answered.{reads, refused_expected, refused_deep, one_program}
use Rattle.c_reader.specs.declared.error.SyntaxError.{SyntaxError}
use Rattle.c_reader.specs.declared.error.SyntaxError.TheVariants as error
use Rattle.c_reader.specs.ReaderAnswers.{AnswersText}
use Rattle.c_reader.specs.SourceText.{IsRefusedAs, OneProgramOfText}

pub answered : (kinds : List Kind) (r : Result Program SyntaxError) → AnswersText r (length kinds) (parsed kinds)
    → IfOk r (AreProgram kinds) × IfErr r (IsRefusedAs kinds)
answered kinds (Ok p) e = (reads kinds p e, tt)
answered kinds (Err (error.Expected k)) e = (tt, subst (λ k. IsExpectedAt kinds k × IsShallowBefore kinds k) (sym e.2) (refused_expected kinds e.0 e.1))
answered kinds (Err (error.Deep k)) e = (tt, subst (λ k. IsDeepAt kinds k) (sym e.2) (refused_deep kinds e.0 e.1))
answered kinds (Err error.OutOfMemory) e = (tt, tt)

ok_or : List Token → Result (List Token) TokenError → List Token
ok_or d (Ok tokens) = tokens
ok_or d (Err error) = d

tokens_one : (text : List ℕ) (a b : List Token) → tokens_of text ≡ Ok a → tokens_of text ≡ Ok b → a ≡ b
unfolding ok_or
tokens_one text a b p q = ap (ok_or a) (sym p ∙ q)

pub one_of_text : OneProgramOfText
one_of_text text p q a b =
    one_program (kinds_of a.tokens) p q a.read (subst (λ tokens. AreProgram (kinds_of tokens) q) (tokens_one text b.tokens a.tokens b.lexed a.lexed) b.read)
