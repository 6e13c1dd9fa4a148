-- The answer of the parser on lists is that of the grammar.
use Rattle.std.proofs.Common.{List, length, sym, subst}
use Rattle.std.proofs.lemmas.List.{length-map}
use Rattle.std.specs.Prelude.{Result, IfOk, IfErr}
use Rattle.c_token.specs.declared.kinds.Token.{Token}
use Rattle.c_token.specs.PlainText.{kinds_of}
use Rattle.c_grammar.specs.declared.item.Program.{Program}
use Rattle.c_grammar.specs.TokenPrograms.{AreProgram}
use Rattle.c_parser.specs.DescentLaws.{parsed}
use Rattle.c_reader.specs.declared.error.SyntaxError.{SyntaxError}
use Rattle.c_reader.specs.ReaderAnswers.{AnswersText}
use Rattle.c_reader.specs.SourceText.{IsRefusedAs}
use Rattle.c_reader.proofs.Answering.{answered}
use Rattle.c_reader.proofs.reading.read_program.Goals as goal

answers : (tokens : List Token) (r : Result Program SyntaxError) → AnswersText r (length tokens) (parsed (kinds_of tokens))
    → IfOk r (AreProgram (kinds_of tokens)) × IfErr r (IsRefusedAs (kinds_of tokens))
answers tokens r h =
    answered (kinds_of tokens) r (subst (λ n. AnswersText r n (parsed (kinds_of tokens))) (sym (length-map tokens (λ (t : Token). t.kind))) h)

pub returns-clause-read : goal.returns-clause-read
returns-clause-read c = (answers c.args.tokens.now c.answer.result c.answer.ensures).0

pub returns-clause-refused : goal.returns-clause-refused
returns-clause-refused c = (answers c.args.tokens.now c.answer.result c.answer.ensures).1
