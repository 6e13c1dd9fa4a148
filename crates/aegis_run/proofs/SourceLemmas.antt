-- A text has one answer: it is a program that keeps the typing rules, or it is refused in one way.
use Rattle.std.proofs.Common.{◌≡◌, ◌≢◌, ℕ, List, Ok, Err, refl, sym, ◌∙◌, ap, subst}
use Rattle.c_token.specs.declared.kinds.Kind.{Kind}
use Rattle.c_token.specs.declared.kinds.Token.{Token}
use Rattle.c_token.specs.declared.kinds.TokenError.{TokenError}
use Rattle.c_token.specs.declared.kinds.TokenError.TheVariants as token
use Rattle.c_token.specs.PlainText.{kinds_of}
use Rattle.c_token.specs.TextTokens.{tokens_of}
use Rattle.c_grammar.specs.declared.item.Program.{Program}
use Rattle.c_grammar.specs.TokenPrograms.{AreProgram, HasProgram}
use Rattle.c_grammar.proofs.PlaceLaws.{reads-expected, reads-deep, expected-one, deep-one, expected-deep}
use Rattle.c_reader.specs.declared.error.SyntaxError.{SyntaxError}
use Rattle.c_reader.specs.declared.error.SyntaxError.TheVariants as syntax
use Rattle.c_reader.specs.SourceText.{IsRefusedAs}
use Rattle.c_reader.specs.SourceText.{HasTokenFault, HasSyntaxFault}
use Rattle.c_reader.proofs.Answering.{one_of_text}
use Rattle.c_types.specs.declared.error.TypeError.{TypeError}
use Rattle.c_types.specs.declared.error.TypeError.TheVariants as type
use Rattle.c_types.specs.Checked.{IsTyped, IsRefusedByTypes}
use Rattle.aegis_run.specs.declared.ends.TopEnd.{TopEnd}
use Rattle.aegis_run.specs.declared.ends.TopEnd.TheVariants.{Run, Mean, Done, Usage, TooLong, Token as TokenEnd, Syntax, Typing, Plan, Image, NotYet, NoFile, ReadFault, WriteFault, OutOfMemory}
use Rattle.aegis_run.specs.SourceTexts.{SourceFault, HasTypeFault}
use Rattle.aegis_run.proofs.TypingLemmas.{typed_refused, one_type_error}

-- the program of a text is one
pub one_text : (text : List ℕ) (p q : Program) → HasProgram text p → HasProgram text q → p ≡ q
one_text text p q first second = one_of_text text p q first second

-- its tokens are one list
one_tokens : (text : List ℕ) (ts us : List Token) → tokens_of text ≡ Ok ts → tokens_of text ≡ Ok us → ts ≡ us
one_tokens text ts us first second = let both : Ok ts ≡ Ok us = sym first ∙ second in cc

-- a program is not refused
read_refused : (kinds : List Kind) (p : Program) (error : SyntaxError) → error ≢ syntax.OutOfMemory → AreProgram kinds p → IsRefusedAs kinds error → ⊥
read_refused kinds p (syntax.Expected place) other reads refused = reads-expected kinds p place reads refused.0
read_refused kinds p (syntax.Deep place) other reads refused = reads-deep kinds p place reads refused
read_refused kinds p syntax.OutOfMemory other reads refused = other refl

-- a refusal is one
one_refusal : (kinds : List Kind) (a b : SyntaxError) → a ≢ syntax.OutOfMemory → b ≢ syntax.OutOfMemory → IsRefusedAs kinds a → IsRefusedAs kinds b → a ≡ b
one_refusal kinds (syntax.Expected j) (syntax.Expected k) p q first second = ap syntax.Expected (expected-one kinds j k first.0 second.0)
one_refusal kinds (syntax.Expected j) (syntax.Deep k) p q first second = absurd (expected-deep kinds j k first.0 first.1 second)
one_refusal kinds (syntax.Deep j) (syntax.Expected k) p q first second = absurd (expected-deep kinds k j second.0 second.1 first)
one_refusal kinds (syntax.Deep j) (syntax.Deep k) p q first second = ap syntax.Deep (deep-one kinds j k first second)
one_refusal kinds syntax.OutOfMemory b p q first second = absurd (p refl)
one_refusal kinds a syntax.OutOfMemory p q first second = absurd (q refl)

-- tokens that are a program are refused in no way
text_refused : (text : List ℕ) (p : Program) (error : SyntaxError) → error ≢ syntax.OutOfMemory → HasProgram text p → HasSyntaxFault text error → ⊥
text_refused text p error other is fault =
    let P : List Token → Type 0 = λ tokens. IsRefusedAs (kinds_of tokens) error in
    read_refused (kinds_of is.tokens) p error other is.read (subst P (one_tokens text fault.tokens is.tokens fault.lexed is.lexed) fault.refused)

-- a text that has tokens has no fault of tokens
lexed_faulty : (text : List ℕ) (tokens : List Token) (error : TokenError) → tokens_of text ≡ Ok tokens → HasTokenFault text error → ⊥
lexed_faulty text tokens error lexed fault = let both : Ok tokens ≡ Err error = sym lexed ∙ fault in cc

token_fault : (text : List ℕ) (error : TokenError) → SourceFault text (TokenEnd error) → HasTokenFault text error
token_fault text (token.BadByte at) fault = fault
token_fault text (token.OpenComment at) fault = fault
token_fault text (token.LongName at) fault = fault
token_fault text (token.BadNumber at) fault = fault
token_fault text (token.BigNumber at) fault = fault
token_fault text token.OutOfMemory fault = absurd fault

other_fault : (text : List ℕ) (error : SyntaxError) → SourceFault text (Syntax error) → error ≢ syntax.OutOfMemory
other_fault text (syntax.Expected place) fault = λ same. cc
other_fault text (syntax.Deep place) fault = λ same. cc
other_fault text syntax.OutOfMemory fault = absurd fault

syntax_fault : (text : List ℕ) (error : SyntaxError) → SourceFault text (Syntax error) → HasSyntaxFault text error
syntax_fault text (syntax.Expected place) fault = fault
syntax_fault text (syntax.Deep place) fault = fault
syntax_fault text syntax.OutOfMemory fault = absurd fault

other_type : (text : List ℕ) (error : TypeError) → SourceFault text (Typing error) → error ≢ type.OutOfMemory
other_type text error fault = λ same. let P : TypeError → Type 0 = λ error. SourceFault text (Typing error) in subst P same fault

type_fault : (text : List ℕ) (error : TypeError) → SourceFault text (Typing error) → HasTypeFault text error
type_fault text type.OutOfMemory fault = absurd fault
type_fault text (type.Unknown at) fault = fault
type_fault text (type.Twice at) fault = fault
type_fault text (type.Recursive at) fault = fault
type_fault text (type.Class at) fault = fault
type_fault text (type.Shape at) fault = fault
type_fault text (type.Arity at) fault = fault
type_fault text (type.TooLong at) fault = fault
type_fault text (type.TooMany at) fault = fault
type_fault text type.NoMain fault = fault

-- what refuses one program of a text refuses each
carried_type : (text : List ℕ) (p q : Program) (error : TypeError) → HasProgram text p → HasProgram text q → IsRefusedByTypes p error → IsRefusedByTypes q error
carried_type text p q error first second refused =
    let P : Program → Type 0 = λ program. IsRefusedByTypes program error in subst P (one_text text p q first second) refused

-- a text that is a program which keeps the typing rules has no fault
pub accepted_fault : (text : List ℕ) (p : Program) (end : TopEnd) → HasProgram text p → IsTyped p → SourceFault text end → ⊥
accepted_fault text p (TokenEnd error) is typed fault = lexed_faulty text is.tokens error is.lexed (token_fault text error fault)
accepted_fault text p (Syntax error) is typed fault = text_refused text p error (other_fault text error fault) is (syntax_fault text error fault)
accepted_fault text p (Typing error) is typed fault =
    let ill = type_fault text error fault in
    typed_refused p error (other_type text error fault) typed (carried_type text ill.program p error ill.is_text is ill.refused)
accepted_fault text p (Run end) is typed fault = fault
accepted_fault text p (Mean end) is typed fault = fault
accepted_fault text p Usage is typed fault = fault
accepted_fault text p Done is typed fault = fault
accepted_fault text p (TooLong file) is typed fault = fault
accepted_fault text p (NotYet file) is typed fault = fault
accepted_fault text p (Plan error) is typed fault = fault
accepted_fault text p (Image error) is typed fault = fault
accepted_fault text p (NoFile file) is typed fault = fault
accepted_fault text p ReadFault is typed fault = fault
accepted_fault text p WriteFault is typed fault = fault
accepted_fault text p OutOfMemory is typed fault = fault

-- two faults of the tokens of one text are one
two_refusals : (text : List ℕ) (a b : SyntaxError) → a ≢ syntax.OutOfMemory → b ≢ syntax.OutOfMemory → HasSyntaxFault text a → HasSyntaxFault text b → a ≡ b
two_refusals text a b p q first second =
    let P : List Token → Type 0 = λ tokens. IsRefusedAs (kinds_of tokens) a in
    one_refusal (kinds_of second.tokens) a b p q (subst P (one_tokens text first.tokens second.tokens first.lexed second.lexed) first.refused) second.refused

-- a text that is a program has no fault of tokens, and no program stops in it
text_lexed : (text : List ℕ) (p : Program) (error : TokenError) → HasProgram text p → SourceFault text (TokenEnd error) → ⊥
text_lexed text p error is fault = lexed_faulty text is.tokens error is.lexed (token_fault text error fault)

text_read : (text : List ℕ) (p : Program) (error : SyntaxError) → HasProgram text p → SourceFault text (Syntax error) → ⊥
text_read text p error is fault = text_refused text p error (other_fault text error fault) is (syntax_fault text error fault)

-- a text has one fault
pub one_fault : (text : List ℕ) (a b : TopEnd) → SourceFault text a → SourceFault text b → a ≡ b
one_fault text (TokenEnd a) (TokenEnd b) first second =
    let both : Err a ≡ Err b = sym (token_fault text a first) ∙ token_fault text b second in cc
one_fault text (TokenEnd a) (Syntax b) first second =
    let fault = syntax_fault text b second in absurd (lexed_faulty text fault.tokens a fault.lexed (token_fault text a first))
one_fault text (TokenEnd a) (Typing b) first second = let ill = type_fault text b second in absurd (text_lexed text ill.program a ill.is_text first)
one_fault text (Syntax a) (TokenEnd b) first second =
    let fault = syntax_fault text a first in absurd (lexed_faulty text fault.tokens b fault.lexed (token_fault text b second))
one_fault text (Syntax a) (Syntax b) first second =
    ap Syntax (two_refusals text a b (other_fault text a first) (other_fault text b second) (syntax_fault text a first) (syntax_fault text b second))
one_fault text (Syntax a) (Typing b) first second = let ill = type_fault text b second in absurd (text_read text ill.program a ill.is_text first)
one_fault text (Typing a) (TokenEnd b) first second = let ill = type_fault text a first in absurd (text_lexed text ill.program b ill.is_text second)
one_fault text (Typing a) (Syntax b) first second = let ill = type_fault text a first in absurd (text_read text ill.program b ill.is_text second)
one_fault text (Typing a) (Typing b) first second =
    let ill = type_fault text a first in
    let other = type_fault text b second in
    ap Typing (one_type_error other.program a b (other_type text a first) (other_type text b second)
    (carried_type text ill.program other.program a ill.is_text other.is_text ill.refused) other.refused)
one_fault text (Run end) b first second = absurd first
one_fault text (Mean end) b first second = absurd first
one_fault text Usage b first second = absurd first
one_fault text Done b first second = absurd first
one_fault text (TooLong file) b first second = absurd first
one_fault text (NotYet file) b first second = absurd first
one_fault text (Plan error) b first second = absurd first
one_fault text (Image error) b first second = absurd first
one_fault text (NoFile file) b first second = absurd first
one_fault text ReadFault b first second = absurd first
one_fault text WriteFault b first second = absurd first
one_fault text OutOfMemory b first second = absurd first
one_fault text a (Run end) first second = absurd second
one_fault text a (Mean end) first second = absurd second
one_fault text a Usage first second = absurd second
one_fault text a Done first second = absurd second
one_fault text a (TooLong file) first second = absurd second
one_fault text a (NotYet file) first second = absurd second
one_fault text a (Plan error) first second = absurd second
one_fault text a (Image error) first second = absurd second
one_fault text a (NoFile file) first second = absurd second
one_fault text a ReadFault first second = absurd second
one_fault text a WriteFault first second = absurd second
one_fault text a OutOfMemory first second = absurd second
