-- Promise: which place of a text is asked for by the number of a byte or of a token, and the lines that answer.
use Rattle.std.specs.Prelude.{ℕ, ◌==◌, nat_le, if◌then◌else◌, List, ◌++◌, length, slice_get, Option, None, Some, Result, Ok, Err, codes, decimal}
use Rattle.std.specs.Str.{bytes_eq}
use Rattle.c_token.specs.declared.kinds.Token.{Token}
use Rattle.c_token.specs.declared.kinds.TokenError.{TokenError}
use Rattle.c_token.specs.declared.kinds.TokenError.TheVariants as fault
use Rattle.c_token.specs.TextTokens.{tokens_of}
use Rattle.source_place.specs.declared.place.Question.{Question}
use Rattle.source_place.specs.declared.place.Question.TheVariants as question
use Rattle.source_place.specs.declared.place.Refusal.{Refusal}
use Rattle.source_place.specs.declared.place.Refusal.TheVariants.{Past, NoTokens, OutOfMemory}
use Rattle.source_place.specs.Places.{shown}

-- what a word and a number ask for
abbrev pub question_of : List ℕ → ℕ → Option Question
question_of word number =
    if bytes_eq word (codes "byte") then Some (question.Byte number)
    else (if bytes_eq word (codes "token") then Some (question.Token number) else None)

-- the first place of a token, where there is one, and else another answer
abbrev pub start_or : Option Token → Result ℕ Refusal → Result ℕ Refusal
start_or (Some token) other = Ok token.at
start_or None other = other

-- a text without tokens: where its first fault is
abbrev pub fault_of : TokenError → Refusal
fault_of (fault.BadByte at) = NoTokens at
fault_of (fault.OpenComment at) = NoTokens at
fault_of (fault.LongName at) = NoTokens at
fault_of (fault.BadNumber at) = NoTokens at
fault_of (fault.BigNumber at) = NoTokens at
fault_of fault.OutOfMemory = OutOfMemory

-- the place of the token of this number; the number after all tokens is that of the end of the text
abbrev pub token_place : Result (List Token) TokenError → List ℕ → ℕ → Result ℕ Refusal
token_place (Ok tokens) text number =
    start_or (slice_get tokens number) (if number == length tokens then Ok (length text) else Err (Past (length tokens)))
token_place (Err error) text number = Err (fault_of error)

-- the place that is asked for
abbrev pub place_of : Question → List ℕ → Result ℕ Refusal
place_of (question.Byte place) text = if nat_le place (length text) then Ok place else Err (Past (length text))
place_of (question.Token number) text = token_place (tokens_of text) text number

-- the line of a question that names no place
abbrev pub refusal_line : Refusal → List ℕ
refusal_line (Past last) = codes "there is no such place: the last one is " ++ decimal last ++ codes "\n"
refusal_line (NoTokens at) = codes "the source has no tokens: its first fault is at byte " ++ decimal at ++ codes "\n"
refusal_line OutOfMemory = codes "out of memory\n"

-- the lines that answer a question
abbrev pub told_by : List ℕ → Result ℕ Refusal → List ℕ
told_by text (Ok place) = shown text place
told_by text (Err refusal) = refusal_line refusal

abbrev pub told : Question → List ℕ → List ℕ
told asked text = told_by text (place_of asked text)
