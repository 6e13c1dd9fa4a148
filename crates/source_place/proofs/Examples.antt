-- Worked places of texts. The lines, columns and places were counted by hand.
use Rattle.std.proofs.Common.{◌≡◌, ℕ, List, [], ◌∷◌, false, Some, None, Ok, Err, refl}
use Rattle.std.specs.Prelude.{codes, map}
use Rattle.std.specs.Fmt.{digits}
use Rattle.c_token.specs.declared.kinds.Token.{Token}
use Rattle.c_token.specs.declared.kinds.Kind.TheVariants as kinds
use Rattle.c_token.specs.declared.kinds.TokenError.TheVariants as fault
use Rattle.source_place.specs.declared.place.Question.TheVariants.{Byte, Token as NthToken}
use Rattle.source_place.specs.declared.place.Refusal.TheVariants.{Past, NoTokens, OutOfMemory}
use Rattle.source_place.specs.Places.{column_of, line_of, shown}
use Rattle.source_place.specs.Questions.{place_of, question_of, refusal_line, token_place, told}

-- ---- lines and columns: two letters, a tab and two letters, nothing, one letter

abbrev text : List ℕ
text = codes "ab\n\tcd\n\nx"

lines : map (line_of text) (0 ∷ 1 ∷ 2 ∷ 3 ∷ 5 ∷ 6 ∷ 7 ∷ 8 ∷ 9 ∷ []) ≡ 1 ∷ 1 ∷ 1 ∷ 2 ∷ 2 ∷ 2 ∷ 3 ∷ 4 ∷ 4 ∷ []
lines = refl

columns : map (column_of text) (0 ∷ 1 ∷ 2 ∷ 3 ∷ 5 ∷ 6 ∷ 7 ∷ 8 ∷ 9 ∷ []) ≡ 1 ∷ 2 ∷ 3 ∷ 1 ∷ 3 ∷ 4 ∷ 1 ∷ 1 ∷ 2 ∷ []
columns = refl

shown-tab : shown text 5 ≡ codes "line 2, column 3\n\tcd\n\t ^\n"
unfolding digits
shown-tab = refl

shown-first : shown text 0 ≡ codes "line 1, column 1\nab\n^\n"
unfolding digits
shown-first = refl

shown-feed : shown text 2 ≡ codes "line 1, column 3\nab\n  ^\n"
unfolding digits
shown-feed = refl

shown-empty_line : shown text 7 ≡ codes "line 3, column 1\n\n^\n"
unfolding digits
shown-empty_line = refl

shown-end : shown text 9 ≡ codes "line 4, column 2\nx\n ^\n"
unfolding digits
shown-end = refl

shown-empty_text : shown [] 0 ≡ codes "line 1, column 1\n\n^\n"
unfolding digits
shown-empty_text = refl

-- ---- questions

asks-byte : question_of (codes "byte") 7 ≡ Some (Byte 7)
asks-byte = refl

asks-token : question_of (codes "token") 7 ≡ Some (NthToken 7)
asks-token = refl

asks-nothing : question_of (codes "line") 7 ≡ None
asks-nothing = refl

byte-end : place_of (Byte 9) text ≡ Ok 9
byte-end = refl

byte-past : place_of (Byte 10) text ≡ Err (Past 9)
byte-past = refl

-- two numbers, each with a blank after it
abbrev two : List Token
two = record { kind = kinds.Number 1 false; at = 0 } ∷ record { kind = kinds.Number 2 false; at = 2 } ∷ []

token-second : token_place (Ok two) (codes "1 2 ") 1 ≡ Ok 2
token-second = refl

token-end : token_place (Ok two) (codes "1 2 ") 2 ≡ Ok 4
token-end = refl

token-past : token_place (Ok two) (codes "1 2 ") 3 ≡ Err (Past 2)
token-past = refl

token-faults : map (λ error. token_place (Err error) text 0)
    (fault.BadByte 1 ∷ fault.OpenComment 2 ∷ fault.LongName 3 ∷ fault.BadNumber 4 ∷ fault.BigNumber 5 ∷ fault.OutOfMemory ∷ [])
    ≡ Err (NoTokens 1) ∷ Err (NoTokens 2) ∷ Err (NoTokens 3) ∷ Err (NoTokens 4) ∷ Err (NoTokens 5) ∷ Err OutOfMemory ∷ []
token-faults = refl

told-place : told (Byte 2) text ≡ codes "line 1, column 3\nab\n  ^\n"
unfolding digits
told-place = refl

told-past : told (Byte 10) text ≡ codes "there is no such place: the last one is 9\n"
unfolding digits
told-past = refl

told-fault : refusal_line (NoTokens 24) ≡ codes "the source has no tokens: its first fault is at byte 24\n"
unfolding digits
told-fault = refl
