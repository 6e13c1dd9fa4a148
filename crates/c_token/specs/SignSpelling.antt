-- Promise: the signs of the source language (ISO/IEC 9899, section 6.4.6).
use Rattle.std.specs.Prelude.{ℕ, List, [], ◌∷◌, Option, codes, find}
use Rattle.std.specs.Str.{bytes_eq}
use Rattle.c_token.specs.declared.signs.Sign.{Sign}
use Rattle.c_token.specs.declared.signs.Sign.TheVariants.{LeftParenthesis, RightParenthesis, LeftBrace, RightBrace, LeftBracket, RightBracket, Semicolon, Comma, Assign, Plus, Minus, Star, Slash, Percent, Ampersand, VerticalBar, Caret, Tilde, Exclamation, LessThan, GreaterThan, LessOrEqual, GreaterOrEqual, EqualTo, NotEqualTo, ShiftLeft, ShiftRight, LogicalAnd, LogicalOr}

-- the bytes that spell a sign
abbrev pub sign_spelling : Sign → List ℕ
sign_spelling LeftParenthesis = codes "("
sign_spelling RightParenthesis = codes ")"
sign_spelling LeftBrace = codes "{"
sign_spelling RightBrace = codes "}"
sign_spelling LeftBracket = codes "["
sign_spelling RightBracket = codes "]"
sign_spelling Semicolon = codes ";"
sign_spelling Comma = codes ","
sign_spelling Assign = codes "="
sign_spelling Plus = codes "+"
sign_spelling Minus = codes "-"
sign_spelling Star = codes "*"
sign_spelling Slash = codes "/"
sign_spelling Percent = codes "%"
sign_spelling Ampersand = codes "&"
sign_spelling VerticalBar = codes "|"
sign_spelling Caret = codes "^"
sign_spelling Tilde = codes "~"
sign_spelling Exclamation = codes "!"
sign_spelling LessThan = codes "<"
sign_spelling GreaterThan = codes ">"
sign_spelling LessOrEqual = codes "<="
sign_spelling GreaterOrEqual = codes ">="
sign_spelling EqualTo = codes "=="
sign_spelling NotEqualTo = codes "!="
sign_spelling ShiftLeft = codes "<<"
sign_spelling ShiftRight = codes ">>"
sign_spelling LogicalAnd = codes "&&"
sign_spelling LogicalOr = codes "||"

-- every sign
abbrev pub signs : List Sign
signs = LeftParenthesis ∷ RightParenthesis ∷ LeftBrace ∷ RightBrace ∷ LeftBracket ∷ RightBracket ∷ Semicolon ∷ Comma
    ∷ Assign ∷ Plus ∷ Minus ∷ Star ∷ Slash ∷ Percent ∷ Ampersand ∷ VerticalBar
    ∷ Caret ∷ Tilde ∷ Exclamation ∷ LessThan ∷ GreaterThan ∷ LessOrEqual ∷ GreaterOrEqual ∷ EqualTo
    ∷ NotEqualTo ∷ ShiftLeft ∷ ShiftRight ∷ LogicalAnd ∷ LogicalOr ∷ []

-- the sign that these bytes spell, if they spell one
abbrev pub sign_spelled : List ℕ → Option Sign
sign_spelled bytes = find (λ sign. bytes_eq (sign_spelling sign) bytes) signs
