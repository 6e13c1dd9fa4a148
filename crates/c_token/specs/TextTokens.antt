-- Promise: the tokens of a text, blanks and comments aside, the longest token each time (ISO/IEC 9899, section 6.4, paragraph 4).
-- A text is its bytes, and places are counted from 0. A front is what a text begins with: its token, if it is one, and its bytes.
use Rattle.std.specs.Prelude.{ℕ, zero, suc, ◌+◌, ◌-◌, Bool, false, ◌||◌, ◌&&◌, List, [], ◌∷◌, length, take, drop, Option, Some, None, option_map, Result, Ok, Err, nat_eq, nat_lt, ◌==◌, if◌then◌else◌, codes}
use Rattle.std.specs.List.{starts_with, position_or_len}
use Rattle.std.specs.Char.{is_ascii_digit}
use Rattle.c_token.specs.declared.kinds.TokenError.{TokenError}
use Rattle.c_token.specs.declared.kinds.TokenError.TheVariants.{BadByte, OpenComment, LongName, BadNumber, BigNumber}
use Rattle.c_token.specs.declared.kinds.Kind.{Kind}
use Rattle.c_token.specs.declared.kinds.Kind.TheVariants as kinds
use Rattle.c_token.specs.declared.kinds.Token.{Token}
use Rattle.c_token.specs.declared.front.Front.{Front}
use Rattle.aegis_num.specs.declared.limits.TheConstants.{MAX_NAME_BYTES}
use Rattle.c_token.specs.TokenSpelling.{is_name_byte, spelled, is_token}

-- space, tab, carriage return and line feed
abbrev pub is_blank : ℕ → Bool
is_blank b = (b == 32) || ((b == 9) || ((b == 13) || (b == 10)))

-- the first byte passes
abbrev pub begins_with : (ℕ → Bool) → List ℕ → Bool
begins_with passes [] = false
begins_with passes (b ∷ bs) = passes b

-- the greatest n, up to this one, where the first n bytes pass; 0 where none do
abbrev pub longest_upto : (List ℕ → Bool) → List ℕ → ℕ → ℕ
longest_upto passes text zero = 0
longest_upto passes text (suc n) = if passes (take (suc n) text) then suc n else longest_upto passes text n

-- the greatest up to the whole text
abbrev pub longest : (List ℕ → Bool) → List ℕ → ℕ
longest passes text = longest_upto passes text (length text)

-- how many bytes up to the end of the first `*/`, where there is one
abbrev pub close_of : List ℕ → Option ℕ
close_of [] = None
close_of (b ∷ bs) = if starts_with nat_eq (b ∷ bs) (codes "*/") then Some 2 else option_map (λ n. n + 1) (close_of bs)

-- 0 and a decimal digit
abbrev pub has_leading_zero : List ℕ → Bool
has_leading_zero [] = false
has_leading_zero (b ∷ bs) = (b == 48) && begins_with is_ascii_digit bs

-- a blank or a comment
abbrev pub gap : ℕ → Front
gap n = record { kind = None; len = n }

-- a token
abbrev pub token : Kind → ℕ → Front
token kind n = record { kind = Some kind; len = n }

-- A comment from `/*` on ends at the first `*/` after these two bytes (6.4.9).
unfoldable pub block_comment : ℕ → Option ℕ → Result Front TokenError
block_comment at None = Err (OpenComment at)
block_comment at (Some n) = Ok (gap (2 + n))

-- A token at this place, spelled by these bytes, with the rest of the text after it, or its fault.
unfoldable pub judged : ℕ → List ℕ → List ℕ → Option Kind → Result Front TokenError
judged at bytes rest None = Err (BadByte at)
judged at bytes rest (Some (kinds.Name text)) =
    if nat_lt MAX_NAME_BYTES (length text) then Err (LongName at) else Ok (token (kinds.Name text) (length bytes))
judged at bytes rest (Some (kinds.Number value unsigned)) =
    if has_leading_zero bytes || begins_with is_name_byte rest then Err (BadNumber at)
    else (if nat_lt 4294967295 value then Err (BigNumber at) else Ok (token (kinds.Number value unsigned) (length bytes)))
judged at bytes rest (Some (kinds.Word w)) = Ok (token (kinds.Word w) (length bytes))
judged at bytes rest (Some (kinds.Sign s)) = Ok (token (kinds.Sign s) (length bytes))

-- the token that this many first bytes spell
unfoldable pub token_of_len : ℕ → List ℕ → ℕ → Result Front TokenError
token_of_len at text n = judged at (take n text) (drop n text) (spelled (take n text))

-- what the text from this place on begins with: a blank, a comment, or the longest token; or its fault
unfoldable pub front_at : ℕ → List ℕ → Result Front TokenError
front_at at text =
    if begins_with is_blank text then Ok (gap 1)
    else (if starts_with nat_eq text (codes "/*") then block_comment at (close_of (drop 2 text))
    else (if starts_with nat_eq text (codes "//") then Ok (gap (position_or_len (λ b. b == 10) text))
    else token_of_len at text (longest is_token text)))

-- a token stands before those of the rest, a blank or a comment before none
unfoldable pub put_before : ℕ → Option Kind → Result (List Token) TokenError → Result (List Token) TokenError
put_before at kind (Err error) = Err error
put_before at None (Ok tokens) = Ok tokens
put_before at (Some kind) (Ok tokens) = Ok (record { kind = kind; at = at } ∷ tokens)

-- the front, and after its first byte what the rest gives, of which this many bytes are still the front's
unfoldable pub front_then : ℕ → (ℕ → Result (List Token) TokenError) → Result Front TokenError → Result (List Token) TokenError
front_then at rest (Err error) = Err error
front_then at rest (Ok front) = put_before at front.kind (rest (front.len - 1))

-- The tokens of the text from the place `at` on, of which the first bytes, as many as `left`, belong to what stands before it.
unfoldable pub tokens_from : ℕ → ℕ → List ℕ → Result (List Token) TokenError
tokens_from at left [] = Ok []
tokens_from at (suc left) (b ∷ bs) = tokens_from (at + 1) left bs
tokens_from at zero (b ∷ bs) = front_then at (λ left. tokens_from (at + 1) left bs) (front_at at (b ∷ bs))

-- the tokens of a text, or its first fault
unfoldable pub tokens_of : List ℕ → Result (List Token) TokenError
tokens_of text = tokens_from 0 0 text
