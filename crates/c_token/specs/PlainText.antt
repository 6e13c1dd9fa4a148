-- Promise: the plain spelling of tokens: each is spelled in one way, and one space stands between two.
use Rattle.std.specs.Prelude.{◌≡◌, ℕ, ◌+◌, Bool, true, ◌&&◌, ◌||◌, not, List, [], ◌∷◌, ◌++◌, length, map, is_some, nat_le, if◌then◌else◌, codes, Ok}
use Rattle.std.specs.List.{list_all}
use Rattle.std.specs.Fmt.{decimal}
use Rattle.c_token.specs.declared.kinds.Kind.{Kind}
use Rattle.c_token.specs.declared.kinds.Kind.TheVariants as kinds
use Rattle.c_token.specs.declared.kinds.Token.{Token}
use Rattle.aegis_num.specs.declared.limits.TheConstants.{MAX_NAME_BYTES}
use Rattle.c_token.specs.WordSpelling.{word_spelling, word_spelled}
use Rattle.c_token.specs.SignSpelling.{sign_spelling}
use Rattle.c_token.specs.TokenSpelling.{is_name}
use Rattle.c_token.specs.TextTokens.{tokens_of}

-- A number is decimal, with `u` next to it where it is unsigned.
abbrev pub number_spelling : ℕ → Bool → List ℕ
number_spelling value unsigned = decimal value ++ (if unsigned then codes "u" else [])

-- the bytes that spell a token plainly
abbrev pub plain_spelling : Kind → List ℕ
plain_spelling (kinds.Name bytes) = bytes
plain_spelling (kinds.Number value unsigned) = number_spelling value unsigned
plain_spelling (kinds.Word w) = word_spelling w
plain_spelling (kinds.Sign s) = sign_spelling s

-- tokens with a space, which is 32, before each
abbrev pub spaced_text : List Kind → List ℕ
spaced_text [] = []
spaced_text (kind ∷ more) = 32 ∷ (plain_spelling kind ++ spaced_text more)

-- tokens with one space between two
abbrev pub plain_text : List Kind → List ℕ
plain_text [] = []
plain_text (kind ∷ more) = plain_spelling kind ++ spaced_text more

-- What a token can be: a name is a name and no word, and fits; a number is at most 4294967295, and unsigned above 2147483647.
abbrev pub is_in_form : Kind → Bool
is_in_form (kinds.Name bytes) = is_name bytes && (not (is_some (word_spelled bytes)) && nat_le (length bytes) MAX_NAME_BYTES)
is_in_form (kinds.Number value unsigned) = nat_le value 4294967295 && (unsigned || nat_le value 2147483647)
is_in_form (kinds.Word w) = true
is_in_form (kinds.Sign s) = true

-- these tokens at their places in the plain text that begins at this place
abbrev pub plain_tokens : ℕ → List Kind → List Token
plain_tokens at [] = []
plain_tokens at (kind ∷ more) = record { kind = kind; at = at } ∷ plain_tokens (at + length (plain_spelling kind) + 1) more

-- tokens without their places
abbrev pub kinds_of : List Token → List Kind
kinds_of tokens = map (λ token. token.kind) tokens

-- Tokens in form are the tokens of their plain text, in order and each at its place.
abbrev pub PlainTextReadsBack : Type 0
PlainTextReadsBack = (kinds : List Kind) → list_all is_in_form kinds ≡ true
    → (tokens_of (plain_text kinds) ≡ Ok (plain_tokens 0 kinds)) × (kinds_of (plain_tokens 0 kinds) ≡ kinds)

-- The tokens of a text are in form.
abbrev pub TokensAreInForm : Type 0
TokensAreInForm = (text : List ℕ) (tokens : List Token) → tokens_of text ≡ Ok tokens → list_all is_in_form (kinds_of tokens) ≡ true
