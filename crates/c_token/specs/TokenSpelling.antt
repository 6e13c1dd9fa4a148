-- Promise: what spells a token, byte by byte (ISO/IEC 9899, section 6.4).
use Rattle.std.specs.Prelude.{ℕ, Bool, true, false, ◌&&◌, ◌||◌, List, [], ◌∷◌, length, drop, Option, Some, None, option_map, is_some, nat_eq, nat_lt, ◌==◌, if◌then◌else◌, codes, take_while}
use Rattle.std.specs.List.{list_all, prefix_len, starts_with}
use Rattle.std.specs.Char.{is_ascii_alphabetic, is_ascii_alphanumeric, is_ascii_digit, is_ascii_hexdigit}
use Rattle.std.specs.Str.Parse.{digits_value}
use Rattle.c_token.specs.declared.words.Word.{Word}
use Rattle.c_token.specs.declared.kinds.Kind.{Kind}
use Rattle.c_token.specs.declared.kinds.Kind.TheVariants as kinds
use Rattle.c_token.specs.WordSpelling.{word_spelled}
use Rattle.c_token.specs.SignSpelling.{sign_spelled}

-- `_`
abbrev pub underscore : ℕ
underscore = 95

-- a letter or `_`
abbrev pub is_name_start : ℕ → Bool
is_name_start b = is_ascii_alphabetic b || (b == underscore)

-- a letter, a digit or `_`
abbrev pub is_name_byte : ℕ → Bool
is_name_byte b = is_ascii_alphanumeric b || (b == underscore)

-- A name is a letter or `_`, then letters, digits and `_` (6.4.2.1).
abbrev pub is_name : List ℕ → Bool
is_name [] = false
is_name (b ∷ bs) = is_name_start b && list_all is_name_byte bs

-- `u` or `U`, which are 117 and 85
abbrev pub is_suffix_byte : ℕ → Bool
is_suffix_byte b = (b == 117) || (b == 85)

-- nothing, or one such byte
abbrev pub is_suffix : List ℕ → Bool
is_suffix [] = true
is_suffix (b ∷ []) = is_suffix_byte b
is_suffix (b ∷ c ∷ bs) = false

-- at least one digit, then an optional suffix (6.4.4.1)
abbrev pub has_digits : (ℕ → Bool) → List ℕ → Bool
has_digits is_digit bytes = let count = prefix_len is_digit bytes in nat_lt 0 count && is_suffix (drop count bytes)

-- a decimal number
abbrev pub is_decimal : List ℕ → Bool
is_decimal bytes = has_digits is_ascii_digit bytes

-- `0x` or `0X`
abbrev pub has_hexadecimal_prefix : List ℕ → Bool
has_hexadecimal_prefix bytes = starts_with nat_eq bytes (codes "0x") || starts_with nat_eq bytes (codes "0X")

-- A hexadecimal number has this prefix, and then such digits.
abbrev pub is_hexadecimal : List ℕ → Bool
is_hexadecimal bytes = has_hexadecimal_prefix bytes && has_digits is_ascii_hexdigit (drop 2 bytes)

-- A number is unsigned where it has a suffix or is above 2147483647, and else an int.
abbrev pub number_with : ℕ → Bool → Kind
number_with value suffixed = kinds.Number value (suffixed || nat_lt 2147483647 value)

-- the number that these digits and an optional suffix spell
abbrev pub number_spelled : ℕ → (ℕ → Bool) → List ℕ → Kind
number_spelled base is_digit bytes =
    number_with (digits_value base (take_while is_digit bytes)) (nat_lt (prefix_len is_digit bytes) (length bytes))

-- a word where the bytes spell one (6.4.1), and else a name
abbrev pub word_or_name : Option Word → List ℕ → Kind
word_or_name (Some w) bytes = kinds.Word w
word_or_name None bytes = kinds.Name bytes

-- the token that these bytes spell, all of them, if they spell one: a word or a name, a number, or a sign (6.4.6)
abbrev pub spelled : List ℕ → Option Kind
spelled bytes =
    if is_name bytes then Some (word_or_name (word_spelled bytes) bytes)
    else (if is_decimal bytes then Some (number_spelled 10 is_ascii_digit bytes)
    else (if is_hexadecimal bytes then Some (number_spelled 16 is_ascii_hexdigit (drop 2 bytes))
    else option_map (λ s. kinds.Sign s) (sign_spelled bytes)))

-- whether they do
abbrev pub is_token : List ℕ → Bool
is_token bytes = is_some (spelled bytes)
