-- Promise: the fields of a line, and what a number and bytes in hexadecimal are.
use Rattle.std.specs.Prelude.{ℕ, ◌==◌, nat_eq, nat_le, nat_lt, Bool, ◌&&◌, ◌||◌, List, length, drop, filter, codes, Option, Some, None, if◌then◌else◌}
use Rattle.std.specs.List.{list_all, slice_split, starts_with}
use Rattle.std.specs.Result.{result_ok}
use Rattle.std.specs.Char.{is_ascii_digit, is_ascii_hexdigit}
use Rattle.std.specs.Str.Parse.{digits_value}
use Rattle.hex.specs.Hex.{decode_of}

-- printable ASCII, with the space, or a tab
abbrev pub is_line_byte : ℕ → Bool
is_line_byte b = (nat_le 32 b && nat_le b 126) || (b == 9)

-- a space or a tab
abbrev pub is_separator : ℕ → Bool
is_separator b = (b == 32) || (b == 9)

-- what stands between separators, but for empty pieces
abbrev pub fields_of : List ℕ → List (List ℕ)
fields_of line = filter (λ field. nat_lt 0 (length field)) (slice_split is_separator line)

-- one or more digits, and nothing else
abbrev pub is_numeral : (ℕ → Bool) → List ℕ → Bool
is_numeral is_digit digits = nat_lt 0 (length digits) && list_all is_digit digits

-- a number that is at most 4294967295
abbrev pub below_limit : ℕ → Option ℕ
below_limit n = if nat_le n 4294967295 then Some n else None

-- the number that digits of a base write, leading zeros among them
abbrev pub number_in_base : ℕ → (ℕ → Bool) → List ℕ → Option ℕ
number_in_base base is_digit digits = if is_numeral is_digit digits then below_limit (digits_value base digits) else None

-- the number that a field writes: decimal digits, or `0x` and hexadecimal ones
unfoldable pub numeral_value : List ℕ → Option ℕ
numeral_value field =
    if starts_with nat_eq field (codes "0x") then number_in_base 16 is_ascii_hexdigit (drop 2 field) else number_in_base 10 is_ascii_digit field

-- the bytes that a field writes as pairs of hexadecimal digits: no field is empty, so there are one or more
abbrev pub decoded_bytes : List ℕ → Option (List ℕ)
decoded_bytes field = result_ok (decode_of field)
