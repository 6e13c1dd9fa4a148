-- Promise: the words that write a number, or bytes in hexadecimal digits.
use Rattle.std.specs.Prelude.{ℕ, ◌&&◌, nat_le, Bool, if◌then◌else◌, List, length, Option, None, Some, Result, Ok, Err}
use Rattle.std.specs.List.{list_all}
use Rattle.std.specs.Char.{is_ascii_digit}
use Rattle.std.specs.Str.Parse.{digits_value}
use Rattle.hex.specs.Hex.{decode_sized}
use Rattle.hex.specs.declared.error.FromHexError.{FromHexError}
use Rattle.aegis_num.specs.declared.limits.TheConstants.{MAX_FUEL}
use Rattle.work_maker.specs.declared.TheConstants.{MOST_FUNCTIONS}

-- one to ten decimal digits
abbrev pub is_number : List ℕ → Bool
is_number word = nat_le 1 (length word) && nat_le (length word) 10 && list_all is_ascii_digit word

-- a number of events or of loop turns that is at most the greatest fuel
abbrev pub is_bound : List ℕ → Bool
is_bound word = is_number word && nat_le (digits_value 10 word) MAX_FUEL

-- the number that a word writes, where it is such a number
abbrev pub bound_in : List ℕ → Option ℕ
bound_in word = if is_bound word then Some (digits_value 10 word) else None

-- how many functions a made source may have, in one or two digits
abbrev pub is_count : List ℕ → Bool
is_count word =
    is_number word && nat_le (length word) 2 && nat_le 1 (digits_value 10 word) && nat_le (digits_value 10 word) MOST_FUNCTIONS

-- the number that a word writes, where it is such a number
abbrev pub count_in : List ℕ → Option ℕ
count_in word = if is_count word then Some (digits_value 10 word) else None

-- the bytes that were decoded, where they were
abbrev pub decoded : Result (List ℕ) FromHexError → Option (List ℕ)
decoded (Ok bytes) = Some bytes
decoded (Err error) = None

-- the bytes that a word writes, two hexadecimal digits in either case for each, where they are so many
abbrev pub hex_bytes : ℕ → List ℕ → Option (List ℕ)
hex_bytes count word = decoded (decode_sized word count)
