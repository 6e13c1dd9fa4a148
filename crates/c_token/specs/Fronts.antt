-- Device: the parts of a number that the code reads.
use Rattle.std.specs.Prelude.{ℕ, ◌+◌, ◌-◌, Bool, ◌&&◌, List, take, drop, Result, Some, nat_lt, if◌then◌else◌}
use Rattle.std.specs.Char.{is_ascii_hexdigit}
use Rattle.std.specs.Str.Parse.{digits_value}
use Rattle.c_token.specs.declared.front.Front.{Front}
use Rattle.c_token.specs.declared.kinds.TokenError.{TokenError}
use Rattle.c_token.specs.TokenSpelling.{is_suffix_byte, has_hexadecimal_prefix, number_with}
use Rattle.c_token.specs.TextTokens.{begins_with, judged}

-- `0x` or `0X` and a hexadecimal digit
abbrev pub begins_hexadecimal : List ℕ → Bool
begins_hexadecimal text = has_hexadecimal_prefix text && begins_with is_ascii_hexdigit (drop 2 text)

-- how many bytes the suffix takes that a text begins with, if any
abbrev pub suffix_len : List ℕ → ℕ
suffix_len text = if begins_with is_suffix_byte text then 1 else 0

-- where the number ends whose digits end here
abbrev pub number_end : List ℕ → ℕ → ℕ
number_end text end = end + suffix_len (drop end text)

-- the number whose digits in a base are the bytes from `start` up to `end`
unfoldable pub number_at : ℕ → List ℕ → ℕ → ℕ → ℕ → Result Front TokenError
number_at at text base start end =
    let len = number_end text end in
    let value = digits_value base (take (end - start) (drop start text)) in
    judged at (take len text) (drop len text) (Some (number_with value (nat_lt end len)))
