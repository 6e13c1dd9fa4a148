-- When the words of a command pass their tests.
use Rattle.std.proofs.Common.{◌≡◌, ℕ, ◌<◌, ◌≤◌, ◌&&◌, Bool, true, false, List, length, refl, arith, rules, ◌^◌}
use Rattle.std.specs.Prelude.{nat_le, Result, Ok}
use Rattle.std.specs.Char.{is_ascii_digit}
use Rattle.std.specs.Str.Parse.{digits_value, ParsesUnsigned}
use Rattle.std.specs.List.{list_all}
use Rattle.std.proofs.lemmas.Bool.Decides.{nat_tests}
use Rattle.std.proofs.lemmas.Str.Parse.{IsNumeralModel, numerals_by_value, parse_gives, digits_value_short}
use Rattle.aegis_words.specs.NumberWords.{is_number}

-- both parts of a test that passes
pub both : (a b : Bool) → (a && b) ≡ true → (a ≡ true) × (b ≡ true)
both true b h = (refl, h)
both false b h = cc

-- decimal digits and their number are those that `parse` reads
decimal_digits : IsNumeralModel (λ word. list_all is_ascii_digit word ≡ true) (digits_value 10)
decimal_digits = numerals_by_value _ (search rules)

-- the digits of a word of at most ten are parsed
pub number_parses : {E : Type 0} (word : List ℕ) (parsed : Result ℕ E) → ParsesUnsigned 64 10 word parsed → is_number word ≡ true → parsed ≡ Ok (digits_value 10 word)
number_parses word parsed h number =
    let outer = both (nat_le 1 (length word) && nat_le (length word) 10) _ number in
    let inner = both (nat_le 1 (length word)) _ outer.0 in
    let some : 0 < length word = grind (arith, nat_tests, inner.0) in
    let short : length word ≤ 10 = grind (arith, nat_tests, inner.1) in
    let small : digits_value 10 word < 10 ^ 10 = digits_value_short decimal_digits word 10 outer.1 short in
    parse_gives decimal_digits 64 word parsed h outer.1 some (omega arith)
