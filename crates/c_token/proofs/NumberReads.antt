-- What the code reads of a number.
use Rattle.std.proofs.Common.{◌≡◌, ℕ, suc, ◌+◌, ◌-◌, ◌^◌, ◌<◌, ◌≤◌, Bool, true, false, ◌||◌, List, [], ◌∷◌, length, take, drop, eqb, ltb, Ok, Err, IsUtf8, refl, ap, ◌∙◌, ⊎_elim, arith}
use Rattle.std.specs.Prelude.{IsAscii}
use Rattle.std.specs.List.{prefix_len}
use Rattle.std.specs.Char.{is_ascii_digit, is_ascii_hexdigit, digit_value}
use Rattle.std.specs.Str.Parse.{AllDigits, IsNumeral, digits_value, without_leading_plus}
use Rattle.std.proofs.lemmas.Bool.{cases_Bool, cases_lt, cond-true, cond-false, false≢true, lt-ltb, le-ltb}
use Rattle.std.proofs.lemmas.Bool.Decides.{nat_tests}
use Rattle.std.proofs.lemmas.List.{length-take-le}
use Rattle.std.proofs.lemmas.List.Sums.{prefix_len-le-length}
use Rattle.std.proofs.lemmas.Str.{IsUtf8-from_ascii}
use Rattle.std.proofs.lemmas.Str.Ascii.{IsAscii-nil, IsAscii-cons}
use Rattle.c_token.specs.declared.kinds.TokenError.TheVariants.{BadNumber, BigNumber}
use Rattle.c_token.specs.declared.kinds.Kind.TheVariants as kinds
use Rattle.c_token.specs.TokenSpelling.{is_name_byte}
use Rattle.c_token.specs.TextTokens.{begins_with, has_leading_zero, judged, token}
use Rattle.c_token.specs.Fronts.{number_end, number_at}

-- digits are a text
digit_ascii : (base c : ℕ) → base ≤ 36 → digit_value c < base → c < 128
digit_ascii base c le below = grind (arith, nat_tests)

digits_ascii : (base : ℕ) (ds : List ℕ) → base ≤ 36 → AllDigits base ds → IsAscii ds
digits_ascii base [] le all = IsAscii-nil
digits_ascii base (c ∷ cs) le all = IsAscii-cons c cs (digit_ascii base c le all.0) (digits_ascii base cs le all.1)

pub digits_are_text : (base : ℕ) (ds : List ℕ) → base ≤ 36 → AllDigits base ds → IsUtf8 ds
digits_are_text base ds le all = IsUtf8-from_ascii ds (digits_ascii base ds le all)

-- and begin with no plus
no_plus : (base c : ℕ) → base ≤ 36 → digit_value c < base → eqb c 43 ≡ false
no_plus base c le below = grind (arith, nat_tests)

pub without_leading_plus-digits : (base : ℕ) (ds : List ℕ) → base ≤ 36 → AllDigits base ds → without_leading_plus ds ≡ ds
without_leading_plus-digits base [] le all = refl
without_leading_plus-digits base (c ∷ cs) le all = rw (no_plus base c le all.0) refl

-- a run of digits is a numeral
run_of_digits : (base : ℕ) (p : ℕ → Bool) → ((c : ℕ) → p c ≡ true → digit_value c < base) → (xs : List ℕ) → AllDigits base (take (prefix_len p xs) xs)
run_of_digits base p each [] = tt
run_of_digits base p each (x ∷ xs) =
    ⊎_elim
    (λ (yes : p x ≡ true). let more : 1 + prefix_len p xs ≡ suc (prefix_len p xs) = omega arith in rw (yes, more) (each x yes, run_of_digits base p each xs))
    (λ (no : p x ≡ false). rw no tt)
    (cases_Bool (p x))

decimal_value : (c : ℕ) → is_ascii_digit c ≡ true → digit_value c < 10
decimal_value c h = grind (arith, nat_tests)

hexadecimal_value : (c : ℕ) → is_ascii_hexdigit c ≡ true → digit_value c < 16
hexadecimal_value c h = grind (arith, nat_tests)

positive_run : (p : ℕ → Bool) (xs : List ℕ) → begins_with p xs ≡ true → 0 < prefix_len p xs
positive_run p [] begins = absurd (false≢true begins)
positive_run p (x ∷ xs) begins = rw (cond-true (p x) (1 + prefix_len p xs) 0 begins) (omega arith)

is_numeral : (base : ℕ) (p : ℕ → Bool) → ((c : ℕ) → p c ≡ true → digit_value c < base) → (xs : List ℕ) → begins_with p xs ≡ true → IsNumeral base (take (prefix_len p xs) xs)
is_numeral base p each xs begins =
    (omega (arith, length-take-le (prefix_len p xs) xs (prefix_len-le-length p xs), positive_run p xs begins), run_of_digits base p each xs)

pub decimal_is_numeral : (xs : List ℕ) → begins_with is_ascii_digit xs ≡ true → IsNumeral 10 (take (prefix_len is_ascii_digit xs) xs)
decimal_is_numeral xs begins = is_numeral 10 is_ascii_digit decimal_value xs begins

pub hexadecimal_is_numeral : (xs : List ℕ) → begins_with is_ascii_hexdigit xs ≡ true → IsNumeral 16 (take (prefix_len is_ascii_hexdigit xs) xs)
hexadecimal_is_numeral xs begins = is_numeral 16 is_ascii_hexdigit hexadecimal_value xs begins

-- the three outcomes
module _ (at : ℕ) (text : List ℕ) (base start end : ℕ) where
  abbrev len : ℕ
  len = number_end text end

  abbrev value : ℕ
  value = digits_value base (take (end - start) (drop start text))

  abbrev is_bad : Bool
  is_bad = has_leading_zero (take len text) || begins_with is_name_byte (drop len text)

  pub number_is_bad : is_bad ≡ true → number_at at text base start end ≡ Err (BadNumber at)
  unfolding number_at judged
  number_is_bad bad = cond-true is_bad _ _ bad

  pub number_is_big : is_bad ≡ false → 4294967295 < value → number_at at text base start end ≡ Err (BigNumber at)
  unfolding number_at judged
  number_is_big fine big = cond-false is_bad _ _ fine ∙ cond-true (ltb 4294967295 value) _ _ (lt-ltb _ _ big)

  pub number_is_fine : is_bad ≡ false → value ≤ 4294967295 → len ≤ length text
      → number_at at text base start end ≡ Ok (token (kinds.Number value (ltb end len || ltb 2147483647 value)) len)
  unfolding number_at judged
  number_is_fine fine small le =
      cond-false is_bad _ _ fine
      ∙ cond-false (ltb 4294967295 value) _ _ (le-ltb _ _ small)
      ∙ ap (λ n. Ok (token (kinds.Number value (ltb end len || ltb 2147483647 value)) n)) (length-take-le len text le)

-- what parsing the digits says
pub parsed_fits : (base : ℕ) (ds text : List ℕ) (value : ℕ) → base ≤ 36 → AllDigits base ds → text ≡ ds
    → (IsNumeral base (without_leading_plus text) × (digits_value base (without_leading_plus text) < 2 ^ 32)) × (value ≡ digits_value base (without_leading_plus text))
    → (digits_value base ds ≤ 4294967295) × (value ≡ digits_value base ds)
parsed_fits base ds text value le all same parsed =
    let bare : without_leading_plus text ≡ ds = ap without_leading_plus same ∙ without_leading_plus-digits base ds le all in
    let e : digits_value base (without_leading_plus text) ≡ digits_value base ds = ap (digits_value base) bare in
    (omega (arith, parsed.0.1), parsed.1 ∙ e)

pub unparsed_is_big : (base : ℕ) (ds text : List ℕ) → base ≤ 36 → IsNumeral base ds → text ≡ ds
    → (IsNumeral base (without_leading_plus text) × (digits_value base (without_leading_plus text) < 2 ^ 32) → ⊥)
    → 4294967295 < digits_value base ds
unparsed_is_big base ds text le numeral same unparsed =
    let bare : without_leading_plus text ≡ ds = ap without_leading_plus same ∙ without_leading_plus-digits base ds le numeral.1 in
    ⊎_elim
    (λ (above : 4294967295 < digits_value base ds). above)
    (λ (below : digits_value base ds ≤ 4294967295). absurd (unparsed (rw bare (numeral, omega arith))))
    (cases_lt 4294967295 (digits_value base ds))
