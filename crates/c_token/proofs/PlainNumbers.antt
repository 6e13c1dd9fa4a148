-- The plain spelling of a number is the longest token before a space or the end.
use Rattle.std.proofs.Common.{◌≡◌, ℕ, ◌+◌, ◌-◌, ◌<◌, ◌≤◌, ◌^◌, Bool, true, false, cond, ◌||◌, List, [], ◌∷◌, ◌++◌, length, get_or, take, drop, eqb, ltb, leb, Ok, refl, sym, ap, ◌∙◌, ◌⊎◌, inl, inr, ⊎_elim, arith, append_assoc}
use Rattle.std.specs.Prelude.{codes}
use Rattle.std.specs.List.{list_all, prefix_len}
use Rattle.std.specs.Char.{is_ascii_digit}
use Rattle.std.specs.Fmt.{decimal}
use Rattle.std.specs.Str.Parse.{AllDigits, digits_value}
use Rattle.std.proofs.lemmas.Bool.{cases_lt, cond-false, and_parts, and_from, and_left, and_right, false≢true, leb-true, lt-ltb, le-ltb, or_from}
use Rattle.std.proofs.lemmas.Bool.Decides.{nat_tests}
use Rattle.std.proofs.lemmas.List.{take_at, drop_at, length-append}
use Rattle.std.proofs.lemmas.Fmt.{decimal_is_IsNumeral, first_decimal, decimal_digit}
use Rattle.c_token.specs.declared.kinds.Kind.TheVariants as kinds
use Rattle.c_token.specs.TokenSpelling.{is_name_byte, is_suffix_byte}
use Rattle.c_token.specs.TextTokens.{is_blank, begins_with, has_leading_zero, longest, token_of_len, token, front_at}
use Rattle.c_token.specs.TokenSpelling.{is_token}
use Rattle.c_token.specs.Fronts.{begins_hexadecimal, suffix_len, number_end, number_at}
use Rattle.c_token.specs.PlainText.{number_spelling, is_in_form}
use Rattle.c_token.proofs.Numbers.{number-decimal}
use Rattle.c_token.proofs.NumberReads.{number_is_fine}
use Rattle.c_token.proofs.PlainFronts.{is_parted, parted-fails, prefix_len-run, front-plain}

-- the digits of a number
are_digits : (ds : List ℕ) → AllDigits 10 ds → list_all is_ascii_digit ds ≡ true
are_digits [] all = refl
are_digits (c ∷ cs) all = and_from _ _ (let digit : is_ascii_digit c ≡ true = grind (arith, nat_tests, all.0) in digit) (are_digits cs all.1)

-- the suffix
abbrev suffix : Bool → List ℕ
suffix unsigned = cond unsigned (codes "u") []

-- what follows the digits begins with `u`, or is parted
behind_no_digit : (unsigned : Bool) (rest : List ℕ) → is_parted rest ≡ true → begins_with is_ascii_digit (suffix unsigned ++ rest) ≡ false
behind_no_digit true rest parted = refl
behind_no_digit false rest parted = parted-fails is_ascii_digit rest refl parted

behind_suffix : (unsigned : Bool) (rest : List ℕ) → is_parted rest ≡ true → suffix_len (suffix unsigned ++ rest) ≡ length (suffix unsigned)
behind_suffix true rest parted = refl
behind_suffix false rest parted = cond-false (begins_with is_suffix_byte rest) 1 0 (parted-fails is_suffix_byte rest refl parted)

is_suffixed : (unsigned : Bool) (d : ℕ) → ltb d (d + length (suffix unsigned)) ≡ unsigned
is_suffixed true d = lt-ltb d (d + 1) (omega arith)
is_suffixed false d = le-ltb d (d + 0) (omega arith)

-- `x` is neither a digit, nor `u`, nor a space
no_prefix_second : (c d : ℕ) (bs : List ℕ) → eqb 120 d ≡ false → eqb 88 d ≡ false → begins_hexadecimal (c ∷ d ∷ bs) ≡ false
no_prefix_second c d bs small large =
    and_left _ _ (or_from _ _ (and_right (eqb 48 c) _ (and_left _ _ small)) (and_right (eqb 48 c) _ (and_left _ _ large)))

no_prefix : (ds : List ℕ) (unsigned : Bool) (rest : List ℕ) → AllDigits 10 ds → 0 < length ds → is_parted rest ≡ true → begins_hexadecimal (ds ++ (suffix unsigned ++ rest)) ≡ false
no_prefix [] unsigned rest all some parted = absurd (omega arith)
no_prefix (c ∷ []) true rest all some parted = no_prefix_second c 117 rest refl refl
no_prefix (c ∷ []) false [] all some parted = and_right _ false refl
no_prefix (c ∷ []) false (b ∷ bs) all some parted = no_prefix_second c b bs (grind (arith, nat_tests)) (grind (arith, nat_tests))
no_prefix (c ∷ d ∷ ds) unsigned rest all some parted =
    no_prefix_second c d (ds ++ (suffix unsigned ++ rest)) (grind (arith, nat_tests, all.1.0)) (grind (arith, nat_tests, all.1.0))

-- digits with no leading zero
no_zero : (ds bs : List ℕ) → ((48 < get_or ds 0 0) ⊎ (length ds ≡ 1)) → 0 < length ds → begins_with is_ascii_digit bs ≡ false → has_leading_zero (ds ++ bs) ≡ false
no_zero [] bs first some none = absurd (omega arith)
no_zero (c ∷ []) bs first some none = and_right (eqb c 48) _ none
no_zero (c ∷ d ∷ ds) bs first some none =
    ⊎_elim
    (λ (above : 48 < c). and_left (eqb c 48) _ (let other : eqb c 48 ≡ false = grind (arith, nat_tests) in other))
    (λ (one : length (c ∷ d ∷ ds) ≡ 1). absurd (omega arith))
    first

decimal_first : (n : ℕ) → n < 2 ^ 64 → (48 < get_or (decimal n) 0 0) ⊎ (length (decimal n) ≡ 1)
decimal_first n fits =
    ⊎_elim
    (λ (some : 0 < n). inl (first_decimal n some fits))
    (λ (none : n ≤ 0). inr (ap length (decimal_digit n (omega arith))))
    (cases_lt 0 n)

starts_digit : (ds rest : List ℕ) → AllDigits 10 ds → 0 < length ds → begins_with is_ascii_digit (ds ++ rest) ≡ true
starts_digit [] rest all some = absurd (omega arith)
starts_digit (c ∷ cs) rest all some = grind (arith, nat_tests, all.0)

digit_is_plain : (c : ℕ) → is_ascii_digit c ≡ true → (is_blank c ≡ false) × (eqb 47 c ≡ false)
digit_is_plain c digit = (grind (arith, nat_tests), grind (arith, nat_tests))

front-digit : (at : ℕ) (text : List ℕ) → begins_with is_ascii_digit text ≡ true → front_at at text ≡ token_of_len at text (longest is_token text)
front-digit at [] digit = absurd (false≢true digit)
front-digit at (b ∷ bs) digit = let plain = digit_is_plain b digit in front-plain at b bs plain.0 plain.1

number_text : (at value : ℕ) (unsigned : Bool) (rest : List ℕ) → is_in_form (kinds.Number value unsigned) ≡ true → is_parted rest ≡ true
    → front_at at (decimal value ++ (suffix unsigned ++ rest)) ≡ Ok (token (kinds.Number value unsigned) (length (number_spelling value unsigned)))
number_text at value unsigned rest form parted =
    let parts = and_parts _ _ form in
    let fits : value ≤ 4294967295 = leb-true _ _ parts.0 in
    let ds = decimal value in
    let numeral = decimal_is_IsNumeral value (omega arith) in
    let some : 0 < length ds = numeral.0.0 in
    let after = suffix unsigned ++ rest in
    let text = ds ++ after in
    let start = starts_digit ds after numeral.0.1 some in
    let plain = no_prefix ds unsigned rest numeral.0.1 some parted in
    let run : prefix_len is_ascii_digit text ≡ length ds = prefix_len-run is_ascii_digit ds after (are_digits ds numeral.0.1) (behind_no_digit unsigned rest parted) in
    let end : number_end text (length ds) ≡ length (number_spelling value unsigned) =
    ap (λ bs. length ds + suffix_len bs) (drop_at ds after (length ds) refl)
    ∙ ap (λ n. length ds + n) (behind_suffix unsigned rest parted)
    ∙ sym (length-append ds (suffix unsigned)) in
    let whole : text ≡ number_spelling value unsigned ++ rest = sym (append_assoc ds (suffix unsigned) rest) in
    let front : take (number_end text (length ds)) text ≡ number_spelling value unsigned =
    ap (λ n. take n text) end ∙ ap (λ bs. take (length (number_spelling value unsigned)) bs) whole ∙ take_at (number_spelling value unsigned) rest _ refl in
    let last : drop (number_end text (length ds)) text ≡ rest =
    ap (λ n. drop n text) end ∙ ap (λ bs. drop (length (number_spelling value unsigned)) bs) whole ∙ drop_at (number_spelling value unsigned) rest _ refl in
    let value_is : digits_value 10 (take (length ds - 0) (drop 0 text)) ≡ value =
    ap (λ n. digits_value 10 (take n text)) (let same : length ds - 0 ≡ length ds = omega arith in same)
    ∙ ap (digits_value 10) (take_at ds after (length ds) refl) ∙ numeral.1 in
    let zero_free : has_leading_zero (take (number_end text (length ds)) text) ≡ false =
    ap has_leading_zero front ∙ no_zero ds (suffix unsigned) (decimal_first value (omega arith)) some (suffix_is_no_digit unsigned) in
    let letter_free : begins_with is_name_byte (drop (number_end text (length ds)) text) ≡ false =
    ap (begins_with is_name_byte) last ∙ parted-fails is_name_byte rest refl parted in
    let flag : (ltb (length ds) (number_end text (length ds)) || ltb 2147483647 (digits_value 10 (take (length ds - 0) (drop 0 text)))) ≡ unsigned =
    ap (λ n. ltb (length ds) n || ltb 2147483647 (digits_value 10 (take (length ds - 0) (drop 0 text)))) (end ∙ length-append ds (suffix unsigned))
    ∙ ap (λ b. b || ltb 2147483647 (digits_value 10 (take (length ds - 0) (drop 0 text)))) (is_suffixed unsigned (length ds))
    ∙ ap (λ n. unsigned || ltb 2147483647 n) value_is
    ∙ large value unsigned parts.1 in
    front-digit at text start
    ∙ number-decimal at text start plain
    ∙ ap (number_at at text 10 0) run
    ∙ number_is_fine at text 10 0 (length ds) (or_from _ _ zero_free letter_free) (rw value_is fits) (within text ds unsigned rest whole end)
    ∙ ap (λ n. Ok (token (kinds.Number n (ltb (length ds) (number_end text (length ds)) || ltb 2147483647 (digits_value 10 (take (length ds - 0) (drop 0 text))))) (number_end text (length ds)))) value_is
    ∙ ap (λ b. Ok (token (kinds.Number value b) (number_end text (length ds)))) flag
    ∙ ap (λ n. Ok (token (kinds.Number value unsigned) n)) end
  where
    suffix_is_no_digit : (unsigned : Bool) → begins_with is_ascii_digit (suffix unsigned) ≡ false
    suffix_is_no_digit true = refl
    suffix_is_no_digit false = refl

    large : (value : ℕ) (unsigned : Bool) → (unsigned || leb value 2147483647) ≡ true → (unsigned || ltb 2147483647 value) ≡ unsigned
    large value true h = refl
    large value false h = le-ltb 2147483647 value (leb-true _ _ h)

    within : (text ds : List ℕ) (unsigned : Bool) (rest : List ℕ) → text ≡ (ds ++ suffix unsigned) ++ rest → number_end text (length ds) ≡ length (ds ++ suffix unsigned) → number_end text (length ds) ≤ length text
    within text ds unsigned rest whole end = omega (arith, end, ap length whole, length-append (ds ++ suffix unsigned) rest)

pub number_front : (at value : ℕ) (unsigned : Bool) (rest : List ℕ) → is_in_form (kinds.Number value unsigned) ≡ true → is_parted rest ≡ true
    → front_at at (number_spelling value unsigned ++ rest) ≡ Ok (token (kinds.Number value unsigned) (length (number_spelling value unsigned)))
number_front at value unsigned rest form parted =
    ap (front_at at) (append_assoc (decimal value) (suffix unsigned) rest) ∙ number_text at value unsigned rest form parted

pub number_some : (value : ℕ) (unsigned : Bool) → is_in_form (kinds.Number value unsigned) ≡ true → 0 < length (number_spelling value unsigned)
number_some value unsigned form =
    let fits : value ≤ 4294967295 = leb-true _ _ (and_parts _ _ form).0 in
    omega (arith, length-append (decimal value) (suffix unsigned), (decimal_is_IsNumeral value (omega arith)).0.0)
