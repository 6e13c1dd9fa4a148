-- The plain spelling of a token is the longest token where the byte after it makes it no longer, also without a space.
use Rattle.std.proofs.Common.{◌≡◌, ℕ, ◌+◌, ◌-◌, ◌<◌, ◌≤◌, ◌^◌, Bool, true, false, ◌||◌, ◌&&◌, List, [], ◌∷◌, ◌++◌, length, get_or, take, drop, eqb, ltb, not, Option, None, Some, Ok, is_some, refl, sym, ap, ◌∙◌, ◌⊎◌, inl, inr, ⊎_elim, arith}
use Rattle.std.specs.Prelude.{nat_le}
use Rattle.std.specs.List.{list_all, prefix_len}
use Rattle.std.specs.Char.{is_ascii_digit}
use Rattle.std.specs.Fmt.{decimal}
use Rattle.std.specs.Str.Parse.{AllDigits, digits_value}
use Rattle.std.proofs.lemmas.Bool.{cases_lt, cond-false, and_parts, and_from, and_left, and_right, not-true, false≢true, leb-true, le-ltb, or_from}
use Rattle.std.proofs.lemmas.Bool.Decides.{nat_tests}
use Rattle.std.proofs.lemmas.List.{append-nil, take_at, drop_at, length-append}
use Rattle.std.proofs.lemmas.Fmt.{decimal_is_IsNumeral, first_decimal, decimal_digit}
use Rattle.c_token.specs.declared.words.Word.{Word}
use Rattle.c_token.specs.declared.words.Word.TheVariants.{Int}
use Rattle.c_token.specs.declared.signs.Sign.{Sign}
use Rattle.c_token.specs.declared.signs.Sign.TheVariants.{LeftParenthesis}
use Rattle.c_token.specs.declared.kinds.Kind.{Kind}
use Rattle.c_token.specs.declared.kinds.Kind.TheVariants as kinds
use Rattle.c_token.specs.WordSpelling.{word_spelling, word_spelled}
use Rattle.c_token.specs.SignSpelling.{sign_spelling, sign_spelled}
use Rattle.c_token.specs.TokenSpelling.{is_name_start, is_name_byte, is_name, is_suffix_byte, is_token}
use Rattle.c_token.specs.TextTokens.{is_blank, begins_with, has_leading_zero, longest, token_of_len, token, front_at}
use Rattle.c_token.specs.Fronts.{begins_hexadecimal, suffix_len, number_end, number_at}
use Rattle.c_token.specs.PlainText.{plain_spelling, is_in_form}
use Rattle.c_token.proofs.Names.{is_word_front, is_name_front}
use Rattle.c_token.proofs.Numbers.{number-decimal}
use Rattle.c_token.proofs.NumberReads.{number_is_fine}
use Rattle.c_token.proofs.PlainFronts.{prefix_len-run, front-plain, word_is_name}
use Rattle.c_token.proofs.SignFronts.{IsOther, sign_of_one}

-- ---- names and words

start_is_plain : (b : ℕ) → is_name_start b ≡ true → (is_blank b ≡ false) × (eqb 47 b ≡ false)
start_is_plain b start = (grind (arith, nat_tests), grind (arith, nat_tests))

front-name : (at : ℕ) (text : List ℕ) → begins_with is_name_start text ≡ true → front_at at text ≡ token_of_len at text (longest is_token text)
front-name at [] start = absurd (false≢true start)
front-name at (b ∷ bs) start = let plain = start_is_plain b start in front-plain at b bs plain.0 plain.1

name_run : (bytes rest : List ℕ) → is_name bytes ≡ true → begins_with is_name_byte rest ≡ false
    → (begins_with is_name_start (bytes ++ rest) ≡ true) × (prefix_len is_name_byte (bytes ++ rest) ≡ length bytes) × (take (prefix_len is_name_byte (bytes ++ rest)) (bytes ++ rest) ≡ bytes)
name_run [] rest is stop = absurd (false≢true is)
name_run (b ∷ bs) rest is stop =
    let parts = and_parts _ _ is in
    let byte : is_name_byte b ≡ true = grind (arith, nat_tests, parts.0) in
    let run = prefix_len-run is_name_byte (b ∷ bs) rest (and_from _ _ byte parts.1) stop in
    (parts.0, run, ap (λ n. take n ((b ∷ bs) ++ rest)) run ∙ take_at (b ∷ bs) rest (length (b ∷ bs)) refl)

word_is_own : (w : Word) → word_spelled (word_spelling w) ≡ Some w
word_is_own Int = refl
word_is_own _ = refl

word_tight : (at : ℕ) (w : Word) (rest : List ℕ) → begins_with is_name_byte rest ≡ false → front_at at (word_spelling w ++ rest) ≡ Ok (token (kinds.Word w) (length (word_spelling w)))
word_tight at w rest stop =
    let text = word_spelling w ++ rest in
    let run = name_run (word_spelling w) rest (word_is_name w) stop in
    front-name at text run.0 ∙ is_word_front at text w run.0 (ap word_spelled run.2 ∙ word_is_own w) ∙ ap (λ n. Ok (token (kinds.Word w) n)) run.1

name_tight : (at : ℕ) (bytes rest : List ℕ) → is_in_form (kinds.Name bytes) ≡ true → begins_with is_name_byte rest ≡ false → front_at at (bytes ++ rest) ≡ Ok (token (kinds.Name bytes) (length bytes))
name_tight at bytes rest form stop =
    let parts = and_parts _ _ form in
    let more = and_parts _ _ parts.1 in
    let text = bytes ++ rest in
    let run = name_run bytes rest parts.0 stop in
    front-name at text run.0
    ∙ is_name_front at text run.0 (ap word_spelled run.2 ∙ none (word_spelled bytes) (not-true _ more.0)) (rw run.1 (leb-true _ _ more.1))
    ∙ ap (λ bytes. Ok (token (kinds.Name bytes) (prefix_len is_name_byte text))) run.2
    ∙ ap (λ n. Ok (token (kinds.Name bytes) n)) run.1
  where
    none : (o : Option Word) → is_some o ≡ false → o ≡ None
    none None h = refl
    none (Some w) h = absurd (false≢true (sym h))

-- ---- numbers of type int

are_digits : (ds : List ℕ) → AllDigits 10 ds → list_all is_ascii_digit ds ≡ true
are_digits [] all = refl
are_digits (c ∷ cs) all = and_from _ _ (let digit : is_ascii_digit c ≡ true = grind (arith, nat_tests, all.0) in digit) (are_digits cs all.1)

no_digit : (rest : List ℕ) → begins_with is_name_byte rest ≡ false → begins_with is_ascii_digit rest ≡ false
no_digit [] stop = refl
no_digit (b ∷ bs) stop = let none : is_ascii_digit b ≡ false = grind (arith, nat_tests) in none

no_suffix : (rest : List ℕ) → begins_with is_name_byte rest ≡ false → begins_with is_suffix_byte rest ≡ false
no_suffix [] stop = refl
no_suffix (b ∷ bs) stop = let none : is_suffix_byte b ≡ false = grind (arith, nat_tests) in none

no_prefix_second : (c d : ℕ) (bs : List ℕ) → eqb 120 d ≡ false → eqb 88 d ≡ false → begins_hexadecimal (c ∷ d ∷ bs) ≡ false
no_prefix_second c d bs small large =
    and_left _ _ (or_from _ _ (and_right (eqb 48 c) _ (and_left _ _ small)) (and_right (eqb 48 c) _ (and_left _ _ large)))

no_prefix : (ds rest : List ℕ) → AllDigits 10 ds → 0 < length ds → begins_with is_name_byte rest ≡ false → begins_hexadecimal (ds ++ rest) ≡ false
no_prefix [] rest all some stop = absurd (omega arith)
no_prefix (c ∷ []) [] all some stop = and_right _ false refl
no_prefix (c ∷ []) (b ∷ bs) all some stop = no_prefix_second c b bs (grind (arith, nat_tests)) (grind (arith, nat_tests))
no_prefix (c ∷ d ∷ ds) rest all some stop = no_prefix_second c d (ds ++ rest) (grind (arith, nat_tests, all.1.0)) (grind (arith, nat_tests, all.1.0))

no_zero : (ds : List ℕ) → ((48 < get_or ds 0 0) ⊎ (length ds ≡ 1)) → 0 < length ds → has_leading_zero ds ≡ false
no_zero [] first some = absurd (omega arith)
no_zero (c ∷ []) first some = and_right (eqb c 48) false refl
no_zero (c ∷ d ∷ ds) first some =
    ⊎_elim
    (λ (above : 48 < c). and_left (eqb c 48) _ (let other : eqb c 48 ≡ false = grind (arith, nat_tests) in other))
    (λ (one : length (c ∷ d ∷ ds) ≡ 1). absurd (omega arith))
    first

decimal_first : (n : ℕ) → n < 2 ^ 64 → (48 < get_or (decimal n) 0 0) ⊎ (length (decimal n) ≡ 1)
decimal_first n fits =
    ⊎_elim
    (λ (some : 0 < n). inl (first_decimal n some fits))
    (λ (none : n ≤ 0). inr (ap length (decimal_digit n (omega arith))))
    (cases_lt 0 n)

starts_digit : (ds rest : List ℕ) → AllDigits 10 ds → 0 < length ds → begins_with is_ascii_digit (ds ++ rest) ≡ true
starts_digit [] rest all some = absurd (omega arith)
starts_digit (c ∷ cs) rest all some = grind (arith, nat_tests, all.0)

digit_is_plain : (c : ℕ) → is_ascii_digit c ≡ true → (is_blank c ≡ false) × (eqb 47 c ≡ false)
digit_is_plain c digit = (grind (arith, nat_tests), grind (arith, nat_tests))

front-digit : (at : ℕ) (text : List ℕ) → begins_with is_ascii_digit text ≡ true → front_at at text ≡ token_of_len at text (longest is_token text)
front-digit at [] digit = absurd (false≢true digit)
front-digit at (b ∷ bs) digit = let plain = digit_is_plain b digit in front-plain at b bs plain.0 plain.1

number_tight : (at value : ℕ) (rest : List ℕ) → value ≤ 2147483647 → begins_with is_name_byte rest ≡ false
    → front_at at (decimal value ++ rest) ≡ Ok (token (kinds.Number value false) (length (decimal value)))
number_tight at value rest small stop =
    let ds = decimal value in
    let text = ds ++ rest in
    let numeral = decimal_is_IsNumeral value (omega (arith, small)) in
    let some : 0 < length ds = numeral.0.0 in
    let start = starts_digit ds rest numeral.0.1 some in
    let plain = no_prefix ds rest numeral.0.1 some stop in
    let run : prefix_len is_ascii_digit text ≡ length ds = prefix_len-run is_ascii_digit ds rest (are_digits ds numeral.0.1) (no_digit rest stop) in
    let none : suffix_len rest ≡ 0 = cond-false (begins_with is_suffix_byte rest) 1 0 (no_suffix rest stop) in
    let end : number_end text (length ds) ≡ length ds =
    ap (λ bs. length ds + suffix_len bs) (drop_at ds rest (length ds) refl) ∙ (let sum : length ds + suffix_len rest ≡ length ds = omega (arith, none) in sum) in
    let front : take (number_end text (length ds)) text ≡ ds = ap (λ n. take n text) end ∙ take_at ds rest (length ds) refl in
    let last : drop (number_end text (length ds)) text ≡ rest = ap (λ n. drop n text) end ∙ drop_at ds rest (length ds) refl in
    let value_is : digits_value 10 (take (length ds - 0) (drop 0 text)) ≡ value =
    ap (λ n. digits_value 10 (take n text)) (let same : length ds - 0 ≡ length ds = omega arith in same)
    ∙ ap (digits_value 10) (take_at ds rest (length ds) refl) ∙ numeral.1 in
    let zero_free : has_leading_zero (take (number_end text (length ds)) text) ≡ false = ap has_leading_zero front ∙ no_zero ds (decimal_first value (omega (arith, small))) some in
    let letter_free : begins_with is_name_byte (drop (number_end text (length ds)) text) ≡ false = ap (begins_with is_name_byte) last ∙ stop in
    let flag : (ltb (length ds) (number_end text (length ds)) || ltb 2147483647 (digits_value 10 (take (length ds - 0) (drop 0 text)))) ≡ false =
    or_from (ltb (length ds) (number_end text (length ds))) (ltb 2147483647 (digits_value 10 (take (length ds - 0) (drop 0 text))))
    (le-ltb (length ds) (number_end text (length ds)) (omega (arith, end))) (le-ltb 2147483647 (digits_value 10 (take (length ds - 0) (drop 0 text))) (omega (arith, value_is, small))) in
    let fits : digits_value 10 (take (length ds - 0) (drop 0 text)) ≤ 4294967295 = omega (arith, value_is, small) in
    let within : number_end text (length ds) ≤ length text = omega (arith, end, length-append ds rest) in
    front-digit at text start
    ∙ number-decimal at text start plain
    ∙ ap (number_at at text 10 0) run
    ∙ number_is_fine at text 10 0 (length ds) (or_from _ _ zero_free letter_free) fits within
    ∙ ap (λ n. Ok (token (kinds.Number n (ltb (length ds) (number_end text (length ds)) || ltb 2147483647 (digits_value 10 (take (length ds - 0) (drop 0 text))))) (number_end text (length ds)))) value_is
    ∙ ap (λ b. Ok (token (kinds.Number value b) (number_end text (length ds)))) flag
    ∙ ap (λ n. Ok (token (kinds.Number value false) n)) end

-- ---- signs of one byte

-- a byte that begins neither a name nor a number, is no blank, and opens no comment
abbrev begins_sign : ℕ → Bool
begins_sign b = not (is_name_start b) && (not (is_ascii_digit b) && (not (is_blank b) && not (eqb 47 b)))

sign_is_own : (s : Sign) → sign_spelled (sign_spelling s) ≡ Some s
sign_is_own LeftParenthesis = refl
sign_is_own _ = refl

none_of : (o : Option Sign) → is_some o ≡ false → o ≡ None
none_of None none = refl
none_of (Some s) none = absurd (false≢true (sym none))

-- ---- each token

-- one byte that spells a sign, and none with the next one
abbrev pub is_sign_apart : List ℕ → ℕ → Bool
is_sign_apart (c ∷ []) b = begins_sign c && not (is_some (sign_spelled (c ∷ b ∷ [])))
is_sign_apart bytes b = false

-- the byte after the token makes it no longer
abbrev pub is_apart : Kind → ℕ → Bool
is_apart (kinds.Name bytes) b = not (is_name_byte b)
is_apart (kinds.Number value unsigned) b = not unsigned && (nat_le value 2147483647 && not (is_name_byte b))
is_apart (kinds.Word w) b = not (is_name_byte b)
is_apart (kinds.Sign s) b = is_sign_apart (sign_spelling s) b

sign_tight : (at : ℕ) (bytes : List ℕ) (b : ℕ) (rest : List ℕ) (s : Sign) → sign_spelled bytes ≡ Some s → is_sign_apart bytes b ≡ true → front_at at (bytes ++ b ∷ rest) ≡ Ok (token (kinds.Sign s) (length bytes))
sign_tight at [] b rest s own apart = absurd (false≢true apart)
sign_tight at (c ∷ []) b rest s own apart =
    let parts = and_parts (begins_sign c) _ apart in
    let begins = and_parts (not (is_name_start c)) _ parts.0 in
    let more = and_parts (not (is_ascii_digit c)) _ begins.1 in
    let last = and_parts (not (is_blank c)) _ more.1 in
    let other : IsOther (c ∷ b ∷ rest) = record { some = omega arith; no_name = not-true _ begins.0; no_number = not-true _ more.0 } in
    front-plain at c (b ∷ rest) (not-true _ last.0) (not-true _ last.1)
    ∙ sign_of_one at (c ∷ b ∷ rest) s other (λ long. none_of (sign_spelled (c ∷ b ∷ [])) (not-true _ parts.1)) own
sign_tight at (c ∷ d ∷ bs) b rest s own apart = absurd (false≢true apart)

pub tight_front : (at : ℕ) (kind : Kind) (b : ℕ) (rest : List ℕ) → is_in_form kind ≡ true → is_apart kind b ≡ true
    → front_at at (plain_spelling kind ++ b ∷ rest) ≡ Ok (token kind (length (plain_spelling kind)))
tight_front at (kinds.Name bytes) b rest form apart = name_tight at bytes (b ∷ rest) form (not-true _ apart)
tight_front at (kinds.Number value true) b rest form apart = absurd (false≢true apart)
tight_front at (kinds.Number value false) b rest form apart =
    let parts = and_parts (nat_le value 2147483647) _ apart in
    ap (λ ds. front_at at (ds ++ b ∷ rest)) (append-nil (decimal value))
    ∙ number_tight at value (b ∷ rest) (leb-true _ _ parts.0) (not-true _ parts.1)
    ∙ ap (λ ds. Ok (token (kinds.Number value false) (length ds))) (sym (append-nil (decimal value)))
tight_front at (kinds.Word w) b rest form apart = word_tight at w (b ∷ rest) (not-true _ apart)
tight_front at (kinds.Sign s) b rest form apart = sign_tight at (sign_spelling s) b rest s (sign_is_own s) apart
