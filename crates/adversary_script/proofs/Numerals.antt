-- What the code reads of a number.
use Rattle.std.proofs.Common.{◌≡◌, ℕ, ◌<◌, ◌≤◌, Bool, true, false, List, [], ◌∷◌, length, eqb, leb, ltb, Some, Result, Ok, Err, Bor, IsUtf8, MatchResult, refl, sym, ap, subst, ◌∙◌, ⊎_elim, arith}
use Rattle.std.specs.Prelude.{IsAscii, IsOk}
use Rattle.std.specs.Result.{result_ok}
use Rattle.std.specs.List.{list_all}
use Rattle.std.specs.Char.{is_ascii_digit, is_ascii_hexdigit, digit_value}
use Rattle.std.specs.Str.{IsValidUpTo, valid_up_to}
use Rattle.std.specs.Str.Parse.{AllDigits, IsNumeral, ParsesUnsigned, digits_value, without_leading_plus}
use Rattle.std.specs.declared.str.Utf8Error.{Utf8Error}
use borrow.Author.Tests.{ltb-true}
use Rattle.std.proofs.lemmas.Bool.{cases_lt, cond-true, cond-false, and_parts}
use Rattle.std.proofs.lemmas.Bool.Decides.{nat_tests}
use Rattle.std.proofs.lemmas.Str.{IsUtf8-from_ascii}
use Rattle.std.proofs.lemmas.Str.Ascii.{IsAscii-nil, IsAscii-cons}
use Rattle.adversary_script.specs.LineFields.{is_numeral, below_limit}

-- digits are a text
digit_ascii : (base c : ℕ) → base ≤ 36 → digit_value c < base → c < 128
digit_ascii base c le below = grind (arith, nat_tests)

digits_ascii : (base : ℕ) (ds : List ℕ) → base ≤ 36 → AllDigits base ds → IsAscii ds
digits_ascii base [] le all = IsAscii-nil
digits_ascii base (c ∷ cs) le all = IsAscii-cons c cs (digit_ascii base c le all.0) (digits_ascii base cs le all.1)

-- and begin with no plus
no_plus : (base c : ℕ) → base ≤ 36 → digit_value c < base → eqb c 43 ≡ false
no_plus base c le below = grind (arith, nat_tests)

without_leading_plus-digits : (base : ℕ) (ds : List ℕ) → base ≤ 36 → AllDigits base ds → without_leading_plus ds ≡ ds
without_leading_plus-digits base [] le all = refl
without_leading_plus-digits base (c ∷ cs) le all = rw (no_plus base c le all.0) refl

-- bytes that are a text are read as one
text_is_ok : (r : Result (Bor (List ℕ)) Utf8Error) (bytes : List ℕ) → MatchResult r (λ s. (s.now ≡ bytes) × IsUtf8 bytes) (λ e. ¬ (IsUtf8 bytes) × IsValidUpTo bytes (valid_up_to e))
    → IsUtf8 bytes → IsOk r
text_is_ok (Ok s) bytes cases utf8 = refl
text_is_ok (Err e) bytes cases utf8 = absurd (cases.0 utf8)

pub digits_are_ok : (base : ℕ) (ds : List ℕ) (r : Result (Bor (List ℕ)) Utf8Error) → base ≤ 36 → IsNumeral base ds
    → MatchResult r (λ s. (s.now ≡ ds) × IsUtf8 ds) (λ e. ¬ (IsUtf8 ds) × IsValidUpTo ds (valid_up_to e)) → IsOk r
digits_are_ok base ds r le numeral cases = text_is_ok r ds cases (IsUtf8-from_ascii ds (digits_ascii base ds le numeral.1))

pub text_is_same : (r : Result (Bor (List ℕ)) Utf8Error) (bytes : List ℕ) (s : Bor (List ℕ)) → MatchResult r (λ s. (s.now ≡ bytes) × IsUtf8 bytes) (λ e. ¬ (IsUtf8 bytes) × IsValidUpTo bytes (valid_up_to e))
    → r ≡ Ok s → s.now ≡ bytes
text_is_same (Ok t) bytes s cases e = let same : t ≡ s = cc in subst (λ (t : Bor (List ℕ)). t.now ≡ bytes) same cases.0
text_is_same (Err d) bytes s cases e = cc

-- a number that fits is read, and no other
pub parsed : {E : Type 0} (base : ℕ) (ds text : List ℕ) (r : Result ℕ E) → base ≤ 36 → IsNumeral base ds → text ≡ ds → ParsesUnsigned 32 base text r
    → result_ok r ≡ below_limit (digits_value base ds)
parsed base ds text (Ok value) le numeral same parses =
    let bare : without_leading_plus text ≡ ds = ap without_leading_plus same ∙ without_leading_plus-digits base ds le numeral.1 in
    let e : digits_value base (without_leading_plus text) ≡ digits_value base ds = ap (digits_value base) bare in
    let small : leb (digits_value base ds) 4294967295 ≡ true = grind (arith, nat_tests) in
    ap (λ (n : ℕ). Some n) (parses.1 ∙ e) ∙ sym (cond-true (leb (digits_value base ds) 4294967295) _ _ small)
parsed base ds text (Err error) le numeral same parses =
    let bare : without_leading_plus text ≡ ds = ap without_leading_plus same ∙ without_leading_plus-digits base ds le numeral.1 in
    ⊎_elim
    (λ (above : 4294967295 < digits_value base ds).
    let big : leb (digits_value base ds) 4294967295 ≡ false = grind (arith, nat_tests) in
    sym (cond-false (leb (digits_value base ds) 4294967295) _ _ big))
    (λ (below : digits_value base ds ≤ 4294967295). absurd (parses (rw bare (numeral, omega arith))))
    (cases_lt 4294967295 (digits_value base ds))

-- tested digits are a numeral
decimal_value : (c : ℕ) → is_ascii_digit c ≡ true → digit_value c < 10
decimal_value c h = grind (arith, nat_tests)

hexadecimal_value : (c : ℕ) → is_ascii_hexdigit c ≡ true → digit_value c < 16
hexadecimal_value c h = grind (arith, nat_tests)

all_digits : (base : ℕ) (p : ℕ → Bool) → ((c : ℕ) → p c ≡ true → digit_value c < base) → (ds : List ℕ) → list_all p ds ≡ true → AllDigits base ds
all_digits base p each [] all = tt
all_digits base p each (c ∷ cs) all = let parts = and_parts (p c) (list_all p cs) all in (each c parts.0, all_digits base p each cs parts.1)

pub decimal_is_numeral : (ds : List ℕ) → is_numeral is_ascii_digit ds ≡ true → IsNumeral 10 ds
decimal_is_numeral ds test = let parts = and_parts (ltb 0 (length ds)) (list_all is_ascii_digit ds) test in (ltb-true 0 (length ds) parts.0, all_digits 10 is_ascii_digit decimal_value ds parts.1)

pub hexadecimal_is_numeral : (ds : List ℕ) → is_numeral is_ascii_hexdigit ds ≡ true → IsNumeral 16 ds
hexadecimal_is_numeral ds test =
    let parts = and_parts (ltb 0 (length ds)) (list_all is_ascii_hexdigit ds) test in (ltb-true 0 (length ds) parts.0, all_digits 16 is_ascii_hexdigit hexadecimal_value ds parts.1)
