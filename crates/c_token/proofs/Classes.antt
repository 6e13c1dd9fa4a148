-- What the first byte says of the token that bytes may spell.
use Rattle.std.proofs.Common.{◌≡◌, ℕ, ◌<◌, Bool, true, false, not, List, [], ◌∷◌, length, drop, eqb, leb, None, Some, refl, sym, ap, ◌∙◌, arith}
use Rattle.std.specs.Prelude.{find, option_map}
use Rattle.std.specs.List.{list_all}
use Rattle.std.specs.Str.{bytes_eq}
use Rattle.std.specs.Char.{is_ascii_digit, is_ascii_hexdigit}
use Rattle.std.proofs.lemmas.Bool.{cond-true, cond-false, true≢false, and_parts, and_from, not-true, false_from_ne_true, and_left, and_right}
use Rattle.std.proofs.lemmas.Bool.Decides.{nat_tests}
use Rattle.std.proofs.lemmas.Slice.Eq.{bytes_eq-Decides}
use Rattle.c_token.specs.declared.signs.Sign.{Sign}
use Rattle.c_token.specs.declared.kinds.Kind.TheVariants as kinds
use Rattle.c_token.specs.WordSpelling.{word_spelled}
use Rattle.c_token.specs.SignSpelling.{sign_spelled, sign_spelling, signs}
use Rattle.c_token.specs.TokenSpelling.{is_name_start, is_name_byte, is_name, has_digits, is_decimal, is_hexadecimal, number_spelled, word_or_name, spelled}
use Rattle.c_token.specs.TextTokens.{begins_with}

-- a test that each element of a table passes rules out each that another test would find
find_none : {X : Type 0} (found safe : X → Bool) → ((x : X) → safe x ≡ true → found x ≡ false) → (xs : List X) → list_all safe xs ≡ true → find found xs ≡ None
find_none found safe apart [] all = refl
find_none found safe apart (x ∷ xs) all =
    let parts = and_parts (safe x) (list_all safe xs) all in
    cond-false (found x) (Some x) (find found xs) (apart x parts.0) ∙ find_none found safe apart xs parts.1

-- no sign begins with a byte of a name
abbrev begins_apart : Sign → Bool
begins_apart s = not (begins_with is_name_byte (sign_spelling s))

-- and none has more than two bytes
abbrev is_short : Sign → Bool
is_short s = leb (length (sign_spelling s)) 2

pub sign_spelled-name_byte : (b : ℕ) (bs : List ℕ) → is_name_byte b ≡ true → sign_spelled (b ∷ bs) ≡ None
sign_spelled-name_byte b bs starts =
    find_none (λ s. bytes_eq (sign_spelling s) (b ∷ bs)) begins_apart
    (λ s apart. false_from_ne_true _ (λ same.
    let e = (bytes_eq-Decides (sign_spelling s) (b ∷ bs)).0 same in
    true≢false (sym starts ∙ sym (ap (begins_with is_name_byte) e) ∙ not-true _ apart)))
    signs refl

pub sign_spelled-long : (bytes : List ℕ) → 2 < length bytes → sign_spelled bytes ≡ None
sign_spelled-long bytes long =
    find_none (λ s. bytes_eq (sign_spelling s) bytes) is_short
    (λ s short. false_from_ne_true _ (λ same.
    let e = (bytes_eq-Decides (sign_spelling s) bytes).0 same in
    grind (arith, nat_tests, ap length e)))
    signs refl

-- classes of bytes
start_no_digit : (b : ℕ) → is_name_start b ≡ true → is_ascii_digit b ≡ false
start_no_digit b h = grind (arith, nat_tests)

pub start_is_byte : (b : ℕ) → is_name_start b ≡ true → is_name_byte b ≡ true
start_is_byte b h = grind (arith, nat_tests)

digit_is_byte : (b : ℕ) → is_ascii_digit b ≡ true → is_name_byte b ≡ true
digit_is_byte b h = grind (arith, nat_tests)

digit_no_start : (b : ℕ) → is_ascii_digit b ≡ true → is_name_start b ≡ false
digit_no_start b h = grind (arith, nat_tests)

no_digit_no_zero : (b : ℕ) → is_ascii_digit b ≡ false → eqb 48 b ≡ false
no_digit_no_zero b h = grind (arith, nat_tests)

pub has_digits-none : (is_digit : ℕ → Bool) (b : ℕ) (bs : List ℕ) → is_digit b ≡ false → has_digits is_digit (b ∷ bs) ≡ false
has_digits-none is_digit b bs none = rw none refl

pub is_hexadecimal-none : (b : ℕ) (bs : List ℕ) → eqb 48 b ≡ false → is_hexadecimal (b ∷ bs) ≡ false
is_hexadecimal-none b bs none = rw none refl

-- bytes that begin as a name spell a word or a name, or no token
pub spelled-start : (b : ℕ) (bs : List ℕ) → is_name_start b ≡ true → list_all is_name_byte bs ≡ true → spelled (b ∷ bs) ≡ Some (word_or_name (word_spelled (b ∷ bs)) (b ∷ bs))
spelled-start b bs start all = cond-true (is_name (b ∷ bs)) _ _ (and_from _ _ start all)

pub spelled-start_none : (b : ℕ) (bs : List ℕ) → is_name_start b ≡ true → list_all is_name_byte bs ≡ false → spelled (b ∷ bs) ≡ None
spelled-start_none b bs start some =
    cond-false (is_name (b ∷ bs)) _ _ (and_right _ _ some)
    ∙ cond-false (is_decimal (b ∷ bs)) _ _ (has_digits-none is_ascii_digit b bs (start_no_digit b start))
    ∙ cond-false (is_hexadecimal (b ∷ bs)) _ _ (is_hexadecimal-none b bs (no_digit_no_zero b (start_no_digit b start)))
    ∙ ap (option_map (λ s. kinds.Sign s)) (sign_spelled-name_byte b bs (start_is_byte b start))

-- bytes that begin with a digit spell a number, or no token
digit_no_name : (b : ℕ) (bs : List ℕ) → is_ascii_digit b ≡ true → is_name (b ∷ bs) ≡ false
digit_no_name b bs digit = and_left _ _ (digit_no_start b digit)

pub spelled-decimal : (b : ℕ) (bs : List ℕ) → is_ascii_digit b ≡ true → is_decimal (b ∷ bs) ≡ true → spelled (b ∷ bs) ≡ Some (number_spelled 10 is_ascii_digit (b ∷ bs))
spelled-decimal b bs digit decimal = cond-false (is_name (b ∷ bs)) _ _ (digit_no_name b bs digit) ∙ cond-true (is_decimal (b ∷ bs)) _ _ decimal

pub spelled-hexadecimal : (b : ℕ) (bs : List ℕ) → is_ascii_digit b ≡ true → is_decimal (b ∷ bs) ≡ false → is_hexadecimal (b ∷ bs) ≡ true
    → spelled (b ∷ bs) ≡ Some (number_spelled 16 is_ascii_hexdigit (drop 2 (b ∷ bs)))
spelled-hexadecimal b bs digit decimal hexadecimal =
    cond-false (is_name (b ∷ bs)) _ _ (digit_no_name b bs digit) ∙ cond-false (is_decimal (b ∷ bs)) _ _ decimal ∙ cond-true (is_hexadecimal (b ∷ bs)) _ _ hexadecimal

pub spelled-digit_none : (b : ℕ) (bs : List ℕ) → is_ascii_digit b ≡ true → is_decimal (b ∷ bs) ≡ false → is_hexadecimal (b ∷ bs) ≡ false → spelled (b ∷ bs) ≡ None
spelled-digit_none b bs digit decimal hexadecimal =
    cond-false (is_name (b ∷ bs)) _ _ (digit_no_name b bs digit)
    ∙ cond-false (is_decimal (b ∷ bs)) _ _ decimal
    ∙ cond-false (is_hexadecimal (b ∷ bs)) _ _ hexadecimal
    ∙ ap (option_map (λ s. kinds.Sign s)) (sign_spelled-name_byte b bs (digit_is_byte b digit))

-- other bytes spell a sign, or no token
pub spelled-other : (b : ℕ) (bs : List ℕ) → is_name_start b ≡ false → is_ascii_digit b ≡ false → spelled (b ∷ bs) ≡ option_map (λ s. kinds.Sign s) (sign_spelled (b ∷ bs))
spelled-other b bs start digit =
    cond-false (is_name (b ∷ bs)) _ _ (and_left _ _ start)
    ∙ cond-false (is_decimal (b ∷ bs)) _ _ (has_digits-none is_ascii_digit b bs digit)
    ∙ cond-false (is_hexadecimal (b ∷ bs)) _ _ (is_hexadecimal-none b bs (no_digit_no_zero b digit))
