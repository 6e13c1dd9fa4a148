-- The plain spelling of a sign is the longest token before a space or the end.
use Rattle.std.proofs.Common.{◌≡◌, ℕ, ◌<◌, Bool, true, false, ◌&&◌, List, [], ◌∷◌, ◌++◌, length, eqb, not, Option, None, Some, Ok, is_some, refl, sym, ap, ◌∙◌, arith}
use Rattle.std.specs.Prelude.{codes, nat_eq}
use Rattle.std.specs.List.{starts_with}
use Rattle.std.specs.Char.{is_ascii_digit}
use Rattle.std.proofs.lemmas.Bool.{and_parts, and_right, not-true, false≢true}
use Rattle.std.proofs.lemmas.Bool.Decides.{nat_tests}
use Rattle.c_token.specs.declared.signs.Sign.{Sign}
use Rattle.c_token.specs.declared.signs.Sign.TheVariants.{LeftParenthesis}
use Rattle.c_token.specs.declared.kinds.Kind.TheVariants as kinds
use Rattle.c_token.specs.SignSpelling.{sign_spelling, sign_spelled}
use Rattle.c_token.specs.TokenSpelling.{is_name_start}
use Rattle.c_token.specs.TextTokens.{is_blank, token, front_at}
use Rattle.c_token.proofs.Cases.{front_is_token}
use Rattle.c_token.proofs.SignFronts.{IsOther, sign_of_one, sign_of_two}
use Rattle.c_token.proofs.PlainFronts.{is_parted}

-- a byte that begins neither a name nor a number, and is no blank
abbrev begins_sign : ℕ → Bool
begins_sign b = not (is_name_start b) && (not (is_ascii_digit b) && not (is_blank b))

-- bytes that a space after them makes no longer sign, and that open no comment
abbrev is_plain_sign : List ℕ → Bool
is_plain_sign [] = false
is_plain_sign (b ∷ []) = begins_sign b && not (is_some (sign_spelled (b ∷ 32 ∷ [])))
is_plain_sign (b ∷ c ∷ []) = begins_sign b && (not (starts_with nat_eq (b ∷ c ∷ []) (codes "/*")) && not (starts_with nat_eq (b ∷ c ∷ []) (codes "//")))
is_plain_sign (b ∷ c ∷ d ∷ bs) = false

sign_is_plain : (s : Sign) → is_plain_sign (sign_spelling s) ≡ true
sign_is_plain LeftParenthesis = refl
sign_is_plain _ = refl

sign_is_own : (s : Sign) → sign_spelled (sign_spelling s) ≡ Some s
sign_is_own LeftParenthesis = refl
sign_is_own _ = refl

is_other : (b : ℕ) (bs : List ℕ) → begins_sign b ≡ true → IsOther (b ∷ bs) × (is_blank b ≡ false)
is_other b bs begins =
    let parts = and_parts _ _ begins in
    let more = and_parts _ _ parts.1 in
    (record { some = omega arith; no_name = not-true _ parts.0; no_number = not-true _ more.0 }, not-true _ more.1)

none_of : (o : Option Sign) → is_some o ≡ false → o ≡ None
none_of None none = refl
none_of (Some s) none = absurd (false≢true (sym none))

-- one byte, before the end or a space
one_at_end : (at b : ℕ) (s : Sign) → begins_sign b ≡ true → sign_spelled (b ∷ []) ≡ Some s → front_at at (b ∷ []) ≡ Ok (token (kinds.Sign s) 1)
one_at_end at b s begins own =
    let other = is_other b [] begins in
    front_is_token at (b ∷ []) other.1 (and_right (eqb 47 b) false refl) (and_right (eqb 47 b) false refl)
    ∙ sign_of_one at (b ∷ []) s other.0 (λ more. absurd (omega arith)) own

one_before_space : (at b : ℕ) (bs : List ℕ) (s : Sign) → begins_sign b ≡ true → is_some (sign_spelled (b ∷ 32 ∷ [])) ≡ false → sign_spelled (b ∷ []) ≡ Some s
    → front_at at (b ∷ 32 ∷ bs) ≡ Ok (token (kinds.Sign s) 1)
one_before_space at b bs s begins alone own =
    let other = is_other b (32 ∷ bs) begins in
    front_is_token at (b ∷ 32 ∷ bs) other.1 (and_right (eqb 47 b) false refl) (and_right (eqb 47 b) false refl)
    ∙ sign_of_one at (b ∷ 32 ∷ bs) s other.0 (λ more. none_of (sign_spelled (b ∷ 32 ∷ [])) alone) own

-- two bytes
two : (at b c : ℕ) (bs : List ℕ) (s : Sign) → is_plain_sign (b ∷ c ∷ []) ≡ true → sign_spelled (b ∷ c ∷ []) ≡ Some s → front_at at (b ∷ c ∷ bs) ≡ Ok (token (kinds.Sign s) 2)
two at b c bs s plain own =
    let parts = and_parts (begins_sign b) _ plain in
    let closed = and_parts _ _ parts.1 in
    let other = is_other b (c ∷ bs) parts.0 in
    front_is_token at (b ∷ c ∷ bs) other.1 (not-true _ closed.0) (not-true _ closed.1) ∙ sign_of_two at (b ∷ c ∷ bs) s other.0 (omega arith) own

by_bytes : (at : ℕ) (bytes rest : List ℕ) (s : Sign) → is_plain_sign bytes ≡ true → sign_spelled bytes ≡ Some s → is_parted rest ≡ true
    → front_at at (bytes ++ rest) ≡ Ok (token (kinds.Sign s) (length bytes))
by_bytes at [] rest s plain own parted = absurd (false≢true plain)
by_bytes at (b ∷ []) [] s plain own parted = one_at_end at b s (and_parts (begins_sign b) _ plain).0 own
by_bytes at (b ∷ []) (r ∷ rest) s plain own parted =
    let parts = and_parts (begins_sign b) _ plain in
    let space : r ≡ 32 = grind (arith, nat_tests, parted) in
    ap (λ r. front_at at (b ∷ r ∷ rest)) space ∙ one_before_space at b rest s parts.0 (not-true _ parts.1) own
by_bytes at (b ∷ c ∷ []) rest s plain own parted = two at b c rest s plain own
by_bytes at (b ∷ c ∷ d ∷ bs) rest s plain own parted = absurd (false≢true plain)

pub sign_front : (at : ℕ) (s : Sign) (rest : List ℕ) → is_parted rest ≡ true → front_at at (sign_spelling s ++ rest) ≡ Ok (token (kinds.Sign s) (length (sign_spelling s)))
sign_front at s rest parted = by_bytes at (sign_spelling s) rest s (sign_is_plain s) (sign_is_own s) parted

pub sign_some : (s : Sign) → 0 < length (sign_spelling s)
sign_some s = some (sign_spelling s) (sign_is_plain s)
  where
    some : (bytes : List ℕ) → is_plain_sign bytes ≡ true → 0 < length bytes
    some [] plain = absurd (false≢true plain)
    some (b ∷ bs) plain = omega arith
