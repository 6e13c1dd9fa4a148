-- Each token of a text is in form.
use Rattle.std.proofs.Common.{◌≡◌, ℕ, zero, suc, ◌+◌, ◌-◌, Bool, true, false, ◌||◌, List, [], ◌∷◌, length, take, drop, ltb, leb, Option, None, Some, Result, Ok, Err, refl, subst, arith}
use Rattle.std.specs.Prelude.{option_map, nat_eq, codes}
use Rattle.std.specs.List.{list_all, starts_with}
use Rattle.std.proofs.lemmas.Bool.{cond_both, and_from, le-leb, ltb-false}
use Rattle.std.proofs.lemmas.Bool.Decides.{nat_tests}
use Rattle.c_token.specs.declared.words.Word.{Word}
use Rattle.c_token.specs.declared.signs.Sign.{Sign}
use Rattle.c_token.specs.declared.kinds.TokenError.{TokenError}
use Rattle.c_token.specs.declared.kinds.Kind.{Kind}
use Rattle.c_token.specs.declared.kinds.Kind.TheVariants as kinds
use Rattle.c_token.specs.declared.kinds.Token.{Token}
use Rattle.c_token.specs.WordSpelling.{word_spelled}
use Rattle.c_token.specs.SignSpelling.{sign_spelled}
use Rattle.c_token.specs.TokenSpelling.{is_name_byte, is_name, is_decimal, is_hexadecimal, number_with, word_or_name, spelled, is_token}
use Rattle.c_token.specs.declared.front.Front.{Front}
use Rattle.c_token.specs.TextTokens.{is_blank, begins_with, close_of, has_leading_zero, longest, block_comment, judged, token_of_len, front_at, put_before, front_then, tokens_from, tokens_of}
use Rattle.c_token.specs.PlainText.{is_in_form, kinds_of, TokensAreInForm}

-- the token of a front, if any
abbrev is_front_in_form : Option Kind → Bool
is_front_in_form None = true
is_front_in_form (Some kind) = is_in_form kind

abbrev FrontInForm : Result Front TokenError → Type 0
FrontInForm (Ok front) = is_front_in_form front.kind ≡ true
FrontInForm (Err error) = Unit {0}

abbrev AllInForm : Result (List Token) TokenError → Type 0
AllInForm (Ok tokens) = list_all is_in_form (kinds_of tokens) ≡ true
AllInForm (Err error) = Unit {0}

-- what bytes spell
module _ (at : ℕ) (bytes rest : List ℕ) where
  abbrev IsJudgedInForm : Option Kind → Type 0
  IsJudgedInForm kind = FrontInForm (judged at bytes rest kind)

  word_or_name_form : (o : Option Word) → word_spelled bytes ≡ o → is_name bytes ≡ true → IsJudgedInForm (Some (word_or_name o bytes))
  unfolding judged
  word_or_name_form (Some w) found is = refl
  word_or_name_form None found is =
      cond_both (ltb 31 (length bytes)) _ _ FrontInForm
      (λ above. tt)
      (λ within. and_from _ _ is (and_from _ _ (rw found refl) (le-leb _ _ (ltb-false _ _ within))))

  number_form : (value : ℕ) (suffixed : Bool) → IsJudgedInForm (Some (number_with value suffixed))
  unfolding judged
  number_form value suffixed =
      cond_both (has_leading_zero bytes || begins_with is_name_byte rest) _ _ FrontInForm
      (λ bad. tt)
      (λ fine. cond_both (ltb 4294967295 value) _ _ FrontInForm (λ big. tt) (λ small. and_from _ _ (le-leb _ _ (ltb-false _ _ small)) (flag suffixed)))
    where
      flag : (suffixed : Bool) → ((suffixed || ltb 2147483647 value) || leb value 2147483647) ≡ true
      flag true = refl
      flag false = grind (arith, nat_tests)

  sign_form : (o : Option Sign) → IsJudgedInForm (option_map (λ s. kinds.Sign s) o)
  unfolding judged
  sign_form None = tt
  sign_form (Some s) = refl

  judged_form : IsJudgedInForm (spelled bytes)
  judged_form =
      cond_both (is_name bytes) _ _ IsJudgedInForm
      (λ is. word_or_name_form (word_spelled bytes) refl is)
      (λ _. cond_both (is_decimal bytes) _ _ IsJudgedInForm
      (λ _. number_form _ _)
      (λ _. cond_both (is_hexadecimal bytes) _ _ IsJudgedInForm
      (λ _. number_form _ _)
      (λ _. sign_form (sign_spelled bytes))))

comment_form : (at : ℕ) (o : Option ℕ) → FrontInForm (block_comment at o)
unfolding block_comment
comment_form at None = tt
comment_form at (Some n) = refl

front_form : (at : ℕ) (text : List ℕ) → FrontInForm (front_at at text)
unfolding front_at token_of_len
front_form at text =
    cond_both (begins_with is_blank text) _ _ FrontInForm
    (λ _. refl)
    (λ _. cond_both (starts_with nat_eq text (codes "/*")) _ _ FrontInForm
    (λ _. comment_form at (close_of (drop 2 text)))
    (λ _. cond_both (starts_with nat_eq text (codes "//")) _ _ FrontInForm
    (λ _. refl)
    (λ _. judged_form at (take (longest is_token text) text) (drop (longest is_token text) text))))

-- one after another
put_form : (at : ℕ) (kind : Option Kind) (rest : Result (List Token) TokenError) → is_front_in_form kind ≡ true → AllInForm rest → AllInForm (put_before at kind rest)
unfolding put_before
put_form at kind (Err error) form all = tt
put_form at None (Ok tokens) form all = all
put_form at (Some kind) (Ok tokens) form all = and_from _ _ form all

then_form : (at : ℕ) (rest : ℕ → Result (List Token) TokenError) (front : Result Front TokenError) → ((left : ℕ) → AllInForm (rest left)) → FrontInForm front → AllInForm (front_then at rest front)
unfolding front_then
then_form at rest (Err error) all form = tt
then_form at rest (Ok front) all form = put_form at front.kind (rest (front.len - 1)) form (all (front.len - 1))

from_form : (at left : ℕ) (text : List ℕ) → AllInForm (tokens_from at left text)
unfolding tokens_from
from_form at left [] = refl
from_form at (suc left) (b ∷ bs) = from_form (at + 1) left bs
from_form at zero (b ∷ bs) = then_form at (λ left. tokens_from (at + 1) left bs) (front_at at (b ∷ bs)) (λ left. from_form (at + 1) left bs) (front_form at (b ∷ bs))

pub are_in_form : TokensAreInForm
unfolding tokens_of
are_in_form text tokens read = subst AllInForm read (from_form 0 0 text)
