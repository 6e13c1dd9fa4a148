-- Each token of a text starts inside it.
use Rattle.std.proofs.Common.{◌≡◌, ℕ, zero, suc, ◌+◌, ◌-◌, ◌<◌, ◌≤◌, List, [], ◌∷◌, length, Option, Some, None, Result, Ok, Err, refl, sym, subst, get_or, arith}
use Rattle.std.specs.Prelude.{slice_get}
use Rattle.c_token.specs.declared.front.Front.{Front}
use Rattle.c_token.specs.declared.kinds.Kind.{Kind}
use Rattle.c_token.specs.declared.kinds.Token.{Token}
use Rattle.c_token.specs.declared.kinds.TokenError.{TokenError}
use Rattle.c_token.specs.TextTokens.{front_at, front_then, put_before, tokens_from, tokens_of}

-- each token starts before this place
abbrev StartBelow : ℕ → List Token → Type 0
StartBelow limit [] = Unit {0}
StartBelow limit (token ∷ tokens) = (token.at < limit) × StartBelow limit tokens

abbrev AnswerBelow : ℕ → Result (List Token) TokenError → Type 0
AnswerBelow limit (Ok tokens) = StartBelow limit tokens
AnswerBelow limit (Err error) = Unit {0}

put-below : (limit at : ℕ) (kind : Option Kind) (rest : Result (List Token) TokenError) → at < limit → AnswerBelow limit rest → AnswerBelow limit (put_before at kind rest)
unfolding put_before
put-below limit at kind (Err error) inside below = tt
put-below limit at None (Ok tokens) inside below = below
put-below limit at (Some kind) (Ok tokens) inside below = (inside, below)

then-below : (limit at : ℕ) (rest : ℕ → Result (List Token) TokenError) (front : Result Front TokenError) → at < limit → ((left : ℕ) → AnswerBelow limit (rest left))
    → AnswerBelow limit (front_then at rest front)
unfolding front_then
then-below limit at rest (Err error) inside below = tt
then-below limit at rest (Ok front) inside below = put-below limit at front.kind (rest (front.len - 1)) inside (below (front.len - 1))

from-below : (limit at left : ℕ) (text : List ℕ) → at + length text ≡ limit → AnswerBelow limit (tokens_from at left text)
unfolding tokens_from
from-below limit at left [] ends = tt
from-below limit at (suc left) (b ∷ bs) ends = from-below limit (at + 1) left bs (omega arith)
from-below limit at zero (b ∷ bs) ends =
    then-below limit at (λ left. tokens_from (at + 1) left bs) (front_at at (b ∷ bs)) (omega arith)
    (λ left. from-below limit (at + 1) left bs (omega arith))

below-get : (limit : ℕ) (tokens : List Token) (number : ℕ) (other : Token) → StartBelow limit tokens → number < length tokens → (get_or tokens number other).at < limit
below-get limit [] number other below within = absurd (omega arith)
below-get limit (first ∷ tokens) zero other below within = below.0
below-get limit (first ∷ tokens) (suc number) other below within = below-get limit tokens number other below.1 (omega arith)

pub token-inside : (text : List ℕ) (tokens : List Token) (number : ℕ) (token : Token) → tokens_of text ≡ Ok tokens → number < length tokens → token ≡ get_or tokens number token → token.at < length text
unfolding tokens_of
token-inside text tokens number token read within is =
    let below = below-get (length text) tokens number token (subst (AnswerBelow (length text)) read (from-below (length text) 0 0 text (omega arith))) within in
    subst (λ (t : Token). t.at < length text) (sym is) below

-- no token has a number above theirs
pub get-past : (tokens : List Token) (number : ℕ) → length tokens ≤ number → slice_get tokens number ≡ None
get-past [] number past = refl
get-past (token ∷ tokens) zero past = absurd (omega arith)
get-past (token ∷ tokens) (suc number) past = get-past tokens number (omega arith)
