-- The tokens of a text, front by front, as the loop takes them.
use Rattle.std.proofs.Common.{◌≡◌, ℕ, zero, suc, ◌+◌, ◌-◌, ◌<◌, ◌≤◌, List, [], ◌∷◌, ◌++◌, length, drop, None, Some, Result, Ok, Err, refl, sym, ap, ◌∙◌, append_assoc, arith}
use Rattle.std.proofs.lemmas.List.{append-nil, drop-drop, drop_all, length-drop}
use Rattle.c_token.specs.declared.kinds.TokenError.{TokenError}
use Rattle.c_token.specs.declared.kinds.Kind.{Kind}
use Rattle.c_token.specs.declared.kinds.Token.{Token}
use Rattle.c_token.specs.declared.front.Front.{Front}
use Rattle.c_token.specs.TextTokens.{front_at, put_before, front_then, tokens_from}

-- the tokens so far, and those that follow
abbrev pub joined : List Token → Result (List Token) TokenError → Result (List Token) TokenError
joined tokens (Ok more) = Ok (tokens ++ more)
joined tokens (Err error) = Err error

-- the bytes that belong to the front are passed over
passed : (at left : ℕ) (text : List ℕ) → left ≤ length text → tokens_from at left text ≡ tokens_from (at + left) 0 (drop left text)
unfolding tokens_from
passed at zero text le = ap (λ n. tokens_from n 0 text) (let none : at ≡ at + 0 = omega arith in none)
passed at (suc left) [] le = absurd (omega arith)
passed at (suc left) (b ∷ bs) le =
    passed (at + 1) left bs (omega arith) ∙ ap (λ n. tokens_from n 0 (drop left bs)) (let sum : at + 1 + left ≡ at + suc left = omega arith in sum)

-- one front
pub front_first : (at : ℕ) (text : List ℕ) (front : Front) → 0 < front.len → front.len ≤ length text → front_at at text ≡ Ok front
    → tokens_from at 0 text ≡ put_before at front.kind (tokens_from (at + front.len) 0 (drop front.len text))
unfolding tokens_from front_then
front_first at [] front pos le found = absurd (omega arith)
front_first at (b ∷ bs) front pos le found =
    ap (front_then at (λ left. tokens_from (at + 1) left bs)) found
    ∙ ap (put_before at front.kind) (beyond (front.len) pos le)
  where
    beyond : (n : ℕ) → 0 < n → n ≤ suc (length bs) → tokens_from (at + 1) (n - 1) bs ≡ tokens_from (at + n) 0 (drop n (b ∷ bs))
    beyond zero pos le = absurd (omega arith)
    beyond (suc n) pos le =
        let pred : suc n - 1 ≡ n = omega arith in
        ap (λ left. tokens_from (at + 1) left bs) pred
        ∙ passed (at + 1) n bs (omega arith)
        ∙ ap (λ m. tokens_from m 0 (drop n bs)) (let sum : at + 1 + n ≡ at + suc n = omega arith in sum)

pub put_before-none : (at : ℕ) (rest : Result (List Token) TokenError) → put_before at None rest ≡ rest
unfolding put_before
put_before-none at (Ok tokens) = refl
put_before-none at (Err error) = refl

joined-put_before : (tokens : List Token) (at : ℕ) (kind : Kind) (rest : Result (List Token) TokenError)
    → joined tokens (put_before at (Some kind) rest) ≡ joined (tokens ++ record { kind = kind; at = at } ∷ []) rest
unfolding put_before
joined-put_before tokens at kind (Ok more) = ap (λ (tokens : List Token). Ok tokens) (simp append_assoc)
joined-put_before tokens at kind (Err error) = refl

-- a fault
first_fault : (at : ℕ) (text : List ℕ) (error : TokenError) → 0 < length text → front_at at text ≡ Err error → tokens_from at 0 text ≡ Err error
unfolding tokens_from front_then
first_fault at [] error some found = absurd (omega arith)
first_fault at (b ∷ bs) error some found = ap (front_then at (λ left. tokens_from (at + 1) left bs)) found

-- nothing before
pub joined-nil : (rest : Result (List Token) TokenError) → joined [] rest ≡ rest
joined-nil (Ok more) = refl
joined-nil (Err error) = refl

module _ (text : List ℕ) (at : ℕ) (tokens : List Token) (told : joined tokens (tokens_from at 0 (drop at text)) ≡ tokens_from 0 0 text) where
  -- after a blank or a comment
  pub told_after_gap : (front : Front) → 0 < front.len → front.len ≤ length (drop at text) → front_at at (drop at text) ≡ Ok front → front.kind ≡ None
      → joined tokens (tokens_from (at + front.len) 0 (drop (at + front.len) text)) ≡ tokens_from 0 0 text
  told_after_gap front pos le found none =
      sym (ap (joined tokens) (front_first at (drop at text) front pos le found
      ∙ ap (λ o. put_before at o (tokens_from (at + front.len) 0 (drop front.len (drop at text)))) none
      ∙ put_before-none at _
      ∙ ap (tokens_from (at + front.len) 0) (drop-drop front.len at text))) ∙ told

  -- after a token
  pub told_after_token : (front : Front) (kind : Kind) → 0 < front.len → front.len ≤ length (drop at text) → front_at at (drop at text) ≡ Ok front → front.kind ≡ Some kind
      → joined (tokens ++ record { kind = kind; at = at } ∷ []) (tokens_from (at + front.len) 0 (drop (at + front.len) text)) ≡ tokens_from 0 0 text
  told_after_token front kind pos le found some =
      sym (ap (joined tokens) (front_first at (drop at text) front pos le found
      ∙ ap (λ o. put_before at o (tokens_from (at + front.len) 0 (drop front.len (drop at text)))) some
      ∙ ap (λ rest. put_before at (Some kind) (tokens_from (at + front.len) 0 rest)) (drop-drop front.len at text))
      ∙ joined-put_before tokens at kind _) ∙ told

  -- at a fault
  pub told_fault : (error : TokenError) → at < length text → front_at at (drop at text) ≡ Err error → tokens_from 0 0 text ≡ Err error
  told_fault error lt found = sym told ∙ ap (joined tokens) (first_fault at (drop at text) error (omega (arith, length-drop at text)) found)

  -- at the end
  pub told_end : length text ≤ at → tokens_from 0 0 text ≡ Ok tokens
  unfolding tokens_from
  told_end le = sym told ∙ ap (λ rest. joined tokens (tokens_from at 0 rest)) (drop_all at text le) ∙ ap (λ (tokens : List Token). Ok tokens) (append-nil tokens)
