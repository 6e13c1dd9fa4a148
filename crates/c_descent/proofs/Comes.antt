-- What the grammar has is read, or reading stops at a token that nests too deep.
use Rattle.std.proofs.Common.{◌≡◌, ℕ, ◌<◌, Bool, true, List, [], ◌∷◌, ◌++◌, sym, ap, ◌∙◌, subst, arith, append_assoc}
use Rattle.std.proofs.lemmas.List.{map-append}
use Rattle.c_token.specs.declared.signs.Sign.{Sign}
use Rattle.c_token.specs.declared.words.Word.{Word}
use Rattle.c_grammar.specs.BoundedTokens as g
use Rattle.c_grammar.specs.BoundedTokens.{Tok, Spot, Bounded, tok_of, toks_of}
use Rattle.c_descent.proofs.ListParser.{deep, ParseOutcome, done, stop, Parser, follow, gives, is_at_sign, is_at_word, passed, sign_token, word_token, name_token, number_token}
use Rattle.c_token.specs.contracts.signs.SignPartialEq.TheImpl as sign_eq
use Rattle.c_token.specs.contracts.words.WordPartialEq.TheImpl as word_eq

-- the outcome, unless a token among these nests too deep
pub data To (limit : ℕ) {A : Type 0} (ts : List Bounded) (rest : List Tok) (end : ParseOutcome A) : ParseOutcome A → Type 0 where
  arrives : To limit ts rest end end
  late : (before : List Bounded) (t : Bounded) (after : List Bounded) → ts ≡ before ++ t ∷ after → limit < t.spot.bound
      → To limit ts rest end (stop deep (tok_of t ∷ toks_of after ++ rest))

pub put-append : (ts us : List Bounded) (rest : List Tok) → toks_of (ts ++ us) ++ rest ≡ toks_of ts ++ (toks_of us ++ rest)
put-append ts us rest = ap (λ s. s ++ rest) (map-append tok_of ts us) ∙ append_assoc (toks_of ts) (toks_of us) rest

module _ (limit : ℕ) where
  abbrev pub Goes : {A : Type 0} → Parser A → List Bounded → List Tok → A → Type 0
  Goes p ts rest x = To limit ts rest (done x rest) (p (toks_of ts ++ rest))

  -- what stands before does not matter
  pub shift : {A : Type 0} (ts : List Bounded) {us : List Bounded} {rest : List Tok} {end o : ParseOutcome A} → To limit us rest end o → To limit (ts ++ us) rest end o
  shift ts arrives = arrives
  shift ts (late before t after e h) = late (ts ++ before) t after (ap (λ us. ts ++ us) e ∙ sym (append_assoc ts before (t ∷ after))) h

  pub onward : {A B : Type 0} (f : A → Parser B) {ts us : List Bounded} {rest : List Tok} {y : A} {end : ParseOutcome B} {o : ParseOutcome A}
      → To limit ts (toks_of us ++ rest) (done y (toks_of us ++ rest)) o → To limit us rest end (f y (toks_of us ++ rest))
      → To limit (ts ++ us) rest end (follow o f)
  onward f {ts} arrives k = shift ts k
  onward f {ts} {us} {rest} {end} (late before t after e h) k =
      subst (λ s. To limit (ts ++ us) rest end (stop deep (tok_of t ∷ s))) (put-append after us rest)
      (late before t (after ++ us) (ap (λ ts. ts ++ us) e ∙ append_assoc before (t ∷ after) us) h)

  pub step : {A B : Type 0} (p : Parser A) (f : A → Parser B) (ts us : List Bounded) {rest : List Tok} {y : A} {end : ParseOutcome B}
      → Goes p ts (toks_of us ++ rest) y → To limit us rest end (f y (toks_of us ++ rest))
      → To limit (ts ++ us) rest end (follow (p (toks_of (ts ++ us) ++ rest)) f)
  step p f ts us {rest} {end} h k = subst (λ s. To limit (ts ++ us) rest end (follow (p s) f)) (sym (put-append ts us rest)) (onward f h k)

  pub map_to : {A B : Type 0} (f : A → B) {ts : List Bounded} {rest left : List Tok} {y : A} {o : ParseOutcome A}
      → To limit ts rest (done y left) o → To limit ts rest (done (f y) left) (follow o (λ y. gives (f y)))
  map_to f arrives = arrives
  map_to f (late before t after e h) = late before t after e h

  pub followed : {A B : Type 0} (f : A → Parser B) {ts : List Bounded} {rest left : List Tok} {y : A} {o : ParseOutcome A}
      → To limit ts rest (done y left) o → To limit ts rest (f y left) (follow o f)
  followed f arrives = arrives
  followed f (late before t after e h) = late before t after e h

  pub linked : {B : Type 0} {ts us : List Bounded} {rest : List Tok} {between end o : ParseOutcome B}
      → To limit ts (toks_of us ++ rest) between o → To limit us rest end between → To limit (ts ++ us) rest end o
  linked {ts} arrives k = shift ts k
  linked {B} {ts} {us} {rest} {between} {end} (late before t after e h) k =
      subst (λ s. To limit (ts ++ us) rest end (stop deep (tok_of t ∷ s))) (put-append after us rest)
      (late before t (after ++ us) (ap (λ ts. ts ++ us) e ∙ append_assoc before (t ∷ after) us) h)

sign_same : (x : Sign) → (sign_eq.ghosts).eq x x ≡ true
sign_same x = grind arith

word_same : (x : Word) → (word_eq.ghosts).eq x x ≡ true
word_same x = grind arith

pub sign_goes : (limit : ℕ) (x : Sign) (at : Spot) (rest : List Tok) → Goes limit (sign_token x) (g.sign at x ∷ []) rest at.place
unfolding sign_token is_at_sign
sign_goes limit x at rest = subst (λ b. To limit (g.sign at x ∷ []) rest (done at.place rest) (passed b (tok_of (g.sign at x) ∷ rest))) (sym (sign_same x)) arrives

pub word_goes : (limit : ℕ) (x : Word) (at : Spot) (rest : List Tok) → Goes limit (word_token x) (g.word at x ∷ []) rest at.place
unfolding word_token is_at_word
word_goes limit x at rest = subst (λ b. To limit (g.word at x ∷ []) rest (done at.place rest) (passed b (tok_of (g.word at x) ∷ rest))) (sym (word_same x)) arrives

pub name_goes : (limit : ℕ) (text : List ℕ) (at : Spot) (rest : List Tok) → Goes limit name_token (g.name at text ∷ []) rest (record { name = text; token = at.place })
unfolding name_token
name_goes limit text at rest = arrives

pub number_goes : (limit : ℕ) (value : ℕ) (unsigned : Bool) (at : Spot) (rest : List Tok)
    → Goes limit number_token (g.number at value unsigned ∷ []) rest (record { value = value; unsigned = unsigned; token = at.place })
unfolding number_token
number_goes limit value unsigned at rest = arrives
