-- Lists of parts, one after another.
use Rattle.std.proofs.Common.{◌≡◌, ℕ, zero, suc, ◌<◌, length, Bool, true, false, cond, List, [], ◌∷◌, ◌++◌, refl, sym, ap, ◌∙◌, subst, arith, append-nil}
use Rattle.c_token.specs.declared.signs.Sign.{Sign}
use Rattle.c_token.specs.declared.signs.Sign.TheVariants as signs
use Rattle.c_token.specs.declared.words.Word.{Word}
use Rattle.c_grammar.specs.BoundedTokens as g
use Rattle.c_grammar.specs.BoundedTokens.{Tok, Spot, Bounded, tok_of, bounded, bounded_all}
use Rattle.c_descent.proofs.ListParser.{ParseOutcome, done, stop, Parser, follow, ◌>>=◌, gives, is_some_sign, is_some_word, is_at_sign, is_at_word, prepend, many, all, after_comma, separated}
use Rattle.c_descent.proofs.Holds.{Seq, seq, Mapped, mapped, Alike, Holds, Always, Full, mono, bind, bind_known, mapping, mapped_at, same_parser, dispatch, head_kind, Nothing, nothing, giving, IsSign, is_sign, signing, Many, none_left, one_more, Takes, strict}

pub head_sign : (x : Sign) (s t : List Tok) → Alike s t → is_at_sign x s ≡ is_at_sign x t
unfolding is_at_sign
head_sign x s t a = ap (is_some_sign x) (head_kind s t a)

pub head_word : (x : Word) (s t : List Tok) → Alike s t → is_at_word x s ≡ is_at_word x t
unfolding is_at_word
head_word x s t a = ap (is_some_word x) (head_kind s t a)

module _ (limit : ℕ) {A : Type 0} (follows : List Tok → Bool) {p : Parser A} {R : List Bounded → A → Type 0}
    (head : (s t : List Tok) → Alike s t → follows s ≡ follows t) (always : Always limit p R) (takes : Takes R) where
  -- the first part, where one follows, and those after it
  unfoldable pub turn : Bool → (A → Parser (List A)) → Parser (List A)
  turn true rest = p >>= rest
  turn false rest = gives []

  with_rest : ℕ → A → Parser (List A)
  with_rest n x left = prepend (x ∷ []) (many n follows p left)

  many_turn : (n : ℕ) (s : List Tok) → many (suc n) follows p s ≡ turn (follows s) (with_rest n) s
  unfolding many turn with_rest
  many_turn n s = go (follows s)
    where
      go : (b : Bool) → cond b (follow (p s) (λ x left. prepend (x ∷ []) (many n follows p left))) (done [] s) ≡ turn b (with_rest n) s
      go true = refl
      go false = refl

  Agree : ℕ → ℕ → Type 0
  Agree n m = (left : List Tok) → length left < n → length left < m → many n follows p left ≡ many m follows p left

  rests : (n m : ℕ) (s : List Tok) → length s < suc n → length s < suc m → Agree n m → (o : ParseOutcome A) → p s ≡ o
      → follow o (with_rest n) ≡ follow o (with_rest m)
  unfolding with_rest Agree
  rests n m s a b k (done x left) e = ap (prepend (x ∷ []))
      (k left (omega (arith, strict limit takes always s x left e, a)) (omega (arith, strict limit takes always s x left e, b)))
  rests n m s a b k (stop reason left) e = refl

  turns : (n m : ℕ) (s : List Tok) → length s < suc n → length s < suc m → Agree n m → (b : Bool) → turn b (with_rest n) s ≡ turn b (with_rest m) s
  unfolding turn
  turns n m s a b k true = rests n m s a b k (p s) refl
  turns n m s a b k false = refl

  -- enough turns are enough
  enough : (n m : ℕ) → Agree n m
  unfolding Agree
  enough zero m s a b = absurd (omega (arith, a))
  enough (suc n) zero s a b = absurd (omega (arith, b))
  enough (suc n) (suc m) s a b = many_turn n s ∙ turns n m s a b (enough n m) (follows s) ∙ sym (many_turn m s)

  -- the whole list, as its first part and the rest
  unfoldable pub after_one : A → Parser (List A)
  after_one x left = follow (all follows p left) (λ xs. gives (x ∷ xs))

  prepended : (x : A) (o : ParseOutcome (List A)) → prepend (x ∷ []) o ≡ follow o (λ xs. gives (x ∷ xs))
  prepended x (done xs left) = refl
  prepended x (stop reason left) = refl

  all_rest : (s : List Tok) (o : ParseOutcome A) → p s ≡ o → follow o (with_rest (length s)) ≡ follow o after_one
  unfolding with_rest after_one all Agree
  all_rest s (done x left) e = ap (prepend (x ∷ [])) (enough (length s) (suc (length left)) left (strict limit takes always s x left e) (omega arith))
      ∙ prepended x (many (suc (length left)) follows p left)
  all_rest s (stop reason left) e = refl

  all_turned : (s : List Tok) (b : Bool) → turn b (with_rest (length s)) s ≡ turn b after_one s
  unfolding turn
  all_turned s true = all_rest s (p s) refl
  all_turned s false = refl

  pub all_turn : (s : List Tok) → all follows p s ≡ turn (follows s) after_one s
  unfolding all
  all_turn s = many_turn (length s) s ∙ all_turned s (follows s)

  -- the relation of a list
  Onward : A → List Bounded → List A → Type 0
  Onward x = Mapped (Many R) (λ xs. x ∷ xs)

  onward_full : (x : A) → Full (Onward x)
  unfolding Onward
  onward_full x = ([], x ∷ [], mapped [] none_left refl)

  put_before : {x : A} {zs : List A} (ts us : List Bounded) → R ts x → Onward x us zs → Many R (ts ++ us) zs
  unfolding Onward
  put_before {x} ts us r (mapped xs m e) = subst (λ zs. Many R (ts ++ us) zs) (sym e) (one_more ts us r m)

  joined : (ts : List Bounded) (xs : List A) → Seq R Onward ts xs → Many R ts xs
  joined _ _ (seq ts us r b) = put_before ts us r b

  empty : (ts : List Bounded) (xs : List A) → Nothing [] ts xs → Many R ts xs
  empty _ _ nothing = none_left

  Upto : ℕ → Type 0
  Upto n = (s : List Tok) → length s < n → Holds limit (all follows p) (Many R) s (all follows p s)

  known : (n : ℕ) → Upto n → (s : List Tok) → length s < suc n → (x : A) (rest : List Tok) → p s ≡ done x rest
      → Holds limit (after_one x) (Onward x) rest (after_one x rest)
  unfolding after_one Onward Upto
  known n k s l x rest e = mapped_at limit (λ xs. x ∷ xs) (k rest (omega (arith, strict limit takes always s x rest e, l)))

  each : (n : ℕ) → Upto n → (s : List Tok) → length s < suc n → (b : Bool) → Holds limit (turn b after_one) (Many R) s (turn b after_one s)
  unfolding turn
  each n k s l true = mono limit joined (bind_known limit after_one s (p s) refl onward_full (always s) (known n k s l))
  each n k s l false = mono limit empty (giving limit [] s)

  listing_upto : (n : ℕ) → Upto n
  unfolding Upto
  listing_upto zero s l = absurd (omega (arith, l))
  listing_upto (suc n) s l = subst (λ o. Holds limit (all follows p) (Many R) s o) (sym (all_turn s))
      (same_parser limit {p = λ t. turn (follows t) after_one t} all_turn
      (dispatch limit follows (λ b. turn b after_one) head s (λ b e. each n (listing_upto n) s l b)))

  pub listing : Always limit (all follows p) (Many R)
  unfolding Upto
  listing s = listing_upto (suc (length s)) s (omega arith)

-- a comma before it
abbrev pub Comma : {A : Type 0} → (List Bounded → A → Type 0) → List Bounded → A → Type 0
Comma R = Seq (IsSign signs.Comma) (λ _. R)

-- one or more, with commas between them
module _ (limit : ℕ) {A : Type 0} {p : Parser A} {R : List Bounded → A → Type 0} (always : Always limit p R) (full : Full R) where
  pub comma_takes : Takes (Comma R)
  comma_takes _ _ (seq ts us (is_sign at) r) = omega arith

  pub comma_always : Always limit (after_comma p) (Comma R)
  unfolding after_comma
  comma_always = bind limit (λ _. p) (λ _. full) (signing limit signs.Comma) (λ _. always)

  pub separating : Always limit (separated p) (Seq R (λ x. Mapped (Many (Comma R)) (λ xs. x ∷ xs)))
  unfolding separated
  separating = bind limit _ (λ x. ([], x ∷ [], mapped [] none_left refl)) always
      (λ x. mapping limit (λ xs. x ∷ xs) (listing limit (is_at_sign signs.Comma) (head_sign signs.Comma) comma_always comma_takes))

-- what they make, where a list of them is made so
module _ {A : Type 0} {R : List Bounded → A → Type 0} (L : List Bounded → List A → Type 0)
    (one : (ts : List Bounded) (x : A) → R ts x → L ts (x ∷ []))
    (further : (ts us : List Bounded) (x : A) (xs : List A) (comma : Spot) → R ts x → L us xs
    → L (ts ++ g.sign comma signs.Comma ∷ us) (x ∷ xs)) where
  others : (ts : List Bounded) (x : A) → R ts x → (us : List Bounded) (xs : List A) → Many (Comma R) us xs → L (ts ++ us) (x ∷ xs)
  others ts x r _ _ none_left = subst (λ vs. L vs (x ∷ [])) (sym (append-nil ts)) (one ts x r)
  others ts x r _ _ (one_more {x = y} {xs} _ ws (seq _ d (is_sign comma) q) m) = further ts (d ++ ws) x (y ∷ xs) comma r (others d y q ws xs m)

  pub separated_made : (ts : List Bounded) (xs : List A) → Seq R (λ x. Mapped (Many (Comma R)) (λ xs. x ∷ xs)) ts xs → L ts xs
  separated_made _ zs (seq {y} ts us r (mapped xs m e)) = subst (λ zs. L (ts ++ us) zs) (sym e) (others ts y r us xs m)
