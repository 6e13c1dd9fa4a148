-- Lists of the grammar are read, or nest too deep.
use Rattle.std.proofs.Common.{◌≡◌, ℕ, Bool, true, false, List, [], ◌∷◌, ◌++◌, refl, sym, ap, ◌∙◌, subst}
use Rattle.c_token.specs.declared.signs.Sign.TheVariants as signs
use Rattle.c_grammar.specs.BoundedTokens as g
use Rattle.c_grammar.specs.BoundedTokens.{Tok, Spot, Bounded, tok_of, toks_of}
use Rattle.c_descent.proofs.ListParser.{done, Parser, follow, is_at_sign, sign_token, all, after_comma, separated}
use Rattle.c_descent.proofs.Holds.{Alike, Always, Full, Takes, Seq, seq, Mapped, mapped, Many, none_left, one_more, is_sign}
use Rattle.c_descent.proofs.Lists.{Comma, all_turn, turn, after_one, head_sign, comma_takes, comma_always}
use Rattle.c_descent.proofs.Comes.{To, arrives, Goes, step, map_to, put-append, sign_goes}

module _ (limit : ℕ) {A : Type 0} (follows : List Tok → Bool) {p : Parser A} {R : List Bounded → A → Type 0}
    (head : (s t : List Tok) → Alike s t → follows s ≡ follows t) (always : Always limit p R) (takes : Takes R)
    (Next : List Tok → Type 0)
    (begins : (ts : List Bounded) (x : A) (s : List Tok) → R ts x → follows (toks_of ts ++ s) ≡ true)
    (next : (ts : List Bounded) (x : A) (s : List Tok) → R ts x → Next (toks_of ts ++ s))
    (reads : (ts : List Bounded) (x : A) (s : List Tok) → R ts x → Next s → Goes limit p ts s x) where
  all_next : (ts : List Bounded) (xs : List A) (rest : List Tok) → Many R ts xs → Next rest → Next (toks_of ts ++ rest)
  all_next _ _ rest none_left n = n
  all_next _ _ rest (one_more {x} ts us r m) n = subst (λ s. Next s) (sym (put-append ts us rest)) (next ts x (toks_of us ++ rest) r)

  here : (s : List Tok) → follows s ≡ true → all follows p s ≡ follow (p s) (after_one limit follows head always takes)
  unfolding turn
  here s e = all_turn limit follows head always takes s ∙ ap (λ b. turn limit follows head always takes b (after_one limit follows head always takes) s) e

  nowhere : (s : List Tok) → follows s ≡ false → all follows p s ≡ done [] s
  unfolding turn
  nowhere s e = all_turn limit follows head always takes s ∙ ap (λ b. turn limit follows head always takes b (after_one limit follows head always takes) s) e

  pub all_reads : (ts : List Bounded) (xs : List A) (rest : List Tok) → Many R ts xs → Next rest → follows rest ≡ false → Goes limit (all follows p) ts rest xs
  unfolding after_one
  all_reads _ _ rest none_left n e = subst (λ o. To limit [] rest (done [] rest) o) (sym (nowhere rest e)) arrives
  all_reads _ _ rest (one_more {x} {xs} ts us r m) n e =
      subst (λ o. To limit (ts ++ us) rest (done (x ∷ xs) rest) o) (sym (here (toks_of (ts ++ us) ++ rest)
      (ap follows (put-append ts us rest) ∙ begins ts x (toks_of us ++ rest) r)))
      (step limit p (after_one limit follows head always takes) ts us (reads ts x (toks_of us ++ rest) r (all_next us xs rest m n))
      (map_to limit (λ xs. x ∷ xs) (all_reads us xs rest m n e)))

-- with commas between them
module _ (limit : ℕ) {A : Type 0} {p : Parser A} {R : List Bounded → A → Type 0} (always : Always limit p R) (full : Full R)
    (Next : List Tok → Type 0)
    (comma : (at : Spot) (s : List Tok) → Next (tok_of (g.sign at signs.Comma) ∷ s))
    (reads : (ts : List Bounded) (x : A) (s : List Tok) → R ts x → Next s → Goes limit p ts s x) where
  comma_begins : (ts : List Bounded) (x : A) (s : List Tok) → Comma R ts x → is_at_sign signs.Comma (toks_of ts ++ s) ≡ true
  unfolding is_at_sign
  comma_begins _ x s (seq _ us (is_sign at) r) = refl

  comma_next : (ts : List Bounded) (x : A) (s : List Tok) → Comma R ts x → Next (toks_of ts ++ s)
  comma_next _ x s (seq _ us (is_sign at) r) = comma at (toks_of us ++ s)

  comma_reads : (ts : List Bounded) (x : A) (s : List Tok) → Comma R ts x → Next s → Goes limit (after_comma p) ts s x
  unfolding after_comma
  comma_reads _ x s (seq _ us (is_sign at) r) n = step limit (sign_token signs.Comma) (λ _. p) (g.sign at signs.Comma ∷ []) us
      (sign_goes limit signs.Comma at (toks_of us ++ s)) (reads us x s r n)

  after_first : (ts : List Bounded) (xs : List A) (rest : List Tok) → Many (Comma R) ts xs → Next rest → Next (toks_of ts ++ rest)
  after_first _ _ rest none_left n = n
  after_first _ _ rest (one_more {x} ts us r m) n = subst (λ s. Next s) (sym (put-append ts us rest)) (comma_next ts x (toks_of us ++ rest) r)

  pub separated_reads : (ts : List Bounded) (xs : List A) (rest : List Tok) → Seq R (λ x. Mapped (Many (Comma R)) (λ xs. x ∷ xs)) ts xs
      → Next rest → is_at_sign signs.Comma rest ≡ false → Goes limit (separated p) ts rest xs
  unfolding separated
  separated_reads _ zs rest (seq {y = x} ts us r (mapped xs m q)) n e =
      subst (λ zs. To limit (ts ++ us) rest (done zs rest) (separated p (toks_of (ts ++ us) ++ rest))) (sym q)
      (step limit p _ ts us (reads ts x (toks_of us ++ rest) r (after_first us xs rest m n))
      (map_to limit (λ xs. x ∷ xs)
      (all_reads limit (is_at_sign signs.Comma) (head_sign signs.Comma) (comma_always limit always full) (comma_takes limit always full)
      Next comma_begins comma_next comma_reads us xs rest m n e)))
