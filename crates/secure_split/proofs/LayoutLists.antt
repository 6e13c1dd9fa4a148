-- The cells of a layout one at a time, and the cells of variables by the list of owners.
use Rattle.std.proofs.Common.{◌≡◌, ◌∙◌, ap, sym, ℕ, zero, suc, ◌+◌, ◌-◌, ◌<◌, ◌≤◌, Bool, true, false, cond, List, [], ◌∷◌, ◌++◌, length, drop, slice_index, slice_index_or, Option, Some, None, arith, refl, append_assoc, append-nil}
use Rattle.std.specs.Prelude.{slice_get}
use Rattle.regions.specs.declared.rights.Class.{Class}
use Rattle.lowering.specs.Cells.{filled_up, home_from, is_for, nobody, words}
use Rattle.secure_split.specs.SplitViews.{or_beyond}

pub words-sum : (class : Class) (a b : ℕ) → words class (a + b) ≡ words class a ++ words class b
words-sum class zero b = ap (words class) zero-plus
  where
    zero-plus : zero + b ≡ b
    zero-plus = omega arith
words-sum class (suc a) b = ap (words class) suc-plus ∙ ap (λ cells. record { class = class; words = 1; first = [] } ∷ cells) (words-sum class a b)
  where
    suc-plus : suc a + b ≡ suc (a + b)
    suc-plus = omega arith

pub words-at : (class : Class) (n i : ℕ) → i < n → words class (n - i) ≡ record { class = class; words = 1; first = [] } ∷ words class (n - suc i)
words-at class n i below = ap (words class) more
  where
    more : n - i ≡ suc (n - suc i)
    more = omega (arith, below)

pub nobody-at : (n i : ℕ) → i < n → nobody (n - i) ≡ None ∷ nobody (n - suc i)
nobody-at n i below = ap nobody more
  where
    more : n - i ≡ suc (n - suc i)
    more = omega (arith, below)

pub none-left : (n i : ℕ) → n ≤ i → n - i ≡ 0
none-left n i over = omega (arith, over)

pub tokens-at : (ts : List ℕ) (i t : ℕ) → i < length ts → t ≡ slice_index_or ts i 0 → drop i ts ≡ t ∷ drop (suc i) ts
tokens-at [] i t below same = absurd (omega (arith, below))
tokens-at (u ∷ ts) zero t below same = rw same refl
tokens-at (u ∷ ts) (suc i) t below same = tokens-at ts i t (omega (arith, below)) same

pub tokens-end : (ts : List ℕ) (n : ℕ) → length ts ≤ n → drop n ts ≡ []
tokens-end [] zero below = refl
tokens-end [] (suc n) below = refl
tokens-end (u ∷ ts) zero below = absurd (omega (arith, below))
tokens-end (u ∷ ts) (suc n) below = tokens-end ts n (omega (arith, below))

-- ---- words of constants

filled-drop : (n i : ℕ) (first : List ℕ) → filled_up (suc n) (drop i first) ≡ slice_index first i ∷ filled_up n (drop (suc i) first)
filled-drop n zero [] = refl
filled-drop n (suc i) [] = refl
filled-drop n zero (x ∷ first) = refl
filled-drop n (suc i) (x ∷ first) = filled-drop n i first

pub filled-at : (n i : ℕ) (first : List ℕ) → i < n → filled_up (n - i) (drop i first) ≡ slice_index first i ∷ filled_up (n - suc i) (drop (suc i) first)
filled-at n i first below = ap (λ m. filled_up m (drop i first)) more ∙ filled-drop (n - suc i) i first
  where
    more : n - i ≡ suc (n - suc i)
    more = omega (arith, below)

pub filled-end : (n i : ℕ) (first : List ℕ) → n ≤ i → filled_up (n - i) (drop i first) ≡ []
filled-end n i first over = ap (λ m. filled_up m (drop i first)) (none-left n i over)

pub word-none : (xs : List ℕ) (i : ℕ) → slice_get xs i ≡ None → slice_index xs i ≡ 0
word-none [] i e = refl
word-none (x ∷ xs) zero e = absurd (grind (arith, e))
word-none (x ∷ xs) (suc i) e = word-none xs i e

pub word-some : (xs : List ℕ) (i x : ℕ) → slice_get xs i ≡ Some x → slice_index xs i ≡ x
word-some [] i y e = absurd (grind (arith, e))
word-some (x ∷ xs) zero y e = grind (arith, e)
word-some (x ∷ xs) (suc i) y e = word-some xs i y e

-- ---- the cells of variables

pub owners-at : (owners : List (Option ℕ)) (i : ℕ) (o : Option ℕ) → i < length owners → o ≡ slice_index_or owners i o → drop i owners ≡ o ∷ drop (suc i) owners
owners-at [] i o below same = absurd (omega (arith, below))
owners-at (p ∷ owners) zero o below same = rw same refl
owners-at (p ∷ owners) (suc i) o below same = owners-at owners i o (omega (arith, below)) same

pub owners-end : (owners : List (Option ℕ)) (n : ℕ) → length owners ≤ n → drop n owners ≡ []
owners-end [] zero below = refl
owners-end [] (suc n) below = refl
owners-end (p ∷ owners) zero below = absurd (omega (arith, below))
owners-end (p ∷ owners) (suc n) below = owners-end owners n (omega (arith, below))

-- where the cells from the next one on are noted, and this one is, those from this one on are
pub home-noted : (owners : List (Option ℕ)) (n i : ℕ) (o : Option ℕ) (found found' : ℕ → Option ℕ) → i < length owners → o ≡ slice_index_or owners i o →
    ((token : ℕ) → home_from (i + 1) (drop (i + 1) owners) token ≡ or_beyond n token (found token)) →
    ((token : ℕ) → found' token ≡ cond (is_for token o) (Some i) (found token)) → (token : ℕ) → home_from i (drop i owners) token ≡ or_beyond n token (found' token)
home-noted owners n i o found found' below same before noted token =
    ap (λ os. home_from i os token) (owners-at owners i o below same) ∙ go (is_for token o) ∙ ap (or_beyond n token) (sym (noted token))
  where
    go : (b : Bool) → cond b i (home_from (i + 1) (drop (suc i) owners) token) ≡ or_beyond n token (cond b (Some i) (found token))
    go true = refl
    go false = ap (λ j. home_from (i + 1) (drop j owners) token) next ∙ before token
      where
        next : suc i ≡ i + 1
        next = omega arith

pub ruleset tokens = (tokens-at, tokens-end, append_assoc, append-nil)

pub ruleset temporaries = (words-sum, words-at, nobody-at, none-left, append_assoc, append-nil)

pub ruleset fillings = (filled-at, filled-end, append_assoc, append-nil)

pub ruleset lookups = (word-none, word-some)
