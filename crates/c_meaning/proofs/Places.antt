-- The tokens that a program was read from, in a row: each has its number, its kind and the limit.
use Rattle.std.proofs.Common.{◌≡◌, subst, ℕ, suc, ◌+◌, ◌^◌, ◌<◌, ◌≤◌, List, [], ◌∷◌, ◌++◌, length, Some, arith, refl}
use Rattle.std.specs.List.{slice_get}
use Rattle.std.proofs.lemmas.List.{length-append}
use Rattle.std.proofs.lemmas.Option.{slice_get_within}
use Rattle.aegis_num.specs.declared.limits.TheConstants.{MAX_SOURCE_BYTES}
use Rattle.c_token.specs.declared.kinds.Kind.{Kind}
use Rattle.c_grammar.specs.BoundedTokens.{Bounded, bounded_all, numbered}
use Rattle.c_grammar.specs.TokenPrograms.{limit}

-- the token of this number, which fits a word, is this one
pub record Here (kinds : List Kind) (n : ℕ) (k : Kind) : Type 0 where
  pub kind : slice_get kinds n ≡ Some k
  pub small : n < 2 ^ 32

abbrev pub Row : List Kind → ℕ → List Bounded → Type 0
Row kinds n [] = Unit {0}
Row kinds n (t ∷ ts) = (t.spot.place ≡ n) × (t.spot.bound ≡ limit) × Here kinds n t.kind × Row kinds (suc n) ts

pub row-front : (kinds : List Kind) (n : ℕ) (ts us : List Bounded) → Row kinds n (ts ++ us) → Row kinds n ts
row-front kinds n [] us row = tt
row-front kinds n (t ∷ ts) us row = (row.0, row.1, row.2, row-front kinds (suc n) ts us row.3)

pub row-back : (kinds : List Kind) (n : ℕ) (ts us : List Bounded) → Row kinds n (ts ++ us) → Row kinds (n + length ts) us
row-back kinds n [] us row = subst (λ m. Row kinds m us) (omega arith) row
row-back kinds n (t ∷ ts) us row = subst (λ m. Row kinds m us) (omega arith) (row-back kinds (suc n) ts us row.3)

-- how many tokens there are in both parts
pub row-length : (kinds : List Kind) (n : ℕ) (ts us : List Bounded) → Row kinds n (ts ++ us) → length (ts ++ us) ≡ length ts + length us
row-length kinds n ts us row = length-append ts us

-- the kinds from a place on are these
abbrev Follow : List Kind → ℕ → List Kind → Type 0
Follow kinds n [] = Unit {0}
Follow kinds n (k ∷ ks) = (slice_get kinds n ≡ Some k) × Follow kinds (suc n) ks

follow-later : (k : Kind) (kinds : List Kind) (n : ℕ) (ks : List Kind) → Follow kinds n ks → Follow (k ∷ kinds) (suc n) ks
follow-later k kinds n [] follow = tt
follow-later k kinds n (j ∷ ks) follow = (follow.0, follow-later k kinds (suc n) ks follow.1)

follow-all : (kinds : List Kind) → Follow kinds 0 kinds
follow-all [] = tt
follow-all (k ∷ kinds) = (refl, follow-later k kinds 0 kinds (follow-all kinds))

here : (kinds : List Kind) (n : ℕ) (k : Kind) → length kinds ≤ MAX_SOURCE_BYTES → slice_get kinds n ≡ Some k → Here kinds n k
here kinds n k few is = let less = slice_get_within kinds n k is in record { kind = is; small = omega (arith, less, few) }

row-numbered : (kinds : List Kind) (n : ℕ) (ks : List Kind) → length kinds ≤ MAX_SOURCE_BYTES → Follow kinds n ks → Row kinds n (bounded_all limit (numbered n ks))
row-numbered kinds n [] few follow = tt
row-numbered kinds n (k ∷ ks) few follow = (refl, refl, here kinds n k few follow.0, row-numbered kinds (suc n) ks few follow.1)

pub row_of_all : (kinds : List Kind) → length kinds ≤ MAX_SOURCE_BYTES → Row kinds 0 (bounded_all limit (numbered 0 kinds))
row_of_all kinds few = row-numbered kinds 0 kinds few (follow-all kinds)

-- ---- numbers that ascend in a stretch

abbrev pub Ascending : ℕ → ℕ → List ℕ → Type 0
Ascending n m [] = n ≤ m
Ascending n m (t ∷ ts) = (n ≤ t) × Ascending (suc t) m ts

pub ascending-order : (n m : ℕ) (ts : List ℕ) → Ascending n m ts → n ≤ m
ascending-order n m [] up = up
ascending-order n m (t ∷ ts) up = omega (arith, up.0, ascending-order (suc t) m ts up.1)

pub ascending-wider : (k n m : ℕ) (ts : List ℕ) → k ≤ n → Ascending n m ts → Ascending k m ts
ascending-wider k n m [] le up = omega (arith, le, up)
ascending-wider k n m (t ∷ ts) le up = (omega (arith, le, up.0), up.1)

pub ascending-further : (n m k : ℕ) (ts : List ℕ) → m ≤ k → Ascending n m ts → Ascending n k ts
ascending-further n m k [] le up = omega (arith, le, up)
ascending-further n m k (t ∷ ts) le up = (up.0, ascending-further (suc t) m k ts le up.1)

pub ascending-append : (n m k : ℕ) (ts us : List ℕ) → Ascending n m ts → Ascending m k us → Ascending n k (ts ++ us)
ascending-append n m k [] us first second = ascending-wider n m k us first second
ascending-append n m k (t ∷ ts) us first second = (first.0, ascending-append (suc t) m k ts us first.1 second)
