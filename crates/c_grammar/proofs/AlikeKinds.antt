-- Tokens of these kinds within the limit, and the same kinds numbered.
use Rattle.std.proofs.Common.{◌≡◌, ◌≤◌, ℕ, suc, List, [], ◌∷◌, refl, ap, subst, arith}
use Rattle.c_token.specs.declared.kinds.Kind.{Kind}
use Rattle.c_grammar.specs.BoundedTokens.{Spot, Bounded, bounded_kinds, numbered, bounded_all}
use Rattle.c_grammar.specs.TokenPrograms.{limit, AreLimited}
use Rattle.c_grammar.proofs.Alike.{Alike, token, alike, AllAlike, none_left, one_more}

-- tokens of one kind
pub kind_alike : (s t : Spot) (j k : Kind) → s.bound ≤ t.bound → j ≡ k → Alike (token s j) (token t k)
kind_alike s t j k le e = subst (λ k. Alike (token s j) (token t k)) e (alike s t j le)

-- tokens within the limit, and their kinds numbered from anywhere
pub alike_numbered : (ts : List Bounded) (ks : List Kind) (place : ℕ) → AreLimited ts → bounded_kinds ts ≡ ks → AllAlike ts (bounded_all limit (numbered place ks))
alike_numbered [] [] place limited e = none_left
alike_numbered [] (k ∷ ks) place limited e = cc
alike_numbered (t ∷ ts) [] place limited e = cc
alike_numbered (t ∷ ts) (k ∷ ks) place limited e =
    one_more (kind_alike t.spot (record { place = place; bound = limit }) t.kind k limited.0 (cc)) (alike_numbered ts ks (suc place) limited.1 (cc))

-- numbered tokens keep the limit
pub numbered_limited : (place : ℕ) (ks : List Kind) → AreLimited (bounded_all limit (numbered place ks))
numbered_limited place [] = tt
numbered_limited place (k ∷ ks) = (omega arith, numbered_limited (suc place) ks)

pub kinds-numbered : (place : ℕ) (ks : List Kind) → bounded_kinds (bounded_all limit (numbered place ks)) ≡ ks
kinds-numbered place [] = refl
kinds-numbered place (k ∷ ks) = ap (λ ks. k ∷ ks) (kinds-numbered (suc place) ks)
