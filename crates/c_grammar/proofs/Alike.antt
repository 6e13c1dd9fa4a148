-- Tokens of the same kinds: they may differ in their numbers, and in their bounds, of which the second is no lower.
use Rattle.std.specs.Prelude.{◌≤◌, List, [], ◌∷◌, ◌++◌}
use Rattle.c_token.specs.declared.kinds.Kind.{Kind}
use Rattle.c_grammar.specs.BoundedTokens.{Spot, Bounded}

-- a token of this kind at a spot
abbrev pub token : Spot → Kind → Bounded
token spot kind = record { spot = spot; kind = kind }

pub data Alike : Bounded → Bounded → Type 0 where
  alike : (s t : Spot) (kind : Kind) → s.bound ≤ t.bound → Alike (token s kind) (token t kind)

pub data AllAlike : List Bounded → List Bounded → Type 0 where
  none_left : AllAlike [] []
  one_more : {t u : Bounded} {ts us : List Bounded} → Alike t u → AllAlike ts us → AllAlike (t ∷ ts) (u ∷ us)

-- tokens alike to two parts in a row
pub data Splits (ts us : List Bounded) : List Bounded → Type 0 where
  parts : {vs ws : List Bounded} → AllAlike ts vs → AllAlike us ws → Splits ts us (vs ++ ws)

grown : {t u : Bounded} {ts us ws : List Bounded} → Alike t u → Splits ts us ws → Splits (t ∷ ts) us (u ∷ ws)
grown one (parts p q) = parts (one_more one p) q

pub split : (ts us : List Bounded) {ws : List Bounded} → AllAlike (ts ++ us) ws → Splits ts us ws
split [] us kin = parts none_left kin
split (t ∷ ts) us (one_more one more) = grown one (split ts us more)

-- What is shown of tokens in each of these forms is shown of tokens alike to one of that form.
module _ (P : List Bounded → Type 0) where
  pub at_token : {at : Spot} {kind : Kind} {ts us : List Bounded} → AllAlike (token at kind ∷ ts) us
      → ((t : Spot) → at.bound ≤ t.bound → (vs : List Bounded) → AllAlike ts vs → P (token t kind ∷ vs)) → P us
  at_token (one_more (alike s t kind le) p) shown = shown t le _ p

  pub at_end : {us : List Bounded} → AllAlike [] us → P [] → P us
  at_end none_left shown = shown

  from_parts : {ts us ws : List Bounded} → Splits ts us ws → ((vs : List Bounded) → AllAlike ts vs → (ws : List Bounded) → AllAlike us ws → P (vs ++ ws)) → P ws
  from_parts (parts p q) shown = shown _ p _ q

  pub at_parts : (ts us : List Bounded) {ws : List Bounded} → AllAlike (ts ++ us) ws
      → ((vs : List Bounded) → AllAlike ts vs → (ws : List Bounded) → AllAlike us ws → P (vs ++ ws)) → P ws
  at_parts ts us kin shown = from_parts (split ts us kin) shown
