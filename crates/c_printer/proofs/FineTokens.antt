-- Tokens in form that keep the limit.
use Rattle.std.proofs.Common.{◌≡◌, ◌≤◌, true, List, [], ◌∷◌, ◌++◌, refl, ap, ◌∙◌}
use Rattle.std.specs.List.{list_all}
use Rattle.std.proofs.lemmas.Bool.{and_from, and_parts}
use Rattle.std.proofs.lemmas.List.{map-append}
use Rattle.c_token.specs.declared.Kind.{Kind}
use Rattle.c_token.specs.PlainText.{is_in_form}
use Rattle.c_grammar.specs.BoundedTokens.{Bounded, bounded_kinds}
use Rattle.c_grammar.specs.TokenPrograms.{limit, AreLimited}

abbrev pub IsFine : Bounded → Type 0
IsFine token = (token.spot.bound ≤ limit) × (is_in_form token.kind ≡ true)

abbrev pub AreFine : List Bounded → Type 0
AreFine [] = Unit {0}
AreFine (token ∷ tokens) = IsFine token × AreFine tokens

pub fine-append : (xs ys : List Bounded) → AreFine (xs ++ ys) → AreFine xs × AreFine ys
fine-append [] ys fine = (tt, fine)
fine-append (x ∷ xs) ys fine = let rest = fine-append xs ys fine.1 in ((fine.0, rest.0), rest.1)

pub fine-join : (xs ys : List Bounded) → AreFine xs → AreFine ys → AreFine (xs ++ ys)
fine-join [] ys first second = second
fine-join (x ∷ xs) ys first second = (first.0, fine-join xs ys first.1 second)

pub fine_limited : (ts : List Bounded) → AreFine ts → AreLimited ts
fine_limited [] fine = tt
fine_limited (t ∷ ts) fine = (fine.0.0, fine_limited ts fine.1)

pub fine_in_form : (ts : List Bounded) → AreFine ts → list_all is_in_form (bounded_kinds ts) ≡ true
fine_in_form [] fine = refl
fine_in_form (t ∷ ts) fine = and_from _ _ fine.0.1 (fine_in_form ts fine.1)

pub fine_from : (ts : List Bounded) → AreLimited ts → list_all is_in_form (bounded_kinds ts) ≡ true → AreFine ts
fine_from [] limited form = tt
fine_from (t ∷ ts) limited form = let more = and_parts _ _ form in ((limited.0, more.0), fine_from ts limited.1 more.1)

-- the kinds of parts in a row
pub kinds-append : (xs ys : List Bounded) → bounded_kinds (xs ++ ys) ≡ bounded_kinds xs ++ bounded_kinds ys
kinds-append xs ys = map-append (λ token. token.kind) xs ys

pub piece : (xs ys : List Bounded) {ks : List Kind} → bounded_kinds xs ≡ ks → bounded_kinds (xs ++ ys) ≡ ks ++ bounded_kinds ys
piece xs ys e = kinds-append xs ys ∙ ap (λ ks. ks ++ bounded_kinds ys) e
