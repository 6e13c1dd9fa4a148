-- The cell of a variable leads back to it, and no other cell does.
use Rattle.std.proofs.Common.{◌≡◌, ℕ, zero, suc, ◌+◌, ◌-◌, ◌<◌, max, Bool, true, false, cond, ◌==◌, List, [], ◌∷◌, length, Option, Some, None, arith, refl, sym, ◌∙◌, ap}
use Rattle.std.proofs.lemmas.Bool.{eqb-true, eqb-false, eq-eqb}
use Rattle.std.proofs.lemmas.Option.{slice_get_past}
use Rattle.std.specs.List.{slice_get}
use Rattle.lowering.specs.Cells.{is_for, home_from, home_in, above, is_declared, token_by, token_in}

-- a declared token stands at its home
pub record Found (owners : List (Option ℕ)) (c token : ℕ) : Type 0 where
  pub place : ℕ
  pub home : home_from c owners token ≡ c + place
  pub stands : slice_get owners place ≡ Some (Some token)

for-that : (owner : Option ℕ) (token : ℕ) → is_for token owner ≡ true → owner ≡ Some token
for-that None token e = grind (arith, e)
for-that (Some other) token e = ap (λ (x : ℕ). Some x) (eqb-true other token e)

pub found : (owners : List (Option ℕ)) (c token : ℕ) → is_declared owners token ≡ true → Found owners c token
found [] c token e = absurd (grind (arith, e))
found (owner ∷ owners) c token e = go (is_for token owner) refl e (λ x. found owners (c + 1) token x)
  where
    go : (t : Bool) → is_for token owner ≡ t → cond t true (is_declared owners token) ≡ true → (is_declared owners token ≡ true → Found owners (c + 1) token) → Found (owner ∷ owners) c token
    go true x y later = record { place = 0; home = ap (λ (t : Bool). cond t c (home_from (c + 1) owners token)) x ∙ omega arith; stands = ap (λ (o : Option ℕ). Some o) (for-that owner token x) }
    go false x y later =
        let f : Found owners (c + 1) token = later y in
        record { place = suc f.place; home = ap (λ (t : Bool). cond t c (home_from (c + 1) owners token)) x ∙ f.home ∙ omega arith; stands = f.stands }

-- one that is not declared has a home beyond all
pub beyond : (owners : List (Option ℕ)) (c token : ℕ) → is_declared owners token ≡ false → home_from c owners token ≡ c + length owners + token
beyond [] c token e = omega arith
beyond (owner ∷ owners) c token e = go (is_for token owner) refl e (λ x. beyond owners (c + 1) token x)
  where
    go : (t : Bool) → is_for token owner ≡ t → cond t true (is_declared owners token) ≡ false → (is_declared owners token ≡ false → home_from (c + 1) owners token ≡ c + 1 + length owners + token) →
        home_from c (owner ∷ owners) token ≡ c + length (owner ∷ owners) + token
    go true x y later = absurd (grind (arith, y))
    go false x y later = ap (λ (t : Bool). cond t c (home_from (c + 1) owners token)) x ∙ later y ∙ omega arith

pub back-home : (owners : List (Option ℕ)) (token : ℕ) → token_in owners (home_in owners token) ≡ token
back-home owners token = go (is_declared owners token) refl
  where
    go : (t : Bool) → is_declared owners token ≡ t → token_in owners (home_in owners token) ≡ token
    go true e =
        let f : Found owners 0 token = found owners 0 token e in
        let h : home_in owners token ≡ f.place = f.home ∙ omega arith in
        ap (λ (o : Option (Option ℕ)). token_by owners (home_in owners token) o) (ap (λ (c : ℕ). slice_get owners c) h ∙ f.stands)
    go false e =
        let h : home_in owners token ≡ length owners + token = beyond owners 0 token e ∙ omega arith in
        let less : length owners + token - length owners ≡ token = omega arith in
        ap (λ (c : ℕ). token_in owners c) h
        ∙ ap (λ (o : Option (Option ℕ)). token_by owners (length owners + token) o) (slice_get_past owners (length owners + token) (omega arith))
        ∙ ap (λ (c : ℕ). cond (is_declared owners c) (above owners + (length owners + token)) c) less
        ∙ ap (λ (t : Bool). cond t (above owners + (length owners + token)) token) e

-- ---- no other cell

-- what stands somewhere is declared, and is below the number above all
pub declared-at : (owners : List (Option ℕ)) (place token : ℕ) → slice_get owners place ≡ Some (Some token) → is_declared owners token ≡ true
declared-at [] place token e = absurd (grind (arith, e))
declared-at (owner ∷ owners) zero token e = ap (λ (t : Bool). cond t true (is_declared owners token)) (here owner e)
  where
    here : (o : Option ℕ) → Some o ≡ Some (Some token) → is_for token o ≡ true
    here None x = absurd (grind (arith, x))
    here (Some other) x = eq-eqb other token (grind (arith, x))
declared-at (owner ∷ owners) (suc place) token e = go (is_for token owner) (declared-at owners place token e)
  where
    go : (t : Bool) → is_declared owners token ≡ true → cond t true (is_declared owners token) ≡ true
    go true x = refl
    go false x = x

pub declared-below : (owners : List (Option ℕ)) (token : ℕ) → is_declared owners token ≡ true → token < above owners
declared-below [] token e = absurd (grind (arith, e))
declared-below (None ∷ owners) token e = declared-below owners token e
declared-below (Some other ∷ owners) token e = go (other == token) refl e (declared-below owners token)
  where
    go : (t : Bool) → (other == token) ≡ t → cond t true (is_declared owners token) ≡ true → (is_declared owners token ≡ true → token < above owners) → token < max (suc other) (above owners)
    go true x y later = omega (arith, eqb-true other token x)
    go false x y later = omega (arith, later y)

-- each token stands once
abbrev pub StandsOnce : List (Option ℕ) → Type 0
StandsOnce owners = (one other token : ℕ) → slice_get owners one ≡ Some (Some token) → slice_get owners other ≡ Some (Some token) → one ≡ other

-- a cell that leads to a declared token is its home
pub only-home : (owners : List (Option ℕ)) (token c : ℕ) → StandsOnce owners → is_declared owners token ≡ true → token_in owners c ≡ token → c ≡ home_in owners token
only-home owners token c once e h = go (slice_get owners c) refl
  where
    place : Found owners 0 token
    place = found owners 0 token e

    low : token < above owners
    low = declared-below owners token e

    go : (o : Option (Option ℕ)) → slice_get owners c ≡ o → c ≡ home_in owners token
    go (Some (Some other)) x =
        let same : other ≡ token = ap (λ (y : Option (Option ℕ)). token_by owners c y) (sym x) ∙ h in
        once c place.place token (x ∙ ap (λ (y : ℕ). Some (Some y)) same) place.stands ∙ sym (place.home ∙ omega arith)
    go (Some None) x = absurd (let same : above owners + c ≡ token = ap (λ (y : Option (Option ℕ)). token_by owners c y) (sym x) ∙ h in omega (arith, same, low))
    go None x = past (is_declared owners (c - length owners)) refl
      where
        past : (t : Bool) → is_declared owners (c - length owners) ≡ t → c ≡ home_in owners token
        past true y =
            absurd (let same : above owners + c ≡ token = ap (λ (z : Bool). cond z (above owners + c) (c - length owners)) (sym y) ∙ ap (λ (z : Option (Option ℕ)). token_by owners c z) (sym x) ∙ h in omega (arith, same, low))
        past false y =
            absurd (
            let same : c - length owners ≡ token = ap (λ (z : Bool). cond z (above owners + c) (c - length owners)) (sym y) ∙ ap (λ (z : Option (Option ℕ)). token_by owners c z) (sym x) ∙ h in
            grind (arith, y, e, ap (λ (z : ℕ). is_declared owners z) same)
            )

-- so the names of cells tell a declared variable from all else
pub known : (owners : List (Option ℕ)) (token : ℕ) → StandsOnce owners → is_declared owners token ≡ true → (c : ℕ) → (token_in owners (home_in owners token) == token_in owners c) ≡ (home_in owners token == c)
known owners token once e c = go (home_in owners token == c) refl
  where
    go : (t : Bool) → (home_in owners token == c) ≡ t → (token_in owners (home_in owners token) == token_in owners c) ≡ t
    go true x = eq-eqb _ _ (ap (λ (y : ℕ). token_in owners y) (eqb-true (home_in owners token) c x))
    go false x = other (token_in owners (home_in owners token) == token_in owners c) refl
      where
        other : (u : Bool) → (token_in owners (home_in owners token) == token_in owners c) ≡ u → u ≡ false
        other true y =
            absurd (eqb-false (home_in owners token) c x (sym (only-home owners token c once e (sym (eqb-true (token_in owners (home_in owners token)) (token_in owners c) y) ∙ back-home owners token))))
        other false y = refl
