-- The cell of each declared variable.
use Rattle.std.proofs.Common.{◌≡◌, ℕ, zero, suc, ◌+◌, ◌<◌, Bool, true, false, cond, not, ◌==◌, ◌&&◌, ◌||◌, List, [], ◌∷◌, ◌++◌, length, map, Option, Some, None, arith, refl, sym, ◌∙◌, ap, append_assoc, append-nil}
use Rattle.std.proofs.lemmas.Bool.{eqb-true, eq-eqb}
use Rattle.std.proofs.lemmas.List.{length-append}
use Rattle.std.specs.List.{slice_get}
use Rattle.c_semantics.specs.ProgramShape.{own_tokens, own_tokens_of_all, declared_tokens, is_among, are_distinct, object_at}
use Rattle.c_semantics.specs.ResolvedTree.{Function, Object, Program}
use Rattle.ir_code.specs.declared.code.Cell.{Cell}
use Rattle.lowering.specs.Cells.{room_in, nobody, owners_in, owners_of, home_in, home_of, object_cell, object_cells, function_cells, cells_of}
use Rattle.lowering.proofs.Homes.{Found, found, StandsOnce, declared-at}
use Rattle.lowering.specs.CellLaws.{cells_before}
use Rattle.lowering.proofs.CellsOfFunctions.{length-owners, owners-of-two, length-object-owners}
use Rattle.lowering.proofs.Standing.{front-on}

-- the tokens of the cells that some variable owns
abbrev pub tokens_in : List (Option ℕ) → List ℕ
tokens_in [] = []
tokens_in (None ∷ owners) = tokens_in owners
tokens_in (Some token ∷ owners) = token ∷ tokens_in owners

tokens-of-two : (one other : List (Option ℕ)) → tokens_in (one ++ other) ≡ tokens_in one ++ tokens_in other
tokens-of-two [] other = refl
tokens-of-two (None ∷ one) other = tokens-of-two one other
tokens-of-two (Some token ∷ one) other = ap (λ (xs : List ℕ). token ∷ xs) (tokens-of-two one other)

tokens-of-nobody : (n : ℕ) → tokens_in (nobody n) ≡ []
tokens-of-nobody zero = refl
tokens-of-nobody (suc n) = tokens-of-nobody n

tokens-of-some : (xs : List ℕ) → tokens_in (map Some xs) ≡ xs
tokens-of-some [] = refl
tokens-of-some (x ∷ xs) = ap (λ (ys : List ℕ). x ∷ ys) (tokens-of-some xs)

tokens-of-objects : (os : List Object) → tokens_in (map (λ (o : Object). Some o.variable.token) os) ≡ map (λ (o : Object). o.variable.token) os
tokens-of-objects [] = refl
tokens-of-objects (o ∷ os) = ap (λ (ys : List ℕ). o.variable.token ∷ ys) (tokens-of-objects os)

tokens-of-functions : (fs : List Function) → tokens_in (owners_in fs) ≡ own_tokens_of_all fs
tokens-of-functions [] = refl
tokens-of-functions (f ∷ fs) =
    tokens-of-two (map Some (own_tokens f) ++ nobody (1 + room_in f.body)) (owners_in fs)
    ∙ ap (λ (xs : List ℕ). xs ++ tokens_in (owners_in fs)) (tokens-of-two (map Some (own_tokens f)) (nobody (1 + room_in f.body)) ∙ ap (λ (xs : List ℕ). xs ++ tokens_in (nobody (1 + room_in f.body))) (tokens-of-some (own_tokens f))
    ∙ ap (λ (xs : List ℕ). own_tokens f ++ xs) (tokens-of-nobody (1 + room_in f.body)) ∙ append-nil (own_tokens f))
    ∙ ap (λ (xs : List ℕ). own_tokens f ++ xs) (tokens-of-functions fs)

pub tokens-of-program : (p : Program) → tokens_in (owners_of p) ≡ declared_tokens p
tokens-of-program p =
    tokens-of-two (map (λ (o : Object). Some o.variable.token) p.objects) (owners_in p.functions)
    ∙ ap (λ (xs : List ℕ). xs ++ tokens_in (owners_in p.functions)) (tokens-of-objects p.objects)
    ∙ ap (λ (xs : List ℕ). map (λ (o : Object). o.variable.token) p.objects ++ xs) (tokens-of-functions p.functions)

-- ---- each stands once

among-tokens : (owners : List (Option ℕ)) (place token : ℕ) → slice_get owners place ≡ Some (Some token) → is_among (tokens_in owners) token ≡ true
among-tokens [] place token e = absurd (grind (arith, e))
among-tokens (None ∷ owners) zero token e = absurd (grind (arith, e))
among-tokens (None ∷ owners) (suc place) token e = among-tokens owners place token e
among-tokens (Some other ∷ owners) zero token e = let same : other ≡ token = grind (arith, e) in ap (λ (t : Bool). t || is_among (tokens_in owners) token) (eq-eqb other token same)
among-tokens (Some other ∷ owners) (suc place) token e = go (other == token) (among-tokens owners place token e)
  where
    go : (t : Bool) → is_among (tokens_in owners) token ≡ true → (t || is_among (tokens_in owners) token) ≡ true
    go true h = refl
    go false h = h

both-true : (s t : Bool) → (s && t) ≡ true → (s ≡ true) × (t ≡ true)
both-true true t e = (refl, e)
both-true false t e = absurd (grind (arith, e))

pub stand-once : (owners : List (Option ℕ)) → are_distinct (tokens_in owners) ≡ true → StandsOnce owners
stand-once [] d one other token e h = absurd (grind (arith, e))
stand-once (None ∷ owners) d zero other token e h = absurd (grind (arith, e))
stand-once (None ∷ owners) d (suc one) zero token e h = absurd (grind (arith, h))
stand-once (None ∷ owners) d (suc one) (suc other) token e h = ap suc (stand-once owners d one other token e h)
stand-once (Some t ∷ owners) d zero zero token e h = refl
stand-once (Some t ∷ owners) d zero (suc other) token e h = absurd (clash t token owners other (grind (arith, e)) h (both-true (not (is_among (tokens_in owners) t)) (are_distinct (tokens_in owners)) d).0)
  where
    clash : (t' token' : ℕ) (owners' : List (Option ℕ)) (place : ℕ) → t' ≡ token' → slice_get owners' place ≡ Some (Some token') → not (is_among (tokens_in owners') t') ≡ true → ⊥
    clash t' token' owners' place same x y = grind (arith, y, ap (λ (n : ℕ). is_among (tokens_in owners') n) same, among-tokens owners' place token' x)
stand-once (Some t ∷ owners) d (suc one) zero token e h = absurd (clash t token owners one (grind (arith, h)) e (both-true (not (is_among (tokens_in owners) t)) (are_distinct (tokens_in owners)) d).0)
  where
    clash : (t' token' : ℕ) (owners' : List (Option ℕ)) (place : ℕ) → t' ≡ token' → slice_get owners' place ≡ Some (Some token') → not (is_among (tokens_in owners') t') ≡ true → ⊥
    clash t' token' owners' place same x y = grind (arith, y, ap (λ (n : ℕ). is_among (tokens_in owners') n) same, among-tokens owners' place token' x)
stand-once (Some t ∷ owners) d (suc one) (suc other) token e h =
    ap suc (stand-once owners (both-true (not (is_among (tokens_in owners) t)) (are_distinct (tokens_in owners)) d).1 one other token e h)

pub program-once : (p : Program) → are_distinct (declared_tokens p) ≡ true → StandsOnce (owners_of p)
program-once p d = stand-once (owners_of p) (ap are_distinct (tokens-of-program p) ∙ d)

-- where a token stands is its home
pub home-is : (owners : List (Option ℕ)) (place token : ℕ) → StandsOnce owners → slice_get owners place ≡ Some (Some token) → home_in owners token ≡ place
home-is owners place token once e =
    let f : Found owners 0 token = found owners 0 token (declared-at owners place token e) in
    f.home ∙ (let same : f.place ≡ place = once f.place place token f.stands e in omega (arith, same))

-- ---- variables of a function

pub front-get : {A : Type 0} → (xs ys : List A) (i : ℕ) (y : A) → slice_get xs i ≡ Some y → slice_get (xs ++ ys) i ≡ Some y
front-get [] ys i y e = absurd (grind (arith, e))
front-get (x ∷ xs) ys zero y e = e
front-get (x ∷ xs) ys (suc i) y e = front-get xs ys i y e

-- the place of a token among these
pub record Placed (xs : List ℕ) (token : ℕ) : Type 0 where
  pub place : ℕ
  pub within : place < length xs
  pub stands : slice_get (map Some xs) place ≡ Some (Some token)

pub placed : (xs : List ℕ) (token : ℕ) → is_among xs token ≡ true → Placed xs token
placed [] token e = absurd (grind (arith, e))
placed (x ∷ xs) token e = go (x == token) refl e (λ h. placed xs token h)
  where
    go : (t : Bool) → (x == token) ≡ t → (t || is_among xs token) ≡ true → (is_among xs token ≡ true → Placed xs token) → Placed (x ∷ xs) token
    go true a b later = record { place = 0; within = omega arith; stands = ap (λ (y : ℕ). Some (Some y)) (eqb-true x token a) }
    go false a b later = let h : Placed xs token = later b in record { place = suc h.place; within = omega (arith, h.within); stands = h.stands }

-- a parameter or a local has the cell at its place among those of its function
pub own-home : (p : Program) (before after : List Function) (f : Function) (token : ℕ) → are_distinct (declared_tokens p) ≡ true → p.functions ≡ before ++ f ∷ after → (at : Placed (own_tokens f) token) →
    home_of p token ≡ length p.objects + cells_before before + at.place
own-home p before after f token d e at = home-is (owners_of p) (length p.objects + cells_before before + at.place) token (program-once p d) stands
  where
    objects : List (Option ℕ)
    objects = map (λ (o : Object). Some o.variable.token) p.objects

    front : List (Option ℕ)
    front = objects ++ owners_in before

    rest : List (Option ℕ)
    rest = nobody (1 + room_in f.body) ++ owners_in after

    all : owners_of p ≡ front ++ (map Some (own_tokens f) ++ rest)
    all =
        ap (λ (fs : List Function). objects ++ owners_in fs) e
        ∙ ap (λ (xs : List (Option ℕ)). objects ++ xs) (owners-of-two before (f ∷ after))
        ∙ sym (append_assoc objects (owners_in before) (owners_in (f ∷ after)))
        ∙ ap (λ (xs : List (Option ℕ)). front ++ xs) (append_assoc (map Some (own_tokens f)) (nobody (1 + room_in f.body)) (owners_in after))

    place : length p.objects + cells_before before + at.place ≡ length front + at.place
    place = omega (arith, length-append objects (owners_in before), length-object-owners p.objects, length-owners before)

    stands : slice_get (owners_of p) (length p.objects + cells_before before + at.place) ≡ Some (Some token)
    stands =
        ap (λ (xs : List (Option ℕ)). slice_get xs (length p.objects + cells_before before + at.place)) all
        ∙ ap (λ (j : ℕ). slice_get (front ++ (map Some (own_tokens f) ++ rest)) j) place
        ∙ front-on front (map Some (own_tokens f) ++ rest) at.place
        ∙ front-get (map Some (own_tokens f)) rest at.place (Some token) at.stands

-- ---- objects

pub record ObjectAt (objects : List Object) (token : ℕ) (o : Object) : Type 0 where
  pub place : ℕ
  pub within : place < length objects
  pub owner : slice_get (map (λ (x : Object). Some x.variable.token) objects) place ≡ Some (Some token)
  pub cell : slice_get (object_cells objects) place ≡ Some (object_cell o)

pub object-place : (objects : List Object) (token : ℕ) (o : Object) → object_at objects token ≡ Some o → ObjectAt objects token o
object-place [] token o e = absurd (grind (arith, e))
object-place (x ∷ objects) token o e = go (x.variable.token == token) refl e (λ h. object-place objects token o h)
  where
    go : (t : Bool) → (x.variable.token == token) ≡ t → cond t (Some x) (object_at objects token) ≡ Some o → (object_at objects token ≡ Some o → ObjectAt objects token o) → ObjectAt (x ∷ objects) token o
    go true a b later =
        record { place = 0; within = omega arith; owner = ap (λ (y : ℕ). Some (Some y)) (eqb-true x.variable.token token a); cell = ap (λ (y : Option Object). celled y) b }
      where
        celled : Option Object → Option Cell
        celled None = None
        celled (Some y) = Some (object_cell y)
    go false a b later = let h : ObjectAt objects token o = later b in record { place = suc h.place; within = omega (arith, h.within); owner = h.owner; cell = h.cell }

-- an object has the cell at its place
pub object-home : (p : Program) (token : ℕ) (o : Object) → are_distinct (declared_tokens p) ≡ true → (at : ObjectAt p.objects token o) → home_of p token ≡ at.place
object-home p token o d at =
    home-is (owners_of p) at.place token (program-once p d) (front-get (map (λ (x : Object). Some x.variable.token) p.objects) (owners_in p.functions) at.place (Some token) at.owner)

pub object-cell-at : (p : Program) (token : ℕ) (o : Object) (at : ObjectAt p.objects token o) → slice_get (cells_of p) at.place ≡ Some (object_cell o)
object-cell-at p token o at = front-get (object_cells p.objects) (function_cells p.functions) at.place (object_cell o) at.cell

pub object-owner : (p : Program) (token : ℕ) (o : Object) (at : ObjectAt p.objects token o) → slice_get (owners_of p) at.place ≡ Some (Some token)
object-owner p token o at = front-get (map (λ (x : Object). Some x.variable.token) p.objects) (owners_in p.functions) at.place (Some token) at.owner
