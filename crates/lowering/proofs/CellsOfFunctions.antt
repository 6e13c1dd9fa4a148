-- The flat code of a program with its homes, and the cells of a function in it.
use Rattle.std.proofs.Common.{◌≡◌, ℕ, zero, suc, ◌+◌, ◌-◌, ◌<◌, ◌≤◌, Bool, true, false, List, [], ◌∷◌, ◌++◌, length, map, Option, Some, None, arith, refl, sym, ◌∙◌, ap, append_assoc}
use Rattle.std.proofs.lemmas.List.{length-append}
use Rattle.std.proofs.lemmas.Option.{slice_get_within}
use Rattle.std.specs.List.{slice_get}
use Rattle.regions.specs.declared.rights.Access.TheVariants.{Read, Write}
use Rattle.regions.specs.declared.rights.Class.{Class}
use Rattle.regions.specs.declared.rights.Class.TheVariants.{Verified, Private}
use Rattle.regions.specs.Rights.{rights}
use Rattle.c_semantics.specs.ProgramShape.{own_tokens}
use Rattle.c_semantics.specs.ResolvedTree.{Function, Object, Program}
use Rattle.ir_code.specs.declared.code.Cell.{Cell}
use Rattle.ir_code.specs.declared.ops.Op.TheVariants as op
use Rattle.ir_code.specs.FlatStates.{words_in, class_in, mode_of, is_shared}
use Rattle.lowering.specs.Cells.{room_in, class_for, words, cell_count, function_cells, object_cells, cells_of, nobody, owners_in, owners_of, home_in, home_of, is_declared, token_of}
use Rattle.lowering.specs.CellLaws.{cells_before}
use Rattle.lowering.specs.Lowering.{calling_by, is_private_in, all_functions, entry_code, lowered}
use Rattle.lowering.proofs.Relation.{World, IsTemp, FitsFrame, Spans}
use Rattle.lowering.proofs.Homes.{back-home, found, beyond, Found}
use Rattle.lowering.proofs.Labels.{labels-found}
use Rattle.lowering.proofs.Programs.{frame_of}
use Rattle.lowering.proofs.Standing.{front-on, stands-after}

-- the flat code of a program with these classes loose
unfoldable pub world : (Class → Bool) → Program → World
world is_loose p = record {
  is_loose = is_loose;
  ir = lowered p;
  home = home_of p;
  back = token_of p;
  is_private = is_private_in p.functions;
  back-home = back-home (owners_of p);
  labels = labels-found p;
}

-- its functions stand from the first place on, up to the entry
pub functions-stand : (is_loose : Class → Bool) (p : Program) → Spans (world is_loose p) 0 (all_functions p) (length (all_functions p))
unfolding world
functions-stand is_loose p = stands-after (world is_loose p) [] (all_functions p) (entry_code p) 0 (length (all_functions p)) refl refl (omega arith)

-- the entry, where main is not private
pub entry-stands : (is_loose : Class → Bool) (p : Program) → is_private_in p.functions p.main ≡ false →
    Spans (world is_loose p) (length (all_functions p)) (op.Call p.main ∷ op.Exit ∷ []) (length (all_functions p) + 2)
unfolding world
entry-stands is_loose p public =
    stands-after (world is_loose p) (all_functions p) (op.Call p.main ∷ op.Exit ∷ []) [] (length (all_functions p)) (length (all_functions p) + 2)
    (ap (λ (t : Bool). all_functions p ++ (calling_by false t p.main ++ (op.Exit ∷ []))) public) refl (omega arith)

-- ---- cells of functions

words-at : (class : Class) (n i : ℕ) (rest : List Cell) → i < n → slice_get (words class n ++ rest) i ≡ Some (record { class = class; words = 1; first = [] })
words-at class zero i rest below = absurd (omega (arith, below))
words-at class (suc n) zero rest below = refl
words-at class (suc n) (suc i) rest below = words-at class n i rest (omega (arith, below))

length-words : (class : Class) (n : ℕ) → length (words class n) ≡ n
length-words class zero = refl
length-words class (suc n) = ap suc (length-words class n)

nobody-at : (n i : ℕ) (rest : List (Option ℕ)) → i < n → slice_get (nobody n ++ rest) i ≡ Some None
nobody-at zero i rest below = absurd (omega (arith, below))
nobody-at (suc n) zero rest below = refl
nobody-at (suc n) (suc i) rest below = nobody-at n i rest (omega (arith, below))

length-nobody : (n : ℕ) → length (nobody n) ≡ n
length-nobody zero = refl
length-nobody (suc n) = ap suc (length-nobody n)

length-map-some : (xs : List ℕ) → length (map Some xs) ≡ length xs
length-map-some [] = refl
length-map-some (x ∷ xs) = ap suc (length-map-some xs)

length-function-cells : (fs : List Function) → length (function_cells fs) ≡ cells_before fs
length-function-cells [] = refl
length-function-cells (f ∷ fs) =
    let h : length (function_cells fs) ≡ cells_before fs = length-function-cells fs in
    let e : length (function_cells (f ∷ fs)) ≡ length (words (class_for f.private) (cell_count f)) + length (function_cells fs) = length-append (words (class_for f.private) (cell_count f)) (function_cells fs) in
    omega (arith, e, h, length-words (class_for f.private) (cell_count f))

pub length-owners : (fs : List Function) → length (owners_in fs) ≡ cells_before fs
length-owners [] = refl
length-owners (f ∷ fs) =
    let h : length (owners_in fs) ≡ cells_before fs = length-owners fs in
    let e : length (owners_in (f ∷ fs)) ≡ length (map Some (own_tokens f) ++ nobody (1 + room_in f.body)) + length (owners_in fs) = length-append (map Some (own_tokens f) ++ nobody (1 + room_in f.body)) (owners_in fs) in
    let k : length (map Some (own_tokens f) ++ nobody (1 + room_in f.body)) ≡ length (map Some (own_tokens f)) + length (nobody (1 + room_in f.body)) = length-append (map Some (own_tokens f)) (nobody (1 + room_in f.body)) in
    omega (arith, e, k, h, length-map-some (own_tokens f), length-nobody (1 + room_in f.body))

cells-of-two : (one other : List Function) → function_cells (one ++ other) ≡ function_cells one ++ function_cells other
cells-of-two [] other = refl
cells-of-two (f ∷ one) other = ap (λ (xs : List Cell). words (class_for f.private) (cell_count f) ++ xs) (cells-of-two one other) ∙ sym (append_assoc (words (class_for f.private) (cell_count f)) (function_cells one) (function_cells other))

pub owners-of-two : (one other : List Function) → owners_in (one ++ other) ≡ owners_in one ++ owners_in other
owners-of-two [] other = refl
owners-of-two (f ∷ one) other =
    ap (λ (xs : List (Option ℕ)). (map Some (own_tokens f) ++ nobody (1 + room_in f.body)) ++ xs) (owners-of-two one other)
    ∙ sym (append_assoc (map Some (own_tokens f) ++ nobody (1 + room_in f.body)) (owners_in one) (owners_in other))

pub length-object-cells : (os : List Object) → length (object_cells os) ≡ length os
length-object-cells [] = refl
length-object-cells (o ∷ os) = ap suc (length-object-cells os)

pub length-object-owners : (os : List Object) → length (map (λ (o : Object). Some o.variable.token) os) ≡ length os
length-object-owners [] = refl
length-object-owners (o ∷ os) = ap suc (length-object-owners os)

-- what stands at a cell of a function after these
pub cell-at : (p : Program) (before after : List Function) (f : Function) (i : ℕ) → p.functions ≡ before ++ f ∷ after → i < cell_count f →
    slice_get (cells_of p) (length p.objects + cells_before before + i) ≡ Some (record { class = class_for f.private; words = 1; first = [] })
cell-at p before after f i e below =
    ap (λ (xs : List Cell). slice_get xs (length p.objects + cells_before before + i)) all
    ∙ ap (λ (j : ℕ). slice_get (front ++ function_cells (f ∷ after)) j) place
    ∙ front-on front (function_cells (f ∷ after)) i
    ∙ words-at (class_for f.private) (cell_count f) i (function_cells after) below
  where
    front : List Cell
    front = object_cells p.objects ++ function_cells before

    all : cells_of p ≡ front ++ function_cells (f ∷ after)
    all =
        ap (λ (fs : List Function). object_cells p.objects ++ function_cells fs) e
        ∙ ap (λ (xs : List Cell). object_cells p.objects ++ xs) (cells-of-two before (f ∷ after))
        ∙ sym (append_assoc (object_cells p.objects) (function_cells before) (function_cells (f ∷ after)))

    place : length p.objects + cells_before before + i ≡ length front + i
    place = omega (arith, length-append (object_cells p.objects) (function_cells before), length-object-cells p.objects, length-function-cells before)

-- nobody owns the link and the temporaries
pub owner-at : (p : Program) (before after : List Function) (f : Function) (i : ℕ) → p.functions ≡ before ++ f ∷ after → i < 1 + room_in f.body →
    slice_get (owners_of p) (length p.objects + cells_before before + length (own_tokens f) + i) ≡ Some None
owner-at p before after f i e below =
    ap (λ (xs : List (Option ℕ)). slice_get xs (length p.objects + cells_before before + length (own_tokens f) + i)) all
    ∙ ap (λ (j : ℕ). slice_get (front ++ (nobody (1 + room_in f.body) ++ owners_in after)) j) place
    ∙ front-on front (nobody (1 + room_in f.body) ++ owners_in after) i
    ∙ nobody-at (1 + room_in f.body) i (owners_in after) below
  where
    objects : List (Option ℕ)
    objects = map (λ (o : Object). Some o.variable.token) p.objects

    front : List (Option ℕ)
    front = (objects ++ owners_in before) ++ map Some (own_tokens f)

    all : owners_of p ≡ front ++ (nobody (1 + room_in f.body) ++ owners_in after)
    all =
        ap (λ (fs : List Function). objects ++ owners_in fs) e
        ∙ ap (λ (xs : List (Option ℕ)). objects ++ xs) (owners-of-two before (f ∷ after))
        ∙ sym (append_assoc objects (owners_in before) (owners_in (f ∷ after)))
        ∙ ap (λ (xs : List (Option ℕ)). (objects ++ owners_in before) ++ xs) (append_assoc (map Some (own_tokens f)) (nobody (1 + room_in f.body)) (owners_in after))
        ∙ sym (append_assoc (objects ++ owners_in before) (map Some (own_tokens f)) (nobody (1 + room_in f.body) ++ owners_in after))

    place : length p.objects + cells_before before + length (own_tokens f) + i ≡ length front + i
    place =
        omega (arith, length-append (objects ++ owners_in before) (map Some (own_tokens f)), length-append objects (owners_in before), length-object-owners p.objects, length-owners before, length-map-some (own_tokens f))

-- no variable has a cell that nobody owns
pub homes-apart : (owners : List (Option ℕ)) (c token : ℕ) → slice_get owners c ≡ Some None → home_in owners token ≡ c → ⊥
homes-apart owners c token free e = go (is_declared owners token) refl
  where
    go : (t : Bool) → is_declared owners token ≡ t → ⊥
    go true x =
        let f : Found owners 0 token = found owners 0 token x in
        let same : f.place ≡ c = omega (arith, f.home, e) in
        grind (arith, free, f.stands, ap (λ (j : ℕ). slice_get owners j) same)
    go false x =
        let h : home_in owners token ≡ 0 + length owners + token = beyond owners 0 token x in
        let low : c < length owners = slice_get_within owners c None free in
        omega (arith, h, e, low)

-- the link and the temporaries of a function may be used in its mode
pub frame-fits : (is_loose : Class → Bool) (p : Program) (before after : List Function) (f : Function) → is_loose Verified ≡ false → is_loose Private ≡ false → p.functions ≡ before ++ f ∷ after →
    FitsFrame (world is_loose p) (frame_of (length p.objects + cells_before before) f)
unfolding world
frame-fits is_loose p before after f verified private e = record { temps = λ c low high. temp c low high }
  where
    loose : (t : Bool) → is_loose (class_for t) ≡ false
    loose true = private
    loose false = verified

    hidden : (t : Bool) → is_shared (class_for t) ≡ false
    hidden true = refl
    hidden false = refl

    reads : (t : Bool) → rights (mode_of t) (class_for t) Read ≡ true
    reads true = refl
    reads false = refl

    writes : (t : Bool) → rights (mode_of t) (class_for t) Write ≡ true
    writes true = refl
    writes false = refl

    temp : (c : ℕ) → length p.objects + cells_before before + length (own_tokens f) ≤ c → c ≤ length p.objects + cells_before before + length (own_tokens f) + room_in f.body → IsTemp (world is_loose p) f.private c
    temp c low high = record {
      one = ap words_in cell;
      held = ap (λ (x : Option Cell). is_loose (class_in x)) cell ∙ loose f.private;
      hidden = ap (λ (x : Option Cell). is_shared (class_in x)) cell ∙ hidden f.private;
      readable = ap (λ (x : Option Cell). rights (mode_of f.private) (class_in x) Read) cell ∙ reads f.private;
      writable = ap (λ (x : Option Cell). rights (mode_of f.private) (class_in x) Write) cell ∙ writes f.private;
      apart = λ t h. homes-apart (owners_of p) c t owner h;
    }
      where
        i : ℕ
        i = c - (length p.objects + cells_before before)

        j : ℕ
        j = c - (length p.objects + cells_before before + length (own_tokens f))

        cell : slice_get (cells_of p) c ≡ Some (record { class = class_for f.private; words = 1; first = [] })
        cell =
            let s : c ≡ length p.objects + cells_before before + i = omega (arith, low) in
            ap (λ (x : ℕ). slice_get (cells_of p) x) s ∙ cell-at p before after f i e (omega (arith, low, high))

        owner : slice_get (owners_of p) c ≡ Some None
        owner =
            let s : c ≡ length p.objects + cells_before before + length (own_tokens f) + j = omega (arith, low) in
            ap (λ (x : ℕ). slice_get (owners_of p) x) s ∙ owner-at p before after f j e (omega (arith, low, high))
