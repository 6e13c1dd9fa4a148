-- What others see written is written where the address map says.
use Rattle.std.proofs.Common.{◌≡◌, ℕ, zero, suc, ◌+◌, ◌<◌, Bool, true, false, cond, ◌==◌, nat_lt, List, [], ◌∷◌, ◌++◌, map, Option, Some, None, option_map, arith, refl, sym, ◌∙◌, ap}
use Rattle.std.proofs.lemmas.Bool.{eq-eqb, eqb-true, lt-ltb}
use Rattle.std.specs.List.{slice_get, AllByRecursion}
use Rattle.execution.specs.Traffic.{Element, Entry}
use Rattle.execution.specs.Naming.{entry_named}
use Rattle.execution.proofs.NamingLemmas.{element-name}
use Rattle.regions.specs.declared.Class.{Class}
use Rattle.regions.specs.declared.Class.TheVariants.{Open}
use Rattle.regions.specs.declared.Layout.{Layout}
use Rattle.c_grammar.specs.declared.item.Program.{Program}
use Rattle.c_resolver.specs.Resolving.{plain_program}
use Rattle.c_semantics.specs.ProgramShape.{word_count}
use Rattle.c_semantics.specs.ResolvedTree.{Function, Object}
use Rattle.ir_code.specs.declared.Cell.{Cell}
use Rattle.ir_code.specs.FlatStates.{class_in, words_in, words_of}
use Rattle.lowering.specs.Cells.{cell_count, cells_of, class_for, function_cells, home_of, object_cell, object_cells, source_element, words}
use Rattle.lowering.specs.Lowering.{lowered}
use Rattle.secure_split.specs.SplitLaws.{HasSourceCells}
use Rattle.region_plan.specs.Homes.{home_address}
use Rattle.codegen.specs.EmittedImage.{address_name, elements_from}
use Rattle.compiler.specs.Places.{HasPlaces, element_at, place, place_after, place_among}
use Rattle.compiler.proofs.Placed.{AreKept, are-kept}
use Rattle.compiler.proofs.Written.{IsOpenCell}

-- ---- shared cells are those of objects

not-open : (t : Bool) → class_for t ≡ Open → ⊥
not-open true e = absurd (grind (arith, e))
not-open false e = absurd (grind (arith, e))

words-closed : (t : Bool) (n : ℕ) (rest : List Cell) (c : ℕ) → ((d : ℕ) → class_in (slice_get rest d) ≡ Open → ⊥) → class_in (slice_get (words (class_for t) n ++ rest) c) ≡ Open → ⊥
words-closed t zero rest c later e = later c e
words-closed t (suc n) rest zero later e = not-open t e
words-closed t (suc n) rest (suc c) later e = words-closed t n rest c later e

functions-closed : (fs : List Function) (c : ℕ) → class_in (slice_get (function_cells fs) c) ≡ Open → ⊥
functions-closed [] c e = absurd (grind (arith, e))
functions-closed (f ∷ fs) c e = words-closed f.private (cell_count f) (function_cells fs) c (functions-closed fs) e

record IsObjectCell (objects : List Object) (c : ℕ) : Type 0 where
  object : Object
  there : slice_get objects c ≡ Some object

open-object : (objects : List Object) (fs : List Function) (c : ℕ) → class_in (slice_get (object_cells objects ++ function_cells fs) c) ≡ Open → IsObjectCell objects c
open-object [] fs c e = absurd (functions-closed fs c e)
open-object (o ∷ objects) fs zero e = record { object = o; there = refl }
open-object (o ∷ objects) fs (suc c) e = let h : IsObjectCell objects c = open-object objects fs c e in record { object = h.object; there = h.there }

-- ---- the map finds each element of an object

record HasPlace (found : Option ℕ) : Type 0 where
  address : ℕ
  is : found ≡ Some address

-- where each object's token leads to its number, the first of these being this one
finds : (home : ℕ → ℕ) (layout : Layout) (before objects : List Object) (n c i : ℕ) (o : Object) → ((k : ℕ) (x : Object) → slice_get objects k ≡ Some x → home x.variable.token ≡ n + k) → AreKept objects →
    slice_get objects c ≡ Some o → i < word_count o.length → HasPlace (place_among layout before objects (record { variable = o.variable.token; index = i }))
finds home layout before [] n c i o homes kept there below = absurd (grind (arith, there))
finds home layout before (x ∷ objects) n zero i o homes kept there below =
    let same : x ≡ o = cc in
    let token : (x.variable.token == o.variable.token) ≡ true = eq-eqb x.variable.token o.variable.token (ap (λ (y : Object). y.variable.token) same) in
    let inside : nat_lt i (word_count x.length) ≡ true = ap (λ (y : Object). nat_lt i (word_count y.length)) same ∙ lt-ltb i (word_count o.length) below in
    record {
      address = place_after layout before i kept.0.class;
      is = ap (λ (t : Bool). cond t (cond (nat_lt i (word_count x.length)) (option_map (place_after layout before i) x.variable.class) None) (place_among layout (before ++ (x ∷ [])) objects (record { variable = o.variable.token; index = i }))) token
          ∙ ap (λ (t : Bool). cond t (option_map (place_after layout before i) x.variable.class) None) inside
          ∙ ap (λ (k : Option Class). option_map (place_after layout before i) k) kept.0.is;
    }
finds home layout before (x ∷ objects) n (suc c) i o homes kept there below =
    go (x.variable.token == o.variable.token) refl
    (finds home layout (before ++ (x ∷ [])) objects (n + 1) c i o (λ k y h. (let e : home y.variable.token ≡ n + suc k = homes (suc k) y h in omega (arith, e))) kept.1 there below)
  where
    go : (t : Bool) → (x.variable.token == o.variable.token) ≡ t → HasPlace (place_among layout (before ++ (x ∷ [])) objects (record { variable = o.variable.token; index = i })) →
        HasPlace (cond t (cond (nat_lt i (word_count x.length)) (option_map (place_after layout before i) x.variable.class) None) (place_among layout (before ++ (x ∷ [])) objects (record { variable = o.variable.token; index = i })))
    go false e later = later
    go true e later =
        absurd (
        let one : home x.variable.token ≡ n + 0 = homes 0 x refl in
        let other : home o.variable.token ≡ n + suc c = homes (suc c) o there in
        let same : home x.variable.token ≡ home o.variable.token = ap home (eqb-true x.variable.token o.variable.token e) in
        omega (arith, one, other, same)
        )

module _ (p : Program) (layout : Layout) (has : HasSourceCells p (lowered (plain_program p))) (places : HasPlaces p layout) where
  -- the address of an element of a shared cell is that of the element of the source for which it is
  pub open-placed : (e : Element) → IsOpenCell (lowered (plain_program p)) e →
      place p layout (element_at p layout (address_name layout (lowered (plain_program p)) e)) ≡ Some (address_name layout (lowered (plain_program p)) e)
  open-placed e h =
      let found : IsObjectCell (plain_program p).objects e.variable = open-object (plain_program p).objects (plain_program p).functions e.variable h.class in
      let o : Object = found.object in
      let listed = has.listed.objects e.variable o found.there in
      let cell : slice_get (lowered (plain_program p)).cells e.variable ≡ Some (object_cell o) = listed.0 in
      let home : home_of (plain_program p) o.variable.token ≡ e.variable = listed.1 in
      let words : words_of (lowered (plain_program p)) e.variable ≡ word_count o.length = ap words_in cell in
      let below : e.index < word_count o.length = omega (arith, h.inside, words) in
      let s : Element = record { variable = o.variable.token; index = e.index } in
      let source : source_element (plain_program p) e ≡ s = ap (λ (c : ℕ). source_element (plain_program p) (record { variable = c; index = e.index })) (sym home) ∙ has.named s in
      let at : element_at p layout (address_name layout (lowered (plain_program p)) e) ≡ s = ap (source_element (plain_program p)) (element-name (elements_from (home_address layout (lowered (plain_program p))) 0 (cells_of (plain_program p))) e) ∙ source in
      let placed : HasPlace (place p layout s) =
      finds (home_of (plain_program p)) layout [] (plain_program p).objects 0 e.variable e.index o
      (λ k x there. (let leads : home_of (plain_program p) x.variable.token ≡ k = (has.listed.objects k x there).1 in omega (arith, leads))) (are-kept p.items) found.there below in
      let address : address_name layout (lowered (plain_program p)) e ≡ placed.address =
      sym (ap (λ (c : ℕ). address_name layout (lowered (plain_program p)) (record { variable = c; index = e.index })) home) ∙ places.mapped s placed.address placed.is in
      ap (place p layout) at ∙ placed.is ∙ ap (λ (a : ℕ). Some a) (sym address)

  abbrev IsPlaced : Entry ℕ → Type 0
  IsPlaced w = place p layout (element_at p layout w.place) ≡ Some w.place

  -- so are those of a list of words at them
  pub all-placed : (ws : List (Entry Element)) → AllByRecursion (λ (w : Entry Element). IsOpenCell (lowered (plain_program p)) w.place) ws → AllByRecursion IsPlaced (map (entry_named (address_name layout (lowered (plain_program p)))) ws)
  all-placed [] all = tt
  all-placed (w ∷ ws) all = (open-placed w.place all.0, all-placed ws all.1)

  pub front-placed : (xs ys : List (Entry ℕ)) → AllByRecursion IsPlaced (xs ++ ys) → AllByRecursion IsPlaced xs
  front-placed [] ys all = tt
  front-placed (x ∷ xs) ys all = (all.0, front-placed xs ys all.1)
