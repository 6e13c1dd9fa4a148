-- The cell of each variable starts as the variable does.
use Rattle.std.proofs.Common.{◌≡◌, ℕ, zero, suc, ◌+◌, ◌≤◌, Bool, true, false, cond, ◌==◌, List, [], ◌∷◌, ◌++◌, length, map, slice_index, Option, Some, None, arith, refl, sym, ◌∙◌, ap}
use Rattle.std.specs.List.{slice_get}
use Rattle.regions.specs.declared.rights.Class.{Class}
use Rattle.regions.specs.declared.rights.Class.TheVariants.{Open, Verified, Private, Constant, Code, Logged}
use Rattle.c_semantics.specs.Meaning.{first_memory}
use Rattle.c_semantics.specs.ProgramShape.{AreObjectsShaped, word_count}
use Rattle.c_semantics.specs.ResolvedTree.{Function, Object, Program}
use Rattle.ir_code.specs.declared.code.Cell.{Cell}
use Rattle.ir_code.specs.FlatStates.{Held, Word, first_in}
use Rattle.lowering.specs.Cells.{is_for, home_from, words, class_for, cell_count, function_cells, filled_up, first_for, class_or_verified, object_cell, object_cells, owners_in}
use Rattle.lowering.specs.LoweringLaws.{StartsWith, StartPlainly, Starts}

-- a home counts from the first cell
home-later : (owners : List (Option ℕ)) (c token : ℕ) → home_from (c + 1) owners token ≡ suc (home_from c owners token)
home-later [] c token = omega arith
home-later (owner ∷ owners) c token = go (is_for token owner) (home-later owners (c + 1) token)
  where
    go : (t : Bool) → home_from (c + 1 + 1) owners token ≡ suc (home_from (c + 1) owners token) → cond t (c + 1) (home_from (c + 1 + 1) owners token) ≡ suc (cond t c (home_from (c + 1) owners token))
    go true later = omega arith
    go false later = later

-- ---- cells of functions start at zero

words-start : (class : Class) (n i : ℕ) (rest : List Cell) → ((c : ℕ) → first_in (slice_get rest c) i ≡ Word 0) → (c : ℕ) → first_in (slice_get (words class n ++ rest) c) i ≡ Word 0
words-start class zero i rest h c = h c
words-start class (suc n) i rest h zero = refl
words-start class (suc n) i rest h (suc c) = words-start class n i rest h c

functions-start : (fs : List Function) (i c : ℕ) → first_in (slice_get (function_cells fs) c) i ≡ Word 0
functions-start [] i c = refl
functions-start (f ∷ fs) i c = words-start (class_for f.private) (cell_count f) i (function_cells fs) (functions-start fs i) c

-- ---- objects start with their words

filled-start : (n : ℕ) (first : List ℕ) (i : ℕ) → length first ≤ n → slice_index (filled_up n first) i ≡ slice_index first i
filled-start zero [] i few = refl
filled-start zero (word ∷ first) i few = absurd (omega (arith, few))
filled-start (suc n) [] zero few = refl
filled-start (suc n) [] (suc i) few = filled-start n [] i (omega arith)
filled-start (suc n) (word ∷ first) zero few = refl
filled-start (suc n) (word ∷ first) (suc i) few = filled-start n first i (omega (arith, few))

first-start : (class : Option Class) (n : ℕ) (first : List ℕ) (i : ℕ) → length first ≤ n → StartsWith class first → slice_index (first_for (class_or_verified class) n first) i ≡ slice_index first i
first-start (Some Constant) n first i few h = filled-start n first i few
first-start None n first i few h = ap (λ (xs : List ℕ). slice_index xs i) (sym h)
first-start (Some Open) n first i few h = ap (λ (xs : List ℕ). slice_index xs i) (sym h)
first-start (Some Verified) n first i few h = ap (λ (xs : List ℕ). slice_index xs i) (sym h)
first-start (Some Private) n first i few h = ap (λ (xs : List ℕ). slice_index xs i) (sym h)
first-start (Some Code) n first i few h = ap (λ (xs : List ℕ). slice_index xs i) (sym h)
first-start (Some Logged) n first i few h = ap (λ (xs : List ℕ). slice_index xs i) (sym h)

start-of : (fs : List Function) (os : List Object) (token i : ℕ) → AreObjectsShaped os → StartPlainly os →
    first_in (slice_get (object_cells os ++ function_cells fs) (home_from 0 (map (λ (o : Object). Some o.variable.token) os ++ owners_in fs) token)) i ≡ Word (first_memory os token i)
start-of fs [] token i shaped plainly = functions-start fs i _
start-of fs (o ∷ os) token i shaped plainly = go (o.variable.token == token) (start-of fs os token i shaped.1 plainly.1)
  where
    later : List (Option ℕ)
    later = map (λ (x : Object). Some x.variable.token) os ++ owners_in fs

    cells : List Cell
    cells = object_cells os ++ function_cells fs

    go : (t : Bool) → first_in (slice_get cells (home_from 0 later token)) i ≡ Word (first_memory os token i) →
        first_in (slice_get (object_cell o ∷ cells) (cond t 0 (home_from 1 later token))) i ≡ Word (cond t (slice_index o.first i) (first_memory os token i))
    go true h = ap (λ (word : ℕ). Word word) (first-start o.variable.class (word_count o.length) o.first i shaped.0.words plainly.0)
    go false h = ap (λ (c : ℕ). first_in (slice_get (object_cell o ∷ cells) c) i) (home-later later 0 token) ∙ h

pub starts-plainly : (p : Program) → AreObjectsShaped p.objects → StartPlainly p.objects → Starts p
starts-plainly p shaped plainly token i = start-of p.functions p.objects token i shaped plainly
