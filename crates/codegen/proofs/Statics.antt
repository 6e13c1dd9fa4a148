-- The words of an image before the first step.
use Rattle.std.proofs.Common.{◌≡◌, ℕ, zero, suc, ◌+◌, ◌-◌, ◌*◌, ◌/◌, ◌^◌, ◌<◌, ◌≤◌, Bool, true, false, cond, ◌==◌, ◌&&◌, nat_le, nat_lt, if◌then◌else◌, List, [], ◌∷◌, ◌++◌, length, map, take, replicate, Option, Some, None, arith, refl, ◌∙◌, ap, subst, append_assoc}
use Rattle.std.proofs.lemmas.Bool.{eqb-true, leb-true, leb-false, ltb-true, ltb-false}
use Rattle.std.proofs.lemmas.List.Sums.{sum_by-cons}
use Rattle.std.specs.Prelude.{slice_index}
use Rattle.std.specs.List.{slice_get, AllByRecursion}
use Rattle.std.specs.Int.{w32, to_be_bytes}
use Rattle.regions.specs.declared.Class.{Class}
use Rattle.regions.specs.declared.Class.TheVariants.{Open, Verified, Private, Constant, Code, Logged}
use Rattle.regions.specs.declared.Layout.{Layout}
use Rattle.regions.specs.Addresses.{class_at, start_of, end_of, LiesIn}
use Rattle.regions.proofs.AddressLaws.{LiesIn-class_at, class_at-LiesIn}
use Rattle.orbis_word.specs.declared.Instr.{Instr}
use Rattle.orbis_word.specs.Reading.{instruction_in}
use Rattle.orbis_core.specs.ByteOrder.{bytes_of, words_in}
use Rattle.orbis_core.specs.Ideal.{static_memory}
use Rattle.orbis_core.proofs.FlatLaws.{words_in-bytes_of}
use Rattle.ir_code.specs.declared.Cell.{Cell}
use Rattle.ir_code.specs.Lawful.{all_hold, has_first, is_constant}
use Rattle.region_plan.specs.Homes.{class_words, words_for}
use Rattle.codegen.specs.ImageCode.{constant_words}
use Rattle.codegen.specs.EmittedImage.{HasFirstWords}
use Rattle.codegen.proofs.Comes.{World, StandAll}

-- ---- lists

pub index-after : (front rest : List ℕ) (k : ℕ) → slice_index (front ++ rest) (length front + k) ≡ slice_index rest k
index-after [] rest k = ap (λ (n : ℕ). slice_index rest n) (omega arith)
index-after (x ∷ front) rest k =
    let e : length (x ∷ front) + k ≡ suc (length front + k) = omega arith in
    ap (λ (n : ℕ). slice_index (x ∷ (front ++ rest)) n) e ∙ index-after front rest k

pub index-within : (front rest : List ℕ) (k : ℕ) → k < length front → slice_index (front ++ rest) k ≡ slice_index front k
index-within [] rest k below = absurd (omega (arith, below))
index-within (x ∷ front) rest zero below = refl
index-within (x ∷ front) rest (suc k) below = index-within front rest k (omega (arith, below))

bytes-join : (xs ys : List ℕ) → bytes_of xs ++ bytes_of ys ≡ bytes_of (xs ++ ys)
bytes-join [] ys = refl
bytes-join (x ∷ xs) ys = append_assoc (to_be_bytes w32 x) (bytes_of xs) (bytes_of ys) ∙ ap (λ (t : List ℕ). to_be_bytes w32 x ++ t) (bytes-join xs ys)

pub all-join : (P : ℕ → Type 0) (xs ys : List ℕ) → AllByRecursion P xs → AllByRecursion P ys → AllByRecursion P (xs ++ ys)
all-join P [] ys all all' = all'
all-join P (x ∷ xs) ys all all' = (all.0, all-join P xs ys all.1 all')

all-zeros : (n : ℕ) → AllByRecursion (λ word. word < 2 ^ 32) (replicate n 0)
all-zeros zero = tt
all-zeros (suc n) = (omega arith, all-zeros n)

pub bytes-small : (words : List ℕ) → AllByRecursion (λ byte. byte < 2 ^ 8) (bytes_of words)
bytes-small [] = tt
bytes-small (word ∷ words) =
    all-join (λ byte. byte < 2 ^ 8) (to_be_bytes w32 word) (bytes_of words) (omega arith, (omega arith, (omega arith, (omega arith, tt)))) (bytes-small words)

pub empty-index : (xs : List ℕ) (i : ℕ) → length xs ≡ 0 → slice_index xs i ≡ 0
empty-index [] i none = refl
empty-index (x ∷ xs) i none = absurd (omega (arith, none))

constants-small : (cells : List Cell) → HasFirstWords cells → AllByRecursion (λ word. word < 2 ^ 32) (constant_words cells)
constants-small [] h = tt
constants-small (cell ∷ cells) h = all-join (λ word. word < 2 ^ 32) (cond (is_constant cell.class) cell.first []) (constant_words cells) (go (is_constant cell.class)) (constants-small cells h.1)
  where
    go : (t : Bool) → AllByRecursion (λ word. word < 2 ^ 32) (cond t cell.first [])
    go true = h.0
    go false = tt

all-front : (P : ℕ → Type 0) (xs ys : List ℕ) → AllByRecursion P (xs ++ ys) → AllByRecursion P xs
all-front P [] ys all = tt
all-front P (x ∷ xs) ys all = (all.0, all-front P xs ys all.1)

all-back : (P : ℕ → Type 0) (xs ys : List ℕ) → AllByRecursion P (xs ++ ys) → AllByRecursion P ys
all-back P [] ys all = all
all-back P (x ∷ xs) ys all = all-back P xs ys all.1

none-small : (xs : List ℕ) → length xs ≡ 0 → AllByRecursion (λ word. word < 2 ^ 32) xs
none-small [] none = tt
none-small (x ∷ xs) none = absurd (omega (arith, none))

and-first : (s t : Bool) → (s && t) ≡ true → s ≡ true
and-first true t e = refl
and-first false t e = e

and-second : (s t : Bool) → (s && t) ≡ true → t ≡ true
and-second true t e = e
and-second false t e = absurd (grind (arith, e))

-- where the constants are words, so are the first words of all cells, as only constants have some
pub first-words : (cells : List Cell) → all_hold has_first cells ≡ true → AllByRecursion (λ word. word < 2 ^ 32) (constant_words cells) → HasFirstWords cells
first-words [] firsts all = tt
first-words (cell ∷ cells) firsts all = (
  go (is_constant cell.class) (and-first (has_first cell) (all_hold has_first cells) firsts)
      (all-front (λ word. word < 2 ^ 32) (cond (is_constant cell.class) cell.first []) (constant_words cells) all),
  first-words cells (and-second (has_first cell) (all_hold has_first cells) firsts)
      (all-back (λ word. word < 2 ^ 32) (cond (is_constant cell.class) cell.first []) (constant_words cells) all),
)
  where
    go : (t : Bool) → cond t (length cell.first == cell.words) (length cell.first == 0) ≡ true → AllByRecursion (λ word. word < 2 ^ 32) (cond t cell.first []) →
        AllByRecursion (λ word. word < 2 ^ 32) cell.first
    go true e own = own
    go false e own = none-small cell.first (eqb-true (length cell.first) 0 e)

-- the words of an image's bytes
pub image-words : (cells : List Cell) (n : ℕ) (code : List ℕ) → HasFirstWords cells → AllByRecursion (λ word. word < 2 ^ 32) code →
    words_in (bytes_of (constant_words cells ++ replicate n 0) ++ bytes_of code) ≡ (constant_words cells ++ replicate n 0) ++ code
image-words cells n code first small =
    let xs : List ℕ = constant_words cells ++ replicate n 0 in
    ap words_in (bytes-join xs code)
    ∙ words_in-bytes_of (xs ++ code) (all-join (λ word. word < 2 ^ 32) xs code (all-join (λ word. word < 2 ^ 32) (constant_words cells) (replicate n 0) (constants-small cells first) (all-zeros n)) small)

-- ---- constants

first-of : (s t : Bool) → (s && t) ≡ true → s ≡ true
first-of true t e = refl
first-of false t e = e

second-of : (s t : Bool) → (s && t) ≡ true → t ≡ true
second-of true t e = e
second-of false t e = absurd (grind (arith, e))

own-words : (cell : Cell) → has_first cell ≡ true → length (cond (is_constant cell.class) cell.first []) ≡ words_for Constant cell
own-words cell e = go cell.class e
  where
    go : (class : Class) → cond (is_constant class) (length cell.first == cell.words) (length cell.first == 0) ≡ true →
        length (cond (is_constant class) cell.first []) ≡ words_for Constant (record cell { class = class })
    go Open e = refl
    go Verified e = refl
    go Private e = refl
    go Constant e = eqb-true (length cell.first) cell.words e
    go Code e = refl
    go Logged e = refl

some-cell : (one other : Cell) → Some one ≡ Some other → one ≡ other
some-cell one other e = cc

no-cell : (cell : Cell) → None ≡ Some cell → ⊥
no-cell cell e = absurd (grind (arith, e))

-- the first words of a constant stand after those of the constants before it
pub constant-at : (cells : List Cell) (c i : ℕ) (cell : Cell) (rest : List ℕ) → slice_get cells c ≡ Some cell → is_constant cell.class ≡ true → i < length cell.first → all_hold has_first cells ≡ true →
    slice_index (constant_words cells ++ rest) (class_words Constant (take c cells) + i) ≡ slice_index cell.first i
constant-at [] c i cell rest there constant below firsts = absurd (no-cell cell there)
constant-at (x ∷ cells) zero i cell rest there constant below firsts =
    let same : x ≡ cell = some-cell x cell there in
    let own : cond (is_constant x.class) x.first [] ≡ cell.first =
    ap (λ (y : Cell). cond (is_constant y.class) y.first []) same ∙ ap (λ (t : Bool). cond t cell.first []) constant in
    let none : class_words Constant (take zero (x ∷ cells)) + i ≡ i = omega arith in
    ap (λ (n : ℕ). slice_index ((cond (is_constant x.class) x.first [] ++ constant_words cells) ++ rest) n) none
    ∙ ap (λ (t : List ℕ). slice_index t i) (append_assoc (cond (is_constant x.class) x.first []) (constant_words cells) rest)
    ∙ ap (λ (t : List ℕ). slice_index (t ++ (constant_words cells ++ rest)) i) own
    ∙ index-within cell.first (constant_words cells ++ rest) i below
constant-at (x ∷ cells) (suc c) i cell rest there constant below firsts =
    let front : List ℕ = cond (is_constant x.class) x.first [] in
    let own : length front ≡ words_for Constant x = own-words x (first-of (has_first x) (all_hold has_first cells) firsts) in
    let split : class_words Constant (take (suc c) (x ∷ cells)) ≡ words_for Constant x + class_words Constant (take c cells) = sum_by-cons (words_for Constant) x (take c cells) in
    let place : class_words Constant (take (suc c) (x ∷ cells)) + i ≡ length front + (class_words Constant (take c cells) + i) = omega (arith, own, split) in
    ap (λ (n : ℕ). slice_index ((front ++ constant_words cells) ++ rest) n) place
    ∙ ap (λ (t : List ℕ). slice_index t (length front + (class_words Constant (take c cells) + i))) (append_assoc front (constant_words cells) rest)
    ∙ index-after front (constant_words cells ++ rest) (class_words Constant (take c cells) + i)
    ∙ constant-at cells c i cell rest there constant below (second-of (has_first x) (all_hold has_first cells) firsts)

-- ---- the memory before the first step

module _ (layout : Layout) (statics : List ℕ) where
  pub static-inside : (at k : ℕ) → at ≡ start_of layout Constant + 4 * k → k < 16 * (layout.constants + layout.code) → static_memory layout statics at ≡ slice_index (words_in statics) k
  static-inside at k is below =
      let index : (at - start_of layout Constant) / 4 ≡ k = omega (arith, is) in
      go (nat_le (start_of layout Constant) at) refl (nat_lt at (end_of layout Code)) refl index
    where
      go : (t : Bool) → nat_le (start_of layout Constant) at ≡ t → (u : Bool) → nat_lt at (end_of layout Code) ≡ u → (at - start_of layout Constant) / 4 ≡ k →
          (if t && u then slice_index (words_in statics) ((at - start_of layout Constant) / 4) else 0) ≡ slice_index (words_in statics) k
      go true e true e' index = ap (λ (n : ℕ). slice_index (words_in statics) n) index
      go false e u e' index = absurd (let high : at < start_of layout Constant = leb-false (start_of layout Constant) at e in omega (arith, is, high))
      go true e false e' index = absurd (let low : end_of layout Code ≤ at = ltb-false at (end_of layout Code) e' in omega (arith, is, below, low))

  pub static-outside : (at : ℕ) (class : Class) → class_at layout at ≡ Some class → (class ≡ Constant → ⊥) → (class ≡ Code → ⊥) → static_memory layout statics at ≡ 0
  static-outside at class is none other = go (nat_le (start_of layout Constant) at) refl (nat_lt at (end_of layout Code)) refl
    where
      away : (class : Class) → class_at layout at ≡ Some class → (class ≡ Constant → ⊥) → (class ≡ Code → ⊥) → layout.verified + layout.private + layout.constants + layout.code ≤ 6561 →
          start_of layout Constant ≤ at → at < end_of layout Code → ⊥
      away Open is none other most from to = let lies : LiesIn layout Open at = LiesIn-class_at layout at Open is in omega (arith, lies, from)
      away Verified is none other most from to = let lies : LiesIn layout Verified at = LiesIn-class_at layout at Verified is in omega (arith, lies, from)
      away Private is none other most from to = let lies : LiesIn layout Private at = LiesIn-class_at layout at Private is in omega (arith, lies, from)
      away Constant is none other most from to = none refl
      away Code is none other most from to = other refl
      away Logged is none other most from to = let lies : LiesIn layout Logged at = LiesIn-class_at layout at Logged is in omega (arith, lies, to, most)

      go : (t : Bool) → nat_le (start_of layout Constant) at ≡ t → (u : Bool) → nat_lt at (end_of layout Code) ≡ u →
          (if t && u then slice_index (words_in statics) ((at - start_of layout Constant) / 4) else 0) ≡ 0
      go true e true e' = absurd (away class is none other layout.data_fits (leb-true (start_of layout Constant) at e) (ltb-true at (end_of layout Code) e'))
      go false e u e' = refl
      go true e false e' = refl

-- ---- code

module _ (w : World) where
  head-same : (a b : Option Instr) (one other : List (Option Instr)) → a ∷ one ≡ b ∷ other → (a ≡ b) × (one ≡ other)
  head-same a b one other e = ((cc), (cc))

  -- words that decode to instructions have their code
  pub words-stand : (words : List ℕ) (is : List Instr) (k : ℕ) → map instruction_in words ≡ map Some is → k + length words ≤ 16 * w.layout.code →
      ((j : ℕ) → j < length words → w.static (start_of w.layout Code + 4 * (k + j)) ≡ slice_index words j) → StandAll w (start_of w.layout Code + 4 * k) is (start_of w.layout Code + 4 * (k + length is))
  words-stand [] [] k e few there = omega arith
  words-stand [] (i ∷ is) k e few there = absurd (grind (arith, e))
  words-stand (word ∷ words) [] k e few there = absurd (grind (arith, e))
  words-stand (word ∷ words) (i ∷ is) k e few there =
      let both = head-same (instruction_in word) (Some i) (map instruction_in words) (map Some is) e in
      let at : ℕ = start_of w.layout Code + 4 * k in
      let same : at ≡ start_of w.layout Code + 4 * (k + 0) = omega arith in
      let next : start_of w.layout Code + 4 * (k + 1) ≡ at + 4 = omega arith in
      let end : start_of w.layout Code + 4 * (k + 1 + length is) ≡ start_of w.layout Code + 4 * (k + length (i ∷ is)) = omega arith in (
        record {
          code = class_at-LiesIn w.layout at Code (omega arith, omega (arith, few));
          aligned = omega arith;
          is = ap (λ (n : ℕ). instruction_in (w.static n)) same ∙ ap instruction_in (there 0 (omega arith)) ∙ both.0;
        },
        subst (λ (n : ℕ). StandAll w n is (start_of w.layout Code + 4 * (k + length (i ∷ is)))) next
            (subst (λ (n : ℕ). StandAll w (start_of w.layout Code + 4 * (k + 1)) is n) end
            (words-stand words is (k + 1) both.1 (omega (arith, few))
            (λ j below. ap (λ (n : ℕ). w.static (start_of w.layout Code + 4 * n)) (let f : k + 1 + j ≡ k + suc j = omega arith in f) ∙ there (suc j) (omega (arith, below))))),
      )
