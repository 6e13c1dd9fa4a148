-- What follows of the homes of cells, for proofs here and in the crates above.
use Rattle.std.proofs.Common.{◌≡◌, ℕ, suc, zero, ◌+◌, ◌*◌, ◌%◌, ◌^◌, ◌<◌, ◌≤◌, Bool, true, false, cond, not, ◌&&◌, List, [], ◌∷◌, ◌++◌, length, take, get_or, Option, Some, None, ◌⊎◌, inl, inr, arith, refl, sym, ap, subst, ◌∙◌, length-append}
use Rattle.std.proofs.lemmas.List.{take_more, take-take}
use Rattle.std.proofs.lemmas.List.Sums.{sum_by_push, sum_by-take-le}
use Rattle.std.proofs.lemmas.Option.{same_Some, slice_get_read, slice_get_within, slice_get-get_or, get_or_from_slice_get}
use Rattle.std.specs.List.{slice_get}
use Rattle.regions.specs.declared.layout.Layout.{Layout}
use Rattle.regions.specs.declared.rights.Class.{Class}
use Rattle.regions.specs.declared.rights.Class.TheVariants.{Open, Verified, Private, Constant, Code, Logged}
use Rattle.regions.specs.Addresses.{LiesIn, start_of, end_of, class_at}
use Rattle.regions.proofs.AddressLaws.{class_at-LiesIn}
use Rattle.ir_code.specs.declared.code.Cell.{Cell}
use Rattle.ir_code.specs.declared.code.Ir.{Ir}
use Rattle.ir_code.specs.FlatStates.{words_in, class_in, words_of, class_of}
use Rattle.ir_code.specs.Lawful.{all_hold, is_code, is_data}
use Rattle.region_plan.specs.Homes.{is_same_class, words_for, class_words, first_address, home_address, word_address, HasSizes, WordsAreApart, WordsKeepClasses, WordsAreAligned}

pub same_class-itself : (class : Class) → is_same_class class class ≡ true
same_class-itself Open = refl
same_class-itself Verified = refl
same_class-itself Private = refl
same_class-itself Constant = refl
same_class-itself Code = refl
same_class-itself Logged = refl

-- the words before the next cell are those before this one and its own
pub class_words-more : (class : Class) (cells : List Cell) (c : ℕ) (d : Cell) → c < length cells →
    class_words class (take (c + 1) cells) ≡ class_words class (take c cells) + words_for class (get_or cells c d)
class_words-more class cells c d inside =
    ap (class_words class) (take_more cells c d inside) ∙ sum_by_push (words_for class) (take c cells) (get_or cells c d)

-- a cell adds no more words to a class than it has
cond-le : (b : Bool) (n : ℕ) → cond b n 0 ≤ n
cond-le true n = omega arith
cond-le false n = omega arith

pub words_for-le : (class : Class) (cell : Cell) → words_for class cell ≤ cell.words
words_for-le class cell = cond-le (is_same_class class cell.class) cell.words

-- fewer cells have no more words
pub class_words-le : (class : Class) (cells : List Cell) (c d : ℕ) → c ≤ d → class_words class (take c cells) ≤ class_words class (take d cells)
class_words-le class cells c d le =
    subst (λ (front : List Cell). class_words class front ≤ class_words class (take d cells)) (take-take c d cells le) (sum_by-take-le (words_for class) (take d cells) c)

-- ---- tests of all

first-of : (s t : Bool) → (s && t) ≡ true → s ≡ true
first-of true t e = refl
first-of false t e = absurd (grind (arith, e))

second-of : (s t : Bool) → (s && t) ≡ true → t ≡ true
second-of true t e = e
second-of false t e = absurd (grind (arith, e))

true-false : true ≡ false → ⊥
true-false e = cc

none-some : {A : Type 0} (x : A) → None ≡ Some x → ⊥
none-some x e = cc

-- a test of all holds of each
pub hold-at : {A : Type 0} → (test : A → Bool) (xs : List A) (i : ℕ) (x : A) → all_hold test xs ≡ true → slice_get xs i ≡ Some x → test x ≡ true
hold-at test [] i x all there = absurd (none-some x there)
hold-at test (y ∷ ys) zero x all there = ap test (sym (same_Some y x there)) ∙ first-of (test y) (all_hold test ys) all
hold-at test (y ∷ ys) (suc i) x all there = hold-at test ys i x (second-of (test y) (all_hold test ys) all) there

not-true : (b : Bool) → not b ≡ true → b ≡ false
not-true true e = absurd (grind (arith, e))
not-true false e = refl

-- ---- words of a cell

-- a cell with a word is there
pub record IsCell (ir : Ir) (c : ℕ) : Type 0 where
  pub cell : Cell
  pub there : slice_get ir.cells c ≡ Some cell
  pub words : words_of ir c ≡ cell.words
  pub class : class_of ir c ≡ cell.class

cell-in : (ir : Ir) (c i : ℕ) (found : Option Cell) → slice_get ir.cells c ≡ found → i < words_in found → IsCell ir c
cell-in ir c i None is inside = absurd (omega (arith, inside))
cell-in ir c i (Some cell) is inside = record { cell = cell; there = is; words = ap words_in is; class = ap class_in is }

pub cell-of : (ir : Ir) (c i : ℕ) → i < words_of ir c → IsCell ir c
cell-of ir c i inside = cell-in ir c i (slice_get ir.cells c) refl inside

-- the words of a cell come before those of the next cells of its class
pub words-before : (ir : Ir) (c d i : ℕ) → i < words_of ir c → c < d →
    class_words (class_of ir c) (take c ir.cells) + i < class_words (class_of ir c) (take d ir.cells)
words-before ir c d i inside less =
    let it = cell-of ir c i inside in
    let there : c < length ir.cells = slice_get_within ir.cells c it.cell it.there in
    let own : words_for (class_of ir c) it.cell ≡ it.cell.words =
    ap (λ (class : Class). words_for class it.cell) it.class ∙ ap (λ (same : Bool). cond same it.cell.words 0) (same_class-itself it.cell.class) in
    let read : get_or ir.cells c it.cell ≡ it.cell = get_or_from_slice_get ir.cells c it.cell it.cell it.there in
    let more = class_words-more (class_of ir c) ir.cells c it.cell there in
    let le = class_words-le (class_of ir c) ir.cells (c + 1) d (omega arith) in
    omega (arith, more, le, ap (words_for (class_of ir c)) read, own, it.words, inside)

-- and are among all words of the class
pub words-among : (ir : Ir) (c i : ℕ) → i < words_of ir c → class_words (class_of ir c) (take c ir.cells) + i < class_words (class_of ir c) ir.cells
words-among ir c i inside =
    let before = words-before ir c (c + 1) i inside (omega arith) in
    let le = sum_by-take-le (words_for (class_of ir c)) ir.cells (c + 1) in
    omega (arith, before, le)

-- ---- classes

-- all words of a class have room in it
pub end-first : (layout : Layout) (ir : Ir) (n : ℕ) → HasSizes layout ir n → (class : Class) → is_code class ≡ false →
    first_address layout class + 4 * class_words class ir.cells ≤ end_of layout class
end-first layout ir n sizes Open no_code = omega (arith, sizes.shared, layout.shared_fits)
end-first layout ir n sizes Verified no_code = omega (arith, sizes.verified)
end-first layout ir n sizes Private no_code = omega (arith, sizes.private)
end-first layout ir n sizes Constant no_code = omega (arith, sizes.constants)
end-first layout ir n sizes Code no_code = absurd (true-false no_code)
end-first layout ir n sizes Logged no_code = omega (arith, sizes.log)

start-first : (layout : Layout) (class : Class) → start_of layout class ≤ first_address layout class
start-first layout Open = omega arith
start-first layout Verified = omega arith
start-first layout Private = omega arith
start-first layout Constant = omega arith
start-first layout Code = omega arith
start-first layout Logged = omega arith

-- so each word lies in its class
pub LiesIn-first : (layout : Layout) (ir : Ir) (n : ℕ) → HasSizes layout ir n → (class : Class) → is_code class ≡ false →
    (k : ℕ) → k < class_words class ir.cells → LiesIn layout class (first_address layout class + 4 * k)
LiesIn-first layout ir n sizes class no_code k below =
    (omega (arith, start-first layout class), omega (arith, below, end-first layout ir n sizes class no_code))

pub first-aligned : (layout : Layout) (class : Class) (k : ℕ) → (first_address layout class + 4 * k) % 4 ≡ 0
first-aligned layout Open k = omega arith
first-aligned layout Verified k = omega arith
first-aligned layout Private k = omega arith
first-aligned layout Constant k = omega arith
first-aligned layout Code k = omega arith
first-aligned layout Logged k = omega arith

pub end-below : (layout : Layout) (class : Class) → end_of layout class < 2 ^ 32
end-below layout Open = omega arith
end-below layout Verified = omega (arith, layout.data_fits)
end-below layout Private = omega (arith, layout.data_fits)
end-below layout Constant = omega (arith, layout.data_fits)
end-below layout Code = omega (arith, layout.data_fits)
end-below layout Logged = omega (arith, layout.log_fits)

-- a word's address, as that of a word of its class
pub word_address-of : (layout : Layout) (ir : Ir) (c i : ℕ) →
    word_address layout ir c i ≡ first_address layout (class_of ir c) + 4 * (class_words (class_of ir c) (take c ir.cells) + i)
word_address-of layout ir c i = omega arith

pub no-code : (ir : Ir) (c i : ℕ) → all_hold is_data ir.cells ≡ true → i < words_of ir c → is_code (class_of ir c) ≡ false
no-code ir c i all_data inside =
    let it = cell-of ir c i inside in
    ap is_code it.class ∙ not-true (is_code it.cell.class) (hold-at is_data ir.cells c it.cell all_data it.there)

equal-of : (c d : ℕ) → (c < d → ⊥) → (d < c → ⊥) → c ≡ d
equal-of c d one other = grind (arith, one, other)

-- ---- what a layout with room for the cells gives each word

module _ (layout : Layout) (ir : Ir) (n : ℕ) (sizes : HasSizes layout ir n) (data_alone : all_hold is_data ir.cells ≡ true) where
  pub word-lies : (c i : ℕ) → i < words_of ir c → LiesIn layout (class_of ir c) (word_address layout ir c i)
  word-lies c i inside =
      subst (LiesIn layout (class_of ir c)) (sym (word_address-of layout ir c i))
      (LiesIn-first layout ir n sizes (class_of ir c) (no-code ir c i data_alone inside) (class_words (class_of ir c) (take c ir.cells) + i) (words-among ir c i inside))

  pub words-keep_classes : WordsKeepClasses layout ir
  words-keep_classes c i inside = class_at-LiesIn layout (word_address layout ir c i) (class_of ir c) (word-lies c i inside)

  pub words-are_aligned : WordsAreAligned layout ir
  words-are_aligned c i inside =
      let lies = word-lies c i inside in
      let aligned = first-aligned layout (class_of ir c) (class_words (class_of ir c) (take c ir.cells) + i) in
      (ap (λ (at : ℕ). at % 4) (word_address-of layout ir c i) ∙ aligned, omega (arith, lies.1, end-below layout (class_of ir c)))

  same-class : (c i d j : ℕ) → i < words_of ir c → j < words_of ir d → word_address layout ir c i ≡ word_address layout ir d j → class_of ir c ≡ class_of ir d
  same-class c i d j inside inside' same =
      same_Some (class_of ir c) (class_of ir d) (sym (words-keep_classes c i inside) ∙ ap (class_at layout) same ∙ words-keep_classes d j inside')

  -- of two words at one address none is in an earlier cell
  not-earlier : (c i d j : ℕ) → i < words_of ir c → j < words_of ir d → word_address layout ir c i ≡ word_address layout ir d j → c < d → ⊥
  not-earlier c i d j inside inside' same less =
      let class = same-class c i d j inside inside' same in
      let before = words-before ir c d i inside less in
      let there : word_address layout ir d j ≡ first_address layout (class_of ir c) + 4 * (class_words (class_of ir c) (take d ir.cells) + j) =
      word_address-of layout ir d j ∙ ap (λ (class : Class). first_address layout class + 4 * (class_words class (take d ir.cells) + j)) (sym class) in
      omega (arith, before, there, same, word_address-of layout ir c i)

  pub words-are_apart : WordsAreApart layout ir
  words-are_apart c i d j inside inside' same =
      let one : c < d → ⊥ = not-earlier c i d j inside inside' same in
      let other : d < c → ⊥ = not-earlier d j c i inside' inside (sym same) in
      let cells : c ≡ d = equal-of c d one other in
      let homes : home_address layout ir c ≡ home_address layout ir d = ap (home_address layout ir) cells in
      (cells, omega (arith, same, homes))

-- where cells are laid out: no two words share an address, and each is one of its class where a word may lie
pub record IsPlaced (layout : Layout) (ir : Ir) : Type 0 where
  pub apart : WordsAreApart layout ir
  pub classes : WordsKeepClasses layout ir
  pub aligned : WordsAreAligned layout ir

pub placed : (layout : Layout) (ir : Ir) (n : ℕ) → HasSizes layout ir n → all_hold is_data ir.cells ≡ true → IsPlaced layout ir
placed layout ir n sizes data_alone = record {
  apart = words-are_apart layout ir n sizes data_alone;
  classes = words-keep_classes layout ir n sizes data_alone;
  aligned = words-are_aligned layout ir n sizes data_alone;
}

-- ---- the list of homes, cell by cell

-- the list has the homes of so many cells
pub record HasHomesOf (layout : Layout) (ir : Ir) (homes : List ℕ) (n : ℕ) : Type 0 where
  pub all : length homes ≡ n
  pub each : (c : ℕ) → c < n → slice_get homes c ≡ Some (home_address layout ir c)

get-push_before : (xs : List ℕ) (y k : ℕ) → k < length xs → slice_get (xs ++ y ∷ []) k ≡ slice_get xs k
get-push_before [] y k below = absurd (omega (arith, below))
get-push_before (x ∷ xs) y zero below = refl
get-push_before (x ∷ xs) y (suc k) below = get-push_before xs y k (omega (arith, below))

get-push_last : (xs : List ℕ) (y : ℕ) → slice_get (xs ++ y ∷ []) (length xs) ≡ Some y
get-push_last [] y = refl
get-push_last (x ∷ xs) y = get-push_last xs y

push-each : (layout : Layout) (ir : Ir) (homes : List ℕ) (n home c : ℕ) → HasHomesOf layout ir homes n → home ≡ home_address layout ir n →
    c < n + 1 → ((c < n) ⊎ (c ≡ n)) → slice_get (homes ++ home ∷ []) c ≡ Some (home_address layout ir c)
push-each layout ir homes n home c has is below (inl less) =
    get-push_before homes home c (omega (arith, has.all, less)) ∙ has.each c less
push-each layout ir homes n home c has is below (inr same) =
    ap (slice_get (homes ++ home ∷ [])) (same ∙ sym has.all) ∙ get-push_last homes home ∙ ap Some (is ∙ ap (home_address layout ir) (sym same))

less-or-same : (c n : ℕ) → c < n + 1 → (c < n) ⊎ (c ≡ n)
less-or-same c n below = grind arith

pub HasHomesOf-push : (layout : Layout) (ir : Ir) (homes : List ℕ) (n home : ℕ) → HasHomesOf layout ir homes n → home ≡ home_address layout ir n →
    HasHomesOf layout ir (homes ++ home ∷ []) (n + 1)
HasHomesOf-push layout ir homes n home has is = record {
  all = length-append homes (home ∷ []) ∙ ap (λ (l : ℕ). l + 1) has.all;
  each = λ c below. push-each layout ir homes n home c has is below (less-or-same c n below);
}

-- what is known of the next cell
pub record IsNext (layout : Layout) (ir : Ir) (c : ℕ) (cell : Cell) : Type 0 where
  pub data_class : is_code cell.class ≡ false
  pub home : first_address layout cell.class + 4 * class_words cell.class (take c ir.cells) ≡ home_address layout ir c
  pub below : first_address layout cell.class + 4 * class_words cell.class (take c ir.cells) < 2 ^ 32
  pub more : (class : Class) → class_words class (take (c + 1) ir.cells) ≡ class_words class (take c ir.cells) + words_for class cell

pub next-of : (layout : Layout) (ir : Ir) (n c : ℕ) (cell : Cell) → HasSizes layout ir n → all_hold is_data ir.cells ≡ true →
    c < length ir.cells → cell ≡ get_or ir.cells c cell → IsNext layout ir c cell
next-of layout ir n c cell sizes all_data inside is =
    let there : slice_get ir.cells c ≡ Some cell = slice_get_read ir.cells (length ir.cells) c cell refl inside is in
    let no_code : is_code cell.class ≡ false = not-true (is_code cell.class) (hold-at is_data ir.cells c cell all_data there) in
    let class : class_of ir c ≡ cell.class = ap class_in there in
    record {
      data_class = no_code;
      home = ap (λ (class : Class). first_address layout class + 4 * class_words class (take c ir.cells)) (sym class);
      below = omega (arith, end-first layout ir n sizes cell.class no_code, end-below layout cell.class, sum_by-take-le (words_for cell.class) ir.cells c);
      more = λ class. class_words-more class ir.cells c cell inside ∙ ap (λ (it : Cell). class_words class (take c ir.cells) + words_for class it) (sym is);
    }

-- each home is a low address
end-low : (layout : Layout) (class : Class) → end_of layout class < 2 ^ 31
end-low layout Open = omega arith
end-low layout Verified = omega (arith, layout.data_fits)
end-low layout Private = omega (arith, layout.data_fits)
end-low layout Constant = omega (arith, layout.data_fits)
end-low layout Code = omega (arith, layout.data_fits)
end-low layout Logged = omega (arith, layout.log_fits)

low-cell : (layout : Layout) (ir : Ir) (n c : ℕ) (cell : Cell) → HasSizes layout ir n → all_hold is_data ir.cells ≡ true → slice_get ir.cells c ≡ Some cell →
    home_address layout ir c < 2 ^ 31
low-cell layout ir n c cell sizes all_data there =
    let no_code : is_code (class_of ir c) ≡ false =
    ap (λ (found : Option Cell). is_code (class_in found)) there ∙ not-true (is_code cell.class) (hold-at is_data ir.cells c cell all_data there) in
    omega (arith, end-first layout ir n sizes (class_of ir c) no_code, end-low layout (class_of ir c), sum_by-take-le (words_for (class_of ir c)) ir.cells c)

pub home-low : (layout : Layout) (ir : Ir) (n c : ℕ) → HasSizes layout ir n → all_hold is_data ir.cells ≡ true → c < length ir.cells → home_address layout ir c < 2 ^ 31
home-low layout ir n c sizes all_data inside =
    low-cell layout ir n c (get_or ir.cells c (record { class = Open; words = 0; first = [] })) sizes all_data
    (slice_get-get_or ir.cells c (record { class = Open; words = 0; first = [] }) inside)
