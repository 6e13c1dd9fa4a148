-- The image of a source has the memory that the source takes.
use Rattle.std.proofs.Common.{◌≡◌, ℕ, zero, suc, ◌+◌, ◌*◌, ◌/◌, ◌≤◌, Bool, true, false, cond, List, [], ◌∷◌, length, arith, refl, ◌∙◌, ap}
use Rattle.std.proofs.lemmas.List.Sums.{sum_by-append, sum_by-cons}
use Rattle.regions.specs.declared.Class.{Class}
use Rattle.regions.specs.declared.Class.TheVariants.{Constant, Logged, Open, Private, Verified}
use Rattle.regions.specs.declared.Layout.{Layout}
use Rattle.c_grammar.specs.declared.item.Program.{Program}
use Rattle.c_meaning.specs.SourceNodes.{items_count}
use Rattle.c_resolver.specs.Resolving.{plain_program}
use Rattle.c_semantics.specs.ResolvedTree.{Function}
use Rattle.ir_code.specs.declared.Op.{Op}
use Rattle.ir_code.specs.OpTable.{start_weight}
use Rattle.lowering.specs.Cells.{cell_count, cells_of, class_for, function_cells, words}
use Rattle.lowering.specs.Lowering.{lowered}
use Rattle.lowering.specs.Sizes.{weight_of_all}
use Rattle.secure_split.specs.SplitLaws.{IsSmallCode}
use Rattle.region_plan.specs.Homes.{HasSizes, blocks_for, class_words, is_same_class, words_for}
use Rattle.region_plan.specs.PlanFaults.{fault_of, plan_fault}
use Rattle.image_file.specs.declared.Image.{Image}
use Rattle.codegen.specs.ImageCode.{code_blocks, code_size, start_size}
use Rattle.codegen.specs.EmittedImage.{IsImageOf}
use Rattle.codegen.proofs.Sizes.{sizes-fit-weights}
use Rattle.compiler.specs.MemoryUse.{HasMemory, IsSmallImage, constant_blocks, function_words, is_as_private, private_blocks, source_fault, verified_blocks}
use Rattle.compiler.specs.Places.{words_of_class}
use Rattle.compiler.proofs.Placed.{are-kept, words-split}

-- ---- words of functions

-- so many words of a class, in cells of one word
own-words : (class kept : Class) (n : ℕ) → class_words class (words kept n) ≡ cond (is_same_class class kept) n 0
own-words class kept zero = go (is_same_class class kept)
  where
    nothing : ℕ
    nothing = 0

    go : (t : Bool) → nothing ≡ cond t nothing nothing
    go true = refl
    go false = refl
own-words class kept (suc n) =
    sum_by-cons (words_for class) (record { class = kept; words = 1; first = [] }) (words kept n) ∙ go (is_same_class class kept) (own-words class kept n)
  where
    go : (t : Bool) → class_words class (words kept n) ≡ cond t n 0 → cond t 1 0 + class_words class (words kept n) ≡ cond t (suc n) 0
    go true h = omega (arith, h)
    go false h = omega (arith, h)

-- the words of a class that functions take, by the class of their cells
words-of-functions : (class : Class) (private : Bool) → ((t : Bool) → is_same_class class (class_for t) ≡ is_as_private private t) → (fs : List Function) → class_words class (function_cells fs) ≡ function_words private fs
words-of-functions class private same [] = refl
words-of-functions class private same (f ∷ fs) =
    let own : class_words class (words (class_for f.private) (cell_count f)) ≡ cond (is_as_private private f.private) (cell_count f) 0 =
    own-words class (class_for f.private) (cell_count f) ∙ ap (λ (t : Bool). cond t (cell_count f) 0) (same f.private) in
    let later : class_words class (function_cells fs) ≡ function_words private fs = words-of-functions class private same fs in
    sum_by-append (words_for class) (words (class_for f.private) (cell_count f)) (function_cells fs) ∙ omega (arith, own, later)

-- functions take none of another class
no-words-of-functions : (class : Class) → ((t : Bool) → is_same_class class (class_for t) ≡ false) → (fs : List Function) → class_words class (function_cells fs) ≡ 0
no-words-of-functions class none [] = refl
no-words-of-functions class none (f ∷ fs) =
    let own : class_words class (words (class_for f.private) (cell_count f)) ≡ 0 =
    own-words class (class_for f.private) (cell_count f) ∙ ap (λ (t : Bool). cond t (cell_count f) 0) (none f.private) in
    let later : class_words class (function_cells fs) ≡ 0 = no-words-of-functions class none fs in
    sum_by-append (words_for class) (words (class_for f.private) (cell_count f)) (function_cells fs) ∙ omega (arith, own, later)

verified-same : (t : Bool) → is_same_class Verified (class_for t) ≡ is_as_private false t
verified-same true = refl
verified-same false = refl

private-same : (t : Bool) → is_same_class Private (class_for t) ≡ is_as_private true t
private-same true = refl
private-same false = refl

constant-none : (t : Bool) → is_same_class Constant (class_for t) ≡ false
constant-none true = refl
constant-none false = refl

logged-none : (t : Bool) → is_same_class Logged (class_for t) ≡ false
logged-none true = refl
logged-none false = refl

open-none : (t : Bool) → is_same_class Open (class_for t) ≡ false
open-none true = refl
open-none false = refl

module _ (p : Program) where
  split-of : (class : Class) → class_words class (cells_of (plain_program p)) ≡ words_of_class class (plain_program p).objects + class_words class (function_cells (plain_program p).functions)
  split-of class = words-split class (plain_program p).objects (function_cells (plain_program p).functions) (are-kept p.items)

  verified-words : class_words Verified (cells_of (plain_program p)) ≡ words_of_class Verified (plain_program p).objects + function_words false (plain_program p).functions
  verified-words = split-of Verified ∙ ap (λ (n : ℕ). words_of_class Verified (plain_program p).objects + n) (words-of-functions Verified false verified-same (plain_program p).functions)

  private-words : class_words Private (cells_of (plain_program p)) ≡ words_of_class Private (plain_program p).objects + function_words true (plain_program p).functions
  private-words = split-of Private ∙ ap (λ (n : ℕ). words_of_class Private (plain_program p).objects + n) (words-of-functions Private true private-same (plain_program p).functions)

  constant-words : class_words Constant (cells_of (plain_program p)) ≡ words_of_class Constant (plain_program p).objects
  constant-words = let none : class_words Constant (function_cells (plain_program p).functions) ≡ 0 = no-words-of-functions Constant constant-none (plain_program p).functions in split-of Constant ∙ omega (arith, none)

  logged-words : class_words Logged (cells_of (plain_program p)) ≡ words_of_class Logged (plain_program p).objects
  logged-words = let none : class_words Logged (function_cells (plain_program p).functions) ≡ 0 = no-words-of-functions Logged logged-none (plain_program p).functions in split-of Logged ∙ omega (arith, none)

  open-words : class_words Open (cells_of (plain_program p)) ≡ words_of_class Open (plain_program p).objects
  open-words = let none : class_words Open (function_cells (plain_program p).functions) ≡ 0 = no-words-of-functions Open open-none (plain_program p).functions in split-of Open ∙ omega (arith, none)

  pub has-memory : (layout : Layout) → HasSizes layout (lowered (plain_program p)) (code_blocks (lowered (plain_program p))) → HasMemory p layout
  has-memory layout sizes = record {
    verified = sizes.verified ∙ ap blocks_for verified-words;
    private = sizes.private ∙ ap blocks_for private-words;
    constants = sizes.constants ∙ ap blocks_for constant-words;
    code = sizes.code;
    log = sizes.log ∙ ap blocks_for logged-words;
    shared = sizes.shared ∙ ap (λ (n : ℕ). 4 * n) open-words;
  }

  -- the limits that the cells pass are those that the source passes
  pub same-fault : plan_fault (cells_of (plain_program p)) (code_blocks (lowered (plain_program p))) ≡ source_fault p
  same-fault =
      let blocks : ℕ = code_blocks (lowered (plain_program p)) in
      ap (λ (v : ℕ). fault_of (v + blocks_for (class_words Private (cells_of (plain_program p))) + blocks_for (class_words Constant (cells_of (plain_program p))) + blocks)
      (blocks_for (class_words Logged (cells_of (plain_program p)))) (4 * class_words Open (cells_of (plain_program p)))) (ap blocks_for verified-words)
      ∙ ap (λ (v : ℕ). fault_of (verified_blocks p + v + blocks_for (class_words Constant (cells_of (plain_program p))) + blocks)
      (blocks_for (class_words Logged (cells_of (plain_program p)))) (4 * class_words Open (cells_of (plain_program p)))) (ap blocks_for private-words)
      ∙ ap (λ (v : ℕ). fault_of (verified_blocks p + private_blocks p + v + blocks) (blocks_for (class_words Logged (cells_of (plain_program p)))) (4 * class_words Open (cells_of (plain_program p)))) (ap blocks_for constant-words)
      ∙ ap (λ (v : ℕ). fault_of (verified_blocks p + private_blocks p + constant_blocks p + blocks) v (4 * class_words Open (cells_of (plain_program p)))) (ap blocks_for logged-words)
      ∙ ap (λ (v : ℕ). fault_of (verified_blocks p + private_blocks p + constant_blocks p + blocks) (blocks_for (words_of_class Logged (plain_program p).objects)) (4 * v)) open-words

  -- ---- size

  size-by-weight : (ops : List Op) → code_size ops ≤ weight_of_all ops
  size-by-weight [] = omega arith
  size-by-weight (o ∷ ops) = omega (arith, sizes-fit-weights o, size-by-weight ops)

  pub small-image : (image : Image) → IsImageOf (lowered (plain_program p)) image → IsSmallCode p (lowered (plain_program p)) → IsSmallImage p image
  small-image image is small =
      let blocks : image.layout.code ≡ (code_size (lowered (plain_program p)).ops + start_size + 15) / 16 = is.sizes.code in
      let whole : length image.code ≡ 16 * image.layout.code = image.code_whole in
      let light : code_size (lowered (plain_program p)).ops ≤ weight_of_all (lowered (plain_program p)).ops = size-by-weight (lowered (plain_program p)).ops in
      let most : start_weight + weight_of_all (lowered (plain_program p)).ops ≤ 64 * items_count p.items + 64 = small.weight in
      record { code = omega (arith, blocks, whole, light, most); temporaries = small.temporaries }
