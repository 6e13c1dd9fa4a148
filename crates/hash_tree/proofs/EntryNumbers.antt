-- The numbers of a subtree and of its parts, and of the whole tree.
use Rattle.std.proofs.Common.{◌≡◌, ℕ, zero, suc, ◌+◌, ◌-◌, ◌*◌, ◌<◌, ◌≤◌, length, Option, refl, sym, ap, subst, arith}
use Rattle.regions.specs.declared.layout.Layout.{Layout}
use Rattle.regions.specs.Tree.{height_of, tree_blocks}
use Rattle.regions.proofs.TreeLaws.{IsHeight-height_of}
use Rattle.off_chip.specs.BlockPlaces.{first_static}
use Rattle.off_chip.specs.BusCalls.{TellsOnly}
use Rattle.off_chip.specs.OffChipBytes.{static_blocks}
use Rattle.hash_tree.specs.Entering.{first_leaf, moves_below, statics_before}
use Rattle.hash_tree.specs.HashTrees.{nodes_of}
use Rattle.hash_tree.proofs.SchemeLemmas.{blocks-few, blocks-three}
use Rattle.hash_tree.proofs.UnderLemmas.{first_leaf-from, first_leaf-next, first_leaf-root, moves-count, moves-parts}

-- ---- the parts of a subtree

pub record Parts (layout : Layout) (levels lower n : ℕ) : Type 0 where
  pub levels_are : levels ≡ suc lower
  pub first : first_leaf levels n ≡ first_leaf lower (3 * n + 1)
  pub second : first_leaf lower (3 * n + 1 + 1) ≡ first_leaf lower (3 * n + 2)
  pub third : first_leaf lower (3 * n + 2 + 1) ≡ first_leaf lower (3 * n + 3)
  pub last : first_leaf levels (n + 1) ≡ first_leaf lower (3 * n + 3 + 1)
  pub rises : first_leaf lower (3 * n + 1) ≤ first_leaf lower (3 * n + 2)
  pub rises_more : first_leaf lower (3 * n + 2) ≤ first_leaf lower (3 * n + 3)
  pub rises_last : first_leaf lower (3 * n + 3) ≤ first_leaf lower (3 * n + 3 + 1)
  pub moves : length (moves_below layout levels n)
      ≡ length (moves_below layout lower (3 * n + 1)) + length (moves_below layout lower (3 * n + 2)) + length (moves_below layout lower (3 * n + 3)) + 1
  pub few : 3 * n + 3 < first_leaf levels (n + 1)

rising : (levels n m : ℕ) → n + 1 ≡ m → first_leaf levels n ≤ first_leaf levels m
rising levels n m next =
    let more = first_leaf-next levels n in
    let same = ap (λ (k : ℕ). first_leaf levels k) next in
    omega (arith, more, same)

parts-of : (layout : Layout) (lower n : ℕ) → Parts layout (suc lower) lower n
parts-of layout lower n =
    let e : 3 * (n + 1) + 1 ≡ 3 * n + 3 + 1 = omega arith in
    let last = ap (λ (k : ℕ). first_leaf lower k) e in
    let from = first_leaf-from lower (3 * n + 3 + 1) in
    record {
      levels_are = refl;
      first = refl;
      second = ap (λ (k : ℕ). first_leaf lower k) (omega arith);
      third = ap (λ (k : ℕ). first_leaf lower k) (omega arith);
      last = last;
      rises = rising lower (3 * n + 1) (3 * n + 2) (omega arith);
      rises_more = rising lower (3 * n + 2) (3 * n + 3) (omega arith);
      rises_last = rising lower (3 * n + 3) (3 * n + 3 + 1) refl;
      moves = moves-parts layout lower n;
      few = omega (arith, from, last);
    }

less-one : (n : ℕ) → n ≡ suc n - 1
less-one n = omega arith

pub parts : (layout : Layout) (levels n : ℕ) → (levels ≡ 0 → ⊥) → Parts layout levels (levels - 1) n
parts layout zero n some = absurd (some refl)
parts layout (suc lower) n some = subst (λ (d : ℕ). Parts layout (suc lower) d n) (less-one lower) (parts-of layout lower n)

-- its block is a node
pub part-node : (layout : Layout) (levels lower n : ℕ) → Parts layout levels lower n → first_leaf levels (n + 1) ≤ tree_blocks layout → n < nodes_of layout
part-node layout levels lower n p inside = omega (arith, p.few, inside, blocks-three layout)

pub part-small : (layout : Layout) (levels lower n : ℕ) → Parts layout levels lower n → first_leaf levels (n + 1) ≤ tree_blocks layout → 3 * n + 3 < 9841
part-small layout levels lower n p inside = omega (arith, p.few, inside, blocks-few layout)

pub told-kept : (layout : Layout) (old new : Option Layout) → old ≡ new → TellsOnly layout old → TellsOnly layout new
told-kept layout old new same told = subst (λ (o : Option Layout). TellsOnly layout o) same told

-- ---- the whole tree

pub record Whole (layout : Layout) (levels : ℕ) : Type 0 where
  pub leaves : nodes_of layout ≤ first_leaf levels 0
  pub inside : first_leaf levels 1 ≤ tree_blocks layout
  pub none_before : 0 ≡ statics_before layout (first_leaf levels 0)
  pub all_before : statics_before layout (first_leaf levels 1) ≡ static_blocks layout
  pub moves : length (moves_below layout levels 0) ≡ static_blocks layout + tree_blocks layout

pub statics-inside : (layout : Layout) → first_static layout + static_blocks layout ≤ tree_blocks layout
statics-inside layout = omega (arith, (IsHeight-height_of layout).enough)

whole-of : (layout : Layout) → Whole layout (height_of layout)
whole-of layout =
    let start = first_leaf-root (height_of layout) in
    let next = first_leaf-next (height_of layout) 0 in
    let inside = statics-inside layout in
    let early : first_leaf (height_of layout) 0 ≤ first_static layout = omega (arith, start) in
    let late : first_static layout + static_blocks layout ≤ first_leaf (height_of layout) 1 = omega (arith, start, next, inside) in
    let none : 0 ≡ statics_before layout (first_leaf (height_of layout) 0) = none-before layout (first_leaf (height_of layout) 0) early in
    let all : statics_before layout (first_leaf (height_of layout) 1) ≡ static_blocks layout = all-before layout (first_leaf (height_of layout) 1) late in
    let count = moves-count layout (height_of layout) 0 in
    record {
      leaves = omega (arith, start);
      inside = omega (arith, start, next);
      none_before = none;
      all_before = all;
      moves = total _ _ _ _ _ count none all;
    }
  where
    none-before : (layout : Layout) (n : ℕ) → n ≤ first_static layout → 0 ≡ statics_before layout n
    none-before layout n early = omega (arith, early)

    all-before : (layout : Layout) (n : ℕ) → first_static layout + static_blocks layout ≤ n → statics_before layout n ≡ static_blocks layout
    all-before layout n late = omega (arith, late)

    total : (moves before blocks after statics : ℕ) → moves + before ≡ blocks + after → 0 ≡ before → after ≡ statics → moves ≡ statics + blocks
    total moves before blocks after statics count none all = omega (arith, count, none, all)

pub whole : (layout : Layout) (levels : ℕ) → levels ≡ height_of layout → Whole layout levels
whole layout levels same = subst (λ (k : ℕ). Whole layout k) (sym same) (whole-of layout)
