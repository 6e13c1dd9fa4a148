-- Subtrees: the blocks that stand under a block, and the leaves under it.
use Rattle.std.proofs.Common.{◌≡◌, ℕ, zero, suc, ◌+◌, ◌*◌, ◌^◌, ◌<◌, ◌≤◌, Bool, true, false, [], ◌∷◌, ◌++◌, length, ◌&&◌, refl, sym, ap, ◌∙◌, subst, inl, inr, arith, length-append}
use Rattle.std.specs.Prelude.{◌≢◌, nat_le, nat_lt, if◌then◌else◌}
use Rattle.std.proofs.lemmas.Bool.{cases_eq, cases_Bool, and_cases, leb-true, ltb-true, le-leb, lt-ltb}
use Rattle.std.proofs.lemmas.Bool.Decides.{leb_tells}
use Rattle.std.proofs.Math.Nat.{pow-suc}
use Rattle.regions.specs.declared.layout.Layout.{Layout}
use Rattle.regions.specs.Tree.{level_start, parent_in}
use Rattle.regions.proofs.TreeLaws.{level_start-suc}
use Rattle.off_chip.specs.BlockPlaces.{first_static}
use Rattle.off_chip.specs.OffChipBytes.{static_blocks}
use Rattle.hash_tree.specs.Entering.{reads_block, writes_block, IsUnder, first_leaf, is_static, leaf_moves, moves_below, statics_before}

parent-smaller : (n : ℕ) → 0 < n → parent_in 3 n < n
parent-smaller n above = omega arith

pub under-self : (levels n m : ℕ) → m ≡ n → IsUnder levels n m
under-self zero n m same = same
under-self (suc levels) n m same = inl same

-- what is under a child is under its parent
pub under-lift : (levels n child m : ℕ) → 0 < child → parent_in 3 child ≡ n → IsUnder levels child m → IsUnder (suc levels) n m
under-lift zero n child m above is same = inr (subst (λ (k : ℕ). 0 < k) (sym same) above, ap (λ (k : ℕ). parent_in 3 k) same ∙ is)
under-lift (suc levels) n child m above is (inl same) =
    inr (subst (λ (k : ℕ). 0 < k) (sym same) above, under-self (suc levels) n (parent_in 3 m) (ap (λ (k : ℕ). parent_in 3 k) same ∙ is))
under-lift (suc levels) n child m above is (inr deeper) = inr (deeper.0, under-lift levels n child (parent_in 3 m) above is deeper.1)

pub under-from : (levels n m : ℕ) → IsUnder levels n m → n ≤ m
under-from zero n m same = omega (arith, same)
under-from (suc levels) n m (inl same) = omega (arith, same)
under-from (suc levels) n m (inr deeper) =
    let from = under-from levels n (parent_in 3 m) deeper.1 in
    let less = parent-smaller m deeper.0 in
    omega (arith, from, less)

-- two children of one block have nothing under both
record Siblings (n a b : ℕ) : Type 0 where
  apart : a ≢ b
  some : 0 < a
  other_some : 0 < b
  above : parent_in 3 a ≡ n
  other_above : parent_in 3 b ≡ n

turned : (n a b : ℕ) → Siblings n a b → Siblings n b a
turned n a b s = record { apart = λ same. s.apart (sym same); some = s.other_some; other_some = s.some; above = s.other_above; other_above = s.above }

under-sibling : (levels n a b : ℕ) → Siblings n a b → IsUnder levels b a → ⊥
under-sibling zero n a b s same = s.apart same
under-sibling (suc levels) n a b s (inl same) = s.apart same
under-sibling (suc levels) n a b s (inr deeper) =
    let from = under-from levels b (parent_in 3 a) deeper.1 in
    let less = parent-smaller b s.other_some in
    omega (arith, from, less, s.above, s.other_above)

under-both : (levels other n a b m : ℕ) → Siblings n a b → IsUnder levels a m → IsUnder other b m → ⊥
under-both zero other n a b m s same under = under-sibling other n a b s (subst (λ (k : ℕ). IsUnder other b k) same under)
under-both (suc levels) zero n a b m s under same = under-sibling (suc levels) n b a (turned n a b s) (subst (λ (k : ℕ). IsUnder (suc levels) a k) same under)
under-both (suc levels) (suc other) n a b m s (inl same) under = under-sibling (suc other) n a b s (subst (λ (k : ℕ). IsUnder (suc other) b k) same under)
under-both (suc levels) (suc other) n a b m s (inr deeper) (inl same) =
    under-sibling (suc levels) n b a (turned n a b s) (subst (λ (k : ℕ). IsUnder (suc levels) a k) same (inr deeper))
under-both (suc levels) (suc other) n a b m s (inr deeper) (inr deeper_other) = under-both levels other n a b (parent_in 3 m) s deeper.1 deeper_other.1

siblings : (n i j : ℕ) → 0 < i → i ≤ 3 → 0 < j → j ≤ 3 → i ≢ j → Siblings n (3 * n + i) (3 * n + j)
siblings n i j some most other_some other_most apart =
    record { apart = λ same. apart (omega (arith, same)); some = omega (arith, some); other_some = omega (arith, other_some); above = omega (arith, some, most); other_above = omega (arith, other_some, other_most) }

-- the children of a block, by their slots, counted from 1
pub under-apart : (levels n i j m : ℕ) → 0 < i → i ≤ 3 → 0 < j → j ≤ 3 → i ≢ j → IsUnder levels (3 * n + i) m → IsUnder levels (3 * n + j) m → ⊥
under-apart levels n i j m some most other_some other_most apart one two = under-both levels levels n (3 * n + i) (3 * n + j) m (siblings n i j some most other_some other_most apart) one two

-- nor has one of them the parent of what is under the other
pub under-across : (levels n i j m : ℕ) → 0 < i → i ≤ 3 → 0 < j → j ≤ 3 → i ≢ j → 0 < m → IsUnder levels (3 * n + i) m → IsUnder levels (3 * n + j) (parent_in 3 m) → ⊥
under-across levels n i j m some most other_some other_most apart positive one two =
    under-both levels (suc levels) n (3 * n + i) (3 * n + j) m (siblings n i j some most other_some other_most apart) one (inr (positive, two))

pub under-top : (levels n i m : ℕ) → 0 < i → IsUnder levels (3 * n + i) m → n < m
under-top levels n i m some under = let from = under-from levels (3 * n + i) m under in omega (arith, from, some)

-- what is under a block is that block, or under one of its children
pub data Below (levels n m : ℕ) : Type 0 where
  top : m ≡ n → Below levels n m
  first : IsUnder levels (3 * n + 1) m → Below levels n m
  second : IsUnder levels (3 * n + 2) m → Below levels n m
  third : IsUnder levels (3 * n + 3) m → Below levels n m

child-below : (levels n m : ℕ) → 0 < m → parent_in 3 m ≡ n → Below levels n m
child-below levels n m above is =
    elim (cases_eq m (3 * n + 1)) [
      | inl one ↦ first (under-self levels (3 * n + 1) m one)
      | inr not_one ↦
          elim (cases_eq m (3 * n + 2)) [
            | inl two ↦ second (under-self levels (3 * n + 2) m two)
            | inr not_two ↦ third (under-self levels (3 * n + 3) m (omega (arith, above, is, not_one, not_two)))
          ]
    ]

deeper-below : (levels n m : ℕ) → 0 < m → Below levels n (parent_in 3 m) → Below (suc levels) n m
deeper-below levels n m above (top is) = child-below (suc levels) n m above is
deeper-below levels n m above (first under) = first (inr (above, under))
deeper-below levels n m above (second under) = second (inr (above, under))
deeper-below levels n m above (third under) = third (inr (above, under))

pub under-split : (levels n m : ℕ) → IsUnder (suc levels) n m → Below levels n m
under-split levels n m (inl same) = top same
under-split zero n m (inr deeper) = child-below zero n m deeper.0 deeper.1
under-split (suc levels) n m (inr deeper) = deeper-below levels n m deeper.0 (under-split levels n (parent_in 3 m) deeper.1)

-- all blocks of a tree are under its root
pub under-all : (levels m : ℕ) → m < level_start 3 (suc levels) → IsUnder levels 0 m
under-all zero m below = let few : m < 1 = below in omega (arith, few)
under-all (suc levels) m below =
    elim (cases_eq m 0) [
      | inl root ↦ inl root
      | inr other ↦ let next = level_start-suc 3 (suc levels) in inr (omega (arith, other), under-all levels (parent_in 3 m) (omega (arith, below, next, other)))
    ]

pub under-inside : (levels m : ℕ) → IsUnder levels 0 m → m < level_start 3 (suc levels)
under-inside zero m same = let e : m < 1 = omega (arith, same) in e
under-inside (suc levels) m (inl same) = let next = level_start-suc 3 (suc levels) in omega (arith, same, next)
under-inside (suc levels) m (inr deeper) =
    let next = level_start-suc 3 (suc levels) in
    let less = under-inside levels (parent_in 3 m) deeper.1 in
    omega (arith, next, less, deeper.0)

-- ---- first leaves

pub first_leaf-from : (levels n : ℕ) → n ≤ first_leaf levels n
first_leaf-from zero n = omega arith
first_leaf-from (suc levels) n = let from = first_leaf-from levels (3 * n + 1) in omega (arith, from)

pub first_leaf-next : (levels n : ℕ) → first_leaf levels (n + 1) ≡ first_leaf levels n + 3 ^ levels
first_leaf-next zero n = refl
first_leaf-next (suc levels) n =
    let e : 3 * (n + 1) + 1 ≡ 3 * n + 1 + 1 + 1 + 1 = omega arith in
    let same = ap (λ (k : ℕ). first_leaf levels k) e in
    let one = first_leaf-next levels (3 * n + 1) in
    let two = first_leaf-next levels (3 * n + 1 + 1) in
    let three = first_leaf-next levels (3 * n + 1 + 1 + 1) in
    omega (arith, same, one, two, three, pow-suc 3 levels)

pub first_leaf-root : (levels : ℕ) → first_leaf levels 0 ≡ level_start 3 levels
first_leaf-root zero = refl
first_leaf-root (suc levels) = let next = first_leaf-next levels 0 in omega (arith, next, first_leaf-root levels)

-- ---- static blocks

pub record StaticAt (layout : Layout) (n : ℕ) : Type 0 where
  pub from : first_static layout ≤ n
  pub below : n < first_static layout + static_blocks layout

and-both : (a b : Bool) → (a && b) ≡ true → (a ≡ true) × (b ≡ true)
and-both true b same = (refl, same)
and-both false b same = cc

pub static-at : (layout : Layout) (n : ℕ) → is_static layout n ≡ true → StaticAt layout n
static-at layout n yes' =
    let both = and-both (nat_le (first_static layout) n) (nat_lt n (first_static layout + static_blocks layout)) yes' in
    record { from = leb-true (first_static layout) n both.0; below = ltb-true n (first_static layout + static_blocks layout) both.1 }

pub static-is : (layout : Layout) (n : ℕ) → first_static layout ≤ n → n < first_static layout + static_blocks layout → is_static layout n ≡ true
static-is layout n from below =
    ap (λ (b : Bool). b && nat_lt n (first_static layout + static_blocks layout)) (le-leb (first_static layout) n from) ∙ lt-ltb n (first_static layout + static_blocks layout) below

pub before-static : (layout : Layout) (n : ℕ) → is_static layout n ≡ true → statics_before layout (n + 1) ≡ statics_before layout n + 1
before-static layout n yes' = let at = static-at layout n yes' in omega (arith, at.from, at.below)

pub before-other : (layout : Layout) (n : ℕ) → is_static layout n ≡ false → statics_before layout (n + 1) ≡ statics_before layout n
before-other layout n no' =
    elim (and_cases (nat_le (first_static layout) n) (nat_lt n (first_static layout + static_blocks layout)) no') [
      | inl early ↦ let less : n < first_static layout = not-le (first_static layout) n early in omega (arith, less)
      | inr late ↦ let more : first_static layout + static_blocks layout ≤ n = not-lt n (first_static layout + static_blocks layout) late in omega (arith, more)
    ]
  where
    not-le : (a b : ℕ) → nat_le a b ≡ false → b < a
    not-le a b no' = elim (leb_tells a b) [ inl told ↦ let e : true ≡ false = sym told.0 ∙ no' in cc | inr told ↦ told.1 ]

    not-lt : (a b : ℕ) → nat_lt a b ≡ false → b ≤ a
    not-lt a b no' = elim (leb_tells (suc a) b) [ inl told ↦ let e : true ≡ false = sym told.0 ∙ no' in cc | inr told ↦ omega (arith, told.1) ]

-- ---- how many moves there are

pub leaf-count : (layout : Layout) (n : ℕ) → length (leaf_moves layout n) + statics_before layout n ≡ 1 + statics_before layout (n + 1)
leaf-count layout n =
    elim (cases_Bool (is_static layout n)) [
      | inl yes' ↦ let more = before-static layout n yes' in let e = ap (λ (b : Bool). length (if b then reads_block n ∷ writes_block n ∷ [] else writes_block n ∷ [])) yes' in omega (arith, more, e)
      | inr no' ↦ let same = before-other layout n no' in let e = ap (λ (b : Bool). length (if b then reads_block n ∷ writes_block n ∷ [] else writes_block n ∷ [])) no' in omega (arith, same, e)
    ]

pub moves-parts : (layout : Layout) (levels n : ℕ) → length (moves_below layout (suc levels) n)
    ≡ length (moves_below layout levels (3 * n + 1)) + length (moves_below layout levels (3 * n + 2)) + length (moves_below layout levels (3 * n + 3)) + 1
moves-parts layout levels n =
    let a = moves_below layout levels (3 * n + 1) in
    let b = moves_below layout levels (3 * n + 2) in
    let c = moves_below layout levels (3 * n + 3) in
    omega (arith, length-append ((a ++ b) ++ c) (writes_block n ∷ []), length-append (a ++ b) c, length-append a b)

pub moves-count : (layout : Layout) (levels n : ℕ) → length (moves_below layout levels n) + statics_before layout (first_leaf levels n)
    ≡ level_start 3 (suc levels) + statics_before layout (first_leaf levels (n + 1))
moves-count layout zero n = leaf-count layout n
moves-count layout (suc levels) n =
    let e2 : 3 * n + 1 + 1 ≡ 3 * n + 2 = omega arith in
    let e3 : 3 * n + 2 + 1 ≡ 3 * n + 3 = omega arith in
    let e4 : 3 * n + 3 + 1 ≡ 3 * (n + 1) + 1 = omega arith in
    let s2 = ap (λ (k : ℕ). statics_before layout (first_leaf levels k)) e2 in
    let s3 = ap (λ (k : ℕ). statics_before layout (first_leaf levels k)) e3 in
    let s4 = ap (λ (k : ℕ). statics_before layout (first_leaf levels k)) e4 in
    let one = moves-count layout levels (3 * n + 1) in
    let two = moves-count layout levels (3 * n + 2) in
    let three = moves-count layout levels (3 * n + 3) in
    count-four _ _ _ _ _ _ _ _ _ _ _ _ _ (moves-parts layout levels n) one two three s2 s3 s4 (level_start-suc 3 (suc levels))
  where
    count-four : (all a b c z1 y2 z2 y3 z3 y4 z4 start next : ℕ) → all ≡ a + b + c + 1 → a + z1 ≡ start + y2 → b + z2 ≡ start + y3 → c + z3 ≡ start + y4
        → y2 ≡ z2 → y3 ≡ z3 → y4 ≡ z4 → next ≡ 3 * start + 1 → all + z1 ≡ next + z4
    count-four all a b c z1 y2 z2 y3 z3 y4 z4 start next parts one two three s2 s3 s4 is = omega (arith, parts, one, two, three, s2, s3, s4, is)
