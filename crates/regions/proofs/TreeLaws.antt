-- What follows of heights, levels and parents, for each fan of at least 2, for proofs here and in the crates above.
use Rattle.std.proofs.Common.{◌≡◌, ℕ, zero, suc, ◌+◌, ◌-◌, ◌*◌, ◌/◌, ◌%◌, ◌^◌, ◌<◌, ◌≤◌, Bool, true, false, nat_le, if◌then◌else◌, arith, lit≤, lit<, inl, inr, refl, sym, ◌∙◌, ap, subst, add-one}
use Rattle.std.proofs.Math.Nat.{pow-le-pow_right, pow-suc, pow-zero, mul-add-div, mul-add-mod_self_left, div-lt_iff_lt-mul}
use Rattle.std.proofs.lemmas.Bool.{cases_lt}
use Rattle.std.proofs.lemmas.Bool.Decides.{nat_tests}
use Rattle.regions.specs.declared.layout.Layout.{Layout}
use Rattle.regions.specs.Blocks.{data_blocks}
use Rattle.regions.specs.Tree.{IsHeight, HeightIsLeast, HeightsAreOne, ParentsAreAbove, RootIsAbove, LevelsAreApart, fan_of, max_height_of, height_of, least_height, level_start, block_in, leaf_of, parent_in, positions_of, slot_in, ancestor_in, tree_blocks}

-- ---- heights

-- a level with too few places is above one with enough
pub low-lt-high : (fan blocks low high : ℕ) → 2 ≤ fan → fan ^ low < blocks → blocks ≤ fan ^ high → low < high
low-lt-high fan blocks low high branches few enough =
    elim (cases_lt low high) [
      | inl lower ↦ lower
      | inr higher ↦ absurd (omega (arith, pow-le-pow_right {n = fan} (omega arith) higher))
    ]

-- each level above this height has too few places
abbrev AreFew : ℕ → ℕ → ℕ → Type 0
AreFew fan blocks height = (lower : ℕ) → 1 ≤ lower → lower < height → fan ^ lower < blocks

-- the height that is tried has enough places
found : (fan highest blocks height : ℕ) → 1 ≤ height → height ≤ highest → AreFew fan blocks height → blocks ≤ fan ^ height → IsHeight fan highest blocks height
found fan highest blocks height positive at_most few enough = record {
  positive = positive;
  at_most = at_most;
  enough = enough;
  least = λ lower above has.
      elim (cases_lt lower height) [
        | inl below ↦ absurd (omega (arith, few lower above below))
        | inr from ↦ from
      ];
}

-- it has not, so that the levels above the next one have too few
few-next : (fan blocks height : ℕ) → AreFew fan blocks height → fan ^ height < blocks → AreFew fan blocks (height + 1)
few-next fan blocks height few more lower above below =
    elim (cases_lt lower height) [
      | inl lower_still ↦ few lower above lower_still
      | inr from ↦ let e : height ≡ lower = omega arith in subst (λ (n : ℕ). fan ^ n < blocks) e more
    ]

least : (fan highest blocks more height : ℕ) → 2 ≤ fan → 1 ≤ height → height + more ≡ highest → AreFew fan blocks height → blocks ≤ fan ^ highest → IsHeight fan highest blocks (least_height fan blocks more height)
least fan highest blocks zero height branches positive whole few enough =
    let e : highest ≡ height = omega arith in
    found fan highest blocks height positive (omega arith) few (subst (λ (n : ℕ). blocks ≤ fan ^ n) e enough)
least fan highest blocks (suc more) height branches positive whole few enough =
    elim (cases_lt (fan ^ height) blocks) [
      | inl above ↦
          let e : nat_le blocks (fan ^ height) ≡ false = grind (arith, nat_tests) in
          rw e (least fan highest blocks more (height + 1) branches (omega arith) (omega arith) (few-next fan blocks height few above) enough)
      | inr has ↦
          let e : nat_le blocks (fan ^ height) ≡ true = grind (arith, nat_tests) in
          rw e (found fan highest blocks height positive (omega arith) few has)
    ]

pub height-least : HeightIsLeast
height-least fan highest blocks branches positive enough =
    least fan highest blocks (highest - 1) 1 branches (lit≤ tt) (omega arith) (λ lower above below. absurd (omega arith)) enough

-- there is one height
pub heights-one : HeightsAreOne
heights-one fan highest blocks height other p q = omega (arith, p.least other q.positive q.enough, q.least height p.positive p.enough)

-- the tree of a layout is as high as its definition says
pub IsHeight-height_of : (layout : Layout) → IsHeight (fan_of layout) (max_height_of layout) (data_blocks layout) (height_of layout)
unfolding height_of
IsHeight-height_of layout = height-least (fan_of layout) (max_height_of layout) (data_blocks layout) (lit≤ tt) (lit≤ tt) layout.data_fits

-- its lowest level has at most 6,561 positions
pub positions-few : (layout : Layout) → positions_of layout ≤ 6561
positions-few layout = pow-le-pow_right {n = 3} (lit< tt) (IsHeight-height_of layout).at_most

-- each data block has a position
pub data_block_has_place : (layout : Layout) (block : ℕ) → block < data_blocks layout → block < positions_of layout
data_block_has_place layout block below = omega (arith, (IsHeight-height_of layout).enough)

-- ---- levels

-- the first block of a level is the first child of the first block of the level above
pub level_start-suc : (fan depth : ℕ) → level_start fan (suc depth) ≡ fan * level_start fan depth + 1
level_start-suc fan zero = omega (arith, pow-zero fan)
level_start-suc fan (suc depth) = omega (arith, level_start-suc fan depth, pow-suc fan depth)

-- where nodes have three children, the blocks above a level are half of its positions but one
pub level_start-three : (depth : ℕ) → 3 ^ depth ≡ 2 * level_start 3 depth + 1
level_start-three zero = refl
level_start-three (suc depth) = omega (arith, level_start-three depth, pow-suc 3 depth)

-- the parent of a block
pub parents-above : ParentsAreAbove
parents-above fan depth position branches =
    let e : level_start fan (suc depth) + position - 1 ≡ fan * level_start fan depth + position = omega (arith, level_start-suc fan depth) in (
      ap (λ n. n / fan) e ∙ mul-add-div {m = fan} (omega arith) (level_start fan depth) position,
      ap (λ n. n % fan) e ∙ mul-add-mod_self_left fan (level_start fan depth) position,
    )

-- the root is as many steps above a block as its level is deep
pub root-above : RootIsAbove
root-above fan zero position branches below = omega (arith, pow-zero fan)
root-above fan (suc depth) position branches below =
    let within : position / fan < fan ^ depth = (div-lt_iff_lt-mul {k = fan} {x = position} {y = fan ^ depth} (omega arith)).1 (omega (arith, pow-suc fan depth)) in
    ap (λ block. ancestor_in fan depth block) (parents-above fan depth position branches).0 ∙ root-above fan depth (position / fan) branches within

-- the next level begins after a block
pub levels-apart : LevelsAreApart
levels-apart fan depth position below = omega arith
