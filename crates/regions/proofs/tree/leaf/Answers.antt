-- The blocks above the lowest level are half of its positions but one.
use Rattle.std.proofs.Common.{◌≡◌, ◌+◌, ◌-◌, ◌/◌, ◌^◌, ◌≤◌, ℕ, arith, lit<, lit≤, ap, ◌∙◌}
use Rattle.std.proofs.Math.Nat.{pow-le-pow_right}
use Rattle.regions.specs.declared.layout.Layout.{Layout}
use Rattle.regions.specs.Tree.{block_in, height_of, leaf_of, level_start, positions_of}
use Rattle.regions.proofs.TreeLaws.{level_start-three, positions-few, root-above, levels-apart}
use Rattle.regions.proofs.tree.leaf.Goals as goal

is-leaf : (layout : Layout) (height positions position : ℕ) → height ≡ height_of layout → positions ≡ 3 ^ height → (positions - 1) / 2 + position ≡ block_in 3 (height_of layout) position
is-leaf layout height positions position same whole =
    let e : positions ≡ 3 ^ height_of layout = whole ∙ ap (λ n. 3 ^ n) same in
    omega (arith, e, level_start-three (height_of layout))

few : (layout : Layout) → block_in 3 (height_of layout) 0 ≤ 3280
few layout = omega (arith, level_start-three (height_of layout), positions-few layout)

pub pow-requires : goal.pow-requires
pow-requires c = omega (arith, pow-le-pow_right {n = 3} (lit< tt) c.height.ensures.least.at_most)

pub overflow_add-result : goal.overflow_add-result
overflow_add-result c =
    omega (arith, is-leaf c.args.layout.now _ _ c.args.position c.height.ensures.value c.pow.ensures, few c.args.layout.now, positions-few c.args.layout.now, c.requires)

pub returns-clause-value : goal.returns-clause-value
returns-clause-value c = is-leaf c.args.layout.now _ _ c.args.position c.height.ensures.value c.pow.ensures

pub returns-clause-inside : goal.returns-clause-inside
returns-clause-inside c =
    let layout = c.args.layout.now in
    omega (arith, is-leaf layout _ _ c.args.position c.height.ensures.value c.pow.ensures, levels-apart 3 (height_of layout) c.args.position c.requires)

pub returns-clause-below_root : goal.returns-clause-below_root
returns-clause-below_root c =
    let layout = c.args.layout.now in
    rw (is-leaf layout _ _ c.args.position c.height.ensures.value c.pow.ensures) (root-above 3 (height_of layout) c.args.position (lit≤ tt) c.requires)
