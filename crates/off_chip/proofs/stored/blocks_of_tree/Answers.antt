use Rattle.std.proofs.Common.{◌≡◌, ◌+◌, ◌*◌, ◌≤◌, arith}
use Rattle.regions.specs.declared.layout.Layout.{Layout}
use Rattle.regions.specs.Tree.{height_of, leaf_of, tree_blocks}
use Rattle.regions.proofs.TreeLaws.{level_start-suc, level_start-three, positions-few}
use Rattle.off_chip.proofs.stored.blocks_of_tree.Goals as goal

-- the blocks above the lowest level are few
few_above : (layout : Layout) → leaf_of layout 0 ≤ 3280
few_above layout = omega (arith, level_start-three (height_of layout), positions-few layout)

-- each of them has three children
blocks_of_tree-above : (layout : Layout) → tree_blocks layout ≡ 3 * leaf_of layout 0 + 1
blocks_of_tree-above layout = omega (arith, level_start-suc 3 (height_of layout))

pub leaf-requires : goal.leaf-requires
leaf-requires c = omega (arith, level_start-three (height_of c.args.layout.now))

pub overflow_mul-result : goal.overflow_mul-result
overflow_mul-result c = let h = few_above c.args.layout.now in omega arith

pub overflow_add-result : goal.overflow_add-result
overflow_add-result c = let h = few_above c.args.layout.now in omega arith

pub returns-clause-value : goal.returns-clause-value
returns-clause-value c = omega (arith, blocks_of_tree-above c.args.layout.now)

pub returns-clause-limit : goal.returns-clause-limit
returns-clause-limit c = let h = few_above c.args.layout.now in omega arith
