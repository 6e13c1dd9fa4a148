-- The first level with enough places is the least one.
use Rattle.std.proofs.Common.{arith}
use Rattle.regions.specs.Blocks.{data_blocks}
use Rattle.regions.specs.Tree.{IsHeight, height_of}
use Rattle.regions.proofs.TreeLaws.{IsHeight-height_of, heights-one}
use Rattle.regions.proofs.tree.height.Goals as goal

pub loop-positions-smaller : goal.loop-positions-smaller
loop-positions-smaller c = omega arith

pub returns-clause-value : goal.returns-clause-value
returns-clause-value c =
    let blocks = data_blocks c.args.layout.now in
    let tried = c.loop-positions.invariant in
    let found : IsHeight 3 8 blocks c.loop-positions.height = record {
      positive = tried.positive;
      at_most = tried.at_most;
      enough = omega arith;
      least = λ lower positive enough. grind (arith, tried.few lower);
    } in
    heights-one 3 8 blocks c.loop-positions.height (height_of c.args.layout.now) found (IsHeight-height_of c.args.layout.now)
