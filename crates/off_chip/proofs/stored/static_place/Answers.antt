use Rattle.std.proofs.Common.{◌+◌, arith}
use Rattle.regions.proofs.TreeLaws.{data_block_has_place}
use Rattle.off_chip.proofs.stored.static_place.Goals as goal

pub leaf-requires : goal.leaf-requires
leaf-requires c =
    let layout = c.args.layout.now in
    data_block_has_place layout (layout.verified + layout.private + c.args.n) (omega arith)
