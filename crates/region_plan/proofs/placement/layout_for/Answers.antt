use Rattle.std.proofs.Common.{arith}
use Rattle.regions.specs.declared.rights.Class.TheVariants.{Open, Verified, Private, Constant, Logged}
use Rattle.region_plan.proofs.placement.layout_for.Goals as goal

pub blocks_of-verified-requires : goal.blocks_of-verified-requires
blocks_of-verified-requires c = omega (arith, c.requires Verified)

pub blocks_of-private-requires : goal.blocks_of-private-requires
blocks_of-private-requires c = omega (arith, c.requires Private)

pub blocks_of-constants-requires : goal.blocks_of-constants-requires
blocks_of-constants-requires c = omega (arith, c.requires Constant)

pub blocks_of-log-requires : goal.blocks_of-log-requires
blocks_of-log-requires c = omega (arith, c.requires Logged)

pub overflow_mul-shared : goal.overflow_mul-shared
overflow_mul-shared c = omega (arith, c.requires Open)
