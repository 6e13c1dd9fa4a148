use Rattle.regions.proofs.TreeLaws.{data_block_has_place}
use Rattle.scripted_dram.proofs.storage.data_place.Goals as goal

pub leaf-requires : goal.leaf-requires
leaf-requires c = data_block_has_place c.args.layout.now c.args.n c.requires
