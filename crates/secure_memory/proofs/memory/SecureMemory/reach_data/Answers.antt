use Rattle.std.proofs.Common.{arith, sym}
use Rattle.regions.specs.Addresses.{data_block_at}
use Rattle.regions.proofs.TreeLaws.{data_block_has_place}
use Rattle.secure_memory.proofs.TreeActs.{tree-reaches, tree-stops}
use Rattle.secure_memory.proofs.memory.SecureMemory.reach_data.Goals as goal

pub load-requires-clause-position : goal.load-requires-clause-position
load-requires-clause-position g c =
    rw c.requires.ready.stands.parts.of_tree (data_block_has_place c.args.self.now.layout (data_block_at c.args.at) c.requires.inside.block)

pub returns-in-Ok-clause-does : goal.returns-in-Ok-clause-does
returns-in-Ok-clause-does g c = tree-reaches _ _ _ _ _ _ _ _ (record {
  ready = c.requires.ready;
  inside = c.requires.inside;
  same = c.load.ensures.tree;
  moved = c.in-Ok.ensures.ok;
  held = c.in-Ok.ensures.held;
  fit = c.load.ensures.fit;
  few = omega (arith, c.load.ensures.few, c.load.ensures.total);
  tells = sym (g.met.O.OffChip.same_layout _ _ c.load.ensures.same);
})

pub returns-in-Err-clause-does : goal.returns-in-Err-clause-does
returns-in-Err-clause-does g c =
    tree-stops _ _ _ _ _ _ _ _ _ c.requires.ready.stands.parts.of_tree c.requires.inside c.load.ensures.tree (omega (arith, c.load.ensures.few, c.load.ensures.total)) (sym (g.met.O.OffChip.same_layout _ _ c.load.ensures.same)) c.in-Err.ensures.changed c.load.ensures.reads
