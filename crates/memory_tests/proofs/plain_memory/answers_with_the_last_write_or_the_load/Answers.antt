use Rattle.std.proofs.Common.{ap, arith}
use Rattle.regions.specs.Tree.{tree_blocks}
use Rattle.memory_tests.proofs.plain_memory.answers_with_the_last_write_or_the_load.Goals as goal

pub call_each-answers-requires-clause-code : goal.call_each-answers-requires-clause-code
call_each-answers-requires-clause-code g c =
    omega (arith, c.blocks_of_tree-tree_blocks.ensures.value, ap tree_blocks c.in_ok-dram.ensures.layout)

pub call_each-answers-requires-clause-inside : goal.call_each-answers-requires-clause-inside
call_each-answers-requires-clause-inside g c =
    omega (arith, c.blocks_of_tree-tree_blocks.ensures.value, ap tree_blocks c.in_ok-dram.ensures.layout)
