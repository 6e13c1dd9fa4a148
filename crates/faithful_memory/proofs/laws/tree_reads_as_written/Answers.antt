use Rattle.faithful_memory.proofs.DataReads.{tree-law}
use Rattle.faithful_memory.proofs.laws.tree_reads_as_written.Goals as goal

pub returns : goal.returns
returns c = record { law = tree-law }
