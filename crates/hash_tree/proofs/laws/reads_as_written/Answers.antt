use Rattle.hash_tree.proofs.LawProofs.{as_written-in_order}
use Rattle.hash_tree.proofs.laws.reads_as_written.Goals as goal

pub returns : goal.returns
returns c = record { law = as_written-in_order }
