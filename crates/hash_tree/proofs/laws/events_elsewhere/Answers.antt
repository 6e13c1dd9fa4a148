use Rattle.hash_tree.proofs.LawProofs.{elsewhere-law}
use Rattle.hash_tree.proofs.laws.events_elsewhere.Goals as goal

pub returns : goal.returns
returns c = record { law = elsewhere-law }
