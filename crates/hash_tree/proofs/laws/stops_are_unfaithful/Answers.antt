use Rattle.hash_tree.proofs.LawProofs.{stops-law}
use Rattle.hash_tree.proofs.laws.stops_are_unfaithful.Goals as goal

pub returns : goal.returns
returns c = record { law = stops-law }
