use Rattle.hash_tree.proofs.LawProofs.{kept-law}
use Rattle.hash_tree.proofs.laws.kept_is_expected.Goals as goal

pub returns : goal.returns
returns c = record { law = kept-law }
