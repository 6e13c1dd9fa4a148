use Rattle.hash_tree.proofs.LawProofs.{lending-law}
use Rattle.hash_tree.proofs.laws.lending_changes_contents.Goals as goal

pub returns : goal.returns
returns c = record { law = lending-law }
