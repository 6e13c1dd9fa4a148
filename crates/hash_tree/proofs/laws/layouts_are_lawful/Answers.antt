use Rattle.hash_tree.proofs.LawProofs.{layouts-law}
use Rattle.hash_tree.proofs.laws.layouts_are_lawful.Goals as goal

pub returns : goal.returns
returns c = record { law = layouts-law }
