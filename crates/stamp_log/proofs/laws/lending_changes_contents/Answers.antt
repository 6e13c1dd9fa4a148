use Rattle.stamp_log.proofs.LawProofs.{lending-law}
use Rattle.stamp_log.proofs.laws.lending_changes_contents.Goals as goal

pub returns : goal.returns
returns c = record { law = lending-law }
