use Rattle.stamp_log.proofs.LawProofs.{foreign-law}
use Rattle.stamp_log.proofs.laws.foreign_events_keep.Goals as goal

pub returns : goal.returns
returns c = record { law = foreign-law }
