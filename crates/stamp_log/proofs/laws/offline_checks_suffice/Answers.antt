use Rattle.stamp_log.proofs.Offline.{offline}
use Rattle.stamp_log.proofs.laws.offline_checks_suffice.Goals as goal

pub returns : goal.returns
returns c = record { law = offline }
