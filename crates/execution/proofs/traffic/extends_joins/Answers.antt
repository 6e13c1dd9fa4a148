use Rattle.execution.proofs.TrafficLemmas.{extends-trans}
use Rattle.execution.proofs.traffic.extends_joins.Goals as goal

pub returns : goal.returns
returns g c = record { joined = extends-trans }
