use Rattle.execution.proofs.NamingLemmas.{named-entries, named-traffic}
use Rattle.execution.proofs.naming.names_reach_all.Goals as goal

pub returns : goal.returns
returns g c = record { reached = record { entries = named-entries; traffic = named-traffic } }
