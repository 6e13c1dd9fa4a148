use Rattle.bus_machine.proofs.TurnLemmas.{goes-over, starts-at}
use Rattle.bus_machine.proofs.laws.bus_turns.Goals as goal

pub returns : goal.returns
returns c = record { starts = starts-at; goes = goes-over }
