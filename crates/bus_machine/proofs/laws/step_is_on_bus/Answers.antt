use Rattle.bus_machine.proofs.BusStepLemmas.{step-on-bus}
use Rattle.bus_machine.proofs.laws.step_is_on_bus.Goals as goal

pub returns : goal.returns
returns g c = record { law = step-on-bus g.C.OverBus.sight g.C.OverBus.calls g.C.OverBus.meets }
