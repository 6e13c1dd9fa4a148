use Rattle.aegis_machine.specs.SecureMeets.{secure_meets}
use Rattle.aegis_machine.proofs.laws.secure_memory_meets_bus.Goals as goal

pub returns : goal.returns
returns g c = record { law = secure_meets (λ sight. sight) (λ old new. Unit {0}) }
