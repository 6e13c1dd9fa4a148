use Rattle.memory_trace.proofs.FewResident.{few-law}
use Rattle.memory_trace.proofs.laws.few_are_resident.Goals as goal

pub returns : goal.returns
returns g c = record { law = few-law _ }
