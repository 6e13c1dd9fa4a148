use Rattle.lowering.proofs.Formed.{lowered-is-lawful}
use Rattle.lowering.proofs.laws.lowered_code_is_lawful.Goals as goal

pub returns : goal.returns
returns c = record { lawful = lowered-is-lawful }
