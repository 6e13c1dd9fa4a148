use Rattle.paced_trace.proofs.InstructionCounts.{counts-noted}
use Rattle.paced_trace.proofs.FuelLemmas.{enough-covers, enough-suffices, fuel-lasts}
use Rattle.paced_trace.proofs.laws.sufficient_fuel.Goals as goal

pub returns : goal.returns
returns c = record { counted = counts-noted; covers = enough-covers; suffices = enough-suffices; lasts = fuel-lasts }
