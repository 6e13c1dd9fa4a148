-- Steps that fit by the bus machine.
use Rattle.std.proofs.Common.{subst}
use Rattle.std.specs.Prelude.{Option}
use Rattle.regions.specs.Modes.{SecureInstruction}
use Rattle.off_chip.proofs.HistoryLemmas.{Each-both, Each-weaker}
use Rattle.paced_trace.specs.BusPace.{BusAsksSo, BusStepFits, BusStepsFit}
use Rattle.paced_trace.specs.PacedSteps.{FitsStep, StepFits}

pub bus-steps-fit : BusStepsFit
bus-steps-fit veil program asked older fits asks = record {
  each = Each-weaker (λ event before. BusStepFits veil program event before × BusAsksSo veil program asked event before) (StepFits program.layout asked)
      (λ event before both done entered. subst (λ (o : Option SecureInstruction). FitsStep program.layout o before) (both.1 done entered) (both.0 done entered)) older
      (Each-both (BusStepFits veil program) (BusAsksSo veil program asked) older fits.each asks.each);
}
