use Rattle.std.proofs.Common.{◌≡◌, length}
use Rattle.off_chip.specs.BusCalls.{TellsLog}
use Rattle.off_chip.specs.Histories.{history}
use Rattle.off_chip.specs.WriteBacks.{StampsFit}
use Rattle.stamp_log.specs.StandsOn.{StandsOn}
use Rattle.stamp_log.proofs.tests.play.Given as goal

-- the log stands on the trace, and the stamps fit it
abbrev pub invariant-turns : goal.invariant-turns
invariant-turns g l = record {
  blocks : l.log.blocks ≡ 100;
  told : TellsLog l.log.blocks (g.O.OffChip.layout l.bus);
  stands : StandsOn l.log (history (g.O.OffChip.trace l.bus));
  fits : StampsFit l.stamps (history (g.O.OffChip.trace l.bus));
}
