use Rattle.std.proofs.Common.{◌≡◌, ◌+◌, ◌≤◌, length, ◌++◌}
use Rattle.off_chip.specs.Histories.{history}
use Rattle.off_chip.specs.WriteBacks.{StampsFit}
use Rattle.off_chip.specs.Epochs.{open_writes}
use Rattle.off_chip.specs.Collisions.{sum_of}
use Rattle.off_chip.specs.BusCalls.{TellsLog}
use Rattle.stamp_log.specs.LogState.{entry_sum, value_under}
use Rattle.stamp_log.specs.Starting.{IsStarting}
use Rattle.stamp_log.specs.LogEvents.{zeros_written}
use Rattle.stamp_log.proofs.log.write_zeros.Given as goal

abbrev pub invariant-numbers : goal.invariant-numbers
invariant-numbers g l = record {
  room : l.blocks ≤ g.O.OffChip.room l.bus + l.number;
  used : g.O.OffChip.room l.fn.bus ≤ g.O.OffChip.room l.bus + l.number;
  told : TellsLog l.blocks (g.O.OffChip.layout l.bus);
  fits : StampsFit l.stamps (history (g.O.OffChip.trace l.bus));
  sum : entry_sum l.written ≡ sum_of (value_under l.key) (open_writes (history (g.O.OffChip.trace l.bus)));
  starting : IsStarting l.blocks l.number (history (g.O.OffChip.trace l.bus));
  events : g.O.OffChip.trace l.bus ≡ g.O.OffChip.trace l.fn.bus ++ zeros_written l.fn.stamps l.number;
  stamps : l.stamps ≡ l.fn.stamps + l.number;
  same : g.O.OffChip.same_memory l.fn.bus l.bus;
  total : length (g.O.OffChip.trace l.bus) + g.O.OffChip.room l.bus ≡ length (g.O.OffChip.trace l.fn.bus) + g.O.OffChip.room l.fn.bus;
}
