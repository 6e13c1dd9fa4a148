use Rattle.std.proofs.Common.{◌≡◌, ◌+◌, ◌≤◌, length}
use Rattle.off_chip.specs.Histories.{history}
use Rattle.off_chip.specs.WriteBacks.{StampsFit}
use Rattle.off_chip.specs.Epochs.{open_reads}
use Rattle.off_chip.specs.Collisions.{sum_of}
use Rattle.off_chip.specs.BusCalls.{TellsLog}
use Rattle.stamp_log.specs.LogState.{entry_sum, value_under}
use Rattle.stamp_log.specs.Checking.{IsReading, check_reads}
use Rattle.stamp_log.specs.LogEvents.{ReadsInOrder}
use Rattle.stamp_log.proofs.log.read_all.Given as goal

abbrev pub invariant-numbers : goal.invariant-numbers
invariant-numbers g l = record {
  room : l.blocks ≤ g.O.OffChip.room l.bus + l.number;
  used : g.O.OffChip.room l.fn.bus ≤ g.O.OffChip.room l.bus + l.number;
  told : TellsLog l.blocks (g.O.OffChip.layout l.bus);
  fits : StampsFit l.stamps (history (g.O.OffChip.trace l.bus));
  read : entry_sum l.read ≡ sum_of (value_under l.key) (open_reads (history (g.O.OffChip.trace l.bus)));
  next : entry_sum l.next ≡ sum_of (value_under l.key) (check_reads (history (g.O.OffChip.trace l.bus)));
  reading : IsReading (value_under l.key) l.blocks l.number (history (g.O.OffChip.trace l.fn.bus)) (history (g.O.OffChip.trace l.bus));
  order : ReadsInOrder l.number (g.O.OffChip.trace l.fn.bus) (g.O.OffChip.trace l.bus);
  same : g.O.OffChip.same_memory l.fn.bus l.bus;
  total : length (g.O.OffChip.trace l.bus) + g.O.OffChip.room l.bus ≡ length (g.O.OffChip.trace l.fn.bus) + g.O.OffChip.room l.fn.bus;
}
