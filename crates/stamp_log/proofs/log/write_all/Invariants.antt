use Rattle.std.proofs.Common.{◌≡◌, ◌+◌, ◌≤◌, length}
use Rattle.off_chip.specs.Histories.{history}
use Rattle.off_chip.specs.WriteBacks.{StampsFit}
use Rattle.off_chip.specs.Epochs.{open_writes}
use Rattle.off_chip.specs.Collisions.{sum_of}
use Rattle.off_chip.specs.BusCalls.{TellsLog}
use Rattle.stamp_log.specs.LogState.{entry_sum, value_under}
use Rattle.stamp_log.specs.LogCalls.{WritesBack, HoldsNothing}
use Rattle.stamp_log.proofs.log.write_all.Given as goal

abbrev pub invariant-lines : goal.invariant-lines
invariant-lines g l = record {
  held : length l.lines.held ≡ length l.fn.lines.held;
  payloads : l.lines.payloads ≡ l.fn.lines.payloads;
  count : length l.lines.order + l.counter ≡ length l.fn.lines.order;
  few : length l.fn.lines.order ≤ 32;
  last : length l.lines.order ≡ 0 → HoldsNothing l.lines;
  room : 32 ≤ g.O.OffChip.room l.bus + l.counter;
  used : g.O.OffChip.room l.fn.bus ≤ g.O.OffChip.room l.bus + l.counter;
  grown : length (g.O.OffChip.trace l.bus) ≤ length (g.O.OffChip.trace l.fn.bus) + l.counter;
  writes : WritesBack (length l.fn.lines.held) (g.O.OffChip.trace l.fn.bus) (g.O.OffChip.trace l.bus) l.fn.lines l.lines;
  told : TellsLog (length l.fn.lines.held) (g.O.OffChip.layout l.bus);
  fits : StampsFit l.stamps (history (g.O.OffChip.trace l.bus));
  sum : entry_sum l.written ≡ sum_of (value_under l.key) (open_writes (history (g.O.OffChip.trace l.bus)));
  same : g.O.OffChip.same_memory l.fn.bus l.bus;
  total : length (g.O.OffChip.trace l.bus) + g.O.OffChip.room l.bus ≡ length (g.O.OffChip.trace l.fn.bus) + g.O.OffChip.room l.fn.bus;
}
