use Rattle.std.proofs.Common.{take}
use Rattle.region_plan.specs.Counted.{CountsCells, IsWithin}
use Rattle.region_plan.proofs.counts.counts_of.Given as goal

abbrev pub invariant-loop-cell : goal.invariant-loop-cell
invariant-loop-cell l = CountsCells l.counts (take l.cell-index l.cells) × IsWithin l.counts l.cell-index
