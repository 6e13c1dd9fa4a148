use Rattle.std.proofs.Common.{take}
use Rattle.region_plan.specs.Counted.{CountsCells, IsWithin}
use Rattle.region_plan.proofs.HomeLaws.{HasHomesOf}
use Rattle.region_plan.proofs.placement.homes_in.Given as goal

abbrev pub invariant-loop-cell : goal.invariant-loop-cell
invariant-loop-cell l =
    HasHomesOf l.layout l.ir l.homes.items l.cell-index × CountsCells l.before (take l.cell-index l.ir.cells) × IsWithin l.before l.cell-index
