use Rattle.std.proofs.Common.{◌≡◌, Some}
use Rattle.scripted_dram.proofs.tests.call_all.Given as goal

-- the layout stays the one that is told
abbrev pub invariant-loop-event : goal.invariant-loop-event
invariant-loop-event g l = g.M.OffChip.layout l.memory ≡ Some l.layout
