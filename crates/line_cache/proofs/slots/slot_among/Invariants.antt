use Rattle.std.proofs.Common.{◌≡◌, drop}
use Rattle.line_cache.specs.LineOrder.{line_of}
use Rattle.line_cache.proofs.slots.slot_among.Given as goal

abbrev pub invariant-loop-held : goal.invariant-loop-held
invariant-loop-held l = line_of l.block l.order ≡ line_of l.block (drop l.held-index l.order)
