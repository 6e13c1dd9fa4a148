use Rattle.std.proofs.Common.{◌≡◌}
use Rattle.line_cache.specs.SlotLists.{slots_below}
use Rattle.line_cache.proofs.slots.Slots.new.Given as goal

abbrev pub invariant-loop-slot : goal.invariant-loop-slot
invariant-loop-slot l = l.free.items ≡ slots_below l.slot
