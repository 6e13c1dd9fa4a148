use Rattle.std.proofs.Common.{None, Some, refl}
use Rattle.line_cache.proofs.slots.empty_table.Goals as goal

pub returns : goal.returns
returns c = c.in_ok-vec.ensures.items_if_clones_equal (elim [ None ↦ λ h. refl | Some x ↦ λ h. absurd h ])
