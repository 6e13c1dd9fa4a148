use Rattle.std.proofs.Common.{◌+◌, ◌*◌, sym, arith}
use Rattle.line_cache.specs.LineOrder.{blocks_of}
use Rattle.line_cache.specs.EntryLaws.{is_in-line_of}
use Rattle.line_cache.proofs.SlotLemmas.{children_of, no_children}
use Rattle.line_cache.proofs.slots.Slots.holds_child.Goals as goal
use Rattle.line_cache.proofs.slots.Slots.holds_child.Goals.{then-is_some, else-is_some}

pub returns-then-block-gt-LAST_PARENT : goal.returns-then-block-gt-LAST_PARENT
returns-then-block-gt-LAST_PARENT c = record { value = rw (← c.self.view_is) (sym (no_children c.args.block c.self.inside.greatest c.self.inside.order.items c.self.invariant.bounded (omega arith))) }

pub returns-then-is_some-2 : goal.returns-then-is_some-2
returns-then-is_some-2 c =
    let held = c.args.self.now.held in
    let one = is_in-line_of (3 * c.args.block + 1) held in
    let two = is_in-line_of (3 * c.args.block + 2) held in
    let three = is_in-line_of (3 * c.args.block + 3) held in
    record { value = rw (children_of c.args.block (blocks_of held)) (elim c.if-is_some.branch [ then-is_some w ↦ grind arith | else-is_some w ↦ grind arith ]) }

pub returns-else-is_some-2 : goal.returns-else-is_some-2
returns-else-is_some-2 c =
    let held = c.args.self.now.held in
    let one = is_in-line_of (3 * c.args.block + 1) held in
    let two = is_in-line_of (3 * c.args.block + 2) held in
    let three = is_in-line_of (3 * c.args.block + 3) held in
    record { value = rw (children_of c.args.block (blocks_of held)) (elim c.if-is_some.branch [ then-is_some w ↦ grind arith | else-is_some w ↦ grind arith ]) }
