use Rattle.std.proofs.Common.{◌≡◌, [], ◌∷◌, ◌++◌, length, None, Some, arith}
use Rattle.std.proofs.lemmas.Bool.Decides.{nat_tests}
use Rattle.line_cache.specs.LineOrder.{line_of}
use Rattle.line_cache.specs.SlotLists.{AreApart}
use Rattle.line_cache.proofs.SlotLemmas.{slot_count, AreApart-add, HasSlots-set, IsBounded-add, line_of-add, line_of-add_other, refilled}
use Rattle.line_cache.proofs.slots.Slots.add.Goals as goal

pub unwrap-slot-requires : goal.unwrap-slot-requires
unwrap-slot-requires c =
    let few = slot_count _ c.self.invariant.apart in
    let room = rw (← c.self.view_is) at c.requires.room in
    c.pop.ensures.variant.1 (grind (arith, nat_tests))

pub invariant_of-self : goal.invariant_of-self
invariant_of-self c =
    let order = c.self.inside.order.items in
    let slot = c.unwrap-slot.result in
    let table = c.self.inside.table.items in
    let absent : line_of c.args.block order ≡ None = rw (← c.self.view_is) at c.requires.absent in
    let free : c.self.inside.free.items ≡ c.pop.new.self.items ++ slot ∷ [] = rw c.unwrap-slot.ensures at c.pop.ensures.items in
    let same : c.insert.new.self.items ≡ (c.args.block, slot) ∷ order = c.insert.ensures.items in
    let apart : AreApart (record { held = order; free = c.pop.new.self.items ++ slot ∷ [] }) = rw (← free) c.self.invariant.apart in
    let set = rw c.deref_mut.ensures.value at c.set_slot.ensures in
    let kept = c.set_slot.auto.table in
    let size = c.deref_mut.ensures.len in
    let size' : length table ≡ c.self.inside.table.len = rw c.deref_mut.ensures.value at size in
    let whole = refilled c.self.inside.table.len c.set_slot.new.table table (omega arith) size' in
    record {
      apart = rw same (AreApart-add c.args.block slot order c.pop.new.self.items absent apart);
      table = rw (same, whole) (HasSlots-set 9841 c.args.block (Some slot) table c.set_slot.new.table order ((c.args.block, slot) ∷ order) c.self.invariant.table_length c.self.invariant.table set.within set.past (line_of-add c.args.block slot order) (λ other apart. line_of-add_other c.args.block slot other order apart));
      table_length = rw whole (let before = c.self.invariant.table_length in omega arith);
      bounded = rw same (IsBounded-add c.self.inside.greatest c.max-self-inside.result c.args.block slot order c.self.invariant.bounded (omega arith) (omega arith));
    }
