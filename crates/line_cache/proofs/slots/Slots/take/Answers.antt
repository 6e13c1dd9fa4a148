use Rattle.std.proofs.Common.{◌≡◌, length, None, Some, sym, ◌∙◌, arith, lit<}
use Rattle.line_cache.specs.LineOrder.{line_of, without}
use Rattle.line_cache.specs.EntryLaws.{length-without, line_of-without_other, line_of-missing, is_in-without_itself}
use Rattle.line_cache.proofs.SlotLemmas.{slot_count, AreApart-take, HasSlots-set, IsBounded-without, refilled}
use Rattle.line_cache.proofs.slots.Slots.take.Goals as goal

pub push-requires : goal.push-requires
push-requires c =
    let few = slot_count _ c.self.invariant.apart in
    let found : line_of c.args.block c.self.inside.order.items ≡ Some c.unwrap-slot.result = sym c.take_from.ensures.slot ∙ c.unwrap-slot.ensures in
    let fewer = length-without c.args.block c.self.inside.order.items c.unwrap-slot.result found in
    (lit< tt, omega arith)

pub invariant_of-self : goal.invariant_of-self
invariant_of-self c =
    let order = c.self.inside.order.items in
    let slot = c.unwrap-slot.result in
    let table = c.self.inside.table.items in
    let found : line_of c.args.block order ≡ Some slot = sym c.take_from.ensures.slot ∙ c.unwrap-slot.ensures in
    let same = c.take_from.ensures.order in
    let free = c.push.ensures.items in
    let set = rw c.deref_mut.ensures.value at c.set_slot.ensures in
    let kept = c.set_slot.auto.table in
    let size = c.deref_mut.ensures.len in
    let size' : length table ≡ c.self.inside.table.len = rw c.deref_mut.ensures.value at size in
    let whole = refilled c.self.inside.table.len c.set_slot.new.table table (omega arith) size' in
    let gone = line_of-missing c.args.block (without c.args.block order) (is_in-without_itself c.args.block order c.self.invariant.apart.blocks) in
    record {
      apart = rw (same, free) (AreApart-take c.args.block slot order c.self.inside.free.items found c.self.invariant.apart);
      table = rw (same, whole) (HasSlots-set 9841 c.args.block None table c.set_slot.new.table order (without c.args.block order) c.self.invariant.table_length c.self.invariant.table set.within set.past gone (λ other apart. line_of-without_other c.args.block other order apart));
      table_length = rw whole (let before = c.self.invariant.table_length in omega arith);
      bounded = rw same (IsBounded-without c.self.inside.greatest c.args.block order c.self.invariant.bounded);
    }
