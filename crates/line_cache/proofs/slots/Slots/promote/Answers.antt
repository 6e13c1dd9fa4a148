use Rattle.std.proofs.Common.{◌≡◌, ℕ, List, ◌∷◌, sym, ap, ◌∙◌, arith, lit<}
use Rattle.line_cache.specs.LineOrder.{promoted}
use Rattle.line_cache.specs.EntryLaws.{length-without, without-missing, promoted-missing, promoted-found}
use Rattle.line_cache.proofs.SlotLemmas.{slot_count, AreApart-promoted, HasSlots-promoted, IsBounded-promoted}
use Rattle.line_cache.proofs.slots.Slots.promote.Goals as goal

pub insert-requires : goal.insert-requires
insert-requires c =
    let few = slot_count _ c.self.invariant.apart in
    let fewer = length-without c.args.block c.self.inside.order.items c.in-Some.slot (sym c.in-Some.ensures.slot) in
    rw c.take_from.ensures.order (lit< tt, (omega arith, omega arith))

pub invariant_of-self : goal.invariant_of-self
invariant_of-self c =
    let order = c.self.inside.order.items in
    let same : c.insert.new.self.items ≡ promoted c.args.block order = c.insert.ensures.items ∙ ap (λ (rest : List (ℕ × ℕ)). (c.args.block, c.in-Some.slot) ∷ rest) c.take_from.ensures.order ∙ sym (promoted-found c.args.block c.in-Some.slot order (sym c.in-Some.ensures.slot)) in
    record {
      apart = rw same (AreApart-promoted c.args.block order c.self.inside.free.items c.self.invariant.apart);
      table = rw same (HasSlots-promoted 9841 c.args.block c.self.inside.table.items order c.self.invariant.table);
      table_length = c.self.invariant.table_length;
      bounded = rw same (IsBounded-promoted c.self.inside.greatest c.args.block order c.self.invariant.bounded);
    }

pub invariant_of-self-in_default : goal.invariant_of-self-in_default
invariant_of-self-in_default c =
    let order = c.self.inside.order.items in
    let same : c.take_from.new.order.items ≡ order = c.take_from.ensures.order ∙ without-missing c.args.block order (sym c.in_default.ensures.slot) in
    record {
      apart = rw same c.self.invariant.apart;
      table = rw same c.self.invariant.table;
      table_length = c.self.invariant.table_length;
      bounded = rw same c.self.invariant.bounded;
    }

pub returns-in_default-clause-held : goal.returns-in_default-clause-held
returns-in_default-clause-held c =
    let order = c.self.inside.order.items in
    rw (← c.self.view_is) (c.take_from.ensures.order ∙ without-missing c.args.block order (sym c.in_default.ensures.slot) ∙ sym (promoted-missing c.args.block order (sym c.in_default.ensures.slot)))
