use Rattle.std.proofs.Common.{◌≡◌, ℕ, nat_eq, slice_index_or, sym, ◌∙◌}
use Rattle.line_cache.specs.EntryLaws.{lookup-no_position, remove_entry-no_position, remove-position, lookup-position}
use Rattle.line_cache.proofs.slots.take_from.Goals as goal

pub returns-in_err-at-clause-slot : goal.returns-in_err-at-clause-slot
returns-in_err-at-clause-slot c = c.from_residual.ensures ∙ sym (rw c.as_slice.ensures.value at (lookup-no_position {X = ℕ} (nat_eq c.args.block) c.as_slice.result.now (sym c.place_of.ensures ∙ c.in_err-at.was)))

pub returns-in_err-at-clause-order : goal.returns-in_err-at-clause-order
returns-in_err-at-clause-order c = sym (rw c.as_slice.ensures.value at (remove_entry-no_position {X = ℕ} (nat_eq c.args.block) c.as_slice.result.now (sym c.place_of.ensures ∙ c.in_err-at.was)))

pub returns-clause-slot : goal.returns-clause-slot
returns-clause-slot c =
    let own : c.remove.result ≡ slice_index_or c.as_slice.result.now c.in_ok-at.at c.remove.result = rw c.as_slice.ensures.value c.remove.ensures.value in
    sym (rw c.as_slice.ensures.value at (lookup-position {X = ℕ} (nat_eq c.args.block) c.as_slice.result.now c.in_ok-at.at c.remove.result (sym c.place_of.ensures ∙ c.in_ok-at.was) own))

pub returns-clause-order : goal.returns-clause-order
returns-clause-order c = c.remove.ensures.items ∙ (rw c.as_slice.ensures.value at (remove-position {X = ℕ} (nat_eq c.args.block) c.as_slice.result.now c.in_ok-at.at (sym c.place_of.ensures ∙ c.in_ok-at.was)))
