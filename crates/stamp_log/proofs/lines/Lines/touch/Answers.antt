use Rattle.std.proofs.Common.{rules, ◌≡◌, ◌+◌, ◌==◌, ◌++◌, ◌∷◌, ◌<◌, [], List, ℕ, ◌∙◌, ap, sym, subst, arith, Bool, true, cond, length}
use Rattle.std.specs.Prelude.{nat_lt, is_ok, vec_capacity, vec_len}
use Rattle.std.specs.List.{list_any, list_all, remove}
use Rattle.stamp_log.proofs.LineLemmas.{any-moved, all-moved}
use Rattle.stamp_log.proofs.lines.Lines.touch.Goals as goal

pub invariant_of-self : goal.invariant_of-self
invariant_of-self c =
    let order : List ℕ = c.self.inside.order.items in
    let room : vec_len c.remove-block.new.self < vec_capacity c.remove-block.new.self =
    omega (arith, c.self.invariant.room, c.self.invariant.few, c.remove-block.ensures.len, c.remove-block.ensures.capacity) in
    let ok : is_ok c.push.result ≡ true = c.push.ensures.succeeds room in
    let items : c.push.new.self.items ≡ remove order c.in-Some.place ++ c.remove-block.result ∷ [] =
    c.push.ensures.items
    ∙ ap (λ (b : Bool). cond b (c.remove-block.new.self.items ++ c.remove-block.result ∷ []) c.remove-block.new.self.items) ok
    ∙ ap (λ (xs : List ℕ). xs ++ c.remove-block.result ∷ []) c.remove-block.ensures.items in
    let less : c.in-Some.place < length order = search rules in
    let long : vec_len c.push.new.self ≡ vec_len c.remove-block.new.self + 1 =
    c.push.ensures.len ∙ ap (λ (b : Bool). cond b (vec_len c.remove-block.new.self + 1) (vec_len c.remove-block.new.self)) ok in
    record {
      room = omega (arith, c.self.invariant.room, c.push.ensures.capacity, c.remove-block.ensures.capacity);
      few = omega (arith, long, c.remove-block.ensures.len, c.self.invariant.few);
      size = c.self.invariant.size;
      listed = λ n held. subst (λ (xs : List ℕ). list_any (λ m. m == n) xs ≡ true) (sym items)
          (any-moved (λ m. m == n) order c.in-Some.place c.remove-block.result less c.remove-block.ensures.value (c.self.invariant.listed n held));
      below = subst (λ (xs : List ℕ). list_all (λ m. nat_lt m (length c.self.inside.payloads.items)) xs ≡ true) (sym items)
          (all-moved (λ m. nat_lt m (length c.self.inside.payloads.items)) order c.in-Some.place c.remove-block.result less c.remove-block.ensures.value c.self.invariant.below);
    }
