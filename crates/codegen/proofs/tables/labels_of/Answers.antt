use Rattle.std.proofs.Common.{◌-◌, ◌∙◌, sym, ap, arith, cond, Bool, Some}
use Rattle.std.specs.Prelude.{nat_eq}
use Rattle.std.specs.HashMap.{get}
use Rattle.ir_code.specs.declared.Op.TheVariants.{Const}
use Rattle.ir_code.specs.FlatStates.{is_label}
use Rattle.codegen.proofs.LabelNumbers.{code_size-before, labels-more, not-label, nat_eq-sym}
use Rattle.codegen.proofs.tables.labels_of.Goals as goal

pub overflow_sub-number : goal.overflow_sub-number
overflow_sub-number c =
    let before = code_size-before c.args.ops.now (c.loop-place.place - 1) c.loop-place.place (Const 0 0) (omega (arith, c.loop-place-test.true)) c.loop-place.invariant.0 in
    omega (arith, before, c.loop-place.invariant.1, c.size_of-number.ensures.size)

pub loop-place-preserved-in_ok-insert : goal.loop-place-preserved-in_ok-insert
loop-place-preserved-in_ok-insert c =
    let before = code_size-before c.args.ops.now (c.loop-place.place - 1) c.loop-place.place (Const 0 0) (omega (arith, c.loop-place-test.true)) c.loop-place.invariant.0 in (
      omega (arith, c.loop-place.invariant.0),
      omega (arith, before, c.loop-place.invariant.1, c.size_of-number.ensures.size),
      (λ q. c.in_ok-insert.ensures.updates.0 q
          ∙ ap (λ (b : Bool). cond b (Some (c.loop-place.number - c.size_of-number.result)) (get nat_eq c.loop-place.numbers q))
          (nat_eq-sym c.in-Label.label q ∙ sym (ap (is_label q) c.in-Label.is))
          ∙ sym (labels-more c.args.ops.now (c.loop-place.place - 1) c.loop-place.place c.loop-place.number c.size_of-number.result (Const 0 0) (get nat_eq c.loop-place.numbers)
          (omega (arith, c.loop-place-test.true)) c.loop-place.invariant.0 c.size_of-number.ensures.size
          (omega (arith, before, c.loop-place.invariant.1, c.size_of-number.ensures.size)) c.loop-place.invariant.2 q)),
    )

pub loop-place-preserved : goal.loop-place-preserved
loop-place-preserved c =
    let before = code_size-before c.args.ops.now (c.loop-place.place - 1) c.loop-place.place (Const 0 0) (omega (arith, c.loop-place-test.true)) c.loop-place.invariant.0 in (
      omega (arith, c.loop-place.invariant.0),
      omega (arith, before, c.loop-place.invariant.1, c.size_of-number.ensures.size),
      (λ q. ap (λ (b : Bool). cond b (Some (c.loop-place.number - c.size_of-number.result)) (get nat_eq c.loop-place.numbers q)) (sym (not-label q _ c.in_default.not-Label))
          ∙ sym (labels-more c.args.ops.now (c.loop-place.place - 1) c.loop-place.place c.loop-place.number c.size_of-number.result (Const 0 0) (get nat_eq c.loop-place.numbers)
          (omega (arith, c.loop-place-test.true)) c.loop-place.invariant.0 c.size_of-number.ensures.size
          (omega (arith, before, c.loop-place.invariant.1, c.size_of-number.ensures.size)) c.loop-place.invariant.2 q)),
    )
