use Rattle.std.proofs.Common.{◌≡◌, ◌+◌, ◌<◌, ◌∙◌, sym, ap, subst, Some, None, arith, take}
use Rattle.std.specs.Prelude.{slice_get}
use Rattle.std.specs.Option.{option_copied}
use Rattle.c_semantics.specs.States as states
use Rattle.c_semantics.specs.ResolvedTree as stmt
use Rattle.c_semantics.specs.Meaning.{value, meaning, loop, given, result_of}
use Rattle.c_semantics.specs.ResolvedViews.{expr_of, exprs_of, stmt_of, stmts_of, branch_of, part_of}
use Rattle.c_semantics.proofs.ViewForms.{expr_of-Called, stmt_of-Block, stmt_of-While, stmt_of-For}
use Rattle.c_evaluator.specs.Calls.{callable, one_turn}
use Rattle.c_evaluator.specs.MachineStates.{bare, seen, flow_of, Does, DoesFlow}
use Rattle.std.proofs.lemmas.Grind.{common_steps}
use Rattle.c_evaluator.proofs.Ends.{stays-over}
use Rattle.c_evaluator.proofs.Callable.{callable-none, callable-some}
use Rattle.c_evaluator.proofs.Sizes.{expr_size, arguments_size, stmt_size, functions_size, statement-at, argument-at, body-smaller}
use Rattle.c_evaluator.proofs.evaluate.+run.Goals as goal

pub call-returns-in-None : goal.call-returns-in-None
call-returns-in-None t c = record { does = callable-none c.args.functions.now c.args.number c.args.words.now (seen c.args.machine.now) (sym c.at.ensures ∙ ap option_copied c.in-None.is) }

pub call-statements-requires : goal.call-statements-requires
call-statements-requires t c =
    let found : slice_get c.args.functions.now c.args.number ≡ Some c.in-Some.function.now = sym c.at.ensures ∙ ap option_copied c.in-Some.is in
    let smaller : functions_size (take c.args.number c.args.functions.now) + stmt_size (stmts_of c.in-Some.function.now.body) < functions_size c.args.functions.now = body-smaller c.args.functions.now c.args.number c.in-Some.function.now found in
    let body : stmt_size (stmts_of c.as_slice-in-Some.result.now) ≡ stmt_size (stmts_of c.in-Some.function.now.body) = ap (λ ss. stmt_size (stmts_of ss)) c.as_slice-in-Some.ensures in
    (omega (arith, smaller, body, c.decreases), tt)

pub call-returns-in_err-flow-in-Some : goal.call-returns-in_err-flow-in-Some
call-returns-in_err-flow-in-Some t c =
    let found : slice_get c.args.functions.now c.args.number ≡ Some c.in-Some.function.now = sym c.at.ensures ∙ ap option_copied c.in-Some.is in
    let ready : given bare c.in-Some.function.now.parameters c.args.words.now (seen c.args.machine.now) ≡ seen c.give.new.machine =
    ap (λ xs. given bare xs c.args.words.now (seen c.args.machine.now)) (sym c.as_slice.ensures)
    ∙ sym c.in_ok-give-in-Some.ensures.given in
    let whole : callable c.args.functions.now c.args.number c.args.words.now (seen c.args.machine.now)
    ≡ states.then (meaning bare (callable (take c.args.number c.args.functions.now)) (stmts_of c.as_slice-in-Some.result.now) (seen c.give.new.machine)) (λ flow s. states.GoesOn (result_of flow) s) =
    callable-some c.args.functions.now c.args.number c.in-Some.function.now c.args.words.now (seen c.args.machine.now) found
    ∙ ap (λ s. states.then (meaning bare (callable (take c.args.number c.args.functions.now)) (stmts_of c.in-Some.function.now.body) s) (λ flow s'. states.GoesOn (result_of flow) s')) ready
    ∙ ap (λ ss. states.then (meaning bare (callable (take c.args.number c.args.functions.now)) (stmts_of ss) (seen c.give.new.machine)) (λ flow s'. states.GoesOn (result_of flow) s')) (sym c.as_slice-in-Some.ensures) in
    record { does = grind (arith, common_steps, whole, stays-over, c.in_err-flow-in-Some.ensures.does) }

pub call-returns-in_ok-flow-in-Some : goal.call-returns-in_ok-flow-in-Some
call-returns-in_ok-flow-in-Some t c =
    let found : slice_get c.args.functions.now c.args.number ≡ Some c.in-Some.function.now = sym c.at.ensures ∙ ap option_copied c.in-Some.is in
    let ready : given bare c.in-Some.function.now.parameters c.args.words.now (seen c.args.machine.now) ≡ seen c.give.new.machine =
    ap (λ xs. given bare xs c.args.words.now (seen c.args.machine.now)) (sym c.as_slice.ensures)
    ∙ sym c.in_ok-give-in-Some.ensures.given in
    let whole : callable c.args.functions.now c.args.number c.args.words.now (seen c.args.machine.now)
    ≡ states.then (meaning bare (callable (take c.args.number c.args.functions.now)) (stmts_of c.as_slice-in-Some.result.now) (seen c.give.new.machine)) (λ flow s. states.GoesOn (result_of flow) s) =
    callable-some c.args.functions.now c.args.number c.in-Some.function.now c.args.words.now (seen c.args.machine.now) found
    ∙ ap (λ s. states.then (meaning bare (callable (take c.args.number c.args.functions.now)) (stmts_of c.in-Some.function.now.body) s) (λ flow s'. states.GoesOn (result_of flow) s')) ready
    ∙ ap (λ ss. states.then (meaning bare (callable (take c.args.number c.args.functions.now)) (stmts_of ss) (seen c.give.new.machine)) (λ flow s'. states.GoesOn (result_of flow) s')) (sym c.as_slice-in-Some.ensures) in
    record {
      does = whole ∙ ap (λ o. states.then o (λ flow s. states.GoesOn (result_of flow) s)) c.in_ok-flow-in-Some.ensures.does
          ∙ ap (λ r. states.GoesOn (result_of (flow_of r c.in_ok-flow-in-Some.flow)) (seen c.statements.new.machine)) (sym c.returned.ensures)
          ∙ ap (λ v. states.GoesOn v (seen c.statements.new.machine)) (sym c.result_of.ensures);
    }

pub statement-block-requires : goal.statement-block-requires
statement-block-requires t c =
    let size : stmt_size (stmt_of c.args.s.now) ≡ 2 + stmt_size (stmts_of c.as_slice.result.now) =
    ap (λ s. stmt_size (stmt_of s)) c.in-Block.is ∙ ap stmt_size (stmt_of-Block c.in-Block.body) ∙ ap (λ ss. 2 + stmt_size (stmts_of ss)) (sym c.as_slice.ensures) in
    (omega (arith, size, c.decreases), tt)

pub statement-returns-in-Block : goal.statement-returns-in-Block
statement-returns-in-Block t c =
    let form : stmt_of c.args.s.now ≡ stmt.Block (stmts_of c.in-Block.body) = ap stmt_of c.in-Block.is ∙ stmt_of-Block c.in-Block.body in
    record { does = grind (arith, form, c.as_slice.ensures, c.block.ensures.does) }

pub statement-returns-in-While : goal.statement-returns-in-While
statement-returns-in-While t c =
    let form : stmt_of c.args.s.now ≡ stmt.While (expr_of c.in-While.test) (stmt_of c.in-While.body) = ap stmt_of c.in-While.is ∙ stmt_of-While c.in-While.test c.in-While.body in
    record {
      does = subst (λ st. DoesFlow (meaning bare (callable c.args.functions.now) st (seen c.args.machine.now)) c.repeat.result c.repeat.new.machine) (sym form)
          (subst (λ body. DoesFlow (loop (one_turn c.args.functions.now (Some c.in-While.test) None body) (seen c.args.machine.now)) c.repeat.result c.repeat.new.machine) c.get-in-While.ensures c.repeat.ensures.does);
    }

pub statement-returns-in-For : goal.statement-returns-in-For
statement-returns-in-For t c =
    let form : stmt_of c.args.s.now ≡ stmt.For (branch_of c.in-For.first) (part_of c.in-For.test) (branch_of c.in-For.step) (stmt_of c.in-For.body) =
    ap stmt_of c.in-For.is ∙ stmt_of-For c.in-For.first c.in-For.test c.in-For.step c.in-For.body in
    record {
      does = subst (λ st. DoesFlow (meaning bare (callable c.args.functions.now) st (seen c.args.machine.now)) c.for_loop.result c.for_loop.new.machine) (sym form)
          (subst (λ body. DoesFlow (meaning bare (callable c.args.functions.now) (stmt.For (branch_of c.in-For.first) (part_of c.in-For.test) (branch_of c.in-For.step) (stmt_of body)) (seen c.args.machine.now)) c.for_loop.result c.for_loop.new.machine) c.get-in-For.ensures
          (subst (λ test. DoesFlow (meaning bare (callable c.args.functions.now) (stmt.For (branch_of c.in-For.first) (part_of test) (branch_of c.in-For.step) (stmt_of c.get-in-For.result.now)) (seen c.args.machine.now)) c.for_loop.result c.for_loop.new.machine) c.as_ref.ensures.value c.for_loop.ensures.does));
    }

pub statements-statement-requires : goal.statements-statement-requires
statements-statement-requires t c = (omega (arith, statement-at c.args.ss.now c.loop-s.s-index c.s-item.result c.s-item.is c.loop-s-test.true, c.decreases), tt)

pub value_of_form-call_for_value-requires : goal.value_of_form-call_for_value-requires
value_of_form-call_for_value-requires t c =
    let size : expr_size (expr_of c.args.e.now) ≡ 3 + arguments_size (exprs_of c.as_slice.result.now) =
    ap (λ e. expr_size (expr_of e)) c.in-Called.is ∙ ap expr_size (expr_of-Called c.in-Called.function c.in-Called.arguments) ∙ ap (λ es. 3 + arguments_size (exprs_of es)) (sym c.as_slice.ensures) in
    (omega (arith, size, c.decreases), tt)

pub value_of_form-returns-in-Called : goal.value_of_form-returns-in-Called
value_of_form-returns-in-Called t c =
    let form : expr_of c.args.e.now ≡ stmt.Called c.in-Called.function (exprs_of c.as_slice.result.now) =
    ap expr_of c.in-Called.is ∙ expr_of-Called c.in-Called.function c.in-Called.arguments ∙ ap (λ es. stmt.Called c.in-Called.function (exprs_of es)) (sym c.as_slice.ensures) in
    record {
      does = subst (λ e. Does (value bare (callable c.args.functions.now) e (seen c.args.machine.now)) c.call_for_value.result c.call_for_value.new.machine) (sym form) c.call_for_value.ensures.does;
    }

pub values_of-value_of-requires : goal.values_of-value_of-requires
values_of-value_of-requires t c = (omega (arith, argument-at c.args.es.now c.loop-e.e-index c.e-item.result c.e-item.is c.loop-e-test.true, c.decreases), tt)
