use Rattle.std.proofs.Common.{◌≡◌, ◌∙◌, ap, sym, ◌+◌, suc, ◌++◌, take, drop, length, append_assoc, append-nil, arith}
use Rattle.c_semantics.specs.ResolvedTree as Tree
use Rattle.c_semantics.specs.ResolvedViews.{branch_of, part_of, stmt_of}
use Rattle.c_semantics.proofs.ViewForms.{stmt_of-Block, stmt_of-For}
use Rattle.c_resolver.specs.Resolving.{part_in, resolved}
use Rattle.c_resolver.specs.ResolvingViews.{body_declared, body_in, branch_declared, branch_in, stmts_then}
use Rattle.c_resolver.proofs.Rows.{body-at, body-end, declared-Block, declared-at, kept, resolved-Block, resolved-For, stmts-none, stmts-snoc}
use Rattle.c_resolver.proofs.statements.+resolve_statements.Goals as goal

pub statement-returns-in_ok-forget-in-Block-clause-at : goal.statement-returns-in_ok-forget-in-Block-clause-at
statement-returns-in_ok-forget-in-Block-clause-at t c =
    stmt_of-Block c.in_ok-body-in-Block.body
    ∙ ap (λ s. Tree.Block s) (c.in_ok-body-in-Block.ensures.at ∙ ap (λ ss. body_in c.args.functions.now ss c.args.names.now) c.as_slice.ensures)
    ∙ sym (ap (λ s. (resolved c.args.functions.now s).at c.args.names.now) c.in-Block.is ∙ resolved-Block c.args.functions.now c.in-Block.body c.in-Block.token c.args.names.now)

pub statement-returns-in_ok-forget-in-Block-clause-declared : goal.statement-returns-in_ok-forget-in-Block-clause-declared
statement-returns-in_ok-forget-in-Block-clause-declared t c =
    c.in_ok-forget-in-Block.ensures
    ∙ ap (λ n. take n c.statements.new.names) c.len-start.ensures
    ∙ ap (λ ds. take (length c.args.names.now) ds) c.in_ok-body-in-Block.ensures.declared
    ∙ kept c.args.names.now (body_declared c.args.functions.now c.as_slice.result.now)
    ∙ sym (append-nil c.args.names.now)
    ∙ ap (λ ds. c.args.names.now ++ ds) (sym (ap (λ s. (resolved c.args.functions.now s).declared) c.in-Block.is ∙ declared-Block c.args.functions.now c.in-Block.body c.in-Block.token))

pub statement-returns-in_ok-forget-in-For-clause-at : goal.statement-returns-in_ok-forget-in-For-clause-at
statement-returns-in_ok-forget-in-For-clause-at t c =
    let around = c.args.names.now ++ branch_declared c.args.functions.now c.in-For.first in
    let first : branch_of c.in_ok-first-in-For.first ≡ branch_in c.args.functions.now c.in-For.first c.args.names.now = c.in_ok-first-in-For.ensures.at in
    let test : part_of c.in_ok-test-in-For.test ≡ part_in c.args.functions.now c.in-For.test around =
    c.in_ok-test-in-For.ensures ∙ ap (part_in c.args.functions.now c.in-For.test) c.in_ok-first-in-For.ensures.declared in
    let step : branch_of c.in_ok-step-in-For.step ≡ branch_in c.args.functions.now c.in-For.step around =
    c.in_ok-step-in-For.ensures.at ∙ ap (branch_in c.args.functions.now c.in-For.step) c.in_ok-first-in-For.ensures.declared in
    let body : stmt_of c.in_ok-body-in-For.body ≡ (resolved c.args.functions.now c.in-For.body).at around =
    c.in_ok-body-in-For.ensures.at
    ∙ ap (λ s. (resolved c.args.functions.now s).at c.branch_inside-in-For.new.names) c.get-in-For.ensures
    ∙ ap (λ known. (resolved c.args.functions.now c.in-For.body).at known) (c.in_ok-step-in-For.ensures.same ∙ c.in_ok-first-in-For.ensures.declared) in
    stmt_of-For c.in_ok-first-in-For.first c.in_ok-test-in-For.test c.in_ok-step-in-For.step c.in_ok-body-in-For.body
    ∙ ap (λ s. Tree.For s (part_of c.in_ok-test-in-For.test) (branch_of c.in_ok-step-in-For.step) (stmt_of c.in_ok-body-in-For.body)) first
    ∙ ap (λ e. Tree.For (branch_in c.args.functions.now c.in-For.first c.args.names.now) e (branch_of c.in_ok-step-in-For.step) (stmt_of c.in_ok-body-in-For.body)) test
    ∙ ap (λ s. Tree.For (branch_in c.args.functions.now c.in-For.first c.args.names.now) (part_in c.args.functions.now c.in-For.test around) s (stmt_of c.in_ok-body-in-For.body)) step
    ∙ ap (λ s. Tree.For (branch_in c.args.functions.now c.in-For.first c.args.names.now) (part_in c.args.functions.now c.in-For.test around) (branch_in c.args.functions.now c.in-For.step around) s) body
    ∙ sym (ap (λ s. (resolved c.args.functions.now s).at c.args.names.now) c.in-For.is
    ∙ ap (λ r. r.at c.args.names.now) (resolved-For c.args.functions.now c.in-For.first c.in-For.test c.in-For.step c.in-For.body c.in-For.token))

pub statement-returns-in_ok-forget-in-For-clause-declared : goal.statement-returns-in_ok-forget-in-For-clause-declared
statement-returns-in_ok-forget-in-For-clause-declared t c =
    c.in_ok-forget-in-For.ensures
    ∙ ap (λ n. take n c.inside-in-For.new.names) c.len-outside.ensures
    ∙ ap (λ ds. take (length c.args.names.now) ds) (c.in_ok-body-in-For.ensures.same ∙ c.in_ok-step-in-For.ensures.same ∙ c.in_ok-first-in-For.ensures.declared)
    ∙ kept c.args.names.now (branch_declared c.args.functions.now c.in-For.first)
    ∙ sym (append-nil c.args.names.now)
    ∙ ap (λ ds. c.args.names.now ++ ds) (sym (ap (λ s. (resolved c.args.functions.now s).declared) c.in-For.is
    ∙ ap (λ r. r.declared) (resolved-For c.args.functions.now c.in-For.first c.in-For.test c.in-For.step c.in-For.body c.in-For.token)))

pub statements-loop-s-preserved : goal.statements-loop-s-preserved
statements-loop-s-preserved t c =
    let next : c.loop-s.s-index + 1 ≡ suc c.loop-s.s-index = omega arith in (
      c.loop-s.invariant.0
          ∙ ap (stmts_then c.loop-s.body) (body-at c.args.functions.now c.args.ss.now c.loop-s.s-index c.s-item.result c.loop-s.names c.loop-s-test.true c.s-item.is)
          ∙ ap (λ s. stmts_then c.loop-s.body (Tree.Then s (body_in c.args.functions.now (drop (suc c.loop-s.s-index) c.args.ss.now) (c.loop-s.names ++ (resolved c.args.functions.now c.s-item.result).declared)))) (sym c.in_ok-one.ensures.at)
          ∙ sym (stmts-snoc c.loop-s.body c.in_ok-one.one (body_in c.args.functions.now (drop (suc c.loop-s.s-index) c.args.ss.now) (c.loop-s.names ++ (resolved c.args.functions.now c.s-item.result).declared)))
          ∙ ap (λ xs. stmts_then xs (body_in c.args.functions.now (drop (suc c.loop-s.s-index) c.args.ss.now) (c.loop-s.names ++ (resolved c.args.functions.now c.s-item.result).declared))) (sym c.in_ok-push.ensures.ok)
          ∙ ap (λ known. stmts_then c.push.new.self (body_in c.args.functions.now (drop (suc c.loop-s.s-index) c.args.ss.now) known)) (sym c.in_ok-one.ensures.declared)
          ∙ ap (λ n. stmts_then c.push.new.self (body_in c.args.functions.now (drop n c.args.ss.now) c.statement.new.names)) (sym next),
      c.loop-s.invariant.1
          ∙ ap (λ ds. c.loop-s.names ++ ds) (declared-at c.args.functions.now c.args.ss.now c.loop-s.s-index c.s-item.result c.loop-s-test.true c.s-item.is)
          ∙ sym (append_assoc c.loop-s.names (resolved c.args.functions.now c.s-item.result).declared (body_declared c.args.functions.now (drop (suc c.loop-s.s-index) c.args.ss.now)))
          ∙ ap (λ known. known ++ body_declared c.args.functions.now (drop (suc c.loop-s.s-index) c.args.ss.now)) (sym c.in_ok-one.ensures.declared)
          ∙ ap (λ n. c.statement.new.names ++ body_declared c.args.functions.now (drop n c.args.ss.now)) (sym next),
    )

pub statements-returns-clause-at : goal.statements-returns-clause-at
statements-returns-clause-at t c =
    sym (c.loop-s.invariant.0
    ∙ ap (stmts_then c.loop-s.body) (body-end c.args.functions.now c.args.ss.now c.loop-s.s-index c.loop-s.names (omega (arith, c.loop-s-test.false)))
    ∙ stmts-none c.loop-s.body)
