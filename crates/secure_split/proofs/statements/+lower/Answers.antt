use Rattle.std.proofs.Common.{◌≡◌, ◌∙◌, ap, sym, subst, ◌+◌, ◌++◌, OnOk, arith}
use Rattle.c_semantics.specs.ResolvedTree as tree
use Rattle.c_semantics.specs.ResolvedViews.{expr_of, exprs_of, part_of, stmt_of, stmts_of}
use Rattle.c_semantics.proofs.ViewForms.{stmt_of-Assign, stmt_of-Block, stmt_of-Call, stmt_of-Local, stmt_of-Release, stmt_of-Store}
use Rattle.c_evaluator.proofs.Sizes.{stmt_size, statement-at}
use Rattle.lowering.specs.Lowering.{labels_within, statement_code}
use Rattle.secure_split.specs.SplitViews.{exits_of, scope_of}
use Rattle.secure_split.proofs.statements.+lower.Goals as goal

pub statement-statements-requires : goal.statement-statements-requires
statement-statements-requires t c =
    let size : stmt_size (stmt_of c.args.s.now) ≡ 2 + stmt_size (stmts_of c.as_slice.result.now) =
    ap (λ s. stmt_size (stmt_of s)) c.in-Block.is ∙ ap stmt_size (stmt_of-Block c.in-Block.body) ∙ ap (λ ss. 2 + stmt_size (stmts_of ss)) (sym c.as_slice.ensures) in
    (omega (arith, size, c.decreases), tt)

pub statement-returns-in-Block-clause-ops : goal.statement-returns-in-Block-clause-ops
statement-returns-in-Block-clause-ops t c =
    let form : stmt_of c.args.s.now ≡ tree.Block (stmts_of c.as_slice.result.now) =
    ap stmt_of c.in-Block.is ∙ stmt_of-Block c.in-Block.body ∙ ap (λ ss. tree.Block (stmts_of ss)) (sym c.as_slice.ensures) in
    subst (λ s. OnOk c.statements.result (c.statements.new.code.ops ≡ c.args.code.now.ops ++ statement_code (scope_of c.args.scope.now) (exits_of c.args.exits) c.args.r c.args.code.now.labels s)) (sym form) c.statements.ensures.ops

pub statement-returns-in-Block-clause-labels : goal.statement-returns-in-Block-clause-labels
statement-returns-in-Block-clause-labels t c =
    let form : stmt_of c.args.s.now ≡ tree.Block (stmts_of c.as_slice.result.now) =
    ap stmt_of c.in-Block.is ∙ stmt_of-Block c.in-Block.body ∙ ap (λ ss. tree.Block (stmts_of ss)) (sym c.as_slice.ensures) in
    subst (λ s. OnOk c.statements.result (c.statements.new.code.labels ≡ c.args.code.now.labels + labels_within s)) (sym form) c.statements.ensures.labels

pub statements-statement-requires : goal.statements-statement-requires
statements-statement-requires t c = (omega (arith, statement-at c.args.ss.now c.loop-s.s-index c.s-item.result c.s-item.is c.loop-s-test.true, c.decreases), tt)

pub statement-returns-in-Local-clause-ops : goal.statement-returns-in-Local-clause-ops
statement-returns-in-Local-clause-ops t c =
    let form : stmt_of c.args.s.now ≡ tree.Local c.in-Local.variable (part_of c.in-Local.value) =
    ap stmt_of c.in-Local.is ∙ stmt_of-Local c.in-Local.variable c.in-Local.value in
    subst (λ s. OnOk c.local.result (c.local.new.code.ops ≡ c.args.code.now.ops ++ statement_code (scope_of c.args.scope.now) (exits_of c.args.exits) c.args.r c.args.code.now.labels s)) (sym form)
    (c.local.ensures.ops (exits_of c.args.exits))

pub statement-returns-in-Assign-clause-ops : goal.statement-returns-in-Assign-clause-ops
statement-returns-in-Assign-clause-ops t c =
    let form : stmt_of c.args.s.now ≡ tree.Assign c.in-Assign.variable (expr_of c.in-Assign.value) =
    ap stmt_of c.in-Assign.is ∙ stmt_of-Assign c.in-Assign.variable c.in-Assign.value in
    subst (λ s. OnOk c.assign.result (c.assign.new.code.ops ≡ c.args.code.now.ops ++ statement_code (scope_of c.args.scope.now) (exits_of c.args.exits) c.args.r c.args.code.now.labels s)) (sym form)
    (c.assign.ensures.ops (exits_of c.args.exits))

pub statement-returns-in-Store-clause-ops : goal.statement-returns-in-Store-clause-ops
statement-returns-in-Store-clause-ops t c =
    let form : stmt_of c.args.s.now ≡ tree.Store c.in-Store.at c.in-Store.array c.in-Store.length (expr_of c.in-Store.index) (expr_of c.in-Store.value) =
    ap stmt_of c.in-Store.is ∙ stmt_of-Store c.in-Store.at c.in-Store.array c.in-Store.length c.in-Store.index c.in-Store.value in
    subst (λ s. OnOk c.store.result (c.store.new.code.ops ≡ c.args.code.now.ops ++ statement_code (scope_of c.args.scope.now) (exits_of c.args.exits) c.args.r c.args.code.now.labels s)) (sym form)
    (c.store.ensures.ops (exits_of c.args.exits))

pub statement-returns-in-Release-clause-ops : goal.statement-returns-in-Release-clause-ops
statement-returns-in-Release-clause-ops t c =
    let form : stmt_of c.args.s.now ≡ tree.Release (expr_of c.in-Release.value) =
    ap stmt_of c.in-Release.is ∙ stmt_of-Release c.in-Release.value in
    subst (λ s. OnOk c.release.result (c.release.new.code.ops ≡ c.args.code.now.ops ++ statement_code (scope_of c.args.scope.now) (exits_of c.args.exits) c.args.r c.args.code.now.labels s)) (sym form)
    (c.release.ensures.ops (exits_of c.args.exits))

pub statement-returns-in-Call-clause-ops : goal.statement-returns-in-Call-clause-ops
statement-returns-in-Call-clause-ops t c =
    let form : stmt_of c.args.s.now ≡ tree.Call c.in-Call.function (exprs_of c.as_slice-in-Call.result.now) =
    ap stmt_of c.in-Call.is ∙ stmt_of-Call c.in-Call.function c.in-Call.arguments ∙ ap (λ es. tree.Call c.in-Call.function (exprs_of es)) (sym c.as_slice-in-Call.ensures) in
    subst (λ s. OnOk c.call_alone.result (c.call_alone.new.code.ops ≡ c.args.code.now.ops ++ statement_code (scope_of c.args.scope.now) (exits_of c.args.exits) c.args.r c.args.code.now.labels s)) (sym form)
    (c.call_alone.ensures.ops (exits_of c.args.exits))
