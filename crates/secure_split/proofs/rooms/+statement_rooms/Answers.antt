use Rattle.std.proofs.Common.{◌≡◌, ◌∙◌, ap, ◌-◌, ◌<◌, drop, length, arith}
use Rattle.c_semantics.specs.ResolvedTree as tree
use Rattle.c_semantics.specs.ResolvedViews.{branch_of, part_of, stmt_of, stmts_of}
use Rattle.c_semantics.proofs.ViewForms.{stmt_of-For}
use Rattle.c_evaluator.proofs.Sizes.{statement-at}
use Rattle.lowering.specs.Cells.{room_in, room_of_part}
use Rattle.secure_split.proofs.Lists.{stmts-before}
use Rattle.secure_split.proofs.rooms.+statement_rooms.Goals as goal

pub room_in-returns-in_ok-body-in-For : goal.room_in-returns-in_ok-body-in-For
room_in-returns-in_ok-body-in-For t c =
    let form : stmt_of c.args.s.now ≡ tree.For (branch_of c.in-For.first) (part_of c.in-For.test) (branch_of c.in-For.step) (stmt_of c.in-For.body) =
    ap stmt_of c.in-For.is ∙ stmt_of-For c.in-For.first c.in-For.test c.in-For.step c.in-For.body in
    let first : c.in_ok-first-in-For.first ≡ room_in (branch_of c.in-For.first) = c.in_ok-first-in-For.ensures in
    let test : c.in_ok-test-in-For.test ≡ room_of_part (part_of c.in-For.test) = c.in_ok-test-in-For.ensures in
    let step : c.in_ok-step-in-For.step ≡ room_in (branch_of c.in-For.step) = c.in_ok-step-in-For.ensures in
    let body : c.in_ok-body-in-For.body ≡ room_in (stmt_of c.in-For.body) = c.in_ok-body-in-For.ensures ∙ ap (λ s. room_in (stmt_of s)) c.get-in-For.ensures in
    rw form (omega (arith, first, test, step, body, c.max-in-For.ensures, c.max-in-For-2.ensures, c.max-in-For-3.ensures))

pub room_in_all-room_in-requires : goal.room_in_all-room_in-requires
room_in_all-room_in-requires t c =
    let below : c.loop-left.left - 1 < length c.args.ss.now = omega (arith, c.loop-left.invariant.0, c.loop-left-test.true) in
    (omega (arith, statement-at c.args.ss.now (c.loop-left.left - 1) c.index-ss-left.result c.index-ss-left.is below, c.decreases), tt)

pub room_in_all-loop-left-preserved : goal.room_in_all-loop-left-preserved
room_in_all-loop-left-preserved t c =
    let below : c.loop-left.left - 1 < length c.args.ss.now = omega (arith, c.loop-left.invariant.0, c.loop-left-test.true) in
    let shape : stmts_of (drop (c.loop-left.left - 1) c.args.ss.now) ≡ tree.Then (stmt_of c.index-ss-left.result) (stmts_of (drop c.loop-left.left c.args.ss.now)) =
    stmts-before c.args.ss.now c.loop-left.left c.index-ss-left.result c.loop-left-test.true below c.index-ss-left.is in
    let room : c.loop-left.room ≡ room_in (stmts_of (drop c.loop-left.left c.args.ss.now)) = c.loop-left.invariant.1 in
    let own : c.in_ok-own.own ≡ room_in (stmt_of c.index-ss-left.result) = c.in_ok-own.ensures in
    (omega (arith, below), rw shape (omega (arith, room, own, c.max-room.ensures)))
