use Rattle.std.proofs.Common.{◌≡◌, ◌∙◌, ap, ◌-◌, ◌<◌, drop, length, arith}
use Rattle.c_semantics.specs.ResolvedTree as tree
use Rattle.c_semantics.specs.ResolvedViews.{expr_of, exprs_of}
use Rattle.c_evaluator.proofs.Sizes.{argument-at}
use Rattle.lowering.specs.Cells.{room_of, room_of_all}
use Rattle.secure_split.proofs.Lists.{exprs-before}
use Rattle.secure_split.proofs.rooms.+rooms.Goals as goal

pub room_of_all-room_of-requires : goal.room_of_all-room_of-requires
room_of_all-room_of-requires t c =
    let below : c.loop-left.left - 1 < length c.args.es.now = omega (arith, c.loop-left.invariant.0, c.loop-left-test.true) in
    (omega (arith, argument-at c.args.es.now (c.loop-left.left - 1) c.index-es-left.result c.index-es-left.is below, c.decreases), tt)

pub room_of_all-loop-left-preserved : goal.room_of_all-loop-left-preserved
room_of_all-loop-left-preserved t c =
    let below : c.loop-left.left - 1 < length c.args.es.now = omega (arith, c.loop-left.invariant.0, c.loop-left-test.true) in
    let shape : exprs_of (drop (c.loop-left.left - 1) c.args.es.now) ≡ tree.Argument (expr_of c.index-es-left.result) (exprs_of (drop c.loop-left.left c.args.es.now)) =
    exprs-before c.args.es.now c.loop-left.left c.index-es-left.result c.loop-left-test.true below c.index-es-left.is in
    let room : c.loop-left.room ≡ room_of_all (exprs_of (drop c.loop-left.left c.args.es.now)) = c.loop-left.invariant.1 in
    let own : c.in_ok-own.own ≡ room_of (expr_of c.index-es-left.result) = c.in_ok-own.ensures in
    (omega (arith, below), rw shape (omega (arith, room, own, c.in_ok-next.ensures, c.max-room.ensures)))

pub room_of_all-returns : goal.room_of_all-returns
room_of_all-returns t c =
    let done : c.loop-left.left ≡ 0 = omega (arith, c.loop-left-test.false) in
    c.loop-left.invariant.1 ∙ ap (λ n. room_of_all (exprs_of (drop n c.args.es.now))) done
