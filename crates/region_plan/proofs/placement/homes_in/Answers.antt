use Rattle.std.proofs.Common.{◌≡◌, ℕ, ◌+◌, ◌*◌, ◌∙◌, ap, subst, sym, arith, length, get_or, take, List}
use Rattle.ir_code.specs.declared.code.Cell.{Cell}
use Rattle.region_plan.specs.Homes.{class_words, home_address}
use Rattle.region_plan.proofs.HomeLaws.{IsNext, next-of, HasHomesOf, HasHomesOf-push, words_for-le}
use Rattle.region_plan.proofs.placement.homes_in.Goals as goal
use Rattle.region_plan.proofs.placement.homes_in.Goals.{After-count_of}

next : (c : After-count_of) → IsNext c.args.layout.now c.args.ir.now c.loop-cell.cell-index c.cell-item.result
next c =
    next-of c.args.layout.now c.args.ir.now c.args.code_blocks c.loop-cell.cell-index c.cell-item.result c.requires.sizes c.requires.data
    (omega (arith, ap length c.as_slice-cell-items.ensures, c.loop-cell-test.true))
    (c.cell-item.is ∙ ap (λ (cells : List Cell). get_or cells c.loop-cell.cell-index c.cell-item.result) c.as_slice-cell-items.ensures)

-- how many words of its class come before the cell
before : (c : After-count_of) → c.count_of.result ≡ class_words c.cell-item.result.class (take c.loop-cell.cell-index c.args.ir.now.cells)
before c = c.count_of.ensures ∙ c.loop-cell.invariant.1 c.cell-item.result.class (next c).data_class

pub overflow_cast-count_of : goal.overflow_cast-count_of
overflow_cast-count_of c = let n = next (goal.at.overflow_cast-count_of c).After-count_of in omega (arith, n.below, before (goal.at.overflow_cast-count_of c).After-count_of)

pub loop-cell-preserved : goal.loop-cell-preserved
loop-cell-preserved c =
    let at = (goal.at.loop-cell-preserved c).After-count_of in
    let n = next at in
    let home : c.start_for.result + 4 * c.count_of.result ≡ home_address c.args.layout.now c.args.ir.now c.loop-cell.cell-index =
    omega (arith, n.home, before at, c.start_for.ensures) in (
      subst (λ (homes : List ℕ). HasHomesOf c.args.layout.now c.args.ir.now homes (c.loop-cell.cell-index + 1)) (sym c.in_ok-push.ensures.items)
          (HasHomesOf-push c.args.layout.now c.args.ir.now c.loop-cell.homes.items c.loop-cell.cell-index _ c.loop-cell.invariant.0 home),
      (λ class no_code. omega (arith, c.add.ensures class, n.more class, c.loop-cell.invariant.1 class no_code)),
      (λ class. omega (arith, c.add.ensures class, c.loop-cell.invariant.2 class, words_for-le class c.cell-item.result)),
    )
