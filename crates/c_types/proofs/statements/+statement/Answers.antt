use Rattle.std.proofs.Common.{◌≡◌, ◌∙◌, ap, ◌+◌, ◌++◌, drop, refl}
use Rattle.c_types.specs.Sites.{inner_scope, place_after}
use Rattle.c_types.specs.Walks.{place_of, declared_in, branch_sites}
use Rattle.c_types.proofs.Noted.{behind_step, body_step, if_parts, while_parts, for_parts, for_names}
use Rattle.c_types.proofs.statements.+statement.Goals as goal

pub statement-returns-in_ok-branch_inside-in-If-clause-sites :
    goal.statement-returns-in_ok-branch_inside-in-If-clause-sites
statement-returns-in_ok-branch_inside-in-If-clause-sites t c =
    let place = place_of c.args.names.now c.args.context in
    let third = rw c.in_ok-inside-in-If.ensures.declared at c.in_ok-branch_inside-in-If.ensures.sites in
    rw (c.in-If.is, ← c.get.ensures) (if_parts c.args.verdict.now c.expression-in-If.new.verdict c.inside.new.verdict c.branch_inside.new.verdict place c.in-If.test c.get.result.now c.in-If.other c.in-If.token
    c.expression-in-If.ensures c.in_ok-inside-in-If.ensures.sites third)

pub statement-returns-in_ok-repeated-in-While-clause-sites :
    goal.statement-returns-in_ok-repeated-in-While-clause-sites
statement-returns-in_ok-repeated-in-While-clause-sites t c =
    let place = place_of c.args.names.now c.args.context in
    rw (c.in-While.is, ← c.get-in-While.ensures) (while_parts c.args.verdict.now c.expression-in-While.new.verdict c.repeated.new.verdict place c.in-While.test c.get-in-While.result.now c.in-While.token
    c.expression-in-While.ensures c.in_ok-repeated-in-While.ensures.sites)

pub statement-returns-in_ok-forget-in-For-clause-declared :
    goal.statement-returns-in_ok-forget-in-For-clause-declared
statement-returns-in_ok-forget-in-For-clause-declared t c =
    let after : c.repeated-in-For.new.names ≡ c.args.names.now ++ (branch_sites c.in-For.first).declared =
    c.in_ok-repeated-in-For.ensures.declared ∙ c.in_ok-branch_inside-in-For.ensures.declared ∙ c.in_ok-branch-in-For.ensures.declared in
    rw c.in-For.is (c.in_ok-forget-in-For.ensures
    ∙ for_names c.args.names.now c.repeated-in-For.new.names c.in-For.first c.in-For.step c.in-For.test c.in-For.body c.in-For.token c.len-in-For.result c.len-in-For.ensures after)

pub statement-returns-in_ok-forget-in-For-clause-sites :
    goal.statement-returns-in_ok-forget-in-For-clause-sites
statement-returns-in_ok-forget-in-For-clause-sites t c =
    let place = place_of c.args.names.now c.args.context in
    let around = place_after (branch_sites c.in-For.first).declared (inner_scope place) in
    let first = rw c.len-in-For.ensures at c.in_ok-branch-in-For.ensures.sites in
    let test = rw c.in_ok-branch-in-For.ensures.declared at c.part.ensures in
    let step = rw c.in_ok-branch-in-For.ensures.declared at c.in_ok-branch_inside-in-For.ensures.sites in
    let body = rw (c.in_ok-branch_inside-in-For.ensures.declared, c.in_ok-branch-in-For.ensures.declared) at c.in_ok-repeated-in-For.ensures.sites in
    rw (c.in-For.is, ← c.get-in-For.ensures) (for_parts c.args.verdict.now c.branch-names.new.verdict c.part.new.verdict c.branch_inside-in-For.new.verdict c.repeated-in-For.new.verdict
    place around c.in-For.first c.in-For.step c.in-For.test c.get-in-For.result.now c.in-For.token refl first test step body)

pub statements-loop-s-preserved : goal.statements-loop-s-preserved
statements-loop-s-preserved t c = record {
  declared =
      ap (λ names. names ++ declared_in (drop (c.loop-s.s-index + 1) c.args.all.now)) c.in_ok-statement.ensures.declared
      ∙ behind_step c.loop-s.names c.args.all.now c.loop-s.s-index c.s-item.result c.loop-s-test.true c.s-item.is
      ∙ c.loop-s.invariant.declared;
  sites = rw (c.in_ok-statement.ensures.declared, c.in_ok-statement.ensures.sites)
      (body_step c.loop-s.verdict c.args.all.now c.loop-s.s-index c.s-item.result (place_of c.loop-s.names c.args.context) c.loop-s-test.true c.s-item.is
      ∙ c.loop-s.invariant.sites);
}
