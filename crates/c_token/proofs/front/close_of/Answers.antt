use Rattle.std.proofs.Common.{sym, ap, ◌∙◌}
use Rattle.std.specs.Prelude.{codes, nat_eq}
use Rattle.std.specs.List.{starts_with}
use Rattle.std.proofs.lemmas.List.{take_rest}
use Rattle.c_token.proofs.Cases.{close_of-more}
use Rattle.c_token.proofs.front.close_of.Goals as goal

pub loop-start-preserved : goal.loop-start-preserved
loop-start-preserved c =
    let text = c.args.text.now in
    let open_still = ap (λ rest. starts_with nat_eq rest (codes "*/")) (sym (take_rest text c.loop-start.start)) ∙ sym c.starts_with.ensures.value ∙ c.if-starts_with.false in
    close_of-more text c.loop-start.start c.loop-start-test.true open_still ∙ c.loop-start.invariant
