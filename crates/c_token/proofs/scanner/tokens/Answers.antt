use Rattle.std.proofs.Common.{◌≤◌, length, vec_len, drop, sym, ap, ◌∙◌, arith}
use Rattle.std.proofs.lemmas.Result.{err_from_is_err_and}
use Rattle.std.proofs.lemmas.List.{take_rest, length-drop}
use Rattle.c_token.specs.TextTokens.{tokens_of, front_at}
use Rattle.c_token.proofs.Scan.{told_after_gap, told_after_token, told_fault, told_end}
use Rattle.c_token.proofs.scanner.tokens.Goals as goal
use Rattle.c_token.proofs.scanner.tokens.Goals.{in-Some+in_ok-push, in_default}

pub returns-in_err-kind-clause-fault : goal.returns-in_err-kind-clause-fault
unfolding tokens_of
returns-in_err-kind-clause-fault c =
    let text = c.args.text.now in
    let p = err_from_is_err_and c.from_residual.result c.from_residual.ensures.1 in
    let found = ap (front_at c.each.at) (sym (take_rest text c.each.at)) ∙ sym c.in_err-kind.ensures.front in
    rw (p.1, p.2) (λ _. told_fault text c.each.at c.each.tokens.items c.each.invariant.told c.in_err-kind.field-0.0 c.each-test.true found)

pub each-preserved : goal.each-preserved
each-preserved c =
    let text = c.args.text.now in
    let found = ap (front_at c.each.at) (sym (take_rest text c.each.at)) ∙ sym c.in_ok-kind.ensures.front in
    let within : c.in_ok-kind.field-0.len ≤ length (drop c.each.at text) = omega (arith, ap length (take_rest text c.each.at), c.in_ok-kind.ensures.within.1) in
    record {
      within = omega (arith, length-drop c.each.at text);
      count = elim c.match-kind.branch [
        | in-Some+in_ok-push w ↦ omega (arith, ap vec_len w.tokens-is, w.in_ok-push.ensures.len, c.in_ok-kind.ensures.within.0)
        | in_default w ↦ omega (arith, ap vec_len w.tokens-is)
      ];
      told = elim c.match-kind.branch [
        | in-Some+in_ok-push w ↦
            rw (ap (λ v. v.items) w.tokens-is ∙ w.in_ok-push.ensures.items)
            (told_after_token text c.each.at c.each.tokens.items c.each.invariant.told c.in_ok-kind.field-0 w.in-Some.kind
            c.in_ok-kind.ensures.within.0 within found w.in-Some.is)
        | in_default w ↦
            rw (ap (λ v. v.items) w.tokens-is)
            (told_after_gap text c.each.at c.each.tokens.items c.each.invariant.told c.in_ok-kind.field-0
            c.in_ok-kind.ensures.within.0 within found w.in_default.is)
      ];
    }

pub returns-clause-tokens : goal.returns-clause-tokens
unfolding tokens_of
returns-clause-tokens c =
    told_end c.args.text.now c.each.at c.each.tokens.items c.each.invariant.told c.each-test.false
