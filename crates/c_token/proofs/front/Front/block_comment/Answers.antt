use Rattle.std.proofs.Common.{sym, ap, ◌∙◌}
use Rattle.std.proofs.lemmas.List.{take_rest}
use Rattle.c_token.specs.TextTokens.{close_of}
use Rattle.c_token.proofs.Cases.{block_is_closed, block_is_open}
use Rattle.c_token.proofs.front.Front.block_comment.Goals as goal

pub returns-in-Some-clause-front : goal.returns-in-Some-clause-front
returns-in-Some-clause-front c =
    let text = c.args.text.now in
    sym (block_is_closed c.args.at text c.in-Some.len (ap close_of (sym (take_rest text 2)) ∙ sym c.close_of.ensures.len ∙ c.in-Some.is))

pub returns-in-None-clause-front : goal.returns-in-None-clause-front
returns-in-None-clause-front c =
    let text = c.args.text.now in
    sym (block_is_open c.args.at text (ap close_of (sym (take_rest text 2)) ∙ sym c.close_of.ensures.len ∙ c.in-None.is))
