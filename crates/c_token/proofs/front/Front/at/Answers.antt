use Rattle.std.proofs.Common.{◌≡◌, sym, ap, ◌∙◌, false, get_or, Ok, refl}
use Rattle.c_token.specs.TokenSpelling.{is_token}
use Rattle.c_token.specs.TextTokens.{is_blank, begins_with, longest, gap, token_of_len, front_at}
use Rattle.c_token.proofs.Cases.{begins_with-first, front_is_blank, front_is_block, front_is_line, front_is_token}
use Rattle.c_token.proofs.front.Front.at.Goals as goal
use Rattle.c_token.proofs.front.Front.at.Goals.{After-is_blank, After-is_name_start}

-- what the test of the first byte says of the text
blank : (c : After-is_blank) → begins_with is_blank c.args.text.now ≡ c.is_blank.result
blank c = begins_with-first is_blank c.args.text.now (get_or c.args.text.now 0 0) c.requires refl ∙ sym c.is_blank.ensures

-- neither a blank nor a comment
token : (c : After-is_name_start) → begins_with is_blank c.args.text.now ≡ false → front_at c.args.at c.args.text.now ≡ token_of_len c.args.at c.args.text.now (longest is_token c.args.text.now)
token c no_blank =
    front_is_token c.args.at c.args.text.now no_blank (sym c.starts_with.ensures.value ∙ c.if-starts_with.false) (sym c.starts_with-2.ensures.value ∙ c.if-starts_with-2.false)

pub returns-then-is_blank-clause-front : goal.returns-then-is_blank-clause-front
returns-then-is_blank-clause-front c =
    sym (front_is_blank c.args.at c.args.text.now (blank (goal.at.returns-then-is_blank-clause-front c).After-is_blank ∙ c.if-is_blank.true))

pub returns-then-starts_with-clause-front : goal.returns-then-starts_with-clause-front
returns-then-starts_with-clause-front c =
    let no_blank = blank (goal.at.returns-then-starts_with-clause-front c).After-is_blank ∙ c.if-is_blank.false in
    c.block_comment.ensures.front ∙ sym (front_is_block c.args.at c.args.text.now no_blank (sym c.starts_with.ensures.value ∙ c.if-starts_with.true))

pub returns-then-starts_with-2-clause-front : goal.returns-then-starts_with-2-clause-front
returns-then-starts_with-2-clause-front c =
    let no_blank = blank (goal.at.returns-then-starts_with-2-clause-front c).After-is_blank ∙ c.if-is_blank.false in
    ap (λ n. Ok (gap n)) c.line_len.ensures.len
    ∙ sym (front_is_line c.args.at c.args.text.now no_blank (sym c.starts_with.ensures.value ∙ c.if-starts_with.false) (sym c.starts_with-2.ensures.value ∙ c.if-starts_with-2.true))

pub returns-then-is_name_start-clause-front : goal.returns-then-is_name_start-clause-front
returns-then-is_name_start-clause-front c =
    let path = goal.at.returns-then-is_name_start-clause-front c in
    c.name.ensures.front ∙ sym (token path.After-is_name_start (blank path.After-is_blank ∙ c.if-is_blank.false))

pub returns-then-is_ascii_digit-clause-front : goal.returns-then-is_ascii_digit-clause-front
returns-then-is_ascii_digit-clause-front c =
    let path = goal.at.returns-then-is_ascii_digit-clause-front c in
    c.number.ensures.front ∙ sym (token path.After-is_name_start (blank path.After-is_blank ∙ c.if-is_blank.false))

pub returns-clause-front : goal.returns-clause-front
returns-clause-front c =
    let path = goal.at.returns-clause-front c in
    c.sign.ensures.front ∙ sym (token path.After-is_name_start (blank path.After-is_blank ∙ c.if-is_blank.false))
