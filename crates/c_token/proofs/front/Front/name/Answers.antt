use Rattle.std.proofs.Common.{sym, ◌∙◌}
use Rattle.c_token.proofs.Names.{is_word_front, is_name_front, is_long_name}
use Rattle.c_token.proofs.front.Front.name.Goals as goal

pub returns-in-Some-clause-front : goal.returns-in-Some-clause-front
returns-in-Some-clause-front c =
    rw c.name_len-len.ensures.len
    (sym (is_word_front c.args.at c.args.text.now c.in-Some.word c.requires (rw (← c.name_len-len.ensures.len) (sym c.word_spelled.ensures ∙ c.in-Some.is))))

pub returns-then-len-gt-MAX_NAME_BYTES-clause-front : goal.returns-then-len-gt-MAX_NAME_BYTES-clause-front
returns-then-len-gt-MAX_NAME_BYTES-clause-front c =
    sym (is_long_name c.args.at c.args.text.now c.requires
    (rw (← c.name_len-len.ensures.len) (sym c.word_spelled.ensures ∙ c.in_default.is))
    (rw (← c.name_len-len.ensures.len) c.if-len-gt-MAX_NAME_BYTES.true))

pub returns-clause-front : goal.returns-clause-front
returns-clause-front c =
    rw (c.new.ensures, c.name_len-len.ensures.len)
    (sym (is_name_front c.args.at c.args.text.now c.requires
    (rw (← c.name_len-len.ensures.len) (sym c.word_spelled.ensures ∙ c.in_default.is))
    (rw (← c.name_len-len.ensures.len) c.if-len-gt-MAX_NAME_BYTES.false)))
