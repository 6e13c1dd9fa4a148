use Rattle.std.proofs.Common.{◌<◌, ◌+◌, ◌∷◌, length, take, drop, eqb, sym, ap, ◌∙◌, arith}
use Rattle.std.specs.List.{position_or_len}
use Rattle.std.specs.Str.Lines.{lines, strip_carriage_return}
use Rattle.std.proofs.lemmas.List.{take_rest, drop_all}
use Rattle.adversary_script.proofs.Lines.{lines_first, lines_last}
use Rattle.adversary_script.proofs.reading.first_line.Goals as goal

pub returns-then-len-text-clause-line : goal.returns-then-len-text-clause-line
returns-then-len-text-clause-line c =
    let text = c.args.text.now in
    let none = take_rest text c.line_len-len.result ∙ drop_all c.line_len-len.result text (omega arith) in
    lines_last text c.requires (sym c.line_len-len.ensures.len ∙ c.if-len-text.true)
    ∙ ap (λ further. text ∷ lines further) (sym none)

pub returns-clause-line : goal.returns-clause-line
returns-clause-line c =
    let text = c.args.text.now in
    let found : position_or_len (λ b. eqb b 10) text < length text = omega (arith, c.line_len-len.ensures.len, c.line_len-len.ensures.within, c.if-len-text.false) in
    lines_first text found
    ∙ ap (λ n. strip_carriage_return (take n text) ∷ lines (drop (n + 1) text)) (sym c.line_len-len.ensures.len)
    ∙ ap (λ line. line ∷ lines (drop (c.line_len-len.result + 1) text)) (sym c.without_return.ensures)
    ∙ ap (λ further. c.without_return.result.now ∷ lines further) (sym (take_rest text (c.line_len-len.result + 1)))
