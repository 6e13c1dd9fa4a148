use Rattle.std.proofs.Common.{◌≡◌, ◌+◌, ◌-◌, true, drop, take, sym, ap, ◌∙◌, subst, arith}
use Rattle.std.specs.Str.Parse.{IsNumeral}
use Rattle.std.specs.List.{prefix_len}
use Rattle.std.specs.Char.{is_ascii_digit, is_ascii_hexdigit}
use Rattle.std.proofs.lemmas.List.{take_rest}
use Rattle.std.proofs.lemmas.Bool.{and_parts}
use Rattle.c_token.specs.TextTokens.{begins_with}
use Rattle.c_token.specs.Fronts.{number_at}
use Rattle.c_token.proofs.Numbers.{number-decimal, number-hexadecimal}
use Rattle.c_token.proofs.NumberReads.{decimal_is_numeral, hexadecimal_is_numeral}
use Rattle.c_token.proofs.front.Front.number.Goals as goal
use Rattle.c_token.proofs.front.Front.number.Goals.{After-hexadecimal_len-end}

-- the digits after the prefix
digits : (c : After-hexadecimal_len-end) → c.hexadecimal_len-end.result ≡ prefix_len is_ascii_hexdigit (drop 2 c.args.text.now)
digits c = c.hexadecimal_len-end.ensures.len ∙ ap (prefix_len is_ascii_hexdigit) (take_rest c.args.text.now 2)

pub number_in-requires-clause-numeral : goal.number_in-requires-clause-numeral
number_in-requires-clause-numeral c =
    let text = c.args.text.now in
    let d = prefix_len is_ascii_hexdigit (drop 2 text) in
    let count : 2 + c.hexadecimal_len-end.result - 2 ≡ d = omega (arith, digits c) in
    let begins : begins_with is_ascii_hexdigit (drop 2 text) ≡ true = (and_parts _ _ (sym c.begins_hexadecimal.ensures ∙ c.if-begins_hexadecimal.true)).1 in
    subst (λ n. IsNumeral 16 (take n (drop 2 text))) (sym count) (hexadecimal_is_numeral (drop 2 text) begins)

pub number_in-requires-else-begins_hexadecimal-clause-numeral :
    goal.number_in-requires-else-begins_hexadecimal-clause-numeral
number_in-requires-else-begins_hexadecimal-clause-numeral c =
    let text = c.args.text.now in
    let count : c.decimal_len-end.result - 0 ≡ prefix_len is_ascii_digit text = omega (arith, c.decimal_len-end.ensures.len) in
    subst (λ n. IsNumeral 10 (take n text)) (sym count) (decimal_is_numeral text c.requires)

pub returns-then-begins_hexadecimal-clause-front :
    goal.returns-then-begins_hexadecimal-clause-front
returns-then-begins_hexadecimal-clause-front c =
    let text = c.args.text.now in
    let begins = sym c.begins_hexadecimal.ensures ∙ c.if-begins_hexadecimal.true in
    let at_end = ap (λ d. number_at c.args.at text 16 2 (2 + d)) (digits (goal.at.returns-then-begins_hexadecimal-clause-front c).After-hexadecimal_len-end) in
    c.number_in.ensures.front ∙ at_end ∙ sym (number-hexadecimal c.args.at text begins)

pub returns-else-begins_hexadecimal-clause-front :
    goal.returns-else-begins_hexadecimal-clause-front
returns-else-begins_hexadecimal-clause-front c =
    let text = c.args.text.now in
    let none = sym c.begins_hexadecimal.ensures ∙ c.if-begins_hexadecimal.false in
    let at_end = ap (number_at c.args.at text 10 0) c.decimal_len-end.ensures.len in
    c.number_in-else-begins_hexadecimal.ensures.front ∙ at_end ∙ sym (number-decimal c.args.at text c.requires none)
