use Rattle.std.proofs.Common.{sym, ◌∙◌, arith}
use Rattle.c_token.proofs.SignFronts.{IsOther, sign_of_two, sign_of_one, sign_of_none}
use Rattle.c_token.proofs.front.Front.sign.Goals as goal
use Rattle.c_token.proofs.front.Front.sign.Goals.{then-text-gt1+in_default, else-text-gt1}

pub returns-in-Some-clause-front : goal.returns-in-Some-clause-front
returns-in-Some-clause-front c =
    let other : IsOther c.args.text.now = record { some = c.requires.some; no_name = c.requires.no_name; no_number = c.requires.no_number } in
    sym (sign_of_two c.args.at c.args.text.now c.in-Some.sign other c.if-text-gt1.true (sym c.sign_spelled.ensures ∙ c.in-Some.is))

pub returns-in-Some-sign_spelled-clause-front : goal.returns-in-Some-sign_spelled-clause-front
returns-in-Some-sign_spelled-clause-front c =
    let other : IsOther c.args.text.now = record { some = c.requires.some; no_name = c.requires.no_name; no_number = c.requires.no_number } in
    sym (sign_of_one c.args.at c.args.text.now c.in-Some-sign_spelled.sign other
    (elim c.if-text-gt1.branch [ then-text-gt1+in_default w ↦ λ _. sym w.sign_spelled.ensures ∙ w.in_default.is | else-text-gt1 w ↦ λ more. absurd (omega arith) ])
    (sym c.sign_spelled-2.ensures ∙ c.in-Some-sign_spelled.is))

pub returns-in-None-clause-front : goal.returns-in-None-clause-front
returns-in-None-clause-front c =
    let other : IsOther c.args.text.now = record { some = c.requires.some; no_name = c.requires.no_name; no_number = c.requires.no_number } in
    sym (sign_of_none c.args.at c.args.text.now other
    (elim c.if-text-gt1.branch [ then-text-gt1+in_default w ↦ λ _. sym w.sign_spelled.ensures ∙ w.in_default.is | else-text-gt1 w ↦ λ more. absurd (omega arith) ])
    (sym c.sign_spelled-2.ensures ∙ c.in-None.is))
