use Rattle.std.proofs.Common.{sym, ◌∙◌}
use Rattle.adversary_script.proofs.Numerals.{decimal_is_numeral}
use Rattle.adversary_script.proofs.fields.decimal.Goals as goal

pub value_of-requires-clause-numeral : goal.value_of-requires-clause-numeral
value_of-requires-clause-numeral c = decimal_is_numeral c.args.digits.now (sym c.is_decimal.ensures ∙ c.if-is_decimal.true)
