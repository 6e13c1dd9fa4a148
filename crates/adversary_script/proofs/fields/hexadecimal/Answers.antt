use Rattle.std.proofs.Common.{sym, ◌∙◌}
use Rattle.adversary_script.proofs.Numerals.{hexadecimal_is_numeral}
use Rattle.adversary_script.proofs.fields.hexadecimal.Goals as goal

pub value_of-requires-clause-numeral : goal.value_of-requires-clause-numeral
value_of-requires-clause-numeral c = hexadecimal_is_numeral c.args.digits.now (sym c.is_hexadecimal.ensures ∙ c.if-is_hexadecimal.true)
