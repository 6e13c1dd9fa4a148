use Rattle.std.proofs.Common.{◌∙◌}
use Rattle.adversary_script.proofs.Numerals.{digits_are_ok, text_is_same, parsed}
use Rattle.adversary_script.proofs.fields.value_of.Goals as goal

pub unwrap-digits-requires : goal.unwrap-digits-requires
unwrap-digits-requires c = digits_are_ok c.args.base c.args.digits.now c.from_utf8.result c.requires.base_below c.requires.numeral c.from_utf8.ensures.cases

pub returns : goal.returns
returns c =
    c.ok.ensures.value
    ∙ parsed c.args.base c.args.digits.now c.unwrap-digits.result.now c.from_str_radix.result c.requires.base_below c.requires.numeral
    (text_is_same c.from_utf8.result c.args.digits.now c.unwrap-digits.result c.from_utf8.ensures.cases c.unwrap-digits.ensures) c.from_str_radix.ensures.value
