use Rattle.std.proofs.Common.{is_ok, ap}
use Rattle.aegis_words.proofs.NumberWordLemmas.{number_parses}
use Rattle.aegis_words.proofs.digits.number_of.Goals as goal

pub unwrap-requires : goal.unwrap-requires
unwrap-requires c = ap is_ok (number_parses c.args.word.now c.parse.result c.parse.ensures.value.0 c.requires)
