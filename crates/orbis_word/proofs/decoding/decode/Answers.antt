use Rattle.orbis_word.proofs.WordLaws.{no_row}
use Rattle.orbis_word.proofs.decoding.decode.Goals as goal

pub returns-in-Some-clause-none : goal.returns-in-Some-clause-none
returns-in-Some-clause-none c =
    no_row c.args.word c.place.result c.in-Some.fields c.instruction_with.result c.in-Some.ensures.value c.place.ensures c.instruction_with.ensures.value
