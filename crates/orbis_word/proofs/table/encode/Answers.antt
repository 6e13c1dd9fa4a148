use Rattle.orbis_word.proofs.WordLaws.{instruction_in-encoding}
use Rattle.orbis_word.proofs.table.encode.Goals as goal

pub returns-clause-decoded : goal.returns-clause-decoded
returns-clause-decoded c =
    rw (c.table_row-row.ensures.fixed, c.place.ensures, c.table_row-row.ensures.fields) (instruction_in-encoding c.args.i c.requires)
