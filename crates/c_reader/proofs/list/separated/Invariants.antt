-- the list so far, and no more left than there was
use Rattle.std.proofs.Common.{◌<◌, length}
use Rattle.c_token.specs.declared.signs.Sign.TheVariants.{Comma}
use Rattle.c_descent.proofs.ListParser.{is_at_sign, separated, after_comma}
use Rattle.c_parser.proofs.Loops.{Grows}
use Rattle.c_reader.proofs.list.separated.Given as goal

abbrev pub invariant-each : goal.invariant-each
invariant-each g l = record {
  grows : Grows (separated g.P.Part.parser l.fn.cursor) (is_at_sign Comma) (after_comma g.P.Part.parser) l.parts l.cursor;
  fits : length l.cursor < length l.fn.cursor;
}

abbrev pub decreases-each : goal.decreases-each
decreases-each g l = length l.cursor
