-- the list so far, and no more left than there was
use Rattle.std.proofs.Common.{◌≤◌, length}
use Rattle.aegis_num.specs.declared.limits.TheConstants.{MAX_BINARY_OPERATORS, MAX_NESTING}
use Rattle.c_descent.proofs.ProgramParser.{item_inside, items}
use Rattle.c_descent.proofs.ListParser.{is_left}
use Rattle.c_parser.proofs.Loops.{Grows}
use Rattle.c_reader.proofs.item.items.Given as goal

abbrev pub invariant-each : goal.invariant-each
invariant-each l = record {
  grows : Grows (items MAX_BINARY_OPERATORS MAX_NESTING l.fn.cursor) is_left (item_inside MAX_BINARY_OPERATORS MAX_NESTING) l.items l.cursor;
  fits : length l.cursor ≤ length l.fn.cursor;
}

abbrev pub decreases-each : goal.decreases-each
decreases-each l = length l.cursor
