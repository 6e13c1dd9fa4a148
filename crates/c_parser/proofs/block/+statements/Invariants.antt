-- The levels that are left bound the depth: within one level each function calls those of lower numbers.
use Rattle.std.proofs.Common.{◌≤◌, ◌+◌, ◌*◌, length}
use Rattle.aegis_num.specs.declared.limits.TheConstants.{MAX_BINARY_OPERATORS}
use Rattle.c_descent.proofs.StatementParser.{block_goes_on, entry, entries, statement}
use Rattle.c_parser.proofs.Loops.{Grows}
use Rattle.c_parser.proofs.block.+statements.Given as goal

abbrev pub decreases-statement : goal.decreases-statement
decreases-statement l = 16 * l.levels + 4

abbrev pub decreases-statement_inside : goal.decreases-statement_inside
decreases-statement_inside l = 16 * l.levels + 10

abbrev pub decreases-block : goal.decreases-block
decreases-block l = 16 * l.levels + 9

abbrev pub decreases-braced : goal.decreases-braced
decreases-braced l = 16 * l.levels + 8

abbrev pub decreases-entries : goal.decreases-entries
decreases-entries l = 16 * l.levels + 7

abbrev pub decreases-entry : goal.decreases-entry
decreases-entry l = 16 * l.levels + 6

abbrev pub decreases-conditional : goal.decreases-conditional
decreases-conditional l = 16 * l.levels + 9

abbrev pub decreases-optional_else : goal.decreases-optional_else
decreases-optional_else l = 16 * l.levels + 8

abbrev pub decreases-while_loop : goal.decreases-while_loop
decreases-while_loop l = 16 * l.levels + 9

abbrev pub decreases-for_loop : goal.decreases-for_loop
decreases-for_loop l = 16 * l.levels + 9

-- the list so far, and no more left than there was
abbrev pub invariant-entries-each : goal.invariant-entries-each
invariant-entries-each l = record {
  grows : Grows (entries MAX_BINARY_OPERATORS l.levels (statement MAX_BINARY_OPERATORS l.levels) l.fn.cursor)
      block_goes_on (entry MAX_BINARY_OPERATORS l.levels (statement MAX_BINARY_OPERATORS l.levels)) l.trees l.cursor;
  fits : length l.cursor ≤ length l.fn.cursor;
}

abbrev pub decreases-entries-each : goal.decreases-entries-each
decreases-entries-each l = length l.cursor
