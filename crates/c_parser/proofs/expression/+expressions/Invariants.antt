-- The levels that are left bound the depth: within one level each function calls those of lower numbers.
use Rattle.std.proofs.Common.{◌≤◌, ◌+◌, ◌*◌, ◌<◌, length}
use Rattle.aegis_num.specs.declared.limits.TheConstants.{MAX_BINARY_OPERATORS}
use Rattle.c_token.specs.declared.signs.Sign.TheVariants.{Comma}
use Rattle.c_descent.proofs.ListParser.{is_at_sign, separated, after_comma}
use Rattle.c_descent.proofs.ExpressionParser.{chained, binary_expression, unary_expression, expression_at}
use Rattle.c_parser.proofs.Loops.{Grows, Chains}
use Rattle.c_parser.proofs.expression.+expressions.Given as goal

abbrev pub decreases-expression : goal.decreases-expression
decreases-expression l = 64 * l.levels + 55

abbrev pub decreases-binary : goal.decreases-binary
decreases-binary l = 64 * l.levels + (4 * l.rank + 14)

abbrev pub decreases-chained : goal.decreases-chained
decreases-chained l = 64 * l.levels + (4 * l.rank + 17)

abbrev pub decreases-joined : goal.decreases-joined
decreases-joined l = 64 * l.levels + (4 * l.rank + 16)

abbrev pub decreases-unary : goal.decreases-unary
decreases-unary l = 64 * l.levels + 13

abbrev pub decreases-signed : goal.decreases-signed
decreases-signed l = 64 * l.levels + 12

abbrev pub decreases-primary : goal.decreases-primary
decreases-primary l = 64 * l.levels + 12

abbrev pub decreases-named : goal.decreases-named
decreases-named l = 64 * l.levels + 11

abbrev pub decreases-after_name : goal.decreases-after_name
decreases-after_name l = 64 * l.levels + 10

abbrev pub decreases-called : goal.decreases-called
decreases-called l = 64 * l.levels + 9

abbrev pub decreases-indexed : goal.decreases-indexed
decreases-indexed l = 64 * l.levels + 9

abbrev pub decreases-paren : goal.decreases-paren
decreases-paren l = 64 * l.levels + 8

abbrev pub decreases-subscript : goal.decreases-subscript
decreases-subscript l = 64 * l.levels + 8

abbrev pub decreases-arguments : goal.decreases-arguments
decreases-arguments l = 64 * l.levels + 8

abbrev pub decreases-listed : goal.decreases-listed
decreases-listed l = 64 * l.levels + 58

abbrev pub decreases-separated : goal.decreases-separated
decreases-separated l = 64 * l.levels + 57

abbrev pub decreases-after_comma : goal.decreases-after_comma
decreases-after_comma l = 64 * l.levels + 56

-- the outcome so far, and no more left than there was
abbrev pub invariant-chained-each : goal.invariant-chained-each
invariant-chained-each l = record {
  chains : Chains
      (chained MAX_BINARY_OPERATORS (binary_expression MAX_BINARY_OPERATORS (unary_expression MAX_BINARY_OPERATORS l.levels) l.rank) (l.rank + 1)
      l.initial.left l.initial.cursor)
      MAX_BINARY_OPERATORS (binary_expression MAX_BINARY_OPERATORS (unary_expression MAX_BINARY_OPERATORS l.levels) l.rank) (l.rank + 1) l.left l.cursor;
  fits : length l.cursor ≤ length l.initial.cursor;
}

abbrev pub decreases-chained-each : goal.decreases-chained-each
decreases-chained-each l = length l.cursor

abbrev pub invariant-separated-each : goal.invariant-separated-each
invariant-separated-each l = record {
  grows : Grows (separated (expression_at MAX_BINARY_OPERATORS l.levels) l.fn.cursor)
      (is_at_sign Comma) (after_comma (expression_at MAX_BINARY_OPERATORS l.levels)) l.trees l.cursor;
  fits : length l.cursor < length l.fn.cursor;
}

abbrev pub decreases-separated-each : goal.decreases-separated-each
decreases-separated-each l = length l.cursor
