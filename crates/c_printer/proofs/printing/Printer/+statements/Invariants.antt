use Rattle.std.proofs.Common.{◌≡◌, ◌++◌, drop}
use Rattle.std.specs.Prelude.{map}
use Rattle.c_printer.specs.PrintedTokens.{stmt_kinds, in_a_row}
use Rattle.c_printer.specs.PrintedParts.{spaced_tokens}
use Rattle.c_printer.proofs.printing.Printer.+statements.Given as goal

abbrev pub invariant-block-loop-stmt : goal.invariant-block-loop-stmt
invariant-block-loop-stmt l =
    l.self.text.items ++ spaced_tokens (in_a_row (map stmt_kinds (drop l.stmt-index l.body)))
    ≡ l.initial.self.text.items ++ spaced_tokens (in_a_row (map stmt_kinds l.body))
