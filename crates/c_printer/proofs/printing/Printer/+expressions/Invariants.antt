use Rattle.std.proofs.Common.{◌≡◌, ◌++◌, drop}
use Rattle.std.specs.Prelude.{map}
use Rattle.c_printer.specs.PrintedTokens.{expr_kinds, with_commas}
use Rattle.c_printer.specs.PrintedParts.{spaced_tokens, parts_from}
use Rattle.c_printer.proofs.printing.Printer.+expressions.Given as goal

abbrev pub invariant-arguments-loop-i : goal.invariant-arguments-loop-i
invariant-arguments-loop-i l =
    l.self.text.items ++ spaced_tokens (parts_from l.i (map expr_kinds (drop l.i l.arguments)))
    ≡ l.initial.self.text.items ++ spaced_tokens (with_commas (map expr_kinds l.arguments))
