use Rattle.std.proofs.Common.{◌≡◌, ◌++◌, drop}
use Rattle.std.specs.Prelude.{map}
use Rattle.c_printer.specs.PrintedTokens.{value_kinds, with_commas}
use Rattle.c_printer.specs.PrintedParts.{spaced_tokens, parts_from}
use Rattle.c_printer.proofs.printing.Printer.listed_values.Given as goal

abbrev pub invariant-loop-i : goal.invariant-loop-i
invariant-loop-i l =
    l.self.text.items ++ spaced_tokens (parts_from l.i (map value_kinds (drop l.i l.values)))
    ≡ l.initial.self.text.items ++ spaced_tokens (with_commas (map value_kinds l.values))
